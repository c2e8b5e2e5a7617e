-- What the numbers of a verdict say.
use Rattle.std.proofs.Common.{◌≡◌, ◌<◌, ◌≤◌, arith}
use Rattle.simplex_types.specs.declared.types.messages.Proposal.{Proposal}
use Rattle.simplex_codec.specs.declared.digest.BytesDigest.{BytesDigest}
use Rattle.simplex_resolver.specs.Steps.{highest_named}
use Rattle.ffi_member.specs.declared.resolver_types.FlatResolverReply.{FlatResolverReply}
use Rattle.ffi_member.specs.Calls.{IsFlatProposal}
use Rattle.ffi_member.specs.Numbers.{verdict_number}
use Rattle.ffi_member.specs.ResolverHandles.{IsValidCall, highest_passed}

-- each of them is one
pub is_received_verdict : (f : FlatResolverReply) → f.kind ≡ verdict_number → f.success < 2
    → 1 ≤ f.proposal.round.view → IsValidCall f
is_received_verdict f kind success view = (omega (arith, kind), omega (arith, kind), success, view)

-- the highest view that is named
pub highest_of_verdict : (f : FlatResolverReply) (q : Proposal (BytesDigest 32)) → f.kind ≡ verdict_number
    → IsFlatProposal f.proposal q → highest_passed f ≡ highest_named q
highest_of_verdict f q kind is = grind (arith, kind, is.round, is.parent)
