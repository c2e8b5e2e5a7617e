-- A report that is taken returns its effects.
use Rattle.std.proofs.Common.{◌≡◌, ℕ, ◌≤◌, Bool, true, false, cond, List, [], ◌∷◌, Result, Ok, Err, IfOk, OnOk, Vec, Global, refl, arith}
use Rattle.std.proofs.Math.Nat.{lt_irrefl, max-eq_left}
use Rattle.simplex_types.specs.declared.types.numbers.Round.{Round}
use Rattle.simplex_types.specs.declared.types.messages.Proposal.{Proposal}
use Rattle.simplex_types.specs.declared.types.plain.PlainDigest.{PlainDigest}
use Rattle.simplex_types.specs.Certificates.{Nullified}
use Rattle.simplex_types.specs.Plain.{digest_bytes}
use Rattle.simplex_resolver.specs.declared.resolver.effect.Effect.{Effect}
use Rattle.simplex_resolver.specs.Facts.{ResolverFacts}
use Rattle.simplex_resolver.specs.Steps.{Call, after, effects, highest_named, update, verdict}
use Rattle.simplex_resolver.specs.Repair.{IsApplied}
use Rattle.simplex_program.specs.declared.resolver.Answer.{Answer}
use Rattle.simplex_program.specs.declared.resolver.Answer.TheVariants.{Effects}
use Rattle.simplex_program.specs.ResolverReplies.{Reports, IsProposedAt, nullification_call, verdict_call}
use Rattle.simplex_program.specs.Plain.{round_in_epoch}

-- `made` is the call that was made, `call` the line's call
pub reported : {E : Type 0} (r : Result Answer E) (x y : ResolverFacts) (fetching left : List ℕ) (v : ℕ)
    (made call : Call) (es : Vec Effect Global) → 1 ≤ v → made ≡ call → x.is_failed ≡ false → es.items ≡ effects x made
    → y ≡ after x made → IfOk r (λ a. a ≡ Effects es) → OnOk r (IsApplied fetching es.items left)
    → IfOk r (λ a. Reports x fetching v call a y left)
reported (Err e) x y fetching left v made call es above same live replied is answer applied = tt
reported (Ok a) x y fetching left v made call es above same live replied is answer applied =
    rw (answer, ← same) ((λ zero. absurd (lt_irrefl _ (rw zero at above))), (λ _. (live, replied, is, applied)))

-- a line's proposal names no view above its own
pub named_at : (v : ℕ) (p : Proposal PlainDigest) → IsProposedAt v p → highest_named p ≡ v
named_at v p at = rw (at.round, at.parent) (max-eq_left (omega arith))

pub same_verdict : (v : ℕ) (success : Bool) (p : Proposal PlainDigest) (good : Bool) → IsProposedAt v p → good ≡ true
    → verdict digest_bytes (record { proposal = p; bytes = cond good 1 0 ∷ [] }) success ≡ verdict_call v success
same_verdict v success p good at is = rw (at.round, at.parent, at.payload, is) refl

pub same_nullification : (v : ℕ) (round : Round) (good : Bool) → round ≡ round_in_epoch v → good ≡ true
    → update {D = PlainDigest} digest_bytes (Nullified (record { round = round; bytes = cond good 1 0 ∷ [] }))
    ≡ nullification_call v
same_nullification v round good at is = rw (at, is) refl
