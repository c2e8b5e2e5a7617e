-- How the contract of `read_proposal` follows: a round and a parent have 24 bytes, and the payload follows them.
use Rattle.std.proofs.Common.{◌≡◌, ap, sym, ◌∙◌, ◌++◌, drop, subst}
use Rattle.std.specs.Int.{w64, to_be_bytes}
use Rattle.simplex_types.specs.declared.types.messages.Proposal.{Proposal}
use Rattle.simplex_types.specs.declared.types.plain.PlainDigest.{PlainDigest}
use Rattle.simplex_types.specs.Encoding.{round_bytes, proposal_bytes}
use Rattle.simplex_types.specs.Plain.{digest_bytes}
use Rattle.simplex_codec.specs.Decoded.{NoneHas}
use Rattle.simplex_codec.specs.Plain.{plain_proposal_of}
use Rattle.simplex_codec.proofs.PlainLaw.{proposal_back, proposal_none}
use Rattle.simplex_codec.proofs.plain.read_proposal.Goals as goal

pub returns-in_err-payload-clause-read : goal.returns-in_err-payload-clause-read
returns-in_err-payload-clause-read c =
    let numbers = c.in-Some.ensures.parts ∙ ap (λ rest. round_bytes c.in-Some.round ++ rest)
    c.in_ok-parent.ensures.parts in
    let behind : drop 24 c.args.bytes.now ≡ c.in_ok-parent.rest.now = ap (drop 24) numbers in
    let none = subst (NoneHas digest_bytes) (sym behind) c.in_err-payload.ensures in
    c.from_residual-in_err-payload.ensures ∙ sym (proposal_none c.args.bytes.now none)

pub returns-clause-read : goal.returns-clause-read
returns-clause-read c =
    let numbers = c.in-Some.ensures.parts ∙ ap (λ rest. round_bytes c.in-Some.round ++ rest)
    c.in_ok-parent.ensures.parts in
    let p : Proposal PlainDigest =
    record { round = c.in-Some.round; parent = c.in_ok-parent.parent; payload = c.in_ok-payload.payload } in
    let whole : c.args.bytes.now ≡ proposal_bytes digest_bytes p =
    numbers ∙ ap (λ rest. round_bytes c.in-Some.round ++ (to_be_bytes w64 c.in_ok-parent.parent ++ rest))
    (sym c.in_ok-payload.ensures) in
    rw c.new.ensures
    (sym (ap plain_proposal_of whole ∙ proposal_back p (c.in-Some.ensures.fits, c.in_ok-parent.ensures.fits)))
