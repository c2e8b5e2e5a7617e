-- How the contract of `store_finalization` follows: a finalization that is in the record keeps it as it was, another
-- one is recorded last.
use Rattle.std.proofs.Common.{◌≡◌, ◌∙◌, sym, ap}
use Rattle.std.specs.Prelude.{true, false}
use Rattle.simplex_record.specs.Check.{stands}
use Rattle.simplex_record.specs.Entries.{entries_of}
use Rattle.simplex_record.specs.Recovery.{is_finalization_entry}
use Rattle.simplex_member.proofs.Restarts.{recorded_before, recorded_now}
use Rattle.simplex_member.proofs.member.restart.store_finalization.Goals as goal

pub returns-then-is_finalized_in-clause-kept : goal.returns-then-is_finalized_in-clause-kept
returns-then-is_finalized_in-clause-kept g c =
    let bytes_of = g.S.CertificateScheme.certificate_bytes in
    let entries = entries_of bytes_of c.deref.result.now in
    let found : stands c.in-Some.finalization.proposal.round.view is_finalization_entry entries ≡ true =
    ap (λ v. stands v is_finalization_entry entries) (sym c.view.ensures) ∙ sym c.is_finalized_in.ensures
    ∙ c.if-is_finalized_in.true in
    rw (← c.deref.ensures.value)
    (recorded_before bytes_of entries c.args.finalization c.in-Some.finalization c.in-Some.is found)

pub returns-clause-kept : goal.returns-clause-kept
returns-clause-kept g c =
    let bytes_of = g.S.CertificateScheme.certificate_bytes in
    let entries = entries_of bytes_of c.deref.result.now in
    let none : stands c.in-Some.finalization.proposal.round.view is_finalization_entry entries ≡ false =
    ap (λ v. stands v is_finalization_entry entries) (sym c.view.ensures) ∙ sym c.is_finalized_in.ensures
    ∙ c.if-is_finalized_in.false in
    c.keep.ensures.kept ∙ rw (c.reserve.ensures.items, ← c.deref.ensures.value)
    (recorded_now bytes_of entries c.args.finalization c.in-Some.finalization c.in-Some.is none)
