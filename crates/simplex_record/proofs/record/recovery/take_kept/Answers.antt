-- How the contract of `take_kept` follows: an entry below the retained views changes nothing, another one is taken.
use Rattle.std.proofs.Common.{◌≡◌, sym, subst, ◌∙◌, nat_lt, true, false, OnOk}
use Rattle.simplex_view_maps.proofs.Maps.{is_lt-nat_cmp}
use Rattle.simplex_types.specs.Certificates.{artifact_facts}
use Rattle.simplex_voter.specs.Facts.{StateFacts}
use Rattle.simplex_voter.specs.Windows.{min_active}
use Rattle.simplex_record.specs.Entries.{entry_view}
use Rattle.simplex_record.proofs.Recovery.{kept_taken, low_taken}
use Rattle.simplex_record.proofs.CheckState.{view_of_entry}
use Rattle.simplex_record.proofs.record.recovery.take_kept.Goals as goal

pub returns-then-lt-clause-after : goal.returns-then-lt-clause-after
returns-then-lt-clause-after g c =
    let bytes_of = g.S.CertificateScheme.certificate_bytes in
    let e = artifact_facts bytes_of c.args.artifact.now in
    let x = c.args.state.now in
    let low : nat_lt (entry_view e) (min_active x) ≡ true =
    rw (← view_of_entry bytes_of c.args.artifact.now, ← c.view.ensures, ← c.min_active.ensures)
    (sym (is_lt-nat_cmp c.view.result c.min_active.result) ∙ sym c.lt.ensures ∙ c.if-lt.true) in
    sym (low_taken g.D.PartialEq.eq g.L.Elector.elect x c.args.now e low)

pub returns-clause-after : goal.returns-clause-after
returns-clause-after g c =
    let bytes_of = g.S.CertificateScheme.certificate_bytes in
    let e = artifact_facts bytes_of c.args.artifact.now in
    let x = c.args.state.now in
    let kept : nat_lt (entry_view e) (min_active x) ≡ false =
    rw (← view_of_entry bytes_of c.args.artifact.now, ← c.view.ensures, ← c.min_active.ensures)
    (sym (is_lt-nat_cmp c.view.result c.min_active.result) ∙ sym c.lt.ensures ∙ c.if-lt.false) in
    subst (λ (y : StateFacts _ _ _). OnOk c.take.result (c.take.new.state ≡ y))
    (sym (kept_taken g.D.PartialEq.eq g.L.Elector.elect x c.args.now e kept)) c.take.ensures.after
