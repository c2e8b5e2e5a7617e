-- How the contract of `remake` follows: the record's first broken rule, then the floor's, is the error; else the
-- entries are taken in order above the floor.
use Rattle.std.proofs.Common.{refl, ap, ◌∙◌}
use Rattle.std.proofs.lemmas.Result.{err_from_is_err_and}
use Rattle.simplex_types.specs.Config.{floor_facts}
use Rattle.simplex_record.specs.Entries.{entries_of}
use Rattle.simplex_record.specs.Recovery.{after_entries}
use Rattle.simplex_record.specs.Start.{set_up}
use Rattle.simplex_record.proofs.UnchangedSettings.{floor_goes}
use Rattle.simplex_record.proofs.AllowedRecords.{new_bears}
use Rattle.simplex_record.proofs.Recoveries.{broken_due, none_broken, refused_alike, accepted_in_time, set_in_time, recovered_goes_on, recovered_is, set_takes}
use Rattle.simplex_record.proofs.record.recovery.remake.Goals as goal

pub returns-in_err-check_record-clause-refused : goal.returns-in_err-check_record-clause-refused
returns-in_err-check_record-clause-refused g c =
    let p = err_from_is_err_and c.from_residual.result c.from_residual.ensures.1 in
    rw (p.1, p.2) (broken_due _ _ _ _ c.in_err-check_record.ensures)

pub returns-in_err-state-clause-refused : goal.returns-in_err-state-clause-refused
returns-in_err-state-clause-refused g c =
    let x = set_up g.S.CertificateScheme.me g.S.CertificateScheme.participants g.L.Elector.terms
    g.L.Elector.elects_early c.args.start.settings in
    let bytes_of = g.S.CertificateScheme.certificate_bytes in
    let p = err_from_is_err_and c.from_residual-in_err-state.result c.from_residual-in_err-state.ensures.1 in
    let kept = none_broken _ _ _ c.in_ok-check_record.ensures in
    rw (
      p.1,
      p.2,
      refused_alike g.D.PartialEq.eq x (floor_facts bytes_of c.args.start.floor) c.args.start.now
          (entries_of bytes_of c.args.entries.now) kept,
    ) c.in_err-state.ensures.refused

pub take_all-requires-clause-resumption : goal.take_all-requires-clause-resumption
take_all-requires-clause-resumption g c =
    let x = set_up g.S.CertificateScheme.me g.S.CertificateScheme.participants g.L.Elector.terms
    g.L.Elector.elects_early c.args.start.settings in
    rw (c.deref_mut.ensures.value, c.in_ok-state.ensures.begun)
    (floor_goes g.D.PartialEq.eq g.L.Elector.elect x
    (floor_facts g.S.CertificateScheme.certificate_bytes c.args.start.floor) c.args.start.now refl).0

pub take_all-requires-clause-in_time : goal.take_all-requires-clause-in_time
take_all-requires-clause-in_time g c =
    let x = set_up g.S.CertificateScheme.me g.S.CertificateScheme.participants g.L.Elector.terms
    g.L.Elector.elects_early c.args.start.settings in
    let floor = floor_facts g.S.CertificateScheme.certificate_bytes c.args.start.floor in
    rw (c.deref_mut.ensures.value, c.in_ok-state.ensures.begun)
    (set_in_time g.D.PartialEq.eq g.L.Elector.elect x floor c.args.start.now
    (accepted_in_time g.D.PartialEq.eq x floor c.args.start.now c.in_ok-state.ensures.accepted))

pub take_all-requires-clause-each : goal.take_all-requires-clause-each
take_all-requires-clause-each g c =
    let x = set_up g.S.CertificateScheme.me g.S.CertificateScheme.participants g.L.Elector.terms
    g.L.Elector.elects_early c.args.start.settings in
    let bytes_of = g.S.CertificateScheme.certificate_bytes in
    rw (c.deref_mut.ensures.value, c.in_ok-state.ensures.begun)
    (set_takes g.D.PartialEq.eq g.L.Elector.elect x (floor_facts bytes_of c.args.start.floor) c.args.start.now bytes_of
    c.args.entries.now refl
    (new_bears x.settings x.me x.members x.elector x.terms x.elects_early)
    (none_broken _ _ _ c.in_ok-check_record.ensures))

pub returns-in-Ok-clause-recovered : goal.returns-in-Ok-clause-recovered
returns-in-Ok-clause-recovered g c =
    let x = set_up g.S.CertificateScheme.me g.S.CertificateScheme.participants g.L.Elector.terms
    g.L.Elector.elects_early c.args.start.settings in
    let bytes_of = g.S.CertificateScheme.certificate_bytes in
    let same = g.D.PartialEq.eq in
    let elect = g.L.Elector.elect in
    let now = c.args.start.now in
    let es = entries_of bytes_of c.args.entries.now in
    c.in-Ok.ensures.after
    ∙ ap (λ y. after_entries same elect y now es) (c.deref_mut.ensures.value ∙ c.in_ok-state.ensures.begun)
    ∙ recovered_is same elect x (floor_facts bytes_of c.args.start.floor) now es

pub returns-in-Ok-clause-resumption : goal.returns-in-Ok-clause-resumption
returns-in-Ok-clause-resumption g c =
    let x = set_up g.S.CertificateScheme.me g.S.CertificateScheme.participants g.L.Elector.terms
    g.L.Elector.elects_early c.args.start.settings in
    let bytes_of = g.S.CertificateScheme.certificate_bytes in
    rw (c.in-Ok.ensures.after, c.deref_mut.ensures.value, c.in_ok-state.ensures.begun)
    (recovered_goes_on g.D.PartialEq.eq g.L.Elector.elect x (floor_facts bytes_of c.args.start.floor) c.args.start.now
    (entries_of bytes_of c.args.entries.now) refl)

pub returns-in-Ok-clause-accepted : goal.returns-in-Ok-clause-accepted
returns-in-Ok-clause-accepted g c =
    let x = set_up g.S.CertificateScheme.me g.S.CertificateScheme.participants g.L.Elector.terms
    g.L.Elector.elects_early c.args.start.settings in
    let bytes_of = g.S.CertificateScheme.certificate_bytes in
    let kept = none_broken _ _ _ c.in_ok-check_record.ensures in
    refused_alike g.D.PartialEq.eq x (floor_facts bytes_of c.args.start.floor) c.args.start.now
    (entries_of bytes_of c.args.entries.now) kept ∙ c.in_ok-state.ensures.accepted

pub returns-in-Err-clause-refused : goal.returns-in-Err-clause-refused
returns-in-Err-clause-refused g c =
    let x = set_up g.S.CertificateScheme.me g.S.CertificateScheme.participants g.L.Elector.terms
    g.L.Elector.elects_early c.args.start.settings in
    let bytes_of = g.S.CertificateScheme.certificate_bytes in
    let kept = none_broken _ _ _ c.in_ok-check_record.ensures in
    rw (
      refused_alike g.D.PartialEq.eq x (floor_facts bytes_of c.args.start.floor) c.args.start.now
          (entries_of bytes_of c.args.entries.now) kept,
      c.in_ok-state.ensures.accepted,
    ) refl
