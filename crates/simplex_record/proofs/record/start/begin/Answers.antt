-- How the contract of `begin` follows: the floor's own rule comes first, then the fault of the state, and the floor's
-- finalization is the record.
use Rattle.std.proofs.Common.{refl, sym, ap, ◌∙◌, option_map}
use Rattle.std.proofs.lemmas.Result.{err_from_is_err_and}
use Rattle.simplex_types.specs.Config.{floor_facts}
use Rattle.simplex_voter.specs.Acceptance.{floor_refusal}
use Rattle.simplex_record.specs.Start.{set_up, error_of}
use Rattle.simplex_record.proofs.Start.{good_floor, bad_floor, floor_error, due_error, not_refused}
use Rattle.simplex_record.proofs.record.start.begin.Goals as goal

pub returns-in_err-check_floor-clause-refused : goal.returns-in_err-check_floor-clause-refused
returns-in_err-check_floor-clause-refused g c =
    let x = set_up g.S.CertificateScheme.me g.S.CertificateScheme.participants g.L.Elector.terms
    g.L.Elector.elects_early c.args.settings in
    let p = err_from_is_err_and c.from_residual.result c.from_residual.ensures.1 in
    rw (p.1, p.2) (bad_floor g.D.PartialEq.eq x (floor_facts g.S.CertificateScheme.certificate_bytes c.args.floor)
    c.args.now _ c.in_err-check_floor.ensures.broken)

pub set_floor-requires : goal.set_floor-requires
set_floor-requires g c =
    let x = set_up g.S.CertificateScheme.me g.S.CertificateScheme.participants g.L.Elector.terms
    g.L.Elector.elects_early c.args.settings in
    rw c.new-state.ensures (good_floor x refl (floor_facts g.S.CertificateScheme.certificate_bytes c.args.floor)
    c.in_ok-check_floor.ensures.kept)

pub returns-in_ok-new-in-Ok-clause-accepted : goal.returns-in_ok-new-in-Ok-clause-accepted
returns-in_ok-new-in-Ok-clause-accepted g c =
    let x = set_up g.S.CertificateScheme.me g.S.CertificateScheme.participants g.L.Elector.terms
    g.L.Elector.elects_early c.args.settings in
    let floor = floor_facts g.S.CertificateScheme.certificate_bytes c.args.floor in
    let none = not_refused (floor_refusal c.new-state.result floor c.args.now) _ _ c.in-Ok.ensures.refused in
    floor_error g.D.PartialEq.eq x floor c.args.now refl refl c.in_ok-check_floor.ensures.kept
    ∙ ap (option_map error_of) (ap (λ y. floor_refusal y floor c.args.now) (sym c.new-state.ensures) ∙ none)

pub returns-in_err-new-in-Ok-clause-refused : goal.returns-in_err-new-in-Ok-clause-refused
returns-in_err-new-in-Ok-clause-refused g c =
    let x = set_up g.S.CertificateScheme.me g.S.CertificateScheme.participants g.L.Elector.terms
    g.L.Elector.elects_early c.args.settings in
    let floor = floor_facts g.S.CertificateScheme.certificate_bytes c.args.floor in
    let none = not_refused (floor_refusal c.new-state.result floor c.args.now) _ _ c.in-Ok.ensures.refused in
    let due = floor_error g.D.PartialEq.eq x floor c.args.now refl refl c.in_ok-check_floor.ensures.kept in
    let p = err_from_is_err_and c.from_residual-in_err-new-in-Ok.result c.from_residual-in_err-new-in-Ok.ensures.1 in
    rw (p.1, p.2, due, ← c.new-state.ensures, none) refl

pub returns-in-Err-clause-refused : goal.returns-in-Err-clause-refused
returns-in-Err-clause-refused g c =
    let x = set_up g.S.CertificateScheme.me g.S.CertificateScheme.participants g.L.Elector.terms
    g.L.Elector.elects_early c.args.settings in
    let floor = floor_facts g.S.CertificateScheme.certificate_bytes c.args.floor in
    rw (
      c.error_of.ensures,
      floor_error g.D.PartialEq.eq x floor c.args.now refl refl c.in_ok-check_floor.ensures.kept,
      ← c.new-state.ensures,
    )
    (due_error _ (floor_refusal c.new-state.result floor c.args.now) _ c.new-state.result _ c.in-Err.ensures.refused
    c.in-Err.ensures.out_of_memory)
