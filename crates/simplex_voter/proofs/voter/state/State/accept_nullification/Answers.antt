-- How the contract of `accept_nullification` follows: the moment's deadlines stay those of the set-up, with which the
-- next term's start is entered.
use Rattle.simplex_types.specs.Certificates.{nullification_facts}
use Rattle.simplex_voter.proofs.ViewEntry.{deadlines_noted, nullification_accepted}
use Rattle.simplex_voter.proofs.voter.state.State.accept_nullification.Goals as goal

pub enter_led-requires-clause-deadlines : goal.enter_led-requires-clause-deadlines
enter_led-requires-clause-deadlines g c =
    deadlines_noted c.args.self.now c.note_moment.new.self c.args.next c.args.now c.args.deadlines.now
    c.note_moment.ensures c.requires.deadlines

pub returns-clause-accepted : goal.returns-clause-accepted
returns-clause-accepted g c =
    let facts = nullification_facts g.S.CertificateScheme.certificate_bytes c.args.nullification in
    nullification_accepted g.L.Elector.elect c.args.self.now c.note_moment.new.self c.enter_led.new.self
    c.store_nullification.new.self c.nullify_view.new.self facts c.view-view.result c.args.next c.args.now
    c.nullify_view.result
    c.view-view.ensures c.requires.next c.note_moment.ensures c.in_ok-enter_led.ensures.entered
    c.in_ok-store_nullification.ensures.kept c.nullify_view.ensures.noted
