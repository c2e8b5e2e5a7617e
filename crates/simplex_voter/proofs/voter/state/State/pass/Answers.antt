-- How the contract of `pass` follows: the moment and the raise leave the deadlines those of the set-up, so the next
-- view is entered with them.
use Rattle.std.proofs.Common.{Some}
use Rattle.simplex_voter.proofs.CarriedLeaders.{same_setup_joins}
use Rattle.simplex_voter.proofs.ViewEntry.{setup_raised, deadlines_raised, passed}
use Rattle.simplex_voter.proofs.voter.state.State.pass.Goals as goal

pub enter_led-requires-clause-deadlines : goal.enter_led-requires-clause-deadlines
enter_led-requires-clause-deadlines g c =
    deadlines_raised c.args.self.now c.note_moment.new.self c.raise.new.self c.args.view c.args.now
    c.note_moment.ensures c.raise.ensures c.next.result c.args.deadlines.now c.next.ensures c.requires.deadlines

pub returns-clause-passed : goal.returns-clause-passed
returns-clause-passed g c =
    passed c.args.self.now c.note_moment.new.self c.raise.new.self c.args.view c.args.now c.note_moment.ensures
    c.raise.ensures c.enter_led.result g.L.Elector.elect
    (Some (g.S.CertificateScheme.certificate_bytes c.args.certificate.now)) c.enter_led.new.self c.next.result
    c.next.ensures c.enter_led.ensures.entered

pub returns-clause-setup : goal.returns-clause-setup
returns-clause-setup g c =
    same_setup_joins c.args.self.now c.raise.new.self c.enter_led.new.self
    (setup_raised c.args.self.now c.note_moment.new.self c.raise.new.self c.args.view c.args.now
    c.note_moment.ensures c.raise.ensures) c.enter_led.ensures.setup
