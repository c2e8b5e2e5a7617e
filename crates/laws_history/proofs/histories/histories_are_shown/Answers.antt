-- event by event, and lifetime by lifetime
use Rattle.std.proofs.Common.{refl, Ok}
use Rattle.laws_history.proofs.Events.{event_shown}
use Rattle.laws_history.proofs.Lives.{begun_shown, called_shown, recovered_shown, restarted_shown, ran_shown}
use Rattle.laws_history.proofs.histories.histories_are_shown.Goals as goal

pub returns-clause-begun : goal.returns-clause-begun
returns-clause-begun g c = begun_shown g.D.PartialEq.eq g.L.Elector.elect

pub returns-clause-kept : goal.returns-clause-kept
returns-clause-kept g c history x e shows allowed =
    event_shown g.D.PartialEq.eq g.L.Elector.elect history x shows g.met.D.Digest.equal_is_same e allowed

pub returns-clause-called : goal.returns-clause-called
returns-clause-called g c history m left call replied shown is_call =
    called_shown g.D.PartialEq.eq g.met.D.Digest.equal_is_same g.L.Elector.elect m history left call replied shown
    is_call

pub returns-clause-recovered : goal.returns-clause-recovered
returns-clause-recovered g c start entries none =
    recovered_shown g.D.PartialEq.eq g.met.D.Digest.equal_is_same g.L.Elector.elect start entries none

pub returns-clause-restarted : goal.returns-clause-restarted
returns-clause-restarted g c m left r restarts =
    restarted_shown g.D.PartialEq.eq g.met.D.Digest.equal_is_same g.L.Elector.elect m left r (Ok tt) refl restarts

pub returns-clause-ran : goal.returns-clause-ran
returns-clause-ran g c start steps replies end good run =
    ran_shown g.D.PartialEq.eq g.met.D.Digest.equal_is_same g.L.Elector.elect start steps replies end good run
