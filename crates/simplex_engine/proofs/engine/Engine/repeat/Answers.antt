-- That nothing is done but to queue a vote once more.
use Rattle.std.proofs.Common.{refl, ap}
use Rattle.simplex_engine.proofs.UnfinishedWork.{tells_beside}
use Rattle.engine_outbox.proofs.QueuedOutputs.{repeated_no_work}
use Rattle.engine_planner.specs.Causes.{planned_causes}
use Rattle.engine_planner.proofs.PlannedWork.{among_still}
use Rattle.simplex_engine.proofs.Provenance.{comes_still, hand_alone}
use Rattle.simplex_engine.proofs.engine.Engine.repeat.Goals as goal

pub returns-in_err-repeat-clause-alone : goal.returns-in_err-repeat-clause-alone
returns-in_err-repeat-clause-alone g c = record { continues = c.repeat.ensures.continues; batcher = refl }

pub returns : goal.returns
returns g c = record {
  alone = record { continues = c.repeat.ensures.continues; batcher = refl };
  due_work = tells_beside c.args.self.now (record c.args.self.now { core = c.repeat.new.self })
      (ap (λ m. m.facts.outstanding_work) c.repeat.ensures.member)
      (ap (λ m. m.facts.life) c.repeat.ensures.member)
      c.repeat.ensures.continues refl;
  done = λ now. (_, c.in_ok-repeat.ensures.repeated);
  provenance = λ now. comes_still (ap (λ m. m.facts) c.repeat.ensures.member) refl (λ kind view. refl)
      (hand_alone c.args.self.now (record c.args.self.now { core = c.repeat.new.self })
      (repeated_no_work c.args.view c.args.self.now.core.outbox.repeat c.args.self.now.core.outbox
      c.repeat.new.self.outbox _ c.in_ok-repeat.ensures.repeated)
      (among_still (planned_causes c.args.self.now.plan)));
}
