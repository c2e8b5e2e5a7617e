-- That nothing is done but to queue the work.
use Rattle.std.proofs.Common.{refl, ap}
use Rattle.simplex_engine.proofs.OwnSteps.{alone_still}
use Rattle.simplex_engine.proofs.UnfinishedWork.{tells_beside, tells_still}
use Rattle.engine_outbox.specs.declared.output.Work.TheVariants as work
use Rattle.engine_planner.specs.Causes.{of_work}
use Rattle.engine_planner.proofs.Causes.{among_last}
use Rattle.simplex_engine.specs.Provenance.{pending_causes}
use Rattle.simplex_engine.proofs.Provenance.{comes_still, hand_pushed}
use Rattle.simplex_engine.proofs.engine.Engine.report_forgotten.Goals as goal

pub returns-then-le : goal.returns-then-le
returns-then-le g c = record {
  alone = alone_still c.args.self.now;
  member = refl;
  plan = refl;
  due_work = tells_still c.args.self.now;
  provenance =
      λ now. comes_still refl refl (λ kind view. refl)
      (among_last (of_work (work.Forget c.args.lowest)) (pending_causes c.args.self.now));
}

pub returns-in_err-push-clause-alone : goal.returns-in_err-push-clause-alone
returns-in_err-push-clause-alone g c = record { continues = c.push.ensures.continues; batcher = refl }

pub returns : goal.returns
returns g c = record {
  alone = record { continues = c.push.ensures.continues; batcher = refl };
  member = c.push.ensures.member;
  plan = refl;
  due_work = tells_beside c.args.self.now (record c.args.self.now { core = c.push.new.self; forgotten = c.args.lowest })
      (ap (λ m. m.facts.outstanding_work) c.push.ensures.member)
      (ap (λ m. m.facts.life) c.push.ensures.member)
      c.push.ensures.continues refl;
  provenance = λ now. comes_still (ap (λ m. m.facts) c.push.ensures.member) refl (λ kind view. refl)
      (hand_pushed c.args.self.now (record c.args.self.now { core = c.push.new.self; forgotten = c.args.lowest })
      (work.Forget c.args.lowest) c.in_ok-push.ensures.queued refl);
}
