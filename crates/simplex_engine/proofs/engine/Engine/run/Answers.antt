-- Each step continues from the ones before.
use Rattle.std.proofs.Common.{refl}
use Rattle.simplex_engine.proofs.OwnSteps.{alone_still, alone_further}
use Rattle.simplex_engine.proofs.UnfinishedWork.{tells_still, tells_further}
use Rattle.engine_planner.proofs.PlannedWork.{among_still}
use Rattle.simplex_engine.specs.Provenance.{pending_causes}
use Rattle.simplex_engine.proofs.Provenance.{comes_on, comes_still}
use Rattle.simplex_engine.proofs.engine.Engine.run.Goals as goal

pub returns-in_err-step-clause-alone : goal.returns-in_err-step-clause-alone
returns-in_err-step-clause-alone g c = alone_further c.loop.invariant.alone c.step.ensures.alone

pub returns-then-not-branch : goal.returns-then-not-branch
returns-then-not-branch g c = record {
  alone = alone_further c.loop.invariant.alone c.step.ensures.alone;
  due_work = tells_further c.loop.invariant.due_work c.in_ok-step.ensures.due_work;
  provenance = comes_on c.loop.invariant.provenance c.in_ok-step.ensures.due_work.risen
      c.in_ok-step.ensures.due_work.works c.in_ok-step.ensures.provenance;
}

pub loop-init : goal.loop-init
loop-init g c = record {
  alone = alone_still c.args.self.now;
  due_work = tells_still c.args.self.now;
  provenance = comes_still refl refl (λ kind view. refl) (among_still (pending_causes c.args.self.now));
}

pub loop-preserved : goal.loop-preserved
loop-preserved g c = record {
  alone = alone_further c.loop.invariant.alone c.step.ensures.alone;
  due_work = tells_further c.loop.invariant.due_work c.in_ok-step.ensures.due_work;
  provenance = comes_on c.loop.invariant.provenance c.in_ok-step.ensures.due_work.risen
      c.in_ok-step.ensures.due_work.works c.in_ok-step.ensures.provenance;
}

pub returns : goal.returns
returns g c = record { alone = c.loop.invariant.alone; due_work = tt; provenance = tt }
