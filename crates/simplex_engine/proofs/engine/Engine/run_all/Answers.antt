-- Each run continues from the ones before.
use Rattle.std.proofs.Common.{refl}
use Rattle.simplex_engine.proofs.OwnSteps.{alone_still, alone_further}
use Rattle.simplex_engine.proofs.UnfinishedWork.{tells_still, tells_further}
use Rattle.engine_planner.proofs.PlannedWork.{among_still}
use Rattle.simplex_engine.specs.Provenance.{pending_causes}
use Rattle.simplex_engine.proofs.Provenance.{comes_on, comes_still}
use Rattle.simplex_engine.proofs.engine.Engine.run_all.Goals as goal

pub returns-in_err-run_and_ask-clause-alone : goal.returns-in_err-run_and_ask-clause-alone
returns-in_err-run_and_ask-clause-alone g c = alone_further c.loop.invariant.alone c.run_and_ask.ensures.alone

pub returns-then-branch : goal.returns-then-branch
returns-then-branch g c = record {
  alone = alone_further c.loop.invariant.alone c.run_and_ask.ensures.alone;
  quiet = c.in_ok-run_and_ask.ensures.quiet c.if-branch.true;
  idle = c.in_ok-run_and_ask.ensures.idle c.if-branch.true;
  ahead = c.in_ok-run_and_ask.ensures.ahead c.if-branch.true;
  due_work = tells_further c.loop.invariant.due_work c.in_ok-run_and_ask.ensures.due_work;
  provenance = comes_on c.loop.invariant.provenance c.in_ok-run_and_ask.ensures.due_work.risen
      c.in_ok-run_and_ask.ensures.due_work.works c.in_ok-run_and_ask.ensures.provenance;
}

pub loop-init : goal.loop-init
loop-init g c = record {
  alone = alone_still c.args.self.now;
  due_work = tells_still c.args.self.now;
  provenance = comes_still refl refl (λ kind view. refl) (among_still (pending_causes c.args.self.now));
}

pub loop-preserved : goal.loop-preserved
loop-preserved g c = record {
  alone = alone_further c.loop.invariant.alone c.run_and_ask.ensures.alone;
  due_work = tells_further c.loop.invariant.due_work c.in_ok-run_and_ask.ensures.due_work;
  provenance = comes_on c.loop.invariant.provenance c.in_ok-run_and_ask.ensures.due_work.risen
      c.in_ok-run_and_ask.ensures.due_work.works c.in_ok-run_and_ask.ensures.provenance;
}

pub returns : goal.returns
returns g c =
    record { alone = c.loop.invariant.alone; quiet = tt; idle = tt; ahead = tt; due_work = tt; provenance = tt }
