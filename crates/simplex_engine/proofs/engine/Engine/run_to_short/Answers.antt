-- Steps and prunings continue one after the other, and everything is done where the record is short.
use Rattle.std.proofs.Common.{refl, sym, subst}
use Rattle.engine_planner.specs.PlanStates.{IsIdle}
use Rattle.simplex_engine.specs.BuildBounds.{BuildsAhead}
use Rattle.simplex_engine.specs.NothingDue.{HasNothingNew}
use Rattle.simplex_engine.proofs.OwnSteps.{alone_still, alone_further}
use Rattle.simplex_engine.proofs.ApplicationWork.{ahead_still}
use Rattle.simplex_engine.proofs.UnfinishedWork.{tells_still, tells_further}
use Rattle.engine_planner.proofs.PlannedWork.{among_still}
use Rattle.simplex_engine.specs.Provenance.{pending_causes}
use Rattle.simplex_engine.proofs.Provenance.{comes_on, comes_still}
use Rattle.simplex_engine.proofs.engine.Engine.run_to_short.Goals as goal

pub returns-in_err-run_all-clause-alone : goal.returns-in_err-run_all-clause-alone
returns-in_err-run_all-clause-alone g c = alone_further c.loop.invariant.alone c.run_all.ensures.alone

pub returns-in_err-store_and_measure-clause-alone : goal.returns-in_err-store_and_measure-clause-alone
returns-in_err-store_and_measure-clause-alone g c =
    alone_further c.loop.invariant.alone (alone_further c.run_all.ensures.alone c.store_and_measure.ensures.alone)

pub returns-in_err-prune_record-clause-alone : goal.returns-in_err-prune_record-clause-alone
returns-in_err-prune_record-clause-alone g c =
    alone_further c.loop.invariant.alone (alone_further c.run_all.ensures.alone
    (alone_further c.store_and_measure.ensures.alone c.prune_record.ensures.alone))

pub returns-then-branch : goal.returns-then-branch
returns-then-branch g c =
    let is = c.store_and_measure.ensures in
    record {
      alone = alone_further c.loop.invariant.alone (alone_further c.run_all.ensures.alone is.alone);
      quiet = subst (λ plan. HasNothingNew g.D.PartialEq.eq g.L.Elector.elect c.args.now plan.timeout
          c.store_and_measure.new.self.core.member.facts) (sym is.plan)
          (subst (λ m. HasNothingNew g.D.PartialEq.eq g.L.Elector.elect c.args.now c.run_all.new.self.plan.timeout
          m.facts) (sym is.member) c.in_ok-run_all.ensures.quiet);
      idle = subst (IsIdle c.args.now) (sym is.plan) c.in_ok-run_all.ensures.idle;
      ahead = subst (BuildsAhead c.store_and_measure.new.self.core) (sym is.plan)
          (ahead_still c.run_all.new.self (record (c.run_all.new.self) { core = c.store_and_measure.new.self.core })
          is.member refl c.in_ok-run_all.ensures.ahead);
      short = λ given kept. c.in_ok-store_and_measure.ensures.short given
          (c.run_all.ensures.alone.continues.kept given (c.loop.invariant.alone.continues.kept given kept))
          c.if-branch.true;
      due_work = tells_further c.loop.invariant.due_work
          (tells_further c.in_ok-run_all.ensures.due_work c.in_ok-store_and_measure.ensures.due_work);
      provenance = comes_on (comes_on c.loop.invariant.provenance c.in_ok-run_all.ensures.due_work.risen
          c.in_ok-run_all.ensures.due_work.works c.in_ok-run_all.ensures.provenance)
          c.in_ok-store_and_measure.ensures.due_work.risen c.in_ok-store_and_measure.ensures.due_work.works
          (c.in_ok-store_and_measure.ensures.provenance c.args.now);
    }

pub loop-init : goal.loop-init
loop-init g c = record {
  alone = alone_still c.args.self.now;
  due_work = tells_still c.args.self.now;
  provenance = comes_still refl refl (λ kind view. refl) (among_still (pending_causes c.args.self.now));
}

pub loop-preserved : goal.loop-preserved
loop-preserved g c = record {
  alone = alone_further c.loop.invariant.alone
      (alone_further c.run_all.ensures.alone
      (alone_further c.store_and_measure.ensures.alone c.prune_record.ensures.alone));
  due_work = tells_further c.loop.invariant.due_work
      (tells_further c.in_ok-run_all.ensures.due_work
      (tells_further c.in_ok-store_and_measure.ensures.due_work c.in_ok-prune_record.ensures.due_work));
  provenance = comes_on
      (comes_on (comes_on c.loop.invariant.provenance c.in_ok-run_all.ensures.due_work.risen
      c.in_ok-run_all.ensures.due_work.works c.in_ok-run_all.ensures.provenance)
      c.in_ok-store_and_measure.ensures.due_work.risen c.in_ok-store_and_measure.ensures.due_work.works
      (c.in_ok-store_and_measure.ensures.provenance c.args.now)) c.in_ok-prune_record.ensures.due_work.risen
      c.in_ok-prune_record.ensures.due_work.works c.in_ok-prune_record.ensures.provenance;
}

pub returns : goal.returns
returns g c = record {
  alone = c.loop.invariant.alone;
  quiet = tt;
  idle = tt;
  ahead = tt;
  short = λ given kept. tt;
  due_work = tt;
  provenance = tt;
}
