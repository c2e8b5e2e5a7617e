-- What is dropped after all steps continues from them, and nothing is due that was not.
use Rattle.std.proofs.Common.{ap, sym, subst}
use Rattle.simplex_engine.specs.NothingDue.{HasNothingNew}
use Rattle.simplex_engine.proofs.OwnSteps.{forgets_further, forgets_none}
use Rattle.simplex_engine.proofs.ApplicationWork.{ahead_still, short_still}
use Rattle.engine_planner.specs.PlannedWork.{Constants}
use Rattle.simplex_engine.proofs.UnfinishedWork.{tells_further}
use Rattle.simplex_engine.proofs.Provenance.{comes_later}
use Rattle.simplex_engine.proofs.NoMissingCertificates.{forgets_no_lack}
use Rattle.simplex_engine.proofs.engine.Engine.finish.Goals as goal

pub returns-in_err-run_to_short-clause-alone : goal.returns-in_err-run_to_short-clause-alone
returns-in_err-run_to_short-clause-alone g c = forgets_none c.run_to_short.ensures.alone

pub returns-in_err-settle-clause-alone : goal.returns-in_err-settle-clause-alone
returns-in_err-settle-clause-alone g c = forgets_further c.run_to_short.ensures.alone c.settle.ensures.alone

pub returns : goal.returns
returns g c =
    let quiet =
    subst (λ timeout. HasNothingNew g.D.PartialEq.eq g.L.Elector.elect c.args.now timeout
    c.settle.new.self.core.member.facts) (sym c.in_ok-settle.ensures.timeout)
    (subst (λ m. HasNothingNew g.D.PartialEq.eq g.L.Elector.elect c.args.now c.run_to_short.new.self.plan.timeout
    m.facts) (sym c.settle.ensures.member) c.in_ok-run_to_short.ensures.quiet)
    in
    record {
      alone = forgets_further c.run_to_short.ensures.alone c.settle.ensures.alone;
      settled = record {
        whole = c.in_ok-settle.ensures.whole;
        quiet = quiet;
        timed = (quiet.quiet.left, quiet.quiet.timed);
        idle = c.settle.ensures.idle c.args.now c.in_ok-run_to_short.ensures.idle;
        ahead = ahead_still c.run_to_short.new.self c.settle.new.self c.settle.ensures.member c.settle.ensures.builds
            c.in_ok-run_to_short.ensures.ahead;
        lowest = c.in_ok-settle.ensures.lowest;
        missing = c.in_ok-settle.ensures.lacking;
      };
      short = λ given kept. short_still c.run_to_short.new.self c.settle.new.self
          (ap (λ (constants : Constants). constants.options) c.in_ok-settle.ensures.due_work.constants)
          c.settle.ensures.member (c.in_ok-run_to_short.ensures.short given kept);
      due_work = tells_further c.in_ok-run_to_short.ensures.due_work c.in_ok-settle.ensures.due_work;
      provenance = comes_later (forgets_no_lack _ _ _ c.settle.new.self.core.member.facts)
          c.in_ok-run_to_short.ensures.provenance c.in_ok-settle.ensures.due_work.risen
          c.in_ok-settle.ensures.due_work.works (c.in_ok-settle.ensures.provenance c.args.now);
    }
