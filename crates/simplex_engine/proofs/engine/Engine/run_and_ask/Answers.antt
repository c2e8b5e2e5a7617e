-- The steps and the calls continue one after the other, and nothing changes where nothing is due.
use Rattle.std.proofs.Common.{None, sym, subst, ap}
use Rattle.std.proofs.lemmas.Bool.{false≢true}
use Rattle.std.proofs.lemmas.Result.{IfOk-weaker}
use Rattle.engine_outbox.specs.Continuity.{Continues}
use Rattle.engine_outbox.proofs.Continuity.{stays}
use Rattle.engine_planner.specs.PlanStates.{IsIdle}
use Rattle.engine_planner.proofs.PlanStates.{on_ok}
use Rattle.simplex_engine.specs.BuildBounds.{BuildsAhead}
use Rattle.simplex_engine.specs.NothingDue.{IsQuiet}
use Rattle.simplex_engine.proofs.OwnSteps.{alone_further, alone_with}
use Rattle.simplex_engine.proofs.UnfinishedWork.{tells_further, tells_planned}
use Rattle.engine_outbox.specs.Outputs.{work_in}
use Rattle.simplex_engine.proofs.Provenance.{comes_on, comes_same, hand_alone, risen_facts}
use Rattle.engine_planner.proofs.AskedSteps.{asks_over}
use Rattle.simplex_engine.proofs.ReplyWork.{on_ok_all}
use Rattle.simplex_engine.proofs.engine.Engine.run_and_ask.Goals as goal

pub returns-in_err-run-clause-alone : goal.returns-in_err-run-clause-alone
returns-in_err-run-clause-alone g c = c.run.ensures.alone

pub returns-in_err-ask_for_work-clause-alone : goal.returns-in_err-ask_for_work-clause-alone
returns-in_err-ask_for_work-clause-alone g c = alone_further c.run.ensures.alone c.ask_for_work.ensures.alone

pub returns-then-not-branch : goal.returns-then-not-branch
returns-then-not-branch g c = record {
  alone = alone_further c.run.ensures.alone c.ask_for_work.ensures.alone;
  quiet = λ is. absurd (false≢true is);
  idle = λ is. absurd (false≢true is);
  ahead = λ is. absurd (false≢true is);
  due_work = tells_further c.in_ok-run.ensures.due_work c.in_ok-ask_for_work.ensures.due_work;
  provenance = comes_on c.in_ok-run.ensures.provenance c.in_ok-ask_for_work.ensures.due_work.risen
      c.in_ok-ask_for_work.ensures.due_work.works c.in_ok-ask_for_work.ensures.provenance;
}

pub returns-then-not-is_idle : goal.returns-then-not-is_idle
returns-then-not-is_idle g c = record {
  alone = alone_further c.run.ensures.alone c.ask_for_work.ensures.alone;
  quiet = λ is. absurd (false≢true is);
  idle = λ is. absurd (false≢true is);
  ahead = λ is. absurd (false≢true is);
  due_work = tells_further c.in_ok-run.ensures.due_work c.in_ok-ask_for_work.ensures.due_work;
  provenance = comes_on c.in_ok-run.ensures.provenance c.in_ok-ask_for_work.ensures.due_work.risen
      c.in_ok-ask_for_work.ensures.due_work.works c.in_ok-ask_for_work.ensures.provenance;
}

pub returns-then-not-builds_ahead : goal.returns-then-not-builds_ahead
returns-then-not-builds_ahead g c = record {
  alone = alone_further c.run.ensures.alone c.ask_for_work.ensures.alone;
  quiet = λ is. absurd (false≢true is);
  idle = λ is. absurd (false≢true is);
  ahead = λ is. absurd (false≢true is);
  due_work = tells_further c.in_ok-run.ensures.due_work c.in_ok-ask_for_work.ensures.due_work;
  provenance = comes_on c.in_ok-run.ensures.provenance c.in_ok-ask_for_work.ensures.due_work.risen
      c.in_ok-ask_for_work.ensures.due_work.works c.in_ok-ask_for_work.ensures.provenance;
}

pub returns : goal.returns
returns g c =
    let same = g.D.PartialEq.eq in
    let elect = g.L.Elector.elect in
    let before = c.run.new.self.core.member.facts in
    let asked = c.ask_for_work.new.self in
    let left = c.plan_due_votes.new.self in
    let is = c.plan_due_votes.ensures in
    record {
      alone = alone_further c.run.ensures.alone (alone_further c.ask_for_work.ensures.alone
          (alone_with asked left (subst (Continues same elect g.S.CertificateScheme.certificate_bytes
          g.S.Scheme.IsSignature None asked.core) (sym is.core) (stays asked.core)) is.batcher));
      quiet = IfOk-weaker c.plan_due_votes.result _ _ (λ nothing holds none. record {
        before = before;
        quiet = subst (λ plan. IsQuiet same elect c.args.now plan.timeout before left.core.member.facts)
            (sym (holds none).1)
            (subst (λ core. IsQuiet same elect c.args.now asked.plan.timeout before core.member.facts) (sym is.core)
            (c.in_ok-ask_for_work.ensures.quiet c.if-not-branch.false));
        own = (holds none).0;
      }) is.nothing;
      idle = IfOk-weaker c.plan_due_votes.result _ _
          (λ nothing holds none. subst (IsIdle c.args.now) (sym (holds none).1)
          (c.is_idle.ensures.0 c.if-not-is_idle.false)) is.nothing;
      ahead = IfOk-weaker c.plan_due_votes.result _ _
          (λ nothing holds none. subst (BuildsAhead left.core) (sym (holds none).1)
          (subst (λ core. BuildsAhead core asked.plan) (sym is.core)
          (c.builds_ahead.ensures c.if-not-builds_ahead.false))) is.nothing;
      due_work = on_ok c.plan_due_votes.result is.planned
          (λ planned. tells_further c.in_ok-run.ensures.due_work
          (tells_further c.in_ok-ask_for_work.ensures.due_work (tells_planned asked left is.core planned)));
      provenance = on_ok_all c.plan_due_votes.result is.planned is.causes is.asks
          (λ planned causes asks. comes_on (comes_on c.in_ok-run.ensures.provenance
          c.in_ok-ask_for_work.ensures.due_work.risen c.in_ok-ask_for_work.ensures.due_work.works
          c.in_ok-ask_for_work.ensures.provenance)
          (risen_facts (ap (λ core. core.member.facts) is.core)) (tells_planned asked left is.core planned).works
          (comes_same (ap (λ core. core.member.facts) is.core)
          (hand_alone asked left (ap (λ core. work_in core.outbox.queue.items) is.core) causes)
          (asks_over _ asks)));
    }
