-- That a task accepts no certificate, and what its answer says.
use Rattle.std.proofs.Common.{None, sym, subst, ap, ◌∙◌}
use Rattle.std.proofs.lemmas.Result.{IfOk-weaker}
use Rattle.simplex_member.specs.Calls.{reply_facts}
use Rattle.simplex_member.specs.MemberFacts.{IsCall}
use Rattle.engine_outbox.specs.Continuity.{Continues}
use Rattle.engine_planner.specs.Tasks.{call_of}
use Rattle.simplex_engine.proofs.UnfinishedWork.{tells_called}
use Rattle.engine_planner.proofs.PlanStates.{on_ok, on_ok_both}
use Rattle.engine_outbox.specs.Outputs.{work_in}
use Rattle.engine_planner.specs.Causes.{reply_causes}
use Rattle.simplex_engine.proofs.Provenance.{comes_called, hand_asked}
use Rattle.simplex_engine.proofs.ReplyWork.{on_ok_all, planned_ahead, planned_reply}
use Rattle.simplex_engine.proofs.engine.Engine.ask.Goals as goal

pub returns : goal.returns
returns g c =
    let same = g.D.PartialEq.eq in
    let elect = g.L.Elector.elect in
    let bytes_of = g.S.CertificateScheme.certificate_bytes in
    let before = c.args.self.now.core.member.facts in
    let answer = reply_facts bytes_of c.call-reply.result in
    let goes = subst (Continues same elect bytes_of g.S.Scheme.IsSignature None c.args.self.now.core)
    (sym c.follow.ensures.core) (c.call-reply.ensures.quiet c.call.ensures.plain) in
    let answered = subst (λ core. IsCall same elect before (call_of c.args.task c.args.now) answer core.member.facts)
    (sym c.follow.ensures.core)
    (subst (λ call. IsCall same elect before call answer c.call-reply.new.self.member.facts) c.call.ensures.asked
    c.call-reply.ensures.answered) in
    record {
      continues = goes;
      batcher = c.follow.ensures.batcher;
      acted = IfOk-weaker c.follow.result _ _ (λ is_of_use of_use. record {
        answer = answer;
        answered = answered;
        useful = of_use;
      }) c.follow.ensures.of_use;
      done = on_ok c.follow.result c.follow.ensures.followed
          (λ followed. record { reply = c.call-reply.result; answered = answered; followed = followed });
      due_work = on_ok_both c.follow.result c.follow.ensures.seen c.follow.ensures.planned
          (tells_called c.args.self.now c.follow.new.self c.args.task c.args.now answer answered goes);
      provenance = on_ok_all c.follow.result c.follow.ensures.causes c.follow.ensures.asks c.follow.ensures.followed
          (λ causes asks followed came none meant.
          comes_called (call_of c.args.task c.args.now) c.call-reply.result none meant answered
          (hand_asked c.args.self.now c.follow.new.self came
          (reply_causes c.args.now c.call-reply.result (call_of c.args.task c.args.now))
          (ap (λ core. work_in core.outbox.queue.items) c.follow.ensures.core
          ∙ ap (λ outbox. work_in outbox.queue.items) c.call-reply.ensures.outbox) causes) asks
          (planned_ahead c.follow.new.self (planned_reply g.D.Digest.bytes bytes_of c.args.now c.args.task
          c.call-reply.result followed.seen c.follow.new.self.plan followed.followed)));
    }
