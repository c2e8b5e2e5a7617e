-- That the call accepts no certificate, and what its answer says.
use Rattle.std.proofs.Common.{None, sym, subst, ◌∙◌, ap}
use Rattle.simplex_member.specs.Calls.{reply_facts}
use Rattle.simplex_member.specs.MemberFacts.{IsCall}
use Rattle.engine_outbox.specs.Continuity.{Continues}
use Rattle.engine_planner.specs.Tasks.{call_of}
use Rattle.simplex_engine.specs.NothingDue.{ReturnsNothing}
use Rattle.simplex_engine.proofs.OwnSteps.{alone_with}
use Rattle.simplex_engine.proofs.UnfinishedWork.{tells_called}
use Rattle.engine_outbox.specs.Outputs.{work_in}
use Rattle.engine_planner.specs.Causes.{reply_causes}
use Rattle.simplex_engine.proofs.Provenance.{comes_called, hand_asked}
use Rattle.simplex_engine.proofs.ReplyWork.{planned_ahead, planned_reply}
use Rattle.simplex_engine.proofs.engine.Engine.ask_for.Goals as goal

pub returns-in_err-follow-clause-alone : goal.returns-in_err-follow-clause-alone
returns-in_err-follow-clause-alone g c =
    alone_with c.args.self.now c.follow.new.self
    (subst (Continues g.D.PartialEq.eq g.L.Elector.elect g.S.CertificateScheme.certificate_bytes g.S.Scheme.IsSignature
    None c.args.self.now.core) (sym c.follow.ensures.core)
    (c.call-reply.ensures.quiet c.call.ensures.plain)) c.follow.ensures.batcher

pub returns : goal.returns
returns g c =
    let same = g.D.PartialEq.eq in
    let elect = g.L.Elector.elect in
    let bytes_of = g.S.CertificateScheme.certificate_bytes in
    let before = c.args.self.now.core.member.facts in
    let answer = reply_facts bytes_of c.call-reply.result in
    let goes = subst (Continues same elect bytes_of g.S.Scheme.IsSignature None c.args.self.now.core)
    (sym c.follow.ensures.core) (c.call-reply.ensures.quiet c.call.ensures.plain) in
    let answered = subst (λ core. IsCall same elect before (call_of c.args.task c.args.now) answer core.member.facts)
    (sym c.follow.ensures.core)
    (subst (λ call. IsCall same elect before call answer c.call-reply.new.self.member.facts) c.call.ensures.asked
    c.call-reply.ensures.answered) in
    record {
      alone = alone_with c.args.self.now c.follow.new.self goes c.follow.ensures.batcher;
      nothing = λ is.
          subst (λ core. ReturnsNothing same elect before (call_of c.args.task c.args.now) core.member.facts)
          (sym c.follow.ensures.core)
          (subst (λ call. ReturnsNothing same elect before call c.call-reply.new.self.member.facts) c.call.ensures.asked
          (record {
            answer = answer;
            nothing = sym c.is_nothing-is_nothing.ensures ∙ is;
            answered = c.call-reply.ensures.answered;
          }));
      due_work = tells_called c.args.self.now c.follow.new.self c.args.task c.args.now answer answered goes
          c.in_ok-follow.ensures.seen c.in_ok-follow.ensures.planned;
      provenance = λ came none meant. comes_called (call_of c.args.task c.args.now) c.call-reply.result none meant
          answered
          (hand_asked c.args.self.now c.follow.new.self came
          (reply_causes c.args.now c.call-reply.result (call_of c.args.task c.args.now))
          (ap (λ core. work_in core.outbox.queue.items) c.follow.ensures.core
          ∙ ap (λ outbox. work_in outbox.queue.items) c.call-reply.ensures.outbox) c.in_ok-follow.ensures.causes)
          c.in_ok-follow.ensures.asks
          (planned_ahead c.follow.new.self (planned_reply g.D.Digest.bytes bytes_of c.args.now c.args.task
          c.call-reply.result c.in_ok-follow.ensures.followed.seen c.follow.new.self.plan
          c.in_ok-follow.ensures.followed.followed));
    }
