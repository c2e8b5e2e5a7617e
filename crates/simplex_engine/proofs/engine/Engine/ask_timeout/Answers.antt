-- That the member is asked for its next timeout, which the engine stores.
use Rattle.std.proofs.Common.{None, [], refl, sym, subst, ◌∙◌, ap, inl}
use Rattle.simplex_member.specs.Calls.{reply_facts}
use Rattle.simplex_member.specs.MemberFacts.{IsCall}
use Rattle.engine_outbox.specs.Continuity.{Continues}
use Rattle.engine_outbox.specs.Outputs.{work_in}
use Rattle.engine_planner.specs.declared.task.Task.TheVariants as task
use Rattle.engine_planner.specs.Causes.{reply_causes}
use Rattle.engine_planner.specs.Tasks.{call_of}
use Rattle.engine_planner.proofs.Causes.{among_none}
use Rattle.simplex_engine.proofs.OwnSteps.{alone_with}
use Rattle.simplex_engine.proofs.Provenance.{comes_called, hand_asked}
use Rattle.simplex_engine.proofs.ReplyWork.{planned_ahead, planned_reply}
use Rattle.simplex_engine.proofs.UnfinishedWork.{tells_called}
use Rattle.simplex_engine.proofs.Timeouts.{awaited, stores}
use Rattle.simplex_engine.proofs.engine.Engine.ask_timeout.Goals as goal

pub returns-in_err-follow-clause-alone : goal.returns-in_err-follow-clause-alone
returns-in_err-follow-clause-alone g c =
    alone_with c.args.self.now c.follow.new.self
    (subst (Continues g.D.PartialEq.eq g.L.Elector.elect g.S.CertificateScheme.certificate_bytes g.S.Scheme.IsSignature
    None c.args.self.now.core) (sym c.follow.ensures.core)
    (c.call-reply.ensures.quiet c.call.ensures.plain)) c.follow.ensures.batcher

pub returns : goal.returns
returns g c =
    let same = g.D.PartialEq.eq in
    let elect = g.L.Elector.elect in
    let bytes = g.D.Digest.bytes in
    let bytes_of = g.S.CertificateScheme.certificate_bytes in
    let before = c.args.self.now.core.member.facts in
    let asked = call_of task.NextTimeout c.args.now in
    let answer = reply_facts bytes_of c.call-reply.result in
    let left = c.follow.new.self in
    let goes = subst (Continues same elect bytes_of g.S.Scheme.IsSignature None c.args.self.now.core)
    (sym c.follow.ensures.core) (c.call-reply.ensures.quiet c.call.ensures.plain) in
    let answered = subst (λ core. IsCall same elect before asked answer core.member.facts) (sym c.follow.ensures.core)
    (subst (λ call. IsCall same elect before call answer c.call-reply.new.self.member.facts) c.call.ensures.asked
    c.call-reply.ensures.answered) in
    let follows = c.in_ok-follow.ensures.followed in
    record {
      alone = alone_with c.args.self.now left goes c.follow.ensures.batcher;
      timed = λ is. record {
        answer = answer;
        answered = answered;
        awaited = awaited c.args.now left.plan.timeout answer (sym c.is_later-is_later.ensures ∙ is)
            (stores bytes bytes_of c.args.now task.NextTimeout c.call-reply.result follows.seen left.plan
            follows.followed);
      };
      due_work = tells_called c.args.self.now left task.NextTimeout c.args.now answer answered goes
          c.in_ok-follow.ensures.seen c.in_ok-follow.ensures.planned;
      provenance = comes_called asked c.call-reply.result (λ kind view. refl)
          (inl (task.NextTimeout, refl, among_none _, tt)) answered
          (hand_asked c.args.self.now left [] (reply_causes c.args.now c.call-reply.result asked)
          (ap (λ core. work_in core.outbox.queue.items) c.follow.ensures.core
          ∙ ap (λ outbox. work_in outbox.queue.items) c.call-reply.ensures.outbox) c.in_ok-follow.ensures.causes)
          c.in_ok-follow.ensures.asks
          (planned_ahead left (planned_reply bytes bytes_of c.args.now task.NextTimeout c.call-reply.result follows.seen
          left.plan follows.followed));
    }
