-- No other certificate is accepted than the one that is passed in, and a refused one changes nothing.
use Rattle.std.proofs.Common.{Some, sym, subst, ap, ◌∙◌, refl, inr, [], ◌∷◌}
use Rattle.std.proofs.lemmas.Bool.{not-false}
use Rattle.std.proofs.lemmas.Result.{IfOk-weaker}
use Rattle.simplex_types.specs.Certificates.{certificate_facts}
use Rattle.simplex_types.specs.Encoding.{certificate_subject}
use Rattle.engine_outbox.specs.Continuity.{Continues}
use Rattle.simplex_engine.proofs.UnfinishedWork.{handed_as, tells_handed, tells_still}
use Rattle.engine_planner.proofs.PlanStates.{on_ok_both}
use Rattle.simplex_member.specs.Calls.{reply_facts}
use Rattle.engine_outbox.specs.CertificateCalls.{certificate_call}
use Rattle.engine_outbox.specs.Outputs.{work_in}
use Rattle.engine_planner.specs.Causes.{Quorum, reply_causes}
use Rattle.engine_planner.proofs.Causes.{among_last}
use Rattle.engine_planner.proofs.PlannedWork.{among_more}
use Rattle.simplex_engine.specs.Provenance.{pending_causes}
use Rattle.simplex_engine.proofs.Provenance.{comes_called, comes_still, hand_asked}
use Rattle.simplex_engine.proofs.NoMissingCertificates.{handed_plain}
use Rattle.simplex_engine.proofs.ReplyWork.{on_ok_all}
use Rattle.simplex_engine.proofs.engine.Engine.accept.Goals as goal

pub returns-in_err-reply-clause-continues : goal.returns-in_err-reply-clause-continues
returns-in_err-reply-clause-continues g c =
    subst (λ facts. Continues g.D.PartialEq.eq g.L.Elector.elect g.S.CertificateScheme.certificate_bytes
    g.S.Scheme.IsSignature (Some (certificate_subject facts)) c.args.self.now.core c.submit.new.self)
    c.in_ok-copy.ensures.same c.submit.ensures.continues

pub returns-clause-continues : goal.returns-clause-continues
returns-clause-continues g c =
    let bytes_of = g.S.CertificateScheme.certificate_bytes in
    let taken = Some (certificate_subject (certificate_facts bytes_of c.args.certificate.now)) in
    subst (Continues g.D.PartialEq.eq g.L.Elector.elect bytes_of g.S.Scheme.IsSignature taken c.args.self.now.core)
    (sym c.follow_certificate.ensures.core)
    (subst (λ facts. Continues g.D.PartialEq.eq g.L.Elector.elect bytes_of g.S.Scheme.IsSignature
    (Some (certificate_subject facts)) c.args.self.now.core c.submit.new.self) c.in_ok-copy.ensures.same
    c.submit.ensures.continues)

pub returns-clause-dropped : goal.returns-clause-dropped
returns-clause-dropped g c =
    IfOk-weaker c.follow_certificate.result _ _ (λ is_of_use replied no.
    ap (λ core. core.member.facts) c.follow_certificate.ensures.core
    ∙ c.in_ok-reply.ensures.refused (not-false _ (sym replied ∙ no)))
    c.follow_certificate.ensures.of_use

pub returns-clause-acted : goal.returns-clause-acted
returns-clause-acted g c = λ admitted.
    let same = g.D.PartialEq.eq in
    let elect = g.L.Elector.elect in
    let bytes_of = g.S.CertificateScheme.certificate_bytes in
    let answer = reply_facts bytes_of c.in_ok-reply.reply in
    IfOk-weaker c.follow_certificate.result _ _ (λ is_of_use says. record {
      answer = answer;
      answered = handed_as same elect c.args.self.now.core.member.facts answer c.args.now c.in_ok-copy.ensures.same
          c.follow_certificate.ensures.core c.in_ok-reply.ensures.answered;
      useful = says;
    }) c.follow_certificate.ensures.of_use

pub returns-clause-due_work : goal.returns-clause-due_work
returns-clause-due_work g c =
    let same = g.D.PartialEq.eq in
    let elect = g.L.Elector.elect in
    let bytes_of = g.S.CertificateScheme.certificate_bytes in
    let handed = certificate_facts bytes_of c.args.certificate.now in
    let answer = reply_facts bytes_of c.in_ok-reply.reply in
    on_ok_both c.follow_certificate.result c.follow_certificate.ensures.seen c.follow_certificate.ensures.planned
    (tells_handed c.args.self.now c.follow_certificate.new.self handed c.args.now answer
    (handed_as same elect c.args.self.now.core.member.facts answer c.args.now c.in_ok-copy.ensures.same
    c.follow_certificate.ensures.core c.in_ok-reply.ensures.answered)
    (subst (Continues same elect bytes_of g.S.Scheme.IsSignature
    (Some (certificate_subject (certificate_facts bytes_of c.in_ok-copy.copy))) c.args.self.now.core)
    (sym c.follow_certificate.ensures.core)
    c.submit.ensures.continues))

pub returns-then-not-admits-clause-due_work : goal.returns-then-not-admits-clause-due_work
returns-then-not-admits-clause-due_work g c = tells_still c.args.self.now

pub returns-then-not-admits-clause-provenance : goal.returns-then-not-admits-clause-provenance
returns-then-not-admits-clause-provenance g c =
    comes_still refl refl (λ kind view. refl)
    (among_last (Quorum (certificate_subject
    (certificate_facts g.S.CertificateScheme.certificate_bytes c.args.certificate.now)) ∷ [])
    (pending_causes c.args.self.now))

pub returns-clause-provenance : goal.returns-clause-provenance
returns-clause-provenance g c =
    let same = g.D.PartialEq.eq in
    let elect = g.L.Elector.elect in
    let bytes_of = g.S.CertificateScheme.certificate_bytes in
    let handed = certificate_facts bytes_of c.args.certificate.now in
    let came = Quorum (certificate_subject handed) ∷ [] in
    let answered =
    handed_as same elect c.args.self.now.core.member.facts (reply_facts bytes_of c.in_ok-reply.reply) c.args.now
    c.in_ok-copy.ensures.same c.follow_certificate.ensures.core c.in_ok-reply.ensures.answered
    in
    let plain = handed_plain same elect bytes_of c.args.self.now.core.member.facts
    c.follow_certificate.new.self.core.member.facts c.args.now handed c.in_ok-reply.reply answered in
    on_ok_all c.follow_certificate.result c.follow_certificate.ensures.causes (c.follow_certificate.ensures.asks plain)
    (c.follow_certificate.ensures.works plain)
    (λ causes asks works. comes_called (certificate_call handed c.args.now) c.in_ok-reply.reply (λ kind view. refl)
    (inr (inr (handed, refl, among_more came (pending_causes c.args.self.now)))) answered
    (hand_asked c.args.self.now c.follow_certificate.new.self came
    (reply_causes c.args.now c.in_ok-reply.reply (certificate_call handed c.args.now))
    (ap (λ core. work_in core.outbox.queue.items) c.follow_certificate.ensures.core ∙ c.submit.ensures.no_work) causes)
    asks works)
