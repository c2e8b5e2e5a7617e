-- Exactly what the member accepts as final is reported.
use Rattle.std.proofs.Common.{◌≡◌, [], ◌++◌, Some, refl, ap, sym, subst, ◌∙◌}
use Rattle.std.specs.Prelude.{All, option_to_list}
use Rattle.std.proofs.lemmas.List.Elements.{All-cons, All-nil}
use Rattle.simplex_types.specs.Certificates.{certificate_facts}
use Rattle.simplex_types.specs.Encoding.{certificate_subject}
use Rattle.simplex_member.specs.Calls.{asked, reply_facts}
use Rattle.simplex_member.specs.MemberFacts.{IsCall}
use Rattle.simplex_member.specs.ReplySignatures.{signed_reply}
use Rattle.laws_safety.specs.ObservedTraces.{votes_in, taken_by}
use Rattle.laws_safety.specs.Traces.{Accepts}
use Rattle.engine_outbox.specs.SubjectActions.{IsActionOn, final_by}
use Rattle.engine_outbox.specs.Finalizations.{finals_by, ReportsRising}
use Rattle.engine_outbox.specs.Outboxes.{IsReported}
use Rattle.engine_outbox.proofs.SubjectActions.{call_on}
use Rattle.engine_outbox.proofs.IgnoredCalls.{refused_left}
use Rattle.engine_outbox.proofs.FinalOutputs.{replied_by_call, final_events}
use Rattle.engine_outbox.proofs.Finalizations.{replied_tells}
use Rattle.engine_outbox.proofs.Torn.{call_grows}
use Rattle.engine_outbox.proofs.TracedOutputs.{traced_call, reply_signed}
use Rattle.engine_outbox.proofs.Continuity.{call_risen}
use Rattle.engine_outbox.proofs.Kept.{called}
use Rattle.engine_outbox.proofs.QueuedOutputs.{replied_no_work}
use Rattle.engine_outbox.proofs.Signatures.{called_signed, call_signs, call_signed}
use Rattle.engine_outbox.proofs.journaled.Journaled.take.Goals as goal

pub returns-clause-signed : goal.returns-clause-signed
returns-clause-signed g c =
    let bytes_of = g.S.CertificateScheme.certificate_bytes in
    let same = g.D.PartialEq.eq in
    let elect = g.L.Elector.elect in
    let old = c.args.self.now in
    let left = c.call-reply.new.self in
    let tells = final_by c.finalized_by-finalized.result c.call-reply.result in
    let is_reported : IsReported tells old.outbox c.tell.new.self =
    subst (λ f. IsReported f old.outbox c.tell.new.self) c.final_by.ensures c.tell.ensures.reported in
    called_signed g.S.Scheme.IsSignature old (record old { member = left; outbox = c.tell.new.self })
    (signed_reply c.call-reply.result) c.call-reply.ensures.votes
    (λ i key. call_signs same elect i key old.member.facts _ _ left.facts c.call-reply.ensures.answered)
    (λ i key. call_signed same elect g.S.Scheme.IsSignature i key bytes_of old.member.facts left.facts _
    c.call-reply.result c.call-reply.ensures.answered c.call-reply.ensures.exact c.call-reply.ensures.signed)
    tells is_reported

pub returns-clause-continues : goal.returns-clause-continues
returns-clause-continues g c =
    let same = g.D.PartialEq.eq in
    let elect = g.L.Elector.elect in
    let bytes_of = g.S.CertificateScheme.certificate_bytes in
    let on = certificate_subject (certificate_facts bytes_of c.args.certificate) in
    let old = c.args.self.now in
    let call = c.call_with_certificate.result in
    let answer = c.call-reply.result in
    let tells = final_by c.finalized_by-finalized.result answer in
    let more = taken_by call answer ++ votes_in answer in
    let finals : finals_by more ≡ option_to_list tells =
    final_events call answer c.finalized_by-finalized.result
    (ap finals_by c.call_with_certificate.ensures.hands ∙ c.finalized_by-finalized.ensures) in
    let is_reported : IsReported tells old.outbox c.tell.new.self =
    subst (λ f. IsReported f old.outbox c.tell.new.self) c.final_by.ensures c.tell.ensures.reported in
    let rising : ReportsRising (finals_by more) old.outbox c.tell.new.self =
    subst (λ ps. ReportsRising ps old.outbox c.tell.new.self) (sym finals)
    (replied_tells tells old.outbox c.tell.new.self is_reported) in
    let new = record old { member = c.call-reply.new.self; outbox = c.tell.new.self } in
    let keeps = called bytes_of old new refl refl refl c.call-reply.ensures.grown (signed_reply answer)
    c.call-reply.ensures.votes c.call-reply.ensures.stored c.tell.ensures.continues tells is_reported
    (λ last. replied_by_call same elect bytes_of old.member.facts c.call-reply.new.self.facts call answer
    c.call-reply.ensures.answered
    old.outbox.reported c.tell.new.self.reported last rising.reported) in
    record {
      kept = keeps;
      more = more;
      on_this = call_on (Some on) call answer
          (subst (All (IsActionOn (Some on))) (sym c.call_with_certificate.ensures.hands)
          (All-cons (IsActionOn (Some on)) (Accepts on) [] refl (All-nil (IsActionOn (Some on)))));
      done = c.call-reply.ensures.continues;
      traced = traced_call same elect bytes_of old new more refl refl keeps c.call-reply.ensures.continues
          c.record-record.result.now c.record-record.ensures.entries c.record-record.ensures.votes
          (call_grows same elect old.member.facts c.call-reply.new.self.facts _ _ c.call-reply.ensures.answered)
          c.call-reply.ensures.stored
          (signed_reply answer) c.call-reply.ensures.votes (reply_signed call answer) tells is_reported rising;
      signed = returns-clause-signed g c;
      reported = rising;
      queued = c.tell.ensures.grown;
      risen = call_risen same elect old.member.facts _ _ c.call-reply.new.self.facts c.call-reply.ensures.answered;
    }

pub returns-clause-answered : goal.returns-clause-answered
returns-clause-answered g c =
    let bytes_of = g.S.CertificateScheme.certificate_bytes in
    subst (λ a. IsCall g.D.PartialEq.eq g.L.Elector.elect c.args.self.now.member.facts a
    (reply_facts bytes_of c.call-reply.result) c.call-reply.new.self.facts)
    c.call_with_certificate.ensures.asked c.call-reply.ensures.answered

pub returns-clause-refused : goal.returns-clause-refused
returns-clause-refused g c refused =
    let bytes_of = g.S.CertificateScheme.certificate_bytes in
    refused_left g.D.PartialEq.eq g.L.Elector.elect c.args.self.now.member.facts c.call-reply.new.self.facts
    (asked bytes_of c.call_with_certificate.result) (reply_facts bytes_of c.call-reply.result)
    c.call-reply.ensures.answered refused

pub returns-clause-no_work : goal.returns-clause-no_work
returns-clause-no_work g c = replied_no_work c.final_by.result c.args.self.now.outbox c.tell.new.self
    c.tell.ensures.reported
