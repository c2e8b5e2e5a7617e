use Rattle.std.proofs.Common.{◌++◌, None, refl, ap, sym, subst}
use Rattle.std.specs.Prelude.{All}
use Rattle.std.proofs.lemmas.List.Elements.{All-nil}
use Rattle.simplex_member.specs.Calls.{asked, reply_facts}
use Rattle.simplex_member.specs.ReplySignatures.{signed_reply}
use Rattle.laws_safety.specs.ObservedTraces.{votes_in, taken_by}
use Rattle.engine_outbox.specs.SubjectActions.{IsActionOn}
use Rattle.engine_outbox.specs.Finalizations.{finals_by, raised_to, ReportsRising}
use Rattle.engine_outbox.proofs.SubjectActions.{call_on}
use Rattle.engine_outbox.proofs.IgnoredCalls.{refused_left, dropped_left}
use Rattle.engine_outbox.proofs.FinalOutputs.{replied_by_call, final_none}
use Rattle.engine_outbox.proofs.Finalizations.{tells_none}
use Rattle.engine_outbox.proofs.Torn.{call_grows}
use Rattle.engine_outbox.proofs.TracedOutputs.{traced_call, reply_signed}
use Rattle.engine_outbox.proofs.Continuity.{call_risen}
use Rattle.engine_outbox.proofs.Kept.{called}
use Rattle.engine_outbox.proofs.Queued.{queues_none}
use Rattle.engine_outbox.proofs.Signatures.{called_signed, call_signs, call_signed}
use Rattle.engine_outbox.proofs.journaled.Journaled.call.Goals as goal

pub returns-clause-signed : goal.returns-clause-signed
returns-clause-signed g c =
    let bytes_of = g.S.CertificateScheme.certificate_bytes in
    let same = g.D.PartialEq.eq in
    let elect = g.L.Elector.elect in
    let old = c.args.self.now in
    let left = c.call.new.self in
    called_signed g.S.Scheme.IsSignature old (record old { member = left }) (signed_reply c.call.result)
    c.call.ensures.votes
    (λ i key. call_signs same elect i key old.member.facts _ _ left.facts c.call.ensures.answered)
    (λ i key. call_signed same elect g.S.Scheme.IsSignature i key bytes_of old.member.facts left.facts _ c.call.result
    c.call.ensures.answered c.call.ensures.exact c.call.ensures.signed)
    None (refl, refl, refl)

pub returns-clause-continues : goal.returns-clause-continues
returns-clause-continues g c taken may no_final =
    let bytes_of = g.S.CertificateScheme.certificate_bytes in
    let old = c.args.self.now in
    let none = final_none c.args.call c.call.result no_final in
    let new = record old { member = c.call.new.self } in
    let rising : ReportsRising (finals_by (taken_by c.args.call c.call.result ++ votes_in c.call.result)) old.outbox
    old.outbox =
    subst (λ ps. ReportsRising ps old.outbox old.outbox) (sym none) (tells_none old.outbox old.outbox refl refl) in
    let keeps = called bytes_of old new refl refl refl c.call.ensures.grown (signed_reply c.call.result)
    c.call.ensures.votes c.call.ensures.stored
    (λ given lawful. lawful) None (refl, refl, refl)
    (λ last. replied_by_call g.D.PartialEq.eq g.L.Elector.elect bytes_of old.member.facts c.call.new.self.facts
    c.args.call
    c.call.result c.call.ensures.answered
    old.outbox.reported old.outbox.reported last (sym (ap (raised_to old.outbox.reported) none))) in
    record {
      kept = keeps;
      more = taken_by c.args.call c.call.result ++ votes_in c.call.result;
      on_this = call_on taken c.args.call c.call.result may;
      done = c.call.ensures.continues;
      traced = traced_call g.D.PartialEq.eq g.L.Elector.elect bytes_of old new
          (taken_by c.args.call c.call.result ++ votes_in c.call.result) refl refl keeps c.call.ensures.continues
          c.record-record.result.now c.record-record.ensures.entries c.record-record.ensures.votes
          (call_grows g.D.PartialEq.eq g.L.Elector.elect old.member.facts c.call.new.self.facts _ _
          c.call.ensures.answered) c.call.ensures.stored
          (signed_reply c.call.result) c.call.ensures.votes (reply_signed c.args.call c.call.result) None
          (refl, refl, refl) rising;
      signed = returns-clause-signed g c;
      reported = rising;
      queued = queues_none old.outbox;
      risen = call_risen g.D.PartialEq.eq g.L.Elector.elect old.member.facts _ _ c.call.new.self.facts
          c.call.ensures.answered;
    }

pub returns-clause-quiet : goal.returns-clause-quiet
returns-clause-quiet g c none = returns-clause-continues g c None
    (subst (All (IsActionOn None)) (sym none) (All-nil (IsActionOn None))) (ap finals_by none)

pub returns-clause-refused : goal.returns-clause-refused
returns-clause-refused g c refused =
    let bytes_of = g.S.CertificateScheme.certificate_bytes in
    refused_left g.D.PartialEq.eq g.L.Elector.elect c.args.self.now.member.facts c.call.new.self.facts
    (asked bytes_of c.args.call) (reply_facts bytes_of c.call.result) c.call.ensures.answered refused

pub returns-clause-dropped : goal.returns-clause-dropped
returns-clause-dropped g c says =
    let bytes_of = g.S.CertificateScheme.certificate_bytes in
    dropped_left g.D.PartialEq.eq g.L.Elector.elect c.args.self.now.member.facts c.call.new.self.facts
    (asked bytes_of c.args.call) (reply_facts bytes_of c.call.result) c.call.ensures.answered says
