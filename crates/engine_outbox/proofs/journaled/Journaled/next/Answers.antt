-- The returned output was the first in the queue.
use Rattle.std.proofs.Common.{◌≡◌, ◌++◌, ap, sym, subst, ◌∙◌, append_assoc}
use Rattle.std.specs.Prelude.{IfSome, option_to_list}
use Rattle.engine_outbox.specs.Finalizations.{finals_in, WereAccepted}
use Rattle.engine_outbox.specs.EmittedVotes.{AllAreReturned}
use Rattle.engine_outbox.specs.Journals.{journal_of, IsBeginningOf}
use Rattle.engine_outbox.specs.HostStops.{MayStopAfterEach, MayStopAmid}
use Rattle.engine_outbox.specs.Entries.{votes_of_entries}
use Rattle.engine_outbox.specs.Outputs.{stored_in}
use Rattle.engine_outbox.specs.Signatures.{AreSigned}
use Rattle.engine_outbox.proofs.journaled.Journaled.next.Goals as goal

pub returns-clause-kept : goal.returns-clause-kept
returns-clause-kept g c = λ given kept.
    let old = c.args.self.now in
    let out = option_to_list c.next.result in
    record {
      lawful = c.next.ensures.continues given kept.lawful;
      stored = λ lives.
          subst (IsBeginningOf g.S.CertificateScheme.certificate_bytes old.member old.stored)
          (ap (λ queued. journal_of (given ++ queued)) c.next.ensures.front
          ∙ ap journal_of (sym (append_assoc given out c.next.new.self.queue.items)))
          (kept.stored lives);
      emitted = λ lives. subst AllAreReturned
          (ap (λ queued. given ++ queued) c.next.ensures.front
          ∙ sym (append_assoc given out c.next.new.self.queue.items)) (kept.emitted lives);
      reported = subst (λ t. IfSome old.member.facts.life (λ x. t ≡ x.finalized))
          (sym c.next.ensures.reported) kept.reported;
      reaching = kept.reaching;
    }

pub returns-clause-reported : goal.returns-clause-reported
returns-clause-reported g c = record { queued = ap finals_in c.next.ensures.front; reported = c.next.ensures.reported }

pub returns-clause-traced : goal.returns-clause-traced
returns-clause-traced g c = λ term_length i earlier given all is.
    let old = c.args.self.now in
    let out = option_to_list c.next.result in
    record {
      kept = returns-clause-kept g c given is.kept;
      done = is.done;
      signed = is.signed;
      finals = subst (λ outs. WereAccepted all (finals_in outs))
          (ap (λ queued. given ++ queued) c.next.ensures.front
          ∙ sym (append_assoc given out c.next.new.self.queue.items)) is.finals;
      stops = λ lives.
          subst (MayStopAfterEach g.D.PartialEq.eq g.L.Elector.elect g.S.CertificateScheme.certificate_bytes term_length
          i earlier all)
          (ap (λ queued. given ++ queued) c.next.ensures.front
          ∙ sym (append_assoc given out c.next.new.self.queue.items)) (is.stops lives);
      amid = λ lives.
          subst (λ outs. MayStopAmid g.D.PartialEq.eq g.L.Elector.elect g.S.CertificateScheme.certificate_bytes
          term_length i earlier all outs old.member old.stored)
          (ap (λ queued. given ++ queued) c.next.ensures.front
          ∙ sym (append_assoc given out c.next.new.self.queue.items)) (is.amid lives);
    }

pub returns-clause-signed : goal.returns-clause-signed
returns-clause-signed g c i key given is = record {
  signs = is.signs;
  recorded = is.recorded;
  stored = subst (λ outs. AreSigned g.S.Scheme.IsSignature i key (votes_of_entries (stored_in outs)))
      (ap (λ queued. given ++ queued) c.next.ensures.front
      ∙ sym (append_assoc given (option_to_list c.next.result) c.next.new.self.queue.items)) is.stored;
}
