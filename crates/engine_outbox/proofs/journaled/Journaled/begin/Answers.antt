use Rattle.std.proofs.Common.{◌≡◌, ◌-◌, ◌^◌, ap, sym, subst, ◌∙◌, [], ◌∷◌, ◌++◌, length, arith}
use Rattle.std.specs.Prelude.{Contains, IfSome}
use Rattle.engine_outbox.specs.declared.output.Output.TheVariants as output
use Rattle.engine_outbox.specs.Finalizations.{finals_in}
use Rattle.engine_outbox.specs.Outboxes.{IsReplaced}
use Rattle.engine_outbox.proofs.Begun.{begun}
use Rattle.simplex_record.specs.Entries.{entries_of}
use Rattle.engine_outbox.specs.RecordReach.{lowest_of}
use Rattle.engine_outbox.proofs.Journals.{copied_votes}
use Rattle.engine_outbox.proofs.Kept.{counted}
use Rattle.engine_outbox.proofs.RecordReach.{reaches_whole}
use Rattle.engine_outbox.specs.HostStops.{MayStopAfterEach}
use Rattle.engine_outbox.proofs.HostStops.{stop_last, stops_begun}
use Rattle.engine_outbox.proofs.Torn.{amid_none}
use Rattle.std.proofs.lemmas.List.{append-nil}
use Rattle.engine_outbox.specs.Entries.{votes_of_entries}
use Rattle.engine_outbox.specs.Outputs.{stored_in}
use Rattle.engine_outbox.specs.HostStops.{votes_recorded}
use Rattle.engine_outbox.specs.Signatures.{AreSigned}
use Rattle.engine_outbox.proofs.EmittedVotes.{all_signed}
use Rattle.engine_outbox.proofs.journaled.Journaled.begin.Goals as goal

pub returns-clause-kept : goal.returns-clause-kept
returns-clause-kept g c =
    let bytes_of = g.S.CertificateScheme.certificate_bytes in
    let member = c.args.member in
    let all = c.record in
    let entries = member.facts.entries in
    let same_length : length c.record-stored.result.now ≡ length all.result.now =
    sym (counted bytes_of c.record-stored.result.now entries c.record-stored.ensures.entries)
    ∙ counted bytes_of all.result.now entries all.ensures.entries in
    begun bytes_of member c.new-outbox.result c.replace.new.self (length c.record-stored.result.now)
    c.lowest_of-reach.result c.new-outbox.ensures.begins c.new-outbox.ensures.empty.0
    c.in_ok-replace.ensures.queued.2.reported_is
    (subst (λ t. IfSome member.facts.life (λ x. t ≡ x.finalized)) (sym c.new-outbox.ensures.empty.2)
    c.last_finalized.ensures) c.replace.ensures.continues all.result.now same_length all.ensures.entries
    all.ensures.votes
    (subst (λ beside. IsReplaced bytes_of all.result.now beside c.new-outbox.result c.replace.new.self) c.stored.ensures
    c.in_ok-replace.ensures.queued)
    (reaches_whole c.lowest_of-reach.result (length c.record-stored.result.now) entries
    (counted bytes_of c.record-stored.result.now entries c.record-stored.ensures.entries)
    (c.lowest_of-reach.ensures ∙ ap (λ v. lowest_of v (entries_of bytes_of c.record-2.result.now)) c.new.ensures
    ∙ ap (lowest_of (2 ^ 64 - 1)) c.record-2.ensures.entries))

pub returns-clause-whole : goal.returns-clause-whole
returns-clause-whole g c =
    let same_length = counted g.S.CertificateScheme.certificate_bytes c.record-stored.result.now
    c.args.member.facts.entries c.record-stored.ensures.entries in
    omega (arith, same_length)

pub returns-clause-reported : goal.returns-clause-reported
returns-clause-reported g c =
    ap finals_in (c.in_ok-replace.ensures.queued.2.queue
    ∙ ap (λ q. q ++ output.Replace c.in_ok-replace.ensures.queued.0 c.stored.result ∷ [])
    c.new-outbox.ensures.empty.0)

pub returns-clause-begins : goal.returns-clause-begins
returns-clause-begins g c =
    let is = c.in_ok-replace.ensures.queued in
    let bytes_of = g.S.CertificateScheme.certificate_bytes in
    record {
      copies = is.0;
      outs_are =
          is.2.queue ∙ ap (λ q. q ++ output.Replace is.0 c.stored.result ∷ []) c.new-outbox.ensures.empty.0
          ∙ ap (λ beside. output.Replace is.0 beside ∷ []) c.stored.ensures;
      entries = is.1.0 ∙ c.record.ensures.entries;
      votes = copied_votes bytes_of c.record.result.now is.0.items is.1 ∙ c.record.ensures.votes;
    }

pub returns-clause-traced : goal.returns-clause-traced
returns-clause-traced g c = λ term_length i all done signed.
    let bytes_of = g.S.CertificateScheme.certificate_bytes in
    let begins = returns-clause-begins g c in
    let stops = subst (MayStopAfterEach g.D.PartialEq.eq g.L.Elector.elect bytes_of term_length i all all)
    (sym begins.outs_are)
    (stops_begun g.D.PartialEq.eq g.L.Elector.elect bytes_of term_length i all begins.copies c.args.member done signed
    begins.entries begins.votes) in
    record {
      kept = returns-clause-kept g c;
      done = done;
      signed = signed;
      finals = λ p has. absurd (omega (arith, (subst (λ ps. Contains ps p) (returns-clause-reported g c) has).1));
      stops = λ lives. stops;
      amid = λ lives. amid_none g.D.PartialEq.eq g.L.Elector.elect bytes_of term_length i all all
          c.replace.new.self.queue.items c.args.member (length c.record-stored.result.now)
          (omega (
            arith,
            counted bytes_of c.record-stored.result.now c.args.member.facts.entries
                c.record-stored.ensures.entries,
          ))
          (stop_last g.D.PartialEq.eq g.L.Elector.elect bytes_of term_length i all all c.replace.new.self.queue.items
          stops);
    }

pub returns-clause-signed : goal.returns-clause-signed
returns-clause-signed g c i key signs recorded =
    let begins = returns-clause-begins g c in
    record {
      signs = signs;
      recorded = recorded;
      stored = subst (AreSigned g.S.Scheme.IsSignature i key)
          (sym (ap (λ outs. votes_of_entries (stored_in outs)) begins.outs_are
          ∙ ap votes_of_entries (append-nil begins.copies.items) ∙ all_signed begins.copies.items
          ∙ ap votes_recorded begins.votes)) recorded;
    }
