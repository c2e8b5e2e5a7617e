use Rattle.std.proofs.Common.{◌≡◌, ◌-◌, ◌^◌, ℕ, [], true, None, refl, ap, sym, subst, ◌∙◌, length, arith}
use Rattle.std.proofs.lemmas.List.Elements.{All-nil}
use Rattle.laws_safety.specs.LifetimeLaws.{WhileAlive}
use Rattle.std.specs.Prelude.{IfSome}
use Rattle.simplex_member.specs.Journal.{stored_of}
use Rattle.simplex_member.specs.MemberFacts.{MemberFacts}
use Rattle.simplex_member.specs.PrunedRecord.{pruned_member, stays_within}
use Rattle.simplex_record.specs.Entries.{entries_of, entry_view}
use Rattle.engine_outbox.proofs.HostStops.{signed_left}
use Rattle.engine_outbox.specs.HostStops.{WereSigned, votes_recorded}
use Rattle.engine_outbox.specs.SubjectActions.{IsActionOn}
use Rattle.engine_outbox.specs.Continuity.{HasRisen}
use Rattle.engine_outbox.specs.Outboxes.{IsReplaced}
use Rattle.engine_outbox.proofs.Finalizations.{stayed_tells}
use Rattle.engine_outbox.proofs.TracedOutputs.{traced_replaced, traced_end}
use Rattle.engine_outbox.proofs.Continuity.{risen_not}
use Rattle.engine_outbox.specs.RecordReach.{lowest_of}
use Rattle.engine_outbox.proofs.Kept.{Keeps, replaced, replaced_tells, still_leaving, ended, counted}
use Rattle.engine_outbox.proofs.RecordReach.{reaches_whole}
use Rattle.engine_outbox.proofs.QueuedOutputs.{replaced_no_work, stayed_no_work}
use Rattle.engine_outbox.proofs.Signatures.{pruned_replaced, pruned_signed, signed_stayed}
use Rattle.engine_outbox.specs.Signatures.{SignsBy}
use Rattle.engine_outbox.proofs.journaled.Journaled.replace.Goals as goal

-- a record that is pruned is of the same lifetime
still_replied : {K L D : Type 0} (old new : MemberFacts K L D) → new ≡ pruned_member old → (before after : ℕ)
    → after ≡ before
    → IfSome old.life (λ x. before ≡ x.finalized) → IfSome new.life (λ x. after ≡ x.finalized)
still_replied old new is before after same last =
    subst (λ t. IfSome new.life (λ x. t ≡ x.finalized)) (sym same)
    (subst (λ m. IfSome m.life (λ x. before ≡ x.finalized)) (sym is) last)

pub returns-in-Ok-clause-signed : goal.returns-in-Ok-clause-signed
returns-in-Ok-clause-signed g c =
    let bytes_of = g.S.CertificateScheme.certificate_bytes in
    let old = c.args.self.now in
    let new = record old {
      member = c.prune_record.new.self;
      outbox = c.replace.new.self;
      stored = length c.record.result.now;
      reach = c.lowest_of-self.result;
    } in
    pruned_replaced g.S.Scheme.IsSignature old new bytes_of (λ v. stays_within old.member.facts (entry_view v.vote))
    c.prune_record.ensures.votes
    (λ i key signs. subst (SignsBy i key) (sym c.prune_record.ensures.pruned) signs) c.record-3.result.now
    c.record-3.ensures.votes c.stored.result c.in-Ok.ensures.queued

pub returns-in-Err-clause-signed : goal.returns-in-Err-clause-signed
returns-in-Err-clause-signed g c =
    let old = c.args.self.now in
    let new = record old {
      member = c.prune_record.new.self;
      outbox = c.replace.new.self;
      stored = length c.record.result.now;
      reach = c.lowest_of-self.result;
      failed = true;
    } in
    signed_stayed g.S.Scheme.IsSignature old new
    (λ i key signs. subst (SignsBy i key) (sym c.prune_record.ensures.pruned) signs)
    (λ i key _. pruned_signed g.S.Scheme.IsSignature old new (λ v. stays_within old.member.facts (entry_view v.vote))
    c.prune_record.ensures.votes i key) c.in-Err.ensures.kept

pub returns-in-Ok-clause-continues : goal.returns-in-Ok-clause-continues
returns-in-Ok-clause-continues g c =
    let bytes_of = g.S.CertificateScheme.certificate_bytes in
    let old = c.args.self.now in
    let all = c.record-3 in
    let entries = c.prune_record.new.self.facts.entries in
    let new = record old {
      member = c.prune_record.new.self;
      outbox = c.replace.new.self;
      stored = length c.record.result.now;
      reach = c.lowest_of-self.result;
    } in
    let same_length : length c.record.result.now ≡ length all.result.now =
    sym (counted bytes_of c.record.result.now entries c.record.ensures.entries)
    ∙ counted bytes_of all.result.now entries all.ensures.entries in
    let is_replaced : IsReplaced bytes_of all.result.now (stored_of c.prune_record.new.self.facts) old.outbox
    c.replace.new.self =
    subst (λ beside. IsReplaced bytes_of all.result.now beside old.outbox c.replace.new.self) c.stored.ensures
    c.in-Ok.ensures.queued in
    let keeps : Keeps bytes_of old new = λ given kept.
    replaced bytes_of old new given c.replace.ensures.continues all.result.now same_length all.ensures.entries
    all.ensures.votes
    is_replaced
    (λ lives. still_leaving bytes_of old new given (stays_within old.member.facts) (kept.emitted lives)
    (c.requires given kept lives)
    all.result.now (all.ensures.votes ∙ c.prune_record.ensures.votes) c.stored.result c.in-Ok.ensures.queued)
    (still_replied old.member.facts c.prune_record.new.self.facts c.prune_record.ensures.pruned old.outbox.reported
    c.replace.new.self.reported c.in-Ok.ensures.queued.2.reported_is)
    (reaches_whole c.lowest_of-self.result (length c.record.result.now) entries
    (counted bytes_of c.record.result.now entries c.record.ensures.entries)
    (c.lowest_of-self.ensures ∙ ap (λ v. lowest_of v (entries_of bytes_of c.record-2.result.now)) c.new.ensures
    ∙ ap (lowest_of (2 ^ 64 - 1)) c.record-2.ensures.entries)) kept in
    record {
      kept = keeps;
      traced = traced_replaced g.D.PartialEq.eq g.L.Elector.elect bytes_of old new refl keeps
          c.prune_record.ensures.continues (λ v. stays_within old.member.facts (entry_view v.vote))
          c.prune_record.ensures.votes
          all.result.now same_length all.ensures.entries all.ensures.votes is_replaced
          (replaced_tells bytes_of old new all.result.now c.stored.result c.in-Ok.ensures.queued);
      more = [];
      on_this = All-nil (IsActionOn None);
      done = c.prune_record.ensures.continues;
      signed = returns-in-Ok-clause-signed g c;
      reported = replaced_tells bytes_of old new all.result.now c.stored.result c.in-Ok.ensures.queued;
      queued = c.replace.ensures.grown;
      risen = subst (λ m. WhileAlive HasRisen old.member.facts.life m.life) (sym c.prune_record.ensures.pruned)
          (risen_not old.member.facts);
    }

pub returns-in-Err-clause-continues : goal.returns-in-Err-clause-continues
returns-in-Err-clause-continues g c =
    let bytes_of = g.S.CertificateScheme.certificate_bytes in
    let old = c.args.self.now in
    let entries = c.prune_record.new.self.facts.entries in
    let new = record old {
      member = c.prune_record.new.self;
      outbox = c.replace.new.self;
      stored = length c.record.result.now;
      reach = c.lowest_of-self.result;
      failed = true;
    } in
    let keeps = ended bytes_of old new refl
    (λ _. reaches_whole c.lowest_of-self.result (length c.record.result.now) entries
    (counted bytes_of c.record.result.now entries c.record.ensures.entries)
    (c.lowest_of-self.ensures ∙ ap (λ v. lowest_of v (entries_of bytes_of c.record-2.result.now)) c.new.ensures
    ∙ ap (lowest_of (2 ^ 64 - 1)) c.record-2.ensures.entries)) c.replace.ensures.continues
    (still_replied old.member.facts c.prune_record.new.self.facts c.prune_record.ensures.pruned old.outbox.reported
    c.replace.new.self.reported c.in-Err.ensures.kept.2) in
    record {
      kept = keeps;
      traced = traced_end g.D.PartialEq.eq g.L.Elector.elect bytes_of old new refl keeps
          c.prune_record.ensures.continues
          (λ all signed. subst (λ vs. WereSigned all (votes_recorded vs)) (sym c.prune_record.ensures.votes)
          (signed_left all (λ v. stays_within old.member.facts (entry_view v.vote)) old.member.votes signed))
          (stayed_tells old.outbox c.replace.new.self c.in-Err.ensures.kept);
      more = [];
      on_this = All-nil (IsActionOn None);
      done = c.prune_record.ensures.continues;
      signed = returns-in-Err-clause-signed g c;
      reported = stayed_tells old.outbox c.replace.new.self c.in-Err.ensures.kept;
      queued = c.replace.ensures.grown;
      risen = subst (λ m. WhileAlive HasRisen old.member.facts.life m.life) (sym c.prune_record.ensures.pruned)
          (risen_not old.member.facts);
    }

pub returns-in-Ok-clause-whole : goal.returns-in-Ok-clause-whole
returns-in-Ok-clause-whole g c =
    let same_length = counted g.S.CertificateScheme.certificate_bytes c.record.result.now
    c.prune_record.new.self.facts.entries c.record.ensures.entries in
    omega (arith, same_length)

pub returns-in-Ok-clause-no_work : goal.returns-in-Ok-clause-no_work
returns-in-Ok-clause-no_work g c =
    replaced_no_work g.S.CertificateScheme.certificate_bytes c.record-3.result.now c.stored.result
    c.args.self.now.outbox c.replace.new.self c.in-Ok.ensures.queued

pub returns-in-Err-clause-no_work : goal.returns-in-Err-clause-no_work
returns-in-Err-clause-no_work g c = stayed_no_work c.args.self.now.outbox c.replace.new.self c.in-Err.ensures.kept
