-- For the code of the engine.
-- What each step of a member with its outbox keeps.
use Rattle.std.proofs.Common.{◌≡◌, ℕ, Bool, true, false, nat_lt, List, [], ◌∷◌, ◌++◌, drop, filter, length, Option, Some, None, refl, ap, sym, subst, ◌∙◌, append_assoc}
use Rattle.std.specs.Prelude.{IfSome}
use Rattle.std.proofs.lemmas.List.{length-map}
use Rattle.std.proofs.lemmas.List.Elements.{All-nil}
use Rattle.simplex_types.specs.Certificates.{ArtifactFacts, artifact_facts}
use Rattle.simplex_types.specs.declared.types.messages.Artifact.{Artifact}
use Rattle.simplex_types.specs.declared.types.messages.Proposal.{Proposal}
use Rattle.simplex_types.specs.declared.types.messages.Subject.{Subject}
use Rattle.simplex_voter.specs.Facts.{Elect}
use Rattle.simplex_record.specs.Entries.{entries_of, entry_view}
use Rattle.simplex_record.specs.Votes.{SignedVote, votes_of}
use Rattle.simplex_member.specs.Journal.{stored_of, votes_since}
use Rattle.simplex_member.specs.MemberFacts.{HasGrown}
use Rattle.simplex_member.specs.declared.member.journal.Stored.{Stored}
use Rattle.laws_safety.specs.MemberHistory.{ExtendsHistory}
use Rattle.laws_safety.specs.LifetimeLaws.{WhileAlive}
use Rattle.engine_outbox.specs.declared.journaled.Journaled.{Journaled}
use Rattle.engine_outbox.specs.declared.output.Output.{Output}
use Rattle.engine_outbox.specs.declared.output.Output.TheVariants as output
use Rattle.engine_outbox.specs.declared.output.Work.{Work}
use Rattle.engine_votes.specs.declared.votes.Vote.{Vote}
use Rattle.engine_outbox.specs.SubjectActions.{IsActionOn}
use Rattle.engine_outbox.specs.Finalizations.{ReportsRising}
use Rattle.engine_outbox.specs.Outboxes.{IsLawfulOutbox, HasBecome, HasStayed, IsStored, IsReplaced, IsRepeated, IsPassedIf, IsReported, QueuesMore}
use Rattle.engine_outbox.specs.Outputs.{entries_in, storing}
use Rattle.engine_outbox.specs.Journals.{journal_of, IsRecordOf, IsBeginningOf}
use Rattle.engine_outbox.specs.Signatures.{StaysSigned}
use Rattle.engine_outbox.specs.Continuity.{IsJournaled, StaysTraced, Continues, HasRisen}
use Rattle.engine_outbox.proofs.Finalizations.{stayed_tells, become_tells, storing_tells_none}
use Rattle.engine_outbox.proofs.Continuity.{does_nothing, risen_not}
use Rattle.engine_outbox.proofs.Journals.{behind_others, stored_behind, still_begun, stored_too, stored_whole, copied_votes}
use Rattle.engine_outbox.proofs.EmittedVotes.{leave_plain, leave_stored, leave_replaced, leave_replied, was_stored, none_is_new}
use Rattle.engine_outbox.specs.EmittedVotes.{AllAreReturned}
use Rattle.engine_outbox.specs.RecordReach.{ReachesTo}
use Rattle.engine_outbox.proofs.RecordReach.{reaches_still}

-- the last finalized view is the highest one that was reported
abbrev pub HasReportedLast : {S L D K G C : Type 0} → Journaled S L D K G C → Type 0
HasReportedLast member = IfSome member.member.facts.life (λ x. member.outbox.reported ≡ x.finalized)

pub replied_last_still : {S L D K G C : Type 0} (old new : Journaled S L D K G C) → new.member ≡ old.member
    → new.outbox.reported ≡ old.outbox.reported → HasReportedLast old → HasReportedLast new
replied_last_still old new same_member same_replied last =
    subst (λ t. IfSome new.member.facts.life (λ x. t ≡ x.finalized)) (sym same_replied)
    (subst (λ m. IfSome m.facts.life (λ x. old.outbox.reported ≡ x.finalized)) (sym same_member) last)

module _ {S L D K G C : Type 0} (bytes_of : C → List ℕ) (old new : Journaled S L D K G C) where
  abbrev pub Keeps : Type 0
  Keeps = (given : List (Output S D Stored K G C)) → IsJournaled bytes_of given old → IsJournaled bytes_of given new

  abbrev before : List (Output S D Stored K G C) → List (Output S D Stored K G C)
  before given = given ++ old.outbox.queue.items

  -- what is queued after
  queued : (given more : List (Output S D Stored K G C)) (repeat : Option (Vote D G))
      → HasBecome more repeat old.outbox new.outbox → given ++ new.outbox.queue.items ≡ before given ++ more
  queued given more repeat become = ap (λ q. given ++ q) become.queue
      ∙ sym (append_assoc given old.outbox.queue.items more)

  journal_where : (given : List (Output S D Stored K G C)) (p : Proposal D) (is_above : Bool)
      → IsPassedIf is_above p old.outbox new.outbox
      → journal_of (given ++ new.outbox.queue.items) ≡ journal_of (before given)
  journal_where given p true is =
      ap journal_of (ap (λ q. given ++ q) is.0
      ∙ sym (append_assoc given old.outbox.queue.items (output.Finalized p ∷ [])))
      ∙ behind_others (before given) (output.Finalized p ∷ [])
  journal_where given p false is = ap (λ q. journal_of (given ++ q)) is.0

  journal_replied : (given : List (Output S D Stored K G C)) (finalized : Option (Proposal D))
      → IsReported finalized old.outbox new.outbox
      → journal_of (given ++ new.outbox.queue.items) ≡ journal_of (before given)
  journal_replied given None is = ap (λ q. journal_of (given ++ q)) is.0
  journal_replied given (Some p) is = journal_where given p (nat_lt old.outbox.reported p.round.view) is

  -- a call, and what it reports as final
  pub called : new.stored ≡ old.stored → new.reach ≡ old.reach → new.failed ≡ old.failed
      → HasGrown old.member.facts new.member.facts
      → (votes : List (SignedVote D G)) → new.member.votes ≡ old.member.votes ++ votes
      → stored_of new.member.facts ≡ stored_of old.member.facts
      → ((given : List (Output S D Stored K G C)) → IsLawfulOutbox given old.outbox → IsLawfulOutbox given new.outbox)
      → (finalized : Option (Proposal D)) → IsReported finalized old.outbox new.outbox
      → (HasReportedLast old → HasReportedLast new)
      → Keeps
  called same_stored same_reach same_failed grown votes voted same lawful finalized tells last given kept = record {
    lawful = lawful given kept.lawful;
    stored = λ lives.
        subst (λ journal. IsBeginningOf bytes_of new.member new.stored journal)
        (sym (journal_replied given finalized tells))
        (subst (λ n. IsBeginningOf bytes_of new.member n (journal_of (before given))) (sym same_stored)
        (still_begun bytes_of old.member old.stored (journal_of (before given)) (kept.stored (sym same_failed ∙ lives))
        new.member grown.0 votes grown.1 voted same));
    emitted = λ lives. leave_replied given old.outbox new.outbox finalized tells
        (kept.emitted (sym same_failed ∙ lives));
    reported = last kept.reported;
    reaching = subst (λ count. ReachesTo new.reach count new.member.facts.entries) (sym same_stored)
        (subst (λ reach. ReachesTo reach old.stored new.member.facts.entries) (sym same_reach)
        (reaches_still old.reach old.stored old.member.facts new.member.facts grown kept.reaching));
  }

  -- one output more, which stores nothing
  leaves_with : (given : List (Output S D Stored K G C)) (out : Output S D Stored K G C)
      → HasBecome (out ∷ []) old.outbox.repeat old.outbox new.outbox → entries_in out ≡ []
      → AllAreReturned (before given) → AllAreReturned (given ++ new.outbox.queue.items)
  leaves_with given out become plain emitted =
      subst AllAreReturned (sym (queued given (out ∷ []) old.outbox.repeat become))
      (leave_plain (before given) out plain emitted)

  -- the same journal
  same_journal : (given : List (Output S D Stored K G C)) → IsJournaled bytes_of given old → new.member ≡ old.member
      → new.stored ≡ old.stored → new.reach ≡ old.reach → new.failed ≡ old.failed
      → journal_of (given ++ new.outbox.queue.items) ≡ journal_of (before given) → IsLawfulOutbox given new.outbox
      → (AllAreReturned (before given) → AllAreReturned (given ++ new.outbox.queue.items)) → HasReportedLast new
      → IsJournaled bytes_of given new
  same_journal given kept same_member same_stored same_reach same_failed same lawful emitted last = record {
    lawful = lawful;
    stored = λ lives.
        subst (λ journal. IsBeginningOf bytes_of new.member new.stored journal) (sym same)
        (subst (λ n. IsBeginningOf bytes_of new.member n (journal_of (before given))) (sym same_stored)
        (subst (λ member. IsBeginningOf bytes_of member old.stored (journal_of (before given))) (sym same_member)
        (kept.stored (sym same_failed ∙ lives))));
    emitted = λ lives. emitted (kept.emitted (sym same_failed ∙ lives));
    reported = last;
    reaching = subst (λ member. ReachesTo new.reach new.stored member.facts.entries) (sym same_member)
        (subst (λ count. ReachesTo new.reach count old.member.facts.entries) (sym same_stored)
        (subst (λ reach. ReachesTo reach old.stored old.member.facts.entries) (sym same_reach) kept.reaching));
  }

  module _ (same_member : new.member ≡ old.member) (same_stored : new.stored ≡ old.stored)
      (same_reach : new.reach ≡ old.reach) (same_failed : new.failed ≡ old.failed)
      (lawful : (given : List (Output S D Stored K G C)) → IsLawfulOutbox given old.outbox
      → IsLawfulOutbox given new.outbox) where
    -- nothing was queued
    pub kept_as_it_was : HasStayed old.outbox new.outbox → Keeps
    kept_as_it_was stayed given kept = same_journal given kept same_member same_stored same_reach same_failed
        (ap (λ q. journal_of (given ++ q)) stayed.0) (lawful given kept.lawful)
        (subst (λ q. AllAreReturned (given ++ q)) (sym stayed.0))
        (replied_last_still old new same_member stayed.2 kept.reported)

    -- work was
    pub pushed : (work : Work S D K G C) → HasBecome (output.Work work ∷ []) old.outbox.repeat old.outbox new.outbox
        → Keeps
    pushed work become given kept =
        same_journal given kept same_member same_stored same_reach same_failed
        (ap journal_of (queued given (output.Work work ∷ []) old.outbox.repeat become)
        ∙ behind_others (before given) (output.Work work ∷ []))
        (lawful given kept.lawful) (leaves_with given (output.Work work) become refl)
        (replied_last_still old new same_member become.reported_is kept.reported)

    voted : (vote : Vote D G) → HasBecome (output.Vote vote ∷ []) old.outbox.repeat old.outbox new.outbox → Keeps
    voted vote become given kept =
        same_journal given kept same_member same_stored same_reach same_failed
        (ap journal_of (queued given (output.Vote vote ∷ []) old.outbox.repeat become)
        ∙ behind_others (before given) (output.Vote vote ∷ []))
        (lawful given kept.lawful) (leaves_with given (output.Vote vote) become refl)
        (replied_last_still old new same_member become.reported_is kept.reported)

    repeated_by : (view : ℕ) (repeat : Option (Vote D G)) (sent : Bool)
        → IsRepeated view repeat sent old.outbox new.outbox → Keeps
    repeated_by view (Some vote) true repeated = voted vote repeated.1
    repeated_by view (Some vote) false repeated = kept_as_it_was repeated.1
    repeated_by view None sent repeated = kept_as_it_was repeated.1

    -- a vote was, once more
    pub repeated : (view : ℕ) (sent : Bool) → IsRepeated view old.outbox.repeat sent old.outbox new.outbox → Keeps
    repeated view sent is = repeated_by view old.outbox.repeat sent is

  repeat_tells : (view : ℕ) (repeat : Option (Vote D G)) (sent : Bool)
      → IsRepeated view repeat sent old.outbox new.outbox → ReportsRising [] old.outbox new.outbox
  repeat_tells view (Some vote) true repeated =
      become_tells (output.Vote vote ∷ []) old.outbox.repeat old.outbox new.outbox refl repeated.1
  repeat_tells view (Some vote) false repeated = stayed_tells old.outbox new.outbox repeated.1
  repeat_tells view None sent repeated = stayed_tells old.outbox new.outbox repeated.1

  -- a vote once more is no proposal
  pub repeated_tells : (view : ℕ) (sent : Bool) → IsRepeated view old.outbox.repeat sent old.outbox new.outbox
      → ReportsRising [] old.outbox new.outbox
  repeated_tells view sent is = repeat_tells view old.outbox.repeat sent is

  -- nor is what is stored
  pub stored_tells : (fresh : List (Artifact S D K G C)) → IsStored bytes_of fresh old.outbox new.outbox
      → ReportsRising [] old.outbox new.outbox
  stored_tells fresh is = become_tells (storing is.0) _ old.outbox new.outbox (storing_tells_none Stored is.0) is.2

  pub replaced_tells : (all : List (Artifact S D K G C)) (beside : Stored)
      → IsReplaced bytes_of all beside old.outbox new.outbox → ReportsRising [] old.outbox new.outbox
  replaced_tells all beside is = become_tells (output.Replace is.0 beside ∷ []) _ old.outbox new.outbox refl is.2

  -- what the record has grown by was
  pub stored : new.member ≡ old.member → new.failed ≡ old.failed
      → (ReachesTo old.reach old.stored old.member.facts.entries
      → ReachesTo new.reach new.stored old.member.facts.entries)
      → ((given : List (Output S D Stored K G C)) → IsLawfulOutbox given old.outbox → IsLawfulOutbox given new.outbox)
      → (all fresh : List (Artifact S D K G C)) → new.stored ≡ length all
      → entries_of bytes_of all ≡ old.member.facts.entries → votes_of all ≡ old.member.votes
      → entries_of bytes_of fresh ≡ drop old.stored old.member.facts.entries
      → votes_of fresh ≡ votes_since old.stored old.member → IsStored bytes_of fresh old.outbox new.outbox → Keeps
  stored same_member same_failed reaches lawful all fresh counted all_entries all_votes fresh_entries fresh_votes is
      given kept = record {
        lawful = lawful given kept.lawful;
        stored = λ lives.
            subst (λ journal. IsBeginningOf bytes_of new.member new.stored journal)
            (sym (ap journal_of (queued given (storing is.0) _ is.2) ∙ stored_behind (before given) is.0))
            (subst (λ n. IsBeginningOf bytes_of new.member n
            (record {
              entries = (journal_of (before given)).entries ++ is.0.items;
              beside = (journal_of (before given)).beside;
            })) (sym counted)
            (subst (λ member. IsBeginningOf bytes_of member (length all)
            (record {
              entries = (journal_of (before given)).entries ++ is.0.items;
              beside = (journal_of (before given)).beside;
            })) (sym same_member)
            (stored_too bytes_of old.member old.stored (journal_of (before given))
            (kept.stored (sym same_failed ∙ lives))
            all all_entries all_votes is.0.items
            (is.1.0 ∙ fresh_entries) (copied_votes bytes_of fresh is.0.items is.1 ∙ fresh_votes))));
        emitted = λ lives. subst AllAreReturned (sym (queued given (storing is.0) _ is.2))
            (leave_stored (before given) is.0 (kept.emitted (sym same_failed ∙ lives)));
        reported = replied_last_still old new same_member is.2.reported_is kept.reported;
        reaching = subst (λ member. ReachesTo new.reach new.stored member.facts.entries) (sym same_member)
            (reaches kept.reaching);
      }

  -- a whole record was
  pub replaced : (given : List (Output S D Stored K G C))
      → ((given : List (Output S D Stored K G C)) → IsLawfulOutbox given old.outbox → IsLawfulOutbox given new.outbox)
      → (all : List (Artifact S D K G C)) → new.stored ≡ length all → entries_of bytes_of all ≡ new.member.facts.entries
      → votes_of all ≡ new.member.votes
      → IsReplaced bytes_of all (stored_of new.member.facts) old.outbox new.outbox
      → (new.failed ≡ false → AllAreReturned (given ++ new.outbox.queue.items))
      → (HasReportedLast old → HasReportedLast new)
      → ReachesTo new.reach new.stored new.member.facts.entries → IsJournaled bytes_of given old
      → IsJournaled bytes_of given new
  replaced given lawful all counted all_entries all_votes is emitted last reaches kept = record {
    lawful = lawful given kept.lawful;
    stored = λ lives.
        subst (λ journal. IsBeginningOf bytes_of new.member new.stored journal)
        (sym (ap journal_of (queued given (output.Replace is.0 (stored_of new.member.facts) ∷ []) _ is.2)
        ∙ behind_others (before given) (output.Replace is.0 (stored_of new.member.facts) ∷ [])))
        (subst (λ n. IsBeginningOf bytes_of new.member n
        (record { entries = is.0.items; beside = Some (stored_of new.member.facts) })) (sym counted)
        (stored_whole bytes_of new.member all is.0.items all_entries all_votes is.1));
    emitted = emitted;
    reported = last kept.reported;
    reaching = reaches;
  }

  -- of a record that is pruned and stored in place of all no vote leaves, and each left before
  pub still_leaving : (given : List (Output S D Stored K G C)) (stays : ℕ → Bool) → AllAreReturned (before given)
      → IsRecordOf bytes_of old.member (journal_of (before given))
      → (all : List (Artifact S D K G C)) → votes_of all ≡ filter (λ v. stays (entry_view v.vote)) old.member.votes
      → (beside : Stored) → IsReplaced bytes_of all beside old.outbox new.outbox
      → AllAreReturned (given ++ new.outbox.queue.items)
  still_leaving given stays emitted holds all left beside is =
      let is_left : votes_of is.0.items ≡ filter (λ v. stays (entry_view v.vote))
      (votes_of (journal_of (before given)).entries) =
      copied_votes bytes_of all is.0.items is.1 ∙ left
      ∙ ap (filter (λ v. stays (entry_view v.vote))) (sym holds.votes) in
      subst AllAreReturned (sym (queued given (output.Replace is.0 beside ∷ []) _ is.2))
      (leave_replaced (before given) is.0 beside
      (λ vote has. was_stored (before given) vote
      (none_is_new (λ v. stays (entry_view v.vote)) (journal_of (before given)).entries is.0.items is_left vote
      has))
      emitted)

  -- nothing more is returned
  pub ended : new.failed ≡ true → (ReachesTo old.reach old.stored old.member.facts.entries
      → ReachesTo new.reach new.stored new.member.facts.entries)
      → ((given : List (Output S D Stored K G C)) → IsLawfulOutbox given old.outbox → IsLawfulOutbox given new.outbox)
      → (HasReportedLast old → HasReportedLast new) → Keeps
  ended failed reaches lawful last given kept =
      record {
        lawful = lawful given kept.lawful;
        stored = λ lives. cc;
        emitted = λ lives. cc;
        reported = last kept.reported;
        reaching = reaches kept.reaching;
      }

-- nothing is done
pub does_no_more : {S L D K G C : Type 0} {same : D → D → Bool} {elect : Elect L} {bytes_of : C → List ℕ}
    {is_signature : K → Subject D → G → Type 0} {taken : Option (Subject D)} (old new : Journaled S L D K G C)
    → new.member ≡ old.member → Keeps bytes_of old new → StaysTraced same elect bytes_of [] old new
    → StaysSigned is_signature old new → ReportsRising [] old.outbox new.outbox → QueuesMore old.outbox new.outbox
    → Continues same elect bytes_of is_signature taken old new
does_no_more {same = same} {elect = elect} {taken = taken} old new same_member keeps traces signs tells queues =
    record {
      kept = keeps;
      more = [];
      on_this = All-nil (IsActionOn taken);
      done = subst (λ m. ExtendsHistory same elect old.member.facts [] m.facts) (sym same_member)
          (does_nothing old.member.facts);
      traced = traces;
      signed = signs;
      reported = tells;
      queued = queues;
      risen = subst (λ m. WhileAlive HasRisen old.member.facts.life m.facts.life) (sym same_member)
          (risen_not old.member.facts);
    }

-- a record has as many entries as its artifacts are
pub counted : {S D K G C : Type 0} (bytes_of : C → List ℕ) (all : List (Artifact S D K G C))
    (entries : List (ArtifactFacts D)) → entries_of bytes_of all ≡ entries → length entries ≡ length all
counted bytes_of all entries are = ap length (sym are) ∙ length-map all (artifact_facts bytes_of)
