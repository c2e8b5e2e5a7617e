-- A member with its outbox, from one moment of a lifetime to a later one.
use Rattle.std.specs.Prelude.{◌≡◌, ◌⊎◌, ℕ, ◌≤◌, Bool, true, false, ◌||◌, List, [], ◌++◌, length, All, Option, is_none, IfSome}
use Rattle.simplex_types.specs.declared.types.messages.Subject.{Subject}
use Rattle.simplex_voter.specs.Facts.{Elect, StateFacts}
use Rattle.simplex_member.specs.MemberFacts.{MemberFacts, SignedMember}
use Rattle.simplex_member.specs.PrunedRecord.{pruned_member}
use Rattle.simplex_member.specs.declared.member.journal.Stored.{Stored}
use Rattle.laws_safety.specs.Traces.{TraceEvent}
use Rattle.laws_safety.specs.MemberHistory.{HasHistory, ExtendsHistory}
use Rattle.laws_safety.specs.LifetimeLaws.{NeverFalls, WhileAlive}
use Rattle.engine_outbox.specs.declared.journaled.Journaled.{Journaled}
use Rattle.engine_outbox.specs.declared.output.Output.{Output}
use Rattle.engine_outbox.specs.Finalizations.{finals_in, finals_by, WereAccepted, ReportsRising}
use Rattle.engine_outbox.specs.EmittedVotes.{AllAreReturned}
use Rattle.engine_outbox.specs.Signatures.{StaysSigned, EmitsSigned}
use Rattle.engine_outbox.specs.HostStops.{votes_recorded, WereSigned, MayStopAfterEach, MayStopAmid}
use Rattle.engine_outbox.specs.Outboxes.{HasStayed, IsLawfulOutbox, QueuesMore}
use Rattle.engine_outbox.specs.Journals.{journal_of, IsRecordOf, IsBeginningOf}
use Rattle.engine_outbox.specs.SubjectActions.{IsActionOn}
use Rattle.engine_outbox.specs.RecordReach.{ReachesTo}

module _ {S L D K G C : Type 0} where
  -- it has failed, or its member has
  abbrev pub has_failed : Journaled S L D K G C → Bool
  has_failed member = member.failed || is_none member.member.facts.life

  -- no proposal is queued to be reported as final
  abbrev pub ReportsNothing : Journaled S L D K G C → Type 0
  ReportsNothing member = finals_in member.outbox.queue.items ≡ []

  -- nothing has changed
  abbrev pub IsUnchanged : Journaled S L D K G C → Journaled S L D K G C → Type 0
  IsUnchanged old new = HasStayed old.outbox new.outbox × (new ≡ record old { outbox = new.outbox })

  -- the result of a pruning that finds no memory: nothing has changed, or the record is pruned, and it has failed
  abbrev pub IsUnpruned : Journaled S L D K G C → Journaled S L D K G C → Type 0
  IsUnpruned old new = IsUnchanged old new ⊎ ((new.failed ≡ true) × (new.member.facts ≡ pruned_member old.member.facts))

module _ {S L D K G C : Type 0} (bytes_of : C → List ℕ) where
  -- over all that was returned and what is queued: each vote comes after an output that stores it, and the proposals
  -- that are reported as final rise; until the engine fails, a journal that carries them out holds a prefix of the
  -- record, and each stored vote leaves; the last finalized view of the member is the highest one that was reported;
  -- and how far back the stored entries reach is noted
  pub record IsJournaled (given : List (Output S D Stored K G C)) (member : Journaled S L D K G C) : Type 0 where
    pub lawful : IsLawfulOutbox given member.outbox
    pub stored : member.failed ≡ false
        → IsBeginningOf bytes_of member.member member.stored (journal_of (given ++ member.outbox.queue.items))
    pub emitted : member.failed ≡ false → AllAreReturned (given ++ member.outbox.queue.items)
    pub reported : IfSome member.member.facts.life (λ x. member.outbox.reported ≡ x.finalized)
    pub reaching : ReachesTo member.reach member.stored member.member.facts.entries

  -- all of the record is queued to be stored, or was
  abbrev pub IsWhole : Journaled S L D K G C → Type 0
  IsWhole member = length member.member.facts.entries ≤ member.stored

  -- until it fails, a journal that carries out what was returned and what is queued holds the record
  abbrev pub StoresRecord : Journaled S L D K G C → Type 0
  StoresRecord member =
      (given : List (Output S D Stored K G C)) → IsJournaled given member → member.failed ≡ false
      → IsRecordOf bytes_of member.member (journal_of (given ++ member.outbox.queue.items))

  -- until the engine fails, all of the record is queued to be stored, or was
  abbrev pub IsWholeAlive : Journaled S L D K G C → Type 0
  IsWholeAlive member = member.failed ≡ false → IsWhole member

module _ {S L D K G C : Type 0} (same : D → D → Bool) (elect : Elect L) (bytes_of : C → List ℕ) where
  -- besides, in a lifetime that began when the member had done `earlier`, `all` is what it has done so far, as member
  -- `i`: it has signed each vote of its record, and accepted each finalization that was reported or is queued to be;
  -- and until the engine fails, a host may stop after each output that was returned or is queued, and amid each
  -- `Store`, also of the entries by which the record has grown since
  pub record IsTraced (term_length i : ℕ) (earlier : List (TraceEvent D)) (given : List (Output S D Stored K G C))
      (all : List (TraceEvent D))
      (member : Journaled S L D K G C) : Type 0 where
    pub kept : IsJournaled bytes_of given member
    pub done : HasHistory same elect term_length i all member.member.facts
    pub signed : WereSigned all (votes_recorded member.member.votes)
    pub finals : WereAccepted all (finals_in (given ++ member.outbox.queue.items))
    pub stops : member.failed ≡ false
        → MayStopAfterEach same elect bytes_of term_length i earlier all (given ++ member.outbox.queue.items)
    pub amid : member.failed ≡ false
        → MayStopAmid same elect bytes_of term_length i earlier all (given ++ member.outbox.queue.items)
        member.member member.stored

  -- it stays traced, with this done besides
  abbrev pub StaysTraced : List (TraceEvent D) → Journaled S L D K G C → Journaled S L D K G C → Type 0
  StaysTraced more old new =
      (term_length i : ℕ) (earlier : List (TraceEvent D)) (given : List (Output S D Stored K G C))
      (all : List (TraceEvent D))
      → IsTraced term_length i earlier given all old
      → IsTraced term_length i earlier given (all ++ more) new

  -- it is traced at the beginning of a lifetime, of a member that has done all this and signed each vote of its record
  abbrev pub BeginsTraced : SignedMember K L D G → Journaled S L D K G C → Type 0
  BeginsTraced begun member =
      (term_length i : ℕ) (all : List (TraceEvent D))
      → HasHistory same elect term_length i all begun.facts
      → WereSigned all (votes_recorded begun.votes)
      → IsTraced term_length i all [] all member

  -- it stays traced once these outputs were returned
  abbrev pub EmitsTraced : List (Output S D Stored K G C) → Journaled S L D K G C → Journaled S L D K G C → Type 0
  EmitsTraced out old new =
      (term_length i : ℕ) (earlier : List (TraceEvent D)) (given : List (Output S D Stored K G C))
      (all : List (TraceEvent D))
      → IsTraced term_length i earlier given all old
      → IsTraced term_length i earlier (given ++ out) all new

-- the terms are the same, and neither the current view nor the last finalized one falls
pub record HasRisen {K L D : Type 0} (first last : StateFacts K L D) : Type 0 where
  pub terms : last.terms ≡ first.terms
  pub views : NeverFalls first last

module _ {S L D K G C : Type 0} (same : D → D → Bool) (elect : Elect L) (bytes_of : C → List ℕ)
    (is_signature : K → Subject D → G → Type 0)
    (taken : Option (Subject D)) where
  -- what `IsJournaled` says is preserved, what was queued stays queued, and what the member has done stays done;
  -- besides it accepts certificates only on this subject, and signs votes, under its key; of the finalizations that it
  -- accepts each of a view above all reported ones is reported; and while it has not failed, its views do not fall
  pub record Continues (old new : Journaled S L D K G C) : Type 0 where
    pub kept : (given : List (Output S D Stored K G C)) → IsJournaled bytes_of given old
        → IsJournaled bytes_of given new
    pub more : List (TraceEvent D)
    pub on_this : All (IsActionOn taken) more
    pub done : ExtendsHistory same elect old.member.facts more new.member.facts
    pub traced : StaysTraced same elect bytes_of more old new
    pub signed : StaysSigned is_signature old new
    pub reported : ReportsRising (finals_by more) old.outbox new.outbox
    pub queued : QueuesMore old.outbox new.outbox
    pub risen : WhileAlive HasRisen old.member.facts.life new.member.facts.life

module _ {S L D K G C : Type 0} (bytes_of : C → List ℕ) where
  -- what `IsJournaled` says is preserved, with these outputs appended to all that were returned
  abbrev pub HasReturned : List (Output S D Stored K G C) → Journaled S L D K G C → Journaled S L D K G C → Type 0
  HasReturned out old new = (given : List (Output S D Stored K G C)) → IsJournaled bytes_of given old
      → IsJournaled bytes_of (given ++ out) new

module _ {L D K : Type 0} (same : D → D → Bool) (elect : Elect L) (taken : Option (Subject D)) where
  -- a member accepts certificates only on this subject, and signs votes
  pub record ExtendsHistoryOn (old new : MemberFacts K L D) : Type 0 where
    pub more : List (TraceEvent D)
    pub on_this : All (IsActionOn taken) more
    pub done : ExtendsHistory same elect old more new

module _ {S L D K G C : Type 0} (same : D → D → Bool) (elect : Elect L) (bytes_of : C → List ℕ)
    (is_signature : K → Subject D → G → Type 0)
    (taken : Option (Subject D)) where
  -- besides, these are returned, and it stays traced by what it has done in that call, and its votes stay signed under
  -- its key
  pub record EmitsOn (out : List (Output S D Stored K G C)) (old new : Journaled S L D K G C) : Type 0 where
    pub more : List (TraceEvent D)
    pub on_this : All (IsActionOn taken) more
    pub done : ExtendsHistory same elect old.member.facts more new.member.facts
    pub traced : (term_length i : ℕ) (earlier : List (TraceEvent D)) (given : List (Output S D Stored K G C))
        (all : List (TraceEvent D))
        → IsTraced same elect bytes_of term_length i earlier given all old
        → IsTraced same elect bytes_of term_length i earlier (given ++ out) (all ++ more) new
    pub signed : EmitsSigned is_signature out old new
