-- A member that is resumed from the journal of a host that stopped between two outputs.
use Rattle.std.specs.Prelude.{◌≡◌, ℕ, Bool, List, ◌++◌, Contains, Option, Some}
use Rattle.simplex_types.specs.declared.types.messages.Artifact.{Artifact}
use Rattle.simplex_types.specs.declared.types.messages.Subject.{Subject}
use Rattle.simplex_types.specs.declared.types.window.Terms.{Terms}
use Rattle.simplex_voter.specs.Facts.{Elect}
use Rattle.simplex_record.specs.Entries.{entries_of}
use Rattle.simplex_record.specs.Votes.{votes_of}
use Rattle.simplex_record.specs.declared.record.start.Start.{Start}
use Rattle.simplex_member.specs.MemberFacts.{SignedMember}
use Rattle.simplex_member.specs.declared.member.journal.Stored.{Stored}
use Rattle.laws_safety.specs.MemberHistory.{HasHistory, HasContinued}
use Rattle.laws_safety.specs.ObservedTraces.{StartsAs}
use Rattle.laws_safety.specs.Traces.{TraceEvent, Signs}
use Rattle.engine_votes.specs.declared.votes.Vote.{Vote}
use Rattle.engine_outbox.specs.declared.output.Output.{Output}
use Rattle.engine_outbox.specs.declared.output.Output.TheVariants as output
use Rattle.engine_outbox.specs.Entries.{votes_of_entries}
use Rattle.engine_outbox.specs.Journals.{journal_of}
use Rattle.engine_outbox.specs.Outputs.{stored_in}
use Rattle.engine_outbox.specs.Signatures.{AreSigned}
use Rattle.engine_outbox.specs.HostStops.{votes_recorded, WereSigned, IsLawfulStop}

module _ {K L D G : Type 0} (same : D → D → Bool) (elect : Elect L) (is_signature : K → Subject D → G → Type 0) where
  -- a member continues where a lifetime stopped after these outputs, which began when the member had done `earlier`: it
  -- has done all that was done by then, and signed each vote that was carried out since, and each of its record, under
  -- the key of those that the outputs store; so its next lifetime may begin with all that
  pub record ContinuesFrom {S C : Type 0} (term_length i : ℕ) (earlier : List (TraceEvent D))
      (outs : List (Output S D Stored K G C))
      (member : SignedMember K L D G) : Type 0 where
    pub since : List (TraceEvent D)
    pub done : HasHistory same elect term_length i (earlier ++ since) member.facts
    pub recorded : WereSigned (earlier ++ since) (votes_recorded member.votes)
    pub votes : (vote : Vote D G) → Contains outs (output.Vote vote)
        → Contains (earlier ++ since) (Signs vote.signer vote.subject)
    pub signed : (key : K) → AreSigned is_signature i key (votes_of_entries (stored_in outs))
        → AreSigned is_signature i key (votes_recorded member.votes)

  -- each member continues so that `LawfulMember::resume` resumes from what was written where a host stopped
  abbrev pub EachResumeContinues : {S C : Type 0} → (C → List ℕ) → (S → Option ℕ) → (L → Terms) → Type 0
  EachResumeContinues {S} {C} bytes_of me terms =
      (term_length i : ℕ) (earlier all : List (TraceEvent D)) (outs : List (Output S D Stored K G C))
      (stored : Stored) (entries : List (Artifact S D K G C)) (start : Start S L D K G C)
      (member : SignedMember K L D G)
      → IsLawfulStop same elect bytes_of term_length i earlier all outs
      → journal_of outs ≡ record { entries = entries; beside = Some stored }
      → HasContinued same elect me terms stored (entries_of bytes_of entries) start member.facts
      → member.votes ≡ votes_of entries
      → StartsAs me terms term_length i start
      → ContinuesFrom term_length i earlier outs member
