-- The processes of a host. Each runs one engine, which begins with what the processes before it have stored.
use Rattle.std.specs.Prelude.{◌≡◌, ℕ, Bool, false, List, [], ◌∷◌, ◌++◌, length, Option, Some, None}
use Rattle.simplex_types.specs.declared.types.messages.Artifact.{Artifact}
use Rattle.simplex_types.specs.declared.types.messages.Subject.{Subject}
use Rattle.simplex_types.specs.declared.types.window.Terms.{Terms}
use Rattle.simplex_voter.specs.Facts.{Elect}
use Rattle.simplex_record.specs.Entries.{entries_of}
use Rattle.simplex_record.specs.Votes.{votes_of}
use Rattle.simplex_record.specs.declared.record.start.Start.{Start}
use Rattle.simplex_member.specs.MemberFacts.{SignedMember}
use Rattle.simplex_member.specs.declared.member.journal.Stored.{Stored}
use Rattle.laws_safety.specs.MemberHistory.{HasStarted, HasContinued}
use Rattle.laws_safety.specs.ObservedTraces.{StartsAs}
use Rattle.engine_votes.specs.StoredVotes.{AreGiven}
use Rattle.engine_outbox.specs.declared.output.Output.{Output}
use Rattle.engine_outbox.specs.Continuity.{BeginsTraced}
use Rattle.engine_outbox.specs.HostStops.{MayBeCarriedOut}
use Rattle.engine_outbox.specs.Journals.{Journal, journal_of}
use Rattle.simplex_engine.specs.declared.engine.Engine.{Engine}
use Rattle.laws_hosts.specs.EngineCalls.{EngineCall, outputs_of, AreEngineCalls}

-- a process of a host: the start of its engine, the engine as it began, the calls, the engine after them, and the
-- outputs that the host carried out before it stopped
pub record Process (S L D K G C : Type 0) : Type 0 where
  pub start : Start S L D K G C
  pub first : Engine S L D K G C
  pub calls : List (EngineCall S D K G C)
  pub last : Engine S L D K G C
  pub carried : List (Output S D Stored K G C)

-- all outputs that processes have carried out, in order
abbrev pub carried_by : {S L D K G C : Type 0} → List (Process S L D K G C) → List (Output S D Stored K G C)
carried_by [] = []
carried_by (process ∷ rest) = process.carried ++ carried_by rest

module _ {S L D K G C : Type 0} (same : D → D → Bool) (elect : Elect L) (bytes_of : C → List ℕ)
    (keys_of : S → List K) (me : S → Option ℕ) (terms : L → Terms) where
  -- the member of an engine begins by `start` if nothing was stored (its clauses `begins` and `votes`), and by `resume`
  -- from what was stored otherwise (its clauses `continues` and `votes`)
  abbrev pub MemberBegins : Option Stored → List (Artifact S D K G C) → Start S L D K G C → SignedMember K L D G
      → Type 0
  MemberBegins None entries start member = HasStarted same elect me terms start member.facts × (member.votes ≡ [])
  MemberBegins (Some stored) entries start member =
      HasContinued same elect me terms stored (entries_of bytes_of entries) start member.facts
      × (member.votes ≡ votes_of entries)

  -- an engine begins from a journal: besides, the clauses `traced` and `begun` of both calls
  pub record EngineBegins (journal : Journal S D Stored K G C) (start : Start S L D K G C) (engine : Engine S L D K G C)
      : Type 0 where
    pub member : MemberBegins journal.beside journal.entries start engine.core.member
    pub traced : BeginsTraced same elect bytes_of engine.core.member engine.core
    pub votes : AreGiven [] engine.batcher
    pub keys : keys_of engine.batcher.scheme ≡ keys_of start.settings.scheme

module _ {S L D K G C : Type 0} (same : D → D → Bool) (elect : Elect L) (bytes_of : C → List ℕ)
    (is_signature : K → Subject D → G → Type 0) (keys_of : S → List K) (me : S → Option ℕ) (terms : L → Terms) where
  -- what a process of member `i` of so many members did, in terms of this length: its engine began from the journal,
  -- the calls did not make it fail, and the host carried out the first outputs, perhaps with a part of the `Store`
  -- after them
  pub record IsProcess (term_length i members : ℕ) (journal : Journal S D Stored K G C) (process : Process S L D K G C)
      : Type 0 where
    pub starts : StartsAs me terms term_length i process.start
    pub members_are : length (keys_of process.start.settings.scheme) ≡ members
    pub begins : EngineBegins same elect bytes_of keys_of me terms journal process.start process.first
    pub runs : AreEngineCalls same elect bytes_of is_signature keys_of process.calls process.first process.last
    pub alive : process.last.core.failed ≡ false
    pub carries_out : MayBeCarriedOut (outputs_of process.calls) process.carried

  -- each of these processes began from the journal that the outputs carried out before it have written
  abbrev pub AreProcesses : ℕ → ℕ → ℕ → List (Output S D Stored K G C) → List (Process S L D K G C) → Type 0
  AreProcesses term_length i members before [] = Unit {0}
  AreProcesses term_length i members before (process ∷ rest) =
      IsProcess term_length i members (journal_of before) process
      × AreProcesses term_length i members (before ++ process.carried) rest
