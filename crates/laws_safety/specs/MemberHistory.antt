-- The inputs of a member so far and its replies, as the code's own values.
use Rattle.std.specs.Prelude.{◌≡◌, ℕ, Bool, List, [], ◌∷◌, ◌++◌, map, Option, None, Result, Ok}
use Rattle.simplex_types.specs.declared.types.window.Terms.{Terms}
use Rattle.simplex_types.specs.Certificates.{ArtifactFacts}
use Rattle.simplex_voter.specs.Facts.{Elect}
use Rattle.simplex_record.specs.declared.record.error.RecoverError.{RecoverError}
use Rattle.simplex_member.specs.declared.member.journal.Stored.{Stored}
use Rattle.simplex_member.specs.declared.member.calls.Reply.{Reply}
use Rattle.simplex_member.specs.declared.member.runs.Step.{Step}
use Rattle.simplex_record.specs.declared.record.start.Start.{Start}
use Rattle.simplex_member.specs.Calls.{ReplyFacts, reply_facts}
use Rattle.simplex_member.specs.Journal.{stored_of}
use Rattle.simplex_member.specs.MemberFacts.{MemberFacts}
use Rattle.simplex_record.specs.Recovery.{recover_error}
use Rattle.simplex_member.specs.Runs.{StepFacts, steps_of, IsRun}
use Rattle.simplex_record.specs.Start.{StartFacts, start_facts, new_state}
use Rattle.laws_safety.specs.Traces.{TraceEvent}
use Rattle.laws_safety.specs.ObservedTraces.{floor_in, begun_by, StartsAs}
use Rattle.laws_safety.specs.Executions.{new_member, Execution, trace_of, RunsAs, IsExecution}

-- the inputs of a member of the code and its replies, as an execution
abbrev pub execution_of : {S L D K G C : Type 0} → (S → Option ℕ) → (S → List K) → (L → Terms) → (L → Bool)
    → (C → List ℕ) → Start S L D K G C
    → List (Step S L D K G C) → List (Reply S D K G C) → Execution K L D
execution_of me members terms elects_early bytes_of start steps replies = record {
  start = start_facts me members terms elects_early bytes_of start;
  steps = steps_of me members terms elects_early bytes_of steps;
  replies = map (reply_facts bytes_of) replies;
}

module _ {K L D : Type 0} where
  -- no input came yet
  abbrev pub new_execution : StartFacts K L D → Execution K L D
  new_execution start = record { start = start; steps = []; replies = [] }

  -- one more step
  abbrev pub with_step : Execution K L D → StepFacts K L D → ReplyFacts K D → Execution K L D
  with_step s step replied = record s { steps = s.steps ++ step ∷ []; replies = s.replies ++ replied ∷ [] }

module _ {K L D : Type 0} (same : D → D → Bool) (elect : Elect L) where
  -- this is the execution of the member so far, as member `i` of a network: its lifetimes began in turn (`lives`), and
  -- each of its steps got its reply (`run`)
  pub record HasExecution (term_length i : ℕ) (s : Execution K L D) (m : MemberFacts K L D) : Type 0 where
    pub lives : RunsAs term_length i s.start s.steps
    pub accepted : recover_error same (new_state s.start.setup) s.start.floor s.start.now [] ≡ None
    pub run : IsRun same elect (new_member same elect s.start) s.steps s.replies m

  -- this is all that the member accepted and signed so far, as member `i` of a network: the trace of an execution that
  -- led to this member (`executed`)
  pub record HasHistory (term_length i : ℕ) (all : List (TraceEvent D)) (m : MemberFacts K L D) : Type 0 where
    pub execution : Execution K L D
    pub executed : HasExecution term_length i execution m
    pub same_trace : trace_of execution ≡ all

  -- this trace is added
  abbrev pub ExtendsHistory : MemberFacts K L D → List (TraceEvent D) → MemberFacts K L D → Type 0
  ExtendsHistory m more next = (term_length i : ℕ) (all : List (TraceEvent D)) → HasHistory term_length i all m
      → HasHistory term_length i (all ++ more) next

  -- for whatever it has done so far, as any member
  abbrev pub OfEachHistory : MemberFacts K L D → (ℕ → ℕ → List (TraceEvent D) → Type 0) → Type 0
  OfEachHistory m Holds = (term_length i : ℕ) (all : List (TraceEvent D)) → HasHistory term_length i all m
      → Holds term_length i all

module _ (K : Type 0) {L D : Type 0} (same : D → D → Bool) (elect : Elect L) where
  -- a network may have a member `i` with this trace
  abbrev pub MayBeHistoryOf : ℕ → ℕ → List (TraceEvent D) → Type 0
  MayBeHistoryOf term_length i all = (s : Execution K L D) × IsExecution same elect term_length i s × (trace_of s ≡ all)

module _ {S L D K G C : Type 0} (same : D → D → Bool) (elect : Elect L) (me : S → Option ℕ) (terms : L → Terms) where
  -- a member that begins with this start has accepted the floor's finalization
  abbrev pub HasStarted : Start S L D K G C → MemberFacts K L D → Type 0
  HasStarted start m = (term_length i : ℕ) → StartsAs me terms term_length i start
      → HasHistory same elect term_length i (floor_in start.floor) m

  -- one that begins again with this start has, if it succeeds, also accepted the floor's finalization
  abbrev pub HasRestarted : {E : Type 0} → MemberFacts K L D → Start S L D K G C → Result (Unit {0}) E
      → MemberFacts K L D → Type 0
  HasRestarted m start result next =
      (term_length i : ℕ) (all : List (TraceEvent D))
      → StartsAs me terms term_length i start
      → HasHistory same elect term_length i all m
      → HasHistory same elect term_length i (all ++ begun_by start result) next

  -- one that resumes with this start from a journal has done all that the member did whose journal it is, and has also
  -- accepted the floor's finalization
  abbrev pub HasContinued : Stored → List (ArtifactFacts D) → Start S L D K G C → MemberFacts K L D → Type 0
  HasContinued stored entries start next =
      (m : MemberFacts K L D)
      → stored_of m ≡ stored
      → m.entries ≡ entries
      → HasRestarted {E = RecoverError} m start (Ok tt) next
