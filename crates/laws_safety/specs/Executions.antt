-- The execution of a network's member, over all its lifetimes: its inputs, its replies, and its trace.
use Rattle.std.specs.Prelude.{◌≡◌, ◌⊎◌, ℕ, Bool, List, ◌++◌, Contains, Some, None}
use Rattle.simplex_voter.specs.Facts.{Elect}
use Rattle.simplex_record.specs.Start.{Setup, StartFacts, new_state}
use Rattle.simplex_member.specs.Calls.{ReplyFacts}
use Rattle.simplex_member.specs.MemberFacts.{MemberFacts}
use Rattle.simplex_member.specs.Runs.{StepFacts, Restarts, IsRunFrom}
use Rattle.simplex_member.specs.Start.{started_member}
use Rattle.laws_safety.specs.Traces.{TraceEvent, of_floor, trace_of_steps}
use Rattle.laws_safety.specs.TermLengths.{HasTerms, KeepTerms}
use Rattle.laws_safety.specs.Lawful.{IsLawful}

-- the member that a start makes, before its first step
abbrev pub new_member : {K L D : Type 0} → (D → D → Bool) → Elect L → StartFacts K L D → MemberFacts K L D
new_member same elect start = started_member same elect (new_state start.setup) start.floor start.now

-- a start, then steps, each with its reply: calls and restarts
pub record Execution (K L D : Type 0) : Type 0 where
  pub start : StartFacts K L D
  pub steps : List (StepFacts K L D)
  pub replies : List (ReplyFacts K D)

-- all that a member accepts and signs, oldest first
abbrev pub trace_of : {K L D : Type 0} → Execution K L D → List (TraceEvent D)
trace_of s = of_floor s.start.floor ++ trace_of_steps s.steps s.replies

-- a lifetime begins with terms of this many views, and signs as this member or not at all
pub record BeginsAs {K L : Type 0} (term_length i : ℕ) (setup : Setup K L) : Type 0 where
  pub terms : HasTerms term_length setup
  pub signs_as : (setup.me ≡ Some i) ⊎ (setup.me ≡ None)

module _ {K L D : Type 0} where
  -- this holds for each lifetime of a start and these steps
  pub record RunsAs (term_length i : ℕ) (start : StartFacts K L D) (steps : List (StepFacts K L D)) : Type 0 where
    pub first : BeginsAs term_length i start.setup
    pub later : (r : _) → Contains steps (Restarts r) → BeginsAs term_length i r.start.setup

module _ {K L D : Type 0} (same : D → D → Bool) (elect : Elect L) where
  -- an execution of member `i` of a network, whatever its inputs
  pub record IsExecution (term_length i : ℕ) (s : Execution K L D) : Type 0 where
    pub lives : RunsAs term_length i s.start s.steps
    pub run : IsRunFrom same elect s.start s.steps s.replies

module _ (K : Type 0) {L D : Type 0} (same : D → D → Bool) (elect : Elect L) where
  -- for all that a member of a network may do, in terms of any length
  abbrev pub OfEachMember : (ℕ → Execution K L D → Type 0) → Type 0
  OfEachMember Holds = (term_length i : ℕ) (s : Execution K L D) → IsExecution same elect term_length i s
      → Holds term_length s

  -- the trace of a run keeps the voting rules, whatever key each of its lifetimes signs with
  abbrev pub RunsAreLawful : Type 0
  RunsAreLawful =
      (term_length : ℕ) (s : Execution K L D)
      → HasTerms term_length s.start.setup
      → KeepTerms term_length s.steps
      → IsRunFrom same elect s.start s.steps s.replies
      → IsLawful term_length (trace_of s)
