-- Runs of a member: calls, prunings of its record and restarts, one after another.
use Rattle.std.specs.Prelude.{◌≡◌, ◌⊎◌, ℕ, Bool, true, false, List, [], ◌∷◌, length, map, Option, Some, None, Result, Ok, Err}
use Rattle.simplex_types.specs.declared.types.window.Terms.{Terms}
use Rattle.simplex_voter.specs.Facts.{Elect}
use Rattle.simplex_record.specs.declared.record.error.RecoverError.{RecoverError}
use Rattle.simplex_record.specs.declared.record.error.RecoverError.TheVariants as error
use Rattle.simplex_member.specs.declared.member.runs.Step.{Step}
use Rattle.simplex_member.specs.declared.member.runs.Step.TheVariants as step
use Rattle.simplex_member.specs.Calls.{CallFacts, ReplyFacts, Done, Restarted, NotRestarted, asked}
use Rattle.simplex_member.specs.MemberFacts.{MemberFacts, IsCall}
use Rattle.simplex_record.specs.Recovery.{recover_error}
use Rattle.simplex_member.specs.Restarts.{RestartFacts, restart_facts, IsRestart}
use Rattle.simplex_member.specs.PrunedRecord.{pruned_member}
use Rattle.simplex_record.specs.Start.{StartFacts, new_state}
use Rattle.simplex_member.specs.Start.{started_member}

-- a step of a run: a call, a pruning of the record within the lifetime, or a restart
pub data StepFacts (K L D : Type 0) : Type 0 where
  Calls : CallFacts D → StepFacts K L D
  Prunes : StepFacts K L D
  Restarts : RestartFacts K L D → StepFacts K L D

-- a step, as plain data
abbrev pub step_facts : {S L D K G C : Type 0} → (S → Option ℕ) → (S → List K) → (L → Terms) → (L → Bool) → (C → List ℕ)
    → Step S L D K G C → StepFacts K L D
step_facts me members terms elects_early bytes_of (step.Call call) = Calls (asked bytes_of call)
step_facts me members terms elects_early bytes_of step.PruneRecord = Prunes
step_facts me members terms elects_early bytes_of (step.Restart restart) =
    Restarts (restart_facts me members terms elects_early bytes_of restart)

-- each of these
abbrev pub steps_of : {S L D K G C : Type 0} → (S → Option ℕ) → (S → List K) → (L → Terms) → (L → Bool) → (C → List ℕ)
    → List (Step S L D K G C)
    → List (StepFacts K L D)
steps_of me members terms elects_early bytes_of steps = map (step_facts me members terms elects_early bytes_of) steps

-- the elector of each restart elects among the participants of its scheme
abbrev pub IsSetUp : {S L D K G C : Type 0} → (S → List K) → (L → ℕ) → Step S L D K G C → Type 0
IsSetUp participants members (step.Call _) = Unit {0}
IsSetUp participants members step.PruneRecord = Unit {0}
IsSetUp participants members (step.Restart restart) =
    members restart.start.settings.elector ≡ length (participants restart.start.settings.scheme)

-- the same for each of these
abbrev pub AreSetUp : {S L D K G C : Type 0} → (S → List K) → (L → ℕ) → List (Step S L D K G C) → Type 0
AreSetUp participants members [] = Unit {0}
AreSetUp participants members (step ∷ steps) = IsSetUp participants members step × AreSetUp participants members steps

module _ {K D : Type 0} where
  -- the reply to a restart
  abbrev pub restart_reply : Result (Unit {0}) RecoverError → ReplyFacts K D
  restart_reply (Ok _) = Restarted
  restart_reply (Err e) = NotRestarted e

  -- the reply says that a restart was refused
  abbrev pub is_refusal : ReplyFacts K D → Bool
  is_refusal (NotRestarted _) = true
  is_refusal _ = false

module _ {K L D : Type 0} (same : D → D → Bool) (elect : Elect L) where
  -- a call has its reply, a pruning is done, and a restart succeeds or is refused
  abbrev pub IsStep : MemberFacts K L D → StepFacts K L D → ReplyFacts K D → MemberFacts K L D → Type 0
  IsStep m (Calls call) replied next = IsCall same elect m call replied next
  IsStep m Prunes replied next = (replied ≡ Done) × (next ≡ pruned_member m)
  IsStep m (Restarts r) replied next =
      (result : Result (Unit {0}) RecoverError) × IsRestart same elect m r result next
      × (replied ≡ restart_reply result)

  -- each step has its reply, by what the steps before it left
  abbrev pub IsRun : MemberFacts K L D → List (StepFacts K L D) → List (ReplyFacts K D) → MemberFacts K L D → Type 0
  IsRun m [] [] end = m ≡ end
  IsRun m [] (replied ∷ rest) end = ⊥
  IsRun m (step ∷ steps) [] end = ⊥
  IsRun m (step ∷ steps) (replied ∷ rest) end =
      (next : MemberFacts K L D) × IsStep m step replied next × IsRun next steps rest end

  -- a step is a restart that is refused by this error
  abbrev pub IsRefused : MemberFacts K L D → StepFacts K L D → RecoverError → Type 0
  IsRefused m (Calls call) found = ⊥
  IsRefused m Prunes found = ⊥
  IsRefused m (Restarts r) found = (left : MemberFacts K L D) × IsRestart same elect m r (Err found) left

  -- some step is refused, and none before it
  abbrev pub EndsRun : MemberFacts K L D → List (StepFacts K L D) → RecoverError → Type 0
  EndsRun m [] found = ⊥
  EndsRun m (step ∷ steps) found =
      IsRefused m step found
      ⊎ ((replied : ReplyFacts K D)
      × (next : MemberFacts K L D)
      × IsStep m step replied next
      × (is_refusal replied ≡ false)
      × EndsRun next steps found)

  -- a member starts, and takes the steps
  unfoldable pub IsRunFrom : StartFacts K L D → List (StepFacts K L D) → List (ReplyFacts K D) → Type 0
  IsRunFrom start steps replies =
      (recover_error same (new_state start.setup) start.floor start.now [] ≡ None)
      × (end : MemberFacts K L D)
      × IsRun (started_member same elect (new_state start.setup) start.floor start.now) steps replies end

  -- the start is refused, or a restart; or there was no memory
  unfoldable pub EndsRunFrom : StartFacts K L D → List (StepFacts K L D) → RecoverError → Type 0
  EndsRunFrom start steps found =
      (found ≡ error.OutOfMemory)
      ⊎ (recover_error same (new_state start.setup) start.floor start.now [] ≡ Some found)
      ⊎ EndsRun (started_member same elect (new_state start.setup) start.floor start.now) steps found
