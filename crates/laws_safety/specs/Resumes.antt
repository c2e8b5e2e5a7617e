-- A member that resumes from its journal, compared with the runs of members.
use Rattle.std.specs.Prelude.{◌≡◌, ◌↔◌, Bool, true, false, List}
use Rattle.simplex_voter.specs.Facts.{Elect}
use Rattle.simplex_record.specs.declared.record.error.RecoverError.{RecoverError}
use Rattle.simplex_member.specs.declared.member.resume.ResumeError.TheVariants.{Recover}
use Rattle.simplex_member.specs.Calls.{ReplyFacts, Restarted}
use Rattle.simplex_member.specs.Journal.{stored_of, whole_restart, has_lost, IsResumed, IsNotResumed}
use Rattle.simplex_member.specs.MemberFacts.{MemberFacts}
use Rattle.simplex_member.specs.PrunedRecord.{pruned_member}
use Rattle.simplex_member.specs.Restarts.{cut_member}
use Rattle.simplex_member.specs.Runs.{StepFacts, Restarts, IsStep, IsRun, IsRefused}
use Rattle.simplex_record.specs.Start.{StartFacts}
use Rattle.laws_safety.specs.Executions.{new_member}

module _ {K L D : Type 0} (same : D → D → Bool) (elect : Elect L) where
  -- it resumes from its journal exactly as it would take a restart that drops and prunes nothing for its next step
  abbrev pub ResumesByRestart : MemberFacts K L D → Type 0
  ResumesByRestart m =
      (start : StartFacts K L D) (next : MemberFacts K L D)
      → IsResumed same elect (stored_of m) m.entries start next
      ↔ IsStep same elect m (Restarts (whole_restart start)) Restarted next

  -- it is refused exactly as that restart is, by the same error
  abbrev pub IsRefusedAsRestart : MemberFacts K L D → Type 0
  IsRefusedAsRestart m =
      (start : StartFacts K L D) (found : RecoverError)
      → IsNotResumed same elect (stored_of m) m.entries start (Recover found)
      ↔ IsRefused same elect m (Restarts (whole_restart start)) found

module _ (K : Type 0) {L D : Type 0} (same : D → D → Bool) (elect : Elect L) where
  -- for each member that any run leads to
  abbrev pub OfEachLeft : (MemberFacts K L D → Type 0) → Type 0
  OfEachLeft Holds =
      (start : StartFacts K L D) (steps : List (StepFacts K L D)) (replies : List (ReplyFacts K D))
      (m : MemberFacts K L D)
      → IsRun same elect (new_member same elect start) steps replies m
      → Holds m

-- a restart that drops nothing and prunes makes of a record that was pruned within the lifetime what it makes of the
-- whole one
abbrev pub IsPrunedAsAtRestart : {K L D : Type 0} → MemberFacts K L D → Type 0
IsPrunedAsAtRestart m = cut_member (pruned_member m) 0 true ≡ cut_member m 0 true

-- its record has all that was closed
abbrev pub LosesNothing : {K L D : Type 0} → MemberFacts K L D → Type 0
LosesNothing m = has_lost (stored_of m) m.entries ≡ false
