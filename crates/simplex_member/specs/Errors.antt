-- The names of refusals of calls and of resumes.
use Rattle.std.specs.Prelude.{ℕ, List, codes}
use Rattle.simplex_types.specs.Fault.{fault_name}
use Rattle.simplex_record.specs.Errors.{recover_error_name}
use Rattle.simplex_member.specs.declared.member.refusal.Refusal.{Refusal}
use Rattle.simplex_member.specs.declared.member.refusal.Refusal.TheVariants as refusal
use Rattle.simplex_member.specs.declared.member.resume.ResumeError.{ResumeError}
use Rattle.simplex_member.specs.declared.member.resume.ResumeError.TheVariants as resume_error

-- why a member cannot resume from its journal
abbrev pub resume_error_name : ResumeError → List ℕ
resume_error_name resume_error.EntriesLost = codes "EntriesLost"
resume_error_name (resume_error.Recover e) = recover_error_name e

-- why a call is refused
abbrev pub refusal_name : Refusal → List ℕ
refusal_name (refusal.Fault fault) = fault_name fault
refusal_name refusal.NotAllowed = codes "NotAllowed"
