-- For the code of the engine.
-- That the work which a reply asks for is planned.
use Rattle.std.proofs.Common.{◌≡◌, ◌∙◌, refl, ap, sym, ℕ, true, List, [], ◌∷◌, map, Some, Result, Ok, Err}
use Rattle.std.specs.Prelude.{OnOk}
use Rattle.std.proofs.lemmas.Bool.{false≢true}
use Rattle.simplex_types.specs.Certificates.{certificate_facts}
use Rattle.simplex_types.specs.MessageViews.{certificate_view}
use Rattle.simplex_types.specs.declared.types.messages.Certificate.{Certificate}
use Rattle.simplex_types.specs.declared.types.messages.Certificate.TheVariants as certificate
use Rattle.simplex_voter.specs.declared.voter.verify.Verify.TheVariants as verify
use Rattle.simplex_member.specs.declared.member.calls.Reply.{Reply}
use Rattle.simplex_member.specs.declared.member.calls.Reply.TheVariants as reply
use Rattle.engine_outbox.specs.CertificateCalls.{certificate_call}
use Rattle.engine_outbox.specs.Outputs.{work_in}
use Rattle.engine_outbox.specs.declared.output.Work.{Work}
use Rattle.engine_outbox.specs.declared.output.Work.TheVariants as work
use Rattle.engine_planner.specs.declared.plan.Plan.{Plan}
use Rattle.engine_planner.specs.declared.plan.Step.TheVariants as step
use Rattle.engine_planner.specs.declared.task.Task.{Task}
use Rattle.engine_planner.specs.declared.task.Task.TheVariants as task
use Rattle.engine_planner.specs.Consequences.{IsCertificateFollowed, IsFollowed}
use Rattle.engine_planner.specs.FetchRequests.{is_plain}
use Rattle.engine_planner.specs.PlanStates.{HasPlanned}
use Rattle.engine_planner.specs.PlannedWork.{AreAmong, work_planned}
use Rattle.engine_planner.specs.Tasks.{call_of}
use Rattle.engine_planner.proofs.Causes.{among_last, among_none}
use Rattle.engine_planner.proofs.Consequences.{certificate_followed, followed_plans}
use Rattle.engine_planner.proofs.PlannedWork.{among_all, among_further, planned-append}
use Rattle.simplex_engine.specs.declared.engine.Engine.{Engine}
use Rattle.simplex_engine.specs.ApplicationWork.{work_ahead}
use Rattle.simplex_engine.specs.Provenance.{evidence_in, work_by_reply}

-- an answer that holds for three reasons
pub on_ok_all : {X E : Type 0} (r : Result X E) {P Q T R : Type 0} → OnOk r P → OnOk r Q → OnOk r T → (P → Q → T → R)
    → OnOk r R
on_ok_all (Ok x) first second third more = more first second third
on_ok_all (Err e) first second third more = tt

-- what is planned is ahead
pub planned_ahead : {S L D K G C : Type 0} (engine : Engine S L D K G C) {these : List (Work S D K G C)}
    → AreAmong these (work_planned engine.plan.steps.items) → AreAmong these (work_ahead engine)
planned_ahead engine among = among_further among
    (among_last (work_in engine.core.outbox.queue.items) (work_planned engine.plan.steps.items))

module _ {S D K G C : Type 0} (bytes : D → List ℕ) (bytes_of : C → List ℕ) (now : ℕ) where
  one_planned : (it : Work S D K G C) (old new : Plan S D K G C) → HasPlanned (step.Push it ∷ []) old new
      → AreAmong (it ∷ []) (work_planned new.steps.items)
  one_planned it old new is =
      among_further (among_last (work_planned old.steps.items) (it ∷ []))
      (among_all (sym (ap work_planned is.steps ∙ planned-append old.steps.items (step.Push it ∷ []))))

  -- no task passes a certificate to the member
  evidence_by_task : (asked : Task D) (leader : K)
      → AreAmong (evidence_in {S = S} {D = D} {K = K} {G = G} {C = C} (call_of asked now) leader) []
  evidence_by_task (task.SetProposal v p) leader = among_none []
  evidence_by_task task.TryPropose leader = among_none []
  evidence_by_task (task.Proposed v payload) leader = among_none []
  evidence_by_task (task.SupersedeProposalRequest v) leader = among_none []
  evidence_by_task (task.PendingHandoffAbandonment v) leader = among_none []
  evidence_by_task (task.ReleaseProposalRequest v) leader = among_none []
  evidence_by_task task.TryVerify leader = among_none []
  evidence_by_task (task.Verified v) leader = among_none []
  evidence_by_task (task.VerificationFailed v) leader = among_none []
  evidence_by_task task.CertifyCandidates leader = among_none []
  evidence_by_task (task.SetCertifyHandle v) leader = among_none []
  evidence_by_task (task.Certified v is_success) leader = among_none []
  evidence_by_task (task.ConstructNotarize v) leader = among_none []
  evidence_by_task (task.ConstructFinalize v) leader = among_none []
  evidence_by_task (task.ConstructNullify v reason) leader = among_none []
  evidence_by_task (task.BroadcastNotarization v) leader = among_none []
  evidence_by_task (task.BroadcastNullification v) leader = among_none []
  evidence_by_task (task.BroadcastFinalization v) leader = among_none []
  evidence_by_task task.GetBestCertificate leader = among_none []
  evidence_by_task (task.TriggerTimeout v reason) leader = among_none []
  evidence_by_task task.NextTimeout leader = among_none []
  evidence_by_task task.Prune leader = among_none []

  -- by the reply to a task
  pub planned_reply : (asked : Task D) (answer : Reply S D K G C) (old new : Plan S D K G C)
      → IsFollowed bytes bytes_of now asked answer old new
      → AreAmong (work_by_reply answer (call_of asked now)) (work_planned new.steps.items)
  planned_reply asked (reply.Work (verify.Ready context proposal)) old new is =
      one_planned (work.Verify context proposal) old new is
  planned_reply asked (reply.Candidates proposals wanted) old new is =
      among_further (among_last (work_planned old.steps.items) (map work.Certify proposals.items))
      (followed_plans old new bytes bytes_of now asked (reply.Candidates proposals wanted) is).found
  planned_reply asked (reply.Certificate (Some certificate)) old new is =
      one_planned (work.Broadcast certificate) old new is
  planned_reply asked (reply.Added is_new (Some leader)) old new is =
      among_further (evidence_by_task asked leader) (among_none (work_planned new.steps.items))
  planned_reply asked answer old new is = among_none (work_planned new.steps.items)

  evidence_by : (passed : Certificate S D K G C) (leader : K)
      → evidence_in {S = S} {D = D} {K = K} {G = G} {C = C} (certificate_call (certificate_facts bytes_of passed) now)
      leader ≡ work.ProposedTwice (certificate_view passed) leader ∷ []
  evidence_by (certificate.Notarization n) leader = refl
  evidence_by (certificate.Nullification n) leader = refl
  evidence_by (certificate.Finalization n) leader = refl

  -- by the reply to a certificate
  pub planned_certificate : (passed : Certificate S D K G C) (answer : Reply S D K G C) (old new : Plan S D K G C)
      → is_plain answer ≡ true → IsCertificateFollowed bytes bytes_of now passed answer old new
      → AreAmong (work_by_reply answer (certificate_call (certificate_facts bytes_of passed) now))
      (work_planned new.steps.items)
  planned_certificate passed (reply.Work standing) old new plain is = absurd (false≢true plain)
  planned_certificate passed (reply.Candidates proposals wanted) old new plain is = absurd (false≢true plain)
  planned_certificate passed (reply.Certificate returned) old new plain is = absurd (false≢true plain)
  planned_certificate passed (reply.Added is_new (Some leader)) old new plain is =
      among_further (among_all (evidence_by passed leader))
      (among_further (one_planned (work.ProposedTwice (certificate_view passed) leader) old is.shown is.is_shown)
      (certificate_followed bytes bytes_of now is.shown new passed (reply.AddedNullification is_new) is.followed).found)
  planned_certificate passed answer old new plain is = among_none (work_planned new.steps.items)
