-- What is planned for a reply: it is for exactly that reply, preserves what was planned, and passes the application
-- what the reply asks of
-- it.
use Rattle.std.proofs.Common.{◌≡◌, ◌∙◌, refl, ap, sym, subst, ℕ, Bool, true, false, ◌&&◌, ◌==◌, nat_le, List, [], ◌∷◌, ◌++◌, append-nil, map, Option, Some, None, Result, Ok, Err, is_some, not, cond}
use Rattle.std.specs.Prelude.{IfErr, nat_lt}
use Rattle.std.specs.List.{list_any}
use Rattle.std.proofs.lemmas.Bool.{false≢true}
use Rattle.simplex_types.specs.MessageViews.{certificate_view}
use Rattle.simplex_types.specs.declared.types.fault.Fault.{Fault}
use Rattle.simplex_types.specs.declared.types.fault.Fault.TheVariants.{OutOfMemory, Failed, ViewTooLarge, TimeOverflow}
use Rattle.simplex_types.specs.declared.types.messages.Certificate.{Certificate}
use Rattle.simplex_types.specs.declared.types.messages.Notarization.{Notarization}
use Rattle.simplex_types.specs.declared.types.messages.Nullify.{Nullify}
use Rattle.simplex_types.specs.declared.types.messages.Proposal.{Proposal}
use Rattle.simplex_voter.specs.declared.voter.propose.ProposalRequest.{ProposalRequest}
use Rattle.simplex_voter.specs.declared.voter.propose.ProposalRequest.TheVariants.{Prepare, Propose}
use Rattle.simplex_voter.specs.declared.voter.verify.Verify.{Verify}
use Rattle.simplex_voter.specs.declared.voter.verify.Verify.TheVariants as verify
use Rattle.simplex_member.specs.Calls.{Requested, Standing, reply_facts}
use Rattle.simplex_member.specs.declared.member.calls.Reply.{Reply}
use Rattle.simplex_member.specs.declared.member.calls.Reply.TheVariants as reply
use Rattle.engine_planner.specs.declared.plan.Plan.{Plan}
use Rattle.engine_planner.specs.declared.plan.Step.TheVariants.{Ask}
use Rattle.engine_planner.specs.declared.task.Task.{Task}
use Rattle.engine_planner.specs.declared.task.Task.TheVariants as task
use Rattle.engine_outbox.specs.declared.output.Work.TheVariants as work
use Rattle.engine_planner.specs.PlannedWork.{work_planned, ended_in, IsPlanned, KeepsPlanned, PlansAnswer, beside_of, constants_of}
use Rattle.engine_planner.specs.PlanStates.{touching}
use Rattle.engine_planner.specs.Blocks.{is_asked_at}
use Rattle.engine_planner.specs.BuildPlans.{stopping}
use Rattle.engine_planner.specs.Consequences.{Consequence, Nothing, Touched, Built, Stopped, Ended, Asked, after_refusal, after_flag, after_watch, waits, IsConsequence, IsVerifyFollowed, IsRequestFollowed, IsBroadcastFollowed, IsNullifyFollowed, certifying, IsVerdictFollowed, IsVerdictReportedAbove, IsTakenInAbove, IsNewFollowed, IsCertificateFollowed, IsUnjudged, IsFollowed, IsUnfollowed}
use Rattle.engine_planner.proofs.PlannedWork.{has_ended, has_planned, has_requested, keeps_further, plans_behind, plans_beside, plans_none, plans_nothing, plans_same, plans_too, repaired_beside}

-- an answer that is this one is followed as this one
pub followed : {S D K G C : Type 0} (bytes : D → List ℕ) (bytes_of : C → List ℕ) (now : ℕ) (asked : Task D)
    (old new : Plan S D K G C)
    {reply this : Reply S D K G C} → reply ≡ this → IsFollowed bytes bytes_of now asked this old new
    → IsFollowed bytes bytes_of now asked reply old new
followed bytes bytes_of now asked old new is holds =
    subst (λ it. IsFollowed bytes bytes_of now asked it old new) (sym is) holds

-- and a verdict that the resolver could not receive is not
pub unjudged : {S D K G C X : Type 0} (old new : Plan S D K G C) (result : Result X Fault) {answer : Reply S D K G C}
    {is_success : Bool}
    {notarization : Option (Notarization S D K G C)} → answer ≡ reply.Certified is_success notarization
    → IfErr result (λ fault. IsUnjudged fault notarization old.repair new.repair)
    → IfErr result (λ fault. IsUnfollowed fault answer old new)
unjudged old new (Ok x) is refused = tt
unjudged old new (Err OutOfMemory) is refused = tt
unjudged old new (Err Failed) is refused = subst (λ it. IsUnfollowed Failed it old new) (sym is) refused
unjudged old new (Err ViewTooLarge) is refused = subst (λ it. IsUnfollowed ViewTooLarge it old new) (sym is) refused
unjudged old new (Err TimeOverflow) is refused = subst (λ it. IsUnfollowed TimeOverflow it old new) (sym is) refused

module _ {S D K G C : Type 0} (old new : Plan S D K G C) where
  consequence_plans : (following : Consequence D) → IsConsequence following old new
      → IsPlanned [] (ended_in following) (work_planned old.steps.items) (beside_of old) (work_planned new.steps.items)
      (beside_of new)
  consequence_plans Nothing is = plans_same old new is
  consequence_plans (Touched view) is = plans_behind old new (touching view) is.steps (ap beside_of is.same)
  consequence_plans (Built view) is = has_ended view (touching view) old new is.steps is.blocks
      (ap (λ (plan : Plan S D K G C). plan.early.proposals.items) is.same)
      (ap (λ (plan : Plan S D K G C). plan.views) is.same) (ap constants_of is.same)
      (ap (λ (plan : Plan S D K G C). plan.ignored) is.same)
  consequence_plans (Stopped view) is = has_ended view
      (stopping view (list_any (is_asked_at view) old.builds.buildings.items)) old new is.steps is.blocks
      (ap (λ (plan : Plan S D K G C). plan.early.proposals.items) is.same)
      (ap (λ (plan : Plan S D K G C). plan.views) is.same) (ap constants_of is.same)
      (ap (λ (plan : Plan S D K G C). plan.ignored) is.same)
  consequence_plans (Ended view) is =
      has_ended view [] old new
      (ap (λ (plan : Plan S D K G C). plan.steps.items) is.same ∙ sym (append-nil old.steps.items)) is.blocks
      (ap (λ (plan : Plan S D K G C). plan.early.proposals.items) is.same)
      (ap (λ (plan : Plan S D K G C). plan.views) is.same) (ap constants_of is.same)
      (ap (λ (plan : Plan S D K G C). plan.ignored) is.same)
  consequence_plans (Asked call) is = has_planned is

  -- a block that waits is one of a member alone
  waits_alone : (is_alone after : Bool) → not (is_alone && after) ≡ false → is_alone ≡ true
  waits_alone true after is = refl
  waits_alone false after is = sym is

  request_followed : (asked : Task D) (request : Option (ProposalRequest D K)) → IsRequestFollowed request old new
      → PlansAnswer asked (Requested request) old new
  request_followed asked None is = plans_nothing (λ view. false) (plans_same old new is)
  request_followed asked (Some (Prepare context)) is =
      has_requested (λ view. false) context (not (waits old.is_alone old.views.current context)) old new
      (waits_alone old.is_alone (nat_lt old.views.current context.round.view)) is
  request_followed asked (Some (Propose context)) is =
      has_requested (λ view. false) context true old new (λ never. absurd (false≢true (sym never))) is

  broadcast_followed : (certificate : Option (Certificate S D K G C)) → IsBroadcastFollowed certificate old new
      → KeepsPlanned old new
  broadcast_followed None is = plans_same old new is
  broadcast_followed (Some certificate) is = has_planned is

  nullify_followed : (now : ℕ) (answer : Option (Bool × Nullify S K G C)) → IsNullifyFollowed now answer old new
      → KeepsPlanned old new
  nullify_followed now None is = plans_beside old _ new is refl refl
  nullify_followed now (Some (true, vote)) is = has_planned is
  nullify_followed now (Some (false, vote)) is = has_planned is

  verify_followed : (asked : Task D) (answer : Verify D K) → IsVerifyFollowed answer old new
      → PlansAnswer asked (Standing answer) old new
  verify_followed asked (verify.Ready context proposal) is =
      plans_too (λ view. false) old new _ is.steps (ap beside_of is.same)
  verify_followed asked (verify.Resolve proposal view kind target) is = plans_nothing (λ view. false) (has_planned is)
  verify_followed asked verify.Wait is = plans_nothing (λ view. false) (plans_same old new is)

  verdict_followed : (bytes : D → List ℕ) (bytes_of : C → List ℕ) (now : ℕ) (is_success : Bool)
      (notarization : Option (Notarization S D K G C))
      → IsVerdictFollowed bytes bytes_of now is_success notarization old new → KeepsPlanned old new
  verdict_followed bytes bytes_of now is_success None is = plans_same old new is
  verdict_followed bytes bytes_of now is_success (Some n) is = by_genesis (n.proposal.round.view == 0) is
    where
      by_genesis : (b : Bool) → IsVerdictReportedAbove bytes bytes_of now b is_success n old new → KeepsPlanned old new
      by_genesis true is = plans_same old new is
      by_genesis false is =
          plans_behind old new (touching n.proposal.round.view) is.planned.steps
          (ap beside_of is.planned.same ∙ repaired_beside old new.repair is.repaired.peers is.repaired.retry)

  -- the work of proposals that are certified
  certified_work : (proposals : List (Proposal D))
      → work_planned (certifying {S = S} {D = D} {K = K} {G = G} {C = C} proposals) ≡ map work.Certify proposals
  certified_work [] = refl
  certified_work (p ∷ rest) = ap (λ works. work.Certify p ∷ works) (certified_work rest)

  pub followed_plans : (bytes : D → List ℕ) (bytes_of : C → List ℕ) (now : ℕ) (asked : Task D)
      (answer : Reply S D K G C)
      → IsFollowed bytes bytes_of now asked answer old new → PlansAnswer asked (reply_facts bytes_of answer) old new
  followed_plans bytes bytes_of now asked (reply.Flag is_taken) is =
      plans_none (consequence_plans (after_flag asked is_taken) is)
  followed_plans bytes bytes_of now asked (reply.Triggered is_latched) is =
      plans_none (consequence_plans (after_flag asked is_latched) is)
  followed_plans bytes bytes_of now asked (reply.Released was_open) is =
      plans_none (consequence_plans (after_flag asked was_open) is)
  followed_plans bytes bytes_of now asked (reply.Abandoned reason) is =
      plans_none (consequence_plans (after_watch asked (is_some reason)) is)
  followed_plans bytes bytes_of now asked (reply.Work answer) is = verify_followed asked answer is
  followed_plans bytes bytes_of now asked (reply.Request request) is = request_followed asked request is
  followed_plans bytes bytes_of now asked (reply.Candidates proposals wanted) is =
      subst (λ works. IsPlanned [] (λ view. false) (work_planned old.steps.items ++ works) (beside_of old)
      (work_planned new.steps.items) (beside_of new))
      (certified_work proposals.items) (plans_too (λ view. false) old new (certifying proposals.items) is.steps
      (ap beside_of is.same ∙ repaired_beside old new.repair is.fetched.peers is.fetched.retry))
  followed_plans bytes bytes_of now asked (reply.Certified is_success notarization) is =
      plans_nothing (λ view. false) (verdict_followed bytes bytes_of now is_success notarization is)
  followed_plans bytes bytes_of now asked (reply.Nullify answer) is =
      plans_nothing (λ view. false) (nullify_followed now answer is)
  followed_plans bytes bytes_of now asked (reply.Certificate certificate) is =
      plans_nothing (λ view. false) (broadcast_followed certificate is)
  followed_plans bytes bytes_of now asked (reply.Timeout moment reason) is =
      plans_nothing (λ view. false) (plans_behind old new
      (cond (nat_le moment now) (Ask (task.ConstructNullify old.views.current reason) ∷ []) []) is.steps
      (ap beside_of is.same))
  followed_plans bytes bytes_of now asked (reply.Fault fault) is = plans_nothing (λ view. false) (plans_same old new is)
  followed_plans bytes bytes_of now asked reply.NotAllowed is = plans_none (consequence_plans (after_refusal asked) is)
  followed_plans bytes bytes_of now asked reply.Unit is = plans_nothing (λ view. false) (plans_same old new is)
  followed_plans bytes bytes_of now asked (reply.Added newly leader) is =
      plans_nothing (λ view. false) (plans_same old new is)
  followed_plans bytes bytes_of now asked (reply.AddedNullification newly) is =
      plans_nothing (λ view. false) (plans_same old new is)
  followed_plans bytes bytes_of now asked (reply.Notarize vote) is =
      plans_nothing (λ view. false) (plans_same old new is)
  followed_plans bytes bytes_of now asked (reply.Finalize vote) is =
      plans_nothing (λ view. false) (plans_same old new is)
  followed_plans bytes bytes_of now asked (reply.Views views) is = plans_nothing (λ view. false) (plans_same old new is)
  followed_plans bytes bytes_of now asked reply.Restarted is = plans_nothing (λ view. false) (plans_same old new is)

module _ {S D K G C : Type 0} (bytes : D → List ℕ) (bytes_of : C → List ℕ) (now : ℕ) where
  new_followed : (old new : Plan S D K G C) (is_new : Bool) (certificate : Certificate S D K G C)
      → IsNewFollowed bytes bytes_of now is_new certificate old new → KeepsPlanned old new
  new_followed old new false certificate is = plans_same old new is
  new_followed old new true certificate is = by_genesis (certificate_view certificate == 0) is
    where
      by_genesis : (b : Bool) → IsTakenInAbove bytes bytes_of now b certificate old new → KeepsPlanned old new
      by_genesis true is = plans_same old new is
      by_genesis false is =
          plans_behind old new (touching (certificate_view certificate)) is.planned.steps
          (ap beside_of is.planned.same ∙ repaired_beside old new.repair is.notified.peers is.notified.retry)

  pub certificate_followed : (old new : Plan S D K G C) (certificate : Certificate S D K G C) (answer : Reply S D K G C)
      → IsCertificateFollowed bytes bytes_of now certificate answer old new → KeepsPlanned old new
  certificate_followed old new certificate (reply.Added is_new equivocator) is =
      keeps_further (has_planned is.is_shown) (new_followed is.shown new is_new certificate is.followed)
  certificate_followed old new certificate (reply.AddedNullification is_new) is =
      new_followed old new is_new certificate is
  certificate_followed old new certificate (reply.Flag b) is = plans_same old new is
  certificate_followed old new certificate (reply.Triggered b) is = plans_same old new is
  certificate_followed old new certificate (reply.Released b) is = plans_same old new is
  certificate_followed old new certificate (reply.Abandoned r) is = plans_same old new is
  certificate_followed old new certificate (reply.Work v) is = plans_same old new is
  certificate_followed old new certificate (reply.Request r) is = plans_same old new is
  certificate_followed old new certificate (reply.Candidates p f) is = plans_same old new is
  certificate_followed old new certificate (reply.Certified s n) is = plans_same old new is
  certificate_followed old new certificate (reply.Nullify a) is = plans_same old new is
  certificate_followed old new certificate (reply.Certificate c) is = plans_same old new is
  certificate_followed old new certificate (reply.Timeout m r) is = plans_same old new is
  certificate_followed old new certificate (reply.Fault f) is = plans_same old new is
  certificate_followed old new certificate reply.NotAllowed is = plans_same old new is
  certificate_followed old new certificate reply.Unit is = plans_same old new is
  certificate_followed old new certificate (reply.Notarize v) is = plans_same old new is
  certificate_followed old new certificate (reply.Finalize v) is = plans_same old new is
  certificate_followed old new certificate (reply.Views v) is = plans_same old new is
  certificate_followed old new certificate reply.Restarted is = plans_same old new is
