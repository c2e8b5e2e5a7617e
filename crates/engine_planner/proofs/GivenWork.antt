-- What the calls of a plan leave at hand: what was, and what an answer gives.
use Rattle.std.proofs.Common.{◌≡◌, ◌∙◌, refl, ap, ℕ, Bool, true, false, not, ◌==◌, cond, List, [], ◌∷◌, ◌++◌, append_assoc, append-nil, filter, map, Option, Some, None, is_some}
use Rattle.std.specs.Prelude.{nat_le, nat_lt}
use Rattle.simplex_types.specs.Certificates.{certificate_facts}
use Rattle.simplex_types.specs.MessageViews.{certificate_view}
use Rattle.simplex_types.specs.declared.reasons.TimeoutReason.{TimeoutReason}
use Rattle.simplex_types.specs.declared.types.messages.Certificate.{Certificate}
use Rattle.simplex_types.specs.declared.types.messages.Certificate.TheVariants as certificate
use Rattle.simplex_types.specs.declared.types.messages.Notarization.{Notarization}
use Rattle.simplex_types.specs.declared.types.messages.Nullify.{Nullify}
use Rattle.simplex_types.specs.declared.types.messages.Proposal.{Proposal}
use Rattle.simplex_resolver.specs.declared.resolver.effect.Effect.{Effect}
use Rattle.simplex_resolver.specs.Steps.{Call, effects}
use Rattle.simplex_resolver.specs.CallHistory.{LawfulResolverFacts}
use Rattle.simplex_voter.specs.ProposalRequests.{request_context}
use Rattle.simplex_voter.specs.declared.voter.candidates.CertificateFetch.{CertificateFetch}
use Rattle.simplex_voter.specs.declared.voter.propose.ProposalRequest.{ProposalRequest}
use Rattle.simplex_voter.specs.declared.voter.propose.ProposalRequest.TheVariants.{Prepare, Propose}
use Rattle.simplex_voter.specs.declared.voter.verify.Verify.{Verify}
use Rattle.simplex_voter.specs.declared.voter.verify.Verify.TheVariants as verify
use Rattle.simplex_member.specs.Calls.{CallFacts}
use Rattle.simplex_member.specs.declared.member.calls.Reply.{Reply}
use Rattle.simplex_member.specs.declared.member.calls.Reply.TheVariants as reply
use Rattle.engine_fetches.specs.declared.fetches.Ask.{Ask}
use Rattle.engine_fetches.specs.declared.fetches.Fetch.{Fetch}
use Rattle.engine_fetches.specs.declared.fetches.FetchKind.TheVariants as fetch
use Rattle.engine_fetches.specs.declared.repair.Repair.{Repair}
use Rattle.engine_fetches.specs.Fetches.{fetch_kind, is_of, is_fetch_open}
use Rattle.engine_fetches.specs.Repairs.{IsRepaired}
use Rattle.engine_fetches.specs.OutstandingFetches.{after_effects, fetching, OpensNoOther}
use Rattle.engine_fetches.proofs.OpenedFetches.{opens_after, opens_further, opens_left}
use Rattle.engine_outbox.specs.declared.output.Work.TheVariants as work
use Rattle.engine_outbox.specs.CertificateCalls.{certificate_call}
use Rattle.engine_planner.specs.declared.plan.builds.PendingBuild.{PendingBuild}
use Rattle.engine_planner.specs.declared.plan.early.Early.{Early}
use Rattle.engine_planner.specs.declared.plan.Plan.{Plan}
use Rattle.engine_planner.specs.declared.plan.Step.{Step}
use Rattle.engine_planner.specs.declared.plan.Step.TheVariants as step
use Rattle.engine_planner.specs.declared.plan.Views.{Views}
use Rattle.engine_planner.specs.declared.task.Task.{Task}
use Rattle.engine_planner.specs.declared.task.Task.TheVariants as task
use Rattle.engine_planner.specs.Blocks.{all_but_at}
use Rattle.engine_planner.specs.BuildPlans.{IsEnded, IsStopped}
use Rattle.engine_planner.specs.ViewChanges.{asking_by, offering, offering_one, HasEntered, HasEnteredWhere, IsPassedWhere, HasSeen}
use Rattle.engine_planner.specs.Consequences.{AreCertified, Consequence, Nothing, Touched, Built, Stopped, Ended, Asked, after_flag, after_refusal, after_watch, certifying, effects_due, showing, waits, without, IsBroadcastFollowed, IsBuilt, IsCertificateFollowed, IsConsequence, IsFollowed, IsNewFollowed, IsNullifyFollowed, IsRequestFollowed, IsResolverNotified, IsTakenInAbove, IsTimeoutFollowed, IsVerdictFollowed, IsVerdictReportedAbove, IsVerifyFollowed, later}
use Rattle.engine_planner.specs.Causes.{Cause, WorkItem, MissingCertificate, Arrival, Expiry, reply_causes, of_block, of_blocks, of_early, of_fetches, of_repair, of_steps, of_task, planned_causes, shown_by}
use Rattle.engine_planner.specs.PlanStates.{HasPlanned, touching, watching}
use Rattle.engine_planner.specs.PlannedWork.{AreAmong}
use Rattle.engine_planner.proofs.PlannedWork.{among_all, among_both, among_further, among_more, among_still}
use Rattle.engine_planner.proofs.Causes.{among_each, among_last, among_none, asking_all, asking_of, blocks_left, built, each_part, fetches_alone, in_blocks, in_early, in_fetches, in_steps, more_steps, no_other, notarizations, of_blocks-append, of_steps-append, planned_alone, planned_more, repair_left, same_plan, still_blocks, still_early, still_fetches, stopping_of, replied_blocks}

-- ---- other views

module _ {S D K G C : Type 0} where
  passed_repair : (b : Bool) (finalized : ℕ) (old new : Repair) → IsPassedWhere b finalized old new
      → AreAmong {A = Cause S D K G C} (of_repair new) (of_repair old)
  passed_repair true finalized old new is = repair_left (λ (f : Fetch). nat_lt finalized f.view) is
  passed_repair false finalized old new is = among_all (ap of_repair is)

  offered : (view : ℕ) (early : List (Early D))
      → AreAmong {A = Cause S D K G C} (of_steps (offering view early)) (of_early early)
  offered view [] = among_still []
  offered view (it ∷ early) =
      among_further (among_all (of_steps-append (offering_one view it) (offering view early)))
      (among_both (one (nat_le it.view view)) (offered view early))
    where
      one : (b : Bool) → AreAmong {A = Cause S D K G C} (of_steps (cond b (step.Offer it.from it.proposal ∷ []) []))
          (Arrival it.from it.proposal ∷ [])
      one true = among_still (Arrival it.from it.proposal ∷ [])
      one false = among_none (Arrival it.from it.proposal ∷ [])

  early_left : (keep : Early D → Bool) (early : List (Early D))
      → AreAmong {A = Cause S D K G C} (of_early (filter keep early)) (of_early early)
  early_left keep [] = among_still []
  early_left keep (it ∷ early) = by_test (keep it) (early_left keep early)
    where
      by_test : (t : Bool) → AreAmong {A = Cause S D K G C} (of_early (filter keep early)) (of_early early)
          → AreAmong {A = Cause S D K G C} (of_early (cond t (it ∷ filter keep early) (filter keep early)))
          (of_early (it ∷ early))
      by_test true left = among_both (among_still (Arrival it.from it.proposal ∷ [])) left
      by_test false left = among_further left (among_last (Arrival it.from it.proposal ∷ []) (of_early early))

  entered_on : (view : ℕ) (old new : Plan S D K G C) → HasEntered view old new
      → AreAmong (planned_causes new) (planned_causes old)
  entered_on view old new is =
      each_part new
      (more_steps old new (touching view ++ (asking ++ offers))
      (is.steps ∙ append_assoc (old.steps.items ++ touching view) asking offers
      ∙ append_assoc old.steps.items (touching view) (asking ++ offers)) (among_still (planned_causes old))
      (among_further (among_all (of_steps-append (touching view) (asking ++ offers) ∙ of_steps-append asking offers))
      (among_each (among_further (asking_all view builds) (in_blocks old))
      (among_further (offered view early) (in_early old)))))
      (among_further (among_all (ap of_blocks is.blocks ∙ replied_blocks view builds)) (in_blocks old))
      (among_further (among_all (ap of_early is.early))
      (among_further (early_left (λ (e : Early D). nat_lt view e.view) early) (in_early old)))
      (still_fetches old new (ap (λ (p : Plan S D K G C). p.repair) is.same))
    where
      builds : List (PendingBuild D K)
      builds = old.builds.buildings.items

      early : List (Early D)
      early = old.early.proposals.items

      asking : List (Step S D K G C)
      asking = asking_by view builds

      offers : List (Step S D K G C)
      offers = offering view early

  entered_where : (b : Bool) (view : ℕ) (old new : Plan S D K G C) → HasEnteredWhere b view old new
      → AreAmong (planned_causes new) (planned_causes old)
  entered_where true view old new is = entered_on view old new is
  entered_where false view old new is = same_plan is

  pub seen_alone : (views : Views) (old new : Plan S D K G C) → HasSeen views old new
      → AreAmong (planned_causes new) (planned_causes old)
  seen_alone views old new is =
      among_further (entered_where (not (old.views.current == views.current)) views.current
      (record old { views = views; repair = new.repair }) new is.entered)
      (each_part (record old { views = views; repair = new.repair })
      (among_further (among_still (of_steps old.steps.items)) (in_steps old)) (in_blocks old) (in_early old)
      (among_further (passed_repair (nat_lt old.views.last_finalized views.last_finalized) views.last_finalized
      old.repair new.repair is.passed) (in_fetches old)))

  -- ---- answers

  abbrev Gives : List (Cause S D K G C) → Plan S D K G C → Plan S D K G C → Type 0
  Gives more old new = AreAmong (planned_causes new) (planned_causes old ++ more)

  pub gives_anyway : (old new : Plan S D K G C) (more : List (Cause S D K G C))
      → AreAmong (planned_causes new) (planned_causes old) → Gives more old new
  gives_anyway old new more is = among_further is (among_more (planned_causes old) more)

  ended : (view : ℕ) (old new : Plan S D K G C) → IsEnded view old new
      → AreAmong (planned_causes new) (planned_causes old)
  ended view old new is =
      each_part new
      (among_further (among_all (ap (λ (p : Plan S D K G C). of_steps p.steps.items) is.same)) (in_steps old))
      (among_further (among_all (ap of_blocks is.blocks))
      (among_further (blocks_left (λ (b : PendingBuild D K). not (b.context.round.view == view))
      old.builds.buildings.items) (in_blocks old)))
      (still_early old new (ap (λ (p : Plan S D K G C). p.early) is.same))
      (still_fetches old new (ap (λ (p : Plan S D K G C). p.repair) is.same))

  left_blocks : (view : ℕ) (plan : Plan S D K G C)
      → AreAmong (of_blocks (all_but_at view plan.builds.buildings.items)) (planned_causes plan)
  left_blocks view plan = among_further (blocks_left (λ (b : PendingBuild D K). not (b.context.round.view == view))
      plan.builds.buildings.items) (in_blocks plan)

  stopped : (view : ℕ) (old new : Plan S D K G C) → IsStopped view old new
      → AreAmong (planned_causes new) (planned_causes old)
  stopped view old new is = built is (among_still (planned_causes old))
      (among_further (stopping_of view old.builds.buildings.items) (in_blocks old)) (left_blocks view old)

  -- of what follows a call of the engine's own accord alone may be
  abbrev of_consequence : Consequence D → List (Cause S D K G C)
  of_consequence (Asked call) = of_task call
  of_consequence Nothing = []
  of_consequence (Touched view) = []
  of_consequence (Built view) = []
  of_consequence (Stopped view) = []
  of_consequence (Ended view) = []

  touched_where : (b : Bool) (view : ℕ) → of_consequence (cond b (Touched view) Nothing) ≡ []
  touched_where true view = refl
  touched_where false view = refl

  stopped_where : (b : Bool) (view : ℕ) → of_consequence (cond b (Stopped view) Nothing) ≡ []
  stopped_where true view = refl
  stopped_where false view = refl

  asked_where : (b : Bool) (view : ℕ) → of_task {S = S} {D = D} {K = K} {G = G} {C = C}
      (cond b (task.ReleaseProposalRequest view) (task.SupersedeProposalRequest view)) ≡ []
  asked_where true view = refl
  asked_where false view = refl

  flag_plain : (asked : Task D) (is_taken : Bool) → of_consequence (after_flag asked is_taken) ≡ []
  flag_plain (task.SetProposal view proposal) is_taken = touched_where is_taken view
  flag_plain task.TryPropose is_taken = refl
  flag_plain (task.Proposed view payload) is_taken = refl
  flag_plain (task.SupersedeProposalRequest view) is_taken = stopped_where is_taken view
  flag_plain (task.PendingHandoffAbandonment view) is_taken = refl
  flag_plain (task.ReleaseProposalRequest view) is_taken = refl
  flag_plain task.TryVerify is_taken = refl
  flag_plain (task.Verified view) is_taken = touched_where is_taken view
  flag_plain (task.VerificationFailed view) is_taken = refl
  flag_plain task.CertifyCandidates is_taken = refl
  flag_plain (task.SetCertifyHandle view) is_taken = refl
  flag_plain (task.Certified view is_success) is_taken = refl
  flag_plain (task.ConstructNotarize view) is_taken = refl
  flag_plain (task.ConstructFinalize view) is_taken = refl
  flag_plain (task.ConstructNullify view reason) is_taken = refl
  flag_plain (task.BroadcastNotarization view) is_taken = refl
  flag_plain (task.BroadcastNullification view) is_taken = refl
  flag_plain (task.BroadcastFinalization view) is_taken = refl
  flag_plain task.GetBestCertificate is_taken = refl
  flag_plain (task.TriggerTimeout view reason) is_taken = touched_where is_taken view
  flag_plain task.NextTimeout is_taken = refl
  flag_plain task.Prune is_taken = refl

  refusal_plain : (asked : Task D) → of_consequence (after_refusal asked) ≡ []
  refusal_plain (task.SetProposal view proposal) = refl
  refusal_plain task.TryPropose = refl
  refusal_plain (task.Proposed view payload) = refl
  refusal_plain (task.SupersedeProposalRequest view) = refl
  refusal_plain (task.PendingHandoffAbandonment view) = refl
  refusal_plain (task.ReleaseProposalRequest view) = refl
  refusal_plain task.TryVerify = refl
  refusal_plain (task.Verified view) = refl
  refusal_plain (task.VerificationFailed view) = refl
  refusal_plain task.CertifyCandidates = refl
  refusal_plain (task.SetCertifyHandle view) = refl
  refusal_plain (task.Certified view is_success) = refl
  refusal_plain (task.ConstructNotarize view) = refl
  refusal_plain (task.ConstructFinalize view) = refl
  refusal_plain (task.ConstructNullify view reason) = refl
  refusal_plain (task.BroadcastNotarization view) = refl
  refusal_plain (task.BroadcastNullification view) = refl
  refusal_plain (task.BroadcastFinalization view) = refl
  refusal_plain task.GetBestCertificate = refl
  refusal_plain (task.TriggerTimeout view reason) = refl
  refusal_plain task.NextTimeout = refl
  refusal_plain task.Prune = refl

  watch_plain : (asked : Task D) (is_abandoned : Bool) → of_consequence (after_watch asked is_abandoned) ≡ []
  watch_plain (task.SetProposal view proposal) is_abandoned = refl
  watch_plain task.TryPropose is_abandoned = refl
  watch_plain (task.Proposed view payload) is_abandoned = refl
  watch_plain (task.SupersedeProposalRequest view) is_abandoned = refl
  watch_plain (task.PendingHandoffAbandonment view) is_abandoned = asked_where is_abandoned view
  watch_plain (task.ReleaseProposalRequest view) is_abandoned = refl
  watch_plain task.TryVerify is_abandoned = refl
  watch_plain (task.Verified view) is_abandoned = refl
  watch_plain (task.VerificationFailed view) is_abandoned = refl
  watch_plain task.CertifyCandidates is_abandoned = refl
  watch_plain (task.SetCertifyHandle view) is_abandoned = refl
  watch_plain (task.Certified view is_success) is_abandoned = refl
  watch_plain (task.ConstructNotarize view) is_abandoned = refl
  watch_plain (task.ConstructFinalize view) is_abandoned = refl
  watch_plain (task.ConstructNullify view reason) is_abandoned = refl
  watch_plain (task.BroadcastNotarization view) is_abandoned = refl
  watch_plain (task.BroadcastNullification view) is_abandoned = refl
  watch_plain (task.BroadcastFinalization view) is_abandoned = refl
  watch_plain task.GetBestCertificate is_abandoned = refl
  watch_plain (task.TriggerTimeout view reason) is_abandoned = refl
  watch_plain task.NextTimeout is_abandoned = refl
  watch_plain task.Prune is_abandoned = refl

  consequence : (what : Consequence D) (old new : Plan S D K G C) → of_consequence what ≡ []
      → IsConsequence what old new → AreAmong (planned_causes new) (planned_causes old)
  consequence Nothing old new own is = same_plan is
  consequence (Touched view) old new own is = planned_alone {old = watching old} refl is
  consequence (Built view) old new own is =
      built {old = watching old} is (among_still (planned_causes old)) (among_none (planned_causes old))
      (left_blocks view old)
  consequence (Stopped view) old new own is = stopped view old new is
  consequence (Ended view) old new own is = ended view old new is
  consequence (Asked call) old new own is = planned_alone (ap (λ causes. causes ++ []) own) is

  verify_on : (now : ℕ) (answer : Verify D K) (asked : CallFacts D) (old new : Plan S D K G C)
      → IsVerifyFollowed answer old new → Gives (reply_causes now (reply.Work answer) asked) old new
  verify_on now (verify.Ready context proposal) asked old new is = planned_more is
  verify_on now (verify.Resolve proposal view kind target) asked old new is =
      by_test (is_fetch_open (fetch_kind kind) view old.repair.fetches.wanted.items) is
    where
      by_test : (b : Bool) → HasPlanned (cond b [] (step.Resolve (fetch_kind kind) view proposal ∷ [])) old new
          → Gives (MissingCertificate (fetch_kind kind) view ∷ []) old new
      by_test true is = gives_anyway old new (MissingCertificate (fetch_kind kind) view ∷ []) (planned_alone refl is)
      by_test false is = planned_more is
  verify_on now verify.Wait asked old new is = gives_anyway old new [] (same_plan is)

  block_on : (is_reported : Bool) (request : ProposalRequest D K) (old new : Plan S D K G C)
      → IsBuilt is_reported (request_context request) old new → Gives (of_block (request_context request)) old new
  block_on is_reported request old new is =
      let context = request_context request in
      let more = of_block context in
      built is (among_more (planned_causes old) more)
      (among_further (asking_of context is_reported) (among_last (planned_causes old) more))
      (among_further (among_all (of_blocks-append (all_but_at context.round.view old.builds.buildings.items)
      (record { context = context; is_reported = is_reported } ∷ [])))
      (among_both (left_blocks context.round.view old) (among_all (append-nil more))))

  request_on : (now : ℕ) (request : Option (ProposalRequest D K)) (asked : CallFacts D) (old new : Plan S D K G C)
      → IsRequestFollowed request old new
      → Gives (reply_causes now (reply.Request request) asked) old new
  request_on now None asked old new is = gives_anyway old new [] (same_plan is)
  request_on now (Some (Prepare context)) asked old new is =
      block_on (not (waits old.is_alone old.views.current context)) (Prepare context) old new is
  request_on now (Some (Propose context)) asked old new is = block_on true (Propose context) old new is

  broadcast_on : (now : ℕ) (answer : Option (Certificate S D K G C)) (asked : CallFacts D) (old new : Plan S D K G C)
      → IsBroadcastFollowed answer old new
      → Gives (reply_causes now (reply.Certificate answer) asked) old new
  broadcast_on now None asked old new is = gives_anyway old new [] (same_plan is)
  broadcast_on now (Some certificate) asked old new is = planned_more is

  offers_of : (proposals : List (Proposal D))
      → of_steps {S = S} {K = K} {G = G} {C = C} (certifying proposals) ≡ map (λ p. WorkItem (work.Certify p)) proposals
  offers_of [] = refl
  offers_of (p ∷ proposals) = ap (λ rest. WorkItem (work.Certify p) ∷ rest) (offers_of proposals)

  candidates_on : (now : ℕ) (proposals : List (Proposal D)) (wanted : List CertificateFetch) (old new : Plan S D K G C)
      → AreCertified now proposals wanted old new
      → Gives (map (λ p. WorkItem (work.Certify p)) proposals ++ map
      (λ (it : CertificateFetch). MissingCertificate fetch.Notarization it.view) wanted) old new
  candidates_on now proposals wanted old new is =
      let offers : List (Cause S D K G C) = map (λ p. WorkItem (work.Certify p)) proposals in
      let lacks : List (Cause S D K G C) = map
      (λ (it : CertificateFetch). MissingCertificate fetch.Notarization it.view) wanted in
      let before = among_more (planned_causes old) (offers ++ lacks) in
      each_part new
      (more_steps old new (certifying proposals) is.steps before
      (among_further (among_all (offers_of proposals))
      (among_further (among_more offers lacks) (among_last (planned_causes old) (offers ++ lacks)))))
      (among_further (still_blocks old new (ap (λ (p : Plan S D K G C). p.builds) is.same)) before)
      (among_further (still_early old new (ap (λ (p : Plan S D K G C). p.early) is.same)) before)
      (among_further (among_all (ap (of_fetches new.repair.resolver.open_fetches) is.fetched.fetches_now
      ∙ ap (λ (r : LawfulResolverFacts). of_fetches r.open_fetches
      (fetching now wanted old.repair.fetches.wanted.items)) is.fetched.resolver))
      (among_further (notarizations old.repair.resolver.open_fetches now wanted old.repair.fetches.wanted.items)
      (among_each (among_further (in_fetches old) before)
      (among_further (among_last offers lacks) (among_last (planned_causes old) (offers ++ lacks))))))

  -- the resolver received it
  replied_fetches : {moment : ℕ} {call : Call} {old new : Repair} → IsRepaired moment call old new
      → AreAmong {A = Cause S D K G C} (of_repair new) (of_repair old)
  replied_fetches {moment = moment} {call = call} {old = old} {new = new} is =
      let es = effects old.resolver.state call in
      among_further (among_all (ap (of_fetches new.resolver.open_fetches) is.fetches_now))
      (no_other old.resolver.open_fetches new.resolver.open_fetches old.fetches.wanted.items
      (after_effects moment es old.fetches.wanted.items)
      (opens_after moment old.resolver.open_fetches new.resolver.open_fetches es old.fetches.wanted.items
      is.made.applied))

  pub repaired_alone : (old new : Plan S D K G C) → new ≡ record old { repair = new.repair }
      → AreAmong {A = Cause S D K G C} (of_repair new.repair) (of_repair old.repair)
      → AreAmong (planned_causes new) (planned_causes old)
  repaired_alone old new is fetches =
      among_further (fetches_alone old new [] is
      (among_further fetches (among_further (in_fetches old) (among_more (planned_causes old) []))))
      (among_all (append-nil (planned_causes old)))

  module _ (bytes : D → List ℕ) (bytes_of : C → List ℕ) (now : ℕ) where
    verdict_above : (b is_success : Bool) (notarization : Notarization S D K G C) (old new : Plan S D K G C)
        → IsVerdictReportedAbove bytes bytes_of now b is_success notarization old new
        → AreAmong (planned_causes new) (planned_causes old)
    verdict_above true is_success notarization old new is = same_plan is
    verdict_above false is_success notarization old new is =
        among_further (planned_alone {old = watching (record old { repair = new.repair })} refl is.planned)
        (repaired_alone old (record old { repair = new.repair }) refl (replied_fetches is.repaired))

    verdict_on : (is_success : Bool) (notarization : Option (Notarization S D K G C)) (old new : Plan S D K G C)
        → IsVerdictFollowed bytes bytes_of now is_success notarization old new
        → AreAmong (planned_causes new) (planned_causes old)
    verdict_on is_success None old new is = same_plan is
    verdict_on is_success (Some notarization) old new is =
        verdict_above (notarization.proposal.round.view == 0) is_success notarization old new is

    nullify_on : (answer : Option (Bool × Nullify S K G C)) (old new : Plan S D K G C)
        → IsNullifyFollowed now answer old new → AreAmong (planned_causes new) (planned_causes old)
    nullify_on None old new is = among_all (ap planned_causes is)
    nullify_on (Some (true, vote)) old new is = planned_alone refl is
    nullify_on (Some (false, vote)) old new is = planned_alone refl is

    timeout_on : (moment : ℕ) (reason : TimeoutReason) (asked : CallFacts D) (old new : Plan S D K G C)
        → IsTimeoutFollowed now moment reason old new
        → Gives (reply_causes now (reply.Timeout moment reason) asked) old new
    timeout_on moment reason asked old new is = by_test (nat_le moment now) is
      where
        by_test : (b : Bool) → HasPlanned (cond b (step.Ask (task.ConstructNullify old.views.current reason) ∷ []) [])
            (record old { timeout = moment }) new
            → Gives (cond b (Expiry ∷ []) []) old new
        by_test true is = planned_more {old = record old { timeout = moment }} is
        by_test false is = planned_more {old = record old { timeout = moment }} is

    -- the answer to a task is followed
    pub followed_by : (asked : Task D) (call : CallFacts D) (answer : Reply S D K G C) (old new : Plan S D K G C)
        → IsFollowed bytes bytes_of now asked answer old new
        → Gives (reply_causes now answer call) old new
    followed_by asked call (reply.Flag is_taken) old new is =
        gives_anyway old new [] (consequence (after_flag asked is_taken) old new (flag_plain asked is_taken) is)
    followed_by asked call (reply.Triggered is_latched) old new is =
        gives_anyway old new [] (consequence (after_flag asked is_latched) old new (flag_plain asked is_latched) is)
    followed_by asked call (reply.Released was_open) old new is =
        gives_anyway old new [] (consequence (after_flag asked was_open) old new (flag_plain asked was_open) is)
    followed_by asked call (reply.Abandoned reason) old new is =
        gives_anyway old new []
        (consequence (after_watch asked (is_some reason)) old new (watch_plain asked (is_some reason)) is)
    followed_by asked call (reply.Work answer) old new is = verify_on now answer call old new is
    followed_by asked call (reply.Request request) old new is = request_on now request call old new is
    followed_by asked call (reply.Candidates proposals wanted) old new is =
        candidates_on now proposals.items wanted.items old new is
    followed_by asked call (reply.Certified is_success notarization) old new is =
        gives_anyway old new [] (verdict_on is_success notarization old new is)
    followed_by asked call (reply.Nullify answer) old new is = gives_anyway old new [] (nullify_on answer old new is)
    followed_by asked call (reply.Certificate answer) old new is = broadcast_on now answer call old new is
    followed_by asked call (reply.Timeout moment reason) old new is = timeout_on moment reason call old new is
    followed_by asked call reply.NotAllowed old new is =
        gives_anyway old new [] (consequence (after_refusal asked) old new (refusal_plain asked) is)
    followed_by asked call (reply.Added is_new None) old new is = gives_anyway old new [] (same_plan is)
    followed_by asked call (reply.Added is_new (Some leader)) old new is =
        gives_anyway old new (shown_by call leader) (same_plan is)
    followed_by asked call (reply.AddedNullification is_new) old new is = gives_anyway old new [] (same_plan is)
    followed_by asked call (reply.Notarize vote) old new is = gives_anyway old new [] (same_plan is)
    followed_by asked call (reply.Finalize vote) old new is = gives_anyway old new [] (same_plan is)
    followed_by asked call (reply.Views views) old new is = gives_anyway old new [] (same_plan is)
    followed_by asked call (reply.Fault fault) old new is = gives_anyway old new [] (same_plan is)
    followed_by asked call reply.Restarted old new is = gives_anyway old new [] (same_plan is)
    followed_by asked call reply.Unit old new is = gives_anyway old new [] (same_plan is)

    -- so is the answer to a certificate
    replied_on : (replied : Certificate S D K G C) (old : Plan S D K G C) (repair : Repair)
        → IsResolverNotified bytes bytes_of now replied old repair
        → AreAmong {A = Cause S D K G C} (of_repair repair) (of_repair old.repair)
    replied_on replied old repair is =
        among_further (among_all (ap (of_fetches repair.resolver.open_fetches) is.fetched))
        (no_other old.repair.resolver.open_fetches repair.resolver.open_fetches old.repair.fetches.wanted.items
        (without replied (after_effects moment es old.repair.fetches.wanted.items))
        (by_certificate replied old.repair.resolver.open_fetches repair.resolver.open_fetches
        old.repair.fetches.wanted.items (after_effects moment es old.repair.fetches.wanted.items)
        (opens_after moment old.repair.resolver.open_fetches repair.resolver.open_fetches es
        old.repair.fetches.wanted.items is.made.applied)))
      where
        moment : ℕ
        moment = later bytes bytes_of now old

        es : List Effect
        es = effects_due bytes bytes_of now replied old

        by_certificate : (replied : Certificate S D K G C) (before now : List ℕ) (xs ys : List Fetch)
            → OpensNoOther before xs now ys → OpensNoOther before xs now (without replied ys)
        by_certificate (certificate.Notarization n) before now xs ys opens =
            opens_further before now now xs ys _ opens
            (opens_left now ys (λ f. not (is_of fetch.Notarization n.proposal.round.view f)))
        by_certificate (certificate.Nullification n) before now xs ys opens = opens
        by_certificate (certificate.Finalization f) before now xs ys opens = opens

    taken_above : (b : Bool) (accepted : Certificate S D K G C) (old new : Plan S D K G C)
        → IsTakenInAbove bytes bytes_of now b accepted old new → AreAmong (planned_causes new) (planned_causes old)
    taken_above true accepted old new is = same_plan is
    taken_above false accepted old new is =
        among_further (planned_alone {old = watching (record old { repair = new.repair })} refl is.planned)
        (repaired_alone old (record old { repair = new.repair }) refl (replied_on accepted old new.repair is.notified))

    new_on : (b : Bool) (taken : Certificate S D K G C) (old new : Plan S D K G C)
        → IsNewFollowed bytes bytes_of now b taken old new → AreAmong (planned_causes new) (planned_causes old)
    new_on true taken old new is = taken_above (certificate_view taken == 0) taken old new is
    new_on false taken old new is = same_plan is

    pub certificate_on : (handed : Certificate S D K G C) (answer : Reply S D K G C) (old new : Plan S D K G C)
        → IsCertificateFollowed bytes bytes_of now handed answer old new
        → Gives (reply_causes now answer (certificate_call (certificate_facts bytes_of handed) now)) old new
    certificate_on handed (reply.Added is_new None) old new is =
        gives_anyway old new []
        (among_further (new_on is_new handed is.shown new is.followed) (planned_alone refl is.is_shown))
    certificate_on handed (reply.Added is_new (Some leader)) old new is =
        among_further (new_on is_new handed is.shown new is.followed)
        (among_further (planned_more is.is_shown)
        (among_both (among_still (planned_causes old)) (among_all (shown handed))))
      where
        shown : (it : Certificate S D K G C) → of_steps {S = S} {D = D} {K = K} {G = G} {C = C}
            (showing (certificate_view it) (Some leader)) ≡ shown_by
            (certificate_call (certificate_facts bytes_of it) now) leader
        shown (certificate.Notarization n) = refl
        shown (certificate.Nullification n) = refl
        shown (certificate.Finalization f) = refl
    certificate_on handed (reply.AddedNullification is_new) old new is =
        gives_anyway old new [] (new_on is_new handed old new is)
    certificate_on handed (reply.Flag is_taken) old new is = gives_anyway old new [] (same_plan is)
    certificate_on handed (reply.Triggered is_latched) old new is = gives_anyway old new [] (same_plan is)
    certificate_on handed (reply.Released was_open) old new is = gives_anyway old new [] (same_plan is)
    certificate_on handed (reply.Abandoned reason) old new is = gives_anyway old new [] (same_plan is)
    certificate_on handed (reply.Nullify answer) old new is = gives_anyway old new [] (same_plan is)
    certificate_on handed (reply.Notarize vote) old new is = gives_anyway old new [] (same_plan is)
    certificate_on handed (reply.Finalize vote) old new is = gives_anyway old new [] (same_plan is)
    certificate_on handed (reply.Views views) old new is = gives_anyway old new [] (same_plan is)
    certificate_on handed (reply.Fault fault) old new is = gives_anyway old new [] (same_plan is)
    certificate_on handed reply.Restarted old new is = gives_anyway old new [] (same_plan is)
    certificate_on handed reply.Unit old new is = gives_anyway old new [] (same_plan is)
    certificate_on handed reply.NotAllowed old new is = gives_anyway old new [] (same_plan is)
    certificate_on handed (reply.Certified is_success notarization) old new is = gives_anyway old new [] (same_plan is)
    certificate_on handed (reply.Work answer) old new is =
        gives_anyway old new
        (reply_causes now (reply.Work answer) (certificate_call (certificate_facts bytes_of handed) now)) (same_plan is)
    certificate_on handed (reply.Request request) old new is =
        gives_anyway old new (reply_causes now (reply.Request request)
        (certificate_call (certificate_facts bytes_of handed) now)) (same_plan is)
    certificate_on handed (reply.Certificate answer) old new is =
        gives_anyway old new (reply_causes now (reply.Certificate answer)
        (certificate_call (certificate_facts bytes_of handed) now)) (same_plan is)
    certificate_on handed (reply.Timeout moment reason) old new is =
        gives_anyway old new (reply_causes now (reply.Timeout moment reason)
        (certificate_call (certificate_facts bytes_of handed) now)) (same_plan is)
    certificate_on handed (reply.Candidates proposals wanted) old new is =
        gives_anyway old new (reply_causes now (reply.Candidates proposals wanted)
        (certificate_call (certificate_facts bytes_of handed) now)) (same_plan is)
