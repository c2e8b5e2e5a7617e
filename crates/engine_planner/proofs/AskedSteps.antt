-- What the calls of a plan ask for still, and what is asked for besides.
use Rattle.std.proofs.Common.{◌≡◌, ◌∙◌, refl, ap, sym, subst, ℕ, ◌⊎◌, inl, inr, Bool, true, false, not, ◌&&◌, ◌||◌, ◌==◌, cond, List, [], ◌∷◌, ◌++◌, append_assoc, filter, map, Option, Some, None, is_some, arith}
use Rattle.std.specs.Prelude.{nat_le, nat_lt, option_to_list, OnErr, OnOk, Result, Ok, Err}
use Rattle.std.specs.List.{list_any}
use Rattle.std.proofs.lemmas.Bool.{false≢true, and_parts, eqb-true, or_cases, or_left, or_right}
use Rattle.std.proofs.lemmas.Bool.Decides.{nat_tests}
use Rattle.std.proofs.lemmas.List.Folds.{list_any-append}
use Rattle.simplex_types.specs.Certificates.{certificate_facts, notarization_facts}
use Rattle.simplex_types.specs.MessageViews.{certificate_view}
use Rattle.simplex_types.specs.declared.reasons.TimeoutReason.{TimeoutReason}
use Rattle.simplex_types.specs.declared.types.messages.Certificate.{Certificate}
use Rattle.simplex_types.specs.declared.types.messages.Certificate.TheVariants as certificate
use Rattle.simplex_types.specs.declared.types.messages.Notarization.{Notarization}
use Rattle.simplex_types.specs.declared.types.messages.Nullify.{Nullify}
use Rattle.simplex_types.specs.declared.types.messages.Proposal.{Proposal}
use Rattle.simplex_resolver.specs.Steps.{Call, after, effects, update, verdict}
use Rattle.simplex_resolver.specs.CallHistory.{LawfulResolverFacts}
use Rattle.simplex_voter.specs.Facts.{StateFacts}
use Rattle.simplex_voter.specs.declared.voter.candidates.CertificateFetch.{CertificateFetch}
use Rattle.simplex_voter.specs.declared.voter.propose.ProposalRequest.{ProposalRequest}
use Rattle.simplex_voter.specs.declared.voter.propose.ProposalRequest.TheVariants.{Prepare, Propose}
use Rattle.simplex_voter.specs.declared.voter.verify.Verify.{Verify}
use Rattle.simplex_voter.specs.declared.voter.verify.Verify.TheVariants as verify
use Rattle.simplex_member.specs.Calls.{CallFacts}
use Rattle.simplex_member.specs.Calls as call
use Rattle.simplex_member.specs.declared.member.calls.Reply.{Reply}
use Rattle.simplex_member.specs.declared.member.calls.Reply.TheVariants as reply
use Rattle.engine_fetches.specs.declared.fetches.Fetch.{Fetch}
use Rattle.engine_fetches.specs.declared.fetches.FetchKind.{FetchKind}
use Rattle.engine_fetches.specs.declared.fetches.FetchKind.TheVariants as fetch
use Rattle.engine_fetches.specs.declared.repair.Repair.{Repair}
use Rattle.engine_fetches.specs.Fetches.{fetch_kind, is_of, is_fetch_open, opened, same_kind}
use Rattle.engine_fetches.specs.Repairs.{HasFetches, HasPassed, IsRepaired}
use Rattle.engine_fetches.specs.OutstandingFetches.{after_effects, holds, is_missing}
use Rattle.engine_fetches.proofs.OpenedFetches.{open_asked}
use Rattle.engine_outbox.specs.declared.output.Work.TheVariants as work
use Rattle.engine_outbox.specs.CertificateCalls.{certificate_call}
use Rattle.engine_planner.specs.declared.plan.builds.PendingBuild.{PendingBuild}
use Rattle.engine_planner.specs.declared.plan.Plan.{Plan}
use Rattle.engine_planner.specs.declared.plan.Step.{Step}
use Rattle.engine_planner.specs.declared.plan.Step.TheVariants as step
use Rattle.engine_planner.specs.declared.plan.Views.{Views}
use Rattle.engine_planner.specs.declared.task.Task.{Task}
use Rattle.engine_planner.specs.declared.task.Task.TheVariants as task
use Rattle.engine_planner.specs.FetchRequests.{asks, ended_by, ends_fetch, received_by, views_received, is_missing_certificate, is_notarized, is_plain, is_resolve, never, AreMade, KeepsFetching}
use Rattle.engine_planner.specs.BuildPlans.{HasBuilds}
use Rattle.engine_planner.specs.ViewChanges.{asking_by, offering, HasEnteredWhere, IsPassedWhere, HasSeen}
use Rattle.engine_planner.specs.StepSelection.{watching_where, AreWatched, HasTaken, IsFetchAsked, IsPruneAsked, IsReady, IsTimeoutAsked}
use Rattle.engine_planner.specs.Consequences.{AreCertified, Consequence, Nothing, Touched, Built, Stopped, Ended, Asked, after_flag, after_refusal, after_watch, certifying, without, later, IsBroadcastFollowed, IsCertificateFollowed, IsConsequence, IsFollowed, IsNewFollowed, IsNullifyFollowed, IsRequestFollowed, IsTakenInAbove, IsTimeoutFollowed, IsVerdictFollowed, IsVerdictReportedAbove, IsVerifyFollowed}
use Rattle.engine_planner.specs.Causes.{Cause, WorkItem, Expiry, MissingCertificate, reply_causes, of_block, shown_by}
use Rattle.engine_planner.specs.PlanStates.{HasPlanned, touching, watching}
use Rattle.engine_planner.specs.Tasks.{call_of}
use Rattle.engine_planner.specs.AskedFetches.{AsksNoPeer}
use Rattle.engine_planner.proofs.AskedFetches.{asks_none_as, asks_none_in, asks_none_on, asks_none_still, asks_none_wider, unasked_effects, unasked_fetching, unasked_kept, unasked_on, unasked_opened, unasked_wider, without_in}
use Rattle.engine_planner.proofs.FetchRequests.{asks_on, asks_same, kind_same, turned_over, behind_steps, open_each, open_fetched, open_further, open_kept, open_now, open_through, planned_still, queued_more}
use Rattle.engine_planner.proofs.PlannedWork.{any_right}

not_or : (a b : Bool) → (a || b) ≡ false → (a ≡ false) × (b ≡ false)
not_or true b is = absurd (false≢true (sym is))
not_or false b is = (refl, is)

or_nothing : (a : Bool) → (a || false) ≡ true → a ≡ true
or_nothing true is = refl
or_nothing false is = is

-- from one moment to a later one
pub made_on : (a b c : LawfulResolverFacts) (first second : List Call) → AreMade a first b → AreMade b second c
    → AreMade a (first ++ second) c
made_on a b c [] second one other = subst (λ (r : LawfulResolverFacts). AreMade r second c) one other
made_on a b c (it ∷ first) second (next, made, rest) other = (next, made, made_on next b c first second rest other)

pub ended_on : (a b : LawfulResolverFacts) (first second : List Call) → AreMade a first b
    → (kind : FetchKind) (view : ℕ) → ended_by a.state (first ++ second) kind view ≡ false
    → (ended_by a.state first kind view ≡ false) × (ended_by b.state second kind view ≡ false)
ended_on a b [] second is kind view un =
    (refl, subst (λ (r : LawfulResolverFacts). ended_by r.state second kind view ≡ false) (sym is) un)
ended_on a b (it ∷ first) second (next, made, rest) kind view un =
    let parts = not_or (is_notarized kind view it || list_any (ends_fetch kind view) (effects a.state it))
    (ended_by (after a.state it) (first ++ second) kind view) un in
    let later = ended_on next b first second rest kind view
    (subst (λ x. ended_by x (first ++ second) kind view ≡ false) (sym made.state) parts.1) in (
      ap (λ b. b || ended_by (after a.state it) first kind view) parts.0
          ∙ subst (λ x. ended_by x first kind view ≡ false) made.state later.0,
      later.1,
    )

-- what is over neither by some calls nor by those after them
over_parts : (a b : LawfulResolverFacts) (over : FetchKind → ℕ → Bool) (first second : List Call) → AreMade a first b
    → (kind : FetchKind) (view : ℕ) → (over kind view || ended_by a.state (first ++ second) kind view) ≡ false
    → ((over kind view || ended_by a.state first kind view) ≡ false)
    × ((over kind view || ended_by b.state second kind view) ≡ false)
over_parts a b over first second is kind view un =
    let parts = not_or (over kind view) _ un in
    let ended = ended_on a b first second is kind view parts.1 in (
      ap (λ t. t || ended_by a.state first kind view) parts.0 ∙ ended.0,
      ap (λ t. t || ended_by b.state second kind view) parts.0 ∙ ended.1,
    )

-- a fetch of the same kind and view
as_open : (k kind : FetchKind) (v view : ℕ) (xs : List Fetch) → (same_kind k kind && v == view) ≡ true
    → is_fetch_open k v xs ≡ true → is_fetch_open kind view xs ≡ true
as_open k kind v view xs both is_open =
    subst (λ w. is_fetch_open kind w xs ≡ true) (eqb-true v view (and_parts (same_kind k kind) (v == view) both).1)
    (subst (λ it. is_fetch_open it v xs ≡ true) (kind_same k kind (and_parts (same_kind k kind) (v == view) both).0)
    is_open)

no_lack : (S K G C : Type 0) {D : Type 0} (kind : FetchKind) (view : ℕ) (proposals : List (Proposal D))
    → list_any (is_missing_certificate {S = S} {K = K} {G = G} {C = C} kind view)
    (map (λ p. WorkItem (work.Certify p)) proposals) ≡ false
no_lack S K G C kind view [] = refl
no_lack S K G C kind view (p ∷ proposals) = no_lack S K G C kind view proposals

shows_none : (S G C : Type 0) {D K : Type 0} (asked : CallFacts D) (leader : K) (kind : FetchKind) (view : ℕ)
    → list_any (is_missing_certificate {S = S} {D = D} {K = K} {G = G} {C = C} kind view)
    (shown_by asked leader) ≡ false
shows_none S G C (call.AddNotarization c) leader kind view = refl
shows_none S G C (call.AddNullification c at) leader kind view = refl
shows_none S G C (call.AddFinalization c at) leader kind view = refl
shows_none S G C (call.SetProposal v p) leader kind view = refl
shows_none S G C call.TryPropose leader kind view = refl
shows_none S G C (call.Proposed v payload at) leader kind view = refl
shows_none S G C (call.SupersedeProposalRequest v) leader kind view = refl
shows_none S G C (call.PendingHandoffAbandonment v) leader kind view = refl
shows_none S G C (call.ReleaseProposalRequest v) leader kind view = refl
shows_none S G C call.TryVerify leader kind view = refl
shows_none S G C (call.Verified v) leader kind view = refl
shows_none S G C (call.VerificationFailed v reason at) leader kind view = refl
shows_none S G C (call.ConstructNotarize v) leader kind view = refl
shows_none S G C call.CertifyCandidates leader kind view = refl
shows_none S G C (call.SetCertifyHandle v token) leader kind view = refl
shows_none S G C (call.Certified v is_success at) leader kind view = refl
shows_none S G C (call.ConstructNullify v) leader kind view = refl
shows_none S G C (call.ConstructFinalize v) leader kind view = refl
shows_none S G C (call.BroadcastNotarization v) leader kind view = refl
shows_none S G C (call.BroadcastNullification v) leader kind view = refl
shows_none S G C (call.BroadcastFinalization v) leader kind view = refl
shows_none S G C call.GetBestCertificate leader kind view = refl
shows_none S G C (call.TriggerTimeout v reason at) leader kind view = refl
shows_none S G C (call.NextTimeout at) leader kind view = refl
shows_none S G C call.Prune leader kind view = refl

-- a task passes no certificate
no_task_hands_in : {D : Type 0} (bytes : D → List ℕ) (now : ℕ) (asked : Task D)
    → views_received bytes (call_of asked now) ≡ []
no_task_hands_in bytes now (task.SetProposal v p) = refl
no_task_hands_in bytes now task.TryPropose = refl
no_task_hands_in bytes now (task.Proposed v payload) = refl
no_task_hands_in bytes now (task.SupersedeProposalRequest v) = refl
no_task_hands_in bytes now (task.PendingHandoffAbandonment v) = refl
no_task_hands_in bytes now (task.ReleaseProposalRequest v) = refl
no_task_hands_in bytes now task.TryVerify = refl
no_task_hands_in bytes now (task.Verified v) = refl
no_task_hands_in bytes now (task.VerificationFailed v) = refl
no_task_hands_in bytes now task.CertifyCandidates = refl
no_task_hands_in bytes now (task.SetCertifyHandle v) = refl
no_task_hands_in bytes now (task.Certified v is_success) = refl
no_task_hands_in bytes now (task.ConstructNotarize v) = refl
no_task_hands_in bytes now (task.ConstructFinalize v) = refl
no_task_hands_in bytes now (task.ConstructNullify v reason) = refl
no_task_hands_in bytes now (task.BroadcastNotarization v) = refl
no_task_hands_in bytes now (task.BroadcastNullification v) = refl
no_task_hands_in bytes now (task.BroadcastFinalization v) = refl
no_task_hands_in bytes now task.GetBestCertificate = refl
no_task_hands_in bytes now (task.TriggerTimeout v reason) = refl
no_task_hands_in bytes now task.NextTimeout = refl
no_task_hands_in bytes now task.Prune = refl

module _ {S D K G C : Type 0} where
  -- nothing of the resolver has changed, what was asked for is, and no peer is asked
  pub keeps_asking : {old new : Plan S D K G C} (over : FetchKind → ℕ → Bool)
      → new.repair.resolver ≡ old.repair.resolver
      → ((kind : FetchKind) (view : ℕ) → asks old kind view ≡ true → over kind view ≡ false → asks new kind view ≡ true)
      → AsksNoPeer over old.repair.fetches new.repair.fetches → KeepsFetching [] over [] old new
  keeps_asking {old = old} over same still unasked = record {
    received = same;
    still = λ kind view is un. still kind view (or_nothing (asks old kind view) is)
        (not_or (over kind view) false un).0;
    unasked = asks_none_wider (λ kind view un. (not_or (over kind view) false un).0) unasked;
  }

  -- beside matters of which none is a missing certificate
  pub asks_beside : {old new : Plan S D K G C} {over : FetchKind → ℕ → Bool} {calls : List Call}
      (given : List (Cause S D K G C))
      → ((kind : FetchKind) (view : ℕ) → list_any (is_missing_certificate kind view) given ≡ false)
      → KeepsFetching [] over calls old new → KeepsFetching given over calls old new
  asks_beside {old = old} given none keeps = record {
    received = keeps.received;
    still = λ kind view is. keeps.still kind view (ap (λ b. asks old kind view || b) (sym (none kind view)) ∙ is);
    unasked = keeps.unasked;
  }

  -- whatever is over
  pub asks_over : {old new : Plan S D K G C} {given : List (Cause S D K G C)} {calls : List Call}
      (over : FetchKind → ℕ → Bool) → KeepsFetching given never calls old new → KeepsFetching given over calls old new
  asks_over over keeps = record {
    received = keeps.received;
    still = λ kind view is un. keeps.still kind view is (not_or (over kind view) _ un).1;
    unasked = asks_none_wider (λ kind view un. (not_or (over kind view) _ un).1) keeps.unasked;
  }

  pub asks_where_same : {old new : Plan S D K G C} (over : FetchKind → ℕ → Bool) → new ≡ old
      → KeepsFetching [] over [] old new
  asks_where_same over is = keeps_asking over (ap (λ (p : Plan S D K G C). p.repair.resolver) is)
      (λ kind view asked un. asks_same kind view is asked)
      (asks_none_still (ap (λ (p : Plan S D K G C). p.repair.fetches) is))

  pub asks_behind : {more : List (Step S D K G C)} {old new : Plan S D K G C} (over : FetchKind → ℕ → Bool)
      → HasPlanned more old new → KeepsFetching [] over [] old new
  asks_behind over is = keeps_asking over (ap (λ (p : Plan S D K G C). p.repair.resolver) is.same)
      (λ kind view asked un. planned_still kind view is asked)
      (asks_none_still (ap (λ (p : Plan S D K G C). p.repair.fetches) is.same))

  pub asks_further : {a b c : Plan S D K G C} {given : List (Cause S D K G C)} {over : FetchKind → ℕ → Bool}
      {calls more : List Call} → KeepsFetching given over calls a b → KeepsFetching [] over more b c
      → KeepsFetching given over (calls ++ more) a c
  asks_further {a = a} {b = b} {c = c} {over = over} {calls = calls} {more = more} first second = record {
    received = made_on a.repair.resolver b.repair.resolver c.repair.resolver calls more first.received second.received;
    still = λ kind view is un.
        let parts = not_or (over kind view) _ un in
        let ended = ended_on a.repair.resolver b.repair.resolver calls more first.received kind view parts.1 in
        second.still kind view (or_left (asks b kind view) false
        (first.still kind view is
        (ap (λ t. t || ended_by a.repair.resolver.state calls kind view) parts.0 ∙ ended.0)))
        (ap (λ t. t || ended_by b.repair.resolver.state more kind view) parts.0 ∙ ended.1);
    unasked = asks_none_on
        (asks_none_wider (λ kind view un.
        (over_parts a.repair.resolver b.repair.resolver over calls more first.received kind view un).0) first.unasked)
        (asks_none_wider (λ kind view un.
        (over_parts a.repair.resolver b.repair.resolver over calls more first.received kind view un).1) second.unasked);
  }

  -- before it nothing was lost
  pub asks_then : {a b c : Plan S D K G C} {given : List (Cause S D K G C)} {over : FetchKind → ℕ → Bool}
      {calls more : List Call} → KeepsFetching [] over calls a b → KeepsFetching given over more b c
      → KeepsFetching given over (calls ++ more) a c
  asks_then {a = a} {b = b} {c = c} {given = given} {over = over} {calls = calls} {more = more} first second = record {
    received = made_on a.repair.resolver b.repair.resolver c.repair.resolver calls more first.received second.received;
    still = λ kind view is un.
        let parts = not_or (over kind view) _ un in
        let ended = ended_on a.repair.resolver b.repair.resolver calls more first.received kind view parts.1 in
        second.still kind view
        (elim (or_cases (asks a kind view) (list_any (is_missing_certificate kind view) given) is) [
          | inl before ↦ or_left (asks b kind view) (list_any (is_missing_certificate kind view) given)
              (first.still kind view (or_left (asks a kind view) false before)
              (ap (λ t. t || ended_by a.repair.resolver.state calls kind view) parts.0 ∙ ended.0))
          | inr now ↦ or_right (asks b kind view) (list_any (is_missing_certificate kind view) given) now
        ])
        (ap (λ t. t || ended_by b.repair.resolver.state more kind view) parts.0 ∙ ended.1);
    unasked = asks_none_on
        (asks_none_wider (λ kind view un.
        (over_parts a.repair.resolver b.repair.resolver over calls more first.received kind view un).0) first.unasked)
        (asks_none_wider (λ kind view un.
        (over_parts a.repair.resolver b.repair.resolver over calls more first.received kind view un).1) second.unasked);
  }

  -- ---- other views

  entered_steps : (kind : FetchKind) (view : ℕ) (b : Bool) (current : ℕ) (old new : Plan S D K G C)
      → HasEnteredWhere b current old new → asks old kind view ≡ true → asks new kind view ≡ true
  entered_steps kind view true current old new is =
      let asking = asking_by current old.builds.buildings.items in
      let offers = offering current old.early.proposals.items in
      queued_more kind view (touching current ++ (asking ++ offers)) old new
      (is.steps ∙ append_assoc (old.steps.items ++ touching current) asking offers
      ∙ append_assoc old.steps.items (touching current) (asking ++ offers))
      (ap (λ (p : Plan S D K G C). p.repair) is.same)
  entered_steps kind view false current old new is = asks_same kind view is

  entered_resolver : (b : Bool) (current : ℕ) (old new : Plan S D K G C) → HasEnteredWhere b current old new
      → new.repair.resolver ≡ old.repair.resolver
  entered_resolver true current old new is = ap (λ (p : Plan S D K G C). p.repair.resolver) is.same
  entered_resolver false current old new is = ap (λ (p : Plan S D K G C). p.repair.resolver) is

  pub seen_asks : (views : Views) (old new : Plan S D K G C) → HasSeen views old new
      → KeepsFetching [] (λ kind view. nat_le view views.last_finalized) [] old new
  seen_asks views old new is =
      keeps_asking (λ kind view. nat_le view views.last_finalized)
      (entered_resolver (not (old.views.current == views.current)) views.current between new is.entered
      ∙ resolver_is (nat_lt old.views.last_finalized views.last_finalized) is.passed)
      (λ kind view asked un. entered_steps kind view (not (old.views.current == views.current)) views.current between
      new is.entered
      (asks_on kind view old between (λ before.
      still kind view un (nat_lt old.views.last_finalized views.last_finalized) is.passed before) (λ queued. queued)
      asked))
      (passed_alone (nat_lt old.views.last_finalized views.last_finalized) is.passed)
    where
      between : Plan S D K G C
      between = record old { views = views; repair = new.repair }

      resolver_is : (b : Bool) → IsPassedWhere b views.last_finalized old.repair new.repair
          → new.repair.resolver ≡ old.repair.resolver
      resolver_is true passes = passes.resolver
      resolver_is false passes = ap (λ (r : Repair). r.resolver) passes

      above : (a b : ℕ) → nat_le b a ≡ false → nat_lt a b ≡ true
      above a b un = grind (arith, nat_tests, un)

      passed_alone : (b : Bool) → IsPassedWhere b views.last_finalized old.repair new.repair
          → AsksNoPeer (λ kind view. nat_le view views.last_finalized) old.repair.fetches new.repair.fetches
      passed_alone true passes = asks_none_in passes
          (unasked_kept (λ f. nat_lt views.last_finalized f.view) old.repair.fetches.wanted.items
          (λ kind view un f here. ap (nat_lt views.last_finalized)
          (eqb-true f.view view (and_parts (same_kind f.kind kind) (f.view == view) here).1)
          ∙ above views.last_finalized view un))
      passed_alone false passes = asks_none_still (ap (λ (r : Repair). r.fetches) passes)

      still : (kind : FetchKind) (view : ℕ) → nat_le view views.last_finalized ≡ false → (b : Bool)
          → IsPassedWhere b views.last_finalized old.repair new.repair
          → is_fetch_open kind view old.repair.fetches.wanted.items ≡ true
          → is_fetch_open kind view new.repair.fetches.wanted.items ≡ true
      still kind view un true passes before =
          ap (is_fetch_open kind view) passes.fetches_now
          ∙ open_kept kind view (λ f. nat_lt views.last_finalized f.view)
          (λ f here. ap (nat_lt views.last_finalized)
          (eqb-true f.view view (and_parts (same_kind f.kind kind) (f.view == view) here).1)
          ∙ above views.last_finalized view un)
          old.repair.fetches.wanted.items before
      still kind view un false passes before =
          ap (λ (r : Repair). is_fetch_open kind view r.fetches.wanted.items) passes ∙ before

  -- ---- the next step

  -- the step that is taken, or one that is left, asks as before
  abbrev pub AsksOn : List (Step S D K G C) → Plan S D K G C → Plan S D K G C → Type 0
  AsksOn taken old new =
      (new.repair.resolver ≡ old.repair.resolver)
      × ((kind : FetchKind) (view : ℕ) → asks old kind view ≡ true
      → (list_any (is_resolve kind view) taken || asks new kind view) ≡ true)

  asking_alone : {more : List (Step S D K G C)} (old new : Plan S D K G C) → HasPlanned more old new → AsksOn [] old new
  asking_alone old new is =
      (ap (λ (p : Plan S D K G C). p.repair.resolver) is.same, λ kind view. planned_still kind view is)

  module _ (now : ℕ) where
    fetch_asked : (old new : Plan S D K G C) → IsFetchAsked now old new → AsksOn [] old new
    fetch_asked old new is = (
      ap (λ (p : Plan S D K G C). p.repair.resolver) is.planned.same ∙ is.resolver,
      λ kind view asked. planned_still kind view is.planned
          (asks_on kind view old (record old { repair = new.repair })
          (λ before. open_asked now old.repair.fetches new.repair.fetches is.ask is.asked kind view ∙ before)
          (λ queued. queued) asked),
    )

    prune_asked : (b : Bool) (old new : Plan S D K G C) → IsPruneAsked b now old new → AsksOn [] old new
    prune_asked true old new is = asking_alone (record old { is_prune_due = false }) new is
    prune_asked false old new is = fetch_asked old new is

    timeout_asked : (b : Bool) (old new : Plan S D K G C) → IsTimeoutAsked b now old new → AsksOn [] old new
    timeout_asked true old new is = asking_alone (record old { is_timeout_due = false }) new is
    timeout_asked false old new is = prune_asked old.is_prune_due old new is

    watched_on : (steps : List (Step S D K G C)) (old new : Plan S D K G C) → AreWatched steps now old new
        → AsksOn [] old new
    watched_on [] old new is = timeout_asked old.is_timeout_due old new is
    watched_on (step ∷ steps) old new is = asking_alone old new is

    ready_on : (steps : List (Step S D K G C)) (old ready : Plan S D K G C) → IsReady steps now old ready
        → AsksOn [] old ready
    ready_on [] old ready is = watched_on (watching_where old.is_watch_due old.views.current old.builds.buildings.items)
        (record old { is_watch_due = false }) ready is
    ready_on (step ∷ steps) old ready is =
        (ap (λ (p : Plan S D K G C). p.repair.resolver) is, λ kind view. asks_same kind view is)

    pub taken_asks : (step : Option (Step S D K G C)) (old new : Plan S D K G C) → HasTaken now step old new
        → AsksOn (option_to_list step) old new
    taken_asks step old new taken =
        let ready = ready_on old.steps.items old taken.ready taken.is_ready in (
          ap (λ (p : Plan S D K G C). p.repair.resolver) taken.same ∙ ready.0,
          λ kind view asked. split kind view (or_cases (is_fetch_open kind view taken.ready.repair.fetches.wanted.items)
              (list_any (is_resolve kind view) taken.ready.steps.items) (ready.1 kind view asked)),
        )
      where
        split : (kind : FetchKind) (view : ℕ)
            → (is_fetch_open kind view taken.ready.repair.fetches.wanted.items ≡ true)
            ⊎ (list_any (is_resolve kind view) taken.ready.steps.items ≡ true)
            → (list_any (is_resolve kind view) (option_to_list step) || asks new kind view) ≡ true
        split kind view (inl before) =
            or_right (list_any (is_resolve kind view) (option_to_list step)) (asks new kind view)
            (or_left (is_fetch_open kind view new.repair.fetches.wanted.items)
            (list_any (is_resolve kind view) new.steps.items)
            (ap (λ (p : Plan S D K G C). is_fetch_open kind view p.repair.fetches.wanted.items) taken.same ∙ before))
        split kind view (inr queued) =
            elim (or_cases (list_any (is_resolve kind view) (option_to_list step))
            (list_any (is_resolve kind view) new.steps.items)
            (sym (ap (list_any (is_resolve kind view)) taken.taken
            ∙ list_any-append (is_resolve kind view) (option_to_list step) new.steps.items) ∙ queued)) [
              | inl this ↦ or_left (list_any (is_resolve kind view) (option_to_list step)) (asks new kind view) this
              | inr later ↦ or_right (list_any (is_resolve kind view) (option_to_list step)) (asks new kind view)
                  (or_right (is_fetch_open kind view new.repair.fetches.wanted.items)
                  (list_any (is_resolve kind view) new.steps.items) later)
            ]

  -- ---- answers

  blocks_planned : {more : List (Step S D K G C)} {builds : List (PendingBuild D K)} {old new : Plan S D K G C}
      → HasBuilds more builds old new → KeepsFetching [] never [] old new
  blocks_planned {more = more} {old = old} {new = new} is =
      keeps_asking never (ap (λ (p : Plan S D K G C). p.repair.resolver) is.same)
      (λ kind view asked un. queued_more kind view more old new is.steps
      (ap (λ (p : Plan S D K G C). p.repair) is.same) asked)
      (asks_none_still (ap (λ (p : Plan S D K G C). p.repair.fetches) is.same))

  -- whatever of the plan is no matter of what it asks for
  pub as_watched : {given : List (Cause S D K G C)} {over : FetchKind → ℕ → Bool} {calls : List Call}
      {old new : Plan S D K G C} → KeepsFetching given over calls (watching old) new
      → KeepsFetching given over calls old new
  as_watched keeps = record { received = keeps.received; still = keeps.still; unasked = keeps.unasked }

  as_timed : {given : List (Cause S D K G C)} {over : FetchKind → ℕ → Bool} {calls : List Call}
      {old new : Plan S D K G C} {moment : ℕ} → KeepsFetching given over calls (record old { timeout = moment }) new
      → KeepsFetching given over calls old new
  as_timed keeps = record { received = keeps.received; still = keeps.still; unasked = keeps.unasked }

  consequence_asks : (what : Consequence D) (old new : Plan S D K G C) → IsConsequence what old new
      → KeepsFetching [] never [] old new
  consequence_asks Nothing old new is = asks_where_same never is
  consequence_asks (Touched view) old new is = as_watched (asks_behind never is)
  consequence_asks (Built view) old new is = as_watched (blocks_planned is)
  consequence_asks (Stopped view) old new is = blocks_planned is
  consequence_asks (Ended view) old new is =
      keeps_asking never (ap (λ (p : Plan S D K G C). p.repair.resolver) is.same)
      (λ kind v asked un. ap (λ (p : Plan S D K G C). asks p kind v) is.same ∙ asked)
      (asks_none_still (ap (λ (p : Plan S D K G C). p.repair.fetches) is.same))
  consequence_asks (Asked call) old new is = asks_behind never is

  verify_asks : (now : ℕ) (answer : Verify D K) (asked : CallFacts D) (old new : Plan S D K G C)
      → IsVerifyFollowed answer old new → KeepsFetching (reply_causes now (reply.Work answer) asked) never [] old new
  verify_asks now (verify.Ready context proposal) asked old new is =
      asks_beside (WorkItem (work.Verify context proposal) ∷ []) (λ kind view. refl) (asks_behind never is)
  verify_asks now verify.Wait asked old new is = asks_where_same never is
  verify_asks now (verify.Resolve proposal at lacks target) asked old new is =
      by_test (is_fetch_open (fetch_kind lacks) at old.repair.fetches.wanted.items) refl is
    where
      more : List (Step S D K G C)
      more = step.Resolve (fetch_kind lacks) at proposal ∷ []

      by_test : (b : Bool) → is_fetch_open (fetch_kind lacks) at old.repair.fetches.wanted.items ≡ b
          → HasPlanned (cond b [] more) old new → KeepsFetching (MissingCertificate (fetch_kind lacks) at ∷ []) never []
          old new
      by_test true is_open planned = record {
        received = ap (λ (p : Plan S D K G C). p.repair.resolver) planned.same;
        still = λ kind view is un. planned_still kind view planned
            (elim (or_cases (asks old kind view) ((same_kind (fetch_kind lacks) kind && at == view) || false) is) [
              | inl before ↦ before
              | inr now ↦ or_left (is_fetch_open kind view old.repair.fetches.wanted.items)
                  (list_any (is_resolve kind view) old.steps.items)
                  (as_open (fetch_kind lacks) kind at view old.repair.fetches.wanted.items
                  (or_nothing (same_kind (fetch_kind lacks) kind && at == view) now) is_open)
            ]);
        unasked = asks_none_still (ap (λ (p : Plan S D K G C). p.repair.fetches) planned.same);
      }
      by_test false is_open planned = record {
        received = ap (λ (p : Plan S D K G C). p.repair.resolver) planned.same;
        still = λ kind view is un.
            elim (or_cases (asks old kind view) ((same_kind (fetch_kind lacks) kind && at == view) || false) is) [
              | inl before ↦ planned_still kind view planned before
              | inr now ↦ or_right (is_fetch_open kind view new.repair.fetches.wanted.items)
                  (list_any (is_resolve kind view) new.steps.items)
                  (ap (list_any (is_resolve kind view)) planned.steps
                  ∙ any_right (is_resolve kind view) old.steps.items more now)
            ];
        unasked = asks_none_still (ap (λ (p : Plan S D K G C). p.repair.fetches) planned.same);
      }

  request_asks : (now : ℕ) (request : Option (ProposalRequest D K)) (asked : CallFacts D) (old new : Plan S D K G C)
      → IsRequestFollowed request old new
      → KeepsFetching (reply_causes now (reply.Request request) asked) never [] old new
  request_asks now None asked old new is = asks_where_same never is
  request_asks now (Some (Prepare context)) asked old new is =
      asks_beside (of_block context) (λ kind view. refl) (blocks_planned is)
  request_asks now (Some (Propose context)) asked old new is =
      asks_beside (of_block context) (λ kind view. refl) (blocks_planned is)

  broadcast_asks : (now : ℕ) (answer : Option (Certificate S D K G C)) (asked : CallFacts D) (old new : Plan S D K G C)
      → IsBroadcastFollowed answer old new
      → KeepsFetching (reply_causes now (reply.Certificate answer) asked) never [] old new
  broadcast_asks now None asked old new is = asks_where_same never is
  broadcast_asks now (Some certificate) asked old new is =
      asks_beside (WorkItem (work.Broadcast certificate) ∷ []) (λ kind view. refl) (asks_behind never is)

  candidates_asks : (now : ℕ) (proposals : List (Proposal D)) (wanted : List CertificateFetch)
      (old new : Plan S D K G C) → AreCertified now proposals wanted old new
      → KeepsFetching (map (λ p. WorkItem (work.Certify p)) proposals ++ map
      (λ (it : CertificateFetch). MissingCertificate fetch.Notarization it.view) wanted) never [] old new
  candidates_asks now proposals wanted old new is = record {
    received = is.fetched.resolver;
    still = λ kind view asked un.
        elim (or_cases (asks old kind view) (list_any (is_missing_certificate kind view) (offers ++ lacks)) asked) [
          | inl before ↦ asks_on kind view old new
              (λ it. ap (is_fetch_open kind view) is.fetched.fetches_now
              ∙ open_fetched kind view now wanted old.repair.fetches.wanted.items it)
              (behind_steps kind view (certifying proposals) old new is.steps) before
          | inr given ↦ or_left (is_fetch_open kind view new.repair.fetches.wanted.items)
              (list_any (is_resolve kind view) new.steps.items)
              (ap (is_fetch_open kind view) is.fetched.fetches_now
              ∙ open_each kind view S D K G C now wanted old.repair.fetches.wanted.items
              (ap (λ b. b || list_any (is_missing_certificate kind view) lacks)
              (sym (no_lack S K G C kind view proposals))
              ∙ sym (list_any-append (is_missing_certificate kind view) offers lacks) ∙ given))
        ];
    unasked = asks_none_in is.fetched (unasked_fetching now wanted old.repair.fetches.wanted.items);
  }
    where
      offers : List (Cause S D K G C)
      offers = map (λ p. WorkItem (work.Certify p)) proposals

      lacks : List (Cause S D K G C)
      lacks = map (λ (it : CertificateFetch). MissingCertificate fetch.Notarization it.view) wanted

  -- the resolver received it, and then steps are planned
  replied_asks : {moment : ℕ} {it : Call} {more : List (Step S D K G C)} {old new : Plan S D K G C}
      → IsRepaired moment it old.repair new.repair
      → HasPlanned more (watching (record old { repair = new.repair })) new → KeepsFetching [] never (it ∷ []) old new
  replied_asks {moment = moment} {it = it} {more = more} {old = old} {new = new} is planned = record {
    received = (new.repair.resolver, is.made, refl);
    still = λ kind view asked un. planned_still kind view {old = watching (record old { repair = new.repair })} planned
        (asks_on kind view old (record old { repair = new.repair })
        (λ before. ap (is_fetch_open kind view) is.fetches_now
        ∙ open_through kind view moment (effects old.repair.resolver.state it) old.repair.fetches.wanted.items
        before
        (not_or (is_notarized kind view it) _ (not_or _ false un).0).1) (λ queued. queued)
        (or_nothing (asks old kind view) asked));
    unasked = asks_none_wider (λ kind view un. (not_or (is_notarized kind view it) _ (not_or _ false un).0).1)
        (asks_none_as is.peers is.retry is.fetches_now
        (unasked_effects moment (effects old.repair.resolver.state it) old.repair.fetches.wanted.items));
  }

  module _ (bytes : D → List ℕ) (bytes_of : C → List ℕ) (now : ℕ) where
    verdict_asks : (b is_success : Bool) (notarization : Notarization S D K G C) (old new : Plan S D K G C)
        → IsVerdictReportedAbove bytes bytes_of now b is_success notarization old new
        → KeepsFetching [] never (cond b [] (verdict bytes (notarization_facts bytes_of notarization) is_success ∷ []))
        old new
    verdict_asks true is_success notarization old new is = asks_where_same never is
    verdict_asks false is_success notarization old new is = replied_asks {old = old} is.repaired is.planned

    judged_asks : (asked : CallFacts D) (is_success : Bool) (notarization : Option (Notarization S D K G C))
        (old new : Plan S D K G C)
        → IsVerdictFollowed bytes bytes_of now is_success notarization old new
        → KeepsFetching [] never (received_by bytes bytes_of (reply.Certified is_success notarization) asked) old new
    judged_asks asked is_success None old new is = asks_where_same never is
    judged_asks asked is_success (Some notarization) old new is =
        verdict_asks (notarization.proposal.round.view == 0) is_success notarization old new is

    nullify_asks : (answer : Option (Bool × Nullify S K G C)) (old new : Plan S D K G C)
        → IsNullifyFollowed now answer old new → KeepsFetching [] never [] old new
    nullify_asks None old new is = keeps_asking never (ap (λ (p : Plan S D K G C). p.repair.resolver) is)
        (λ kind view asked un. asks_same kind view is asked)
        (asks_none_still (ap (λ (p : Plan S D K G C). p.repair.fetches) is))
    nullify_asks (Some (true, vote)) old new is = asks_behind never is
    nullify_asks (Some (false, vote)) old new is = asks_behind never is

    timeout_asks : (moment : ℕ) (reason : TimeoutReason) (asked : CallFacts D) (old new : Plan S D K G C)
        → IsTimeoutFollowed now moment reason old new
        → KeepsFetching (reply_causes now (reply.Timeout moment reason) asked) never [] old new
    timeout_asks moment reason asked old new is =
        asks_beside (reply_causes now (reply.Timeout moment reason) asked)
        (λ kind view. none kind view (nat_le moment now)) (as_timed (asks_behind never is))
      where
        none : (kind : FetchKind) (view : ℕ) (b : Bool)
            → list_any (is_missing_certificate {S = S} {D = D} {K = K} {G = G} {C = C} kind view)
            (cond b (Expiry ∷ []) []) ≡ false
        none kind view true = refl
        none kind view false = refl

    unnotified : (asked : Task D) (is_new : Bool) {given : List (Cause S D K G C)} {old new : Plan S D K G C}
        → KeepsFetching given never [] old new
        → KeepsFetching given never (cond is_new (views_received bytes (call_of asked now)) []) old new
    unnotified asked true {given = given} {old = old} {new = new} keeps =
        subst (λ calls. KeepsFetching given never calls old new) (sym (no_task_hands_in bytes now asked)) keeps
    unnotified asked false keeps = keeps

    -- the answer to a task is followed
    pub followed_asks : (asked : Task D) (answer : Reply S D K G C) (old new : Plan S D K G C)
        → IsFollowed bytes bytes_of now asked answer old new
        → KeepsFetching (reply_causes now answer (call_of asked now)) never
        (received_by bytes bytes_of answer (call_of asked now)) old new
    followed_asks asked (reply.Flag is_taken) old new is = consequence_asks (after_flag asked is_taken) old new is
    followed_asks asked (reply.Triggered is_latched) old new is =
        consequence_asks (after_flag asked is_latched) old new is
    followed_asks asked (reply.Released was_open) old new is = consequence_asks (after_flag asked was_open) old new is
    followed_asks asked (reply.Abandoned reason) old new is =
        consequence_asks (after_watch asked (is_some reason)) old new is
    followed_asks asked (reply.Work answer) old new is = verify_asks now answer (call_of asked now) old new is
    followed_asks asked (reply.Request request) old new is = request_asks now request (call_of asked now) old new is
    followed_asks asked (reply.Candidates proposals wanted) old new is =
        candidates_asks now proposals.items wanted.items old new is
    followed_asks asked (reply.Certified is_success notarization) old new is =
        judged_asks (call_of asked now) is_success notarization old new is
    followed_asks asked (reply.Nullify answer) old new is = nullify_asks answer old new is
    followed_asks asked (reply.Certificate answer) old new is = broadcast_asks now answer (call_of asked now) old new is
    followed_asks asked (reply.Timeout moment reason) old new is =
        timeout_asks moment reason (call_of asked now) old new is
    followed_asks asked reply.NotAllowed old new is = consequence_asks (after_refusal asked) old new is
    followed_asks asked (reply.Added is_new None) old new is = unnotified asked is_new (asks_where_same never is)
    followed_asks asked (reply.Added is_new (Some leader)) old new is =
        unnotified asked is_new (asks_beside (shown_by (call_of asked now) leader)
        (shows_none S G C (call_of asked now) leader) (asks_where_same never is))
    followed_asks asked (reply.AddedNullification is_new) old new is = unnotified asked is_new
        (asks_where_same never is)
    followed_asks asked (reply.Notarize vote) old new is = asks_where_same never is
    followed_asks asked (reply.Finalize vote) old new is = asks_where_same never is
    followed_asks asked (reply.Views views) old new is = asks_where_same never is
    followed_asks asked (reply.Fault fault) old new is = asks_where_same never is
    followed_asks asked reply.Restarted old new is = asks_where_same never is
    followed_asks asked reply.Unit old new is = asks_where_same never is

    -- a certificate was received
    without_asks : (received : Certificate S D K G C) (kind : FetchKind) (view : ℕ) (xs : List Fetch)
        → is_notarized kind view (update bytes (certificate_facts bytes_of received)) ≡ false
        → is_fetch_open kind view xs ≡ true → is_fetch_open kind view (without received xs) ≡ true
    without_asks (certificate.Nullification n) kind view xs un is = is
    without_asks (certificate.Finalization f) kind view xs un is = is
    without_asks (certificate.Notarization n) kind view xs un is =
        open_kept kind view (λ f. not (is_of fetch.Notarization n.proposal.round.view f)) (λ f here. other f here) xs is
      where
        other : (f : Fetch) → is_of kind view f ≡ true → not (is_of fetch.Notarization n.proposal.round.view f) ≡ true
        other f here =
            let both = and_parts (same_kind f.kind kind) (f.view == view) here in
            ap not (ap (λ k. same_kind k fetch.Notarization && f.view == n.proposal.round.view)
            (kind_same f.kind kind both.0)
            ∙ ap (λ v. same_kind kind fetch.Notarization && v == n.proposal.round.view) (eqb-true f.view view both.1)
            ∙ turned_over kind view n.proposal.round.view ∙ un)

    taken_in : (b : Bool) (accepted : Certificate S D K G C) (old new : Plan S D K G C)
        → IsTakenInAbove bytes bytes_of now b accepted old new
        → KeepsFetching [] never (cond b [] (update bytes (certificate_facts bytes_of accepted) ∷ [])) old new
    taken_in true accepted old new is = asks_where_same never is
    taken_in false accepted old new is = record {
      received = (new.repair.resolver, is.notified.made, refl);
      still = λ kind view asked un. planned_still kind view {old = watching (record old { repair = new.repair })}
          is.planned
          (asks_on kind view old (record old { repair = new.repair })
          (λ before. ap (is_fetch_open kind view) is.notified.fetched
          ∙ without_asks accepted kind view (after_effects moment (effects old.repair.resolver.state it)
          old.repair.fetches.wanted.items) (not_or (is_notarized kind view it) _ (not_or _ false un).0).0
          (open_through kind view moment (effects old.repair.resolver.state it) old.repair.fetches.wanted.items before
          (not_or (is_notarized kind view it) _ (not_or _ false un).0).1))
          (λ queued. queued) (or_nothing (asks old kind view) asked));
      unasked = asks_none_as is.notified.peers is.notified.retry is.notified.fetched (unasked_on
          (unasked_wider (λ kind view un. (not_or (is_notarized kind view it) _ (not_or _ false un).0).1)
          (unasked_effects moment (effects old.repair.resolver.state it) old.repair.fetches.wanted.items))
          (record {
            stay = λ kind view before un. without_asks accepted kind view
                (after_effects moment (effects old.repair.resolver.state it) old.repair.fetches.wanted.items)
                (not_or (is_notarized kind view it) _ (not_or _ false un).0).0 before;
            unasked = λ f has. inl (without_in accepted
                (after_effects moment (effects old.repair.resolver.state it) old.repair.fetches.wanted.items) f has);
          }));
    }
      where
        it : Call
        it = update bytes (certificate_facts bytes_of accepted)

        moment : ℕ
        moment = later bytes bytes_of now old

    -- what the resolver receives is of the certificate
    notified_as : (handed : Certificate S D K G C)
        → views_received bytes (certificate_call (certificate_facts bytes_of handed) now)
        ≡ cond (certificate_view handed == 0) [] (update bytes (certificate_facts bytes_of handed) ∷ [])
    notified_as (certificate.Notarization n) = refl
    notified_as (certificate.Nullification n) = refl
    notified_as (certificate.Finalization f) = refl

    new_asks : (b : Bool) (handed : Certificate S D K G C) (old new : Plan S D K G C)
        → IsNewFollowed bytes bytes_of now b handed old new
        → KeepsFetching [] never
        (cond b (views_received bytes (certificate_call (certificate_facts bytes_of handed) now)) []) old new
    new_asks true handed old new is = subst (λ calls. KeepsFetching [] never calls old new) (sym (notified_as handed))
        (taken_in (certificate_view handed == 0) handed old new is)
    new_asks false handed old new is = asks_where_same never is

    pub certificate_asks : (handed : Certificate S D K G C) (answer : Reply S D K G C) (old new : Plan S D K G C)
        → is_plain answer ≡ true → IsCertificateFollowed bytes bytes_of now handed answer old new
        → KeepsFetching (reply_causes now answer (certificate_call (certificate_facts bytes_of handed) now)) never
        (received_by bytes bytes_of answer (certificate_call (certificate_facts bytes_of handed) now)) old new
    certificate_asks handed (reply.Added is_new None) old new answers is =
        asks_further (asks_behind never is.is_shown) (new_asks is_new handed is.shown new is.followed)
    certificate_asks handed (reply.Added is_new (Some leader)) old new answers is =
        asks_beside (shown_by (certificate_call (certificate_facts bytes_of handed) now) leader)
        (shows_none S G C (certificate_call (certificate_facts bytes_of handed) now) leader)
        (asks_further (asks_behind never is.is_shown) (new_asks is_new handed is.shown new is.followed))
    certificate_asks handed (reply.AddedNullification is_new) old new answers is = new_asks is_new handed old new is
    certificate_asks handed (reply.Flag is_taken) old new answers is = asks_where_same never is
    certificate_asks handed (reply.Triggered is_latched) old new answers is = asks_where_same never is
    certificate_asks handed (reply.Released was_open) old new answers is = asks_where_same never is
    certificate_asks handed (reply.Abandoned reason) old new answers is = asks_where_same never is
    certificate_asks handed (reply.Nullify answer) old new answers is = asks_where_same never is
    certificate_asks handed (reply.Notarize vote) old new answers is = asks_where_same never is
    certificate_asks handed (reply.Finalize vote) old new answers is = asks_where_same never is
    certificate_asks handed (reply.Views views) old new answers is = asks_where_same never is
    certificate_asks handed (reply.Fault fault) old new answers is = asks_where_same never is
    certificate_asks handed reply.Restarted old new answers is = asks_where_same never is
    certificate_asks handed reply.Unit old new answers is = asks_where_same never is
    certificate_asks handed reply.NotAllowed old new answers is = asks_where_same never is
    certificate_asks handed (reply.Certified is_success notarization) old new answers is = absurd (false≢true answers)
    certificate_asks handed (reply.Work answer) old new answers is = absurd (false≢true answers)
    certificate_asks handed (reply.Request request) old new answers is = absurd (false≢true answers)
    certificate_asks handed (reply.Certificate answer) old new answers is = absurd (false≢true answers)
    certificate_asks handed (reply.Timeout moment reason) old new answers is = absurd (false≢true answers)
    certificate_asks handed (reply.Candidates proposals wanted) old new answers is = absurd (false≢true answers)

-- ---- fetches

module _ {S D K G C : Type 0} where
  -- a missing certificate is asked for, or, because memory ran out, nothing has changed
  pub resolves_asks : {X E : Type 0} (r : Result X E) (k : FetchKind) (v first moment : ℕ) (old new : Plan S D K G C)
      → new ≡ record old { repair = new.repair }
      → OnOk r (HasFetches (opened k v first moment old.repair.fetches.wanted.items) old.repair new.repair)
      → OnErr r (HasFetches old.repair.fetches.wanted.items old.repair new.repair)
      → OnOk r (KeepsFetching (MissingCertificate k v ∷ []) never [] old new)
  resolves_asks (Err e) k v first moment old new is opens refused = tt
  resolves_asks (Ok x) k v first moment old new is opens refused = record {
    received = opens.resolver;
    still =
        λ kind view asked un. elim (or_cases (asks old kind view) ((same_kind k kind && v == view) || false) asked) [
          | inl before ↦ asks_on kind view old new
              (λ it. ap (is_fetch_open kind view) opens.fetches_now
              ∙ open_further kind view k v first moment old.repair.fetches.wanted.items it)
              (λ queued. ap (λ (p : Plan S D K G C). list_any (is_resolve kind view) p.steps.items) is ∙ queued) before
          | inr now ↦ or_left (is_fetch_open kind view new.repair.fetches.wanted.items)
              (list_any (is_resolve kind view) new.steps.items)
              (ap (is_fetch_open kind view) opens.fetches_now
              ∙ open_now kind view k v first moment old.repair.fetches.wanted.items
              (or_nothing (same_kind k kind && v == view) now))
        ];
    unasked = asks_none_in opens (unasked_opened k v first moment old.repair.fetches.wanted.items);
  }

  -- missing certificates are still asked for
  pub dropped_asks : {X E : Type 0} {L : Type 0} (r : Result X E) (x : StateFacts K L D) (old new : Plan S D K G C)
      → new ≡ record old { repair = new.repair }
      → OnOk r (HasPassed x.finalized (filter (is_missing old.repair.resolver.open_fetches x)
      old.repair.fetches.wanted.items) old.repair new.repair)
      → OnOk r (KeepsFetching []
      (λ kind view. holds new.repair.resolver.open_fetches x kind view || nat_le view x.finalized) [] old new)
  dropped_asks (Err e) x old new is passes = tt
  dropped_asks {L = L} (Ok done) x old new is passes =
      subst (λ (r : LawfulResolverFacts). KeepsFetching []
      (λ kind view. holds r.open_fetches x kind view || nat_le view x.finalized) [] old new) (sym passes.resolver)
      (keeps_asking (λ kind view. holds wanted x kind view || nat_le view x.finalized) passes.resolver
      (λ kind view asked un. asks_on kind view old new
      (λ before. ap (is_fetch_open kind view) passes.fetches_now
      ∙ open_kept kind view (is_missing wanted x)
      (λ f here. lacks kind view f here (not_or (holds wanted x kind view) _ un)) old.repair.fetches.wanted.items
      before)
      (λ queued. ap (λ (p : Plan S D K G C). list_any (is_resolve kind view) p.steps.items) is ∙ queued) asked)
      (asks_none_in passes (unasked_kept (is_missing wanted x) old.repair.fetches.wanted.items
      (λ kind view un f here. lacks kind view f here (not_or (holds wanted x kind view) _ un)))))
    where
      wanted : List ℕ
      wanted = old.repair.resolver.open_fetches

      above : (a b : ℕ) → nat_le b a ≡ false → nat_lt a b ≡ true
      above a b un = grind (arith, nat_tests, un)

      lacks : (kind : FetchKind) (view : ℕ) (f : Fetch) → is_of kind view f ≡ true
          → (holds wanted x kind view ≡ false) × (nat_le view x.finalized ≡ false) → is_missing wanted x f ≡ true
      lacks kind view f here both =
          let of_it = and_parts (same_kind f.kind kind) (f.view == view) here in
          ap (λ k. nat_lt x.finalized f.view && not (holds wanted x k f.view)) (kind_same f.kind kind of_it.0)
          ∙ ap (λ v. nat_lt x.finalized v && not (holds wanted x kind v)) (eqb-true f.view view of_it.1)
          ∙ ap (λ b. b && not (holds wanted x kind view)) (above x.finalized view both.1) ∙ ap not both.0
