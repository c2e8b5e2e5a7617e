-- What is at hand of an engine, and what it asks for, by the height of the views.
use Rattle.std.proofs.Common.{◌≡◌, ◌∙◌, refl, ap, sym, ℕ, inl, inr, Bool, true, false, ◌&&◌, ◌||◌, ◌==◌, cond, List, [], ◌∷◌, ◌++◌}
use Rattle.std.specs.Prelude.{nat_lt}
use Rattle.std.specs.List.{list_any}
use Rattle.std.proofs.lemmas.Bool.{false≢true, and_parts, eq-eqb, eqb-true, or_cases, or_left}
use Rattle.std.proofs.lemmas.List.Folds.{list_any-append}
use Rattle.simplex_resolver.specs.Repair.{has}
use Rattle.engine_fetches.specs.declared.fetches.Fetch.{Fetch}
use Rattle.engine_fetches.specs.declared.fetches.FetchKind.{FetchKind}
use Rattle.engine_fetches.specs.declared.fetches.FetchKind.TheVariants as fetch
use Rattle.engine_fetches.specs.Fetches.{same_kind}
use Rattle.engine_fetches.specs.OutstandingFetches.{wants}
use Rattle.engine_outbox.specs.Outputs.{work_in}
use Rattle.engine_outbox.specs.declared.output.Work.{Work}
use Rattle.engine_outbox.specs.declared.output.Work.TheVariants as work
use Rattle.engine_planner.specs.declared.plan.builds.PendingBuild.{PendingBuild}
use Rattle.engine_planner.specs.declared.plan.early.Early.{Early}
use Rattle.engine_planner.specs.declared.plan.Plan.{Plan}
use Rattle.engine_planner.specs.declared.plan.Step.{Step}
use Rattle.engine_planner.specs.declared.plan.Step.TheVariants as step
use Rattle.engine_planner.specs.declared.task.Task.{Task}
use Rattle.engine_planner.specs.declared.task.Task.TheVariants as task
use Rattle.engine_planner.specs.FetchRequests.{is_missing_certificate}
use Rattle.engine_planner.specs.Causes.{Cause, WorkItem, MissingCertificate, Request, Arrival, Quorum, Message, Expiry, of_blocks, of_early, of_fetch, of_fetches, of_repair, of_step, of_steps, of_task, of_work, of_works, planned_causes}
use Rattle.simplex_engine.specs.declared.engine.Engine.{Engine}
use Rattle.simplex_engine.specs.Provenance.{pending_causes, HasNoMissingCertificate}
use Rattle.simplex_engine.specs.FetchHeights.{resolves_above}
use Rattle.simplex_engine.proofs.Tests.{not_or, or_none}

-- a certificate of a view above this one is named as missing
abbrev pub lacks_above : {S D K G C : Type 0} → ℕ → Cause S D K G C → Bool
lacks_above top (MissingCertificate kind view) = nat_lt top view
lacks_above top _ = false

-- ---- tests

none_of : (a b : Bool) → a ≡ false → b ≡ false → (a || b) ≡ false
none_of true b is other = is
none_of false b is other = other

module _ {A : Type 0} (test : A → Bool) where
  -- none of these and none of those
  pub none_both : (these those : List A) → list_any test these ≡ false → list_any test those ≡ false
      → list_any test (these ++ those) ≡ false
  none_both these those first second = list_any-append test these those
      ∙ none_of (list_any test these) (list_any test those) first second

  none_each : (these those : List A) → list_any test (these ++ those) ≡ false
      → (list_any test these ≡ false) × (list_any test those ≡ false)
  none_each these those is = not_or (list_any test these) (list_any test those)
      (sym (list_any-append test these those) ∙ is)

kind_itself : (kind : FetchKind) → same_kind kind kind ≡ true
kind_itself fetch.Notarization = refl
kind_itself fetch.Nullification = refl
kind_itself fetch.Decision = refl

-- a view that is among those of which none is above is not above either
low_among : (top view : ℕ) (views : List ℕ) → has views view ≡ true → list_any (nat_lt top) views ≡ false
    → nat_lt top view ≡ false
low_among top view [] is low = absurd (false≢true is)
low_among top view (u ∷ views) is low =
    let both = not_or (nat_lt top u) (list_any (nat_lt top) views) low in
    elim (or_cases (view == u) (has views view) is) [
      | inl this ↦ ap (nat_lt top) (eqb-true view u this) ∙ both.0
      | inr later ↦ low_among top view views later both.1
    ]

-- ---- the parts of what is at hand

module _ (S D K G C : Type 0) (top : ℕ) where
  abbrev above : Cause S D K G C → Bool
  above = lacks_above top

  task_low : (asked : Task D) → list_any above (of_task asked) ≡ false
  task_low (task.SetProposal v p) = refl
  task_low task.TryPropose = refl
  task_low (task.Proposed v payload) = refl
  task_low (task.SupersedeProposalRequest v) = refl
  task_low (task.PendingHandoffAbandonment v) = refl
  task_low (task.ReleaseProposalRequest v) = refl
  task_low task.TryVerify = refl
  task_low (task.Verified v) = refl
  task_low (task.VerificationFailed v) = refl
  task_low task.CertifyCandidates = refl
  task_low (task.SetCertifyHandle v) = refl
  task_low (task.Certified v is_success) = refl
  task_low (task.ConstructNotarize v) = refl
  task_low (task.ConstructFinalize v) = refl
  task_low (task.ConstructNullify v reason) = refl
  task_low (task.BroadcastNotarization v) = refl
  task_low (task.BroadcastNullification v) = refl
  task_low (task.BroadcastFinalization v) = refl
  task_low task.GetBestCertificate = refl
  task_low (task.TriggerTimeout v reason) = refl
  task_low task.NextTimeout = refl
  task_low task.Prune = refl

  work_low : (it : Work S D K G C) → list_any above (of_work it) ≡ false
  work_low (work.Broadcast certificate) = refl
  work_low (work.Verify context proposal) = refl
  work_low (work.Build context) = refl
  work_low (work.StopBuilding v) = refl
  work_low (work.Certify proposal) = refl
  work_low (work.Fetch ask) = refl
  work_low (work.Equivocated first second) = refl
  work_low (work.ProposedTwice v leader) = refl
  work_low (work.Forget v) = refl

  works_low : (works : List (Work S D K G C)) → list_any above (of_works works) ≡ false
  works_low [] = refl
  works_low (it ∷ rest) = none_both above (of_work it) (of_works rest) (work_low it) (works_low rest)

  -- a step is caused by such a missing certificate exactly where it is to ask for that
  step_height : (it : Step S D K G C) → list_any above (of_step it) ≡ resolves_above top it
  step_height (step.Ask asked) = task_low asked
  step_height (step.Offer from proposal) = refl
  step_height (step.Resolve kind view proposal) = or_none (nat_lt top view)
  step_height (step.Repeat view) = refl
  step_height (step.Push it) = work_low it

  steps_height : (steps : List (Step S D K G C)) → list_any above (of_steps steps) ≡ list_any (resolves_above top) steps
  steps_height [] = refl
  steps_height (it ∷ rest) =
      list_any-append above (of_step it) (of_steps rest)
      ∙ ap (λ t. t || list_any above (of_steps rest)) (step_height it)
      ∙ ap (λ t. resolves_above top it || t) (steps_height rest)

  blocks_low : (builds : List (PendingBuild D K)) → list_any above (of_blocks builds) ≡ false
  blocks_low [] = refl
  blocks_low (b ∷ builds) = blocks_low builds

  early_low : (early : List (Early D)) → list_any above (of_early early) ≡ false
  early_low [] = refl
  early_low (it ∷ early) = early_low early

  fetch_low : (t : Bool) (it : Fetch) → nat_lt top it.view ≡ false
      → list_any above (cond t [] (MissingCertificate it.kind it.view ∷ [])) ≡ false
  fetch_low true it low = refl
  fetch_low false it low = or_none (nat_lt top it.view) ∙ low

  fetches_low : (wanted : List ℕ) (fetches : List Fetch) → list_any (λ (it : Fetch). nat_lt top it.view) fetches ≡ false
      → list_any above (of_fetches wanted fetches) ≡ false
  fetches_low wanted [] low = refl
  fetches_low wanted (it ∷ rest) low =
      let both = not_or (nat_lt top it.view) (list_any (λ (it : Fetch). nat_lt top it.view) rest) low in
      none_both above (of_fetch wanted it) (of_fetches wanted rest) (fetch_low (wants wanted it.kind it.view) it both.0)
      (fetches_low wanted rest both.1)

  -- a fetch without such a missing certificate as its cause is not above, where none is that the resolver wants
  fetch_asked : (wanted : List ℕ) → list_any (nat_lt top) wanted ≡ false → (it : Fetch) (t : Bool)
      → wants wanted it.kind it.view ≡ t → list_any above (cond t [] (MissingCertificate it.kind it.view ∷ [])) ≡ false
      → nat_lt top it.view ≡ false
  fetch_asked wanted open_low it true is low =
      low_among top it.view wanted (and_parts (same_kind it.kind fetch.Nullification) (has wanted it.view) is).1
      open_low
  fetch_asked wanted open_low it false is low = sym (or_none (nat_lt top it.view)) ∙ low

  fetches_asked : (wanted : List ℕ) → list_any (nat_lt top) wanted ≡ false → (fetches : List Fetch)
      → list_any above (of_fetches wanted fetches) ≡ false
      → list_any (λ (it : Fetch). nat_lt top it.view) fetches ≡ false
  fetches_asked wanted open_low [] low = refl
  fetches_asked wanted open_low (it ∷ rest) low =
      let both = none_each above (of_fetch wanted it) (of_fetches wanted rest) low in
      none_of (nat_lt top it.view) (list_any (λ (it : Fetch). nat_lt top it.view) rest)
      (fetch_asked wanted open_low it (wants wanted it.kind it.view) refl both.0)
      (fetches_asked wanted open_low rest both.1)

  -- what is planned
  plan_low : (plan : Plan S D K G C) → list_any (λ (it : Fetch). nat_lt top it.view)
      plan.repair.fetches.wanted.items ≡ false → list_any (resolves_above top) plan.steps.items ≡ false
      → list_any above (planned_causes plan) ≡ false
  plan_low plan asked planned =
      none_both above (of_steps plan.steps.items)
      (of_blocks plan.builds.buildings.items ++ (of_early plan.early.proposals.items ++ of_repair plan.repair))
      (steps_height plan.steps.items ∙ planned)
      (none_both above (of_blocks plan.builds.buildings.items)
      (of_early plan.early.proposals.items ++ of_repair plan.repair) (blocks_low plan.builds.buildings.items)
      (none_both above (of_early plan.early.proposals.items) (of_repair plan.repair)
      (early_low plan.early.proposals.items)
      (fetches_low plan.repair.resolver.open_fetches plan.repair.fetches.wanted.items asked)))

  plan_asks : (plan : Plan S D K G C) → list_any (nat_lt top) plan.repair.resolver.open_fetches ≡ false
      → list_any above (planned_causes plan) ≡ false
      → (list_any (λ (it : Fetch). nat_lt top it.view) plan.repair.fetches.wanted.items ≡ false)
      × (list_any (resolves_above top) plan.steps.items ≡ false)
  plan_asks plan open_low low =
      let by_steps = none_each above (of_steps plan.steps.items)
      (of_blocks plan.builds.buildings.items ++ (of_early plan.early.proposals.items ++ of_repair plan.repair)) low
      in
      let by_blocks = none_each above (of_blocks plan.builds.buildings.items)
      (of_early plan.early.proposals.items ++ of_repair plan.repair) by_steps.1 in
      let by_early = none_each above (of_early plan.early.proposals.items) (of_repair plan.repair) by_blocks.1 in (
        fetches_asked plan.repair.resolver.open_fetches open_low plan.repair.fetches.wanted.items by_early.1,
        sym (steps_height plan.steps.items) ∙ by_steps.0,
      )

-- ---- what is at hand

-- what is at hand says so of none, where nothing is asked for above this view
pub hand_low : {S L D K G C : Type 0} (top : ℕ) (engine : Engine S L D K G C)
    → list_any (λ fetch. nat_lt top fetch.view) engine.plan.repair.fetches.wanted.items ≡ false
    → list_any (resolves_above top) engine.plan.steps.items ≡ false
    → list_any (lacks_above top) (pending_causes engine) ≡ false
hand_low {S = S} {D = D} {K = K} {G = G} {C = C} top engine asked planned =
    none_both (lacks_above top) (of_works (work_in engine.core.outbox.queue.items)) (planned_causes engine.plan)
    (works_low S D K G C top (work_in engine.core.outbox.queue.items))
    (plan_low S D K G C top engine.plan asked planned)

-- and where it says so of none, nothing is asked for or to be that is above, but what the resolver wants
pub hand_asks : {S L D K G C : Type 0} (top : ℕ) (out : List (Work S D K G C)) (engine : Engine S L D K G C)
    → list_any (nat_lt top) engine.plan.repair.resolver.open_fetches ≡ false
    → list_any (lacks_above top) (of_works out ++ pending_causes engine) ≡ false
    → (list_any (λ fetch. nat_lt top fetch.view) engine.plan.repair.fetches.wanted.items ≡ false)
    × (list_any (resolves_above top) engine.plan.steps.items ≡ false)
hand_asks {S = S} {D = D} {K = K} {G = G} {C = C} top out engine open_low low =
    plan_asks S D K G C top engine.plan open_low
    (none_each (lacks_above top) (of_works (work_in engine.core.outbox.queue.items)) (planned_causes engine.plan)
    (none_each (lacks_above top) (of_works out) (pending_causes engine) low).1).1

-- of what came in none is missing
pub none_lacks : {S D K G C : Type 0} (top : ℕ) (came : List (Cause S D K G C)) → HasNoMissingCertificate came
    → list_any (lacks_above top) came ≡ false
none_lacks top [] none = refl
none_lacks top (WorkItem it ∷ rest) none = none_lacks top rest none
none_lacks top (MissingCertificate kind view ∷ rest) none =
    absurd (false≢true (sym (none kind view)
    ∙ or_left (same_kind kind kind && view == view) (list_any (is_missing_certificate kind view) rest)
    (ap (λ t. t && view == view) (kind_itself kind) ∙ eq-eqb view view refl)))
none_lacks top (Request ask ∷ rest) none = none_lacks top rest none
none_lacks top (Arrival from proposal ∷ rest) none = none_lacks top rest none
none_lacks top (Quorum on ∷ rest) none = none_lacks top rest none
none_lacks top (Message replied ∷ rest) none = none_lacks top rest none
none_lacks top (Expiry ∷ rest) none = none_lacks top rest none
