-- What is planned if no step is queued, and which step is taken.
use Rattle.std.specs.Prelude.{◌≡◌, ℕ, nat_lt, Bool, true, false, List, [], ◌∷◌, ◌++◌, map, drop, Option, Some, None, option_to_list, if◌then◌else◌}
use Rattle.engine_fetches.specs.declared.fetches.Ask.{Ask}
use Rattle.engine_fetches.specs.Requests.{IsAsking}
use Rattle.engine_outbox.specs.declared.output.Work.TheVariants.{Fetch}
use Rattle.engine_planner.specs.declared.plan.builds.PendingBuild.{PendingBuild}
use Rattle.engine_planner.specs.declared.plan.Plan.{Plan}
use Rattle.engine_planner.specs.declared.plan.Step.{Step}
use Rattle.engine_planner.specs.declared.plan.Step.TheVariants as step
use Rattle.engine_planner.specs.declared.task.Task.{Task}
use Rattle.engine_planner.specs.declared.task.Task.TheVariants.{PendingHandoffAbandonment, ReleaseProposalRequest, NextTimeout, Prune}
use Rattle.engine_planner.specs.PlanStates.{HasPlanned}

-- a block of a view below the current one is abandoned; for another the member is asked whether it must be
abbrev pub watching_one : {K D : Type 0} → ℕ → PendingBuild D K → Task D
watching_one current building =
    let view = building.context.round.view in
    if nat_lt view current then ReleaseProposalRequest view else PendingHandoffAbandonment view

module _ {S D K G C : Type 0} where
  -- the same for each block to build
  abbrev pub watching_all : ℕ → List (PendingBuild D K) → List (Step S D K G C)
  watching_all current builds = map (λ (building : PendingBuild D K). step.Ask (watching_one current building)) builds

  -- the same if something has changed since the last time
  abbrev pub watching_where : Bool → ℕ → List (PendingBuild D K) → List (Step S D K G C)
  watching_where is_due current builds = if is_due then watching_all current builds else []

  -- a fetch is asked for
  abbrev pub fetching_one : Option Ask → List (Step S D K G C)
  fetching_one None = []
  fetching_one (Some ask) = step.Push (Fetch ask) ∷ []

  -- the first fetch that is due is asked for
  pub record IsFetchAsked (now : ℕ) (old new : Plan S D K G C) : Type 0 where
    pub ask : Option Ask
    pub asked : IsAsking now old.repair.fetches ask new.repair.fetches
    pub resolver : new.repair.resolver ≡ old.repair.resolver
    pub planned : HasPlanned (fetching_one ask) (record old { repair = new.repair }) new

  -- the member is asked which views may be dropped before any fetch, once a moment
  abbrev pub IsPruneAsked : Bool → ℕ → Plan S D K G C → Plan S D K G C → Type 0
  IsPruneAsked true now old new = HasPlanned (step.Ask Prune ∷ []) (record old { is_prune_due = false }) new
  IsPruneAsked false now old new = IsFetchAsked now old new

  -- the member is asked for the timeout before that, once a moment
  abbrev pub IsTimeoutAsked : Bool → ℕ → Plan S D K G C → Plan S D K G C → Type 0
  IsTimeoutAsked true now old new = HasPlanned (step.Ask NextTimeout ∷ []) (record old { is_timeout_due = false }) new
  IsTimeoutAsked false now old new = IsPruneAsked old.is_prune_due now old new

  -- the member is asked about the blocks before anything else
  abbrev pub AreWatched : List (Step S D K G C) → ℕ → Plan S D K G C → Plan S D K G C → Type 0
  AreWatched [] now old new = IsTimeoutAsked old.is_timeout_due now old new
  AreWatched steps now old new = HasPlanned steps old new

  -- what is due is planned
  abbrev pub IsFilled : ℕ → Plan S D K G C → Plan S D K G C → Type 0
  IsFilled now old new = AreWatched (watching_where old.is_watch_due old.views.current old.builds.buildings.items) now
      (record old { is_watch_due = false }) new

  -- the same if no step is queued
  abbrev pub IsReady : List (Step S D K G C) → ℕ → Plan S D K G C → Plan S D K G C → Type 0
  IsReady [] now old ready = IsFilled now old ready
  IsReady _ now old ready = ready ≡ old

  -- the first step is taken, if there is one
  pub record HasTaken (now : ℕ) (step : Option (Step S D K G C)) (old new : Plan S D K G C) : Type 0 where
    pub ready : Plan S D K G C
    pub is_ready : IsReady old.steps.items now old ready
    pub taken : ready.steps.items ≡ option_to_list step ++ new.steps.items
    pub others : new.steps.items ≡ drop 1 ready.steps.items
    pub same : new ≡ record ready { steps = new.steps }
