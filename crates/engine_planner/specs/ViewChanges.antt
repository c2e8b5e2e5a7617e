-- What is planned once the member has entered other views.
use Rattle.std.specs.Prelude.{◌≡◌, ℕ, Bool, true, false, not, ◌==◌, nat_le, nat_lt, max, List, [], ◌∷◌, ◌++◌, map, filter, if◌then◌else◌}
use Rattle.engine_fetches.specs.declared.repair.Repair.{Repair}
use Rattle.engine_fetches.specs.Fetches.{passed}
use Rattle.engine_fetches.specs.Repairs.{HasPassed}
use Rattle.engine_planner.specs.declared.plan.builds.PendingBuild.{PendingBuild}
use Rattle.engine_planner.specs.declared.plan.Plan.{Plan}
use Rattle.engine_planner.specs.declared.plan.Step.{Step}
use Rattle.engine_planner.specs.declared.plan.Step.TheVariants.{Offer}
use Rattle.engine_planner.specs.declared.plan.Views.{Views}
use Rattle.engine_planner.specs.declared.plan.early.Early.{Early}
use Rattle.engine_planner.specs.Blocks.{has_waited, reported_by}
use Rattle.engine_planner.specs.BuildPlans.{asking_for}
use Rattle.engine_planner.specs.PlanStates.{touching, watching}

module _ {S D K G C : Type 0} where
  -- the application is asked for the blocks that have waited
  abbrev pub asking_by : ℕ → List (PendingBuild D K) → List (Step S D K G C)
  asking_by view [] = []
  asking_by view (building ∷ rest) = asking_for building.context (has_waited view building) ++ asking_by view rest

  -- an early proposal is passed on once its view is reached
  abbrev pub offering_one : ℕ → Early D → List (Step S D K G C)
  offering_one view early = if nat_le early.view view then Offer early.from early.proposal ∷ [] else []

  -- the same for each of them
  abbrev pub offering : ℕ → List (Early D) → List (Step S D K G C)
  offering view [] = []
  offering view (early ∷ rest) = offering_one view early ++ offering view rest

  -- the view is entered: it is touched, and after that comes what waited for it
  pub record HasEntered (view : ℕ) (old new : Plan S D K G C) : Type 0 where
    pub steps : new.steps.items ≡ old.steps.items ++ touching view ++ asking_by view old.builds.buildings.items
        ++ offering view old.early.proposals.items
    pub blocks : new.builds.buildings.items ≡ map (reported_by view) old.builds.buildings.items
    pub early : new.early.proposals.items ≡ filter (λ (early : Early D). nat_lt view early.view)
        old.early.proposals.items
    pub same : new ≡ record (watching old) { steps = new.steps; builds = new.builds; early = new.early }

  -- the same if it is another one than before
  abbrev pub HasEnteredWhere : Bool → ℕ → Plan S D K G C → Plan S D K G C → Type 0
  HasEnteredWhere true view old new = HasEntered view old new
  HasEnteredWhere false view old new = new ≡ old

-- fetches of the views up to the last finalized one are closed, if it is a later one than before
abbrev pub IsPassedWhere : Bool → ℕ → Repair → Repair → Type 0
IsPassedWhere true finalized old new =
    HasPassed (max old.passed finalized) (passed finalized old.fetches.wanted.items) old new
IsPassedWhere false finalized old new = new ≡ old

module _ {S D K G C : Type 0} where
  -- the plan has taken note of these views
  pub record HasSeen (views : Views) (old new : Plan S D K G C) : Type 0 where
    pub passed : IsPassedWhere (nat_lt old.views.last_finalized views.last_finalized) views.last_finalized
        old.repair new.repair
    pub entered : HasEnteredWhere (not (old.views.current == views.current)) views.current
        (record old { views = views; repair = new.repair }) new
