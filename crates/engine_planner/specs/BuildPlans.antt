-- What is planned for blocks to build.
use Rattle.std.specs.Prelude.{◌≡◌, ℕ, Bool, List, [], ◌∷◌, ◌++◌, if◌then◌else◌}
use Rattle.std.specs.List.{list_any}
use Rattle.simplex_types.specs.declared.types.messages.Context.{Context}
use Rattle.engine_planner.specs.declared.plan.builds.PendingBuild.{PendingBuild}
use Rattle.engine_planner.specs.declared.plan.Plan.{Plan}
use Rattle.engine_planner.specs.declared.plan.Step.{Step}
use Rattle.engine_planner.specs.declared.plan.Step.TheVariants.{Push}
use Rattle.engine_planner.specs.Blocks.{is_asked_at, all_but_at}
use Rattle.engine_outbox.specs.declared.output.Work.TheVariants.{Build, StopBuilding}

module _ {S D K G C : Type 0} where
  -- the application must stop building in the view, if it was asked to build
  abbrev pub stopping : ℕ → Bool → List (Step S D K G C)
  stopping view is_reported = if is_reported then Push (StopBuilding view) ∷ [] else []

  -- the application is asked for a block, now or not yet
  abbrev pub asking_for : Context D K → Bool → List (Step S D K G C)
  asking_for context is_reported = if is_reported then Push (Build context) ∷ [] else []

  -- these steps are appended to those that were queued, these blocks are to be built, and nothing else has changed
  pub record HasBuilds (more : List (Step S D K G C)) (builds : List (PendingBuild D K))
      (old new : Plan S D K G C) : Type 0 where
    pub steps : new.steps.items ≡ old.steps.items ++ more
    pub blocks : new.builds.buildings.items ≡ builds
    pub same : new ≡ record old { steps = new.steps; builds = new.builds }

  -- nothing is built in the view any more, and nothing else has changed
  pub record IsEnded (view : ℕ) (old new : Plan S D K G C) : Type 0 where
    pub blocks : new.builds.buildings.items ≡ all_but_at view old.builds.buildings.items
    pub same : new ≡ record old { builds = new.builds }

  -- the same, and the application must stop, if it was asked to build
  abbrev pub IsStopped : ℕ → Plan S D K G C → Plan S D K G C → Type 0
  IsStopped view old new =
      let builds = old.builds.buildings.items in
      HasBuilds (stopping view (list_any (is_asked_at view) builds)) (all_but_at view builds) old new
