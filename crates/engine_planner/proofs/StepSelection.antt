-- What is planned where no step is queued, and the step that is taken.
use Rattle.std.proofs.Common.{◌≡◌, ◌∙◌, refl, ap, sym, ℕ, Bool, true, false, List, [], ◌∷◌, ◌++◌, drop, length, length-append, arith, Option, Some, None}
use Rattle.std.specs.Prelude.{MatchOption, option_to_list, slice_get, slice_set}
use Rattle.std.specs.Option.{IsNone}
use Rattle.engine_fetches.specs.declared.fetches.Ask.{Ask}
use Rattle.engine_fetches.specs.declared.fetches.Fetch.{Fetch}
use Rattle.engine_fetches.specs.declared.fetches.Fetches.{Fetches}
use Rattle.engine_fetches.specs.Requests.{ask_of, IsAsking}
use Rattle.engine_fetches.specs.Fetches.{asked_again, due_at}
use Rattle.engine_planner.specs.declared.plan.Plan.{Plan}
use Rattle.engine_planner.specs.declared.plan.Step.{Step}
use Rattle.engine_planner.specs.StepSelection.{watching_where, fetching_one, IsFetchAsked, IsPruneAsked, IsTimeoutAsked, AreWatched, IsReady, HasTaken}
use Rattle.engine_planner.specs.PlanStates.{HasPlanned, IsIdle}
use Rattle.engine_planner.specs.PlannedWork.{beside_of, work_planned, IsPlanned, KeepsPlanned}
use Rattle.engine_planner.proofs.PlanStates.{some_planned}
use Rattle.engine_planner.proofs.PlannedWork.{keeps_as, keeps_further, plans_behind, plans_same, repaired_beside}

module _ {A : Type 0} where
  -- what is at the front of a queue is taken from it, and where nothing is taken it was empty
  nothing_left : (taken : Option A) (queued left : List A) → IsNone taken → queued ≡ option_to_list taken ++ left
      → left ≡ drop 1 queued → queued ≡ []
  nothing_left (Some x) queued left none is others = cc
  nothing_left None [] left none is others = refl
  nothing_left None (x ∷ xs) left none is others = absurd (omega (arith, ap length (is ∙ others)))

-- none is asked for where none is due
none_due : (now : ℕ) (old new : Fetches) (ask : Option Ask) → ask ≡ None → IsAsking now old ask new
    → due_at now new.wanted.items ≡ None
none_due now old new ask none asking = by_place (due_at now old.wanted.items) refl asking
  where
    by_place : (at : Option ℕ) → due_at now old.wanted.items ≡ at
        → MatchOption at ((ask ≡ None) × (new ≡ old))
        (λ place. (fetch : Fetch) × (slice_get old.wanted.items place ≡ Some fetch)
        × (ask ≡ Some (ask_of old fetch))
        × (new.wanted.items ≡ slice_set old.wanted.items place (asked_again now old.retry fetch))
        × (new.peers ≡ old.peers) × (new.retry ≡ old.retry))
        → due_at now new.wanted.items ≡ None
    by_place None is (_, same) = ap (λ (fetches : Fetches). due_at now fetches.wanted.items) same ∙ is
    by_place (Some place) is (fetch, _, some, _, _, _) = cc

-- the same peers are asked
asking_same : (now : ℕ) (old new : Fetches) (ask : Option Ask) → IsAsking now old ask new
    → (new.peers ≡ old.peers) × (new.retry ≡ old.retry)
asking_same now old new ask asking = by_place (due_at now old.wanted.items) asking
  where
    by_place : (at : Option ℕ)
        → MatchOption at ((ask ≡ None) × (new ≡ old))
        (λ place. (fetch : Fetch) × (slice_get old.wanted.items place ≡ Some fetch)
        × (ask ≡ Some (ask_of old fetch))
        × (new.wanted.items ≡ slice_set old.wanted.items place (asked_again now old.retry fetch))
        × (new.peers ≡ old.peers) × (new.retry ≡ old.retry))
        → (new.peers ≡ old.peers) × (new.retry ≡ old.retry)
    by_place None (_, same) =
        (ap (λ (fetches : Fetches). fetches.peers) same, ap (λ (fetches : Fetches). fetches.retry) same)
    by_place (Some place) (_, _, _, _, peers, retry) = (peers, retry)

module _ {S D K G C : Type 0} where
  -- what is due was planned: a plan from which a step is taken
  module _ (now : ℕ) where
    -- it preserved what was planned
    asked_keeps : (old new : Plan S D K G C) → IsFetchAsked now old new → KeepsPlanned old new
    asked_keeps old new is =
        let same = asking_same now old.repair.fetches new.repair.fetches is.ask is.asked in
        plans_behind old new (fetching_one is.ask) is.planned.steps
        (ap beside_of is.planned.same ∙ repaired_beside old new.repair same.0 same.1)

    prune_keeps : (b : Bool) (old new : Plan S D K G C) → IsPruneAsked b now old new → KeepsPlanned old new
    prune_keeps true old new is = plans_behind old new _ is.steps (ap beside_of is.same)
    prune_keeps false old new is = asked_keeps old new is

    timeout_keeps : (b : Bool) (old new : Plan S D K G C) → IsTimeoutAsked b now old new → KeepsPlanned old new
    timeout_keeps true old new is = plans_behind old new _ is.steps (ap beside_of is.same)
    timeout_keeps false old new is = prune_keeps old.is_prune_due old new is

    watched_keeps : (steps : List (Step S D K G C)) (old new : Plan S D K G C) → AreWatched steps now old new
        → KeepsPlanned old new
    watched_keeps [] old new is = timeout_keeps old.is_timeout_due old new is
    watched_keeps (step ∷ steps) old new is = plans_behind old new _ is.steps (ap beside_of is.same)

    ready_keeps : (steps : List (Step S D K G C)) (old ready : Plan S D K G C) → IsReady steps now old ready
        → KeepsPlanned old ready
    ready_keeps [] old ready is = watched_keeps
        (watching_where old.is_watch_due old.views.current old.builds.buildings.items)
        (record old { is_watch_due = false }) ready is
    ready_keeps (step ∷ steps) old ready is = plans_same old ready is

    -- where no step is queued then, nothing is to be done
    asked_idle : (old new : Plan S D K G C) → old.is_watch_due ≡ false → old.is_timeout_due ≡ false
        → old.is_prune_due ≡ false → IsFetchAsked now old new → new.steps.items ≡ [] → IsIdle now new
    asked_idle old new watch timeout prune is none = by_ask is.ask is.asked is.planned
      where
        by_ask : (ask : Option Ask) → IsAsking now old.repair.fetches ask new.repair.fetches
            → HasPlanned (fetching_one ask) (record old { repair = new.repair }) new → IsIdle now new
        by_ask (Some ask) asking planned = absurd (some_planned planned none)
        by_ask None asking planned = record {
          steps = none;
          watched = ap (λ (p : Plan S D K G C). p.is_watch_due) planned.same ∙ watch;
          timeout = ap (λ (p : Plan S D K G C). p.is_timeout_due) planned.same ∙ timeout;
          pruned = ap (λ (p : Plan S D K G C). p.is_prune_due) planned.same ∙ prune;
          fetched = none_due now old.repair.fetches new.repair.fetches None refl asking;
        }

    prune_idle : (b : Bool) (old new : Plan S D K G C) → old.is_watch_due ≡ false → old.is_timeout_due ≡ false
        → old.is_prune_due ≡ b → IsPruneAsked b now old new → new.steps.items ≡ [] → IsIdle now new
    prune_idle true old new watch timeout prune is none = absurd (some_planned is none)
    prune_idle false old new watch timeout prune is none = asked_idle old new watch timeout prune is none

    timeout_idle : (b : Bool) (old new : Plan S D K G C) → old.is_watch_due ≡ false → old.is_timeout_due ≡ b
        → IsTimeoutAsked b now old new → new.steps.items ≡ [] → IsIdle now new
    timeout_idle true old new watch timeout is none = absurd (some_planned is none)
    timeout_idle false old new watch timeout is none = prune_idle old.is_prune_due old new watch timeout refl is none

    ready_idle : (steps : List (Step S D K G C)) (old ready : Plan S D K G C) → old.steps.items ≡ steps
        → IsReady steps now old ready → ready.steps.items ≡ [] → IsIdle now ready
    ready_idle (step ∷ steps) old ready were is none =
        absurd (omega (arith, ap length (sym none ∙ ap (λ (p : Plan S D K G C). p.steps.items) is ∙ were)))
    ready_idle [] old ready were is none = by_steps
        (watching_where old.is_watch_due old.views.current old.builds.buildings.items) is
      where
        by_steps : (steps : List (Step S D K G C)) → AreWatched steps now (record old { is_watch_due = false }) ready
            → IsIdle now ready
        by_steps [] is = timeout_idle old.is_timeout_due (record old { is_watch_due = false }) ready refl refl is none
        by_steps (step ∷ steps) is =
            absurd (omega (arith, ap length (sym none ∙ is.steps), length-append old.steps.items (step ∷ steps)))

    module _ (step : Option (Step S D K G C)) (old new : Plan S D K G C) (taken : HasTaken now step old new) where
      -- work that was planned is this step, or is planned still
      pub taken_keeps : IsPlanned [] (λ view. false) (work_planned old.steps.items) (beside_of old)
          (work_planned (option_to_list step ++ new.steps.items)) (beside_of new)
      taken_keeps = keeps_further (ready_keeps old.steps.items old taken.ready taken.is_ready)
          (keeps_as (sym (ap work_planned taken.taken)) (ap beside_of taken.same))

      -- there is none only where nothing is to be done
      pub taken_none : IsNone step → IsIdle now new
      taken_none none =
          let empty = nothing_left step taken.ready.steps.items new.steps.items none taken.taken taken.others in
          let idle = ready_idle old.steps.items old taken.ready refl taken.is_ready empty in
          record {
            steps = taken.others ∙ ap (drop 1) empty;
            watched = ap (λ (p : Plan S D K G C). p.is_watch_due) taken.same ∙ idle.watched;
            timeout = ap (λ (p : Plan S D K G C). p.is_timeout_due) taken.same ∙ idle.timeout;
            pruned = ap (λ (p : Plan S D K G C). p.is_prune_due) taken.same ∙ idle.pruned;
            fetched = ap (λ (p : Plan S D K G C). due_at now p.repair.fetches.wanted.items) taken.same ∙ idle.fetched;
          }
