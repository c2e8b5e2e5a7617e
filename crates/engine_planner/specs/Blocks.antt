-- The blocks to build.
use Rattle.std.specs.Prelude.{ℕ, nat_le, nat_lt, Bool, true, not, ◌&&◌, ◌||◌, ◌==◌, List, [], ◌∷◌, ◌++◌, map, filter}
use Rattle.std.specs.List.{list_any, list_all}
use Rattle.simplex_types.specs.Proposal.{same_round}
use Rattle.simplex_types.specs.declared.types.messages.Context.{Context}
use Rattle.engine_planner.specs.declared.plan.builds.PendingBuild.{PendingBuild}

-- the same view and payload, by a test of payloads
abbrev pub same_parent : {D : Type 0} → (D → D → Bool) → ℕ × D → ℕ × D → Bool
same_parent same p q = p.0 == q.0 && same p.1 q.1

module _ {K D : Type 0} where
  -- the application was asked for the block, in this round and on this parent
  abbrev pub is_asked_in : (D → D → Bool) → Context D K → PendingBuild D K → Bool
  is_asked_in same context building =
      building.is_reported && same_round building.context.round context.round
      && same_parent same building.context.parent context.parent

  -- the application was asked for the block, in this view
  abbrev pub is_asked_at : ℕ → PendingBuild D K → Bool
  is_asked_at view building = building.is_reported && building.context.round.view == view

  -- it is of a view above this one, or of this one and was asked for
  abbrev pub is_ahead : ℕ → PendingBuild D K → Bool
  is_ahead view building = nat_lt view building.context.round.view || is_asked_at view building

  -- the same for each
  abbrev pub builds_from : ℕ → List (PendingBuild D K) → Bool
  builds_from view builds = list_all (is_ahead view) builds

  -- the views of blocks
  abbrev pub views_built : List (PendingBuild D K) → List ℕ
  views_built builds = map (λ (building : PendingBuild D K). building.context.round.view) builds

  -- one is of a view above this one
  abbrev pub builds_above : ℕ → List (PendingBuild D K) → Bool
  builds_above view builds = list_any (nat_lt view) (views_built builds)

  -- no two are of one view
  abbrev pub one_a_view : List (PendingBuild D K) → Bool
  one_a_view [] = true
  one_a_view (building ∷ rest) =
      not (list_any (λ view. view == building.context.round.view) (views_built rest)) && one_a_view rest

  -- the blocks of other views
  abbrev pub all_but_at : ℕ → List (PendingBuild D K) → List (PendingBuild D K)
  all_but_at view builds = filter (λ (building : PendingBuild D K). not (building.context.round.view == view)) builds

  -- a block replaces one of its view
  abbrev pub in_place : PendingBuild D K → List (PendingBuild D K) → List (PendingBuild D K)
  in_place building builds = all_but_at building.context.round.view builds ++ building ∷ []

  -- the application was not asked for this view's block yet
  abbrev pub waits_for : ℕ → PendingBuild D K → Bool
  waits_for view building = not building.is_reported && building.context.round.view == view

  -- the block was to be asked for in this view, or in one below it, and was not yet
  abbrev pub has_waited : ℕ → PendingBuild D K → Bool
  has_waited view building = not building.is_reported && nat_le building.context.round.view view

  -- it is marked as asked for by now
  abbrev pub reported_by : ℕ → PendingBuild D K → PendingBuild D K
  reported_by view building = record
      building { is_reported = building.is_reported || nat_le building.context.round.view view }
