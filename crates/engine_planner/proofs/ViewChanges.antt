-- A view that is entered, and what is planned for it.
use Rattle.std.proofs.Common.{◌≡◌, ◌∙◌, refl, ap, sym, subst, inl, inr, ℕ, ◌+◌, ◌<◌, Bool, true, false, not, ◌==◌, List, [], ◌∷◌, ◌++◌, append_assoc, length, get_or, drop, map, filter}
use Rattle.std.specs.Prelude.{nat_le, nat_lt, ◌||◌}
use Rattle.std.specs.List.{list_any}
use Rattle.std.proofs.lemmas.Bool.{and_from, and_parts, not-true, or_cases, or_from, or_left, or_right}
use Rattle.std.proofs.lemmas.List.{at_drop_more}
use Rattle.engine_fetches.specs.declared.repair.Repair.{Repair}
use Rattle.engine_planner.specs.declared.plan.Plan.{Plan}
use Rattle.engine_planner.specs.declared.plan.Step.{Step}
use Rattle.engine_planner.specs.declared.plan.Views.{Views}
use Rattle.engine_planner.specs.declared.plan.early.Early.{Early}
use Rattle.engine_planner.specs.BuildPlans.{asking_for, HasBuilds}
use Rattle.engine_planner.specs.declared.plan.builds.PendingBuild.{PendingBuild}
use Rattle.engine_planner.specs.Blocks.{has_waited, reported_by, views_built, waits_for}
use Rattle.engine_planner.specs.ViewChanges.{asking_by, offering, HasEntered, HasEnteredWhere, IsPassedWhere, HasSeen}
use Rattle.engine_planner.specs.PlanStates.{HasPlanned, touching, watching}
use Rattle.engine_planner.specs.PlannedWork.{awaits, beside_of, is_early, constants_of, is_build_of, work_planned, KeepsPlanned, KeepsPlannedThen}
use Rattle.engine_planner.proofs.Blocks.{views_replied}
use Rattle.engine_planner.proofs.PlannedWork.{among_all, any_left, any_right, keeps_further, planned-append, planned_behind, plans_beside, plans_same, repaired_beside}

-- what some result in, one after the other, is queued up to one more of them
pub more_queued : {A B : Type 0} (all : List A → List B) (one : A → List B) (xs : List A) (i : ℕ) (x : A)
    (queued left whole : List B)
    → i < length xs → x ≡ get_or xs i x → all (x ∷ drop (i + 1) xs) ≡ one x ++ all (drop (i + 1) xs)
    → queued ++ all (drop i xs) ≡ whole → left ≡ queued ++ one x
    → left ++ all (drop (i + 1) xs) ≡ whole
more_queued all one xs i x queued left whole within is split before more =
    ap (λ l. l ++ all (drop (i + 1) xs)) more
    ∙ append_assoc queued (one x) (all (drop (i + 1) xs))
    ∙ ap (λ l. queued ++ l) (sym split)
    ∙ ap (λ l. queued ++ l) (sym (at_drop_more all xs i x within ∙ ap (λ y. all (y ∷ drop (i + 1) xs)) (sym is)))
    ∙ before

-- the same peers are asked, wherever fetches are closed
passed_same : (b : Bool) (finalized : ℕ) (old new : Repair) → IsPassedWhere b finalized old new
    → (new.fetches.peers ≡ old.fetches.peers) × (new.fetches.retry ≡ old.fetches.retry)
passed_same true finalized old new is = (is.peers, is.retry)
passed_same false finalized old new is =
    (ap (λ (repair : Repair). repair.fetches.peers) is, ap (λ (repair : Repair). repair.fetches.retry) is)

module _ (S G C : Type 0) {K D : Type 0} where
  -- the application is asked for a block of the view
  abbrev is_asked : ℕ → List (Step S D K G C) → Bool
  is_asked other steps = list_any (is_build_of {S = S} {D = D} {K = K} {G = G} {C = C} other) (work_planned steps)

  -- a block that waits is asked for, or waits still
  abbrev AsksOrWaits : ℕ → ℕ → List (PendingBuild D K) → Type 0
  AsksOrWaits view other builds =
      (is_asked other (asking_by view builds) || list_any (waits_for other) (map (reported_by view) builds)) ≡ true

  asked_or_waits : (view other : ℕ) (builds : List (PendingBuild D K)) → list_any (waits_for other) builds ≡ true
      → AsksOrWaits view other builds
  asked_or_waits view other [] waits = waits
  asked_or_waits view other (b ∷ rest) waits =
      elim (or_cases (waits_for other b) (list_any (waits_for other) rest) waits) [
        | inl this ↦ (let parts = and_parts (not b.is_reported) (b.context.round.view == other) this in
            by_time (nat_le b.context.round.view view) refl (not-true b.is_reported parts.0) parts.1)
        | inr that ↦ elim (or_cases (is_asked other (asking_by view rest))
            (list_any (waits_for other) (map (reported_by view) rest)) (asked_or_waits view other rest that)) [
              | inl is ↦ or_left (is_asked other (asking_by view (b ∷ rest)))
                  (list_any (waits_for other) (map (reported_by view) (b ∷ rest)))
                  (ap (list_any (is_build_of {S = S} {D = D} {K = K} {G = G} {C = C} other))
                  (planned-append (asking_for b.context (has_waited view b)) (asking_by view rest))
                  ∙ any_right (is_build_of {S = S} {D = D} {K = K} {G = G} {C = C} other)
                  (work_planned (asking_for b.context (has_waited view b))) (work_planned (asking_by view rest)) is)
              | inr is ↦ or_right (is_asked other (asking_by view (b ∷ rest)))
                  (list_any (waits_for other) (map (reported_by view) (b ∷ rest)))
                  (or_right (waits_for other (reported_by view b))
                  (list_any (waits_for other) (map (reported_by view) rest))
                  is)
            ]
      ]
    where
      by_time : (in_time : Bool) → nat_le b.context.round.view view ≡ in_time → b.is_reported ≡ false
          → (b.context.round.view == other) ≡ true → AsksOrWaits view other (b ∷ rest)
      by_time true is unreplied at =
          let waited : has_waited view b ≡ true =
          and_from (not b.is_reported) (nat_le b.context.round.view view) (ap not unreplied) is in
          or_left (is_asked other (asking_by view (b ∷ rest)))
          (list_any (waits_for other) (map (reported_by view) (b ∷ rest)))
          (ap (λ w. is_asked other (asking_for b.context w ++ asking_by view rest)) waited
          ∙ or_left (b.context.round.view == other) (is_asked other (asking_by view rest)) at)
      by_time false is unreplied at =
          or_right (is_asked other (asking_by view (b ∷ rest)))
          (list_any (waits_for other) (map (reported_by view) (b ∷ rest)))
          (or_left (waits_for other (reported_by view b)) (list_any (waits_for other) (map (reported_by view) rest))
          (and_from (not (b.is_reported || nat_le b.context.round.view view)) (b.context.round.view == other)
          (ap not (or_from b.is_reported (nat_le b.context.round.view view) unreplied is)) at))

module _ {S D K G C : Type 0} where
  -- the view is touched, and then comes what waited for it
  pub entered : (view : ℕ) (old mid then new : Plan S D K G C) → HasPlanned (touching view) (watching old) mid
      → HasBuilds (asking_by view mid.builds.buildings.items)
      (map (reported_by view) mid.builds.buildings.items) mid then
      → new.steps.items ≡ then.steps.items ++ offering view then.early.proposals.items
      → new.early.proposals.items ≡ filter (λ (early : Early D). nat_lt view early.view) then.early.proposals.items
      → new ≡ record then { steps = new.steps; early = new.early } → HasEntered view old new
  entered view old mid then new touched built steps early same = record {
    steps = steps
        ∙ ap (λ offers. then.steps.items ++ offers) (ap (offering view) was_early)
        ∙ ap (λ s. s ++ offers) (built.steps ∙ ap (λ s. s ++ asking_by view mid.builds.buildings.items) touched.steps
        ∙ ap (λ b. (old.steps.items ++ touching view) ++ asking_by view b) were_built);
    blocks = ap (λ (p : Plan S D K G C). p.builds.buildings.items) same ∙ built.blocks
        ∙ ap (map (reported_by view)) were_built;
    early = early ∙ ap (filter (λ (e : Early D). nat_lt view e.view)) was_early;
    same = same
        ∙ ap (λ (p : Plan S D K G C). record p { steps = new.steps; early = new.early }) built.same
        ∙ ap (λ (p : Plan S D K G C). record p { steps = new.steps; builds = then.builds; early = new.early })
        touched.same
        ∙ ap (λ b. record (watching old) { steps = new.steps; builds = b; early = new.early })
        (sym (ap (λ (p : Plan S D K G C). p.builds) same));
  }
    where
      offers : List (Step S D K G C)
      offers = offering {S = S} {D = D} {K = K} {G = G} {C = C} view old.early.proposals.items

      were_built : mid.builds.buildings.items ≡ old.builds.buildings.items
      were_built = ap (λ (p : Plan S D K G C). p.builds.buildings.items) touched.same

      was_early : then.early.proposals.items ≡ old.early.proposals.items
      was_early = ap (λ (p : Plan S D K G C). p.early.proposals.items) built.same
          ∙ ap (λ (p : Plan S D K G C). p.early.proposals.items) touched.same

  -- which it has come to
  pub seen_views : (views : Views) (old new : Plan S D K G C) → HasSeen views old new → new.views ≡ views
  seen_views views old new seen = by_view (not (old.views.current == views.current)) seen.entered
    where
      by_view : (b : Bool) → HasEnteredWhere b views.current (record old { views = views; repair = new.repair }) new
          → new.views ≡ views
      by_view true is = ap (λ (plan : Plan S D K G C). plan.views) is.same
      by_view false is = ap (λ (plan : Plan S D K G C). plan.views) is

  entered_keeps : (old new : Plan S D K G C) → HasEntered old.views.current old new → KeepsPlanned old new
  entered_keeps old new is = record {
    early = among_all (ap (λ (plan : Plan S D K G C). filter (is_early plan.views.current) old.early.proposals.items)
        is.same ∙ sym is.early);
    found = planned_behind old.steps.items new.steps.items more steps;
    building = λ other waits un.
        let parts = and_parts old.is_alone (list_any (waits_for other) old.builds.buildings.items) waits in
        elim (or_cases (list_any (is_build_of other) (work_planned asks))
        (list_any (waits_for other) (map (reported_by old.views.current) old.builds.buildings.items))
        (asked_or_waits S G C old.views.current other old.builds.buildings.items parts.1)) [
          | inl asked ↦ or_left (list_any (is_build_of other) (work_planned new.steps.items))
              (awaits (beside_of new) other) (all_planned other asked)
          | inr left ↦ or_right (list_any (is_build_of other) (work_planned new.steps.items))
              (awaits (beside_of new) other)
              (and_from new.is_alone _ (ap (λ (plan : Plan S D K G C). plan.is_alone) is.same ∙ parts.0)
              (ap (list_any (waits_for other)) is.blocks ∙ left))
        ];
    views = among_all (ap views_built is.blocks ∙ views_replied old.views.current old.builds.buildings.items);
    reached = ap (λ (plan : Plan S D K G C). plan.views) is.same;
    constants = ap constants_of is.same;
    ignored = ap (λ (plan : Plan S D K G C). plan.ignored) is.same;
  }
    where
      view : ℕ
      view = old.views.current

      asks : List (Step S D K G C)
      asks = asking_by view old.builds.buildings.items

      offers : List (Step S D K G C)
      offers = offering view old.early.proposals.items

      more : List (Step S D K G C)
      more = touching view ++ (asks ++ offers)

      steps : new.steps.items ≡ old.steps.items ++ more
      steps = is.steps ∙ append_assoc (old.steps.items ++ touching view) asks offers
          ∙ append_assoc old.steps.items (touching view) (asks ++ offers)

      all_planned : (other : ℕ) → list_any (is_build_of other) (work_planned asks) ≡ true
          → list_any (is_build_of other) (work_planned new.steps.items) ≡ true
      all_planned other asked =
          ap (λ items. list_any (is_build_of {S = S} {D = D} {K = K} {G = G} {C = C} other) (work_planned items)) steps
          ∙ ap (list_any (is_build_of other)) (planned-append old.steps.items more)
          ∙ any_right (is_build_of other) (work_planned old.steps.items) (work_planned more)
          (ap (list_any (is_build_of other)) (planned-append asks offers)
          ∙ any_left (is_build_of other) (work_planned asks) (work_planned offers) asked)

  -- what was planned stays planned, once the plan has come to other views
  pub seen_keeps : (views : Views) (old new : Plan S D K G C) → HasSeen views old new → KeepsPlannedThen old new
  seen_keeps views old new seen = subst (λ reached. KeepsPlanned (record old { views = reached }) new)
      (sym (seen_views views old new seen))
      (keeps_further passed_keeps (by_view (not (old.views.current == views.current)) seen.entered))
    where
      passed : Plan S D K G C
      passed = record old { views = views; repair = new.repair }

      passed_keeps : KeepsPlanned (record old { views = views }) passed
      passed_keeps =
          let same = passed_same (nat_lt old.views.last_finalized views.last_finalized) views.last_finalized old.repair
          new.repair seen.passed in
          plans_beside (record old { views = views }) passed passed refl refl
          (repaired_beside (record old { views = views }) new.repair same.0 same.1)

      by_view : (b : Bool) → HasEnteredWhere b views.current passed new → KeepsPlanned passed new
      by_view true is = entered_keeps passed new is
      by_view false is = plans_same passed new is
