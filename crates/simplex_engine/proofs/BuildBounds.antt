-- No block far ahead is ever to be built.
use Rattle.std.proofs.Common.{◌≡◌, ap, ◌∙◌, refl, sym, subst, ℕ, ◌≤◌, inl, inr, true, false, List, [], ◌∷◌, ◌++◌, Option, Some, None, arith}
use Rattle.std.specs.Prelude.{IfSome, filter, nat_lt}
use Rattle.std.specs.List.{list_any}
use Rattle.std.proofs.lemmas.Bool.{false≢true, false_from_ne_true, lt-ltb, ltb-true, or_cases, or_left, or_right}
use Rattle.simplex_types.specs.Terms.{next_term_start}
use Rattle.simplex_voter.specs.Facts.{StateFacts}
use Rattle.laws_safety.specs.LifetimeLaws.{WhileAlive}
use Rattle.simplex_member.specs.MemberFacts.{SignedMember}
use Rattle.engine_outbox.specs.Continuity.{HasRisen}
use Rattle.engine_outbox.proofs.Continuity.{risen_not}
use Rattle.engine_planner.specs.declared.plan.builds.PendingBuild.{PendingBuild}
use Rattle.engine_planner.specs.Blocks.{views_built, builds_above}
use Rattle.engine_planner.specs.declared.plan.Plan.{Plan}
use Rattle.engine_planner.specs.declared.plan.Views.{Views}
use Rattle.engine_planner.specs.declared.plan.early.Early.{Early}
use Rattle.laws_safety.proofs.lives.WithinLives.{alive_joined}
use Rattle.engine_planner.specs.PlannedWork.{AreAmong, is_early}
use Rattle.engine_planner.proofs.PlannedWork.{among_all, among_further, among_kept, any_either, kept_further}
use Rattle.simplex_engine.specs.declared.engine.Engine.{Engine}
use Rattle.simplex_engine.specs.BuildBounds.{BuildsNear}
use Rattle.simplex_engine.specs.MemberViews.{TracksViews, StaysStoredEarly}
use Rattle.simplex_engine.proofs.Bounds.{next_rises}

-- what is above a view is above each below it
above_lower : (low high : ℕ) → low ≤ high → (views : List ℕ) → list_any (nat_lt high) views ≡ true
    → list_any (nat_lt low) views ≡ true
above_lower low high up [] some = some
above_lower low high up (view ∷ views) some = elim (or_cases (nat_lt high view) (list_any (nat_lt high) views) some) [
  | inl this ↦ or_left (nat_lt low view) (list_any (nat_lt low) views)
      (lt-ltb low view (omega (arith, up, ltb-true high view this)))
  | inr that ↦ or_right (nat_lt low view) (list_any (nat_lt low) views) (above_lower low high up views that)
]

module _ {K L D : Type 0} (requested : List ℕ) (before after : List (PendingBuild D K)) where
  -- where the views do not fall, and no view is requested above the first of the next term
  pub near_by_views : (old new : Option (StateFacts K L D)) → WhileAlive HasRisen old new
      → AreAmong (views_built after) (requested ++ views_built before)
      → ((x : StateFacts K L D) → old ≡ Some x → (w : ℕ) → next_term_start x.terms.term_length x.current ≤ w
      → list_any (nat_lt w) requested ≡ false)
      → IfSome old (λ x. builds_above (next_term_start x.terms.term_length x.current) before ≡ false)
      → IfSome new (λ y. builds_above (next_term_start y.terms.term_length y.current) after ≡ false)
  near_by_views old None risen among near bounded = tt
  near_by_views None (Some y) risen among near bounded = absurd risen
  near_by_views (Some x) (Some y) risen among near bounded =
      let low = next_term_start x.terms.term_length x.current in
      let high = next_term_start y.terms.term_length y.current in
      false_from_ne_true _
      (λ some. elim (any_either (nat_lt high) requested (views_built before) (among.found (nat_lt high) some)) [
        | inl now ↦ absurd (false≢true (sym (near x refl high (next_rises x y risen)) ∙ now))
        | inr held ↦
            absurd (false≢true (sym bounded ∙ above_lower low high (next_rises x y risen) (views_built before) held))
      ])

module _ {S L D K G C : Type 0} (a b : Engine S L D K G C) where
  -- none is requested
  pub near_kept : WhileAlive HasRisen a.core.member.facts.life b.core.member.facts.life
      → AreAmong (views_built b.plan.builds.buildings.items) (views_built a.plan.builds.buildings.items)
      → BuildsNear a.core a.plan → BuildsNear b.core b.plan
  near_kept risen views =
      near_by_views [] a.plan.builds.buildings.items b.plan.builds.buildings.items a.core.member.facts.life
      b.core.member.facts.life risen views (λ x is w up. refl)

  -- of a member that is the same
  pub risen_same : b.core.member ≡ a.core.member → WhileAlive HasRisen a.core.member.facts.life b.core.member.facts.life
  risen_same is = subst (λ (m : SignedMember K L D G). WhileAlive HasRisen a.core.member.facts.life m.facts.life)
      (sym is) (risen_not a.core.member.facts)

  -- nor of one that is the same, beside the same plan
  pub near_same : b.core.member ≡ a.core.member → b.plan ≡ a.plan → BuildsNear a.core a.plan → BuildsNear b.core b.plan
  near_same member plan = near_kept (risen_same member)
      (among_all (ap (λ (p : Plan S D K G C). views_built p.builds.buildings.items) plan))

  -- an engine whose member and plan are of the same views has come to them as before
  pub come_same : b.core.member.facts.life ≡ a.core.member.facts.life → b.plan.views ≡ a.plan.views
      → TracksViews a.core.member.facts a.plan → TracksViews b.core.member.facts b.plan
  come_same life views come =
      subst (λ (it : Option (StateFacts K L D)).
      IfSome it (λ x. (b.plan.views.current ≡ x.current) × (b.plan.views.last_finalized ≡ x.finalized))) (sym life)
      (subst (λ (v : Views). IfSome a.core.member.facts.life
      (λ x. (v.current ≡ x.current) × (v.last_finalized ≡ x.finalized))) (sym views) come)

  pub come_beside : b.core.member ≡ a.core.member → b.plan ≡ a.plan → TracksViews a.core.member.facts a.plan
      → TracksViews b.core.member.facts b.plan
  come_beside member plan =
      come_same (ap (λ (m : SignedMember K L D G). m.facts.life) member) (ap (λ (p : Plan S D K G C). p.views) plan)

  -- the proposals that are early by the plan's views are by the member's
  pub early_planned : TracksViews b.core.member.facts b.plan
      → AreAmong (filter (is_early b.plan.views.current) a.plan.early.proposals.items) b.plan.early.proposals.items
      → StaysStoredEarly a.plan b.core.member.facts b.plan
  early_planned come among = by_life b.core.member.facts.life come
    where
      by_life : (life : Option (StateFacts K L D))
          → IfSome life (λ x. (b.plan.views.current ≡ x.current) × (b.plan.views.last_finalized ≡ x.finalized))
          → IfSome life
          (λ x. AreAmong (filter (is_early x.current) a.plan.early.proposals.items) b.plan.early.proposals.items)
      by_life None come = tt
      by_life (Some x) come = subst
          (λ v. AreAmong (filter (is_early v) a.plan.early.proposals.items) b.plan.early.proposals.items) come.0 among

  -- and where each is stored, whatever the view
  pub early_anyway : AreAmong a.plan.early.proposals.items b.plan.early.proposals.items
      → StaysStoredEarly a.plan b.core.member.facts b.plan
  early_anyway among = by_life b.core.member.facts.life
    where
      by_life : (life : Option (StateFacts K L D))
          → IfSome life
          (λ x. AreAmong (filter (is_early x.current) a.plan.early.proposals.items) b.plan.early.proposals.items)
      by_life None = tt
      by_life (Some x) = among_further (among_kept (is_early x.current) a.plan.early.proposals.items) among

module _ {K L D : Type 0} (was mid is : List (Early D)) where
  -- from one moment to a later one, and on to one later still
  pub early_further : (before after : Option (StateFacts K L D)) → WhileAlive HasRisen before after
      → IfSome before (λ x. AreAmong (filter (is_early x.current) was) mid)
      → IfSome after (λ x. AreAmong (filter (is_early x.current) mid) is)
      → IfSome after (λ x. AreAmong (filter (is_early x.current) was) is)
  early_further before None risen first second = tt
  early_further None (Some y) risen first second = absurd risen
  early_further (Some x) (Some y) risen first second =
      kept_further was (is_early x.current) (is_early y.current)
      (λ e above. lt-ltb x.current e.view (omega (arith, risen.views.current, ltb-true y.current e.view above)))
      first second

-- the views of a member do not fall, one step after the other
pub risen_on : {K L D : Type 0} (a b c : Option (StateFacts K L D)) → WhileAlive HasRisen a b → WhileAlive HasRisen b c
    → WhileAlive HasRisen a c
risen_on a b c =
    alive_joined HasRisen HasRisen HasRisen a b c
    (λ x y z p q. record {
      terms = q.terms ∙ p.terms;
      views = record {
        current = omega (arith, p.views.current, q.views.current);
        finalized = omega (arith, p.views.finalized, q.views.finalized);
      };
    })
