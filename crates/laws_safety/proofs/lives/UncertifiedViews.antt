-- Each view that waits for certification lies above the last finalized one and is notarized, in each state of a run.
use Rattle.std.proofs.Common.{◌≡◌, refl, ap, sym, ◌∙◌, subst, ℕ, ◌<◌, inl, inr, Bool, true, false, ◌||◌, cond, eqb, nat_lt, List, [], ◌∷◌, Option, is_some, arith}
use Rattle.std.specs.Prelude.{◌==◌, filter}
use Rattle.std.specs.List.{list_any}
use Rattle.std.proofs.lemmas.Bool.{false≢true, eqb-true}
use Rattle.std.proofs.lemmas.Bool.Decides.{nat_tests}
use Rattle.simplex_types.specs.Config.{FloorFacts}
use Rattle.simplex_types.specs.declared.types.window.Terms.{Terms}
use Rattle.simplex_round.specs.Round.{RoundFacts}
use Rattle.simplex_voter.specs.Facts.{Settings, StateFacts, Elect, new_facts, round_of}
use Rattle.simplex_voter.specs.Acceptance.{after_set_floor}
use Rattle.simplex_member.specs.OutstandingWork.{is_among}
use Rattle.simplex_record.specs.Events as event
use Rattle.simplex_record.specs.Events.{Event, after_event}
use Rattle.simplex_record.proofs.Paths.{event_path, asked_of_all}
use Rattle.simplex_record.proofs.Steps as step
use Rattle.simplex_record.proofs.Steps.{RoundStep, Step, Names, Unnames, Raises, along}
use Rattle.laws_safety.proofs.frames.Fresh.{IsNewState}
use Rattle.laws_safety.proofs.frames.EachRound.{step_round, pruned_round}
use Rattle.laws_safety.proofs.votes.OutstandingWork.{now_among}

-- each view that waits for certification lies above the last finalized one, and is notarized
pub record IsWaiting {K L D : Type 0} (x : StateFacts K L D) : Type 0 where
  pub views : (v : ℕ) → list_any (λ w. v == w) x.named ≡ true
      → (x.finalized < v) × (is_some (round_of x v).notarization ≡ true)

-- a view among those above another lies above it, and is among all of them
among_above : (v w : ℕ) (views : List ℕ) → is_among w (filter (λ u. nat_lt v u) views) ≡ true
    → (v < w) × (is_among w views ≡ true)
among_above v w [] is = absurd (false≢true is)
among_above v w (u ∷ views) is = by_test (nat_lt v u) refl (among_above v w views) is
  where
    above : List ℕ
    above = filter (λ u. nat_lt v u) views

    by_test : (b : Bool) → nat_lt v u ≡ b → (is_among w above ≡ true → (v < w) × (is_among w views ≡ true))
        → is_among w (cond b (u ∷ above) above) ≡ true → (v < w) × ((eqb w u || is_among w views) ≡ true)
    by_test true over behind is = by_here (eqb w u) refl is
      where
        by_here : (b : Bool) → eqb w u ≡ b → (b || is_among w above) ≡ true → (v < w) × ((b || is_among w views) ≡ true)
        by_here true here is = (subst (λ z. v < z) (sym (eqb-true w u here)) (grind (arith, nat_tests)), refl)
        by_here false other is = behind is
    by_test false under behind is = (let there = behind is in (there.0, later (eqb w u) there.1))
      where
        later : (b : Bool) → is_among w views ≡ true → (b || is_among w views) ≡ true
        later true is = refl
        later false is = is

module _ {K L D : Type 0} (same : D → D → Bool) (elect : Elect L) (begun : StateFacts K L D) (e : Event K D) where
  -- no change of a round takes its notarization away
  change_notarized : (x : StateFacts K L D) (v : ℕ) (r s : RoundFacts K D) → RoundStep same elect begun e x v r s
      → is_some r.notarization ≡ true → is_some s.notarization ≡ true
  change_notarized x v r s (step.Notarized c says at none) is = refl
  change_notarized x v r s _ is = is

  -- and a prune takes none above the last finalized view
  step_notarized : (x y : StateFacts K L D) → Step same elect begun e 0 x y → (v : ℕ) → x.finalized < v
      → is_some (round_of x v).notarization ≡ true → is_some (round_of y v).notarization ≡ true
  step_notarized x y s v above is = elim (step_round same elect begun e 0 x y s v) [
    | inl change ↦ change_notarized x v (round_of x v) (round_of y v) change is
    | inr prunes ↦ subst (λ (z : StateFacts K L D). is_some (round_of z v).notarization ≡ true) (sym prunes.1)
        (elim (pruned_round x v) [
          | inl kept ↦ ap (λ (r : RoundFacts K D). is_some r.notarization) kept ∙ is
          | inr gone ↦ absurd (let below = gone.below in omega (arith, below, above))
        ])
  ]

  step_waits : (x y : StateFacts K L D) → Step same elect begun e 0 x y → IsWaiting x → IsWaiting y
  step_waits x y (Names v above notarized) waits = record {
    views = λ w named. elim (now_among v w x.named named) [
      | inl at ↦ (
        subst (λ u. x.finalized < u) (sym at) above,
        subst (λ u. is_some (round_of x u).notarization ≡ true) (sym at) notarized,
      )
      | inr before ↦ waits.views w before
    ];
  }
  step_waits x y Unnames waits = record { views = λ w named. absurd (false≢true named) }
  step_waits x y (Raises v says above) waits = record {
    views = λ w named. (
        let kept = among_above v w x.named named in
        let before = waits.views w kept.1 in
        (kept.0, step_notarized x y (Raises v says above) w before.0 before.1)
        );
  }
  step_waits x y s waits = record {
    views =
        λ w named. (let before = waits.views w named in (before.0, step_notarized x y s w before.0 before.1));
  }

module _ {K L D : Type 0} (same : D → D → Bool) (elect : Elect L) where
  pub event_waits : (x : StateFacts K L D) (e : Event K D) → IsWaiting x → IsWaiting (after_event same elect x e)
  event_waits x e waits = along same elect x e 0 IsWaiting (step_waits same elect x e) x (after_event same elect x e)
      (event_path same elect 0 x e (omega arith) (asked_of_all x e)) waits

  -- nothing waits in a new state, which sets a floor
  new_waits : (settings : Settings) (me : Option ℕ) (members : List K) (elector : L) (terms : Terms) (early : Bool)
      (floor : FloorFacts D) (now : ℕ) → IsWaiting
      (after_set_floor same elect (new_facts settings me members elector terms early) floor now)
  new_waits settings me members elector terms early floor now =
      event_waits (new_facts settings me members elector terms early) (event.SetFloor floor now)
      (record { views = λ v named. absurd (false≢true named) })

  pub floor_waits : (term_length : ℕ) (x : StateFacts K L D) (floor : FloorFacts D) (now : ℕ) → IsNewState term_length x
      → IsWaiting (after_set_floor same elect x floor now)
  floor_waits term_length x floor now fresh =
      subst (λ y. IsWaiting (after_set_floor same elect y floor now)) (sym fresh.fresh)
      (new_waits x.settings x.me x.members x.elector x.terms x.elects_early floor now)
