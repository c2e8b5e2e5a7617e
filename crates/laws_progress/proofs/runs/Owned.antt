-- Each state of a run continues, and each of its rounds is its member's.
use Rattle.std.proofs.Common.{◌≡◌, refl, ap, sym, ◌∙◌, subst, ℕ, Bool, false, inl, inr, Option, unwrap_or, arith}
use Rattle.simplex_types.specs.Config.{FloorFacts}
use Rattle.simplex_round.specs.Round.{RoundFacts, new_round}
use Rattle.simplex_voter.specs.Facts.{StateFacts, Elect, new_facts, round_of, round_number}
use Rattle.simplex_voter.specs.Acceptance.{after_set_floor}
use Rattle.simplex_record.specs.Events as event
use Rattle.simplex_record.specs.Events.{Event, after_event}
use Rattle.laws_safety.proofs.frames.EachRound.{rounds_or_gone}
use Rattle.laws_safety.proofs.frames.Fresh.{IsNewState}
use Rattle.simplex_record.proofs.Paths.{event_path, asked_of_all}
use Rattle.laws_safety.proofs.frames.NoLowerViews.{UnchangedOrHigher, event_goes}
use Rattle.simplex_record.proofs.Steps.{RoundStep, Kept}

pub record Owns {K L D : Type 0} (x : StateFacts K L D) : Type 0 where
  pub alive : x.failed ≡ false
  pub mine : (v : ℕ) → (round_of x v).me ≡ x.me

module _ {K L D : Type 0} (same : D → D → Bool) (elect : Elect L) (x : StateFacts K L D) (e : Event K D) where
  of_same : (y : StateFacts K L D) (v : ℕ) (r s : RoundFacts K D) → RoundStep same elect x e y v r s → s.me ≡ r.me
  of_same y v r s Kept = refl
  of_same y v r s _ = refl

  pub event_owns : Owns x → Owns (after_event same elect x e)
  event_owns owns = record { alive = goes.failed ∙ owns.alive; mine = mine }
    where
      y : StateFacts K L D
      y = after_event same elect x e

      goes : UnchangedOrHigher x y
      goes = event_goes same elect x e

      mine : (v : ℕ) → (round_of y v).me ≡ y.me
      mine v = elim (rounds_or_gone same elect x e 0 (λ v r s. s.me ≡ r.me) (λ v r s t p q. q ∙ p) of_same
          (event_path same elect 0 x e (omega arith) (asked_of_all x e)) v) [
            | inl stays ↦ stays ∙ owns.mine v ∙ sym goes.me
            | inr gone ↦ ap (λ (o : Option (RoundFacts K D)).
                (unwrap_or o (new_round y.me y.members (round_number y v))).me) gone.1.untracked
          ]

module _ {K L D : Type 0} (same : D → D → Bool) (elect : Elect L) where
  pub floor_owns : (term_length : ℕ) (x : StateFacts K L D) (floor : FloorFacts D) (now : ℕ) → IsNewState term_length x
      → Owns (after_set_floor same elect x floor now)
  floor_owns term_length x floor now fresh =
      let begun : StateFacts K L D = new_facts x.settings x.me x.members x.elector x.terms x.elects_early in
      event_owns same elect x (event.SetFloor floor now)
      (subst (λ y. Owns y) (sym fresh.fresh) (record { alive = refl; mine = λ v. refl }))
