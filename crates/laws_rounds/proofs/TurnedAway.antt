-- A round of this epoch that a state does not take lies below its retained views, or is genesis.
use Rattle.std.proofs.Common.{◌≡◌, refl, sym, ◌∙◌, ◌<◌, ◌⊎◌, inl, inr, Bool, true, false, ◌&&◌, nat_le, arith}
use Rattle.std.specs.Prelude.{◌==◌}
use Rattle.std.proofs.lemmas.Bool.{true≢false, eq-eqb, ltb-false, leb-false}
use Rattle.simplex_types.specs.declared.types.numbers.Round.{Round}
use Rattle.simplex_voter.specs.Facts.{StateFacts}
use Rattle.simplex_voter.specs.Refusals.{is_started, takes_round}
use Rattle.simplex_voter.specs.Windows.{min_active, admits_certificate}

pub and_false : (a b : Bool) → (a && b) ≡ false → (a ≡ false) ⊎ (b ≡ false)
and_false true b is = inr is
and_false false b is = inl refl

module _ {K L D : Type 0} (x : StateFacts K L D) (round : Round) (started : 0 < x.current)
    (of_epoch : round.epoch ≡ x.settings.epoch) where
  -- it is genesis, or below the retained views
  abbrev IsLow : Type 0
  IsLow = (round.view ≡ 0) ⊎ (round.view < min_active x)

  unretained : admits_certificate x round.view ≡ false → IsLow
  unretained away = elim (and_false (nat_le 1 round.view) (nat_le (min_active x) round.view) away) [
    | inl none ↦ inl (let zero_view = leb-false 1 round.view none in omega (arith, zero_view))
    | inr below ↦ inr (let low = leb-false (min_active x) round.view below in omega (arith, low))
  ]

  pub untaken : takes_round x round ≡ false → IsLow
  untaken away =
      elim (and_false (is_started x && (round.epoch == x.settings.epoch)) (admits_certificate x round.view) away) [
        | inl first ↦ elim (and_false (is_started x) (round.epoch == x.settings.epoch) first) [
          | inl unstarted ↦ let none = ltb-false 0 x.current unstarted in absurd (omega (arith, started, none))
          | inr other ↦ absurd (true≢false (sym (eq-eqb round.epoch x.settings.epoch of_epoch) ∙ other))
        ]
        | inr low ↦ unretained low
      ]
