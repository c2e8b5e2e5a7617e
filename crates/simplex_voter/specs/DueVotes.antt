-- What a state has due by itself.
use Rattle.std.specs.Prelude.{◌≡◌, ℕ, Bool, ◌||◌, nat_le, List, [], ◌∷◌, Option, option_map, filter}
use Rattle.std.specs.List.{find}
use Rattle.simplex_round.specs.Round.{RoundFacts, has_unsent_certificate}
use Rattle.simplex_voter.specs.Facts.{StateFacts, Elect, round_of}
use Rattle.simplex_voter.specs.Rules.{may_notarize, may_finalize}

module _ {K L D : Type 0} (same : D → D → Bool) (elect : Elect L) where
  -- a vote of this member on the view is allowed, or a certificate of the view was not returned for broadcast
  abbrev pub is_due : StateFacts K L D → ℕ → Bool
  is_due x v = may_notarize same elect x v || may_finalize elect x v || has_unsent_certificate (round_of x v)

  -- the lowest tracked view, from one on, where something is due
  abbrev pub first_due : StateFacts K L D → ℕ → Option ℕ
  first_due x from = option_map (λ e. e.0) (find (λ e. is_due x e.0) (filter (λ e. nat_le from e.0) x.rounds))

module _ {K L D : Type 0} where
  -- they are rounds of the state, each with its view
  abbrev pub AreRoundsOf : StateFacts K L D → List (ℕ × RoundFacts K D) → Type 0
  AreRoundsOf x [] = Unit {0}
  AreRoundsOf x (e ∷ es) = (round_of x e.0 ≡ e.1) × AreRoundsOf x es
