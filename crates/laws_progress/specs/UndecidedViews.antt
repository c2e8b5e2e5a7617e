-- What a member has not decided yet, and may abandon.
use Rattle.std.specs.Prelude.{◌≡◌, ℕ, ◌≤◌, Bool, true, false}
use Rattle.simplex_round.specs.Round.{is_finalize}
use Rattle.simplex_voter.specs.Facts.{StateFacts, Elect, round_of}
use Rattle.simplex_voter.specs.Rules.{may_nullify}
use Rattle.laws_safety.specs.Executions.{OfEachMember}
use Rattle.laws_progress.specs.NetworkStates.{RunsWith}

module _ (K : Type 0) {L D : Type 0} (same : D → D → Bool) (elect : Elect L) where
  -- while a member of a network has not failed, it decided to finalize no view from its current one on
  abbrev pub NoneIsDecidedAhead : Type 0
  NoneIsDecidedAhead =
      OfEachMember K same elect (λ term_length s. (x : StateFacts K L D) → RunsWith same elect s x
      → (v : ℕ) → x.current ≤ v → is_finalize (round_of x v).decision ≡ false)

  -- so the rule of votes to nullify is true of its current view
  abbrev pub CurrentViewsMayBeAbandoned : Type 0
  CurrentViewsMayBeAbandoned =
      OfEachMember K same elect
      (λ term_length s. (x : StateFacts K L D) → RunsWith same elect s x → may_nullify x x.current ≡ true)
