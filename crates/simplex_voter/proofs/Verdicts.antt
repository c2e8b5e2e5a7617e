-- What is known of a view whose verdict may be accepted.
use Rattle.std.proofs.Common.{◌≡◌, ℕ, Bool, true, false, ◌&&◌, not, Option, Some, None, is_some, refl}
use Rattle.std.specs.Prelude.{option_and_then}
use Rattle.std.specs.Option.{option_map_or}
use Rattle.std.proofs.lemmas.Bool.{false≢true}
use Rattle.simplex_round.specs.Round.{RoundFacts, is_judged}
use Rattle.simplex_voter.specs.Facts.{StateFacts, round_at, is_tracked}
use Rattle.simplex_voter.specs.Certification.{takes_verdict, certified_answer}
use Rattle.simplex_voter.proofs.Gaps.{and_parts, not_true}

module _ {K D : Type 0} where
  judgeable : (success : Bool) (found : Option (RoundFacts K D))
      → option_map_or (λ (r : RoundFacts K D). is_some r.notarization && not (is_judged (not success) r.certification))
      found true ≡ true → option_map_or (λ (r : RoundFacts K D). is_judged (not success) r.certification) found
      false ≡ false
  judgeable success None h = refl
  judgeable success (Some r) h = not_true _ (and_parts (is_some r.notarization) _ h).1

  notarized_there : (success : Bool) (found : Option (RoundFacts K D)) → is_some found ≡ true
      → option_map_or (λ (r : RoundFacts K D). is_some r.notarization && not (is_judged (not success) r.certification))
      found true ≡ true → is_some (option_and_then (λ (r : RoundFacts K D). r.notarization) found) ≡ true
  notarized_there success None tracked h = absurd (false≢true tracked)
  notarized_there success (Some r) tracked h = (and_parts (is_some r.notarization) _ h).0

module _ {K L D : Type 0} (x : StateFacts K L D) (v : ℕ) (success : Bool)
    (taken : takes_verdict x v success ≡ true) where
  -- there is no contradicting verdict
  pub not_contradicted : option_map_or (λ (r : RoundFacts K D). is_judged (not success) r.certification) (round_at x v)
      false ≡ false
  not_contradicted = judgeable success (round_at x v) (and_parts _ _ taken).1

  -- a tracked view is notarized
  pub notarized : is_tracked x v ≡ true → is_some (certified_answer x v) ≡ true
  notarized tracked = notarized_there success (round_at x v) tracked (and_parts _ _ taken).1
