-- A record is refused for the first of its rules that is broken.
use Rattle.std.proofs.Common.{◌≡◌, refl, subst, ◌⊎◌, inl, inr, Bool, true, false, List, [], ◌∷◌, ◌++◌, Option, Some, None}
use Rattle.std.specs.Option.{option_or}
use Rattle.simplex_record.specs.declared.record.error.RecoverError.{RecoverError}
use Rattle.simplex_record.specs.Check.{first_error}

-- one of two errors
pub from_either : (o p : Option RecoverError) (found : RecoverError) → option_or o p ≡ Some found
    → (o ≡ Some found) ⊎ (p ≡ Some found)
from_either None p found is = inr is
from_either (Some e) p found is = inl is

module _ (P : RecoverError → Type 0) where
  -- this holds of the error of each of the rules that is broken
  abbrev pub OfBroken : List (Bool × RecoverError) → Type 0
  OfBroken [] = Unit {0}
  OfBroken (rule ∷ rules) = (rule.0 ≡ true → P rule.1) × OfBroken rules

  pub first_broken : (rules : List (Bool × RecoverError)) (found : RecoverError) → OfBroken rules
      → first_error rules ≡ Some found → P found
  first_broken [] found broken is = absurd (cc)
  first_broken ((true, e) ∷ rules) found broken is =
      let same : e ≡ found = cc in
      subst P same (broken.0 refl)
  first_broken ((false, e) ∷ rules) found broken is = first_broken rules found broken.1 is

  pub broken_joined : (xs ys : List (Bool × RecoverError)) → OfBroken xs → OfBroken ys → OfBroken (xs ++ ys)
  broken_joined [] ys p q = q
  broken_joined (x ∷ xs) ys p q = (p.0, broken_joined xs ys p.1 q)
