-- The earliest moment, one fetch after another.
use Rattle.std.proofs.Common.{◌≡◌, ℕ, zero, suc, ◌≤◌, Bool, true, false, leb, min, List, [], ◌∷◌, ◌++◌, Option, Some, None, length, refl, ◌∙◌, length-append, arith}
use Rattle.std.specs.Prelude.{All, Any}
use Rattle.std.proofs.lemmas.Bool.{leb-true, leb-false}
use Rattle.std.proofs.lemmas.List.{get_or_append_left, get_or_push}
use Rattle.std.proofs.lemmas.List.Elements.{All-append}
use Rattle.engine_fetches.specs.declared.fetches.Fetch.{Fetch}
use Rattle.engine_fetches.specs.Fetches.{first_of, IsEarliest}

module _ {X : Type 0} (P : X → Type 0) where
  any_front : (xs ys : List X) → Any P xs → Any P (xs ++ ys)
  any_front xs ys any = (
    any.0,
    any.1,
    omega (arith, any.2, length-append xs ys),
    get_or_append_left xs ys any.1 any.0 any.2 ∙ any.3,
    any.4,
  )

  any_last : (xs : List X) (y : X) → P y → Any P (xs ++ y ∷ [])
  any_last xs y holds =
      (length xs, y, omega (arith, length-append xs (y ∷ [])), get_or_push xs y y (length xs) refl, holds)

  all_one : (y : X) → P y → All P (y ∷ [])
  all_one y holds zero d within = holds
  all_one y holds (suc k) d within = absurd (omega arith)

  all_more : (xs : List X) (y : X) → All P xs → P y → All P (xs ++ y ∷ [])
  all_more xs y all holds = All-append P xs (y ∷ []) all (all_one y holds)

-- one more moment
pub earlier : (fetches : List Fetch) (fetch : Fetch) (earliest : Option ℕ) → IsEarliest fetches earliest
    → IsEarliest (fetches ++ fetch ∷ []) (Some (first_of earliest fetch.moment))
earlier fetches fetch None none =
    rw none (
      any_last (λ f. f.moment ≡ fetch.moment) [] fetch refl,
      all_one (λ f. fetch.moment ≤ f.moment) fetch (omega arith),
    )
earlier fetches fetch (Some before) is = by_order (leb before fetch.moment) refl
  where
    by_order : (b : Bool) → leb before fetch.moment ≡ b
        → IsEarliest (fetches ++ fetch ∷ []) (Some (min before fetch.moment))
    by_order true le =
        let least : min before fetch.moment ≡ before = omega (arith, leb-true before fetch.moment le) in
        rw least (
          any_front (λ f. f.moment ≡ before) fetches (fetch ∷ []) is.0,
          all_more (λ f. before ≤ f.moment) fetches fetch is.1 (leb-true before fetch.moment le),
        )
    by_order false le =
        let least : min before fetch.moment ≡ fetch.moment = omega (arith, leb-false before fetch.moment le) in
        rw least (
          any_last (λ f. f.moment ≡ fetch.moment) fetches fetch refl,
          all_more (λ f. fetch.moment ≤ f.moment) fetches fetch
              (λ k d within. omega (arith, is.1 k d within, leb-false before fetch.moment le)) (omega arith),
        )
