-- Fetches of which each kind and view is open once, after one is opened, some are closed, or one is asked for.
use Rattle.std.proofs.Common.{◌≡◌, ℕ, zero, suc, Bool, true, false, cond, eqb, not, ◌&&◌, ◌||◌, List, [], ◌∷◌, ◌++◌, get_or, filter, refl, ap, ◌∙◌, arith}
use Rattle.std.specs.Prelude.{slice_set}
use Rattle.std.proofs.lemmas.Bool.Decides.{nat_tests}
use Rattle.engine_fetches.specs.declared.fetches.Fetch.{Fetch}
use Rattle.engine_fetches.specs.declared.fetches.FetchKind.{FetchKind}
use Rattle.engine_fetches.specs.declared.fetches.FetchKind.TheVariants.{Notarization, Nullification, Decision}
use Rattle.engine_fetches.specs.Fetches.{same_kind, is_of, is_fetch_open, each_once}

neither : (a b : Bool) → a ≡ false → b ≡ false → (a || b) ≡ false
neither false false p q = refl
neither true b p q = cc
neither false true p q = cc

first_not : (a b : Bool) → (a || b) ≡ false → a ≡ false
first_not false b e = refl
first_not true b e = cc

then_not : (a b : Bool) → (a || b) ≡ false → b ≡ false
then_not false b e = e
then_not true b e = cc

once : (a b : Bool) → a ≡ false → b ≡ true → (not a && b) ≡ true
once false true p q = refl
once true b p q = cc
once false false p q = cc

not_first : (a b : Bool) → (not a && b) ≡ true → a ≡ false
not_first false b e = refl
not_first true b e = cc

rest_once : (a b : Bool) → (not a && b) ≡ true → b ≡ true
rest_once false b e = e
rest_once true b e = cc

-- of what is left, none is open that was not
open_left : (p : Fetch → Bool) (kind : FetchKind) (view : ℕ) (fetches : List Fetch)
    → is_fetch_open kind view fetches ≡ false → is_fetch_open kind view (filter p fetches) ≡ false
open_left p kind view [] none = refl
open_left p kind view (fetch ∷ rest) none =
    by_test (open_left p kind view rest (then_not (is_of kind view fetch) (is_fetch_open kind view rest) none))
    (p fetch) refl
  where
    by_test : is_fetch_open kind view (filter p rest) ≡ false → (t : Bool) → p fetch ≡ t
        → is_fetch_open kind view (cond t (fetch ∷ filter p rest) (filter p rest)) ≡ false
    by_test left true e = neither (is_of kind view fetch) (is_fetch_open kind view (filter p rest))
        (first_not (is_of kind view fetch) (is_fetch_open kind view rest) none) left
    by_test left false e = left

-- some are closed
pub once_left : (p : Fetch → Bool) (fetches : List Fetch) → each_once fetches ≡ true
    → each_once (filter p fetches) ≡ true
once_left p [] is = refl
once_left p (fetch ∷ rest) is =
    by_test (once_left p rest (rest_once (is_fetch_open fetch.kind fetch.view rest) (each_once rest) is)) (p fetch) refl
  where
    by_test : each_once (filter p rest) ≡ true → (t : Bool) → p fetch ≡ t
        → each_once (cond t (fetch ∷ filter p rest) (filter p rest)) ≡ true
    by_test left true e =
        once (is_fetch_open fetch.kind fetch.view (filter p rest)) (each_once (filter p rest))
        (open_left p fetch.kind fetch.view rest
        (not_first (is_fetch_open fetch.kind fetch.view rest) (each_once rest) is)) left
    by_test left false e = left

kinds_turned : (k l : FetchKind) → same_kind k l ≡ same_kind l k
kinds_turned Notarization Notarization = refl
kinds_turned Notarization Nullification = refl
kinds_turned Notarization Decision = refl
kinds_turned Nullification Notarization = refl
kinds_turned Nullification Nullification = refl
kinds_turned Nullification Decision = refl
kinds_turned Decision Notarization = refl
kinds_turned Decision Nullification = refl
kinds_turned Decision Decision = refl

views_turned : (v w : ℕ) → eqb v w ≡ eqb w v
views_turned v w = grind (arith, nat_tests)

-- one is of another's kind and view where that is of its own
of_turned : (f g : Fetch) → is_of f.kind f.view g ≡ is_of g.kind g.view f
of_turned f g = ap (λ k. k && eqb g.view f.view) (kinds_turned g.kind f.kind)
    ∙ ap (λ v. same_kind f.kind g.kind && v) (views_turned g.view f.view)

open_behind : (kind : FetchKind) (view : ℕ) (fetches : List Fetch) (more : Fetch)
    → is_fetch_open kind view fetches ≡ false → is_of kind view more ≡ false
    → is_fetch_open kind view (fetches ++ more ∷ []) ≡ false
open_behind kind view [] more none other = neither (is_of kind view more) false other refl
open_behind kind view (fetch ∷ rest) more none other =
    neither (is_of kind view fetch) (is_fetch_open kind view (rest ++ more ∷ []))
    (first_not (is_of kind view fetch) (is_fetch_open kind view rest) none)
    (open_behind kind view rest more (then_not (is_of kind view fetch) (is_fetch_open kind view rest) none) other)

-- one is opened that was not
pub once_opened : (fetches : List Fetch) (more : Fetch) → is_fetch_open more.kind more.view fetches ≡ false
    → each_once fetches ≡ true → each_once (fetches ++ more ∷ []) ≡ true
once_opened [] more none is = refl
once_opened (fetch ∷ rest) more none is =
    once (is_fetch_open fetch.kind fetch.view (rest ++ more ∷ [])) (each_once (rest ++ more ∷ []))
    (open_behind fetch.kind fetch.view rest more
    (not_first (is_fetch_open fetch.kind fetch.view rest) (each_once rest) is)
    (of_turned fetch more ∙ first_not (is_of more.kind more.view fetch) (is_fetch_open more.kind more.view rest) none))
    (once_opened rest more (then_not (is_of more.kind more.view fetch) (is_fetch_open more.kind more.view rest) none)
    (rest_once (is_fetch_open fetch.kind fetch.view rest) (each_once rest) is))

-- or might have been, because memory ran out
pub once_pushed : (pushed : Bool) (left fetches : List Fetch) (more : Fetch)
    → left ≡ cond pushed (fetches ++ more ∷ []) fetches → is_fetch_open more.kind more.view fetches ≡ false
    → each_once fetches ≡ true → each_once left ≡ true
once_pushed true left fetches more are none is = ap each_once are ∙ once_opened fetches more none is
once_pushed false left fetches more are none is = ap each_once are ∙ is

-- another is in a place, of the same kind and view
module _ (again : Fetch) where
  abbrev pub IsAgain : Fetch → Type 0
  IsAgain fetch = (again.kind ≡ fetch.kind) × (again.view ≡ fetch.view)

  same_of : (kind : FetchKind) (view : ℕ) (fetch : Fetch) → IsAgain fetch
      → is_of kind view again ≡ is_of kind view fetch
  same_of kind view fetch (same, at) = ap (λ k. same_kind k kind && eqb again.view view) same
      ∙ ap (λ v. same_kind fetch.kind kind && eqb v view) at

  pub open_again : (kind : FetchKind) (view : ℕ) (fetches : List Fetch) (place : ℕ) (d : Fetch)
      → IsAgain (get_or fetches place d) → is_fetch_open kind view (slice_set fetches place again) ≡ is_fetch_open kind
      view fetches
  open_again kind view [] place d is = refl
  open_again kind view (first ∷ rest) zero d is =
      ap (λ b. b || is_fetch_open kind view rest) (same_of kind view first is)
  open_again kind view (first ∷ rest) (suc place) d is =
      ap (λ b. is_of kind view first || b) (open_again kind view rest place d is)

  pub once_again : (fetches : List Fetch) (place : ℕ) (d : Fetch) → IsAgain (get_or fetches place d)
      → each_once fetches ≡ true → each_once (slice_set fetches place again) ≡ true
  once_again [] place d is each = refl
  once_again (first ∷ rest) zero d is each =
      ap (λ k. not (is_fetch_open k again.view rest) && each_once rest) is.0
      ∙ ap (λ v. not (is_fetch_open first.kind v rest) && each_once rest) is.1 ∙ each
  once_again (first ∷ rest) (suc place) d is each =
      once (is_fetch_open first.kind first.view (slice_set rest place again)) (each_once (slice_set rest place again))
      (open_again first.kind first.view rest place d is
      ∙ not_first (is_fetch_open first.kind first.view rest) (each_once rest) each)
      (once_again rest place d is (rest_once (is_fetch_open first.kind first.view rest) (each_once rest) each))
