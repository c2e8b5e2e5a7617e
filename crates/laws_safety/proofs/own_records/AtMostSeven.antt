-- A record that holds each entry once has at most seven entries of a view.
use Rattle.std.proofs.Common.{◌≡◌, refl, sym, ◌∙◌, ℕ, zero, suc, ◌<◌, ◌≤◌, inl, inr, Bool, true, false, not, List, [], ◌∷◌, length, Contains, filter, arith}
use Rattle.std.specs.Prelude.{◌==◌}
use Rattle.std.specs.List.{AllByRecursion, IsDistinct}
use Rattle.std.proofs.lemmas.Bool.{cases_Bool, false≢true, eq-eqb, eqb-true}
use Rattle.std.proofs.lemmas.Bool.Decides.{nat_tests}
use Rattle.simplex_types.specs.Certificates.{Notarized, Nullified, Finalized, ArtifactFacts, NotarizeVote, NullifyVote, FinalizeVote, Verdict, Accepted}
use Rattle.simplex_voter.proofs.Gaps.{not_true}
use Rattle.simplex_record.specs.Entries.{entry_view}
use Rattle.laws_safety.specs.RecordsOnce.{are_of_one_kind, are_alike, RecordsOnce}
use Rattle.laws_safety.proofs.lists.Filters.{Contains-filtered, filtered_passes}
use Rattle.laws_safety.proofs.lists.Splits.{Contains-cons_rest}
use Rattle.laws_safety.proofs.own_records.Distinct.{distinct_filtered}

module _ {X : Type 0} (number : X → ℕ) where
  -- elements of different numbers
  abbrev AreApart : List X → Type 0
  AreApart xs = IsDistinct (λ x y. number x == number y) xs

  abbrev without : ℕ → List X → List X
  without n xs = filter (λ x. not (number x == n)) xs

  none_out : (n : ℕ) (x : X) (xs : List X) → number x ≡ n → AllByRecursion (λ y. (number x == number y) ≡ false) xs
      → length (without n xs) ≡ length xs
  none_out n x [] is apart = refl
  none_out n x (y ∷ xs) is apart =
      let other : (number y == n) ≡ false = (let differs = apart.0 in grind (arith, nat_tests, is, differs)) in
      let rest = none_out n x xs is apart.1 in
      rw other (omega (arith, rest))

  one_out : (n : ℕ) (xs : List X) → AreApart xs → length xs ≤ suc (length (without n xs))
  unfolding IsDistinct
  one_out n [] apart = omega arith
  one_out n (x ∷ xs) apart = elim (cases_Bool (number x == n)) [
    | inl is ↦ (let rest = none_out n x xs (eqb-true (number x) n is) apart.0 in rw is (omega (arith, rest)))
    | inr other ↦ (let rest = one_out n xs apart.1 in rw other (omega (arith, rest)))
  ]

  -- there are no more of them than numbers
  as_many : (n : ℕ) (xs : List X) → ((x : X) → Contains xs x → number x < n) → AreApart xs → length xs ≤ n
  as_many zero [] below apart = omega arith
  as_many zero (x ∷ xs) below apart = absurd (let none = below x (0, omega arith, refl) in omega (arith, none))
  as_many (suc n) xs below apart =
      let ys = without n xs in
      let fewer = as_many n ys (λ x h. (
      let under = below x (Contains-filtered (λ y. not (number y == n)) xs x h) in
      let other = not_true (number x == n) (filtered_passes (λ y. not (number y == n)) xs x h) in
      grind (arith, nat_tests, under, other)))
      (distinct_filtered (λ x y. number x == number y) (λ x. not (number x == n)) xs apart) in
      let one = one_out n xs apart in
      omega (arith, fewer, one)

module _ {D : Type 0} where
  -- the number of an entry's kind
  abbrev kind_number : ArtifactFacts D → ℕ
  kind_number (NotarizeVote _ _) = 0
  kind_number (NullifyVote _ _) = 1
  kind_number (FinalizeVote _ _) = 2
  kind_number (Verdict _ _) = 3
  kind_number (Accepted (Notarized _)) = 4
  kind_number (Accepted (Nullified _)) = 5
  kind_number (Accepted (Finalized _)) = 6

  seven_kinds : (e : ArtifactFacts D) → kind_number e < 7
  seven_kinds (NotarizeVote _ _) = omega arith
  seven_kinds (NullifyVote _ _) = omega arith
  seven_kinds (FinalizeVote _ _) = omega arith
  seven_kinds (Verdict _ _) = omega arith
  seven_kinds (Accepted (Notarized _)) = omega arith
  seven_kinds (Accepted (Nullified _)) = omega arith
  seven_kinds (Accepted (Finalized _)) = omega arith

  one_number : (e f : ArtifactFacts D) → (kind_number e == kind_number f) ≡ true → are_of_one_kind e f ≡ true
  one_number (NotarizeVote _ _) (NotarizeVote _ _) is = refl
  one_number (NullifyVote _ _) (NullifyVote _ _) is = refl
  one_number (FinalizeVote _ _) (FinalizeVote _ _) is = refl
  one_number (Verdict _ _) (Verdict _ _) is = refl
  one_number (Accepted (Notarized _)) (Accepted (Notarized _)) is = refl
  one_number (Accepted (Nullified _)) (Accepted (Nullified _)) is = refl
  one_number (Accepted (Finalized _)) (Accepted (Finalized _)) is = refl
  one_number _ (Accepted (Notarized _)) is = absurd (false≢true is)
  one_number _ (Accepted (Nullified _)) is = absurd (false≢true is)
  one_number _ (Accepted (Finalized _)) is = absurd (false≢true is)
  one_number (Accepted (Notarized _)) _ is = absurd (false≢true is)
  one_number (Accepted (Nullified _)) _ is = absurd (false≢true is)
  one_number (Accepted (Finalized _)) _ is = absurd (false≢true is)
  one_number _ _ is = absurd (false≢true is)

  apart : (e f : ArtifactFacts D) → entry_view e ≡ entry_view f → are_alike e f ≡ false
      → (kind_number e == kind_number f) ≡ false
  apart e f at unlike = elim (cases_Bool (kind_number e == kind_number f)) [
    | inr is ↦ is
    | inl is ↦ absurd (let alike : are_alike e f ≡ true =
        rw (eq-eqb (entry_view e) (entry_view f) at, one_number e f is) refl in false≢true (sym unlike ∙ alike))
  ]

  all_apart : (v : ℕ) (e : ArtifactFacts D) (entries : List (ArtifactFacts D)) → entry_view e ≡ v
      → ((f : ArtifactFacts D) → Contains entries f → entry_view f ≡ v)
      → AllByRecursion (λ f. are_alike e f ≡ false) entries
      → AllByRecursion (λ f. (kind_number e == kind_number f) ≡ false) entries
  all_apart v e [] at of_view unlike = tt
  all_apart v e (f ∷ rest) at of_view unlike = (
    apart e f (at ∙ sym (of_view f (0, omega arith, refl))) unlike.0,
    all_apart v e rest at (λ g h. of_view g (Contains-cons_rest f rest g h)) unlike.1,
  )

  of_one_view : (v : ℕ) (entries : List (ArtifactFacts D))
      → ((e : ArtifactFacts D) → Contains entries e → entry_view e ≡ v) → RecordsOnce entries
      → AreApart kind_number entries
  unfolding IsDistinct
  of_one_view v [] of_view once = tt
  of_one_view v (e ∷ rest) of_view once = (
    all_apart v e rest (of_view e (0, omega arith, refl)) (λ f h. of_view f (Contains-cons_rest e rest f h)) once.0,
    of_one_view v rest (λ f h. of_view f (Contains-cons_rest e rest f h)) once.1,
  )

  pub at_most_seven : (entries : List (ArtifactFacts D)) (v : ℕ) → RecordsOnce entries
      → length (filter (λ e. entry_view e == v) entries) ≤ 7
  at_most_seven entries v once =
      let test : ArtifactFacts D → Bool = λ e. entry_view e == v in
      let here = filter test entries in
      as_many kind_number 7 here (λ e h. seven_kinds e)
      (of_one_view v here (λ e h. eqb-true (entry_view e) v (filtered_passes test entries e h))
      (distinct_filtered are_alike test entries once))
