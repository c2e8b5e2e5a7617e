-- The place of an element in a filtered list.
use Rattle.std.proofs.Common.{◌≡◌, refl, sym, ap, ◌∙◌, subst, ℕ, inl, inr, Bool, true, false, cond, List, [], ◌∷◌, ◌++◌, Contains, filter, arith}
use Rattle.std.specs.Prelude.{◌==◌}
use Rattle.std.proofs.lemmas.Bool.{eq-eqb}
use Rattle.std.proofs.lemmas.List.Elements.{filter-append}
use Rattle.simplex_types.specs.Certificates.{ArtifactFacts}
use Rattle.simplex_record.specs.Entries.{entry_view}
use Rattle.laws_safety.proofs.lists.Splits.{Contains-cases}
use Rattle.laws_safety.proofs.agreement.VoteOrder.{Contains-split, Contains-middle}

-- the step of `filter_split`, by the test at the first element
kept_split : {X : Type 0} (test : X → Bool) (y : X) (xs after : List X) (x : X)
    → ((before : List X) → filter test xs ≡ before ++ x ∷ after
    → (front back : List X) × (xs ≡ front ++ x ∷ back) × (before ≡ filter test front)) → (b : Bool) → test y ≡ b
    → (before : List X) → cond b (y ∷ filter test xs) (filter test xs) ≡ before ++ x ∷ after
    → (front back : List X) × (y ∷ xs ≡ front ++ x ∷ back) × (before ≡ filter test front)
kept_split {X} test y xs after x rest true is [] e =
    let head : y ≡ x = cc in
    ([], xs, ap (λ (z : X). z ∷ xs) head, refl)
kept_split {X} test y xs after x rest true is (b ∷ before) e =
    let head : y ≡ b = cc in
    let tail : filter test xs ≡ before ++ x ∷ after = cc in
    let h = rest before tail in
    let kept : filter test (y ∷ h.0) ≡ y ∷ filter test h.0 = rw is in
    (y ∷ h.0, h.1, ap (λ (zs : List X). y ∷ zs) h.2, cc)
kept_split {X} test y xs after x rest false is before e =
    let h = rest before e in
    let left_out : filter test (y ∷ h.0) ≡ filter test h.0 = rw is in
    (y ∷ h.0, h.1, ap (λ (zs : List X). y ∷ zs) h.2, cc)

-- an element that passes is in the whole list after those that passed before it
pub filter_split : {X : Type 0} (test : X → Bool) (xs before after : List X) (x : X)
    → filter test xs ≡ before ++ x ∷ after → (front back : List X) × (xs ≡ front ++ x ∷ back)
    × (before ≡ filter test front)
filter_split {X} test [] [] after x e = absurd (cc)
filter_split {X} test [] (b ∷ before) after x e = absurd (cc)
filter_split {X} test (y ∷ xs) before after x e =
    kept_split test y xs after x (λ front is. filter_split test xs front after x is) (test y) refl before e

-- a list with an element in its middle is filtered on both sides of it
pub filter_middle : {X : Type 0} (test : X → Bool) (before after : List X) (x : X) → test x ≡ true
    → filter test (before ++ x ∷ after) ≡ filter test before ++ x ∷ filter test after
filter_middle {X} test before after x is =
    let last : filter test (x ∷ after) ≡ x ∷ filter test after = rw is in
    filter-append test before (x ∷ after) ∙ ap (λ (zs : List X). filter test before ++ zs) last

pub Contains-filter : {X : Type 0} (test : X → Bool) (xs : List X) (x : X) → Contains xs x → test x ≡ true
    → Contains (filter test xs) x
Contains-filter {X} test xs x h is =
    let parts = Contains-split xs x h in
    let same : filter test xs ≡ filter test parts.0 ++ x ∷ filter test parts.1 = ap (filter test) parts.2
    ∙ filter_middle test parts.0 parts.1 x is in
    subst (λ (zs : List X). Contains zs x) (sym same) (Contains-middle (filter test parts.0) (filter test parts.1) x)

pub Contains-filtered : {X : Type 0} (test : X → Bool) (xs : List X) (x : X) → Contains (filter test xs) x
    → Contains xs x
Contains-filtered {X} test xs x h =
    let parts = Contains-split (filter test xs) x h in
    let whole = filter_split test xs parts.0 parts.1 x parts.2 in
    subst (λ (zs : List X). Contains zs x) (sym whole.2) (Contains-middle whole.0 whole.1 x)

-- a filtered element passes the test
pub filtered_passes : {X : Type 0} (test : X → Bool) (xs : List X) (x : X) → Contains (filter test xs) x → test x ≡ true
filtered_passes test [] x h = absurd (omega (arith, h.1))
filtered_passes {X} test (y ∷ xs) x h =
    (elim (test y) as (λ b. test y ≡ b → Contains (cond b (y ∷ filter test xs) (filter test xs)) x → test x ≡ true) [
      | true ↦ λ is k. elim (Contains-cases y (filter test xs) x k) [
        | inl here ↦ subst (λ (z : X). test z ≡ true) here is
        | inr later ↦ filtered_passes test xs x later
      ]
      | false ↦ λ is k. filtered_passes test xs x k
    ]) refl h

-- entries of each view in the same order are the same entries
pub same_entries : {D : Type 0} (copy entries : List (ArtifactFacts D))
    → ((v : ℕ) → filter (λ e. entry_view e == v) copy ≡ filter (λ e. entry_view e == v) entries) → (e : ArtifactFacts D)
    → Contains copy e → Contains entries e
same_entries {D} copy entries of_each_view e h =
    let test : ArtifactFacts D → Bool = λ f. entry_view f == entry_view e in
    Contains-filtered test entries e (subst (λ es. Contains es e) (of_each_view (entry_view e))
    (Contains-filter test copy e h (eq-eqb (entry_view e) (entry_view e) refl)))
