-- Why words ask for no mode, and what a slice of a known length holds.
use Rattle.std.proofs.Common.{◌≡◌, ◌≢◌, ◌∙◌, ℕ, ◌<◌, ◌≤◌, List, [], ◌∷◌, length, get_or, map, codes, Option, IfSome, arith, sym, ap, refl}
use Rattle.std.specs.Fmt.{decimal}
use Rattle.std.proofs.lemmas.Fmt.{decimal_injective}
use Rattle.simplex_program.specs.Mode.{member_word, mode_words, IsServed}
use Rattle.simplex_program.specs.declared.mode.Mode.{Mode}
use Rattle.simplex_program.specs.declared.mode.Mode.TheVariants.{Voter, Resolver}

-- a word that names no member of m
pub no_member : (members me term optimistic : List ℕ) (m : ℕ) → m ≤ 1000 → members ≡ decimal m
    → ((i : Option ℕ) → IfSome i (λ index. index < m) → me ≢ member_word i)
    → (mode : Mode) → IsServed mode → (codes "voter" ∷ members ∷ me ∷ term ∷ optimistic ∷ []) ≢ mode_words mode
no_member members me term optimistic m small is none (Voter n i t o) served e =
    let same : n ≡ m = decimal_injective n m (omega (arith, served.0.1)) (omega arith)
    (sym (ap (λ l. get_or l 1 []) e) ∙ is) in
    none i (rw same at served.0.2) (ap (λ l. get_or l 2 []) e)
no_member members me term optimistic m small is none (Resolver t) served e = absurd (omega (arith, ap length e))

pub two_words : {X : Type 0} (f : X → List ℕ) (xs : List X) (a b : X) → 2 ≤ length xs → length xs < 3
    → a ≡ get_or xs 0 a → b ≡ get_or xs 1 b → map f xs ≡ f a ∷ f b ∷ []
two_words f [] a b least most ia ib = absurd (omega arith)
two_words f (v ∷ []) a b least most ia ib = absurd (omega arith)
two_words f (v ∷ w ∷ []) a b least most ia ib = rw (ia, ib) refl
two_words f (v ∷ w ∷ x ∷ xs) a b least most ia ib = absurd (omega arith)

pub five_words : {X : Type 0} (f : X → List ℕ) (xs : List X) (a b c d e : X) → 5 ≤ length xs → length xs < 6
    → a ≡ get_or xs 0 a → b ≡ get_or xs 1 b → c ≡ get_or xs 2 c → d ≡ get_or xs 3 d → e ≡ get_or xs 4 e
    → map f xs ≡ f a ∷ f b ∷ f c ∷ f d ∷ f e ∷ []
five_words f [] a b c d e least most ia ib ic id ie = absurd (omega arith)
five_words f (v ∷ []) a b c d e least most ia ib ic id ie = absurd (omega arith)
five_words f (v ∷ w ∷ []) a b c d e least most ia ib ic id ie = absurd (omega arith)
five_words f (v ∷ w ∷ x ∷ []) a b c d e least most ia ib ic id ie = absurd (omega arith)
five_words f (v ∷ w ∷ x ∷ y ∷ []) a b c d e least most ia ib ic id ie = absurd (omega arith)
five_words f (v ∷ w ∷ x ∷ y ∷ z ∷ []) a b c d e least most ia ib ic id ie = rw (ia, ib, ic, id, ie) refl
five_words f (v ∷ w ∷ x ∷ y ∷ z ∷ u ∷ xs) a b c d e least most ia ib ic id ie = absurd (omega arith)
