-- The views that were voted to nullify: a noted view stays noted, and bars a vote to finalize.
use Rattle.std.proofs.Common.{◌≡◌, refl, ap, sym, ◌∙◌, ℕ, ◌<◌, ◌≤◌, inl, inr, Bool, true, false, ◌&&◌, ◌||◌, cond, ltb, List, [], ◌∷◌, Contains, filter, arith}
use Rattle.std.specs.List.{list_any}
use Rattle.std.specs.Ordering.{nat_cmp, is_eq, match_ordering}
use Rattle.std.specs.declared.cmp.Ordering.{Ordering}
use Rattle.std.specs.declared.cmp.Ordering.TheVariants.{Less, Equal, Greater}
use Rattle.std.specs.BTreeSet.{insert_key}
use Rattle.std.proofs.lemmas.Bool.{false≢true, eqb-true, lt-ltb, cases_lt}
use Rattle.simplex_view_maps.proofs.Maps.{is_eq-nat_cmp}
use Rattle.simplex_types.specs.Terms.{covers}
use Rattle.simplex_voter.specs.Facts.{StateFacts}
use Rattle.simplex_voter.specs.Rules.{has_conflicting_nullify}
use Rattle.laws_safety.proofs.lists.Splits.{Contains-cons_rest, Contains-cases}

-- views with the same place are the same
pub tied : (a b : ℕ) → nat_cmp a b ≡ Equal → a ≡ b
tied a b is = eqb-true a b (sym (is_eq-nat_cmp a b) ∙ ap is_eq is)

pub noted_old : (k u : ℕ) (ks : List ℕ) → Contains ks u → Contains (insert_key nat_cmp ks k) u
noted_old k u [] h = absurd (omega (arith, h.1))
noted_old k u (x ∷ xs) h = elim (nat_cmp k x) as
    (λ (o : Ordering). Contains (match_ordering o (k ∷ x ∷ xs) (x ∷ xs) (x ∷ insert_key nat_cmp xs k)) u) [
      | Less ↦ Contains-cons_rest k (x ∷ xs) u h
      | Equal ↦ h
      | Greater ↦ elim (Contains-cases x xs u h) [
        | inl at ↦ (0, omega arith, at)
        | inr rest ↦ Contains-cons_rest x (insert_key nat_cmp xs k) u (noted_old k u xs rest)
      ]
    ]

pub noted_new : (k : ℕ) (ks : List ℕ) → Contains (insert_key nat_cmp ks k) k
noted_new k [] = (0, omega arith, refl)
noted_new k (x ∷ xs) = (elim (nat_cmp k x) as
    (λ (o : Ordering). nat_cmp k x ≡ o → Contains (match_ordering o (k ∷ x ∷ xs) (x ∷ xs) (x ∷ insert_key nat_cmp xs k))
    k) [
      | Less ↦ λ is. (0, omega arith, refl)
      | Equal ↦ λ is. (0, omega arith, sym (tied k x is))
      | Greater ↦ λ is. Contains-cons_rest x (insert_key nat_cmp xs k) k (noted_new k xs)
    ]) refl

pub noted_kept : (test : ℕ → Bool) (u : ℕ) (ks : List ℕ) → test u ≡ true → Contains ks u → Contains (filter test ks) u
noted_kept test u [] passes h = absurd (omega (arith, h.1))
noted_kept test u (x ∷ xs) passes h = elim (Contains-cases x xs u h) [
  | inl at ↦ (let here : test x ≡ true = ap test at ∙ passes in rw here (0, omega arith, at))
  | inr rest ↦ (elim (test x) as (λ b. Contains (cond b (x ∷ filter test xs) (filter test xs)) u) [
    | true ↦ Contains-cons_rest x (filter test xs) u (noted_kept test u xs passes rest)
    | false ↦ noted_kept test u xs passes rest
  ])
]

any_passes : (test : ℕ → Bool) (u : ℕ) (ks : List ℕ) → test u ≡ true → Contains ks u → list_any test ks ≡ true
any_passes test u [] passes h = absurd (omega (arith, h.1))
any_passes test u (x ∷ xs) passes h = elim (Contains-cases x xs u h) [
  | inl at ↦ (let here : test x ≡ true = ap test at ∙ passes in rw here refl)
  | inr rest ↦ (elim (test x) as (λ b. (b || list_any test xs) ≡ true)
      [ true ↦ refl | false ↦ any_passes test u xs passes rest ])
]

-- where the gate is open, a noted view below in the term is not above the finalized one
pub gate_passed : {K L D : Type 0} (x : StateFacts K L D) (u v : ℕ) → has_conflicting_nullify x v ≡ false
    → Contains x.nullify_votes u → u < v → covers x.terms.term_length u v ≡ true → u ≤ x.finalized
unfolding has_conflicting_nullify
gate_passed x u v ungated noted below covering = elim (cases_lt x.finalized u) [
  | inl above ↦
      (let test : ltb u v && covers x.terms.term_length u v && ltb x.finalized u ≡ true =
      rw (lt-ltb u v below, covering, lt-ltb x.finalized u above) refl in
      absurd (false≢true (sym ungated ∙ any_passes (λ w. ltb w v && covers x.terms.term_length w v && ltb x.finalized w)
      u x.nullify_votes test noted)))
  | inr not_above ↦ not_above
]
