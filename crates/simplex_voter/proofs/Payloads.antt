-- The optimistic payload meets its equation, however many steps it was computed with.
use Rattle.std.proofs.Common.{◌≡◌, ℕ, zero, suc, ◌<◌, ◌≤◌, Bool, true, false, ◌&&◌, ltb, leb, eqb, cond, List, [], ◌∷◌, Option, Some, None, refl, ap, ◌∙◌, inl, inr, arith, length}
use Rattle.std.specs.Prelude.{is_some, option_and_then}
use Rattle.std.specs.Ordering.{nat_cmp}
use Rattle.std.specs.FinMap.Entries.{find}
use Rattle.std.proofs.lemmas.Bool.{cases_lt, eqb-true, false≢true, le-leb}
use Rattle.std.proofs.lemmas.Bool.Decides.{nat_tests}
use Rattle.simplex_view_maps.proofs.Maps.{is_eq-nat_cmp}
use Rattle.simplex_types.specs.declared.types.messages.Proposal.{Proposal}
use Rattle.simplex_round.specs.Round.{RoundFacts}
use Rattle.simplex_voter.specs.Facts.{StateFacts, Elect, round_at}
use Rattle.simplex_voter.specs.Payloads.{can_chain_on, is_bound_to, voted_payload, served_payload, payload_by, payload_within, optimistic_ancestry_payload}
use Rattle.simplex_voter.proofs.Gaps.{cases_bool, and_parts}

-- how many entries are at or below a view
rank : {A : Type 0} → List (ℕ × A) → ℕ → ℕ
rank [] v = 0
rank (e ∷ es) v = cond (leb e.0 v) (suc (rank es v)) (rank es v)

rank-le : {A : Type 0} (es : List (ℕ × A)) (v : ℕ) → rank es v ≤ length es
unfolding rank
rank-le [] v = omega arith
rank-le (e ∷ es) v =
    let rest = rank-le es v in
    elim (cases_bool (leb e.0 v)) [
      | inl counts ↦ rw counts (omega arith)
      | inr passes ↦ rw passes (omega arith)
    ]

rank-rises : {A : Type 0} (es : List (ℕ × A)) (p v : ℕ) → p ≤ v → rank es p ≤ rank es v
unfolding rank
rank-rises [] p v up = omega arith
rank-rises (e ∷ es) p v up =
    let rest = rank-rises es p v up in
    elim (cases_lt p e.0) [
      | inr low ↦ rw (le-leb e.0 p low, le-leb e.0 v (omega arith)) (omega arith)
      | inl high ↦
          let not_low : leb e.0 p ≡ false = grind (arith, nat_tests) in
          elim (cases_bool (leb e.0 v)) [
            | inl counts ↦ rw (not_low, counts) (omega arith)
            | inr passes ↦ rw (not_low, passes) rest
          ]
    ]

-- fewer entries are at or below a view that lies below a tracked one
rank-below : {A : Type 0} (es : List (ℕ × A)) (p v : ℕ) → p < v → is_some (find nat_cmp v es) ≡ true
    → rank es p < rank es v
unfolding rank
rank-below [] p v low here = absurd (false≢true here)
rank-below (e ∷ es) p v low here = elim (cases_bool (eqb v e.0)) [
  | inl same ↦
      let is : v ≡ e.0 = eqb-true v e.0 same in
      let over : leb e.0 p ≡ false = grind (arith, nat_tests) in
      let rest = rank-rises es p v (omega arith) in
      rw (over, le-leb e.0 v (omega arith)) (omega arith)
  | inr other ↦
      let rest = rank-below es p v low (rw (is_eq-nat_cmp v e.0, other) at here) in
      elim (cases_bool (leb e.0 p)) [
        | inl counts ↦
            let more : leb e.0 v ≡ true = grind (arith, nat_tests) in
            rw (counts, more) (omega arith)
        | inr passes ↦ elim (cases_bool (leb e.0 v)) [
          | inl counts ↦ rw (passes, counts) (omega arith)
          | inr passes' ↦ rw (passes, passes') rest
        ]
      ]
]

-- values that are equal where a guard holds
guarded : {A : Type 0} (b : Bool) (m n other : A) → ((b ≡ true) → m ≡ n) → cond b m other ≡ cond b n other
guarded true m n other f = f refl
guarded false m n other f = refl

each_same : {A B : Type 0} (f g : A → Option B) (o : Option A) → ((a : A) → o ≡ Some a → f a ≡ g a)
    → option_and_then f o ≡ option_and_then g o
each_same f g None h = refl
each_same f g (Some a) h = h a refl

pub can_chain_on-below : {K L D : Type 0} (x : StateFacts K L D) (v p : ℕ) → can_chain_on x v p ≡ true → p < v
unfolding can_chain_on
can_chain_on-below x v p h =
    let parts = and_parts (leb x.finalized p && ltb p v) _ h in
    let low = and_parts (leb x.finalized p) _ parts.0 in
    grind (arith, nat_tests)

module _ {K L D : Type 0} (same : D → D → Bool) (elect : Elect L) (x : StateFacts K L D) where
  voted_same : (f g : ℕ → Option D) (v : ℕ) (r : RoundFacts K D) (h : Proposal D) → ((p : ℕ) → p < v → f p ≡ g p)
      → voted_payload same elect x f v r h ≡ voted_payload same elect x g v r h
  voted_same f g v r h alike =
      guarded (can_chain_on x v h.parent) _ _ None
      (λ b. ap (option_and_then (λ d. cond (is_bound_to same r.binding d) (Some h.payload) None))
      (alike h.parent (can_chain_on-below x v h.parent b)))

  served_same : (f g : ℕ → Option D) (v : ℕ) (r : RoundFacts K D) → ((p : ℕ) → p < v → f p ≡ g p)
      → served_payload same elect x f v r ≡ served_payload same elect x g v r
  served_same f g v r alike =
      let voted : option_and_then (voted_payload same elect x f v r) r.slot.held ≡ option_and_then
      (voted_payload same elect x g v r) r.slot.held =
      each_same _ _ r.slot.held (λ h is. voted_same f g v r h alike) in
      rw voted refl

  -- the payload is asked of the views below a tracked one alone
  by_same : (f g : ℕ → Option D) (v : ℕ) → ((p : ℕ) → p < v → is_some (round_at x v) ≡ true → f p ≡ g p)
      → payload_by same elect x f v ≡ payload_by same elect x g v
  by_same f g v alike =
      let served : option_and_then (served_payload same elect x f v) (round_at x v) ≡ option_and_then
      (served_payload same elect x g v) (round_at x v) =
      each_same _ _ (round_at x v) (λ r is. served_same f g v r (λ p low. alike p low (ap is_some is))) in
      rw served refl

  -- as many steps as there are entries at or below the view are enough
  enough : (m n v : ℕ) → rank x.rounds v ≤ m → rank x.rounds v ≤ n
      → payload_within same elect x (suc m) v ≡ payload_within same elect x (suc n) v
  enough zero n v in_m in_n = by_same (payload_within same elect x zero) (payload_within same elect x n) v
      (λ p low tracked.
      let fewer = rank-below x.rounds p v low tracked in absurd (omega arith))
  enough (suc m) zero v in_m in_n = by_same (payload_within same elect x (suc m)) (payload_within same elect x zero) v
      (λ p low tracked.
      let fewer = rank-below x.rounds p v low tracked in absurd (omega arith))
  enough (suc m) (suc n) v in_m in_n = by_same (payload_within same elect x (suc m))
      (payload_within same elect x (suc n)) v (λ p low tracked.
      let fewer = rank-below x.rounds p v low tracked in enough m n p (omega arith) (omega arith))

  one_less : (n : ℕ) → 0 < n → (m : ℕ) × (n ≡ suc m)
  one_less zero some = absurd (omega arith)
  one_less (suc m) some = (m, refl)

  -- the rule, as it is read
  pub optimistic_ancestry_payload-is : (v : ℕ)
      → optimistic_ancestry_payload same elect x v ≡ payload_by same elect x (optimistic_ancestry_payload same elect x)
      v
  unfolding optimistic_ancestry_payload
  optimistic_ancestry_payload-is v = by_same (payload_within same elect x (length x.rounds))
      (optimistic_ancestry_payload same elect x) v (λ p low tracked.
      let fewer = rank-below x.rounds p v low tracked in
      let all = rank-le x.rounds v in
      let less = one_less (length x.rounds) (omega arith) in
      ap (λ n. payload_within same elect x n p) less.1 ∙ enough less.0 (length x.rounds) p (omega arith) (omega arith))
