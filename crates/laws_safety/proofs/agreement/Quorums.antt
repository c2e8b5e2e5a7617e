-- For `agreement`.
-- Two quorums share an honest member.
use Rattle.std.proofs.Common.{◌≡◌, ℕ, zero, suc, ◌+◌, ◌-◌, ◌*◌, ◌<◌, ◌≤◌, inl, inr, List, [], ◌∷◌, length, slice_get, Some, cond, arith, refl}
use Rattle.std.proofs.lemmas.List.Sums.{sum_by-cons}
use Rattle.simplex_types.specs.declared.types.messages.Subject.{Subject}
use Rattle.laws_safety.specs.Lawful.{HasSigned}
use Rattle.laws_safety.specs.Replicas.{Replica, Faulty, Honest, is_faulty, faults, FewFaulty, AtLeastFrom, MayHaveSigned, Backed, max_faults, quorum}
use Rattle.laws_safety.specs.Executions.{Execution, trace_of}

module _ {X : Type 0} where
  -- the items that have P are no more than the items
  AtLeastFrom-le-length : (P : ℕ → X → Type 0) (i a : ℕ) (xs : List X) → AtLeastFrom i a P xs → a ≤ length xs
  AtLeastFrom-le-length P i zero xs h = omega arith
  AtLeastFrom-le-length P i (suc a) [] h = absurd h
  AtLeastFrom-le-length P i (suc a) (x ∷ xs) (inl h) = let k = AtLeastFrom-le-length P (suc i) a xs h.1 in omega arith
  AtLeastFrom-le-length P i (suc a) (x ∷ xs) (inr h) = let k = AtLeastFrom-le-length P (suc i) (suc a) xs h in
      omega arith

  -- where a of the items have P and b have Q, as many as a and b are more than the items have both
  pub AtLeastFrom-both : (P Q : ℕ → X → Type 0) (i a b c : ℕ) (xs : List X) → length xs + c ≤ a + b
      → AtLeastFrom i a P xs → AtLeastFrom i b Q xs → AtLeastFrom i c (λ j x. P j x × Q j x) xs
  AtLeastFrom-both P Q i a b zero xs e h k = tt
  AtLeastFrom-both P Q i zero b (suc c) xs e h k = let l = AtLeastFrom-le-length Q i b xs k in absurd (omega arith)
  AtLeastFrom-both P Q i (suc a) zero (suc c) xs e h k = let l = AtLeastFrom-le-length P i (suc a) xs h in
      absurd (omega arith)
  AtLeastFrom-both P Q i (suc a) (suc b) (suc c) [] e h k = absurd h
  AtLeastFrom-both P Q i (suc a) (suc b) (suc c) (x ∷ xs) e (inl h) (inl k) =
      inl ((h.0, k.0), AtLeastFrom-both P Q (suc i) a b c xs (omega arith) h.1 k.1)
  AtLeastFrom-both P Q i (suc a) (suc b) (suc c) (x ∷ xs) e (inl h) (inr k) =
      inr (AtLeastFrom-both P Q (suc i) a (suc b) (suc c) xs (omega arith) h.1 k)
  AtLeastFrom-both P Q i (suc a) (suc b) (suc c) (x ∷ xs) e (inr h) (inl k) =
      inr (AtLeastFrom-both P Q (suc i) (suc a) b (suc c) xs (omega arith) h k.1)
  AtLeastFrom-both P Q i (suc a) (suc b) (suc c) (x ∷ xs) e (inr h) (inr k) =
      inr (AtLeastFrom-both P Q (suc i) (suc a) (suc b) (suc c) xs (omega arith) h k)

  -- a claim that holds wherever another does
  pub AtLeastFrom-map : (P Q : ℕ → X → Type 0) (i count : ℕ) (xs : List X) → ((j : ℕ) (x : X) → P j x → Q j x)
      → AtLeastFrom i count P xs → AtLeastFrom i count Q xs
  AtLeastFrom-map P Q i zero xs f h = tt
  AtLeastFrom-map P Q i (suc count) [] f h = absurd h
  AtLeastFrom-map P Q i (suc count) (x ∷ xs) f (inl h) = inl (f i x h.0, AtLeastFrom-map P Q (suc i) count xs f h.1)
  AtLeastFrom-map P Q i (suc count) (x ∷ xs) f (inr h) = inr (AtLeastFrom-map P Q (suc i) (suc count) xs f h)

module _ {K L D : Type 0} where
  pub faults-cons : (p : Replica K L D) (network : List (Replica K L D))
      → faults (p ∷ network) ≡ cond (is_faulty p) 1 0 + faults network
  faults-cons p network = sum_by-cons (λ (q : Replica K L D). cond (is_faulty q) 1 0) p network

  -- one of more members than are faulty is honest
  honest_one : (Q : ℕ → Replica K L D → Type 0) (i count : ℕ) (network : List (Replica K L D))
      → AtLeastFrom i count Q network → faults network < count
      → (j k : ℕ) × (s : Execution K L D) × (slice_get network k ≡ Some (Honest s)) × Q j (Honest s)
  honest_one Q i zero network h less = absurd (omega arith)
  honest_one Q i (suc count) [] h less = absurd h
  honest_one Q i (suc count) (Faulty ∷ network) (inl h) less =
      let found = honest_one Q (suc i) count network h.1 (omega (arith, faults-cons Faulty network)) in
      (found.0, suc found.1, found.2, found.3, found.4)
  honest_one Q i (suc count) (Faulty ∷ network) (inr h) less =
      let found = honest_one Q (suc i) (suc count) network h (omega (arith, faults-cons Faulty network)) in
      (found.0, suc found.1, found.2, found.3, found.4)
  honest_one Q i (suc count) (Honest s ∷ network) (inl h) less = (i, 0, s, refl, h.0)
  honest_one Q i (suc count) (Honest s ∷ network) (inr h) less =
      let found = honest_one Q (suc i) (suc count) network h (omega (arith, faults-cons (Honest s) network)) in
      (found.0, suc found.1, found.2, found.3, found.4)

  -- two backed subjects share an honest member that signed both
  pub shared_member : (network : List (Replica K L D)) (a b : Subject D) → FewFaulty network → Backed network a
      → Backed network b → (k : ℕ) × (s : Execution K L D) × (slice_get network k ≡ Some (Honest s))
      × HasSigned (trace_of s) a × HasSigned (trace_of s) b
  shared_member network a b few h k =
      let n = length network in
      let signed = MayHaveSigned in
      let both = AtLeastFrom-both (signed a) (signed b) 0 (quorum n) (quorum n) (n - 2 * max_faults n) network
      (omega arith) h k in
      let found = honest_one (λ j p. signed a j p × signed b j p) 0 (n - 2 * max_faults n) network both (omega arith) in
      let i = found.0 in
      (found.1, found.2, found.3, (i, found.4.0), (i, found.4.1))
