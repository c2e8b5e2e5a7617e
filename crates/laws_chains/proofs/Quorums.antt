-- Two honest members of a quorum.
use Rattle.std.proofs.Common.{◌≡◌, refl, ℕ, zero, suc, ◌+◌, ◌<◌, ◌≤◌, inl, inr, List, [], ◌∷◌, length, slice_get, Some, arith}
use Rattle.laws_safety.specs.Executions.{Execution}
use Rattle.laws_safety.specs.Replicas.{Replica, Faulty, Honest, faults, max_faults, quorum, AtLeastFrom}
use Rattle.laws_safety.proofs.agreement.Quorums.{faults-cons}

module _ {K L D : Type 0} (Q : ℕ → Replica K L D → Type 0) where
  -- an honest one that has Q at an index from `i` on; `k` is its place
  pub record HonestFrom (i : ℕ) (network : List (Replica K L D)) : Type 0 where
    pub index : ℕ
    pub place : ℕ
    pub s : Execution K L D
    pub at : slice_get network place ≡ Some (Honest s)
    pub from : i ≤ index
    pub has : Q index (Honest s)

  later : (i : ℕ) (r : Replica K L D) (network : List (Replica K L D)) → HonestFrom (suc i) network
      → HonestFrom i (r ∷ network)
  later i r network h =
      record { index = h.index; place = suc h.place; s = h.s; at = h.at; from = omega (arith, h.from); has = h.has }

  pub honest_from : (i count : ℕ) (network : List (Replica K L D)) → AtLeastFrom i count Q network
      → faults network < count → HonestFrom i network
  honest_from i zero network h less = absurd (omega arith)
  honest_from i (suc count) [] h less = absurd h
  honest_from i (suc count) (Faulty ∷ network) (inl h) less =
      later i Faulty network (honest_from (suc i) count network h.1 (omega (arith, faults-cons Faulty network)))
  honest_from i (suc count) (Faulty ∷ network) (inr h) less =
      later i Faulty network (honest_from (suc i) (suc count) network h (omega (arith, faults-cons Faulty network)))
  honest_from i (suc count) (Honest s ∷ network) (inl h) less =
      record { index = i; place = 0; s = s; at = refl; from = omega arith; has = h.0 }
  honest_from i (suc count) (Honest s ∷ network) (inr h) less =
      later i (Honest s) network
      (honest_from (suc i) (suc count) network h (omega (arith, faults-cons (Honest s) network)))

  -- two of them
  pub record TwoFrom (i : ℕ) (network : List (Replica K L D)) : Type 0 where
    pub one : HonestFrom i network
    pub two : HonestFrom i network
    pub apart : one.index < two.index

  two_later : (i : ℕ) (r : Replica K L D) (network : List (Replica K L D)) → TwoFrom (suc i) network
      → TwoFrom i (r ∷ network)
  unfolding later
  two_later i r network h = record { one = later i r network h.one; two = later i r network h.two; apart = h.apart }

  pub two_from : (i count : ℕ) (network : List (Replica K L D)) → AtLeastFrom i count Q network
      → faults network + 2 ≤ count → TwoFrom i network
  unfolding later
  two_from i zero network h less = absurd (omega arith)
  two_from i (suc count) [] h less = absurd h
  two_from i (suc count) (Faulty ∷ network) (inl h) less =
      two_later i Faulty network (two_from (suc i) count network h.1 (omega (arith, faults-cons Faulty network)))
  two_from i (suc count) (Faulty ∷ network) (inr h) less =
      two_later i Faulty network (two_from (suc i) (suc count) network h (omega (arith, faults-cons Faulty network)))
  two_from i (suc count) (Honest s ∷ network) (inl h) less =
      let rest = honest_from (suc i) count network h.1 (omega (arith, faults-cons (Honest s) network)) in
      record {
        one = record { index = i; place = 0; s = s; at = refl; from = omega arith; has = h.0 };
        two = later i (Honest s) network rest;
        apart = omega (arith, rest.from);
      }
  two_from i (suc count) (Honest s ∷ network) (inr h) less =
      two_later i (Honest s) network
      (two_from (suc i) (suc count) network h (omega (arith, faults-cons (Honest s) network)))

pub few_leave_two : {K L D : Type 0} (network : List (Replica K L D)) → 2 ≤ length network
    → faults network ≤ max_faults (length network) → faults network + 2 ≤ quorum (length network)
few_leave_two network more few = omega (arith, more, few)
