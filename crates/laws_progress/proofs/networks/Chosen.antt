-- The highest current view of a network's honest members, each in one state that it leads to.
use Rattle.std.proofs.Common.{◌≡◌, refl, subst, ◌⊎◌, inl, inr, ℕ, zero, suc, ◌≤◌, Bool, List, [], ◌∷◌, arith}
use Rattle.std.proofs.lemmas.Bool.{cases_lt}
use Rattle.simplex_voter.specs.Facts.{StateFacts, Elect}
use Rattle.laws_safety.specs.Continuations.{SomeHonest}
use Rattle.laws_safety.specs.Replicas.{Replica, Faulty, Honest}
use Rattle.laws_safety.specs.Executions.{Execution}
use Rattle.laws_progress.specs.NetworkStates.{RunsWith, EachRuns}

module _ {K L D : Type 0} (same : D → D → Bool) (elect : Elect L) where
  -- 0, if no member is honest; a member is there, and each is there or below
  pub record HighestCurrent (network : List (Replica K L D)) (P : ℕ → StateFacts K L D → Type 0) : Type 0 where
    pub top : ℕ
    pub has : (top ≡ 0) ⊎ SomeHonest network
        (λ i s. (x : StateFacts K L D) × RunsWith same elect s x × P i x × (x.current ≡ top))
    pub each : EachRuns same elect network (λ i x. P i x × (x.current ≤ top))

  one_faulty : (network : List (Replica K L D)) (P : ℕ → StateFacts K L D → Type 0)
      → HighestCurrent network (λ i. P (suc i)) → HighestCurrent (Faulty ∷ network) P
  one_faulty network P rest = record {
    top = rest.top;
    has = elim rest.has [ inl none ↦ inl none | inr (i, s, at, there) ↦ inr (suc i, s, at, there) ];
    each = by_replica;
  }
    where
      by_replica : EachRuns same elect (Faulty ∷ network) (λ i x. P i x × (x.current ≤ rest.top))
      by_replica zero s at = absurd (cc)
      by_replica (suc i) s at = rest.each i s at

  one_honest : (t : Execution K L D) (network : List (Replica K L D)) (P : ℕ → StateFacts K L D → Type 0)
      → (x : StateFacts K L D) → RunsWith same elect t x → P 0 x → HighestCurrent network (λ i. P (suc i))
      → HighestCurrent (Honest t ∷ network) P
  one_honest t network P x lives holds rest = elim (cases_lt rest.top x.current) [
    | inl higher ↦ record {
      top = x.current;
      has = inr (0, t, refl, (x, lives, holds, refl));
      each = by_replica x.current (omega arith) (omega (arith, higher));
    }
    | inr lower ↦ record {
      top = rest.top;
      has =
          elim rest.has [ inl none ↦ inl none | inr (i, s, at, there) ↦ inr (suc i, s, at, there) ];
      each = by_replica rest.top lower (omega arith);
    }
  ]
    where
      by_replica : (top : ℕ) → x.current ≤ top → rest.top ≤ top
          → EachRuns same elect (Honest t ∷ network) (λ i y. P i y × (y.current ≤ top))
      by_replica top first_below rest_below zero s at =
          let one : t ≡ s = cc in
          (x, subst (λ u. RunsWith same elect u x) one lives, (holds, first_below))
      by_replica top first_below rest_below (suc i) s at =
          let there = rest.each i s at in
          (there.0, there.1, (there.2.0, omega (arith, there.2.1, rest_below)))

  pub highest_current : (network : List (Replica K L D)) (P : ℕ → StateFacts K L D → Type 0)
      → EachRuns same elect network P → HighestCurrent network P
  highest_current [] P lives = record { top = 0; has = inl refl; each = λ i s at. absurd (cc) }
  highest_current (Faulty ∷ network) P lives =
      one_faulty network P (highest_current network (λ i. P (suc i)) (λ i s at. lives (suc i) s at))
  highest_current (Honest t ∷ network) P lives =
      let first = lives 0 t refl in
      one_honest t network P first.0 first.1 first.2
      (highest_current network (λ i. P (suc i)) (λ i s at. lives (suc i) s at))
