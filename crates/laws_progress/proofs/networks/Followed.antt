-- A network whose honest members all continue.
use Rattle.std.proofs.Common.{◌≡◌, refl, sym, subst, inl, inr, ℕ, zero, suc, ◌+◌, ◌≤◌, List, [], ◌∷◌, length, slice_get, Contains, Some, arith}
use Rattle.std.specs.Prelude.{⊤}
use Rattle.simplex_types.specs.declared.types.messages.Subject.{Subject}
use Rattle.laws_safety.specs.Continuations.{ExecutionContinues, ReplicasContinue}
use Rattle.laws_safety.specs.Traces.{TraceEvent}
use Rattle.laws_safety.specs.Replicas.{Replica, Faulty, Honest, faults, max_faults, quorum, AtLeastFrom, MayHaveSigned}
use Rattle.laws_safety.specs.Executions.{Execution, trace_of}
use Rattle.laws_safety.proofs.agreement.Quorums.{faults-cons}

pub quorum_fits : (n f : ℕ) → f ≤ max_faults n → quorum n + f ≤ n
quorum_fits n f few = omega arith

module _ {K L D : Type 0} where
  -- what all honest members have, at least this number have
  pub honest_enough : (P : ℕ → Replica K L D → Type 0) (k count : ℕ) (network : List (Replica K L D))
      → ((i j : ℕ) (s : Execution K L D) → slice_get network i ≡ Some (Honest s) → j ≡ k + i → P j (Honest s))
      → count + faults network ≤ length network → AtLeastFrom k count P network
  honest_enough P k zero network each fits = tt
  honest_enough P k (suc count) [] each fits = absurd (omega arith)
  honest_enough P k (suc count) (Faulty ∷ network) each fits =
      inr (honest_enough P (suc k) (suc count) network (λ i j s at is. each (suc i) j s at (omega arith))
      (omega (arith, faults-cons Faulty network)))
  honest_enough P k (suc count) (Honest s ∷ network) each fits =
      inl (
        each 0 k s refl (omega arith),
        honest_enough P (suc k) count network
            (λ i j t at is. each (suc i) j t at (omega arith)) (omega (arith, faults-cons (Honest s) network)),
      )

module _ {K L D : Type 0} (Q : ℕ → Execution K L D → Execution K L D → Type 0) where
  -- each replica is the same member, and each honest one continues so
  abbrev pub ReplicasFollow : ℕ → List (Replica K L D) → List (Replica K L D) → Type 0
  ReplicasFollow k [] [] = ⊤
  ReplicasFollow k (Faulty ∷ network) (Faulty ∷ later) = ReplicasFollow (suc k) network later
  ReplicasFollow k (Honest s ∷ network) (Honest t ∷ later) = Q k s t × ReplicasFollow (suc k) network later
  ReplicasFollow k _ _ = ⊥

  pub all_follow : (k : ℕ) (network : List (Replica K L D))
      → ((i j : ℕ) (s : Execution K L D) → slice_get network i ≡ Some (Honest s) → j ≡ k + i
      → (t : Execution K L D) × Q j s t) → (later : List (Replica K L D)) × ReplicasFollow k network later
  all_follow k [] each = ([], tt)
  all_follow k (Faulty ∷ network) each =
      let rest = all_follow (suc k) network (λ i j s at is. each (suc i) j s at (omega arith)) in
      (Faulty ∷ rest.0, rest.1)
  all_follow k (Honest s ∷ network) each =
      let one = each 0 k s refl (omega arith) in
      let rest = all_follow (suc k) network (λ i j t at is. each (suc i) j t at (omega arith)) in
      (Honest one.0 ∷ rest.0, (one.1, rest.1))

  pub replicas_follow : ((i : ℕ) (s t : Execution K L D) → Q i s t → ExecutionContinues s t)
      → (k : ℕ) (network later : List (Replica K L D)) → ReplicasFollow k network later → ReplicasContinue network later
  replicas_follow goes k [] [] f = tt
  replicas_follow goes k [] (p ∷ later) f = absurd f
  replicas_follow goes k (Faulty ∷ network) [] f = absurd f
  replicas_follow goes k (Faulty ∷ network) (Faulty ∷ later) f = replicas_follow goes (suc k) network later f
  replicas_follow goes k (Faulty ∷ network) (Honest t ∷ later) f = absurd f
  replicas_follow goes k (Honest s ∷ network) [] f = absurd f
  replicas_follow goes k (Honest s ∷ network) (Faulty ∷ later) f = absurd f
  replicas_follow goes k (Honest s ∷ network) (Honest t ∷ later) f =
      (goes k s t f.0, replicas_follow goes (suc k) network later f.1)

  -- as many, and as many of them faulty
  pub same_many : (k : ℕ) (network later : List (Replica K L D)) → ReplicasFollow k network later
      → (length later ≡ length network) × (faults later ≡ faults network)
  same_many k [] [] f = (refl, refl)
  same_many k [] (p ∷ later) f = absurd f
  same_many k (Faulty ∷ network) [] f = absurd f
  same_many k (Faulty ∷ network) (Faulty ∷ later) f =
      let rest = same_many (suc k) network later f in
      (omega (arith, rest.0), omega (arith, rest.1, faults-cons Faulty network, faults-cons Faulty later))
  same_many k (Faulty ∷ network) (Honest t ∷ later) f = absurd f
  same_many k (Honest s ∷ network) [] f = absurd f
  same_many k (Honest s ∷ network) (Faulty ∷ later) f = absurd f
  same_many k (Honest s ∷ network) (Honest t ∷ later) f =
      let rest = same_many (suc k) network later f.1 in
      (omega (arith, rest.0), omega (arith, rest.1, faults-cons (Honest s) network, faults-cons (Honest t) later))

  -- each honest member was there before
  pub was_there : (k : ℕ) (network later : List (Replica K L D)) → ReplicasFollow k network later
      → (i j : ℕ) (t : Execution K L D) → slice_get later i ≡ Some (Honest t) → j ≡ k + i
      → (s : Execution K L D) × (slice_get network i ≡ Some (Honest s)) × Q j s t
  was_there k [] [] f i j t at is = absurd (cc)
  was_there k [] (p ∷ later) f i j t at is = absurd f
  was_there k (Faulty ∷ network) [] f i j t at is = absurd f
  was_there k (Faulty ∷ network) (Faulty ∷ later) f zero j t at is = absurd (cc)
  was_there k (Faulty ∷ network) (Faulty ∷ later) f (suc i) j t at is =
      was_there (suc k) network later f i j t at (omega arith)
  was_there k (Faulty ∷ network) (Honest u ∷ later) f i j t at is = absurd f
  was_there k (Honest s ∷ network) [] f i j t at is = absurd f
  was_there k (Honest s ∷ network) (Faulty ∷ later) f i j t at is = absurd f
  was_there k (Honest s ∷ network) (Honest u ∷ later) f zero j t at is =
      let same : u ≡ t = cc in
      let here : j ≡ k = omega arith in
      (s, refl, subst (λ n. Q n s t) (sym here) (subst (Q k s) same f.0))
  was_there k (Honest s ∷ network) (Honest u ∷ later) f (suc i) j t at is =
      was_there (suc k) network later f.1 i j t at (omega arith)

  -- and is there still
  pub is_there : (k : ℕ) (network later : List (Replica K L D)) → ReplicasFollow k network later
      → (i j : ℕ) (s : Execution K L D) → slice_get network i ≡ Some (Honest s) → j ≡ k + i
      → (t : Execution K L D) × (slice_get later i ≡ Some (Honest t)) × Q j s t
  is_there k [] [] f i j s at is = absurd (cc)
  is_there k [] (p ∷ later) f i j s at is = absurd f
  is_there k (Faulty ∷ network) [] f i j s at is = absurd f
  is_there k (Faulty ∷ network) (Faulty ∷ later) f zero j s at is = absurd (cc)
  is_there k (Faulty ∷ network) (Faulty ∷ later) f (suc i) j s at is =
      is_there (suc k) network later f i j s at (omega arith)
  is_there k (Faulty ∷ network) (Honest u ∷ later) f i j s at is = absurd f
  is_there k (Honest r ∷ network) [] f i j s at is = absurd f
  is_there k (Honest r ∷ network) (Faulty ∷ later) f i j s at is = absurd f
  is_there k (Honest r ∷ network) (Honest u ∷ later) f zero j s at is =
      let same : r ≡ s = cc in
      let here : j ≡ k = omega arith in
      (u, refl, subst (λ n. Q n s u) (sym here) (subst (λ z. Q k z u) same f.0))
  is_there k (Honest r ∷ network) (Honest u ∷ later) f (suc i) j s at is =
      is_there (suc k) network later f.1 i j s at (omega arith)

  -- what votes made a certificate still do
  pub backed_still : ((i : ℕ) (s t : Execution K L D) (d : TraceEvent D) → Q i s t → Contains (trace_of s) d
      → Contains (trace_of t) d) → (vote : Subject D) (k count : ℕ) (network later : List (Replica K L D))
      → ReplicasFollow k network later → AtLeastFrom k count (MayHaveSigned vote) network
      → AtLeastFrom k count (MayHaveSigned vote) later
  backed_still stays vote k zero network later f h = tt
  backed_still stays vote k (suc count) [] later f h = absurd h
  backed_still stays vote k (suc count) (Faulty ∷ network) [] f h = absurd f
  backed_still stays vote k (suc count) (Faulty ∷ network) (Faulty ∷ later) f (inl h) =
      inl (tt, backed_still stays vote (suc k) count network later f h.1)
  backed_still stays vote k (suc count) (Faulty ∷ network) (Faulty ∷ later) f (inr h) =
      inr (backed_still stays vote (suc k) (suc count) network later f h)
  backed_still stays vote k (suc count) (Faulty ∷ network) (Honest t ∷ later) f h = absurd f
  backed_still stays vote k (suc count) (Honest s ∷ network) [] f h = absurd f
  backed_still stays vote k (suc count) (Honest s ∷ network) (Faulty ∷ later) f h = absurd f
  backed_still stays vote k (suc count) (Honest s ∷ network) (Honest t ∷ later) f (inl h) =
      inl (stays k s t _ f.0 h.0, backed_still stays vote (suc k) count network later f.1 h.1)
  backed_still stays vote k (suc count) (Honest s ∷ network) (Honest t ∷ later) f (inr h) =
      inr (backed_still stays vote (suc k) (suc count) network later f.1 h)

module _ {K L D : Type 0} where
  -- what follows so follows otherwise
  pub follows_so : (Q R : ℕ → Execution K L D → Execution K L D → Type 0)
      → ((i : ℕ) (s t : Execution K L D) → Q i s t → R i s t) → (k : ℕ) (a b : List (Replica K L D))
      → ReplicasFollow Q k a b → ReplicasFollow R k a b
  follows_so Q R so k [] [] f = tt
  follows_so Q R so k [] (p ∷ b) f = absurd f
  follows_so Q R so k (Faulty ∷ a) [] f = absurd f
  follows_so Q R so k (Faulty ∷ a) (Faulty ∷ b) f = follows_so Q R so (suc k) a b f
  follows_so Q R so k (Faulty ∷ a) (Honest t ∷ b) f = absurd f
  follows_so Q R so k (Honest s ∷ a) [] f = absurd f
  follows_so Q R so k (Honest s ∷ a) (Faulty ∷ b) f = absurd f
  follows_so Q R so k (Honest s ∷ a) (Honest t ∷ b) f = (so k s t f.0, follows_so Q R so (suc k) a b f.1)

  -- one step further
  pub one_further : (Q R S : ℕ → Execution K L D → Execution K L D → Type 0)
      → ((i : ℕ) (s t : Execution K L D) → Q i s t → (u : Execution K L D) × R i s u × S i t u)
      → (k : ℕ) (a b : List (Replica K L D)) → ReplicasFollow Q k a b
      → (c : List (Replica K L D)) × ReplicasFollow R k a c × ReplicasFollow S k b c
  one_further Q R S each k [] [] f = ([], tt, tt)
  one_further Q R S each k [] (p ∷ b) f = absurd f
  one_further Q R S each k (Faulty ∷ a) [] f = absurd f
  one_further Q R S each k (Faulty ∷ a) (Faulty ∷ b) f =
      let rest = one_further Q R S each (suc k) a b f in
      (Faulty ∷ rest.0, rest.1, rest.2)
  one_further Q R S each k (Faulty ∷ a) (Honest t ∷ b) f = absurd f
  one_further Q R S each k (Honest s ∷ a) [] f = absurd f
  one_further Q R S each k (Honest s ∷ a) (Faulty ∷ b) f = absurd f
  one_further Q R S each k (Honest s ∷ a) (Honest t ∷ b) f =
      let here = each k s t f.0 in
      let rest = one_further Q R S each (suc k) a b f.1 in
      (Honest here.0 ∷ rest.0, (here.1, rest.1), (here.2, rest.2))
