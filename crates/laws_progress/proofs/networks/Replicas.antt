-- The replicas of a network that continues.
use Rattle.std.proofs.Common.{◌≡◌, refl, ap, sym, ◌∙◌, subst, inl, inr, ℕ, zero, suc, ◌+◌, ◌≤◌, Bool, List, [], ◌∷◌, ◌++◌, append_assoc, length, map, slice_get, Contains, Some, arith}
use Rattle.std.proofs.lemmas.List.{append-nil}
use Rattle.std.proofs.lemmas.List.Elements.{Contains-append_left}
use Rattle.simplex_types.specs.declared.types.messages.Subject.{Subject}
use Rattle.simplex_voter.specs.Facts.{Elect}
use Rattle.simplex_member.specs.Calls.{ReplyFacts}
use Rattle.simplex_member.specs.Runs.{StepFacts, IsRunFrom}
use Rattle.laws_safety.specs.Continuations.{and_then, ExecutionContinues, ReplicasContinue, IsHonestlySigned, HonestlyBacked}
use Rattle.laws_safety.specs.Traces.{TraceEvent, of_floor, trace_of_steps}
use Rattle.laws_safety.specs.Replicas.{Replica, Faulty, Honest, faults, quorum, AtLeastFrom, MayHaveSigned, Backed}
use Rattle.laws_safety.specs.Executions.{new_member, Execution, trace_of}
use Rattle.laws_safety.proofs.agreement.Quorums.{AtLeastFrom-map, faults-cons}
use Rattle.laws_progress.proofs.runs.Onward.{traces_joined}

pub map_joined : {X Y : Type 0} (f : X → Y) (xs ys : List X) → map f (xs ++ ys) ≡ map f xs ++ map f ys
map_joined f [] ys = refl
map_joined f (x ∷ xs) ys = ap (λ zs. f x ∷ zs) (map_joined f xs ys)

module _ {K L D : Type 0} where
  pub execution_joined : (s t u : Execution K L D) → ExecutionContinues s t → ExecutionContinues t u
      → ExecutionContinues s u
  execution_joined s t u (more, is) (rest, then_is) =
      let steps : (s.steps ++ map (λ e. e.0) more) ++ map (λ e. e.0) rest ≡ s.steps ++ map (λ e. e.0) (more ++ rest) =
      append_assoc s.steps (map (λ e. e.0) more) (map (λ e. e.0) rest)
      ∙ ap (λ zs. s.steps ++ zs) (sym (map_joined (λ (e : StepFacts K L D × ReplyFacts K D). e.0) more rest)) in
      let replies : (s.replies ++ map (λ e. e.1) more) ++ map (λ e. e.1) rest ≡ s.replies ++ map (λ e. e.1)
      (more ++ rest) = append_assoc s.replies (map (λ e. e.1) more) (map (λ e. e.1) rest)
      ∙ ap (λ zs. s.replies ++ zs) (sym (map_joined (λ (e : StepFacts K L D × ReplyFacts K D). e.1) more rest)) in (
        more ++ rest,
        then_is ∙ (ap (λ (z : Execution K L D). and_then z rest) is
            ∙ (λ j. record s { steps = steps j; replies = replies j })),
      )

  pub replicas_joined : (a b c : List (Replica K L D)) → ReplicasContinue a b → ReplicasContinue b c
      → ReplicasContinue a c
  replicas_joined [] [] [] f g = tt
  replicas_joined [] [] (p ∷ c) f g = absurd g
  replicas_joined [] (p ∷ b) c f g = absurd f
  replicas_joined (Faulty ∷ a) [] c f g = absurd f
  replicas_joined (Faulty ∷ a) (Faulty ∷ b) [] f g = absurd g
  replicas_joined (Faulty ∷ a) (Faulty ∷ b) (Faulty ∷ c) f g = replicas_joined a b c f g
  replicas_joined (Faulty ∷ a) (Faulty ∷ b) (Honest u ∷ c) f g = absurd g
  replicas_joined (Faulty ∷ a) (Honest t ∷ b) c f g = absurd f
  replicas_joined (Honest s ∷ a) [] c f g = absurd f
  replicas_joined (Honest s ∷ a) (Faulty ∷ b) c f g = absurd f
  replicas_joined (Honest s ∷ a) (Honest t ∷ b) [] f g = absurd g
  replicas_joined (Honest s ∷ a) (Honest t ∷ b) (Faulty ∷ c) f g = absurd g
  replicas_joined (Honest s ∷ a) (Honest t ∷ b) (Honest u ∷ c) f g =
      (execution_joined s t u f.0 g.0, replicas_joined a b c f.1 g.1)

  pub same_length : (a b : List (Replica K L D)) → ReplicasContinue a b → length b ≡ length a
  same_length [] [] f = refl
  same_length [] (p ∷ b) f = absurd f
  same_length (Faulty ∷ a) [] f = absurd f
  same_length (Faulty ∷ a) (Faulty ∷ b) f = let rest = same_length a b f in omega (arith, rest)
  same_length (Faulty ∷ a) (Honest t ∷ b) f = absurd f
  same_length (Honest s ∷ a) [] f = absurd f
  same_length (Honest s ∷ a) (Faulty ∷ b) f = absurd f
  same_length (Honest s ∷ a) (Honest t ∷ b) f = let rest = same_length a b f.1 in omega (arith, rest)

  pub same_faults : (a b : List (Replica K L D)) → ReplicasContinue a b → faults b ≡ faults a
  same_faults [] [] f = refl
  same_faults [] (p ∷ b) f = absurd f
  same_faults (Faulty ∷ a) [] f = absurd f
  same_faults (Faulty ∷ a) (Faulty ∷ b) f = let rest = same_faults a b f in
      omega (arith, rest, faults-cons Faulty a, faults-cons Faulty b)
  same_faults (Faulty ∷ a) (Honest t ∷ b) f = absurd f
  same_faults (Honest s ∷ a) [] f = absurd f
  same_faults (Honest s ∷ a) (Faulty ∷ b) f = absurd f
  same_faults (Honest s ∷ a) (Honest t ∷ b) f = let rest = same_faults a b f.1 in
      omega (arith, rest, faults-cons (Honest s) a, faults-cons (Honest t) b)

  -- an honest replica still is honest, and its execution continues
  pub still_there : (a b : List (Replica K L D)) (i : ℕ) (s : Execution K L D) → ReplicasContinue a b
      → slice_get a i ≡ Some (Honest s) → (t : Execution K L D) × (slice_get b i ≡ Some (Honest t))
      × ExecutionContinues s t
  still_there [] [] i s f at = absurd (cc)
  still_there [] (p ∷ b) i s f at = absurd f
  still_there (Faulty ∷ a) [] i s f at = absurd f
  still_there (Faulty ∷ a) (Faulty ∷ b) zero s f at = absurd (cc)
  still_there (Faulty ∷ a) (Faulty ∷ b) (suc i) s f at = still_there a b i s f at
  still_there (Faulty ∷ a) (Honest t ∷ b) i s f at = absurd f
  still_there (Honest r ∷ a) [] i s f at = absurd f
  still_there (Honest r ∷ a) (Faulty ∷ b) i s f at = absurd f
  still_there (Honest r ∷ a) (Honest t ∷ b) zero s f at = let one : r ≡ s = cc in
      (t, refl, subst (λ u. ExecutionContinues u t) one f.0)
  still_there (Honest r ∷ a) (Honest t ∷ b) (suc i) s f at = still_there a b i s f.1 at

  pub honest_still : (a b : List (Replica K L D)) (i : ℕ) (s : Execution K L D) → ReplicasContinue a b
      → slice_get a i ≡ Some (Honest s) → (t : Execution K L D) × (slice_get b i ≡ Some (Honest t))
  honest_still a b i s f at = let there = still_there a b i s f at in (there.0, there.1)

  pub execution_same : (s : Execution K L D) → ExecutionContinues s s
  execution_same s = ([], λ j. record s { steps = sym (append-nil s.steps) j; replies = sym (append-nil s.replies) j })

  pub replicas_same : (network : List (Replica K L D)) → ReplicasContinue network network
  replicas_same [] = tt
  replicas_same (Faulty ∷ network) = replicas_same network
  replicas_same (Honest s ∷ network) = (execution_same s, replicas_same network)

  -- no more sign than are honest
  pub honest_fit : (vote : Subject D) (k count : ℕ) (network : List (Replica K L D))
      → AtLeastFrom k count (IsHonestlySigned vote) network → count + faults network ≤ length network
  honest_fit vote k zero [] h = omega arith
  honest_fit vote k zero (Faulty ∷ network) h = let rest = honest_fit vote (suc k) zero network tt in
      omega (arith, rest, faults-cons Faulty network)
  honest_fit vote k zero (Honest s ∷ network) h = let rest = honest_fit vote (suc k) zero network tt in
      omega (arith, rest, faults-cons (Honest s) network)
  honest_fit vote k (suc count) [] h = absurd h
  honest_fit vote k (suc count) (Faulty ∷ network) (inl h) = absurd h.0
  honest_fit vote k (suc count) (Faulty ∷ network) (inr h) = let rest = honest_fit vote (suc k) (suc count) network h in
      omega (arith, rest, faults-cons Faulty network)
  honest_fit vote k (suc count) (Honest s ∷ network) (inl h) = let rest = honest_fit vote (suc k) count network h.1 in
      omega (arith, rest, faults-cons (Honest s) network)
  honest_fit vote k (suc count) (Honest s ∷ network) (inr h) = let rest =
      honest_fit vote (suc k) (suc count) network h in omega (arith, rest, faults-cons (Honest s) network)

  -- what honest votes alone make is backed
  pub alone_backed : (vote : Subject D) (network : List (Replica K L D)) → HonestlyBacked network vote
      → Backed network vote
  alone_backed vote network h = AtLeastFrom-map (IsHonestlySigned vote) (MayHaveSigned vote) 0 (quorum (length network))
      network by_replica h
    where
      by_replica : (j : ℕ) (m : Replica K L D) → IsHonestlySigned vote j m → MayHaveSigned vote j m
      by_replica j Faulty signed = tt
      by_replica j (Honest s) signed = signed

module _ {K L D : Type 0} (same : D → D → Bool) (elect : Elect L) where
  -- what was done stays done
  pub trace_stays : (s t : Execution K L D) → ExecutionContinues s t → IsRunFrom same elect s.start s.steps s.replies
      → (d : TraceEvent D) → Contains (trace_of s) d → Contains (trace_of t) d
  unfolding IsRunFrom
  trace_stays s t (more, is) (none, end, run) d h =
      let joined = traces_joined same elect s.steps (map (λ e. e.0) more) s.replies (map (λ e. e.1) more)
      (new_member same elect s.start) end run in
      let rest = trace_of_steps (map (λ (e : StepFacts K L D × ReplyFacts K D). e.0) more)
      (map (λ (e : StepFacts K L D × ReplyFacts K D). e.1) more) in
      let whole : trace_of t ≡ trace_of s ++ rest = ap trace_of is
      ∙ (ap (λ ds. of_floor s.start.floor ++ ds) joined
      ∙ sym (append_assoc (of_floor s.start.floor) (trace_of_steps s.steps s.replies) rest)) in
      subst (λ ds. Contains ds d) (sym whole) (Contains-append_left (trace_of s) rest d h)
