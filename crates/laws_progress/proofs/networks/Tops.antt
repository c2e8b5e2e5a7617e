-- The highest view of those that have a property: in a list, and over the honest members of a network.
use Rattle.std.proofs.Common.{◌≡◌, refl, ap, sym, ◌∙◌, subst, ◌⊎◌, inl, inr, ◌<◌, ℕ, zero, suc, ◌≤◌, Bool, true, false, List, [], ◌∷◌, slice_get, Contains, Some, arith, ◌+◌, ◌&&◌, nat_lt, ltb-true}
use Rattle.std.specs.Prelude.{◌==◌}
use Rattle.std.proofs.lemmas.Bool.{cases_lt, eq-eqb, eqb-true, lt-ltb, false≢true}
use Rattle.simplex_types.specs.declared.types.messages.Proposal.{Proposal}
use Rattle.simplex_types.specs.declared.types.messages.Subject.TheVariants as subject
use Rattle.simplex_types.specs.declared.types.numbers.Round.{Round}
use Rattle.simplex_voter.proofs.Gaps.{and_both, and_parts}
use Rattle.laws_safety.specs.Continuations.{SomeHonest}
use Rattle.laws_safety.specs.Traces.{TraceEvent, Accepts, Signs}
use Rattle.laws_safety.specs.Replicas.{Replica, Faulty, Honest}
use Rattle.laws_safety.specs.Executions.{Execution}
use Rattle.laws_safety.proofs.lists.Splits.{Contains-cases, Contains-cons_rest}
use Rattle.laws_progress.specs.ViewCauses.{HasFinalized, HasCertified}

-- 0, where none has it
pub record Highest (P : ℕ → Type 0) : Type 0 where
  pub top : ℕ
  pub has : (top ≡ 0) ⊎ P top
  pub most : (v : ℕ) → P v → v ≤ top

-- of either property
pub either_highest : (P Q : ℕ → Type 0) → Highest P → Highest Q → Highest (λ v. P v ⊎ Q v)
either_highest P Q p q = elim (cases_lt p.top q.top) [
  | inl higher ↦ record {
    top = q.top;
    has = elim q.has [ inl none ↦ inl none | inr h ↦ inr (inr h) ];
    most = λ v h. elim h [ inl a ↦ (let m = p.most v a in omega (arith, m, higher)) | inr b ↦ q.most v b ];
  }
  | inr lower ↦ record {
    top = p.top;
    has = elim p.has [ inl none ↦ inl none | inr h ↦ inr (inl h) ];
    most = λ v h. elim h [ inl a ↦ p.most v a | inr b ↦ (let m = q.most v b in omega (arith, m, lower)) ];
  }
]

-- by what says the same
pub same_highest : (P Q : ℕ → Type 0) → ((v : ℕ) → P v → Q v) → ((v : ℕ) → Q v → P v) → Highest P → Highest Q
same_highest P Q there back p = record {
  top = p.top;
  has = elim p.has [ inl none ↦ inl none | inr h ↦ inr (there p.top h) ];
  most = λ v h. p.most v (back v h);
}

module _ {X : Type 0} (view : X → ℕ) (good : X → Bool) where
  abbrev IsAmong : List X → ℕ → Type 0
  IsAmong xs v = (x : X) × Contains xs x × (good x ≡ true) × (view x ≡ v)

  pub in_list : (xs : List X) → Highest (IsAmong xs)
  in_list [] = record { top = 0; has = inl refl; most = λ v h. absurd (omega (arith, h.1.1)) }
  in_list (y ∷ ys) = by_test (good y) refl (in_list ys)
    where
      behind : (v : ℕ) → IsAmong ys v → IsAmong (y ∷ ys) v
      behind v (x, h, is, at) = (x, Contains-cons_rest y ys x h, is, at)

      by_test : (b : Bool) → good y ≡ b → Highest (IsAmong ys) → Highest (IsAmong (y ∷ ys))
      by_test false bad rest = record {
        top = rest.top;
        has = elim rest.has [ inl none ↦ inl none | inr h ↦ inr (behind rest.top h) ];
        most = λ v h. elim (Contains-cases y ys h.0 h.1) [
          | inl here ↦ absurd (false≢true (sym bad ∙ (ap good here ∙ h.2)))
          | inr later ↦ rest.most v (h.0, later, h.2, h.3)
        ];
      }
      by_test true is rest =
          same_highest (λ v. (view y ≡ v) ⊎ IsAmong ys v) (IsAmong (y ∷ ys)) there back
          (either_highest (λ v. view y ≡ v) (IsAmong ys)
          (record { top = view y; has = inr refl; most = λ v at. omega (arith, at) }) rest)
        where
          there : (v : ℕ) → (view y ≡ v) ⊎ IsAmong ys v → IsAmong (y ∷ ys) v
          there v (inl at) = (y, (0, omega arith, refl), is, at)
          there v (inr h) = behind v h

          back : (v : ℕ) → IsAmong (y ∷ ys) v → (view y ≡ v) ⊎ IsAmong ys v
          back v (x, h, good_one, at) = elim (Contains-cases y ys x h)
              [ inl here ↦ inl (ap view here ∙ at) | inr later ↦ inr (x, later, good_one, at) ]

-- of one epoch, and more than one below a bound

is_near : ℕ → ℕ → Round → Bool
is_near epoch bound round = (round.epoch == epoch) && nat_lt (round.view + 1) bound

near_parts : (epoch bound : ℕ) (round : Round) → is_near epoch bound round ≡ true
    → (round.epoch ≡ epoch) × (round.view + 1 < bound)
unfolding is_near
near_parts epoch bound round is =
    let parts = and_parts (round.epoch == epoch) (nat_lt (round.view + 1) bound) is in
    (eqb-true round.epoch epoch parts.0, ltb-true (round.view + 1) bound parts.1)

near_both : (epoch bound : ℕ) (round : Round) → round.epoch ≡ epoch → round.view + 1 < bound
    → is_near epoch bound round ≡ true
unfolding is_near
near_both epoch bound round in_epoch low =
    and_both _ _ (eq-eqb round.epoch epoch in_epoch) (lt-ltb (round.view + 1) bound low)

module _ {D : Type 0} (epoch bound : ℕ) where
  is_final : TraceEvent D → Bool
  is_final (Accepts (subject.Finalize p)) = is_near epoch bound p.round
  is_final _ = false

  final_view : TraceEvent D → ℕ
  final_view (Accepts (subject.Finalize p)) = p.round.view
  final_view _ = 0

  pub finalized_highest : (trace : List (TraceEvent D)) → Highest (λ v. HasFinalized epoch trace v × (v + 1 < bound))
  unfolding is_final final_view
  finalized_highest trace =
      same_highest (IsAmong final_view is_final trace) (λ v. HasFinalized epoch trace v × (v + 1 < bound))
      (λ v h. there v h.0 h.1 h.2 h.3)
      (λ v h. (
        Accepts (subject.Finalize h.0.0),
        h.0.1,
        near_both epoch bound h.0.0.round h.0.2.1 (omega (arith, h.1, h.0.2.0)),
        h.0.2.0,
      ))
      (in_list final_view is_final trace)
    where
      there : (v : ℕ) (d : TraceEvent D) → Contains trace d → is_final d ≡ true → final_view d ≡ v
          → HasFinalized epoch trace v × (v + 1 < bound)
      there v (Accepts (subject.Finalize p)) h is at =
          (let parts = near_parts epoch bound p.round is in ((p, h, (at, parts.0)), omega (arith, parts.1, at)))
      there v (Accepts (subject.Notarize p)) h is at = absurd (false≢true is)
      there v (Accepts (subject.Nullify r)) h is at = absurd (false≢true is)
      there v (Signs m vote) h is at = absurd (false≢true is)

  is_good : Bool × Proposal D → Bool
  is_good (success, p) = success && is_near epoch bound p.round

  pub certified_highest : (verdicts : List (Bool × Proposal D))
      → Highest (λ v. HasCertified epoch verdicts v × (v + 1 < bound))
  unfolding is_good
  certified_highest verdicts =
      same_highest (IsAmong (λ (e : Bool × Proposal D). e.1.round.view) is_good verdicts)
      (λ v. HasCertified epoch verdicts v × (v + 1 < bound)) (λ v h. there v h.0 h.1 h.2 h.3)
      (λ v h. ((true, h.0.0), h.0.1, near_both epoch bound h.0.0.round h.0.2.1 (omega (arith, h.1, h.0.2.0)), h.0.2.0))
      (in_list (λ (e : Bool × Proposal D). e.1.round.view) is_good verdicts)
    where
      there : (v : ℕ) (e : Bool × Proposal D) → Contains verdicts e → is_good e ≡ true → e.1.round.view ≡ v
          → HasCertified epoch verdicts v × (v + 1 < bound)
      there v (true, p) h is at =
          (let parts = near_parts epoch bound p.round is in ((p, h, (at, parts.0)), omega (arith, parts.1, at)))
      there v (false, p) h is at = absurd (false≢true is)

module _ {K L D : Type 0} where
  -- over a network, where the highest of each honest member is known
  pub over_honest : (network : List (Replica K L D)) (P : ℕ → Execution K L D → ℕ → Type 0)
      → ((i : ℕ) (s : Execution K L D) → slice_get network i ≡ Some (Honest s) → Highest (P i s))
      → Highest (λ v. SomeHonest network (λ i s. P i s v))
  over_honest [] P each = record { top = 0; has = inl refl; most = λ v h. absurd (let at = h.2 in cc) }
  over_honest (Faulty ∷ network) P each = same_highest (λ v. SomeHonest network (λ i s. P (suc i) s v))
      (λ v. SomeHonest (Faulty ∷ network) (λ i s. P i s v)) (λ v h. (suc h.0, h.1, h.2, h.3))
      (λ v h. back v h.0 h.1 h.2 h.3) (over_honest network (λ i. P (suc i)) (λ i s at. each (suc i) s at))
    where
      back : (v i : ℕ) (s : Execution K L D) → slice_get (Faulty ∷ network) i ≡ Some (Honest s) → P i s v
          → SomeHonest network (λ i s. P (suc i) s v)
      back v zero s at p = absurd (cc)
      back v (suc i) s at p = (i, s, at, p)
  over_honest (Honest t ∷ network) P each =
      same_highest (λ v. P 0 t v ⊎ SomeHonest network (λ i s. P (suc i) s v))
      (λ v. SomeHonest (Honest t ∷ network) (λ i s. P i s v)) there (λ v h. back v h.0 h.1 h.2 h.3)
      (either_highest (P 0 t) (λ v. SomeHonest network (λ i s. P (suc i) s v)) (each 0 t refl)
      (over_honest network (λ i. P (suc i)) (λ i s at. each (suc i) s at)))
    where
      there : (v : ℕ) → P 0 t v ⊎ SomeHonest network (λ i s. P (suc i) s v)
          → SomeHonest (Honest t ∷ network) (λ i s. P i s v)
      there v (inl p) = (0, t, refl, p)
      there v (inr (i, s, at, p)) = (suc i, s, at, p)

      back : (v i : ℕ) (s : Execution K L D) → slice_get (Honest t ∷ network) i ≡ Some (Honest s) → P i s v
          → P 0 t v ⊎ SomeHonest network (λ i s. P (suc i) s v)
      back v zero s at p = let one : t ≡ s = cc in inl (subst (λ u. P 0 u v) (sym one) p)
      back v (suc i) s at p = inr (i, s, at, p)
