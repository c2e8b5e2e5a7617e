-- A network that continues, and then can finalize, can finalize.
use Rattle.std.proofs.Common.{◌≡◌, refl, sym, subst, ◌⊎◌, inl, inr, ℕ, zero, suc, Bool, List, [], ◌∷◌, length, slice_get, Contains, Some}
use Rattle.simplex_types.specs.declared.types.messages.Proposal.{Proposal}
use Rattle.simplex_types.specs.declared.types.messages.Subject.{Subject}
use Rattle.simplex_types.specs.declared.types.messages.Subject.TheVariants.{Finalize}
use Rattle.simplex_voter.specs.Facts.{Elect}
use Rattle.simplex_member.specs.Runs.{IsRunFrom}
use Rattle.laws_safety.specs.Continuations.{ReplicasContinue, EachHonest, SomeHonest, HasAccepted, HasReceived, IsHonestlySigned, HonestlyBacked, ContinuesToFinalize}
use Rattle.laws_safety.specs.Traces.{TraceEvent}
use Rattle.laws_safety.specs.Replicas.{Replica, Faulty, Honest, quorum, AtLeastFrom, MayHaveSigned, IsNetworkOf}
use Rattle.laws_safety.specs.Executions.{Execution, trace_of}
use Rattle.laws_progress.proofs.networks.Replicas.{replicas_joined, same_length, trace_stays}

module _ {K L D : Type 0} (same : D → D → Bool) (elect : Elect L) where
  abbrev AllRun : List (Replica K L D) → Type 0
  AllRun network = (i : ℕ) (s : Execution K L D) → slice_get network i ≡ Some (Honest s)
      → IsRunFrom same elect s.start s.steps s.replies

  -- what is signed stays signed, by as many
  at_least_still : (P : ℕ → Replica K L D → Type 0)
      → ((k : ℕ) (s t : Execution K L D) → ((d : TraceEvent D) → Contains (trace_of s) d → Contains (trace_of t) d)
      → P k (Honest s) → P k (Honest t)) → (k count : ℕ) (a b : List (Replica K L D)) → AllRun a → ReplicasContinue a b
      → AtLeastFrom k count P a → AtLeastFrom k count P b
  at_least_still P stays k zero a b run f h = tt
  at_least_still P stays k (suc count) [] b run f h = absurd h
  at_least_still P stays k (suc count) (Faulty ∷ a) [] run f h = absurd f
  at_least_still P stays k (suc count) (Faulty ∷ a) (Faulty ∷ b) run f (inl h) =
      inl (h.0, at_least_still P stays (suc k) count a b (λ i s at. run (suc i) s at) f h.1)
  at_least_still P stays k (suc count) (Faulty ∷ a) (Faulty ∷ b) run f (inr h) =
      inr (at_least_still P stays (suc k) (suc count) a b (λ i s at. run (suc i) s at) f h)
  at_least_still P stays k (suc count) (Faulty ∷ a) (Honest t ∷ b) run f h = absurd f
  at_least_still P stays k (suc count) (Honest s ∷ a) [] run f h = absurd f
  at_least_still P stays k (suc count) (Honest s ∷ a) (Faulty ∷ b) run f h = absurd f
  at_least_still P stays k (suc count) (Honest s ∷ a) (Honest t ∷ b) run f (inl h) =
      inl (
        stays k s t (trace_stays same elect s t f.0 (run 0 s refl)) h.0,
        at_least_still P stays (suc k) count a b (λ i u at. run (suc i) u at) f.1 h.1,
      )
  at_least_still P stays k (suc count) (Honest s ∷ a) (Honest t ∷ b) run f (inr h) =
      inr (at_least_still P stays (suc k) (suc count) a b (λ i u at. run (suc i) u at) f.1 h)

  module _ (term_length : ℕ) (network mid later : List (Replica K L D)) (final : Proposal D) where
    pub joined : IsNetworkOf same elect term_length network
        → IsNetworkOf same elect term_length mid
        → ReplicasContinue network mid
        → EachHonest mid
        (λ i s. (c : Subject D) → HasAccepted c i s → SomeHonest network (HasAccepted c) ⊎ HonestlyBacked mid c)
        → EachHonest mid (λ i s. (v : ℕ) (p : Proposal D) → HasReceived v p s
        → SomeHonest network (λ j t. HasReceived v p t))
        → ContinuesToFinalize same elect term_length mid later final
        → ContinuesToFinalize same elect term_length network later final
    joined good between goes certificates proposals on = record {
      continues = replicas_joined network mid later goes on.continues;
      runs = on.runs;
      certificates = λ i t at c h.
          elim (on.certificates i t at c h) [
            | inl (j, s, there, old) ↦ elim (certificates j s there c old) [
              | inl before ↦ inl before
              | inr backs ↦ inr (subst (λ n. AtLeastFrom 0 (quorum n) (IsHonestlySigned c) later)
                  (sym (same_length mid later on.continues))
                  (at_least_still (IsHonestlySigned c) (λ k s t stays h. stays _ h) 0 (quorum (length mid)) mid later
                  (λ k u is. (between.honest k u is).run) on.continues backs))
            ]
            | inr backs ↦ inr backs
          ];
      proposals = λ i t at v p h.
          elim (on.proposals i t at v p h)
          [ inl (j, s, there, old) ↦ inl (proposals j s there v p old) | inr built ↦ inr built ];
      finalized = on.finalized;
      new = λ p backs. on.new p (subst (λ n. AtLeastFrom 0 (quorum n) (MayHaveSigned (Finalize p)) mid)
          (sym (same_length network mid goes)) (at_least_still (MayHaveSigned (Finalize p)) (λ k s t stays h. stays _ h)
          0 (quorum (length network)) network mid (λ k u is. (good.honest k u is).run) goes backs));
    }
