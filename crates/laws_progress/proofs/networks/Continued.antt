-- What a continuation and an exchange mean, by their fields alone.
use Rattle.std.proofs.Common.{◌≡◌, ap, sym, subst, ◌⊎◌, inl, inr, ℕ, zero, suc, Bool, List, length, slice_get, Some, arith}
use Rattle.simplex_types.specs.declared.types.messages.Proposal.{Proposal}
use Rattle.simplex_types.specs.declared.types.messages.Subject.TheVariants.{Finalize}
use Rattle.simplex_voter.specs.Facts.{Elect}
use Rattle.laws_safety.specs.Continuations.{ReplicasContinue, SomeHonest, HasBuilt, HonestlyBacked}
use Rattle.laws_safety.specs.Replicas.{Replica, Honest, quorum}
use Rattle.laws_safety.specs.Executions.{Execution}
use Rattle.laws_progress.specs.Continuation.{IsVotedFor, IsGiven, MembersContinue, FinalizationsAreNew, NothingIsForged, TooManyAreFaulty, ExchangesContinue, ExchangesBringWhatWas, OneExchangeIsTooFew}
use Rattle.laws_progress.specs.MessageExchanges.{IsExchange, Exchanges}
use Rattle.laws_progress.proofs.networks.Replicas.{same_length, same_faults, still_there, honest_fit, replicas_same, replicas_joined, alone_backed, trace_stays}

-- who built a proposal gave its payload, and voted for it
none_built : {K L D : Type 0} (network : List (Replica K L D)) (p : Proposal D)
    → (IsVotedFor p network → ⊥) ⊎ (IsGiven p network → ⊥) → SomeHonest network (HasBuilt p) → ⊥
none_built network p (inl unvoted) (i, s, at, built) = unvoted (i, s, at, built.1)
none_built network p (inr ungiven) (i, s, at, built) = ungiven (i, s, at, built.0)

module _ {L D : Type 0} (K : Type 0) (same : D → D → Bool) (elect : Elect L) where
  pub members_go_on : MembersContinue K same elect
  members_go_on term_length network later final good on = (
    on.runs,
    same_length network later on.continues,
    same_faults network later on.continues,
    λ i s at.
        (let there = still_there network later i s on.continues at in (
          there.0,
          there.1,
          ap (λ (t : Execution K L D). t.start) there.2.1,
          trace_stays same elect s there.0 there.2 (good.honest i s at).run,
        )),
  )

  pub finalizations_are_new : FinalizationsAreNew K same elect
  finalizations_are_new term_length network later final good on = (
    λ p above backs. (let below = on.new p backs in omega (arith, above, below)),
    λ i t at. ((on.finalized i t at).0, (on.finalized i t at).1, alone i t at),
  )
    where
      alone : (i : ℕ) (t : Execution K L D) → slice_get later i ≡ Some (Honest t)
          → HonestlyBacked later (Finalize final)
      alone i t at = elim (on.certificates i t at (Finalize final) (on.finalized i t at).1) [
        | inl (j, s, there, old) ↦
            absurd (let below = on.new final (good.backed j s (Finalize final) there old) in omega (arith, below))
        | inr backs ↦ backs
      ]

  pub nothing_is_forged : NothingIsForged K same elect
  nothing_is_forged term_length network later final on = (
    λ c unknown unmade (i, t, at, h). elim (on.certificates i t at c h)
        [ inl old ↦ unknown old | inr made ↦ unmade made ],
    λ v p unreceived unbuilt (i, t, at, h). elim (on.proposals i t at v p h)
        [ inl old ↦ unreceived old | inr built ↦ none_built later p unbuilt built ],
  )

  pub too_many_are_faulty : TooManyAreFaulty K same elect
  too_many_are_faulty term_length network later final good many i s at on =
      let there = still_there network later i s on.continues at in
      let alone = ((finalizations_are_new term_length network later final good on).1 i there.0 there.1).2 in
      let fit = honest_fit (Finalize final) 0 (quorum (length later)) later alone in
      let size = same_length network later on.continues in
      let faulty = same_faults network later on.continues in
      omega (arith, fit, size, faulty, many)

  pub exchanges_go_on : ExchangesContinue K same elect
  exchanges_go_on zero network later taken = subst (λ n. ReplicasContinue network n) (sym taken) (replicas_same network)
  exchanges_go_on (suc count) network later (between, one, rest) =
      replicas_joined network between later one.continues (exchanges_go_on count between later rest)

  one_exchange : (network later : List (Replica K L D)) → Exchanges 1 network later → IsExchange network later
  one_exchange network later (between, one, last) = subst (λ n. IsExchange network n) (sym last) one

  pub exchanges_bring_what_was : ExchangesBringWhatWas K same elect
  exchanges_bring_what_was network later taken =
      let one = one_exchange network later taken in (
        λ c unknown unmade (i, t, at, h). elim (one.certificates i t at c h)
            [ inl old ↦ unknown old | inr made ↦ unmade made ],
        λ v p unreceived unbuilt (i, t, at, h). elim (one.proposals i t at v p h)
            [ inl old ↦ unreceived old | inr built ↦ none_built network p unbuilt built ],
      )

  pub one_exchange_is_too_few : OneExchangeIsTooFew K same elect
  one_exchange_is_too_few term_length network later final good i t at taken on =
      elim ((one_exchange network later taken).certificates i t at (Finalize final) (on.finalized i t at).1) [
        | inl (j, s, there, old) ↦
            (let below = on.new final (good.backed j s (Finalize final) there old) in omega (arith, below))
        | inr made ↦ (let below = on.new final (alone_backed (Finalize final) network made) in omega (arith, below))
      ]
