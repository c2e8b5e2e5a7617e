-- Changes of a round that the work on its proposal makes.
use Rattle.std.proofs.Common.{◌≡◌, ℕ, Bool, true, false, cond, ◌||◌, Option, Some, None, is_some, unwrap_or, refl, ap, sym, ◌∙◌, inl}
use Rattle.std.specs.Prelude.{option_map, option_and_then}
use Rattle.std.specs.Ordering.{nat_cmp}
use Rattle.std.specs.FinMap as map
use Rattle.std.proofs.lemmas.Bool.{false≢true}
use Rattle.simplex_types.specs.declared.types.messages.Proposal.{Proposal}
use Rattle.simplex_round.specs.declared.round.Leader.{Leader}
use Rattle.simplex_types.specs.Proposal.{same_proposal}
use Rattle.simplex_types.specs.declared.types.messages.Context.{Context}
use Rattle.simplex_round.specs.Slot.{after_mark, after_own}
use Rattle.simplex_round.specs.Round.{RoundFacts, new_round, is_nullify, should_verify, pending_proposal, can_notarize}
use Rattle.simplex_voter.specs.Verification.{with_mark, verifying_round}
use Rattle.simplex_voter.specs.ProposalRequests.{proposal_of, proposed_round}
use Rattle.simplex_voter.specs.declared.voter.rounds.Bounds.{Bounds}
use Rattle.simplex_voter.specs.Rounds.{RoundsFacts, round_in, round_id, put_round}
use Rattle.simplex_voter.proofs.RoundChanges.{IsAlike, unchanged}
use Rattle.simplex_voter.proofs.Changed.{found_at, lent, put_shown, stays}

pub either_true : (b : Bool) → (b || true) ≡ true
either_true true = refl
either_true false = refl

module _ {K D : Type 0} where
  pub marked_alike : {h : Bounds} {v : ℕ} (r s : RoundFacts K D) → s ≡ with_mark r → IsAlike h v r s
  marked_alike {h} {v} r s is = rw is (by_test (is_nullify r.decision))
    where
      by_test : (b : Bool) → IsAlike h v r (cond b r (record r { slot = after_mark r.slot }))
      by_test true = unchanged r
      by_test false = record {
        me = refl;
        members = refl;
        round = refl;
        notarization = refl;
        leader = refl;
        explicit = inl;
        under_way = inl;
        refused = inl;
      }

  pub notarized_alike : {h : Bounds} {v : ℕ} (r s : RoundFacts K D) (b : Bool) → s ≡ record r { notarize_decided = b }
      → IsAlike h v r s
  notarized_alike r s b is = rw is (record {
    me = refl;
    members = refl;
    round = refl;
    notarization = refl;
    leader = refl;
    explicit = inl;
    under_way = inl;
    refused = inl;
  })

  pub verifying_alike : {h : Bounds} {v : ℕ} (r s : RoundFacts K D) (d : D) → s ≡ verifying_round r d → IsAlike h v r s
  verifying_alike r s d is = rw is (record {
    me = refl;
    members = refl;
    round = refl;
    notarization = refl;
    leader = refl;
    explicit = inl;
    under_way = inl;
    refused = inl;
  })

  pub notarizable_there : (x : RoundsFacts K D) (m : map.FinMap nat_cmp (RoundFacts K D)) → x.by_view ≡ map.entries m
      → (v : ℕ) → can_notarize (round_in x v) ≡ true → None ≡ map.get m v → ⊥
  notarizable_there x m shown v can none = false≢true
      (ap (λ found. can_notarize (unwrap_or found (new_round x.me x.members (round_id x v))))
      (none ∙ sym (found_at x m shown v)) ∙ can)

  -- a proposal that is returned for verification is the one that was pending
  pub given_is : (r t s : RoundFacts K D) (found : Leader K × Proposal D) (d : D) → Some found ≡ pending_proposal r
      → t ≡ cond (should_verify r) (record r { slot = record (r.slot) { verify_requested = true } }) r
      → s ≡ record t { binding = Some (found.1, d) } → s ≡ verifying_round r d
  given_is r t s found d pending first then' =
      let parts = by_test (should_verify r) r.leader r.slot.held pending in
      let asked : RoundFacts K D = record r { slot = record (r.slot) { verify_requested = true } } in
      let bind : RoundFacts K D → RoundFacts K D = λ u. record u { binding = Some (found.1, d) } in
      let bound : Option (Proposal D) → RoundFacts K D = λ h. record asked { binding = option_map (λ p. (p, d)) h } in
      then' ∙ ap bind (first ∙ ap (λ b. cond b asked r) parts.0) ∙ ap bound (sym parts.1)
    where
      by_test : (b : Bool) (leader : Option (Leader K)) (held : Option (Proposal D))
          → Some found ≡ cond b (option_and_then (λ l. option_map (λ p. (l, p)) held) leader) None
          → (b ≡ true) × (held ≡ Some found.1)
      by_test true None held is = absurd (false≢true (ap is_some (sym is)))
      by_test true (Some l) None is = absurd (false≢true (ap is_some (sym is)))
      by_test true (Some l) (Some p) is = (refl, ap Some (ap (λ o. (unwrap_or o found).1) (sym is)))
      by_test false leader held is = absurd (false≢true (ap is_some (sym is)))

  -- a round that stays as it was is put back
  pub put_back : (x : RoundsFacts K D) (m : map.FinMap nat_cmp (RoundFacts K D)) → x.by_view ≡ map.entries m
      → (v : ℕ) (r s : RoundFacts K D) → Some r ≡ map.get m v → s ≡ r
      → record x { by_view = map.entries (map.insert m v s) } ≡ x
  put_back x m shown v r s here is =
      put_shown x m shown v s ∙ ap (put_round x v) (is ∙ lent x m shown v r here)
      ∙ sym (stays x m shown v (ap is_some (sym here)))

  -- the own proposal is recorded and bound
  pub own_is : (same : D → D → Bool) (r t s : RoundFacts K D) (context : Context D K) (payload : D) (p : Proposal D)
      (now : ℕ) → p ≡ proposal_of context payload
      → t ≡ record r { slot = after_own (same_proposal same) r.slot p; proposed_at = Some now }
      → s ≡ record t { binding = Some (p, context.parent.1) } → s ≡ proposed_round same r context payload now
  own_is same r t s context payload p now is first then' =
      let own : Proposal D → RoundFacts K D =
      λ p. record r { slot = after_own (same_proposal same) r.slot p; proposed_at = Some now } in
      let bound : RoundFacts K D → Proposal D
      → RoundFacts K D = λ u p. record u { binding = Some (p, context.parent.1) } in
      then' ∙ ap (λ u. bound u p) first ∙ ap (λ p. bound (own p) p) is

  pub own_alike : {h : Bounds} {v : ℕ} (same : D → D → Bool) (r s : RoundFacts K D) (context : Context D K)
      (payload : D) (now : ℕ) → s ≡ proposed_round same r context payload now → IsAlike h v r s
  own_alike same r s context payload now is =
      rw is (record {
        me = refl;
        members = refl;
        round = refl;
        notarization = refl;
        leader = refl;
        explicit = inl;
        under_way = inl;
        refused = inl;
      })
