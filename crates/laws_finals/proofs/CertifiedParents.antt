-- The parent of each proposal that is finalized, or that an honest member certified, is one of these.
use Rattle.std.proofs.Common.{◌≡◌, ◌≢◌, sym, ◌∙◌, subst, ℕ, ◌+◌, ◌-◌, ◌<◌, ◌⊎◌, inl, inr, Bool, true, false, ◌==◌, ◌&&◌, List, is_some, arith}
use Rattle.std.proofs.lemmas.Bool.{true≢false, eqb-true, eq-eqb, ne_eqb, cases_Bool}
use Rattle.simplex_types.specs.Terms.{term_start}
use Rattle.simplex_types.specs.declared.types.messages.Proposal.{Proposal}
use Rattle.simplex_types.specs.declared.types.messages.Subject.TheVariants as subject
use Rattle.simplex_voter.specs.Facts.{StateFacts, Elect}
use Rattle.simplex_voter.specs.Payloads.{explicit_ancestry_payload}
use Rattle.simplex_voter.specs.Windows.{is_term_start}
use Rattle.simplex_voter.proofs.Gaps.{and_parts}
use Rattle.laws_safety.specs.Replicas.{Replica, Backed, IsNetworkOf}
use Rattle.laws_safety.proofs.agreement.Claims.{parent_before}
use Rattle.laws_safety.proofs.agreement.Quorums.{shared_member}
use Rattle.laws_progress.proofs.runs.Ends.{end_shown}
use Rattle.laws_chains.specs.Parents.{HandoffsAreWitnessed, IsCertifiedByHonest, HasCertifiedProposal}
use Rattle.laws_chains.specs.Chains.{VerdictsAreOnOffers, ParentsAreAwaited}
use Rattle.laws_chains.proofs.Setups.{state_kept, ahead_kept}
use Rattle.laws_chains.proofs.StatesAtVotes.{IsRuled}
use Rattle.laws_chains.proofs.ParentsOfVotes.{no_window}
use Rattle.laws_chains.proofs.StatesAtOffers.{Offers, state_at_offer, offered_held, offered_on}
use Rattle.laws_chains.proofs.Parents.{earlier, explicit_certified, terms_are, voted_on, votes_of, finalized_parents, notarized_starts}

module _ {K L D : Type 0} (network : List (Replica K L D)) where
  -- the proposal is finalized, or notarized and certified by an honest member
  abbrev pub IsFinalOrCertified : Proposal D → Type 0
  IsFinalOrCertified q = Backed network (subject.Finalize q)
      ⊎ (Backed network (subject.Notarize q) × IsCertifiedByHonest network q)

module _ {K L D : Type 0} (same : D → D → Bool) (decides : (d e : D) → same d e ≡ true → d ≡ e) (elect : Elect L)
    (term_length : ℕ) (network : List (Replica K L D)) (good : IsNetworkOf same elect term_length network) where
  pub earlier_parent : (q : Proposal D) → IsFinalOrCertified network q → q.parent < q.round.view
  earlier_parent q (inl finalized) = parent_before same decides elect term_length network good q (inr finalized)
  earlier_parent q (inr (has, certified)) = parent_before same decides elect term_length network good q (inl has)

  module _ (seen : HandoffsAreWitnessed network) (awaited : ParentsAreAwaited network) where
    -- of a certified proposal inside a term, whose parent a voter for it had ahead
    offered_parent : VerdictsAreOnOffers network → (q : Proposal D) → IsCertifiedByHonest network q → 0 < q.parent
        → q.round.view ≢ term_start term_length q.round.view → q.parent + 1 ≡ q.round.view
        → HasCertifiedProposal network q.parent
    offered_parent on_offers q (i, s, at, judged) some inside below =
        let cast = state_at_offer same elect q term_length i s (good.honest i s at) (on_offers i s at q judged) in
        let v = cast.holds.0 in
        let offered = offered_held same elect cast.x v q cast.holds.1 in
        let shown = end_shown same decides elect term_length i
        (earlier same decides elect term_length network good i s at (Offers same elect q) cast) cast.ran cast.x
        cast.lives in
        let placed : q.round.view ≡ v = shown.living.noted.2.placed v q offered.0 in
        let terms = terms_are same decides elect term_length network good i s at (Offers same elect q) cast in
        let within : is_term_start cast.x v ≡ false =
        subst (λ w. is_term_start cast.x w ≡ false) placed
        (ne_eqb q.round.view (term_start cast.x.terms.term_length q.round.view)
        (λ is. inside (subst (λ n. q.round.view ≡ term_start n q.round.view) terms is))) in
        let before : v - 1 ≡ q.parent = omega (arith, below, placed) in
        explicit_certified same decides elect term_length network good i s at (Offers same elect q) cast q.parent some
        (subst (λ u. is_some (explicit_ancestry_payload cast.x u) ≡ true) before
        (offered_on elect cast.x v q offered.1 within))

    certified_parent : (q : Proposal D) → Backed network (subject.Notarize q) → IsCertifiedByHonest network q
        → 0 < q.parent → q.round.view ≢ term_start term_length q.round.view → HasCertifiedProposal network q.parent
    certified_parent q has certified some inside =
        let m = shared_member network (subject.Notarize q) (subject.Notarize q) good.few_faulty has has in
        let noted = votes_of same decides elect term_length network good m.0 m.1 m.2 m.3.0 (subject.Notarize q)
        m.3.1 in
        elim (voted_on same decides elect term_length network good m.0 m.1 m.2 m.3.0 q noted some) [
          | inl found ↦ found
          | inr (below, how) ↦ elim awaited [
            | inr on_offers ↦ offered_parent on_offers q certified some inside below
            | inl none_ahead ↦ elim how [
              | inl (within, window) ↦
                  (let lives = none_ahead m.0 m.1 m.2 in
                  let votes = λ (y : StateFacts K L D). IsRuled same elect y m.3.0 (subject.Notarize q) in
                  let none = state_kept same elect (λ y. y.terms.optimistic_views ≡ 0)
                  (λ y e. ahead_kept same elect y e)
                  (earlier same decides elect term_length network good m.0 m.1 m.2 votes noted) noted.x noted.lives
                  lives.first (λ r h. lives.later r (noted.restarts_within r h)) in
                  absurd (true≢false (sym window ∙ no_window noted.x q.round.view none)))
              | inr early ↦
                  (let starts = (and_parts (is_term_start noted.x q.round.view) noted.x.elects_early
                  (and_parts (is_term_start noted.x q.round.view && noted.x.elects_early) _ early).0).0 in
                  let votes = λ (y : StateFacts K L D). IsRuled same elect y m.3.0 (subject.Notarize q) in
                  let terms = terms_are same decides elect term_length network good m.0 m.1 m.2 votes noted in
                  absurd (inside (subst (λ n. q.round.view ≡ term_start n q.round.view) terms
                  (eqb-true q.round.view (term_start noted.x.terms.term_length q.round.view) starts))))
            ]
          ]
        ]

    pub parent_certified : (q : Proposal D) → IsFinalOrCertified network q → 0 < q.parent
        → HasCertifiedProposal network q.parent
    parent_certified q (inl finalized) some =
        finalized_parents same decides elect term_length network good q finalized some (inr seen)
    parent_certified q (inr (has, certified)) some =
        elim (cases_Bool (q.round.view == term_start term_length q.round.view)) [
          | inl is ↦ notarized_starts same decides elect term_length network good q has some
              (eqb-true q.round.view (term_start term_length q.round.view) is) seen
          | inr apart ↦ certified_parent q has certified some
              (λ is. absurd (true≢false (sym (eq-eqb q.round.view (term_start term_length q.round.view) is) ∙ apart)))
        ]
