-- The parents and the chain of a proposal that an honest host reported as final.
use Rattle.std.proofs.Common.{◌≡◌, refl, sym, ℕ, zero, suc, ◌<◌, ◌≤◌, inl, inr, Bool, true, List, [], ◌∷◌, Option, arith}
use Rattle.std.specs.Prelude.{Contains}
use Rattle.std.proofs.lemmas.Bool.{cases_eq, cases_lt}
use Rattle.simplex_types.specs.declared.types.messages.Proposal.{Proposal}
use Rattle.simplex_types.specs.declared.types.messages.Subject.{Subject}
use Rattle.simplex_types.specs.declared.types.messages.Subject.TheVariants as subject
use Rattle.simplex_types.specs.declared.types.window.Terms.{Terms}
use Rattle.simplex_voter.specs.Facts.{Elect}
use Rattle.laws_safety.specs.Agreement.{Chain}
use Rattle.laws_safety.specs.Replicas.{Replica, Backed, IsNetworkOf}
use Rattle.laws_safety.proofs.agreement.Claims.{finalized_notarized, parent_not_below, one_proposal, chain_holds_finalized}
use Rattle.laws_safety.proofs.lists.Splits.{Contains-cons_rest}
use Rattle.laws_chains.specs.Parents.{HandoffsAreWitnessed}
use Rattle.laws_chains.specs.Chains.{ParentsAreAwaited, lowest_parent}
use Rattle.laws_chains.proofs.Offers.{offers_awaited}
use Rattle.laws_chains.proofs.Parents.{finalized_parents}
use Rattle.laws_hosts.specs.HostAgreement.{IsReportedFinal, NotarizedChain}
use Rattle.laws_hosts.specs.HostNetworks.{Host, IsHostNetwork, OfEachHostNetwork}
use Rattle.laws_finals.specs.HostMembers.{AreMembers, HaveMembers}
use Rattle.laws_finals.specs.HostChains.{FinalsAreNotarized, FinalsInsideTermsHaveParents, HasChainToGenesis, LifetimesReachGenesis, MembersReachGenesis}
use Rattle.laws_finals.proofs.CertifiedParents.{IsFinalOrCertified, earlier_parent, parent_certified}
use Rattle.laws_finals.proofs.MembersByLifetimes.{members_are, are_members, are_processes, on_offers}
use Rattle.laws_finals.proofs.MembersOfHosts.{have_members, reported}
use Rattle.laws_finals.proofs.NetworkOfMembers.{backed, is_network, chain_of, notarized}
use Rattle.laws_finals.proofs.Starts.{handoffs, none_ahead}

-- the last of a chain, and what the chain holds

module _ {K L D : Type 0} (same : D → D → Bool) (decides : (d e : D) → same d e ≡ true → d ≡ e) (elect : Elect L)
    (term_length : ℕ) (network : List (Replica K L D)) (good : IsNetworkOf same elect term_length network) where
  abbrev Last : Proposal D → List (Proposal D) → Type 0
  Last p below = (z : Proposal D) × Contains (p ∷ below) z × Backed network (subject.Notarize z)
      × (z.parent ≡ lowest_parent p below)

  last_of : (p : Proposal D) (below : List (Proposal D)) → Chain network (p ∷ below) → Last p below
  last_of p [] chain = (p, (0, omega arith, refl), chain, refl)
  last_of p (q ∷ rest) chain =
      let last = last_of q rest chain.2 in
      (last.0, Contains-cons_rest p (q ∷ rest) last.0 last.1, last.2, last.3)

  -- a chain down to genesis holds each finalized proposal that is no higher
  holds_lower : (tip : Proposal D) (below : List (Proposal D)) → Backed network (subject.Notarize tip)
      → Chain network (tip ∷ below) → lowest_parent tip below ≡ 0 → (final : Proposal D)
      → final.parent < final.round.view
      → Backed network (subject.Finalize final) → final.round.view ≤ tip.round.view → Contains (tip ∷ below) final
  holds_lower tip below has chain to_genesis final above_genesis finalized no_higher =
      elim (cases_lt final.round.view tip.round.view) [
        | inl lower ↦
            (let last = last_of tip below chain in
            chain_holds_finalized same decides elect term_length network good final tip last.0 (tip ∷ below) finalized
            chain (0, omega arith, refl) last.1 lower
            (elim (cases_lt final.round.view last.0.round.view) [
              | inl higher ↦ (let low = parent_not_below same decides elect term_length network good final last.0
                  finalized last.2 higher in absurd (omega (arith, low, last.3, to_genesis, above_genesis)))
              | inr reached ↦ reached
            ]))
        | inr level ↦ (
          0,
          omega arith,
          one_proposal same decides elect term_length network good tip final (inl has)
              (inr finalized) (omega (arith, level, no_higher)),
        )
      ]

module _ {S L D K G C : Type 0} (same : D → D → Bool) (elect : Elect L) (bytes_of : C → List ℕ)
    (is_signature : K → Subject D → G → Type 0)
    (keys_of : S → List K) (me : S → Option ℕ) (terms : L → Terms) (elects_early : L → Bool)
    (decides : (d e : D) → same d e ≡ true → d ≡ e) where
  module _ (term_length : ℕ) (hosts : List (Host S L D K G C))
      (network : IsHostNetwork same elect bytes_of is_signature keys_of me terms term_length hosts)
      (members : List (Replica K L D)) (are : AreMembers same elect term_length hosts members) where
    good : IsNetworkOf same elect term_length members
    good = is_network same elect term_length hosts members are network.few_faulty

    finalized : (p : Proposal D) → IsReportedFinal hosts p → Backed members (subject.Finalize p)
    finalized p has =
        backed same elect term_length hosts members are (subject.Finalize p)
        (reported same elect bytes_of is_signature keys_of me terms term_length hosts network p has)

    are_notarized : FinalsAreNotarized hosts
    are_notarized final has =
        notarized same elect term_length hosts members are decides network.few_faulty final (inl (finalized final has))

    inside_terms : FinalsInsideTermsHaveParents hosts term_length
    inside_terms final has some inside =
        let parent = finalized_parents same decides elect term_length members good final (finalized final has) some
        (inl inside) in (
          parent.0,
          parent.1,
          notarized same elect term_length hosts members are decides network.few_faulty parent.0 parent.2,
        )

    module _ (seen : HandoffsAreWitnessed members) (awaited : ParentsAreAwaited members) where
      abbrev LeadsDown : Proposal D → Type 0
      LeadsDown p = (below : List (Proposal D)) × NotarizedChain hosts (p ∷ below) × (lowest_parent p below ≡ 0)

      leads_down : (bound : ℕ) (p : Proposal D) → p.round.view < bound → IsFinalOrCertified members p → LeadsDown p
      leads_down zero p less found = absurd (omega (arith, less))
      leads_down (suc bound) p less found =
          let may = notarized same elect term_length hosts members are decides network.few_faulty p found in
          elim (cases_eq p.parent 0) [
            | inl genesis ↦ ([], may, genesis)
            | inr some ↦
                (let parent = parent_certified same decides elect term_length members good seen awaited p found
                (omega (arith, some)) in
                let lower = earlier_parent same decides elect term_length members good p found in
                let down = leads_down bound parent.0 (omega (arith, less, lower, parent.1)) parent.2 in
                (parent.0 ∷ down.0, (may, sym parent.1, down.1), down.2))
          ]

      reaches_genesis : (final : Proposal D) → IsReportedFinal hosts final → HasChainToGenesis hosts final
      reaches_genesis final has =
          let down = leads_down (suc final.round.view) final (omega arith) (inl (finalized final has)) in
          let notarization = finalized_notarized same decides elect term_length members good final
          (finalized final has) in
          record {
            below = down.0;
            chain = down.1;
            genesis = down.2;
            holds = λ other is no_higher. holds_lower same decides elect term_length members good final down.0
                notarization (chain_of same elect term_length hosts members are (final ∷ down.0) down.1) down.2 other
                (earlier_parent same decides elect term_length members good other (inl (finalized other is)))
                (finalized other is) no_higher;
          }

  pub each_has_members : OfEachHostNetwork same elect bytes_of is_signature keys_of me terms
      (λ term_length hosts. HaveMembers same elect term_length hosts)
  each_has_members term_length hosts network =
      have_members same elect bytes_of is_signature keys_of me terms term_length hosts network

  pub each_is_notarized : OfEachHostNetwork {C = C} same elect bytes_of is_signature keys_of me terms
      (λ term_length. FinalsAreNotarized)
  each_is_notarized term_length hosts network =
      let found = have_members same elect bytes_of is_signature keys_of me terms term_length hosts network in
      are_notarized term_length hosts network found.0 found.1

  pub each_inside_terms : OfEachHostNetwork {C = C} same elect bytes_of is_signature keys_of me terms
      (λ term_length hosts. FinalsInsideTermsHaveParents hosts term_length)
  each_inside_terms term_length hosts network =
      let found = have_members same elect bytes_of is_signature keys_of me terms term_length hosts network in
      inside_terms term_length hosts network found.0 found.1

  pub each_reaches_genesis : OfEachHostNetwork same elect bytes_of is_signature keys_of me terms
      (MembersReachGenesis same elect bytes_of keys_of me terms elects_early)
  each_reaches_genesis term_length hosts network members are lives seen (inl none) =
      reaches_genesis term_length hosts network members are
      (handoffs same elect keys_of me terms elects_early term_length hosts members are lives seen)
      (inl (none_ahead same elect keys_of me terms elects_early term_length hosts members are lives none))
  each_reaches_genesis term_length hosts network members are lives seen (inr runs) =
      reaches_genesis term_length hosts network members are
      (handoffs same elect keys_of me terms elects_early term_length hosts members are lives seen)
      (inr (offers_awaited same decides elect term_length members
      (good term_length hosts network members are) runs))

  pub each_lifetime_reaches_genesis : OfEachHostNetwork same elect bytes_of is_signature keys_of me terms
      (λ term_length. LifetimesReachGenesis same elect bytes_of keys_of me terms elects_early)
  each_lifetime_reaches_genesis term_length hosts network stop seen =
      each_reaches_genesis term_length hosts network
      (members_are same elect bytes_of is_signature keys_of me terms elects_early term_length hosts network stop)
      (are_members same elect bytes_of is_signature keys_of me terms elects_early term_length hosts network stop)
      (are_processes same elect bytes_of is_signature keys_of me terms elects_early term_length hosts network stop)
      seen
      (inr (on_offers same elect bytes_of is_signature keys_of me terms elects_early term_length hosts network stop))
