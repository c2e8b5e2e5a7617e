-- Which view a request to build is for.
use Rattle.std.proofs.Common.{◌≡◌, refl, ap, sym, subst, ℕ, ◌≤◌, Bool, true, false, ◌&&◌, not, if◌then◌else◌, nat_le, Contains, Option, Some, None, is_some, unwrap_or}
use Rattle.std.specs.Prelude.{option_map, option_and_then}
use Rattle.std.proofs.lemmas.Bool.{false≢true, leb-true}
use Rattle.simplex_types.specs.Terms.{next_term_start}
use Rattle.simplex_types.specs.declared.types.messages.Context.{Context}
use Rattle.simplex_round.specs.declared.round.Leader.{Leader}
use Rattle.simplex_round.specs.Round.{RoundFacts, should_propose}
use Rattle.simplex_voter.specs.Facts.{StateFacts, Elect}
use Rattle.simplex_voter.specs.Windows.{is_term_start, is_admitted}
use Rattle.simplex_voter.specs.Parents.{find_parent}
use Rattle.simplex_voter.specs.declared.voter.propose.ProposalRequest.{ProposalRequest}
use Rattle.simplex_voter.specs.declared.voter.propose.ProposalRequest.TheVariants.{Prepare, Propose}
use Rattle.simplex_voter.specs.ProposalRequests.{request_context, request_on, request_in, context_on, propose_answer, views_ahead, voted_nullify, parent_certified}
use Rattle.simplex_voter.proofs.Gaps.{and_parts}
use Rattle.laws_safety.proofs.lists.Filters.{filtered_passes}
use Rattle.laws_safety.proofs.votes.Scanned.{among_through, first_through}

module _ {K L D : Type 0} (x : StateFacts K L D) where
  -- the views ahead
  pub ahead_now : (e : ℕ × RoundFacts K D) → Contains (views_ahead x) e
      → (x.current ≤ e.0) × (e.0 ≤ next_term_start x.terms.term_length x.current)
  ahead_now e h =
      let last = next_term_start x.terms.term_length x.current in
      let passes = filtered_passes (λ (f : ℕ × RoundFacts K D). nat_le x.current f.0 && nat_le f.0 last) x.rounds e h in
      let parts = and_parts (nat_le x.current e.0) (nat_le e.0 last) passes in
      (leb-true x.current e.0 parts.0, leb-true e.0 last parts.1)

  -- a request on a parent is for the view
  request_view : (same : D → D → Bool) (v : ℕ) (r : RoundFacts K D) (parent : ℕ × D) (request : ProposalRequest D K)
      → request_on same x v r parent ≡ Some request → (request_context request).round.view ≡ v
  request_view same v r parent request is = by_start (is_term_start x v && not (parent_certified same x parent)) is
    where
      led_by : (make : Context D K → ProposalRequest D K) → ((c : Context D K) → request_context (make c) ≡ c)
          → (o : Option (Leader K)) → option_map (λ l. make (context_on x v parent l)) o ≡ Some request
          → (request_context request).round.view ≡ v
      led_by make same_context None is = absurd (false≢true (ap is_some is))
      led_by make same_context (Some l) is = (let one : make (context_on x v parent l) ≡ request =
          ap (λ o. unwrap_or o request) is in subst (λ (q : ProposalRequest D K). (request_context q).round.view ≡ v)
          one (ap (λ (c : Context D K). c.round.view) (same_context (context_on x v parent l))))

      by_voted : (b : Bool) → (if b then None else option_map (λ l. Prepare (context_on x v parent l)) r.leader) ≡ Some
          request → (request_context request).round.view ≡ v
      by_voted true is = absurd (false≢true (ap is_some is))
      by_voted false is = led_by Prepare (λ c. refl) r.leader is

      by_start : (b : Bool) → (if b then (if voted_nullify x x.current then None else option_map
          (λ l. Prepare (context_on x v parent l)) r.leader) else option_map (λ l. Propose (context_on x v parent l))
          r.leader) ≡ Some request → (request_context request).round.view ≡ v
      by_start true is = by_voted (voted_nullify x x.current) is
      by_start false is = led_by Propose (λ c. refl) r.leader is

  -- a request is for a view ahead that this member leads
  pub request_parts : (same : D → D → Bool) (elect : Elect L) (e : ℕ × RoundFacts K D) (request : ProposalRequest D K)
      → request_in same elect x e ≡ Some request
      → (should_propose e.1 ≡ true) × ((request_context request).round.view ≡ e.0)
  request_parts same elect e request is = by_test (is_admitted x e.0 && should_propose e.1) refl is
    where
      on_parent : (o : Option (ℕ × D)) → option_and_then (request_on same x e.0 e.1) o ≡ Some request
          → (request_context request).round.view ≡ e.0
      on_parent None is = absurd (false≢true (ap is_some is))
      on_parent (Some parent) is = request_view same e.0 e.1 parent request is

      by_test : (b : Bool) → (is_admitted x e.0 && should_propose e.1) ≡ b
          → (if b then option_and_then (request_on same x e.0 e.1) (find_parent same elect x e.0) else None) ≡ Some
          request → (should_propose e.1 ≡ true) × ((request_context request).round.view ≡ e.0)
      by_test true so is =
          ((and_parts (is_admitted x e.0) (should_propose e.1) so).1, on_parent (find_parent same elect x e.0) is)
      by_test false other is = absurd (false≢true (ap is_some is))

  -- a request is for a view ahead
  pub requested_ahead : (same : D → D → Bool) (elect : Elect L) (request : ProposalRequest D K)
      → propose_answer same elect x ≡ Some request
      → (request_context request).round.view ≤ next_term_start x.terms.term_length x.current
  unfolding propose_answer
  requested_ahead same elect request is =
      let found = first_through (request_in same elect x) (λ e. is_some (request_in same elect x e)) (λ e. refl)
      (views_ahead x) request is in
      let e = found.0 in
      let ahead = (ahead_now e (among_through (λ e. is_some (request_in same elect x e)) (views_ahead x) e found.1)).1
      in
      subst (λ v. v ≤ next_term_start x.terms.term_length x.current)
      (sym (request_parts same elect e request found.2).1) ahead
