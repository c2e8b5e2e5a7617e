-- A request to build is for a view that is ready for it.
use Rattle.std.proofs.Common.{◌≡◌, ℕ, Bool, true, false, ◌&&◌, not, List, Option, Some, None, slice_get, is_some, unwrap_or, refl, ap, sym, ◌∙◌, subst}
use Rattle.std.specs.Prelude.{if◌then◌else◌, option_map, option_and_then, IfSome}
use Rattle.std.specs.List.{filter_map}
use Rattle.std.specs.Ordering.{nat_cmp}
use Rattle.std.specs.FinMap.Entries.{is_sorted}
use Rattle.std.proofs.lemmas.Bool.{false≢true}
use Rattle.simplex_view_maps.proofs.RisingEntries.{rises}
use Rattle.simplex_types.specs.declared.types.messages.Context.{Context}
use Rattle.simplex_round.specs.declared.round.Leader.{Leader}
use Rattle.simplex_round.specs.Round.{RoundFacts, new_round, should_propose}
use Rattle.simplex_voter.specs.declared.voter.propose.ProposalRequest.{ProposalRequest}
use Rattle.simplex_voter.specs.declared.voter.propose.ProposalRequest.TheVariants.{Prepare, Propose}
use Rattle.simplex_voter.specs.Facts.{StateFacts, Elect, round_of, round_number}
use Rattle.simplex_voter.specs.Windows.{is_term_start, is_admitted}
use Rattle.simplex_voter.specs.Parents.{find_parent}
use Rattle.simplex_voter.specs.ProposalRequests.{request_context, context_on, parent_certified, voted_nullify, request_on, request_in, views_ahead, propose_answer}
use Rattle.simplex_voter.proofs.Gaps.{and_parts}
use Rattle.simplex_voter.proofs.Found.{found_each, found_filtered, first_giver}

module _ {K L D : Type 0} (same : D → D → Bool) (elect : Elect L) (x : StateFacts K L D) where
  -- a request on a parent is for the view
  request_view : (v : ℕ) (r : RoundFacts K D) (parent : ℕ × D) (request : ProposalRequest D K)
      → request_on same x v r parent ≡ Some request → (request_context request).round.view ≡ v
  request_view v r parent request is = by_start (is_term_start x v && not (parent_certified same x parent)) is
    where
      led_by : (make : Context D K → ProposalRequest D K) → ((c : Context D K) → request_context (make c) ≡ c)
          → (o : Option (Leader K)) → option_map (λ l. make (context_on x v parent l)) o ≡ Some request
          → (request_context request).round.view ≡ v
      led_by make same_context None is = absurd (false≢true (ap is_some is))
      led_by make same_context (Some l) is = (let one : make (context_on x v parent l) ≡ request =
          ap (λ o. unwrap_or o request) is in subst (λ (q : ProposalRequest D K). (request_context q).round.view ≡ v)
          one (ap (λ (c : Context D K). c.round.view) (same_context (context_on x v parent l))))

      by_voted : (b : Bool) → (if b then None else option_map (λ l. Prepare (context_on x v parent l)) r.leader) ≡ Some
          request → (request_context request).round.view ≡ v
      by_voted true is = absurd (false≢true (ap is_some is))
      by_voted false is = led_by Prepare (λ c. refl) r.leader is

      by_start : (b : Bool) → (if b then (if voted_nullify x x.current then None else option_map
          (λ l. Prepare (context_on x v parent l)) r.leader) else option_map (λ l. Propose (context_on x v parent l))
          r.leader) ≡ Some request → (request_context request).round.view ≡ v
      by_start true is = by_voted (voted_nullify x x.current) is
      by_start false is = led_by Propose (λ c. refl) r.leader is

  -- a request is for a view that this member is to build in
  request_parts : (e : ℕ × RoundFacts K D) (request : ProposalRequest D K) → request_in same elect x e ≡ Some request
      → (should_propose e.1 ≡ true) × ((request_context request).round.view ≡ e.0)
  request_parts e request is = by_test (is_admitted x e.0 && should_propose e.1) refl is
    where
      on_parent : (o : Option (ℕ × D)) → option_and_then (request_on same x e.0 e.1) o ≡ Some request
          → (request_context request).round.view ≡ e.0
      on_parent None is = absurd (false≢true (ap is_some is))
      on_parent (Some parent) is = request_view e.0 e.1 parent request is

      by_test : (b : Bool) → (is_admitted x e.0 && should_propose e.1) ≡ b
          → (if b then option_and_then (request_on same x e.0 e.1) (find_parent same elect x e.0) else None) ≡ Some
          request → (should_propose e.1 ≡ true) × ((request_context request).round.view ≡ e.0)
      by_test true so is =
          ((and_parts (is_admitted x e.0) (should_propose e.1) so).1, on_parent (find_parent same elect x e.0) is)
      by_test false other is = absurd (false≢true (ap is_some is))

  pub request_ready : is_sorted nat_cmp x.rounds ≡ true → (answer : Option (ProposalRequest D K))
      → answer ≡ propose_answer same elect x → IfSome answer
      (λ request. should_propose (round_of x (request_context request).round.view) ≡ true)
  unfolding propose_answer
  request_ready ordered None is = tt
  request_ready ordered (Some request) is =
      let found = first_giver (request_in same elect x) x.rounds (views_ahead x) request
      (found_filtered x.rounds x.rounds _ (found_each x.rounds (rises x.rounds ordered))) (sym is) in
      let parts = request_parts found.0 request found.2 in
      let there : round_of x found.0.0 ≡ found.0.1 =
      ap (λ o. unwrap_or o (new_round x.me x.members (round_number x found.0.0))) found.1 in
      subst (λ v. should_propose (round_of x v) ≡ true) (sym parts.1) (ap should_propose there ∙ parts.0)

  pub answer_given : (es : List (ℕ × RoundFacts K D)) (answer : Option (ProposalRequest D K)) → es ≡ views_ahead x
      → answer ≡ slice_get (filter_map (request_in same elect x) es) 0 → answer ≡ propose_answer same elect x
  unfolding propose_answer
  answer_given es answer read is = is ∙ ap (λ ds. slice_get (filter_map (request_in same elect x) ds) 0) read
