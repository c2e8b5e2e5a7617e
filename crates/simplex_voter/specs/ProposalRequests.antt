-- When this member builds a proposal, and what it may build on.
use Rattle.std.specs.Prelude.{ℕ, Bool, true, false, ◌&&◌, ◌==◌, not, nat_le, List, Option, Some, None, is_some, option_map, option_and_then, if◌then◌else◌, filter, slice_get}
use Rattle.std.specs.List.{filter_map, list_any}
use Rattle.std.specs.Option.{option_map_or}
use Rattle.simplex_types.specs.Terms.{next_term_start}
use Rattle.simplex_types.specs.Proposal.{same_proposal}
use Rattle.simplex_types.specs.declared.types.messages.Context.{Context}
use Rattle.simplex_types.specs.declared.types.messages.Proposal.{Proposal}
use Rattle.simplex_types.specs.declared.reasons.HandoffAbandonedReason.{HandoffAbandonedReason}
use Rattle.simplex_types.specs.declared.reasons.HandoffAbandonedReason.TheVariants.{AncestryInvalidated, ParentNullify}
use Rattle.simplex_round.specs.declared.round.Leader.{Leader}
use Rattle.simplex_round.specs.Slot.{SlotFacts, after_own, holds_or_empty}
use Rattle.simplex_round.specs.Round.{RoundFacts, is_nullify, should_propose}
use Rattle.simplex_voter.specs.declared.voter.propose.ProposalRequest.{ProposalRequest}
use Rattle.simplex_voter.specs.declared.voter.propose.ProposalRequest.TheVariants.{Prepare, Propose}
use Rattle.simplex_voter.specs.Facts.{StateFacts, Elect, round_at, round_of, round_number, with_round, with_tracked}
use Rattle.simplex_voter.specs.Windows.{is_term_start, is_admitted}
use Rattle.simplex_voter.specs.Payloads.{explicit_ancestry_payload}
use Rattle.simplex_voter.specs.Parents.{is_payload, find_parent, captured_parent_valid}
use Rattle.simplex_voter.specs.ViewEntry.{at_moment}

-- the context that a request is for
abbrev pub request_context : {K D : Type 0} → ProposalRequest D K → Context D K
request_context (Prepare context) = context
request_context (Propose context) = context

-- the parent isn't certified yet, at a term's start
abbrev pub is_handoff : {K D : Type 0} → ProposalRequest D K → Bool
is_handoff (Prepare _) = true
is_handoff (Propose _) = false

-- the proposal built for a context
abbrev pub proposal_of : {K D : Type 0} → Context D K → D → Proposal D
proposal_of context payload = record { round = context.round; parent = context.parent.0; payload = payload }

-- a block was requested, or no longer
abbrev pub build_requested : {D : Type 0} → Bool → SlotFacts D → SlotFacts D
build_requested requested s = record s { build_requested = requested }

-- the own proposal is held and bound to its parent's payload, and work on the view began at this moment
abbrev pub proposed_round : {K D : Type 0} → (D → D → Bool) → RoundFacts K D → Context D K → D → ℕ → RoundFacts K D
proposed_round same r context payload now =
    record r {
      slot = after_own (same_proposal same) r.slot (proposal_of context payload);
      proposed_at = Some now;
      binding = Some (proposal_of context payload, context.parent.1);
    }

module _ {K L D : Type 0} where
  -- the tracked views from one view to another
  abbrev pub views_within : StateFacts K L D → ℕ → ℕ → List (ℕ × RoundFacts K D)
  views_within x low high = filter (λ e. nat_le low e.0 && nat_le e.0 high) x.rounds

  -- those from the current one to the next term's start
  abbrev pub views_ahead : StateFacts K L D → List (ℕ × RoundFacts K D)
  views_ahead x = views_within x x.current (next_term_start x.terms.term_length x.current)

  -- this member has a nullify vote at the view
  abbrev pub voted_nullify : StateFacts K L D → ℕ → Bool
  voted_nullify x v = list_any (λ u. u == v) x.nullify_votes

  -- the context of a view on a parent, for this leader
  abbrev pub context_on : StateFacts K L D → ℕ → ℕ × D → Leader K → Context D K
  context_on x v parent leader = record { round = round_number x v; leader = leader.key; parent = parent }

  -- a block for the view was requested, or no longer
  abbrev pub with_build : StateFacts K L D → ℕ → Bool → StateFacts K L D
  with_build x v requested =
      with_tracked x v (record (round_of x v) { slot = build_requested requested (round_of x v).slot })

  -- `release_proposal_request`
  abbrev pub after_release : StateFacts K L D → ℕ → StateFacts K L D
  after_release x v = with_build x v false

module _ {K L D : Type 0} (same : D → D → Bool) where
  -- the view is certified or finalized with exactly this payload
  abbrev pub parent_certified : StateFacts K L D → ℕ × D → Bool
  parent_certified x parent = is_payload same (explicit_ancestry_payload x parent.0) parent.1

  -- a term's start on a parent that isn't certified is only prepared, and not after this member's vote to nullify the
  -- current view
  abbrev pub request_on : StateFacts K L D → ℕ → RoundFacts K D → ℕ × D → Option (ProposalRequest D K)
  request_on x v r parent =
      if is_term_start x v && not (parent_certified x parent)
      then (if voted_nullify x x.current then None else option_map (λ l. Prepare (context_on x v parent l)) r.leader)
      else option_map (λ l. Propose (context_on x v parent l)) r.leader

module _ {K L D : Type 0} (same : D → D → Bool) (elect : Elect L) where
  -- the request to build in a view, if there is one
  abbrev pub request_in : StateFacts K L D → ℕ × RoundFacts K D → Option (ProposalRequest D K)
  request_in x e =
      if is_admitted x e.0 && should_propose e.1
      then option_and_then (request_on same x e.0 e.1) (find_parent same elect x e.0)
      else None

  -- `try_propose`: the request of the lowest view ahead that has one
  unfoldable pub propose_answer : StateFacts K L D → Option (ProposalRequest D K)
  propose_answer x = slice_get (filter_map (request_in x) (views_ahead x)) 0

  -- after a request: its block was requested
  abbrev pub after_try_propose : StateFacts K L D → StateFacts K L D
  after_try_propose x =
      option_map_or (λ request. with_build x (request_context request).round.view true) (propose_answer x) x

  -- the parent that a context captured may still be built on
  abbrev pub context_stands : StateFacts K L D → Context D K → Bool
  context_stands x context = captured_parent_valid same elect x context.round.view context.parent.0 context.parent.1

  -- `proposed`: whether the built proposal is recorded
  unfoldable pub proposed_answer : StateFacts K L D → Context D K → D → Bool
  proposed_answer x context payload =
      context_stands x context
      && option_map_or
      (λ r. not (is_nullify r.decision) && holds_or_empty (same_proposal same) r.slot (proposal_of context payload))
      (round_at x context.round.view)
      false

  -- after a block is built: it is the view's proposal if it is recorded, and the moment is recorded
  abbrev pub after_proposed : StateFacts K L D → Context D K → D → ℕ → StateFacts K L D
  after_proposed x context payload now =
      if proposed_answer x context payload
      then with_round (at_moment x now) context.round.view
      (proposed_round same (round_of x context.round.view) context payload now)
      else at_moment x now

  -- `supersede_proposal_request`: another parent can be built on, and the captured one no longer
  abbrev pub supersede_answer : StateFacts K L D → Context D K → Bool
  supersede_answer x context =
      is_some (find_parent same elect x context.round.view) && not (context_stands x context)

  -- a request that is superseded is released
  abbrev pub after_supersede : StateFacts K L D → Context D K → StateFacts K L D
  after_supersede x context = if supersede_answer x context then after_release x context.round.view else x

  -- `pending_handoff_abandonment`: why a handoff that is being built must be abandoned, unless it may continue
  abbrev pub abandonment_answer : StateFacts K L D → Context D K → Option HandoffAbandonedReason
  abandonment_answer x context =
      if parent_certified same x context.parent
      then None
      else (if voted_nullify x x.current
      then Some ParentNullify
      else (if context_stands x context then None else Some AncestryInvalidated))
