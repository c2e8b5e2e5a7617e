-- The payload that a view offers to the views that build on it.
use Rattle.std.specs.Prelude.{ℕ, zero, suc, ◌+◌, Bool, true, false, ◌&&◌, ◌||◌, ◌==◌, not, nat_lt, nat_le, Option, Some, None, option_map, option_and_then, if◌then◌else◌, length}
use Rattle.std.specs.List.{list_any}
use Rattle.std.specs.Option.{option_map_or}
use Rattle.simplex_types.specs.Terms.{term_start}
use Rattle.simplex_types.specs.declared.types.messages.Proposal.{Proposal}
use Rattle.simplex_round.specs.Round.{RoundFacts, certified_held, certificate_payload, is_judged, is_verified_slot}
use Rattle.simplex_voter.specs.Facts.{StateFacts, Elect, round_at, round_number}
use Rattle.simplex_voter.specs.Gaps.{is_covered, is_gapless}
use Rattle.simplex_voter.specs.Windows.{is_notarized, is_me, is_term_start, in_issuance_window}

-- the held payload, if the view is finalized or certified
abbrev pub certified_payload : {K D : Type 0} → RoundFacts K D → Option D
certified_payload r = option_map (λ p. p.payload) (certified_held r)

module _ {K L D : Type 0} where
  -- genesis' payload, or that of a finalized or certified view
  unfoldable pub explicit_ancestry_payload : StateFacts K L D → ℕ → Option D
  explicit_ancestry_payload x v = if v == 0 then x.genesis else option_and_then certified_payload (round_at x v)

  -- the view or one below it in its term was certified false, and no finalization overrides that
  abbrev pub has_failed_optimistic_ancestry : StateFacts K L D → ℕ → Bool
  has_failed_optimistic_ancestry x v =
      list_any
      (λ e. nat_lt x.finalized e.0 && nat_le (term_start x.terms.term_length v) e.0 && nat_le e.0 v
      && is_judged false e.1.certification)
      x.rounds

  -- this member is elected, before any certificate, for the term that the view starts
  abbrev pub is_elected_early : Elect L → StateFacts K L D → ℕ → Bool
  is_elected_early elect x v = is_term_start x v && x.elects_early && is_me x (elect x.elector (round_number x v) None)

  -- the term that the view ends may be handed over to this member
  unfoldable pub is_handoff_parent : Elect L → StateFacts K L D → ℕ → Bool
  is_handoff_parent elect x p = is_elected_early elect x (p + 1) && not (is_covered x p)

  -- this member voted for the held proposal, and it may serve before any certificate
  unfoldable pub is_voted_ancestor : Elect L → StateFacts K L D → ℕ → RoundFacts K D → Bool
  is_voted_ancestor elect x v r =
      (in_issuance_window x (v + 1) || is_handoff_parent elect x v) && is_verified_slot r.slot && r.notarize_decided

  -- a view that was voted for may build on this parent
  unfoldable pub can_chain_on : StateFacts K L D → ℕ → ℕ → Bool
  can_chain_on x v p = nat_le x.finalized p && nat_lt p v && is_gapless x p v

-- the parent's payload is the one that the view was bound to, if it was
abbrev pub is_bound_to : {D : Type 0} → (D → D → Bool) → Option (Proposal D × D) → D → Bool
is_bound_to same binding d = option_map_or (λ bound. same d bound.1) binding true

module _ {K L D : Type 0} (same : D → D → Bool) (elect : Elect L) where
  -- the payload of a proposal that was voted for, given those of the views below
  abbrev pub voted_payload : StateFacts K L D → (ℕ → Option D) → ℕ → RoundFacts K D → Proposal D → Option D
  voted_payload x below v r p =
      if can_chain_on x v p.parent
      then option_and_then (λ d. if is_bound_to same r.binding d then Some p.payload else None) (below p.parent)
      else None

  -- the payload that a view's round offers: its certificate's, unless its verdict was false, or that of a vote, given
  -- what the parent offers
  abbrev pub served_payload : StateFacts K L D → (ℕ → Option D) → ℕ → RoundFacts K D → Option D
  served_payload x below v r =
      if is_notarized r
      then (if has_failed_optimistic_ancestry x v then None else certificate_payload r)
      else (if is_voted_ancestor elect x v r then option_and_then (voted_payload x below v r) r.slot.held else None)

  -- the rule: the payload that the view offers, given what the views below it offer
  abbrev pub payload_by : StateFacts K L D → (ℕ → Option D) → ℕ → Option D
  payload_by x below v = if v == 0 then x.genesis else option_and_then (served_payload x below v) (round_at x v)

  -- within this many steps from parent to parent
  abbrev pub payload_within : StateFacts K L D → ℕ → ℕ → Option D
  payload_within x zero = λ v. None
  payload_within x (suc steps) = payload_by x (payload_within x steps)

  -- the payload that the view offers before it is certified; `payload_by` of itself, since each step leads to a lower
  -- tracked view
  unfoldable pub optimistic_ancestry_payload : StateFacts K L D → ℕ → Option D
  optimistic_ancestry_payload x v = payload_within x (suc (length x.rounds)) v
