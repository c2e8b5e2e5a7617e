-- The views that a view may build on.
use Rattle.std.specs.Prelude.{◌≡◌, ℕ, ◌+◌, ◌-◌, Bool, true, false, ◌&&◌, ◌||◌, ◌==◌, nat_lt, nat_le, Option, Some, None, option_map, option_and_then, if◌then◌else◌}
use Rattle.std.specs.List.{filter_map, last_or}
use Rattle.std.specs.Option.{option_map_or}
use Rattle.simplex_types.specs.Proposal.{same_proposal}
use Rattle.simplex_types.specs.declared.types.messages.Proposal.{Proposal}
use Rattle.simplex_round.specs.Round.{RoundFacts}
use Rattle.simplex_voter.specs.Facts.{StateFacts, Elect, round_at}
use Rattle.simplex_voter.specs.Gaps.{is_gapless}
use Rattle.simplex_voter.specs.Windows.{is_me, is_term_start, in_issuance_window}
use Rattle.simplex_voter.specs.Payloads.{explicit_ancestry_payload, optimistic_ancestry_payload, is_handoff_parent}

-- the view with its payload, if it has one
abbrev pub at_view : {D : Type 0} → ℕ → Option D → Option (ℕ × D)
at_view v payload = option_map (λ d. (v, d)) payload

module _ {K L D : Type 0} where
  -- what can't change for the better: the parent is below, not below the last finalized view, and inside a term the
  -- view before
  unfoldable pub has_valid_parent_span : StateFacts K L D → ℕ → ℕ → Bool
  has_valid_parent_span x v p = nat_lt p v && nat_le x.finalized p && (p + 1 == v || is_term_start x v)

  -- a tracked view with its explicit payload, if it has one
  abbrev pub explicit_at : StateFacts K L D → ℕ × RoundFacts K D → Option (ℕ × D)
  explicit_at x e = at_view e.0 (explicit_ancestry_payload x e.0)

  -- the same, of the views below v
  abbrev pub explicit_below : StateFacts K L D → ℕ → ℕ × RoundFacts K D → Option (ℕ × D)
  explicit_below x v e = if nat_lt e.0 v then explicit_at x e else None

  -- the highest tracked view below with an explicit payload, else genesis
  abbrev pub highest_explicit : StateFacts K L D → ℕ → Option (ℕ × D)
  highest_explicit x v = last_or (at_view 0 x.genesis) (filter_map (explicit_below x v) x.rounds)

  -- this member leads the view
  abbrev pub leads : StateFacts K L D → RoundFacts K D → Bool
  leads x r = option_map_or (λ l. is_me x l.idx) r.leader false

-- there is a payload, and it is this one
abbrev pub is_payload : {D : Type 0} → (D → D → Bool) → Option D → D → Bool
is_payload same found d = option_map_or (λ e. same e d) found false

-- there is a parent, and it is this one
abbrev pub is_parent : {D : Type 0} → (D → D → Bool) → Option (ℕ × D) → ℕ → D → Bool
is_parent same found p d = option_map_or (λ e. e.0 == p && same e.1 d) found false

module _ {K L D : Type 0} (same : D → D → Bool) (elect : Elect L) where
  -- the kind of payload that the view may build on
  unfoldable pub ancestry_payload_for_child : StateFacts K L D → ℕ → ℕ → Option D
  ancestry_payload_for_child x v p =
      if in_issuance_window x v then optimistic_ancestry_payload same elect x p else explicit_ancestry_payload x p

  -- the payload with which the parent is allowed
  unfoldable pub parent_payload_for : StateFacts K L D → ℕ → ℕ → Option D
  parent_payload_for x v p =
      if has_valid_parent_span x v p && is_gapless x p v then ancestry_payload_for_child x v p else None

  -- the parent is allowed with this payload
  abbrev pub IsAllowedParent : StateFacts K L D → ℕ → ℕ → D → Type 0
  IsAllowedParent x v p d = parent_payload_for x v p ≡ Some d

  -- the view before, if its term may be handed over to this member and it offers a payload
  abbrev pub handoff : StateFacts K L D → ℕ → Option (ℕ × D)
  handoff x p = if is_handoff_parent elect x p then at_view p (optimistic_ancestry_payload same elect x p) else None

  -- at a term's start the highest explicit view, and the view before if a gap lies above that
  abbrev pub preferred_at_start : StateFacts K L D → ℕ → Option (ℕ × D)
  preferred_at_start x v =
      option_and_then (λ found. if is_gapless x found.0 v then Some found else handoff x (v - 1)) (highest_explicit x v)

  -- the parent, with its payload, on which this member builds
  unfoldable pub find_parent : StateFacts K L D → ℕ → Option (ℕ × D)
  find_parent x v = if is_term_start x v then preferred_at_start x v
      else at_view (v - 1) (ancestry_payload_for_child x v (v - 1))

  -- the parent is allowed, or preferred, with this payload
  unfoldable pub captured_parent_valid : StateFacts K L D → ℕ → ℕ → D → Bool
  captured_parent_valid x v p d = is_parent same (find_parent x v) p d || is_payload same (parent_payload_for x v p) d

  -- the bound proposal is held, and its parent is allowed with the bound payload, or preferred if this member leads
  abbrev pub holds_binding : StateFacts K L D → ℕ → RoundFacts K D → Proposal D × D → Bool
  holds_binding x v r bound =
      option_map_or
      (λ p. same_proposal same p bound.0
      && (is_payload same (parent_payload_for x v p.parent) bound.1
      || (leads x r && is_parent same (find_parent x v) p.parent bound.1)))
      r.slot.held
      false

  -- nothing is bound at the view, or its binding still holds
  unfoldable pub verification_matches : StateFacts K L D → ℕ → Bool
  verification_matches x v =
      option_map_or (λ r. option_map_or (holds_binding x v r) r.binding true) (round_at x v) true
