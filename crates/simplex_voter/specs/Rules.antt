-- When this member may vote.
use Rattle.std.specs.Prelude.{◌≡◌, ◌<◌, ℕ, ◌+◌, ◌-◌, Bool, true, false, ◌&&◌, ◌||◌, ◌==◌, not, nat_lt, Option, Some, None, is_some, if◌then◌else◌}
use Rattle.std.specs.List.{list_any}
use Rattle.std.specs.Option.{option_map_or}
use Rattle.simplex_types.specs.Terms.{covers}
use Rattle.simplex_types.specs.declared.types.messages.Proposal.{Proposal}
use Rattle.simplex_round.specs.Round.{is_nullify, is_finalize, is_pending, is_certified, is_verified_slot, can_notarize, can_finalize}
use Rattle.simplex_round.specs.Slot.{is_unequivocated}
use Rattle.simplex_voter.specs.Facts.{StateFacts, Elect, round_of}
use Rattle.simplex_voter.specs.Windows.{is_term_start, is_admitted, in_issuance_window}
use Rattle.simplex_voter.specs.Payloads.{explicit_ancestry_payload, optimistic_ancestry_payload, is_elected_early}
use Rattle.simplex_voter.specs.Parents.{verification_matches}

module _ {K L D : Type 0} where
  -- the current view, if this member didn't vote to finalize it. Why: a vote to nullify covers the rest of the term,
  -- and each view that this member voted to finalize lies below the current one, so none of them is covered by it.
  unfoldable pub may_nullify : StateFacts K L D → ℕ → Bool
  may_nullify x v = v == x.current && not (is_finalize (round_of x v).decision)

  -- this member voted to nullify a view below in the term, and no finalization lies at or above that. Why: else its two
  -- votes could help to finalize a view and to skip it. A finalization from the nullified view on shows that no quorum
  -- skipped it.
  unfoldable pub has_conflicting_nullify : StateFacts K L D → ℕ → Bool
  has_conflicting_nullify x v =
      list_any (λ u. nat_lt u v && covers x.terms.term_length u v && nat_lt x.finalized u) x.nullify_votes

module _ {K L D : Type 0} (elect : Elect L) where
  -- this member was elected early for the term that the view starts, and voted for a proposal there
  abbrev pub was_handed_over : StateFacts K L D → ℕ → Bool
  was_handed_over x v = is_elected_early elect x v && (round_of x v).notarize_decided

  -- the view that must be certified before a proposal of this view: the one before, but at a term's start only after a
  -- handoff. Why: in its window, or after a handoff, a proposal was voted for on a parent that may still be refused; to
  -- finalize it would finalize the parent too.
  unfoldable pub required_certification_parent : StateFacts K L D → ℕ → Proposal D → Option ℕ
  required_certification_parent x v p =
      if is_term_start x v
      then (if p.parent + 1 == v && was_handed_over x v then Some p.parent else None)
      else Some (v - 1)

  -- the view that must be certified before the proposal is certified
  abbrev pub explicit_parent_ready : StateFacts K L D → ℕ → Proposal D → Bool
  explicit_parent_ready x v p =
      option_map_or (λ q. is_some (explicit_ancestry_payload x q)) (required_certification_parent x v p) true

  -- the view's held proposal, if there is one, has the parent that it requires
  abbrev pub has_required_parent : StateFacts K L D → ℕ → Bool
  has_required_parent x v = option_map_or (explicit_parent_ready x v) (round_of x v).slot.held false

  -- a vote to finalize the held proposal. Why: at or below the last finalized view it would serve nobody; of two
  -- proposals this member can't tell which one others certify; and without the notarization another proposal may still
  -- win the view.
  unfoldable pub may_finalize : StateFacts K L D → ℕ → Bool
  may_finalize x v =
      nat_lt x.finalized v && is_admitted x v && not (has_conflicting_nullify x v) && has_required_parent x v
      && can_finalize (round_of x v)

module _ {K L D : Type 0} (same : D → D → Bool) (elect : Elect L) where
  -- inside its window a view needs the view before to offer a payload. Why: a vote there depends on votes that depend
  -- on others; once one of them is refused, nothing above it may be voted for.
  abbrev pub has_ancestry : StateFacts K L D → ℕ → Bool
  has_ancestry x v = not (in_issuance_window x v) || is_some (optimistic_ancestry_payload same elect x (v - 1))

  -- a vote to notarize the held proposal. Why: one vote a view, since two quorums share a correct member, and so the
  -- view has certificates for only one proposal; and the binding, since what was verified was the proposal on that
  -- payload of its parent: on another one, which an equivocating leader may bring about, it was never verified.
  unfoldable pub may_notarize : StateFacts K L D → ℕ → Bool
  may_notarize x v = is_admitted x v && can_notarize (round_of x v) && has_ancestry x v
      && verification_matches same elect x v

-- the rules' parts

-- a notarize vote may be signed
pub record NotarizeRule {K L D : Type 0} (same : D → D → Bool) (elect : Elect L) (x : StateFacts K L D)
    (v : ℕ) : Type 0 where
  pub admitted : is_admitted x v ≡ true
  pub first_vote : (round_of x v).notarize_decided ≡ false
  pub no_nullify : is_nullify (round_of x v).decision ≡ false
  pub verified : is_verified_slot (round_of x v).slot ≡ true
  pub ancestry : in_issuance_window x v ≡ true → is_some (optimistic_ancestry_payload same elect x (v - 1)) ≡ true
  pub bound : verification_matches same elect x v ≡ true

-- a nullify vote may be signed
pub record NullifyRule {K L D : Type 0} (x : StateFacts K L D) (v : ℕ) : Type 0 where
  pub current : v ≡ x.current
  pub no_finalize : is_finalize (round_of x v).decision ≡ false

-- a finalize vote may be signed
pub record FinalizeRule {K L D : Type 0} (elect : Elect L) (x : StateFacts K L D) (v : ℕ) : Type 0 where
  pub above_finalized : x.finalized < v
  pub admitted : is_admitted x v ≡ true
  pub not_gated : has_conflicting_nullify x v ≡ false
  pub parent : has_required_parent elect x v ≡ true
  pub undecided : is_pending (round_of x v).decision ≡ true
  pub unequivocated : is_unequivocated (round_of x v).slot ≡ true
  pub notarized : is_some (round_of x v).notarization ≡ true
  pub certified : is_certified (round_of x v).certification ≡ true
