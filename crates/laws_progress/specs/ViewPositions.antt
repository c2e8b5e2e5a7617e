-- Which view a member is at, and on which parent.
use Rattle.std.specs.Prelude.{◌≡◌, ℕ, ◌≤◌, ◌<◌, true, false, Some, None, option_map}
use Rattle.simplex_types.specs.Terms.{term_start}
use Rattle.simplex_types.specs.declared.types.messages.Proposal.{Proposal}
use Rattle.simplex_round.specs.declared.round.Certification.TheVariants.{Ready}
use Rattle.simplex_round.specs.Round.{RoundFacts, is_pending}
use Rattle.simplex_round.specs.Slot.{empty_slot}
use Rattle.simplex_voter.specs.Facts.{StateFacts, round_at, is_tracked}
use Rattle.simplex_voter.specs.Gaps.{is_gapless}
use Rattle.simplex_voter.specs.Parents.{highest_explicit}
use Rattle.simplex_voter.specs.Payloads.{explicit_ancestry_payload}

-- the proposal of a view in an epoch
abbrev pub proposal_in : {D : Type 0} → ℕ → ℕ → ℕ → D → Proposal D
proposal_in epoch view parent payload =
    record { round = record { epoch = epoch; view = view }; parent = parent; payload = payload }

module _ {K L D : Type 0} where
  -- nothing was proposed, accepted or voted in the term start that the member is at, and it knows its leader
  pub record IsFreshStart (leader view : ℕ) (x : StateFacts K L D) : Type 0 where
    pub current : x.current ≡ view
    pub start : view ≡ term_start x.terms.term_length view
    pub round : RoundFacts K D
    pub tracked : round_at x view ≡ Some round
    pub leads : option_map (λ l. l.idx) round.leader ≡ Some leader
    pub no_proposal : round.slot ≡ empty_slot
    pub pending : is_pending round.decision ≡ true
    pub no_vote : round.notarize_decided ≡ false
    pub no_notarization : round.notarization ≡ None
    pub no_finalization : round.finalization ≡ None
    pub no_verdict : round.certification ≡ Ready
    pub unbound : round.binding ≡ None

  -- a proposal of the view on this parent can be verified by the member: the parent is certified or finalized, and all
  -- between is nullified
  pub record CanStandOn (parent view : ℕ) (x : StateFacts K L D) : Type 0 where
    pub below : parent < view
    pub not_passed : x.finalized ≤ parent
    pub payload : D
    pub explicit : explicit_ancestry_payload x parent ≡ Some payload
    pub gapless : is_gapless x parent view ≡ true

  -- the member builds on that parent: no higher one is explicit
  abbrev pub BuildsOn : ℕ → ℕ → StateFacts K L D → Type 0
  BuildsOn parent view x = (payload : D) × (highest_explicit x view ≡ Some (parent, payload))

  -- the member is at the view, on the parent, and knows nothing of the start
  pub record StandsBefore (parent view start : ℕ) (x : StateFacts K L D) : Type 0 where
    pub current : x.current ≡ view
    pub stands : CanStandOn parent view x
    pub untouched : is_tracked x start ≡ false
    -- none above the parent is certified or finalized
    pub highest : (v : ℕ) → parent < v → explicit_ancestry_payload x v ≡ None
