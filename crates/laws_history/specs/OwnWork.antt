-- What a history says of a member's own work: its votes, the proposals that it stores and what it returned. Which vote
-- is decided, and which proposal is stored, depends on what the state knows when the event comes, which is what the
-- events before it made of a new state.
use Rattle.std.specs.Prelude.{ℕ, Bool, false, not, ◌&&◌, ◌||◌, ◌==◌, List, [], ◌∷◌, Option, Some, None, is_some, is_none, if◌then◌else◌}
use Rattle.std.specs.Option.{option_or, option_map_or}
use Rattle.simplex_types.specs.Proposal.{same_proposal}
use Rattle.simplex_types.specs.Certificates.{NotarizeVote, NullifyVote, FinalizeVote, Accepted, Notarized, Nullified, Finalized}
use Rattle.simplex_types.specs.Config.{Finalized as FloorFinalized}
use Rattle.simplex_types.specs.declared.types.messages.Proposal.{Proposal}
use Rattle.simplex_round.specs.Round.{is_nullify}
use Rattle.simplex_voter.specs.Facts.{StateFacts, Elect, round_of}
use Rattle.simplex_voter.specs.ProposalRequests.{proposal_of, proposed_answer}
use Rattle.simplex_voter.specs.Rules.{may_notarize, may_nullify, may_finalize}
use Rattle.simplex_record.specs.Events.{Event, after_event, SetFloor, AddNotarization, AddFinalization, ConstructNotarize, ConstructNullify, ConstructFinalize, SetProposal, Proposed, BroadcastNotarization, BroadcastNullification, BroadcastFinalization, Replay}
use Rattle.laws_history.specs.HistoryFolds.{at, or_new}

-- another proposal than the stored one
abbrev pub contradicts : {D : Type 0} → (D → D → Bool) → Option (Proposal D) → Option (Proposal D) → Bool
contradicts same held None = false
contradicts same held (Some p) = option_map_or (λ h. not (same_proposal same h p)) held false

-- what one event does at a view, by what is known before it

module _ {K L D : Type 0} where
  -- the notarization of a view is returned, or was before it was replayed
  abbrev pub returns_notarization : ℕ → StateFacts K L D → Event K D → Bool
  returns_notarization v x (BroadcastNotarization w) = v == w && is_some (round_of x w).notarization
  returns_notarization v x (Replay (Accepted (Notarized c))) = v == c.proposal.round.view
  returns_notarization v x _ = false

  -- the nullification
  abbrev pub returns_nullification : ℕ → StateFacts K L D → Event K D → Bool
  returns_nullification v x (BroadcastNullification w) = v == w && is_some (round_of x w).nullification
  returns_nullification v x (Replay (Accepted (Nullified c))) = v == c.round.view
  returns_nullification v x _ = false

  -- the finalization, which a floor returns as well
  abbrev pub returns_finalization : ℕ → StateFacts K L D → Event K D → Bool
  returns_finalization v x (BroadcastFinalization w) = v == w && is_some (round_of x w).finalization
  returns_finalization v x (SetFloor (FloorFinalized c) _) = v == c.proposal.round.view
  returns_finalization v x (Replay (Accepted (Finalized c))) = v == c.proposal.round.view
  returns_finalization v x _ = false

  -- a vote to nullify the view is decided
  abbrev pub decides_nullify : ℕ → StateFacts K L D → Event K D → Bool
  decides_nullify v x (ConstructNullify w) = v == w && may_nullify x w
  decides_nullify v x (Replay (NullifyVote round _)) = v == round.view
  decides_nullify v x _ = false

  -- and it is out, if there is a key
  abbrev pub casts_nullify : ℕ → StateFacts K L D → Event K D → Bool
  casts_nullify v x (ConstructNullify w) = may_nullify x w && is_some x.me && v == w
  casts_nullify v x (Replay (NullifyVote round _)) = v == round.view
  casts_nullify v x _ = false

  -- the proposal of a certificate that is the first of its kind
  abbrev pub first_certificate_by : ℕ → StateFacts K L D → Event K D → Option (Proposal D)
  first_certificate_by v x (AddNotarization c) =
      if v == c.proposal.round.view && is_none (round_of x c.proposal.round.view).notarization
      then Some c.proposal else None
  first_certificate_by v x (AddFinalization c _) =
      if v == c.proposal.round.view && is_none (round_of x c.proposal.round.view).finalization
      then Some c.proposal else None
  first_certificate_by v x (SetFloor (FloorFinalized c) _) =
      if v == c.proposal.round.view && is_none (round_of x c.proposal.round.view).finalization
      then Some c.proposal else None
  first_certificate_by v x _ = None

  -- a proposal that is received, unless the view is voted to nullify
  abbrev pub hears_of : ℕ → StateFacts K L D → Event K D → Option (Proposal D)
  hears_of v x (SetProposal w p) = if v == w && not (is_nullify (round_of x w).decision) then Some p else None
  hears_of v x _ = None

module _ {K L D : Type 0} (same : D → D → Bool) (elect : Elect L) where
  -- a vote to finalize the view is decided
  abbrev pub decides_finalize : ℕ → StateFacts K L D → Event K D → Bool
  decides_finalize v x (ConstructFinalize w) = v == w && may_finalize elect x w
  decides_finalize v x (Replay (FinalizeVote p _)) = v == p.round.view
  decides_finalize v x _ = false

  -- a vote to notarize it
  abbrev pub decides_notarize : ℕ → StateFacts K L D → Event K D → Bool
  decides_notarize v x (ConstructNotarize w) = v == w && may_notarize same elect x w
  decides_notarize v x (Replay (NotarizeVote p _)) = v == p.round.view
  decides_notarize v x _ = false

  -- the member's own proposal, or one that its replayed vote names
  abbrev pub owns : ℕ → StateFacts K L D → Event K D → Option (Proposal D)
  owns v x (Proposed context payload _) =
      if v == context.round.view && proposed_answer same elect x context payload
      then Some (proposal_of context payload) else None
  owns v x (Replay (NotarizeVote p _)) = at v p.round.view p
  owns v x _ = None

  -- what a list of events makes of a new state
  abbrev pub facts_after : StateFacts K L D → List (Event K D) → StateFacts K L D
  facts_after fresh [] = fresh
  facts_after fresh (e ∷ before) = after_event same elect (facts_after fresh before) e

  -- some event has done it, by what was known before it
  abbrev pub was_done : (StateFacts K L D → Event K D → Bool) → StateFacts K L D → List (Event K D) → Bool
  was_done does fresh [] = false
  was_done does fresh (e ∷ before) = does (facts_after fresh before) e || was_done does fresh before

  -- the first that an event has said, by what was known before it
  abbrev pub first_said : {A : Type 0} → (StateFacts K L D → Event K D → Option A) → StateFacts K L D
      → List (Event K D) → Option A
  first_said says fresh [] = None
  first_said says fresh (e ∷ before) = or_new (first_said says fresh before) (says (facts_after fresh before) e)

  -- the last
  abbrev pub last_said : {A : Type 0} → (StateFacts K L D → Event K D → Option A) → StateFacts K L D
      → List (Event K D) → Option A
  last_said says fresh [] = None
  last_said says fresh (e ∷ before) = option_or (says (facts_after fresh before) e) (last_said says fresh before)

  -- the proposal of the last certificate that settled the view, or else the first one that was received or is the
  -- member's own
  abbrev pub held_in : ℕ → StateFacts K L D → List (Event K D) → Option (Proposal D)
  held_in v fresh [] = None
  held_in v fresh (e ∷ before) =
      let x = facts_after fresh before in
      option_or (first_certificate_by v x e) (or_new (held_in v fresh before) (option_or (hears_of v x e) (owns v x e)))

  -- a received certificate or proposal contradicted the stored one
  abbrev pub conflict_in : ℕ → StateFacts K L D → List (Event K D) → Bool
  conflict_in v fresh [] = false
  conflict_in v fresh (e ∷ before) =
      let x = facts_after fresh before in
      contradicts same (held_in v fresh before) (option_or (first_certificate_by v x e) (hears_of v x e))
      || conflict_in v fresh before
