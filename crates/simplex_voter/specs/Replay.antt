-- The effects of replaying an artifact of the record. It never moves the current view.
use Rattle.std.specs.Prelude.{◌≡◌, Bool, true, false, ◌||◌, Option, Some, None, is_some, option_map, option_and_then, if◌then◌else◌}
use Rattle.std.specs.Option.{option_map_or}
use Rattle.std.specs.Ordering.{nat_cmp}
use Rattle.std.specs.BTreeSet.{insert_key}
use Rattle.simplex_types.specs.Proposal.{same_proposal}
use Rattle.simplex_types.specs.MessageViews.{artifact_view}
use Rattle.simplex_types.specs.declared.types.fault.Fault.{Fault}
use Rattle.simplex_types.specs.declared.types.messages.Proposal.{Proposal}
use Rattle.simplex_types.specs.declared.types.messages.Artifact.{Artifact}
use Rattle.simplex_types.specs.declared.types.messages.Finalization.{Finalization}
use Rattle.simplex_types.specs.declared.types.messages.Artifact.TheVariants as artifact
use Rattle.simplex_types.specs.declared.types.numbers.Round.{Round}
use Rattle.simplex_round.specs.Round.{RoundFacts, after_replay, TakesArtifact}
use Rattle.simplex_voter.specs.Facts.{StateFacts, Elect, round_at, round_of, with_round}
use Rattle.simplex_voter.specs.Refusals.{first_fault, is_too_large, names_too_large, takes_round}
use Rattle.simplex_voter.specs.Windows.{is_notarized}
use Rattle.simplex_voter.specs.Leaders.{with_next_view_ready}
use Rattle.simplex_voter.specs.Acceptance.{nullified_also}

module _ {S K G C D : Type 0} where
  -- the view that an artifact names
  abbrev pub artifact_round : Artifact S D K G C → Round
  artifact_round (artifact.Notarize vote) = vote.proposal.round
  artifact_round (artifact.Notarization n) = n.proposal.round
  artifact_round (artifact.Certification round _) = round
  artifact_round (artifact.Nullify vote) = vote.round
  artifact_round (artifact.Nullification n) = n.round
  artifact_round (artifact.Finalize vote) = vote.proposal.round
  artifact_round (artifact.Finalization f) = f.proposal.round

  -- the proposal that it names
  abbrev pub artifact_proposal : Artifact S D K G C → Option (Proposal D)
  artifact_proposal (artifact.Notarize vote) = Some vote.proposal
  artifact_proposal (artifact.Notarization n) = Some n.proposal
  artifact_proposal (artifact.Certification _ _) = None
  artifact_proposal (artifact.Nullify _) = None
  artifact_proposal (artifact.Nullification _) = None
  artifact_proposal (artifact.Finalize vote) = Some vote.proposal
  artifact_proposal (artifact.Finalization f) = Some f.proposal

  -- its view or its parent's is too large
  abbrev pub artifact_too_large : Artifact S D K G C → Bool
  artifact_too_large a = is_too_large (artifact_view a) || option_map_or names_too_large (artifact_proposal a) false

  -- the finalization in the artifact
  abbrev pub artifact_finalization : Artifact S D K G C → Option (Finalization S D K G C)
  artifact_finalization (artifact.Finalization f) = Some f
  artifact_finalization _ = None

  -- the proposal of a notarize vote
  abbrev pub voted_proposal : Artifact S D K G C → Option (Proposal D)
  voted_proposal (artifact.Notarize vote) = Some vote.proposal
  voted_proposal _ = None

-- with this binding, if there is one
abbrev pub bound_again : {K D : Type 0} → RoundFacts K D → Option (Proposal D × D) → RoundFacts K D
bound_again r binding = option_map_or (λ bound. record r { binding = Some bound }) binding r

-- the payload that a parent offers to a replayed vote: its held payload, if no certificate decides it
abbrev pub uncertified_payload : {K D : Type 0} → RoundFacts K D → Option D
uncertified_payload r = if is_notarized r then None else option_map (λ h. h.payload) r.slot.held

module _ {K L D : Type 0} where
  -- a replayed vote is bound to the payload that its parent holds
  abbrev pub restored_binding : StateFacts K L D → Proposal D → Option (Proposal D × D)
  restored_binding x p = option_map (λ d. (p, d)) (option_and_then uncertified_payload (round_at x p.parent))

  -- the sets that the rules look up
  abbrev pub replayed_sets : {S G C : Type 0} → StateFacts K L D → Artifact S D K G C → StateFacts K L D
  replayed_sets x (artifact.Nullify vote) =
      record x { nullify_votes = insert_key nat_cmp x.nullify_votes vote.round.view }
  replayed_sets x (artifact.Nullification n) = nullified_also x n.round.view
  replayed_sets x _ = x

  -- why an artifact is refused: the state has failed, or its view is too large
  abbrev pub replay_refusal : {S G C : Type 0} → StateFacts K L D → Artifact S D K G C → Option Fault
  replay_refusal x a = first_fault x.failed (artifact_too_large a) false

  -- its epoch is this one, its view is retained, and its round accepts it
  pub record TakesReplay {S G C : Type 0} (x : StateFacts K L D) (a : Artifact S D K G C) : Type 0 where
    pub kept : takes_round x (artifact_round a) ≡ true
    pub taken : TakesArtifact (round_of x (artifact_view a)) a

module _ {K L D : Type 0} (same : D → D → Bool) where
  -- the artifact's effect on its view; a vote to notarize is bound again to the payload of its parent
  abbrev pub replayed_round : {S G C : Type 0} → StateFacts K L D → Artifact S D K G C → RoundFacts K D
  replayed_round x a =
      bound_again
      (after_replay (same_proposal same) (round_of x (artifact_view a)) a)
      (option_and_then (restored_binding x) (voted_proposal a))

module _ {K L D : Type 0} (same : D → D → Bool) (elect : Elect L) where
  -- `replay`; a notarize vote prepares the next view as it did when it was cast
  abbrev pub after_replayed : {S G C : Type 0} → StateFacts K L D → Artifact S D K G C → StateFacts K L D
  after_replayed x a =
      let restored = with_round (replayed_sets x a) (artifact_view a) (replayed_round same x a) in
      if is_some (voted_proposal a) then with_next_view_ready elect restored (artifact_view a) else restored
