-- What events say of the work on a view: what is asked for, built, verified and bound, and its certification.
use Rattle.std.specs.Prelude.{ℕ, ◌+◌, Bool, true, false, ◌&&◌, ◌||◌, ◌==◌, not, max, nat_lt, nat_le, Option, Some, None, is_some, is_none, option_map, if◌then◌else◌}
use Rattle.std.specs.Option.{option_map_or, option_or}
use Rattle.simplex_types.specs.Proposal.{same_proposal}
use Rattle.simplex_types.specs.Certificates.{ProposalFacts, NotarizeVote, Verdict}
use Rattle.simplex_types.specs.Config.{Finalized}
use Rattle.simplex_types.specs.declared.types.messages.Proposal.{Proposal}
use Rattle.simplex_round.specs.declared.round.Certification.{Certification}
use Rattle.simplex_round.specs.declared.round.Certification.TheVariants as certification
use Rattle.simplex_round.specs.Round.{is_nullify, token_of}
use Rattle.simplex_round.specs.Slot.{is_unequivocated, holds_or_empty}
use Rattle.simplex_voter.specs.Certification.{waits_for}
use Rattle.simplex_voter.specs.Facts.{StateFacts, Elect, round_of, is_tracked}
use Rattle.simplex_voter.specs.Parents.{verification_matches}
use Rattle.simplex_voter.specs.ProposalRequests.{request_context, proposal_of, proposed_answer, propose_answer, supersede_answer}
use Rattle.simplex_voter.specs.Replay.{restored_binding}
use Rattle.simplex_voter.specs.Verification.{was_scanned, standing}
use Rattle.simplex_voter.specs.declared.voter.verify.Standing.{Standing}
use Rattle.simplex_voter.specs.declared.voter.verify.Standing.TheVariants.{NothingToDo, Ready}
use Rattle.simplex_record.specs.Events.{Event, SetFloor, AddNotarization, AddFinalization, Certified, TryPropose, Proposed, Supersede, Release, TryVerify, Verified, VerificationFailed, CertifyCandidates, SetCertifyHandle, Replay}
use Rattle.laws_history.specs.OwnWork.{contradicts, first_certificate_by, hears_of, owns}
use Rattle.laws_safety.specs.ProposalStandings.{is_given_out, lacked_view}

-- the event is of this view, which is tracked
abbrev pub is_at : {K L D : Type 0} → StateFacts K L D → ℕ → ℕ → Bool
is_at x v w = v == w && is_tracked x w

module _ {K L D : Type 0} (elect : Elect L) where
  -- the view above waits for the certification of u, which is now certified or finalized, and lies above this view
  abbrev pub wakes : StateFacts K L D → ℕ → ℕ → ℕ → Bool
  wakes x finalized u v = v == u + 1 && nat_lt finalized v && waits_for elect x u (round_of x v)

  -- a finalization drops what waits at or below its view, and the first of its view wakes the one above
  abbrev pub names_by : StateFacts K L D → ℕ → ProposalFacts D → Option Bool
  names_by x v c =
      let u = c.proposal.round.view in
      if is_none (round_of x u).finalization && wakes x (max x.finalized u) u v
      then Some true
      else (if nat_lt x.finalized u && nat_le v u then Some false else None)

module _ {K L D : Type 0} (elect : Elect L) where
  -- whether the view waits for certification from then on
  abbrev pub names : ℕ → StateFacts K L D → Event K D → Option Bool
  names v x (SetFloor (Finalized c) _) = names_by elect x v c
  names v x (AddNotarization c) =
      let u = c.proposal.round.view in
      if v == u && is_none (round_of x u).notarization && nat_lt x.finalized u then Some true else None
  names v x (AddFinalization c _) = names_by elect x v c
  names v x (Certified w true _) = if is_tracked x w && wakes elect x x.finalized w v then Some true else None
  names v x CertifyCandidates = Some false
  names v x _ = None

module _ {K L D : Type 0} where
  -- a finalization ends the certifications that are under way at and below its view
  abbrev pub ends_certification : ℕ → StateFacts K L D → ℕ → Option Certification
  ends_certification v x u =
      if nat_lt x.finalized u && nat_le v u && is_some (token_of (round_of x v).certification)
      then Some certification.Aborted
      else None

module _ {K L D : Type 0} where
  -- the certification of the view from then on
  abbrev pub sets_certification : ℕ → StateFacts K L D → Event K D → Option Certification
  sets_certification v x (SetFloor (Finalized c) _) = ends_certification v x c.proposal.round.view
  sets_certification v x (AddFinalization c _) = ends_certification v x c.proposal.round.view
  sets_certification v x (Certified w success _) = if is_at x v w then Some (certification.Judged success) else None
  sets_certification v x (SetCertifyHandle w token) =
      if is_at x v w then Some (certification.Outstanding token) else None
  sets_certification v x (Replay (Verdict round success)) =
      if v == round.view then Some (certification.Judged success) else None
  sets_certification v x _ = None

-- the parent's payload that a proposal is returned with
abbrev pub bound_by : {D : Type 0} → Option (Proposal D) → Standing D → Option (Option (Proposal D × D))
bound_by held (Ready d) = Some (option_map (λ p. (p, d)) held)
bound_by held _ = None

module _ {K L D : Type 0} (same : D → D → Bool) (elect : Elect L) where
  -- the state of the view's proposal when a scan for proposals to verify reaches it
  abbrev pub standing_by_event : ℕ → StateFacts K L D → Event K D → Standing D
  standing_by_event v x TryVerify =
      if was_scanned same elect x v then standing same elect x (v, round_of x v) else NothingToDo
  standing_by_event v x _ = NothingToDo

  -- this member's own proposal is taken: nothing else is stored
  abbrev pub takes_own : ℕ → StateFacts K L D → Event K D → Bool
  takes_own v x e = option_map_or (holds_or_empty (same_proposal same) (round_of x v).slot)
      (owns same elect v x e) false

  -- a certificate settles the view against what is stored
  abbrev pub overrules : ℕ → StateFacts K L D → Event K D → Bool
  overrules v x e = contradicts same (round_of x v).slot.held (first_certificate_by v x e)

  -- the stored proposal is marked as verified
  abbrev pub marks : ℕ → StateFacts K L D → Event K D → Option Bool
  marks v x (Verified w) =
      if is_at x v w && verification_matches same elect x w && not (is_nullify (round_of x w).decision)
      then Some (is_unequivocated (round_of x w).slot)
      else None
  marks v x _ = None

  -- whether the stored proposal is verified from then on: not if another one was seen; the member's own is
  abbrev pub sets_verified : ℕ → StateFacts K L D → Event K D → Option Bool
  sets_verified v x e =
      if contradicts same (round_of x v).slot.held (option_or (first_certificate_by v x e) (hears_of v x e))
      then Some false
      else (if takes_own v x e then Some (not (round_of x v).slot.conflict) else marks v x e)

  -- whether a proposal is asked for
  abbrev pub asks_to_build : ℕ → StateFacts K L D → Event K D → Option Bool
  asks_to_build v x TryPropose =
      option_map_or (λ request. if is_at x v (request_context request).round.view then Some true else None)
      (propose_answer same elect x) None
  asks_to_build v x (Supersede context) =
      if is_at x v context.round.view && supersede_answer same elect x context then Some false else None
  asks_to_build v x (Release w) = if is_at x v w then Some false else None
  asks_to_build v x e = if overrules v x e || takes_own v x e then Some true else None

  -- a verification was asked for, or isn't needed
  abbrev pub asks_to_verify : ℕ → StateFacts K L D → Event K D → Bool
  asks_to_verify v x e = overrules v x e || takes_own v x e || is_given_out (standing_by_event v x e)

  -- the view whose certificate peers are asked for
  abbrev pub asks_for : ℕ → StateFacts K L D → Event K D → Option ℕ
  asks_for v x e = lacked_view (standing_by_event v x e)

  -- the stored proposal is bound to its parent's payload where it is built, returned or replayed, until that is no
  -- longer true
  abbrev pub binds : ℕ → StateFacts K L D → Event K D → Option (Option (Proposal D × D))
  binds v x (Proposed context payload _) =
      if v == context.round.view && proposed_answer same elect x context payload
      then Some (Some (proposal_of context payload, context.parent.1))
      else None
  binds v x (Verified w) = if is_at x v w && not (verification_matches same elect x w) then Some None else None
  binds v x (VerificationFailed w _ _) =
      if is_at x v w && not (verification_matches same elect x w) then Some None else None
  binds v x (Replay (NotarizeVote p _)) =
      if v == p.round.view then option_map (λ bound. Some bound) (restored_binding x p) else None
  binds v x e = bound_by (round_of x v).slot.held (standing_by_event v x e)
