-- For the laws by steps: the invariants of each event, and those of a run by them.
-- The primitive changes of a state's facts, of which each event makes some, one after another.
use Rattle.std.proofs.Common.{◌≡◌, ℕ, ◌+◌, ◌<◌, ◌≤◌, ◌⊎◌, Bool, true, false, ◌||◌, not, if◌then◌else◌, nat_le, nat_lt, [], Option, Some, None, is_some}
use Rattle.std.specs.Prelude.{map, filter}
use Rattle.std.specs.Ordering.{nat_cmp}
use Rattle.std.specs.BTreeSet.{insert_key}
use Rattle.simplex_types.specs.Proposal.{same_proposal}
use Rattle.simplex_types.specs.Certificates.{ProposalFacts, NullificationFacts, NotarizeVote, NullifyVote, FinalizeVote, Verdict}
use Rattle.simplex_types.specs.Config.{Finalized as FinalizedFloor}
use Rattle.simplex_types.specs.declared.types.messages.Context.{Context}
use Rattle.simplex_types.specs.declared.types.messages.Proposal.{Proposal}
use Rattle.simplex_types.specs.declared.reasons.TimeoutReason.{TimeoutReason}
use Rattle.simplex_round.specs.declared.round.Leader.{Leader}
use Rattle.simplex_round.specs.declared.round.Decision.{Decision}
use Rattle.simplex_round.specs.declared.round.Decision.TheVariants as decision
use Rattle.simplex_round.specs.declared.round.Certification.TheVariants as certification
use Rattle.simplex_round.specs.Slot.{after_own, after_vote, after_mark}
use Rattle.simplex_round.specs.Round.{RoundFacts, is_nullify, is_finalize, is_judged, token_of, after_abort, certified_round, with_latch, with_recovered, awaits_retry}
use Rattle.simplex_voter.specs.Facts.{StateFacts, Elect, round_of, is_tracked, with_round}
use Rattle.simplex_voter.specs.ViewEntry.{at_moment, entered_round}
use Rattle.simplex_voter.specs.Certification.{without_token}
use Rattle.simplex_voter.specs.Acceptance.{nullified_also}
use Rattle.simplex_voter.specs.Parents.{verification_matches}
use Rattle.simplex_voter.specs.Rules.{may_notarize}
use Rattle.simplex_voter.specs.ProposalRequests.{build_requested, proposed_round, proposed_answer}
use Rattle.simplex_voter.specs.Verification.{standing, verifying_round, with_request, scan_left}
use Rattle.simplex_voter.specs.declared.voter.verify.Standing.TheVariants.{Ready}
use Rattle.simplex_voter.specs.StateAnswers.{after_prune}
use Rattle.simplex_voter.specs.Replay.{restored_binding}
use Rattle.simplex_record.specs.Events.{Event, IsEvent, SetFloor, AddNotarization, AddNullification, AddFinalization, Certified, ConstructNotarize, ConstructNullify, ConstructFinalize, SetProposal, Proposed, TryVerify, Verified, VerificationFailed, SetCertifyHandle, NextTimeout, Replay}
use Rattle.simplex_record.specs.Events.{covers_from, finalized_by_event, is_prune}

-- the data of an event

module _ {K D : Type 0} where
  abbrev pub notarization_by : Event K D → Option (ProposalFacts D)
  notarization_by (AddNotarization c) = Some c
  notarization_by _ = None

  abbrev pub nullification_by : Event K D → Option NullificationFacts
  nullification_by (AddNullification c _) = Some c
  nullification_by _ = None

  abbrev pub finalization_by : Event K D → Option (ProposalFacts D)
  finalization_by (AddFinalization c _) = Some c
  finalization_by (SetFloor (FinalizedFloor c) _) = Some c
  finalization_by _ = None

  abbrev pub verdict_by : Event K D → Option (ℕ × Bool)
  verdict_by (Certified v success _) = Some (v, success)
  verdict_by (Replay (Verdict round success)) = Some (round.view, success)
  verdict_by _ = None

  -- a proposal that is received, with its view, and one that was voted for before
  abbrev pub proposal_by : Event K D → Option (ℕ × Proposal D)
  proposal_by (SetProposal v p) = Some (v, p)
  proposal_by _ = None

  abbrev pub note_by : Event K D → Option (Proposal D)
  note_by (Replay (NotarizeVote p _)) = Some p
  note_by _ = None

  -- the view whose vote is decided, now or before it is replayed
  abbrev pub nullify_by : Event K D → Option ℕ
  nullify_by (ConstructNullify v) = Some v
  nullify_by (Replay (NullifyVote round _)) = Some round.view
  nullify_by _ = None

  abbrev pub finalize_by : Event K D → Option ℕ
  finalize_by (ConstructFinalize v) = Some v
  finalize_by (Replay (FinalizeVote p _)) = Some p.round.view
  finalize_by _ = None

  -- a verification ends
  abbrev pub is_answer : Event K D → Bool
  is_answer (Verified _) = true
  is_answer (VerificationFailed _ _ _) = true
  is_answer _ = false

-- the event brings no certificate, verdict or vote but one to notarize, replays nothing and drops nothing
pub record IsSilent {K D : Type 0} (e : Event K D) : Type 0 where
  pub notarization : notarization_by e ≡ None
  pub nullification : nullification_by e ≡ None
  pub finalization : finalization_by e ≡ None
  pub verdict : verdict_by e ≡ None
  pub note : note_by e ≡ None
  pub nullify : nullify_by e ≡ None
  pub finalize : finalize_by e ≡ None
  pub final : finalized_by_event e ≡ 0
  pub prune : is_prune e ≡ false

-- a view with this decision times out, unless it is certified or to be finalized: it was entered, so its deadlines are
-- set
abbrev pub is_timed : Decision → Bool
is_timed (decision.Pending leader certified latch) = is_some certified
is_timed (decision.Nullify retry) = true
is_timed decision.Finalize = true

module _ {K L D : Type 0} (same : D → D → Bool) (elect : Elect L) (begun : StateFacts K L D) (e : Event K D) where
  -- a change of one round, by an event at the facts `begun`; x are the facts just before
  pub data RoundStep (x : StateFacts K L D) (v : ℕ) (r : RoundFacts K D) : RoundFacts K D → Type 0 where
    -- the view comes to be tracked
    Kept : RoundStep x v r r
    Led : (leader : Option (Leader K)) → is_some r.leader ≡ false → RoundStep x v r (record r { leader = leader })
    Entered : (now : ℕ) → RoundStep x v r (entered_round x r now)
    Latched : (now : ℕ) (reason : TimeoutReason) → RoundStep x v r (with_latch r now reason)
    -- certificates and verdicts
    Notarized : (c : ProposalFacts D) → notarization_by e ≡ Some c → c.proposal.round.view ≡ v
        → is_some r.notarization ≡ false → RoundStep x v r
        (record (with_recovered (same_proposal same) r c.proposal) { notarization = Some c })
    Nullified : (c : NullificationFacts) → nullification_by e ≡ Some c → c.round.view ≡ v
        → is_some r.nullification ≡ false → RoundStep x v r (record r { nullification = Some c })
    Finalized : (c : ProposalFacts D) → finalization_by e ≡ Some c → c.proposal.round.view ≡ v
        → is_some r.finalization ≡ false → RoundStep x v r
        (record (with_recovered (same_proposal same) r c.proposal) { finalization = Some c })
    Judged : (success : Bool) → verdict_by e ≡ Some (v, success)
        → (IsEvent begun e → is_judged (not success) r.certification ≡ false)
        → RoundStep x v r (certified_round r success)
    Certifying : (token : ℕ) → e ≡ SetCertifyHandle v token
        → (IsEvent begun e → (success : Bool) → is_judged success r.certification ≡ false)
        → RoundStep x v r (record r { certification = certification.Outstanding token })
    Ended : is_some (token_of r.certification) ≡ true
        → RoundStep x v r (record r { certification = after_abort r.certification })
    -- what is returned for broadcast, or was before it is replayed
    HandedNotarization : RoundStep x v r
        (record r { notarization_broadcast = r.notarization_broadcast || is_some r.notarization })
    HandedNullification : RoundStep x v r
        (record r { nullification_broadcast = r.nullification_broadcast || is_some r.nullification })
    HandedFinalization : RoundStep x v r
        (record r { finalization_broadcast = r.finalization_broadcast || is_some r.finalization })
    SentNotarization : RoundStep x v r (record r { notarization_broadcast = true })
    SentNullification : RoundStep x v r (record r { nullification_broadcast = true })
    SentFinalization : RoundStep x v r (record r { finalization_broadcast = true })
    -- votes
    NullifyDecided : nullify_by e ≡ Some v → (IsEvent begun e → is_finalize r.decision ≡ false)
        → RoundStep x v r (record r { decision = decision.Nullify None })
    FinalizeDecided : finalize_by e ≡ Some v → (IsEvent begun e → is_nullify r.decision ≡ false)
        → RoundStep x v r (record r { decision = decision.Finalize })
    NotarizeDecided : e ≡ ConstructNotarize v → may_notarize same elect begun v ≡ true
        → RoundStep x v r (record r { notarize_decided = true })
    VotedAgain : (p : Proposal D) (binding : Option (Proposal D × D)) → note_by e ≡ Some p → p.round.view ≡ v
        → (binding ≡ r.binding) ⊎ (binding ≡ restored_binding begun p)
        → RoundStep x v r
        (record r { slot = after_own (same_proposal same) r.slot p; notarize_decided = true; binding = binding })
    Retried : (now interval : ℕ) → e ≡ NextTimeout now → awaits_retry r ≡ true
        → RoundStep x v r (record r { decision = decision.Nullify (Some (now + interval)) })
    -- proposals
    Received : (p : Proposal D) → proposal_by e ≡ Some (v, p) → is_nullify r.decision ≡ false
        → RoundStep x v r (record r { slot = after_vote (same_proposal same) r.slot p })
    Marked : e ≡ Verified v → verification_matches same elect begun v ≡ true → is_nullify r.decision ≡ false
        → RoundStep x v r (record r { slot = after_mark r.slot })
    Asked : (requested : Bool) → RoundStep x v r (record r { slot = build_requested requested r.slot })
    Built : (context : Context D K) (payload : D) (now : ℕ) → e ≡ Proposed context payload now
        → proposed_answer same elect begun context payload ≡ true → context.round.view ≡ v
        → RoundStep x v r (proposed_round same r context payload now)
    Requested : (w : ℕ) → e ≡ TryVerify → RoundStep x v r (with_request r w)
    Verifying : (payload : D) → e ≡ TryVerify → standing same elect begun (v, r) ≡ Ready payload
        → RoundStep x v r (verifying_round r payload)
    Unbound : is_answer e ≡ true → RoundStep x v r (record r { binding = None })

  -- a change of the facts; a view that is not tracked comes to be only from `low` on
  pub data Step (low : ℕ) (x : StateFacts K L D) : StateFacts K L D → Type 0 where
    Puts : (v : ℕ) (r : RoundFacts K D) → (low ≤ v) ⊎ (is_tracked x v ≡ true) → RoundStep x v (round_of x v) r
        → Step low x (with_round x v r)
    Moves : (now : ℕ) → Step low x (at_moment x now)
    Founds : (payload : D) → Step low x (record x { genesis = Some payload })
    -- a notarized view waits for certification
    Names : (v : ℕ) → x.finalized < v → is_some (round_of x v).notarization ≡ true
        → Step low x (record x { named = insert_key nat_cmp x.named v })
    Unnames : Step low x (record x { named = [] })
    Covers : (u : ℕ) → covers_from u e ≡ true → Step low x (nullified_also x u)
    Notes : (u : ℕ) → nullify_by e ≡ Some u → Step low x
        (record x { nullify_votes = insert_key nat_cmp x.nullify_votes u })
    -- a view that was entered is the current one
    Reaches : (v : ℕ) → x.current < v → is_timed (round_of x v).decision ≡ true → Step low x (record x { current = v })
    Raises : (v : ℕ) → finalized_by_event e ≡ v → x.finalized < v → Step low x (record x {
      finalized = v;
      named = filter (λ w. nat_lt v w) x.named;
      rounds = map (λ e. (e.0, if nat_le e.0 v then without_token e.1 else e.1)) x.rounds;
    })
    Scans : e ≡ TryVerify
        → Step low x (record x { rounds = map (λ e. (e.0, scan_left same elect begun e.0 e.1)) x.rounds })
    Prunes : is_prune e ≡ true → Step low x (after_prune x)

  -- one after another
  pub data Path (low : ℕ) (x : StateFacts K L D) : StateFacts K L D → Type 0 where
    Still : Path low x x
    Then : {y z : StateFacts K L D} → Path low x y → Step low y z → Path low x z

  -- a claim that each change keeps holds at the end
  pub along : (low : ℕ) (P : StateFacts K L D → Type 0) → ((x y : StateFacts K L D) → Step low x y → P x → P y)
      → (x y : StateFacts K L D) → Path low x y → P x → P y
  along low P keeps x y Still p = p
  along low P keeps x y (Then {y = w} path step) p = keeps w y step (along low P keeps x w path p)
