-- What replayed artifacts say, and so each event.
use Rattle.std.proofs.Common.{◌≡◌, refl, sym, ◌∙◌, ℕ, Bool, true, Option, Some, None, unwrap_or, arith}
use Rattle.std.proofs.lemmas.Bool.{eq-eqb}
use Rattle.simplex_types.specs.Proposal.{same_proposal}
use Rattle.simplex_types.specs.Config.{Genesis, Finalized as FinalizedFloor}
use Rattle.simplex_types.specs.Certificates.{ArtifactFacts, NotarizeVote, NullifyVote, FinalizeVote, Verdict, Accepted, Notarized, Nullified, Finalized}
use Rattle.simplex_types.specs.declared.types.messages.Proposal.{Proposal}
use Rattle.simplex_round.specs.declared.round.Decision.TheVariants as decision
use Rattle.simplex_round.specs.Slot.{after_own}
use Rattle.simplex_round.specs.Round.{RoundFacts, certified_round}
use Rattle.simplex_voter.specs.Facts.{StateFacts, Elect, round_of, with_round}
use Rattle.simplex_voter.specs.Leaders.{with_next_view_ready}
use Rattle.simplex_voter.specs.Replay.{TakesReplay, bound_again, restored_binding}
use Rattle.simplex_record.specs.Recovery.{as_artifact, after_replaying}
use Rattle.simplex_record.specs.Events.{Event, IsEvent, after_event, SetFloor, AddNotarization, AddNullification, AddFinalization, Certified, ConstructNotarize, ConstructNullify, ConstructFinalize, SetProposal, TryPropose, Proposed, Supersede, Release, TryVerify, Verified, VerificationFailed, CertifyCandidates, SetCertifyHandle, TriggerTimeout, NextTimeout, BroadcastNotarization, BroadcastNullification, BroadcastFinalization, Prune, Replay}
use Rattle.laws_history.specs.HistoryFolds.{moment_by}
use Rattle.laws_history.proofs.UnchangedHistories.{known_of_round, UnchangedButNumbers, quiet, prepared_quiet}
use Rattle.laws_history.proofs.EventFacts.{adds, IsElsewhere, IsOfRounds, FollowsEvent, put_alone, put_follows, round_follows, silent_follows}
use Rattle.laws_safety.proofs.votes.OutstandingWork.{among_noted}
use Rattle.laws_history.proofs.ReceivedEvents.{verdict_first, notarization_follows, finalization_follows, floor_finalization_follows, nullification_follows, genesis_follows, verdict_follows}
use Rattle.laws_history.proofs.UnchangedFacts.{try_verify_quiet, release_quiet, supersede_quiet, try_propose_quiet, verified_quiet, candidates_quiet, handle_quiet, trigger_leaves, next_timeout_leaves, failed_leaves}
use Rattle.laws_safety.proofs.votes.HeldProposals.{own_held}
use Rattle.laws_history.proofs.VoteEvents.{own_conflict, nullify_follows, finalize_follows, notarize_follows, proposal_follows, proposed_follows, broadcast_notarization_follows, broadcast_nullification_follows, broadcast_finalization_follows, prune_follows}

module _ {K L D : Type 0} (same : D → D → Bool) (decides : (d e : D) → same d e ≡ true → d ≡ e) (elect : Elect L)
    (x : StateFacts K L D) where
  replayed_notarize : (p : Proposal D) (signer : ℕ)
      → FollowsEvent same elect (Replay (NotarizeVote p signer)) x
      (after_replaying same elect x (NotarizeVote p signer))
  replayed_notarize p signer = put_follows same elect x (Replay (NotarizeVote p signer)) refl x
      (with_next_view_ready elect z v) v t (quiet x) voted (λ u apart k. rw apart refl) (prepared_quiet elect z v)
    where
      v : ℕ
      v = p.round.view

      r : RoundFacts K D
      r = round_of x v

      s : RoundFacts K D
      s = record r { slot = after_own (same_proposal same) r.slot p; notarize_decided = true }

      t : RoundFacts K D
      t = bound_again s (restored_binding x p)

      z : StateFacts K L D
      z = with_round x v t

      unbound : (binding : Option (Proposal D × D)) → known_of_round (bound_again s binding) ≡ known_of_round s
      unbound None = refl
      unbound (Some bound) = refl

      said : known_of_round s ≡ adds same elect x (Replay (NotarizeVote p signer)) v (known_of_round r)
      said = rw (eq-eqb v v refl) (λ i. record (known_of_round r)
          { notarize_decided = true; held = own_held same r.slot p decides i; conflict = own_conflict same r.slot p i })

      voted : known_of_round t ≡ adds same elect x (Replay (NotarizeVote p signer)) v (known_of_round r)
      voted = unbound (restored_binding x p) ∙ said

  replay_follows : (e : ArtifactFacts D) → TakesReplay x (as_artifact {K = K} e)
      → FollowsEvent same elect (Replay e) x (after_replaying same elect x e)
  replay_follows (NotarizeVote p signer) takes = replayed_notarize p signer
  replay_follows (NullifyVote round signer) takes =
      let v = round.view in
      let r : RoundFacts K D = record (round_of x v) { decision = decision.Nullify None } in
      record {
        settings = refl;
        terms = refl;
        genesis = refl;
        moment = refl;
        current = omega arith;
        finalized = omega arith;
        nullified = λ w _. refl;
        nullify_votes = λ w _. among_noted v w x.nullify_votes;
        rounds = λ w _. put_alone same elect x (Replay (NullifyVote round signer)) v r
            (rw (eq-eqb v v refl) (λ i. record (known_of_round (round_of x v))
            { nullify_decided = true; finalize_decided = sym takes.taken.1 i })) (λ u apart k. rw apart refl) w;
      }
  replay_follows (FinalizeVote p signer) takes =
      let v = p.round.view in
      let r = round_of x v in
      round_follows same elect x (Replay (FinalizeVote p signer)) refl v (record r { decision = decision.Finalize })
      refl (rw (eq-eqb v v refl) (λ i. record (known_of_round r)
      { nullify_decided = sym takes.taken.1 i; finalize_decided = true })) (λ u apart k. rw apart refl)
  replay_follows (Verdict round success) takes =
      let v = round.view in
      let r = round_of x v in
      round_follows same elect x (Replay (Verdict round success)) refl v (certified_round r success) refl
      (rw (eq-eqb v v refl) (λ i. record (known_of_round r)
      { verdict = verdict_first r.certification success takes.taken i })) (λ u apart k. rw apart refl)
  replay_follows (Accepted (Notarized c)) takes =
      let v = c.proposal.round.view in
      let r = round_of x v in
      round_follows same elect x (Replay (Accepted (Notarized c))) refl v (record r { notarization_broadcast = true })
      refl (rw (eq-eqb v v refl) refl) (λ u apart k. rw apart refl)
  replay_follows (Accepted (Nullified c)) takes =
      let v = c.round.view in
      record {
        settings = refl;
        terms = refl;
        genesis = refl;
        moment = refl;
        current = omega arith;
        finalized = omega arith;
        nullified = λ w _. among_noted v w x.nullified;
        nullify_votes = λ w _. refl;
        rounds = λ w _. put_alone same elect x (Replay (Accepted (Nullified c))) v
            (record (round_of x v) { nullification_broadcast = true }) (rw (eq-eqb v v refl) refl)
            (λ u apart k. rw apart refl) w;
      }
  replay_follows (Accepted (Finalized c)) takes =
      let v = c.proposal.round.view in
      let r = round_of x v in
      round_follows same elect x (Replay (Accepted (Finalized c))) refl v (record r { finalization_broadcast = true })
      refl (rw (eq-eqb v v refl) refl) (λ u apart k. rw apart refl)

  quietly : (e : Event K D) → IsOfRounds x e → ((v : ℕ) → IsElsewhere same elect x e v)
      → UnchangedButNumbers (unwrap_or (moment_by e) x.moment) x.current x.finalized x (after_event same elect x e)
      → FollowsEvent same elect e x (after_event same elect x e)
  quietly e only silent leaves = silent_follows same elect x e only (after_event same elect x e) silent leaves

  -- each event
  pub event_follows : (e : Event K D) → IsEvent x e → FollowsEvent same elect e x (after_event same elect x e)
  event_follows (SetFloor (Genesis payload) now) takes = genesis_follows same elect x payload now
  event_follows (SetFloor (FinalizedFloor c) now) takes = floor_finalization_follows same decides elect x c now
  event_follows (AddNotarization c) takes = notarization_follows same decides elect x c
  event_follows (AddNullification c now) takes = nullification_follows same elect x c now
  event_follows (AddFinalization c now) takes = finalization_follows same decides elect x c now
  event_follows (Certified v success now) takes = verdict_follows same elect x v now success takes
  event_follows (ConstructNotarize v) takes = notarize_follows same elect x v
  event_follows (ConstructNullify v) takes = nullify_follows same elect x v
  event_follows (ConstructFinalize v) takes = finalize_follows same elect x v
  event_follows (SetProposal v p) takes = proposal_follows same elect x v p
  event_follows TryPropose takes = quietly TryPropose refl (λ _ _. refl) (try_propose_quiet x same elect)
  event_follows (Proposed context payload now) takes = proposed_follows same elect x decides context payload now
  event_follows (Supersede context) takes =
      quietly (Supersede context) refl (λ _ _. refl) (supersede_quiet x same elect context)
  event_follows (Release v) takes = quietly (Release v) refl (λ _ _. refl) (release_quiet x v)
  event_follows TryVerify takes = quietly TryVerify refl (λ _ _. refl) (try_verify_quiet x same elect)
  event_follows (Verified v) takes = quietly (Verified v) refl (λ _ _. refl) (verified_quiet x same elect v)
  event_follows (VerificationFailed v reason now) takes =
      quietly (VerificationFailed v reason now) refl (λ _ _. refl) (failed_leaves x same elect v reason now)
  event_follows CertifyCandidates takes = quietly CertifyCandidates refl (λ _ _. refl) (candidates_quiet x)
  event_follows (SetCertifyHandle v token) takes =
      quietly (SetCertifyHandle v token) refl (λ _ _. refl) (handle_quiet x v token takes)
  event_follows (TriggerTimeout v reason now) takes =
      quietly (TriggerTimeout v reason now) refl (λ _ _. refl) (trigger_leaves x v reason now)
  event_follows (NextTimeout now) takes = quietly (NextTimeout now) refl (λ _ _. refl) (next_timeout_leaves x now)
  event_follows (BroadcastNotarization v) takes = broadcast_notarization_follows same elect x v
  event_follows (BroadcastNullification v) takes = broadcast_nullification_follows same elect x v
  event_follows (BroadcastFinalization v) takes = broadcast_finalization_follows same elect x v
  event_follows Prune takes = prune_follows same elect x
  event_follows (Replay e) takes = replay_follows e takes
