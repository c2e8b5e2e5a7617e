-- Each event adds to the work on a view what it says.
use Rattle.std.proofs.Common.{Bool}
use Rattle.simplex_types.specs.Config.{Genesis, Finalized}
use Rattle.simplex_voter.specs.Facts.{StateFacts, Elect}
use Rattle.simplex_record.specs.Events.{Event, after_event, SetFloor, AddNotarization, AddNullification, AddFinalization, Certified, ConstructNotarize, ConstructNullify, ConstructFinalize, SetProposal, TryPropose, Proposed, Supersede, Release, TryVerify, Verified, VerificationFailed, CertifyCandidates, SetCertifyHandle, TriggerTimeout, NextTimeout, BroadcastNotarization, BroadcastNullification, BroadcastFinalization, Prune, Replay}
use Rattle.laws_history.proofs.Worked.{WorkFollows}
use Rattle.laws_history.proofs.work.PassedCertificates.{notarization_works, nullification_works, finalization_works, floor_finalization_works, genesis_works}
use Rattle.laws_history.proofs.work.Verdicts.{verdict_works}
use Rattle.laws_history.proofs.work.Replays.{replay_works}
use Rattle.laws_history.proofs.work.Requests.{try_propose_works, proposed_works, supersede_works, release_works, verified_works, handle_works, candidates_works, broadcast_notarization_works, broadcast_nullification_works, broadcast_finalization_works, prune_works}
use Rattle.laws_history.proofs.work.Scans.{try_verify_works}
use Rattle.laws_history.proofs.work.Timeouts.{trigger_works, failed_works, next_timeout_works}
use Rattle.laws_history.proofs.work.Votes.{notarize_works, nullify_works, finalize_works, proposal_works}

module _ {K L D : Type 0} (same : D → D → Bool) (elect : Elect L) (x : StateFacts K L D) where
  pub event_works : (e : Event K D) → WorkFollows same elect e x (after_event same elect x e)
  event_works (SetFloor (Genesis payload) now) = genesis_works same elect x payload now
  event_works (SetFloor (Finalized c) now) = floor_finalization_works same elect x c now
  event_works (AddNotarization c) = notarization_works same elect x c
  event_works (AddNullification c now) = nullification_works same elect x c now
  event_works (AddFinalization c now) = finalization_works same elect x c now
  event_works (Certified v success now) = verdict_works same elect x v now success
  event_works (ConstructNotarize v) = notarize_works same elect x v
  event_works (ConstructNullify v) = nullify_works same elect x v
  event_works (ConstructFinalize v) = finalize_works same elect x v
  event_works (SetProposal v p) = proposal_works same elect x v p
  event_works TryPropose = try_propose_works same elect x
  event_works (Proposed context payload now) = proposed_works same elect x context payload now
  event_works (Supersede context) = supersede_works same elect x context
  event_works (Release v) = release_works same elect x v
  event_works TryVerify = try_verify_works same elect x
  event_works (Verified v) = verified_works same elect x v
  event_works (VerificationFailed v reason now) = failed_works same elect x v reason now
  event_works CertifyCandidates = candidates_works same elect x
  event_works (SetCertifyHandle v token) = handle_works same elect x v token
  event_works (TriggerTimeout v reason now) = trigger_works same elect x v reason now
  event_works (NextTimeout now) = next_timeout_works same elect x now
  event_works (BroadcastNotarization v) = broadcast_notarization_works same elect x v
  event_works (BroadcastNullification v) = broadcast_nullification_works same elect x v
  event_works (BroadcastFinalization v) = broadcast_finalization_works same elect x v
  event_works Prune = prune_works same elect x
  event_works (Replay e) = replay_works same elect x e
