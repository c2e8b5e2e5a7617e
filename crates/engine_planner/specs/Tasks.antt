-- The calls that an engine makes of its member.
use Rattle.std.specs.Prelude.{ℕ}
use Rattle.simplex_types.specs.declared.reasons.TimeoutReason.TheVariants.{InvalidProposal}
use Rattle.simplex_member.specs.Calls.{CallFacts, SetProposal, TryPropose, Proposed, SupersedeProposalRequest, PendingHandoffAbandonment, ReleaseProposalRequest, TryVerify, Verified, VerificationFailed, ConstructNotarize, CertifyCandidates, SetCertifyHandle, Certified, ConstructNullify, ConstructFinalize, BroadcastNotarization, BroadcastNullification, BroadcastFinalization, GetBestCertificate, TriggerTimeout, NextTimeout, Prune}
use Rattle.engine_planner.specs.declared.task.Task.{Task}
use Rattle.engine_planner.specs.declared.task.Task.TheVariants as task

-- the call of a task, at a moment; the token of a certification is its view
abbrev pub call_of : {D : Type 0} → Task D → ℕ → CallFacts D
call_of (task.SetProposal view proposal) now = SetProposal view proposal
call_of task.TryPropose now = TryPropose
call_of (task.Proposed view payload) now = Proposed view payload now
call_of (task.SupersedeProposalRequest view) now = SupersedeProposalRequest view
call_of (task.PendingHandoffAbandonment view) now = PendingHandoffAbandonment view
call_of (task.ReleaseProposalRequest view) now = ReleaseProposalRequest view
call_of task.TryVerify now = TryVerify
call_of (task.Verified view) now = Verified view
call_of (task.VerificationFailed view) now = VerificationFailed view InvalidProposal now
call_of task.CertifyCandidates now = CertifyCandidates
call_of (task.SetCertifyHandle view) now = SetCertifyHandle view view
call_of (task.Certified view success) now = Certified view success now
call_of (task.ConstructNotarize view) now = ConstructNotarize view
call_of (task.ConstructFinalize view) now = ConstructFinalize view
call_of (task.ConstructNullify view _) now = ConstructNullify view
call_of (task.BroadcastNotarization view) now = BroadcastNotarization view
call_of (task.BroadcastNullification view) now = BroadcastNullification view
call_of (task.BroadcastFinalization view) now = BroadcastFinalization view
call_of task.GetBestCertificate now = GetBestCertificate
call_of (task.TriggerTimeout view reason) now = TriggerTimeout view reason now
call_of task.NextTimeout now = NextTimeout now
call_of task.Prune now = Prune
