-- Which calls are on the work of a view.
use Rattle.std.proofs.Common.{◌≡◌, refl, Bool, true, false}
use Rattle.simplex_member.specs.Calls.{CallFacts, SetProposal, TryPropose, Proposed, SupersedeProposalRequest, PendingHandoffAbandonment, ReleaseProposalRequest, TryVerify, Verified, VerificationFailed, ConstructNotarize, CertifyCandidates, SetCertifyHandle, TriggerTimeout, NextTimeout}

-- a proposal is built, verified, voted to be notarized or offered, or a view times out
abbrev pub is_work : {D : Type 0} → CallFacts D → Bool
is_work (SetProposal v p) = true
is_work TryPropose = true
is_work (Proposed v payload now) = true
is_work (SupersedeProposalRequest v) = true
is_work (PendingHandoffAbandonment v) = true
is_work (ReleaseProposalRequest v) = true
is_work TryVerify = true
is_work (Verified v) = true
is_work (VerificationFailed v reason now) = true
is_work (ConstructNotarize v) = true
is_work CertifyCandidates = true
is_work (SetCertifyHandle v token) = true
is_work (TriggerTimeout v reason now) = true
is_work (NextTimeout now) = true
is_work _ = false

-- and that is no vote to notarize
abbrev pub is_silent : {D : Type 0} → CallFacts D → Bool
is_silent (ConstructNotarize v) = false
is_silent call = is_work call

pub silent_work : {D : Type 0} (call : CallFacts D) → is_silent call ≡ true → is_work call ≡ true
silent_work (ConstructNotarize v) silent = refl
silent_work _ silent = silent
