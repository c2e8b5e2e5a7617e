-- The events of a call, of those of `Rattle.simplex_record.specs.Events`.
use Rattle.std.specs.Prelude.{List, [], ◌∷◌, Option, Some, None}
use Rattle.simplex_types.specs.declared.types.messages.Context.{Context}
use Rattle.simplex_record.specs.Events.{Event, AddNotarization, AddNullification, AddFinalization, Certified, ConstructNotarize, ConstructNullify, ConstructFinalize, SetProposal, TryPropose, Proposed, Supersede, Release, TryVerify, Verified, VerificationFailed, CertifyCandidates, SetCertifyHandle, TriggerTimeout, NextTimeout, BroadcastNotarization, BroadcastNullification, BroadcastFinalization, Prune}
use Rattle.simplex_member.specs.Calls as calls
use Rattle.simplex_member.specs.Calls.{CallFacts}
use Rattle.simplex_member.specs.OutstandingWork.{OutstandingWork, context_at}

-- the event of a call in a context, if one is open
abbrev pub in_context : {K D : Type 0} → (Context D K → Event K D) → Option (Context D K) → List (Event K D)
in_context event None = []
in_context event (Some context) = event context ∷ []

-- the events of a call of a member, given its open requests: one, except for a call that changes nothing
abbrev pub events_of : {K D : Type 0} → OutstandingWork K D → CallFacts D → List (Event K D)
events_of o (calls.AddNotarization c) = AddNotarization c ∷ []
events_of o (calls.AddNullification c now) = AddNullification c now ∷ []
events_of o (calls.AddFinalization c now) = AddFinalization c now ∷ []
events_of o (calls.SetProposal v p) = SetProposal v p ∷ []
events_of o calls.TryPropose = TryPropose ∷ []
events_of o (calls.Proposed v payload now) = in_context (λ context. Proposed context payload now) (context_at o v)
events_of o (calls.SupersedeProposalRequest v) = in_context Supersede (context_at o v)
events_of o (calls.PendingHandoffAbandonment _) = []
events_of o (calls.ReleaseProposalRequest v) = Release v ∷ []
events_of o calls.TryVerify = TryVerify ∷ []
events_of o (calls.Verified v) = Verified v ∷ []
events_of o (calls.VerificationFailed v reason now) = VerificationFailed v reason now ∷ []
events_of o (calls.ConstructNotarize v) = ConstructNotarize v ∷ []
events_of o calls.CertifyCandidates = CertifyCandidates ∷ []
events_of o (calls.SetCertifyHandle v token) = SetCertifyHandle v token ∷ []
events_of o (calls.Certified v success now) = Certified v success now ∷ []
events_of o (calls.ConstructNullify v) = ConstructNullify v ∷ []
events_of o (calls.ConstructFinalize v) = ConstructFinalize v ∷ []
events_of o (calls.BroadcastNotarization v) = BroadcastNotarization v ∷ []
events_of o (calls.BroadcastNullification v) = BroadcastNullification v ∷ []
events_of o (calls.BroadcastFinalization v) = BroadcastFinalization v ∷ []
events_of o calls.GetBestCertificate = []
events_of o (calls.TriggerTimeout v reason now) = TriggerTimeout v reason now ∷ []
events_of o (calls.NextTimeout now) = NextTimeout now ∷ []
events_of o calls.Prune = Prune ∷ []
