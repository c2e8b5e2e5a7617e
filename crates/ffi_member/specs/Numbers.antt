-- The numbers of kinds, reasons and flags.
use Rattle.std.specs.Prelude.{◌≡◌, ◌⊎◌, ◌<◌, ◌≤◌, ℕ, Bool, true, false, Option, Some, None}
use Rattle.simplex_types.specs.declared.reasons.Kind.{Kind}
use Rattle.simplex_types.specs.declared.reasons.Kind.TheVariants as lacking
use Rattle.simplex_types.specs.declared.reasons.TimeoutReason.{TimeoutReason}
use Rattle.simplex_types.specs.declared.reasons.TimeoutReason.TheVariants as reason
use Rattle.simplex_types.specs.declared.reasons.HandoffAbandonedReason.{HandoffAbandonedReason}
use Rattle.simplex_types.specs.declared.reasons.HandoffAbandonedReason.TheVariants as abandoned
use Rattle.simplex_types.specs.declared.types.fault.Fault.{Fault}
use Rattle.simplex_types.specs.declared.types.fault.Fault.TheVariants as fault
use Rattle.ffi_scheme.specs.declared.scheme.HostKey.{HostKey}
use Rattle.ffi_member.specs.declared.call_kind.CallKind.{CallKind}
use Rattle.ffi_member.specs.declared.call_kind.CallKind.TheVariants as kind
use Rattle.ffi_member.specs.declared.effect_kind.EffectKind.{EffectKind}
use Rattle.ffi_member.specs.declared.effect_kind.EffectKind.TheVariants as effect
use Rattle.ffi_member.specs.declared.kinds.CertificateKind.{CertificateKind}
use Rattle.ffi_member.specs.declared.kinds.CertificateKind.TheVariants as certificate
use Rattle.ffi_member.specs.declared.kinds.VoteKind.{VoteKind}
use Rattle.ffi_member.specs.declared.kinds.VoteKind.TheVariants as vote
use Rattle.ffi_member.specs.declared.list_kind.ListKind.{ListKind}
use Rattle.ffi_member.specs.declared.list_kind.ListKind.TheVariants as list
use Rattle.ffi_member.specs.declared.reply_kind.ReplyKind.{ReplyKind}
use Rattle.ffi_member.specs.declared.reply_kind.ReplyKind.TheVariants as reply

-- the number of a kind of calls
abbrev pub kind_number : CallKind → ℕ
kind_number kind.AddNotarization = 0
kind_number kind.AddNullification = 1
kind_number kind.AddFinalization = 2
kind_number kind.SetProposal = 3
kind_number kind.TryPropose = 4
kind_number kind.Proposed = 5
kind_number kind.SupersedeProposalRequest = 6
kind_number kind.PendingHandoffAbandonment = 7
kind_number kind.ReleaseProposalRequest = 8
kind_number kind.TryVerify = 9
kind_number kind.Verified = 10
kind_number kind.VerificationFailed = 11
kind_number kind.CertifyCandidates = 12
kind_number kind.SetCertifyHandle = 13
kind_number kind.Certified = 14
kind_number kind.ConstructNotarize = 15
kind_number kind.ConstructNullify = 16
kind_number kind.ConstructFinalize = 17
kind_number kind.BroadcastNotarization = 18
kind_number kind.BroadcastNullification = 19
kind_number kind.BroadcastFinalization = 20
kind_number kind.GetBestCertificate = 21
kind_number kind.TriggerTimeout = 22
kind_number kind.NextTimeout = 23
kind_number kind.Prune = 24

-- the number of a certificate's kind
abbrev pub certificate_number : CertificateKind → ℕ
certificate_number certificate.Notarization = 1
certificate_number certificate.Nullification = 2
certificate_number certificate.Finalization = 3

-- the number of a vote's kind: that of the certificate which such votes make
abbrev pub vote_number : VoteKind → ℕ
vote_number vote.Notarize = certificate_number certificate.Notarization
vote_number vote.Nullify = certificate_number certificate.Nullification
vote_number vote.Finalize = certificate_number certificate.Finalization

-- the number of a missing certificate's kind
abbrev pub missing_number : Kind → ℕ
missing_number lacking.Nullification = certificate_number certificate.Nullification
missing_number lacking.Notarization = certificate_number certificate.Notarization

-- a number is that of a kind of votes and of certificates
abbrev pub IsKind : ℕ → Type 0
IsKind kind = (0 < kind) × (kind < 4)

-- a number is that of no kind
abbrev pub IsNoKind : ℕ → Type 0
IsNoKind kind = (kind ≡ 0) ⊎ (4 ≤ kind)

-- the number of a verdict among the inputs of a resolver: a certificate has its kind's number there
abbrev pub verdict_number : ℕ
verdict_number = 4

-- the number of a kind of a resolver's effects
abbrev pub effect_number : EffectKind → ℕ
effect_number effect.Fetch = 1
effect_number effect.Settled = 2
effect_number effect.Finalized = 3
effect_number effect.Raised = 4

-- the number of a reply's kind
abbrev pub reply_number : ReplyKind → ℕ
reply_number reply.Unit = 0
reply_number reply.Flag = 1
reply_number reply.Added = 2
reply_number reply.AddedNullification = 3
reply_number reply.Request = 4
reply_number reply.Work = 5
reply_number reply.Candidates = 6
reply_number reply.Certified = 7
reply_number reply.Notarize = 8
reply_number reply.Nullify = 9
reply_number reply.Finalize = 10
reply_number reply.Certificate = 11
reply_number reply.Timeout = 12
reply_number reply.Views = 13
reply_number reply.Released = 14
reply_number reply.Triggered = 15
reply_number reply.Abandoned = 16
reply_number reply.Restarted = 17

-- the number of a kind of a reply's lists
abbrev pub list_number : ListKind → ℕ
list_number list.Proposals = 1
list_number list.Fetches = 2
list_number list.Dropped = 3

abbrev pub IsListKind : ℕ → Type 0
IsListKind number = (0 < number) × (number < 4)

abbrev pub IsNoListKind : ℕ → Type 0
IsNoListKind number = (number ≡ 0) ⊎ (4 ≤ number)

-- the number of a reason for a timeout
abbrev pub reason_number : TimeoutReason → ℕ
reason_number reason.Retry = 0
reason_number reason.Inactivity = 1
reason_number reason.LeaderNullify = 2
reason_number reason.LeaderTimeout = 3
reason_number reason.CertificationTimeout = 4
reason_number reason.StallTimeout = 5
reason_number reason.MissingProposal = 6
reason_number reason.IgnoredProposal = 7
reason_number reason.InvalidProposal = 8
reason_number reason.FailedCertification = 9

-- 1 for true
abbrev pub flag_number : Bool → ℕ
flag_number false = 0
flag_number true = 1

-- the number of a reason to abandon a handoff
abbrev pub abandoned_number : HandoffAbandonedReason → ℕ
abandoned_number abandoned.ViewExit = 0
abandoned_number abandoned.AncestrySuperseded = 1
abandoned_number abandoned.AncestryInvalidated = 2
abandoned_number abandoned.ParentNullify = 3
abandoned_number abandoned.ViewNullify = 4
abandoned_number abandoned.ResponseClosed = 5
abandoned_number abandoned.IneligibleAtRecording = 6

-- the number of a fault: a reply's status
abbrev pub fault_status : Fault → ℕ
fault_status fault.OutOfMemory = 1
fault_status fault.Failed = 2
fault_status fault.ViewTooLarge = 3
fault_status fault.TimeOverflow = 4

-- the index of a member, or the greatest number of 32 bits if there is none
abbrev pub member_number : Option HostKey → ℕ
member_number None = 4294967295
member_number (Some key) = key.index

-- the index of a member, or the greatest number of 32 bits if there is none
abbrev pub index_number : Option ℕ → ℕ
index_number None = 4294967295
index_number (Some index) = index
