-- How a resolver behind a handle starts, its inputs and its results.
use Rattle.std.specs.Prelude.{◌≡◌, ◌⊎◌, ◌<◌, ◌≤◌, ◌^◌, ◌==◌, max, if◌then◌else◌, ℕ, Bool, true, false, List, [], Option, Some, None, length, slice_get}
use Rattle.std.specs.FinMap as map
use Rattle.std.specs.Int.{w64, to_be_bytes}
use Rattle.std.specs.List.{flat_map}
use Rattle.simplex_types.specs.Certificates.{CertificateFacts, ProposalFacts, Notarized, Nullified, Finalized}
use Rattle.simplex_types.specs.declared.reasons.FetchReason.{FetchReason}
use Rattle.simplex_types.specs.declared.reasons.FetchReason.TheVariants as why
use Rattle.simplex_types.specs.declared.reasons.Kind.TheVariants as lacking
use Rattle.simplex_types.specs.declared.types.fault.Fault.{Fault}
use Rattle.simplex_codec.specs.declared.digest.BytesDigest.{BytesDigest}
use Rattle.simplex_codec.specs.Digests.{bytes_in_digest}
use Rattle.ffi_scheme.specs.Host.{certificate_bytes}
use Rattle.simplex_resolver.specs.declared.replay.error.ReplayError.{ReplayError}
use Rattle.simplex_resolver.specs.declared.replay.error.ReplayError.TheVariants as replay
use Rattle.simplex_resolver.specs.declared.resolver.effect.Effect.{Effect}
use Rattle.simplex_resolver.specs.declared.resolver.effect.Effect.TheVariants as effect
use Rattle.simplex_resolver.specs.Facts.{ResolverFacts}
use Rattle.simplex_resolver.specs.Served.{is_settled, served_encoding}
use Rattle.simplex_resolver.specs.RecordCalls.{newest_first, replay_calls}
use Rattle.simplex_resolver.specs.RecordRules.{record_error}
use Rattle.simplex_resolver.specs.Repair.{has}
use Rattle.simplex_resolver.specs.ReplayErrors.{IsDue}
use Rattle.simplex_resolver.specs.Steps.{Call, update, verdict}
use Rattle.simplex_resolver.specs.CallHistory.{LawfulResolverFacts, HasReceivedCalls, IsLeftBy, IsMade, ReceivesMore}
use Rattle.ffi_member.specs.declared.effect_kind.EffectKind.TheVariants as effect_kind
use Rattle.ffi_member.specs.declared.journal.NotRead.TheVariants as not_read
use Rattle.ffi_member.specs.declared.kinds.CertificateKind.TheVariants as certificate
use Rattle.ffi_member.specs.declared.resolver_types.FlatEffect.{FlatEffect}
use Rattle.ffi_member.specs.declared.resolver_types.FlatEffects.{FlatEffects}
use Rattle.ffi_member.specs.declared.resolver_types.FlatOutstanding.{FlatOutstanding}
use Rattle.ffi_member.specs.declared.resolver_types.FlatServed.{FlatServed}
use Rattle.ffi_member.specs.declared.resolver_types.FlatSettled.{FlatSettled}
use Rattle.ffi_member.specs.declared.resolver_types.FlatResolverReply.{FlatResolverReply}
use Rattle.ffi_member.specs.declared.resolver_calls.HeldResolver.{HeldResolver}
use Rattle.ffi_member.specs.declared.resolver_calls.NotReplayed.{NotReplayed}
use Rattle.ffi_member.specs.declared.resolver_calls.NotReplayed.TheVariants as not_replayed
use Rattle.ffi_member.specs.Calls.{IsFlatProposal, flat_round}
use Rattle.ffi_member.specs.Journals.{HostArtifact, IsNotRead, framed}
use Rattle.ffi_member.specs.Numbers.{certificate_number, effect_number, fault_status, flag_number, missing_number, verdict_number}

-- a resolver that received the entries whose frames these bytes are, and then the end of its replay; nothing is to be
-- read yet
pub record IsReplayedFrom (term_length : ℕ) (journal : List ℕ) (held : HeldResolver) : Type 0 where
  pub entries : List HostArtifact
  pub read : journal ≡ framed entries
  pub accepted : record_error (newest_first certificate_bytes entries) ≡ None
  pub received : HasReceivedCalls term_length
      (replay_calls (bytes_in_digest {n = 32}) certificate_bytes entries) held.resolver
  pub last : held.last.items ≡ []
  pub served : held.served.items ≡ []

-- the record is refused, or memory ran out
pub record IsNotReplayed (journal : List ℕ) (error : ReplayError) : Type 0 where
  pub entries : List HostArtifact
  pub read : journal ≡ framed entries
  pub due : IsDue (record_error (newest_first certificate_bytes entries)) error

-- why no resolver starts
abbrev pub IsNotReplayedFrom : ℕ → List ℕ → NotReplayed → Type 0
IsNotReplayedFrom term_length journal not_replayed.NoTerm = term_length ≡ 0
IsNotReplayedFrom term_length journal (not_replayed.Journal e) = IsNotRead journal e
IsNotReplayedFrom term_length journal (not_replayed.Replay e) = IsNotReplayed journal e

-- the number of why no resolver starts
abbrev pub not_replayed_number : NotReplayed → ℕ
not_replayed_number not_replayed.NoTerm = 9
not_replayed_number (not_replayed.Journal not_read.OutOfMemory) = 1
not_replayed_number (not_replayed.Journal (not_read.Damaged _)) = 12
not_replayed_number (not_replayed.Journal (not_read.NoEntry _ _)) = 13
not_replayed_number (not_replayed.Replay replay.OutOfMemory) = 1
not_replayed_number (not_replayed.Replay replay.ZeroView) = 42
not_replayed_number (not_replayed.Replay replay.ViewTooLarge) = 43
not_replayed_number (not_replayed.Replay replay.VerdictWithoutNotarization) = 46

-- a certificate has these numbers and bytes
abbrev pub IsFlatCertificate : FlatResolverReply → List ℕ → CertificateFacts (BytesDigest 32) → Type 0
IsFlatCertificate f bytes (Notarized c) =
    (f.kind ≡ certificate_number certificate.Notarization) × IsFlatProposal f.proposal c.proposal × (c.bytes ≡ bytes)
IsFlatCertificate f bytes (Nullified c) =
    (f.kind ≡ certificate_number certificate.Nullification) × (c.round ≡ flat_round f.proposal.round)
    × (c.bytes ≡ bytes)
IsFlatCertificate f bytes (Finalized c) =
    (f.kind ≡ certificate_number certificate.Finalization) × IsFlatProposal f.proposal c.proposal × (c.bytes ≡ bytes)

-- a verdict on a notarization with these numbers and bytes
pub record IsJudged (f : FlatResolverReply) (bytes : List ℕ) (call : Call) : Type 0 where
  pub notarization : ProposalFacts (BytesDigest 32)
  pub success : Bool
  pub proposal : IsFlatProposal f.proposal notarization.proposal
  pub own : notarization.bytes ≡ bytes
  pub flag : flag_number success ≡ f.success
  pub received : call ≡ verdict (bytes_in_digest {n = 32}) notarization success

-- the input: a certificate, or a verdict
abbrev pub IsResolverCall : FlatResolverReply → List ℕ → Call → Type 0
IsResolverCall f bytes call =
    ((c : CertificateFacts (BytesDigest 32)) × IsFlatCertificate f bytes c
    × (call ≡ update (bytes_in_digest {n = 32}) c))
    ⊎ ((f.kind ≡ verdict_number) × IsJudged f bytes call)

-- the highest view that is named: of a nullification its own, else the greater of its own and its parent's
abbrev pub highest_passed : FlatResolverReply → ℕ
highest_passed f =
    if f.kind == certificate_number certificate.Nullification then f.proposal.round.view
    else max f.proposal.round.view f.proposal.parent

-- the resolver receives it, and these are its effects
pub record HasEffects (old : HeldResolver) (highest : ℕ) (call : Call) (r : FlatEffects)
    (new : HeldResolver) : Type 0 where
  pub status : r.status ≡ 0
  pub living : old.resolver.state.is_failed ≡ false
  pub views : highest < 2 ^ 63
  pub made : IsMade call old.resolver new.last.items new.resolver
  pub received : ReceivesMore old.resolver call new.resolver
  pub count : r.count ≡ length new.last.items
  pub fetches : r.fetches ≡ length new.resolver.open_fetches

-- no effects are returned
abbrev pub HasNoEffects : ℕ → FlatEffects → Type 0
HasNoEffects status r = (r.status ≡ status) × (r.count ≡ 0) × (r.fetches ≡ 0)

-- a fault changes what its contract says, and leaves no effects to be read
abbrev pub HasFault : HeldResolver → ℕ → Call → FlatEffects → HeldResolver → Type 0
HasFault old highest call r new =
    (fault : Fault) × HasNoEffects (fault_status fault) r × IsLeftBy old.resolver highest call fault new.resolver
    × (new.last.items ≡ [])

-- the resolver receives a call that names no view above the highest, or it ends in a fault; what was served last stays
abbrev pub IsReceivedAs : HeldResolver → ℕ → Call → FlatEffects → HeldResolver → Type 0
IsReceivedAs old highest call r new =
    (HasEffects old highest call r new ⊎ HasFault old highest call r new) × (new.served ≡ old.served)

-- one of the numbers is not valid for a verdict, or a kind
abbrev pub IsNoResolverCall : FlatResolverReply → Type 0
IsNoResolverCall f = (2 ≤ f.success) ⊎ ((1 ≤ f.proposal.round.view) × ((f.kind ≡ 0) ⊎ (5 ≤ f.kind)))

-- each of them is valid, and the view is not that of genesis
abbrev pub IsValidCall : FlatResolverReply → Type 0
IsValidCall f = (0 < f.kind) × (f.kind < 5) × (f.success < 2) × (1 ≤ f.proposal.round.view)

-- why nothing was passed to the resolver: the view is that of genesis, a number is not valid, or there was no memory
-- for the certificate
abbrev pub IsNotPassed : FlatResolverReply → FlatEffects → Type 0
IsNotPassed f r =
    (HasNoEffects 5 r × (f.success < 2) × (f.proposal.round.view ≡ 0))
    ⊎ (HasNoEffects 6 r × IsNoResolverCall f)
    ⊎ (HasNoEffects 7 r × IsValidCall f)

-- nothing was passed to the resolver, and everything is unchanged
abbrev pub IsResolverNotNotified : HeldResolver → FlatResolverReply → FlatEffects → HeldResolver → Type 0
IsResolverNotNotified old f r new = (new ≡ old) × IsNotPassed f r

-- what flat numbers pass to a resolver
abbrev pub IsReceived : HeldResolver → FlatResolverReply → List ℕ → FlatEffects → HeldResolver → Type 0
IsReceived old f bytes r new =
    IsResolverNotNotified old f r new
    ⊎ (IsValidCall f × ((call : Call) × IsResolverCall f bytes call × IsReceivedAs old (highest_passed f) call r new))

-- why a fetch is opened, and what is settled
abbrev pub why_number : FetchReason → ℕ
why_number why.MissingNullification = 0
why_number why.CertificationFailed = 1

-- an effect has these numbers
abbrev pub IsEffect : Effect → FlatEffect → Type 0
IsEffect (effect.Fetch view cause reason) f =
    (f.kind ≡ effect_number effect_kind.Fetch) × (f.view ≡ view) × (f.cause ≡ cause) × (f.reason ≡ why_number reason)
IsEffect (effect.Settled kind start end) f =
    (f.kind ≡ effect_number effect_kind.Settled) × (f.view ≡ start) × (f.end ≡ end) × (f.reason ≡ missing_number kind)
IsEffect (effect.Finalized view) f = (f.kind ≡ effect_number effect_kind.Finalized) × (f.view ≡ view)
IsEffect (effect.Raised view) f = (f.kind ≡ effect_number effect_kind.Raised) × (f.view ≡ view)

-- the effect at an index, or none
abbrev pub IsEffectAt : List Effect → ℕ → FlatEffect → Type 0
IsEffectAt es index f =
    (f.status ≡ 0) × (((f.kind ≡ 0) × (length es ≤ index))
    ⊎ ((e : Effect) × (slice_get es index ≡ Some e) × IsEffect e f))

-- what is known of a view
pub record IsSettledAt (r : LawfulResolverFacts) (view : ℕ) (f : FlatSettled) : Type 0 where
  pub status : f.status ≡ 0
  pub failed : f.is_failed ≡ flag_number r.state.is_failed
  pub nullification : f.nullification ≡ flag_number (is_settled r.state view lacking.Nullification)
  pub notarization : f.notarization ≡ flag_number (is_settled r.state view lacking.Notarization)
  pub uncertifiable : f.uncertifiable ≡ flag_number (map.contains_key r.state.uncertifiable view)
  pub opened : f.is_open ≡ flag_number (has r.open_fetches view)
  pub count : f.fetches ≡ length r.open_fetches

-- views, in eight bytes each
abbrev pub view_bytes : List ℕ → List ℕ
view_bytes views = flat_map (λ v. to_be_bytes w64 v) views

-- views are loaded; or there was no memory for them, and nothing is
abbrev pub HasViews : List ℕ → FlatOutstanding → List ℕ → Type 0
HasViews views r served =
    ((r.status ≡ 0) × (r.count ≡ length views) × (served ≡ view_bytes views))
    ⊎ ((r.status ≡ 1) × (r.count ≡ 0) × (served ≡ []))

-- the views with an open fetch are loaded, rising
pub record AreOutstanding (old : HeldResolver) (r : FlatOutstanding) (new : HeldResolver) : Type 0 where
  pub resolver : new.resolver ≡ old.resolver
  pub last : new.last ≡ old.last
  pub bytes : r.bytes ≡ length new.served.items
  pub shown : HasViews old.resolver.open_fetches r new.served.items

-- nothing is loaded, for this status
abbrev pub IsUnserved : ℕ → FlatServed → List ℕ → Type 0
IsUnserved status r served = (r.status ≡ status) × (r.has ≡ 0) × (r.bytes ≡ 0) × (served ≡ [])

-- an encoding is loaded
abbrev pub IsShown : List ℕ → FlatServed → List ℕ → Type 0
IsShown bytes r served = (r.status ≡ 0) × (r.has ≡ 1) × (r.bytes ≡ length bytes) × (served ≡ bytes)

-- there is nothing to serve; or the encoding is loaded, or there was no memory for it
abbrev pub HasServed : Option (List ℕ) → FlatServed → List ℕ → Type 0
HasServed None r served = IsUnserved 0 r served
HasServed (Some bytes) r served = IsShown bytes r served ⊎ IsUnserved 1 r served

-- what a peer is served; nothing, if the resolver has failed
abbrev pub HasServedOf : ResolverFacts → ℕ → FlatServed → List ℕ → Type 0
HasServedOf state view r served =
    ((state.is_failed ≡ true) × IsUnserved 2 r served)
    ⊎ ((state.is_failed ≡ false) × HasServed (served_encoding state view) r served)

-- how it is loaded
pub record IsServedFor (old : HeldResolver) (view : ℕ) (r : FlatServed) (new : HeldResolver) : Type 0 where
  pub resolver : new.resolver ≡ old.resolver
  pub last : new.last ≡ old.last
  pub of_view : r.view ≡ view
  pub served : HasServedOf old.resolver.state view r new.served.items
