-- What the host can read of a member beside its replies.
use Rattle.std.specs.Prelude.{◌≡◌, ◌⊎◌, ◌≤◌, slice_get, ℕ, zero, suc, List, [], ◌++◌, Option, Some, None, MatchOption, is_some, option_map, length, take, drop}
use Rattle.std.specs.List.{All}
use Rattle.std.specs.Option.{IsSome}
use Rattle.simplex_types.specs.Certificates.{CertificateFacts, Notarized, Nullified, Finalized}
use Rattle.simplex_types.specs.declared.types.messages.Proposal.{Proposal}
use Rattle.simplex_types.specs.declared.types.messages.Subject.{Subject}
use Rattle.simplex_types.specs.declared.types.messages.Subject.TheVariants as subject
use Rattle.simplex_voter.specs.Facts.{StateFacts, is_tracked}
use Rattle.simplex_voter.specs.StateAnswers.{notarization_of, nullification_of, finalization_of, leader_of, forwardable_of}
use Rattle.simplex_voter.specs.Windows.{min_active, admits_certificate, admits_vote}
use Rattle.simplex_voter.specs.ProposalRequests.{voted_nullify}
use Rattle.simplex_codec.specs.declared.digest.BytesDigest.{BytesDigest}
use Rattle.simplex_codec.specs.Digests.{bytes_in_digest}
use Rattle.ffi_scheme.specs.declared.elector.HostElector.{HostElector}
use Rattle.ffi_scheme.specs.declared.scheme.HostKey.{HostKey}
use Rattle.ffi_scheme.specs.declared.scheme.Order.{Order}
use Rattle.ffi_scheme.specs.Host.{certificate_bytes, signed_text}
use Rattle.simplex_record.specs.Entries.{entries_of}
use Rattle.simplex_record.specs.Votes.{votes_of}
use Rattle.simplex_member.specs.Journal.{stored_of, votes_since}
use Rattle.simplex_member.specs.MemberFacts.{MemberFacts, SignedMember}
use Rattle.ffi_member.specs.declared.flat.FlatProposal.{FlatProposal}
use Rattle.ffi_member.specs.declared.held.Held.{Held}
use Rattle.ffi_member.specs.declared.view_types.FlatChunk.{FlatChunk}
use Rattle.ffi_member.specs.declared.view_types.FlatEntries.{FlatEntries}
use Rattle.ffi_member.specs.declared.view_types.FlatFound.{FlatFound}
use Rattle.ffi_member.specs.declared.view_types.FlatItem.{FlatItem}
use Rattle.ffi_member.specs.declared.view_types.FlatStored.{FlatStored}
use Rattle.ffi_member.specs.declared.view_types.FlatText.{FlatText}
use Rattle.ffi_member.specs.declared.view_types.FlatView.{FlatView}
use Rattle.ffi_member.specs.Calls.{IsFlatProposal, flat_round}
use Rattle.ffi_member.specs.Journals.{FitsFrame, HasTooLong, HostArtifact, framed}
use Rattle.ffi_member.specs.declared.kinds.CertificateKind.{CertificateKind}
use Rattle.ffi_member.specs.declared.kinds.CertificateKind.TheVariants as certificate
use Rattle.ffi_member.specs.declared.kinds.VoteKind.TheVariants as vote
use Rattle.ffi_member.specs.declared.list_kind.ListKind.{ListKind}
use Rattle.ffi_member.specs.declared.list_kind.ListKind.TheVariants as list
use Rattle.ffi_member.specs.Numbers.{IsNoKind, IsNoListKind, certificate_number, flag_number, index_number, list_number, vote_number}
use Rattle.ffi_member.specs.Resumption.{IsFlatStored}
use Rattle.ffi_member.specs.MemberHandles.{HostReply, IsFetchAt, IsProposalAt, dropped_in, fetches_in, proposals_in, reply_bytes}

-- a member and a state of the host, as contracts see them
abbrev pub HostMember : Type 0
HostMember = SignedMember HostKey HostElector (BytesDigest 32) Order

abbrev pub HostFacts : Type 0
HostFacts = MemberFacts HostKey HostElector (BytesDigest 32)

abbrev pub HostState : Type 0
HostState = StateFacts HostKey HostElector (BytesDigest 32)

-- what is stored beside a member's record, with the number of its entries
pub record IsStoredBeside (m : HostFacts) (f : FlatStored) : Type 0 where
  pub entries : f.entries ≡ length m.entries
  pub stored : IsFlatStored f (stored_of m)

-- nothing changed except what is loaded
abbrev pub IsSame : Held → Held → Type 0
IsSame old new = (new.member ≡ old.member) × (new.last ≡ old.last)

-- the entries after the first ones of a record, the votes among them with their orders
pub record AreViewsAfter (m : HostMember) (count : ℕ) (entries : List HostArtifact) : Type 0 where
  pub behind : entries_of certificate_bytes entries ≡ drop count m.facts.entries
  pub votes : votes_of entries ≡ votes_since count m

-- they are loaded as frames, which hold each of them; or there was no memory for them, or no frame holds one, and
-- nothing is loaded
abbrev pub AreShown : List HostArtifact → FlatEntries → List ℕ → Type 0
AreShown entries r shown =
    ((r.status ≡ 0) × All FitsFrame entries × (shown ≡ framed entries))
    ⊎ ((r.status ≡ 1) × (shown ≡ []))
    ⊎ ((r.status ≡ 14) × HasTooLong entries × (shown ≡ []))

-- how the entries after the first ones of a member's record are loaded
abbrev pub HasEntries : HostMember → ℕ → FlatEntries → List ℕ → Type 0
HasEntries m count r shown = (entries : List HostArtifact) × AreViewsAfter m count entries × AreShown entries r shown

-- how the entries after the first ones of a record are loaded
pub record IsEntries (old : Held) (count : ℕ) (r : FlatEntries) (new : Held) : Type 0 where
  pub same : IsSame old new
  pub entries : HasEntries old.member count r new.shown.items
  pub bytes : r.bytes ≡ length new.shown.items
  pub stored : IsStoredBeside old.member.facts r.stored

-- the proposal that may be forwarded, if there is one
abbrev pub HasForwardable : Option (Proposal (BytesDigest 32)) → ℕ → FlatProposal → Type 0
HasForwardable None has f = has ≡ 0
HasForwardable (Some q) has f = (has ≡ 1) × IsFlatProposal f q

-- what a state knows of itself and of a view
pub record IsViewOf (x : HostState) (view : ℕ) (f : FlatView) : Type 0 where
  pub status : f.status ≡ 0
  pub leader : f.leader ≡ index_number (leader_of x view)
  pub tracked : f.is_tracked ≡ flag_number (is_tracked x view)
  pub votes : f.admits_vote ≡ flag_number (admits_vote x view)
  pub certificates : f.admits_certificate ≡ flag_number (admits_certificate x view)
  pub nullified : f.voted_nullify ≡ flag_number (voted_nullify x view)
  pub notarization : f.has_notarization ≡ flag_number (is_some (notarization_of x view))
  pub nullification : f.has_nullification ≡ flag_number (is_some (nullification_of x view))
  pub finalization : f.has_finalization ≡ flag_number (is_some (finalization_of x view))
  pub forwardable : HasForwardable (forwardable_of x view) f.has_forwardable f.forwardable
  pub epoch : f.epoch ≡ x.settings.epoch
  pub current : f.current ≡ x.current
  pub finalized : f.last_finalized ≡ x.finalized
  pub active : f.min_active ≡ min_active x

-- what a member in this state knows; nothing, if it has failed
abbrev pub IsViewIn : Option HostState → ℕ → FlatView → Type 0
IsViewIn state view f = MatchOption state (f.status ≡ 2) (λ x. IsViewOf x view f)

-- what a member knows
abbrev pub IsView : HostFacts → ℕ → FlatView → Type 0
IsView m view f = IsViewIn m.life view f

-- a view's certificate of a kind, if there is one
abbrev pub certificate_of_kind : CertificateKind → HostState → ℕ → Option (CertificateFacts (BytesDigest 32))
certificate_of_kind certificate.Notarization x view = option_map Notarized (notarization_of x view)
certificate_of_kind certificate.Nullification x view = option_map Nullified (nullification_of x view)
certificate_of_kind certificate.Finalization x view = option_map Finalized (finalization_of x view)

-- a certificate's subject, with its bytes
abbrev pub HasFound : Option (CertificateFacts (BytesDigest 32)) → FlatFound → List ℕ → Type 0
HasFound None r shown = (r.has ≡ 0) × (shown ≡ [])
HasFound (Some (Notarized c)) r shown =
    (r.has ≡ certificate_number certificate.Notarization) × IsFlatProposal r.proposal c.proposal × (shown ≡ c.bytes)
HasFound (Some (Nullified c)) r shown = (r.has ≡ certificate_number certificate.Nullification)
    × (c.round ≡ flat_round r.proposal.round) × (shown ≡ c.bytes)
HasFound (Some (Finalized c)) r shown =
    (r.has ≡ certificate_number certificate.Finalization) × IsFlatProposal r.proposal c.proposal × (shown ≡ c.bytes)

-- a certificate is found, and its bytes are appended to others
abbrev pub ShowsCertificate : Option (CertificateFacts (BytesDigest 32)) → FlatFound → List ℕ → List ℕ → Type 0
ShowsCertificate found r before after =
    (bytes : List ℕ) × HasFound found r bytes × (after ≡ before ++ bytes) × (r.bytes ≡ length bytes)

-- none is loaded, for this status
abbrev pub IsUnfound : ℕ → FlatFound → List ℕ → Type 0
IsUnfound status r shown = (r.status ≡ status) × (r.has ≡ 0) × (shown ≡ [])

-- a certificate is found or not; or there is one, and there was no memory for its bytes
abbrev pub IsFoundOr : Option (CertificateFacts (BytesDigest 32)) → FlatFound → List ℕ → Type 0
IsFoundOr found r shown = ((r.status ≡ 0) × HasFound found r shown) ⊎ (IsSome found × IsUnfound 1 r shown)

-- the same in a state; a member that has failed has none
abbrev pub IsFoundIn : Option HostState → CertificateKind → ℕ → FlatFound → List ℕ → Type 0
IsFoundIn None kind view r shown = IsUnfound 2 r shown
IsFoundIn (Some x) kind view r shown = IsFoundOr (certificate_of_kind kind x view) r shown

-- how a view's certificate is asked for: no certificate has the kind, or it is looked for
abbrev pub HasAnsweredIn : Option HostState → ℕ → ℕ → FlatFound → List ℕ → Type 0
HasAnsweredIn state number view r shown =
    (IsNoKind number × IsUnfound 6 r shown)
    ⊎ ((kind : CertificateKind) × (certificate_number kind ≡ number) × IsFoundIn state kind view r shown)

-- how a view's certificate is loaded
pub record IsFound (old : Held) (kind view : ℕ) (r : FlatFound) (new : Held) : Type 0 where
  pub same : IsSame old new
  pub answered : HasAnsweredIn old.member.facts.life kind view r new.shown.items
  pub bytes : r.bytes ≡ length new.shown.items

-- there is no such item, or this one
abbrev pub IsItemOr : FlatItem → Type 0 → Type 0 → Type 0
IsItemOr r none is = (r.status ≡ 0) × (((r.has ≡ 0) × none) ⊎ ((r.has ≡ 1) × is))

-- an item of a reply's list of a kind
abbrev pub IsItemOf : HostReply → ListKind → ℕ → FlatItem → Type 0
IsItemOf reply list.Proposals index r =
    IsItemOr r (length (proposals_in reply) ≤ index) (IsProposalAt (proposals_in reply) index r.proposal)
IsItemOf reply list.Fetches index r =
    IsItemOr r (length (fetches_in reply) ≤ index) (IsFetchAt (fetches_in reply) index r.fetch)
IsItemOf reply list.Dropped index r =
    IsItemOr r (length (dropped_in reply) ≤ index) (slice_get (dropped_in reply) index ≡ Some r.view)

-- an item of a reply's lists; none, if no list's kind has the number
abbrev pub IsItem : HostReply → ℕ → ℕ → FlatItem → Type 0
IsItem reply number index r =
    (IsNoListKind number × (r.status ≡ 0) × (r.has ≡ 0))
    ⊎ ((kind : ListKind) × (list_number kind ≡ number) × IsItemOf reply kind index r)

-- a part of bytes, from one on: as many as fit
pub record IsChunk (bytes : List ℕ) (from : ℕ) (r : FlatChunk) : Type 0 where
  pub status : r.status ≡ 0
  pub count : r.count ≡ length (take 1024 (drop from bytes))
  pub part : take r.count r.bytes ≡ take 1024 (drop from bytes)

-- a part of the bytes of the last reply, or of those that were loaded last
abbrev pub IsChunkOf : Held → ℕ → ℕ → FlatChunk → Type 0
IsChunkOf held zero from r = IsChunk (reply_bytes held.last) from r
IsChunkOf held (suc _) from r = IsChunk held.shown.items from r

-- the text of a vote, or out of memory
abbrev pub HasText : List ℕ → FlatText → Type 0
HasText bytes r = (r.status ≡ 1) ⊎ ((r.status ≡ 0) × (r.count ≡ length bytes) × (take r.count r.bytes ≡ bytes))

-- the subject of a vote of a kind
abbrev pub IsSubject : ℕ → FlatProposal → Subject (BytesDigest 32) → Type 0
IsSubject kind f (subject.Notarize q) = (kind ≡ vote_number vote.Notarize) × IsFlatProposal f q
IsSubject kind f (subject.Nullify round) = (kind ≡ vote_number vote.Nullify) × (round ≡ flat_round f.round)
IsSubject kind f (subject.Finalize q) = (kind ≡ vote_number vote.Finalize) × IsFlatProposal f q

-- the text that a vote of a kind signs in the network of a namespace; nothing, if no vote has the kind
abbrev pub IsText : List ℕ → ℕ → FlatProposal → FlatText → Type 0
IsText namespace kind f r =
    ((r.status ≡ 6) × IsNoKind kind)
    ⊎ ((s : Subject (BytesDigest 32)) × IsSubject kind f s × HasText (signed_text bytes_in_digest namespace s) r)
