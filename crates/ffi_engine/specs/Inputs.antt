-- Which input of an engine a flat one represents.
use Rattle.std.specs.Prelude.{◌≡◌, ◌⊎◌, ◌<◌, ◌≤◌, ℕ, List}
use Rattle.simplex_types.specs.declared.types.messages.Certificate.{Certificate}
use Rattle.simplex_types.specs.declared.types.messages.Certificate.TheVariants as certificate
use Rattle.simplex_types.specs.declared.types.messages.Subject.{Subject}
use Rattle.simplex_types.specs.declared.types.messages.Subject.TheVariants as subject
use Rattle.simplex_codec.specs.declared.digest.BytesDigest.{BytesDigest}
use Rattle.simplex_codec.specs.Digests.{bytes_in_digest}
use Rattle.ffi_scheme.specs.declared.scheme.HostCertificate.{HostCertificate}
use Rattle.ffi_scheme.specs.declared.scheme.HostKey.{HostKey}
use Rattle.ffi_scheme.specs.declared.scheme.HostScheme.{HostScheme}
use Rattle.ffi_scheme.specs.declared.scheme.Order.{Order}
use Rattle.ffi_scheme.specs.Host.{certificate_bytes, host_key_in}
use Rattle.simplex_engine.specs.declared.input.Input.{Input}
use Rattle.simplex_engine.specs.declared.input.Input.TheVariants as input
use Rattle.engine_votes.specs.declared.votes.Vote.{Vote}
use Rattle.ffi_member.specs.Calls.{IsFlatProposal, flat_round}
use Rattle.ffi_member.specs.declared.kinds.CertificateKind.TheVariants as kind
use Rattle.ffi_member.specs.declared.kinds.VoteKind.TheVariants as vote
use Rattle.ffi_member.specs.Numbers.{certificate_number, flag_number, reason_number, vote_number}
use Rattle.ffi_member.specs.Replies.{IsContext}
use Rattle.ffi_engine.specs.declared.flat.FlatInput.{FlatInput}
use Rattle.ffi_engine.specs.declared.flat.FlatSubject.{FlatSubject}
use Rattle.ffi_engine.specs.declared.input_kind.InputKind.{InputKind}
use Rattle.ffi_engine.specs.declared.input_kind.InputKind.TheVariants as of

-- an input, a certificate and a vote of an engine of the host
abbrev pub HostInput : Type 0
HostInput = Input HostScheme (BytesDigest 32) HostKey Order HostCertificate

abbrev pub HostCertified : Type 0
HostCertified = Certificate HostScheme (BytesDigest 32) HostKey Order HostCertificate

abbrev pub HostVote : Type 0
HostVote = Vote (BytesDigest 32) Order

-- the kind of a vote or certificate is valid
abbrev pub HasKind : FlatSubject → Type 0
HasKind f = (0 < f.kind) × (f.kind < 4)

abbrev pub IsNoKind : FlatSubject → Type 0
IsNoKind f = (f.kind ≡ 0) ⊎ (4 ≤ f.kind)

-- the subject of a vote, by the number of its kind
abbrev pub IsOn : FlatSubject → Subject (BytesDigest 32) → Type 0
IsOn f (subject.Notarize q) = (f.kind ≡ vote_number vote.Notarize) × IsFlatProposal f.proposal q
IsOn f (subject.Nullify round) = (f.kind ≡ vote_number vote.Nullify) × (round ≡ flat_round f.proposal.round)
IsOn f (subject.Finalize q) = (f.kind ≡ vote_number vote.Finalize) × IsFlatProposal f.proposal q

-- a vote on this subject of this member, under a signature of these bytes as its own
pub record IsVote (f : FlatSubject) (bytes : List ℕ) (v : HostVote) : Type 0 where
  pub on : IsOn f v.subject
  pub signer : v.signer ≡ f.member
  pub index : v.signature.index ≡ f.member
  pub signature : v.signature.text ≡ bytes

-- a certificate on this subject, of these bytes
abbrev pub IsCertificate : FlatSubject → List ℕ → HostCertified → Type 0
IsCertificate f bytes (certificate.Notarization it) =
    (f.kind ≡ certificate_number kind.Notarization) × IsFlatProposal f.proposal it.proposal
    × (certificate_bytes it.certificate ≡ bytes)
IsCertificate f bytes (certificate.Nullification it) =
    (f.kind ≡ certificate_number kind.Nullification) × (it.round ≡ flat_round f.proposal.round)
    × (certificate_bytes it.certificate ≡ bytes)
IsCertificate f bytes (certificate.Finalization it) =
    (f.kind ≡ certificate_number kind.Finalization) × IsFlatProposal f.proposal it.proposal
    × (certificate_bytes it.certificate ≡ bytes)

-- the number of an input's kind
abbrev pub input_number : InputKind → ℕ
input_number of.Proposal = 1
input_number of.Vote = 2
input_number of.Certificate = 3
input_number of.Verified = 4
input_number of.Built = 5
input_number of.Certified = 6
input_number of.GivenUp = 7

abbrev pub IsInputKind : ℕ → Type 0
IsInputKind number = (0 < number) × (number < 8)

abbrev pub IsNoInputKind : ℕ → Type 0
IsNoInputKind number = (number ≡ 0) ⊎ (8 ≤ number)

-- the input of an engine in the network of a namespace that a flat one represents, with these bytes
abbrev pub IsPassedAs : List ℕ → FlatInput → List ℕ → HostInput → Type 0
IsPassedAs namespace f bytes (input.Proposal from q) =
    (f.kind ≡ input_number of.Proposal) × (from ≡ f.subject.member) × IsFlatProposal f.subject.proposal q
IsPassedAs namespace f bytes (input.Vote v) = (f.kind ≡ input_number of.Vote) × IsVote f.subject bytes v
IsPassedAs namespace f bytes (input.Certificate c) =
    (f.kind ≡ input_number of.Certificate) × IsCertificate f.subject bytes c
IsPassedAs namespace f bytes (input.Verified v success) =
    (f.kind ≡ input_number of.Verified) × (v ≡ f.view) × (flag_number success ≡ f.success)
IsPassedAs namespace f bytes (input.Built c payload) =
    (f.kind ≡ input_number of.Built) × IsContext f.context c × (c.leader ≡ host_key_in namespace f.subject.member)
    × (bytes_in_digest payload ≡ f.subject.proposal.payload)
IsPassedAs namespace f bytes (input.Certified v success) =
    (f.kind ≡ input_number of.Certified) × (v ≡ f.view) × (flag_number success ≡ f.success)
IsPassedAs namespace f bytes (input.GivenUp v reason) =
    (f.kind ≡ input_number of.GivenUp) × (v ≡ f.view) × (reason_number reason ≡ f.reason)

-- it passes a signature or a certificate
abbrev pub PassesBytes : FlatInput → Type 0
PassesBytes f = ((f.kind ≡ input_number of.Vote) ⊎ (f.kind ≡ input_number of.Certificate)) × HasKind f.subject

-- one of its numbers is not valid for an input
abbrev pub IsNoInput : FlatInput → Type 0
IsNoInput f = IsNoInputKind f.kind ⊎ (10 ≤ f.reason) ⊎ (2 ≤ f.success)
    ⊎ (((f.kind ≡ input_number of.Vote) ⊎ (f.kind ≡ input_number of.Certificate)) × IsNoKind f.subject)

-- each of them is valid, also if the kind does not read it
abbrev pub HasInputNumbers : FlatInput → Type 0
HasInputNumbers f = IsInputKind f.kind × (f.reason < 10) × (f.success < 2)
