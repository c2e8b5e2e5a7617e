-- What a flat output represents.
use Rattle.std.specs.Prelude.{◌≡◌, ℕ, List, []}
use Rattle.simplex_types.specs.declared.types.messages.Certificate.TheVariants as certificate
use Rattle.simplex_codec.specs.declared.digest.BytesDigest.{BytesDigest}
use Rattle.ffi_scheme.specs.declared.elector.HostElector.{HostElector}
use Rattle.ffi_scheme.specs.declared.scheme.HostCertificate.{HostCertificate}
use Rattle.ffi_scheme.specs.declared.scheme.HostKey.{HostKey}
use Rattle.ffi_scheme.specs.declared.scheme.HostScheme.{HostScheme}
use Rattle.ffi_scheme.specs.declared.scheme.Order.{Order}
use Rattle.ffi_scheme.specs.Host.{certificate_bytes}
use Rattle.simplex_member.specs.declared.member.journal.Stored.{Stored}
use Rattle.simplex_engine.specs.declared.engine.Engine.{Engine}
use Rattle.engine_fetches.specs.declared.fetches.Ask.{Ask}
use Rattle.engine_fetches.specs.declared.fetches.FetchKind.{FetchKind}
use Rattle.engine_fetches.specs.declared.fetches.FetchKind.TheVariants as fetch
use Rattle.engine_outbox.specs.declared.output.Output.{Output}
use Rattle.engine_outbox.specs.declared.output.Output.TheVariants as output
use Rattle.engine_outbox.specs.declared.output.Work.{Work}
use Rattle.engine_outbox.specs.declared.output.Work.TheVariants as work
use Rattle.ffi_member.specs.Calls.{IsFlatProposal, flat_round}
use Rattle.ffi_member.specs.declared.kinds.CertificateKind.TheVariants as kind
use Rattle.ffi_member.specs.Numbers.{certificate_number, index_number}
use Rattle.ffi_member.specs.Replies.{IsContext}
use Rattle.ffi_engine.specs.declared.flat.FlatOutput.{FlatOutput}
use Rattle.ffi_engine.specs.declared.flat.FlatSubject.{FlatSubject}
use Rattle.ffi_engine.specs.declared.output_kind.OutputKind.{OutputKind}
use Rattle.ffi_engine.specs.declared.output_kind.OutputKind.TheVariants as output_kind
use Rattle.ffi_engine.specs.Inputs.{HostCertified, HostVote, IsOn}

-- an engine of the host
abbrev pub HostEngine : Type 0
HostEngine = Engine HostScheme HostElector (BytesDigest 32) HostKey Order HostCertificate

-- an output of an engine of the host
abbrev pub HostOutput : Type 0
HostOutput = Output HostScheme (BytesDigest 32) Stored HostKey Order HostCertificate

abbrev pub HostWork : Type 0
HostWork = Work HostScheme (BytesDigest 32) HostKey Order HostCertificate

-- the number of an output's kind
abbrev pub output_number : OutputKind → ℕ
output_number output_kind.Nothing = 0
output_number output_kind.Store = 1
output_number output_kind.Replace = 2
output_number output_kind.Vote = 3
output_number output_kind.Broadcast = 4
output_number output_kind.Verify = 5
output_number output_kind.Build = 6
output_number output_kind.StopBuilding = 7
output_number output_kind.Certify = 8
output_number output_kind.Fetch = 9
output_number output_kind.Finalized = 10
output_number output_kind.Equivocated = 11
output_number output_kind.ProposedTwice = 12
output_number output_kind.Forget = 13

-- a vote is on this subject, of this member
abbrev pub IsVoteOf : FlatSubject → HostVote → Type 0
IsVoteOf f v = IsOn f v.subject × (f.member ≡ v.signer)

-- a certificate is on this subject
abbrev pub IsOf : FlatSubject → HostCertified → Type 0
IsOf f (certificate.Notarization it) =
    (f.kind ≡ certificate_number kind.Notarization) × IsFlatProposal f.proposal it.proposal
IsOf f (certificate.Nullification it) =
    (f.kind ≡ certificate_number kind.Nullification) × (it.round ≡ flat_round f.proposal.round)
IsOf f (certificate.Finalization it) =
    (f.kind ≡ certificate_number kind.Finalization) × IsFlatProposal f.proposal it.proposal

-- the number of a fetch: that of the certificate, or a number of its own
abbrev pub fetch_number : FetchKind → ℕ
fetch_number fetch.Notarization = certificate_number kind.Notarization
fetch_number fetch.Nullification = certificate_number kind.Nullification
fetch_number fetch.Decision = 4

-- what to fetch, and of whom
pub record IsFetch (ask : Ask) (f : FlatOutput) : Type 0 where
  pub kind : f.kind ≡ output_number output_kind.Fetch
  pub fetched : f.fetch ≡ fetch_number ask.kind
  pub view : f.view ≡ ask.view
  pub of : f.member ≡ index_number ask.of

-- the flat form of work
abbrev pub IsWork : HostWork → FlatOutput → Type 0
IsWork (work.Broadcast c) f = (f.kind ≡ output_number output_kind.Broadcast) × IsOf f.subject c
IsWork (work.Verify c q) f =
    (f.kind ≡ output_number output_kind.Verify) × IsContext f.context c × (f.subject.member ≡ c.leader.index)
    × IsFlatProposal f.subject.proposal q
IsWork (work.Build c) f =
    (f.kind ≡ output_number output_kind.Build) × IsContext f.context c × (f.subject.member ≡ c.leader.index)
IsWork (work.StopBuilding v) f = (f.kind ≡ output_number output_kind.StopBuilding) × (f.view ≡ v)
IsWork (work.Certify q) f = (f.kind ≡ output_number output_kind.Certify) × IsFlatProposal f.subject.proposal q
IsWork (work.Fetch ask) f = IsFetch ask f
IsWork (work.Equivocated v w) f =
    (f.kind ≡ output_number output_kind.Equivocated) × IsVoteOf f.subject v × IsVoteOf f.other w
IsWork (work.ProposedTwice v leader) f =
    (f.kind ≡ output_number output_kind.ProposedTwice) × (f.view ≡ v) × (f.member ≡ leader.index)
IsWork (work.Forget v) f = (f.kind ≡ output_number output_kind.Forget) × (f.view ≡ v)

-- the flat form of an output, without its bytes and without what is stored beside a journal
abbrev pub HasOutputOf : HostOutput → FlatOutput → Type 0
HasOutputOf (output.Store entries) f = f.kind ≡ output_number output_kind.Store
HasOutputOf (output.Replace entries beside) f = f.kind ≡ output_number output_kind.Replace
HasOutputOf (output.Vote v) f = (f.kind ≡ output_number output_kind.Vote) × IsVoteOf f.subject v
HasOutputOf (output.Finalized q) f =
    (f.kind ≡ output_number output_kind.Finalized) × IsFlatProposal f.subject.proposal q
HasOutputOf (output.Work w) f = IsWork w f

-- the bytes of a certificate
abbrev pub certified_bytes : HostCertified → List ℕ
certified_bytes (certificate.Notarization it) = certificate_bytes it.certificate
certified_bytes (certificate.Nullification it) = certificate_bytes it.certificate
certified_bytes (certificate.Finalization it) = certificate_bytes it.certificate

-- the text to sign, a certificate, or the first signature of two
abbrev pub first_bytes_in : HostOutput → List ℕ
first_bytes_in (output.Vote v) = v.signature.text
first_bytes_in (output.Work (work.Broadcast c)) = certified_bytes c
first_bytes_in (output.Work (work.Equivocated v w)) = v.signature.text
first_bytes_in _ = []

-- the second signature of two
abbrev pub other_signature : HostOutput → List ℕ
other_signature (output.Work (work.Equivocated v w)) = w.signature.text
other_signature _ = []
