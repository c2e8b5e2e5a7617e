-- How a call through a handle is served, and what is read of the last reply.
use Rattle.std.specs.Prelude.{◌≡◌, ◌⊎◌, ◌++◌, ℕ, Bool, List, [], Option, Some, IfSome, slice_get}
use Rattle.std.specs.Str.{bytes_eq}
use Rattle.simplex_types.specs.declared.types.numbers.Round.{Round}
use Rattle.simplex_types.specs.declared.types.messages.Proposal.{Proposal}
use Rattle.simplex_types.specs.declared.types.messages.Certificate.TheVariants as certificate
use Rattle.simplex_voter.specs.declared.voter.candidates.CertificateFetch.{CertificateFetch}
use Rattle.simplex_codec.specs.declared.digest.BytesDigest.{BytesDigest}
use Rattle.simplex_codec.specs.Digests.{bytes_in_digest}
use Rattle.ffi_scheme.specs.declared.elector.HostElector.{HostElector}
use Rattle.ffi_scheme.specs.declared.scheme.HostCertificate.{HostCertificate}
use Rattle.ffi_scheme.specs.declared.scheme.HostKey.{HostKey}
use Rattle.ffi_scheme.specs.declared.scheme.HostScheme.{HostScheme}
use Rattle.ffi_scheme.specs.declared.scheme.Order.{Order}
use Rattle.ffi_scheme.specs.HostLeaders.{leader_after}
use Rattle.ffi_scheme.specs.Host.{IsOrder, certificate_bytes}
use Rattle.simplex_member.specs.declared.member.calls.Reply.{Reply}
use Rattle.simplex_member.specs.declared.member.calls.Reply.TheVariants as reply
use Rattle.simplex_member.specs.Calls.{reply_facts}
use Rattle.simplex_member.specs.MemberFacts.{IsCall}
use Rattle.simplex_member.specs.ReplySignatures.{IsSignedReply, signed_reply}
use Rattle.ffi_member.specs.declared.flat.FlatCall.{FlatCall}
use Rattle.ffi_member.specs.declared.flat.FlatFetch.{FlatFetch}
use Rattle.ffi_member.specs.declared.flat.FlatProposal.{FlatProposal}
use Rattle.ffi_member.specs.declared.flat.FlatReply.{FlatReply}
use Rattle.ffi_member.specs.declared.held.Held.{Held}
use Rattle.ffi_member.specs.Calls.{PassesCertificate, HasNumbers, HostCallFacts, IsAskedBy, IsNoFlatCall, IsFlatProposal}
use Rattle.ffi_member.specs.Replies.{RepresentsReply}

-- two payloads have the same bytes
abbrev pub same_host_payload : BytesDigest 32 → BytesDigest 32 → Bool
same_host_payload d e = bytes_eq (bytes_in_digest d) (bytes_in_digest e)

-- the leader of a round, after a certificate of these bytes
abbrev pub host_leader : HostElector → Round → Option (List ℕ) → ℕ
host_leader e round seed = leader_after e round.view seed

-- no call was made, and everything is unchanged: one of its numbers is not valid for a call, or there was no memory for
-- its certificate
abbrev pub IsNotMade : Held → FlatCall → FlatReply → Held → Type 0
IsNotMade old f r new = (new ≡ old) × (((r.status ≡ 6) × IsNoFlatCall f) ⊎ ((r.status ≡ 7) × PassesCertificate f))

-- the call that the flat one represents was made
pub record IsCallMade (old : Held) (f : FlatCall) (bytes : List ℕ) (r : FlatReply) (new : Held) : Type 0 where
  pub call : HostCallFacts
  pub numbers : HasNumbers f
  pub is_asked : IsAskedBy f bytes call
  -- the member replied to it, by its contract; its reply is stored
  pub made : IsCall same_host_payload host_leader old.member.facts call
      (reply_facts certificate_bytes new.last) new.member.facts
  -- the flat reply represents that reply
  pub tells : RepresentsReply r (reply_facts certificate_bytes new.last)
  -- a vote in it is ordered, for exactly its own bytes
  pub ordered : IfSome old.member.facts.life (IsSignedReply (IsOrder bytes_in_digest) new.last)
  -- it comes last among the record's votes, with its order
  pub votes : new.member.votes ≡ old.member.votes ++ signed_reply new.last
  pub shown : new.shown ≡ old.shown

-- a flat call is served: nothing was done, or the call was made
abbrev pub IsCallServed : Held → FlatCall → List ℕ → FlatReply → Held → Type 0
IsCallServed old f bytes r new = IsNotMade old f r new ⊎ IsCallMade old f bytes r new

-- a reply of a member of the host
abbrev pub HostReply : Type 0
HostReply = Reply HostScheme (BytesDigest 32) HostKey Order HostCertificate

-- the text of a vote's order, or the bytes of a certificate
abbrev pub reply_bytes : HostReply → List ℕ
reply_bytes (reply.Notarize (Some vote)) = vote.signature.text
reply_bytes (reply.Nullify (Some (_, vote))) = vote.signature.text
reply_bytes (reply.Finalize (Some vote)) = vote.signature.text
reply_bytes (reply.Certified _ (Some it)) = certificate_bytes it.certificate
reply_bytes (reply.Certificate (Some (certificate.Notarization it))) = certificate_bytes it.certificate
reply_bytes (reply.Certificate (Some (certificate.Nullification it))) = certificate_bytes it.certificate
reply_bytes (reply.Certificate (Some (certificate.Finalization it))) = certificate_bytes it.certificate
reply_bytes _ = []

-- the proposals that a reply offers, the certificates that it asks to be fetched, and the views that it dropped
abbrev pub proposals_in : HostReply → List (Proposal (BytesDigest 32))
proposals_in (reply.Candidates proposals _) = proposals.items
proposals_in _ = []

abbrev pub fetches_in : HostReply → List CertificateFetch
fetches_in (reply.Candidates _ fetches) = fetches.items
fetches_in _ = []

abbrev pub dropped_in : HostReply → List ℕ
dropped_in (reply.Views views) = views.items
dropped_in _ = []

-- the proposal at an index of a list
abbrev pub IsProposalAt : List (Proposal (BytesDigest 32)) → ℕ → FlatProposal → Type 0
IsProposalAt proposals index f =
    (q : Proposal (BytesDigest 32)) × (slice_get proposals index ≡ Some q) × IsFlatProposal f q

-- the fetch at an index of a list
abbrev pub IsFetchAt : List CertificateFetch → ℕ → FlatFetch → Type 0
IsFetchAt fetches index f = slice_get fetches index ≡ Some (record { proposal = f.proposal; view = f.view })
