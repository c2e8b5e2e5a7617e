-- The replies of a voter, by their words.
use Rattle.std.specs.Prelude.{ℕ, List, [], ◌∷◌, ◌++◌, map, codes, decimal, Option, Some, None, Ok, Err}
use Rattle.std.specs.Int.{w64, from_be_bytes}
use Rattle.simplex_types.specs.declared.types.messages.Certificate.{Certificate}
use Rattle.simplex_types.specs.declared.types.messages.Certificate.TheVariants as certificate
use Rattle.simplex_types.specs.declared.types.messages.Context.{Context}
use Rattle.simplex_types.specs.declared.types.messages.Proposal.{Proposal}
use Rattle.simplex_types.specs.declared.types.plain.PlainCertificate.{PlainCertificate}
use Rattle.simplex_types.specs.declared.types.plain.PlainDigest.{PlainDigest}
use Rattle.simplex_types.specs.declared.types.plain.PlainKey.{PlainKey}
use Rattle.simplex_types.specs.declared.types.plain.PlainScheme.{PlainScheme}
use Rattle.simplex_types.specs.declared.types.plain.PlainSignature.{PlainSignature}
use Rattle.simplex_types.specs.declared.types.fault.Fault.TheVariants as fault
use Rattle.simplex_types.specs.Plain.{digest_bytes}
use Rattle.simplex_types.specs.Reasons.{kind_text, timeout_reason_text, handoff_abandoned_reason_text}
use Rattle.simplex_types.specs.MessageViews.{certificate_view}
use Rattle.simplex_voter.specs.declared.voter.candidates.CertificateFetch.{CertificateFetch}
use Rattle.simplex_voter.specs.declared.voter.propose.ProposalRequest.{ProposalRequest}
use Rattle.simplex_voter.specs.declared.voter.propose.ProposalRequest.TheVariants as request
use Rattle.simplex_voter.specs.declared.voter.verify.Verify.{Verify}
use Rattle.simplex_voter.specs.declared.voter.verify.Verify.TheVariants as verify
use Rattle.simplex_member.specs.declared.member.calls.Reply.{Reply}
use Rattle.simplex_member.specs.declared.member.calls.Reply.TheVariants as reply
use Rattle.simplex_program.specs.declared.voter.VoterAnswer.{VoterAnswer}
use Rattle.simplex_program.specs.declared.voter.VoterAnswer.TheVariants as answer
use Rattle.simplex_program.specs.Texts.{fault_words, refusal_words}
use Rattle.simplex_program.specs.Words.{flag_word}

-- a reply to a call of plain parts
abbrev pub PlainReply : Type 0
PlainReply = Reply PlainScheme PlainDigest PlainKey PlainSignature PlainCertificate

-- a certificate of plain parts
abbrev pub PlainCertified : Type 0
PlainCertified = Certificate PlainScheme PlainDigest PlainKey PlainSignature PlainCertificate

-- a payload is written as a number, whose bytes it is
abbrev pub payload_word : PlainDigest → List ℕ
payload_word payload = decimal (from_be_bytes w64 (digest_bytes payload))

-- a key, by its number
abbrev pub key_word : PlainKey → List ℕ
key_word key = decimal key.0

-- the index of a leader that equivocated, or a dash
abbrev pub equivocator_word : Option PlainKey → List ℕ
equivocator_word None = codes "-"
equivocator_word (Some key) = key_word key

-- a view, its parent and its payload
abbrev pub proposal_words : List ℕ → Proposal PlainDigest → List (List ℕ)
proposal_words first p = first ∷ decimal p.round.view ∷ decimal p.parent ∷ payload_word p.payload ∷ []

-- a view, its leader, and the view and the payload of the parent to build on; then other words
abbrev pub context_words : List ℕ → Context PlainDigest PlainKey → List (List ℕ) → List (List ℕ)
context_words first x others =
    first ∷ decimal x.round.view ∷ key_word x.leader ∷ decimal x.parent.0 ∷ payload_word x.parent.1 ∷ others

-- a request to build, in words
abbrev pub request_words : ProposalRequest PlainDigest PlainKey → List (List ℕ)
request_words (request.Prepare context) = context_words (codes "prepare") context []
request_words (request.Propose context) = context_words (codes "propose") context []

-- what is to be verified, or which certificate it waits for, and whose proposal that is
abbrev pub verify_words : Verify PlainDigest PlainKey → List (List ℕ)
verify_words (verify.Ready context proposal) = context_words (codes "ready") context (payload_word proposal.payload ∷ [])
verify_words (verify.Resolve proposal view kind target) =
    codes "resolve" ∷ decimal proposal ∷ decimal view ∷ kind_text kind ∷ key_word target ∷ []
verify_words verify.Wait = codes "wait" ∷ []

-- the view of an offered proposal; and of one that waits, with the view whose notarization is to be fetched
abbrev pub offer_word : Proposal PlainDigest → List ℕ
offer_word p = decimal p.round.view

-- what is to be fetched: the view of the proposal, and that of the certificate
abbrev pub fetch_word : CertificateFetch → List ℕ
fetch_word fetch = decimal fetch.proposal ++ 58 ∷ decimal fetch.view

-- the kind of a certificate
abbrev pub certificate_word : PlainCertified → List ℕ
certificate_word (certificate.Notarization _) = codes "notarization"
certificate_word (certificate.Nullification _) = codes "nullification"
certificate_word (certificate.Finalization _) = codes "finalization"

-- the words of a reply to a call
abbrev pub reply_words : PlainReply → List (List ℕ)
reply_words reply.Unit = codes "ok" ∷ []
reply_words (reply.Flag taken) = flag_word taken ∷ []
reply_words (reply.Added newly equivocator) = codes "added" ∷ flag_word newly ∷ equivocator_word equivocator ∷ []
reply_words (reply.AddedNullification newly) = codes "added" ∷ flag_word newly ∷ []
reply_words (reply.Request None) = codes "none" ∷ []
reply_words (reply.Request (Some request)) = request_words request
reply_words (reply.Work verify) = verify_words verify
reply_words (reply.Candidates proposals fetches) =
    codes "candidates" ∷ (map offer_word proposals.items ++ codes "fetch" ∷ map fetch_word fetches.items)
reply_words (reply.Certified _ None) = codes "none" ∷ []
reply_words (reply.Certified _ (Some notarization)) = codes "certified" ∷ decimal notarization.proposal.round.view ∷ []
reply_words (reply.Notarize None) = codes "none" ∷ []
reply_words (reply.Notarize (Some vote)) = proposal_words (codes "notarize") vote.proposal
reply_words (reply.Nullify None) = codes "none" ∷ []
reply_words (reply.Nullify (Some vote)) = codes "nullify" ∷ decimal vote.1.round.view ∷ flag_word vote.0 ∷ []
reply_words (reply.Finalize None) = codes "none" ∷ []
reply_words (reply.Finalize (Some vote)) = proposal_words (codes "finalize") vote.proposal
reply_words (reply.Certificate None) = codes "none" ∷ []
reply_words (reply.Certificate (Some c)) = certificate_word c ∷ decimal (certificate_view c) ∷ []
reply_words (reply.Timeout moment reason) = codes "timeout" ∷ decimal moment ∷ timeout_reason_text reason ∷ []
reply_words (reply.Views views) = codes "pruned" ∷ map decimal views.items
reply_words (reply.Abandoned None) = codes "none" ∷ []
reply_words (reply.Abandoned (Some reason)) = handoff_abandoned_reason_text reason ∷ []
reply_words (reply.Released _) = codes "ok" ∷ []
reply_words (reply.Triggered _) = codes "ok" ∷ []
reply_words reply.Restarted = codes "ok" ∷ []
reply_words (reply.Fault f) = fault_words f
reply_words reply.NotAllowed = codes "not-allowed" ∷ []

-- the words of a reply to a line
abbrev pub voter_reply_words : VoterAnswer → List (List ℕ)
voter_reply_words (answer.Reply reply) = reply_words reply
voter_reply_words (answer.Restarted (Ok _)) = codes "ok" ∷ []
voter_reply_words (answer.Restarted (Err e)) = refusal_words e
voter_reply_words (answer.Entries count) = codes "record" ∷ decimal count ∷ []
voter_reply_words (answer.Views current finalized min_active) =
    codes "view" ∷ decimal current ∷ decimal finalized ∷ decimal min_active ∷ []
voter_reply_words answer.Failed = fault_words fault.Failed
