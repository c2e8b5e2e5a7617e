-- What a voter that lines call does: the call of each line, its reply, and the member after it.
use Rattle.std.specs.Prelude.{◌≡◌, ◌⊎◌, ℕ, Bool, true, false, [], ◌∷◌, length, Option, Some, None}
use Rattle.std.specs.Int.{w64, to_be_bytes}
use Rattle.simplex_types.specs.declared.types.messages.Proposal.{Proposal}
use Rattle.simplex_types.specs.declared.types.plain.PlainDigest.{PlainDigest}
use Rattle.simplex_types.specs.declared.types.plain.PlainElector.{PlainElector}
use Rattle.simplex_types.specs.declared.types.plain.PlainKey.{PlainKey}
use Rattle.simplex_types.specs.declared.reasons.TimeoutReason.TheVariants.{InvalidProposal}
use Rattle.simplex_types.specs.Plain.{digest_bytes}
use Rattle.simplex_voter.specs.Facts.{StateFacts}
use Rattle.simplex_voter.specs.Windows.{min_active}
use Rattle.simplex_member.specs.Calls.{AddNotarization, AddNullification, AddFinalization, SetProposal, TryPropose, Proposed, SupersedeProposalRequest, PendingHandoffAbandonment, ReleaseProposalRequest, TryVerify, Verified, VerificationFailed, ConstructNotarize, CertifyCandidates, SetCertifyHandle, Certified, ConstructNullify, ConstructFinalize, BroadcastNotarization, BroadcastNullification, BroadcastFinalization, GetBestCertificate, TriggerTimeout, NextTimeout, Prune as PruneCall, reply_facts}
use Rattle.simplex_member.specs.MemberFacts.{IsCall}
use Rattle.simplex_member.specs.Restarts.{IsRestart}
use Rattle.simplex_record.specs.Start.{StartFacts}
use Rattle.simplex_program.specs.declared.network.Network.{Network}
use Rattle.simplex_program.specs.declared.voter_line.CertificateKind.TheVariants as kind
use Rattle.simplex_program.specs.declared.voter_line.VoterLine.{VoterLine}
use Rattle.simplex_program.specs.declared.voter_line.VoterLine.TheVariants.{Notarization, Nullification, Finalization, Verdict, Notarize, Nullify, Finalize, Broadcast, Best, Prune, Proposal as ProposalOf, Release, Propose, Proposed as Built, Supersede, Abandon, Verify, Verified as FoundValid, Rejected, Candidates, Token, Trigger, Timeout, Restart, RestartPruned, Record, Views}
use Rattle.simplex_program.specs.declared.voter.VoterAnswer.{VoterAnswer}
use Rattle.simplex_program.specs.declared.voter.VoterAnswer.TheVariants as answer
use Rattle.simplex_program.specs.Plain.{PlainMember, PlainCall, same_payload, plain_leader, plain_bytes, round_in_epoch}
use Rattle.simplex_program.specs.Setup.{IsGenesisStart}

-- the payload and the proposal that the numbers of a line name

-- a payload is the bytes of this number
abbrev pub IsPayload : ℕ → PlainDigest → Type 0
IsPayload d payload = digest_bytes payload ≡ to_be_bytes w64 d

-- a proposal has these numbers
pub record IsProposal (v p d : ℕ) (q : Proposal PlainDigest) : Type 0 where
  pub round : q.round ≡ round_in_epoch v
  pub parent : q.parent ≡ p
  pub payload : IsPayload d q.payload

-- the call that a line names; its certificate is valid, its proposal is of the view that it is passed for, and a
-- rejected proposal is invalid
abbrev pub DenotesCall : VoterLine → PlainCall → Type 0
DenotesCall (Notarization v p d) (AddNotarization c) = IsProposal v p d c.proposal × (c.bytes ≡ 1 ∷ [])
DenotesCall (Nullification v now) (AddNullification c moment) =
    (c.round ≡ round_in_epoch v) × (c.bytes ≡ 1 ∷ []) × (moment ≡ now)
DenotesCall (Finalization v p d now) (AddFinalization c moment) =
    IsProposal v p d c.proposal × (c.bytes ≡ 1 ∷ []) × (moment ≡ now)
DenotesCall (Verdict v success now) call = call ≡ Certified v success now
DenotesCall (ProposalOf v p d) (SetProposal w q) = (w ≡ v) × IsProposal v p d q
DenotesCall Propose call = call ≡ TryPropose
DenotesCall (Built v d now) (Proposed w payload moment) = (w ≡ v) × IsPayload d payload × (moment ≡ now)
DenotesCall (Supersede v) call = call ≡ SupersedeProposalRequest v
DenotesCall (Abandon v) call = call ≡ PendingHandoffAbandonment v
DenotesCall (Release v) call = call ≡ ReleaseProposalRequest v
DenotesCall Verify call = call ≡ TryVerify
DenotesCall (FoundValid v) call = call ≡ Verified v
DenotesCall (Rejected v now) call = call ≡ VerificationFailed v InvalidProposal now
DenotesCall Candidates call = call ≡ CertifyCandidates
DenotesCall (Token v token) call = call ≡ SetCertifyHandle v token
DenotesCall (Notarize v) call = call ≡ ConstructNotarize v
DenotesCall (Nullify v) call = call ≡ ConstructNullify v
DenotesCall (Finalize v) call = call ≡ ConstructFinalize v
DenotesCall (Broadcast kind.Notarization v) call = call ≡ BroadcastNotarization v
DenotesCall (Broadcast kind.Nullification v) call = call ≡ BroadcastNullification v
DenotesCall (Broadcast kind.Finalization v) call = call ≡ BroadcastFinalization v
DenotesCall Best call = call ≡ GetBestCertificate
DenotesCall (Trigger v reason now) call = call ≡ TriggerTimeout v reason now
DenotesCall (Timeout now) call = call ≡ NextTimeout now
DenotesCall Prune call = call ≡ PruneCall
DenotesCall _ _ = ⊥

-- the lines that are calls: a certificate or a verdict is passed
abbrev pub brings : VoterLine → Bool
brings (Notarization _ _ _) = true
brings (Nullification _ _) = true
brings (Finalization _ _ _ _) = true
brings (Verdict _ _ _) = true
brings _ = false

-- this member builds a proposal
abbrev pub builds_proposals : VoterLine → Bool
builds_proposals Propose = true
builds_proposals (Built _ _ _) = true
builds_proposals (Supersede _) = true
builds_proposals (Abandon _) = true
builds_proposals (Release _) = true
builds_proposals _ = false

-- a leader's proposal arrives, is verified or certified
abbrev pub is_about_proposals : VoterLine → Bool
is_about_proposals (ProposalOf _ _ _) = true
is_about_proposals Verify = true
is_about_proposals (FoundValid _) = true
is_about_proposals (Rejected _ _) = true
is_about_proposals Candidates = true
is_about_proposals (Token _ _) = true
is_about_proposals _ = false

-- a vote, a certificate, a timeout or a pruning is asked for
abbrev pub asks : VoterLine → Bool
asks (Notarize _) = true
asks (Nullify _) = true
asks (Finalize _) = true
asks (Broadcast _ _) = true
asks Best = true
asks (Trigger _ _ _) = true
asks (Timeout _) = true
asks Prune = true
asks _ = false

-- what a member reports of its state
abbrev pub shown_views : Option (StateFacts PlainKey PlainElector PlainDigest) → VoterAnswer
shown_views None = answer.Failed
shown_views (Some x) = answer.Views x.current x.finalized (min_active x)

-- the reply to a call, and the member after it
abbrev pub IsReplied : PlainMember → PlainCall → VoterAnswer → PlainMember → Type 0
IsReplied m call (answer.Reply reply) left = IsCall same_payload plain_leader m call
    (reply_facts plain_bytes reply) left
IsReplied _ _ _ _ = ⊥

-- the result of a restart of the network's member, and the member after it; the record is cut as asked, and pruned or
-- not
abbrev pub IsRestarted : Network → PlainMember → ℕ → Bool → ℕ → VoterAnswer → PlainMember → Type 0
IsRestarted n m drop prune now (answer.Restarted result) left =
    (start : StartFacts PlainKey PlainElector PlainDigest)
    × IsGenesisStart n now start
    × IsRestart same_payload plain_leader m (record { drop = drop; prune = prune; start = start }) result left
IsRestarted _ _ _ _ _ _ _ = ⊥

-- whether a line is no call of the member
abbrev pub is_no_call : VoterLine → Bool
is_no_call (Restart _ _) = true
is_no_call (RestartPruned _ _) = true
is_no_call Record = true
is_no_call Views = true
is_no_call _ = false

-- what such a line does: a restart, or it shows the number of entries, or the views
abbrev pub IsDone : Network → PlainMember → VoterLine → VoterAnswer → PlainMember → Type 0
IsDone n m (Restart drop now) a left = IsRestarted n m drop false now a left
IsDone n m (RestartPruned drop now) a left = IsRestarted n m drop true now a left
IsDone n m Record a left = (a ≡ answer.Entries (length m.entries)) × (left ≡ m)
IsDone n m _ a left = (a ≡ shown_views m.life) × (left ≡ m)

-- the reply to a line, and the member after it
abbrev pub VoterAnswers : Network → PlainMember → VoterLine → VoterAnswer → PlainMember → Type 0
VoterAnswers n m line a left =
    ((is_no_call line ≡ true) × IsDone n m line a left)
    ⊎ ((call : PlainCall) × DenotesCall line call × IsReplied m call a left)
