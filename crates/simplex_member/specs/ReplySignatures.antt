-- The signatures of the votes that a member returns.
use Rattle.std.specs.Prelude.{Bool, true, false, List, [], Option, Some, None, if◌then◌else◌}
use Rattle.simplex_types.specs.Signatures.{IsSignedAs}
use Rattle.simplex_types.specs.declared.types.messages.Artifact.TheVariants as artifact
use Rattle.simplex_types.specs.declared.types.messages.Finalize as finalize
use Rattle.simplex_types.specs.declared.types.messages.Notarize as notarize
use Rattle.simplex_types.specs.declared.types.messages.Nullify as nullify
use Rattle.simplex_types.specs.declared.types.messages.Subject.{Subject}
use Rattle.simplex_types.specs.declared.types.messages.Subject.TheVariants as subject
use Rattle.simplex_record.specs.Votes.{SignedVote, signed_vote}
use Rattle.simplex_voter.specs.Facts.{StateFacts}
use Rattle.simplex_member.specs.declared.member.calls.Reply.{Reply}
use Rattle.simplex_member.specs.declared.member.calls.Reply.TheVariants as reply

module _ {S L D K G C : Type 0} (is_signature : K → Subject D → G → Type 0) where
  -- a returned vote is signed on exactly its subject, under the key of the state's member
  abbrev pub IsSignedReply : Reply S D K G C → StateFacts K L D → Type 0
  IsSignedReply (reply.Notarize (Some vote)) x =
      IsSignedAs is_signature x.me x.members (subject.Notarize vote.proposal) vote.signature
  IsSignedReply (reply.Nullify (Some (_, vote))) x =
      IsSignedAs is_signature x.me x.members (subject.Nullify vote.round) vote.signature
  IsSignedReply (reply.Finalize (Some vote)) x =
      IsSignedAs is_signature x.me x.members (subject.Finalize vote.proposal) vote.signature
  IsSignedReply _ x = Unit {0}

-- whether a reply is to a request for a vote
abbrev pub is_vote_reply : {S D K G C : Type 0} → Reply S D K G C → Bool
is_vote_reply (reply.Notarize _) = true
is_vote_reply (reply.Nullify _) = true
is_vote_reply (reply.Finalize _) = true
is_vote_reply _ = false

-- the returned vote to notarize, as a record holds it
abbrev pub signed_notarize : {S D K G C : Type 0} → Option (notarize.Notarize S D K G C) → List (SignedVote D G)
signed_notarize None = []
signed_notarize (Some vote) = signed_vote (artifact.Notarize vote)

-- the returned vote to nullify: nothing if it is a repeat
abbrev pub signed_nullify : {S D K G C : Type 0} → Option (Bool × nullify.Nullify S K G C) → List (SignedVote D G)
signed_nullify None = []
signed_nullify {D = D} (Some (retry, vote)) = if retry then [] else signed_vote {D = D} (artifact.Nullify vote)

-- the returned vote to finalize
abbrev pub signed_finalize : {S D K G C : Type 0} → Option (finalize.Finalize S D K G C) → List (SignedVote D G)
signed_finalize None = []
signed_finalize (Some vote) = signed_vote (artifact.Finalize vote)

-- the vote in a reply, unless it is a repeat
abbrev pub signed_reply : {S D K G C : Type 0} → Reply S D K G C → List (SignedVote D G)
signed_reply (reply.Notarize vote) = signed_notarize vote
signed_reply (reply.Nullify vote) = signed_nullify vote
signed_reply (reply.Finalize vote) = signed_finalize vote
signed_reply _ = []
