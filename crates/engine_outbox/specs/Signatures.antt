-- The signatures of votes: each stored vote, and so each emitted one, is the member's, signed under its key on its own
-- subject.
use Rattle.std.specs.Prelude.{◌≡◌, ℕ, List, [], ◌++◌, Contains, Some, IfSome, slice_get}
use Rattle.simplex_types.specs.declared.types.messages.Subject.{Subject}
use Rattle.simplex_member.specs.MemberFacts.{MemberFacts, SignedMember}
use Rattle.simplex_member.specs.declared.member.journal.Stored.{Stored}
use Rattle.engine_votes.specs.declared.votes.Vote.{Vote}
use Rattle.engine_outbox.specs.declared.journaled.Journaled.{Journaled}
use Rattle.engine_outbox.specs.declared.output.Output.{Output}
use Rattle.engine_outbox.specs.Entries.{votes_of_entries}
use Rattle.engine_outbox.specs.Outputs.{stored_in}
use Rattle.engine_outbox.specs.HostStops.{votes_recorded}

-- if the member signs, it signs as this one and under this key
abbrev pub SignsBy : {K L D : Type 0} → ℕ → K → MemberFacts K L D → Type 0
SignsBy i key m = IfSome m.life
    (λ x. (signer : ℕ) → x.me ≡ Some signer → (signer ≡ i) × (slice_get x.members signer ≡ Some key))

module _ {K D G : Type 0} (is_signature : K → Subject D → G → Type 0) (i : ℕ) (key : K) where
  -- each of these votes is this member's, with a signature on exactly its subject, under the key
  abbrev pub AreSigned : List (Vote D G) → Type 0
  AreSigned votes = (vote : Vote D G) → Contains votes vote → (vote.signer ≡ i)
      × is_signature key vote.subject vote.signature

module _ {S L D K G C : Type 0} (is_signature : K → Subject D → G → Type 0) where
  -- the member signs under the key, and the votes of its record are signed under it, and those that the returned or
  -- queued outputs store
  pub record IsSignedBy (i : ℕ) (key : K) (given : List (Output S D Stored K G C))
      (member : Journaled S L D K G C) : Type 0 where
    pub signs : SignsBy i key member.member.facts
    pub recorded : AreSigned is_signature i key (votes_recorded member.member.votes)
    pub stored : AreSigned is_signature i key (votes_of_entries (stored_in (given ++ member.outbox.queue.items)))

  -- votes that were signed so still are
  abbrev pub StaysSigned : Journaled S L D K G C → Journaled S L D K G C → Type 0
  StaysSigned old new = (i : ℕ) (key : K) (given : List (Output S D Stored K G C)) → IsSignedBy i key given old
      → IsSignedBy i key given new

  -- they are at the beginning of a lifetime, if those of the record are
  abbrev pub BeginsSigned : SignedMember K L D G → Journaled S L D K G C → Type 0
  BeginsSigned begun member =
      (i : ℕ) (key : K) → SignsBy i key begun.facts → AreSigned is_signature i key (votes_recorded begun.votes)
      → IsSignedBy i key [] member

  -- votes that were signed so still are once these outputs were returned
  abbrev pub EmitsSigned : List (Output S D Stored K G C) → Journaled S L D K G C → Journaled S L D K G C → Type 0
  EmitsSigned out old new = (i : ℕ) (key : K) (given : List (Output S D Stored K G C)) → IsSignedBy i key given old
      → IsSignedBy i key (given ++ out) new
