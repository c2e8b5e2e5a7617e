-- Certificates that votes complete are backed by them.
use Rattle.std.specs.Prelude.{◌≡◌, ℕ, Bool, List, [], ◌∷◌, ◌++◌, length, All, Contains, None, ◌⊎◌}
use Rattle.simplex_types.specs.declared.types.messages.Subject.{Subject}
use Rattle.simplex_voter.specs.Facts.{Elect}
use Rattle.engine_votes.specs.declared.batcher.Batcher.{Batcher}
use Rattle.simplex_engine.specs.declared.input.Input.{Input}
use Rattle.simplex_engine.specs.declared.input.Input.TheVariants as input
use Rattle.engine_outbox.specs.declared.journaled.Journaled.{Journaled}
use Rattle.engine_votes.specs.declared.votes.Vote.{Vote}
use Rattle.engine_votes.specs.StoredVotes.{AreGiven, HoldsNoOther}
use Rattle.simplex_types.specs.Quorums.{quorum_of, AreRising}
use Rattle.engine_outbox.specs.Continuity.{Continues}

-- the votes that an input passes
abbrev pub votes_of_input : {S D K G C : Type 0} → Input S D K G C → List (Vote D G)
votes_of_input (input.Vote vote) = vote ∷ []
votes_of_input _ = []

module _ {S D K G C : Type 0} where
  -- except for a passed vote, the same votes are stored
  abbrev pub KeepsVotes : Input S D K G C → Batcher S D K G C → Batcher S D K G C → Type 0
  KeepsVotes (input.Vote _) old new = Unit {0}
  KeepsVotes _ old new = new ≡ old

  -- each stored vote is one of those that were passed in, with these appended; the members are the same
  pub record TakesVotes (more : List (Vote D G)) (old new : Batcher S D K G C) : Type 0 where
    pub are_given : (given : List (Vote D G)) → AreGiven given old → AreGiven (given ++ more) new
    pub scheme : new.scheme ≡ old.scheme

  -- or without any new one: each stored vote was stored before
  pub record TakesNone (old new : Batcher S D K G C) : Type 0 where
    pub are_given : (given : List (Vote D G)) → AreGiven given old → AreGiven given new
    pub were_held : HoldsNoOther old new
    pub scheme : new.scheme ≡ old.scheme

-- votes of exactly n - f different members on the subject are among these
pub record HasQuorum {D G : Type 0} (members : ℕ) (given : List (Vote D G)) (subject : Subject D) : Type 0 where
  pub signed : List (ℕ × G)
  pub quorum : length signed ≡ quorum_of members
  pub rising : AreRising members 0 signed
  pub are_given : All (λ s. Contains given (record { subject = subject; signer = s.0; signature = s.1 })) signed

module _ {S L D K G C : Type 0} (same : D → D → Bool) (elect : Elect L) (bytes_of : C → List ℕ)
    (is_signature : K → Subject D → G → Type 0)
    (members : ℕ) where
  -- no certificate is accepted, or it is backed: votes of a quorum on this subject were passed in, these among them
  pub record IsBacked (more : List (Vote D G)) (subject : Subject D) (batcher : Batcher S D K G C)
      (old new : Journaled S L D K G C) : Type 0 where
    pub backed : (given : List (Vote D G)) → AreGiven given batcher
        → Continues same elect bytes_of is_signature None old new ⊎ HasQuorum members (given ++ more) subject

  -- the same for an input that is a vote
  abbrev pub IsBackedInput : Input S D K G C → Batcher S D K G C → Journaled S L D K G C
      → Journaled S L D K G C → Type 0
  IsBackedInput (input.Vote vote) batcher old new = IsBacked (vote ∷ []) vote.subject batcher old new
  IsBackedInput _ batcher old new = Unit {0}
