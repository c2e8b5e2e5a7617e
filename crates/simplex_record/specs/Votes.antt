-- The votes of a record, each with its signature.
use Rattle.std.specs.Prelude.{ℕ, ◌-◌, nat_le, List, [], ◌∷◌, filter}
use Rattle.std.specs.List.{flat_map}
use Rattle.simplex_types.specs.Certificates.{ArtifactFacts, NotarizeVote, NullifyVote, FinalizeVote}
use Rattle.simplex_types.specs.declared.types.messages.Artifact.{Artifact}
use Rattle.simplex_types.specs.declared.types.messages.Artifact.TheVariants as artifact
use Rattle.simplex_record.specs.Cuts.{finalized_in}
use Rattle.simplex_record.specs.Entries.{entry_view}

-- a vote as the entry that records it, with its signature
pub record SignedVote (D G : Type 0) : Type 0 where
  pub vote : ArtifactFacts D
  pub signature : G

module _ {S D K G C : Type 0} where
  -- the vote in an artifact, if it is one
  abbrev pub signed_vote : Artifact S D K G C → List (SignedVote D G)
  signed_vote (artifact.Notarize vote) =
      record { vote = NotarizeVote vote.proposal vote.signer; signature = vote.signature } ∷ []
  signed_vote (artifact.Nullify vote) =
      record { vote = NullifyVote vote.round vote.signer; signature = vote.signature } ∷ []
  signed_vote (artifact.Finalize vote) =
      record { vote = FinalizeVote vote.proposal vote.signer; signature = vote.signature } ∷ []
  signed_vote _ = []

  -- those of a record, oldest first
  abbrev pub votes_of : List (Artifact S D K G C) → List (SignedVote D G)
  votes_of artifacts = flat_map signed_vote artifacts

-- the votes that remain after a pruning of these entries
abbrev pub pruned_votes : {D G : Type 0} → ℕ → List (ArtifactFacts D) → List (SignedVote D G) → List (SignedVote D G)
pruned_votes retention entries votes = filter (λ v. nat_le (finalized_in entries - retention) (entry_view v.vote)) votes
