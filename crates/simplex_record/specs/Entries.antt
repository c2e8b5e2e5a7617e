-- The subjects of a record's entries. An entry is an artifact by its facts.
use Rattle.std.specs.Prelude.{ℕ, List, Option, Some, None, map}
use Rattle.simplex_types.specs.Certificates.{CertificateFacts, Notarized, Nullified, Finalized, ArtifactFacts, NotarizeVote, NullifyVote, FinalizeVote, Verdict, Accepted, artifact_facts}
use Rattle.simplex_types.specs.declared.types.messages.Artifact.{Artifact}
use Rattle.simplex_types.specs.declared.types.numbers.Round.{Round}

-- the entries of a record, oldest first
abbrev pub entries_of : {S D K G C : Type 0} → (C → List ℕ) → List (Artifact S D K G C) → List (ArtifactFacts D)
entries_of bytes_of artifacts = map (artifact_facts bytes_of) artifacts

module _ {D : Type 0} where
  -- the view of a certificate
  abbrev pub certificate_round : CertificateFacts D → Round
  certificate_round (Notarized c) = c.proposal.round
  certificate_round (Nullified c) = c.round
  certificate_round (Finalized c) = c.proposal.round

  -- the parent's view that it names
  abbrev pub certificate_parent : CertificateFacts D → Option ℕ
  certificate_parent (Notarized c) = Some c.proposal.parent
  certificate_parent (Nullified _) = None
  certificate_parent (Finalized c) = Some c.proposal.parent

module _ {D : Type 0} where
  -- the view of an entry, with its epoch
  abbrev pub entry_round : ArtifactFacts D → Round
  entry_round (NotarizeVote p _) = p.round
  entry_round (NullifyVote round _) = round
  entry_round (FinalizeVote p _) = p.round
  entry_round (Verdict round _) = round
  entry_round (Accepted c) = certificate_round c

  -- its number
  abbrev pub entry_view : ArtifactFacts D → ℕ
  entry_view e = (entry_round e).view
