-- The view of a message.
use Rattle.std.specs.Prelude.{ℕ}
use Rattle.simplex_types.specs.declared.types.messages.Certificate.{Certificate}
use Rattle.simplex_types.specs.declared.types.messages.Certificate.TheVariants as certificate
use Rattle.simplex_types.specs.declared.types.messages.Artifact.{Artifact}
use Rattle.simplex_types.specs.declared.types.messages.Artifact.TheVariants as artifact
use Rattle.simplex_types.specs.declared.types.messages.Subject.{Subject}
use Rattle.simplex_types.specs.declared.types.messages.Subject.TheVariants as subject

-- the view of a certificate
abbrev pub certificate_view : {S D K G C : Type 0} → Certificate S D K G C → ℕ
certificate_view (certificate.Notarization n) = n.proposal.round.view
certificate_view (certificate.Nullification n) = n.round.view
certificate_view (certificate.Finalization f) = f.proposal.round.view

-- of an artifact
abbrev pub artifact_view : {S D K G C : Type 0} → Artifact S D K G C → ℕ
artifact_view (artifact.Notarize vote) = vote.proposal.round.view
artifact_view (artifact.Notarization n) = n.proposal.round.view
artifact_view (artifact.Certification round _) = round.view
artifact_view (artifact.Nullify vote) = vote.round.view
artifact_view (artifact.Nullification n) = n.round.view
artifact_view (artifact.Finalize vote) = vote.proposal.round.view
artifact_view (artifact.Finalization f) = f.proposal.round.view

-- of a vote's subject
abbrev pub subject_view : {D : Type 0} → Subject D → ℕ
subject_view (subject.Notarize p) = p.round.view
subject_view (subject.Nullify round) = round.view
subject_view (subject.Finalize p) = p.round.view
