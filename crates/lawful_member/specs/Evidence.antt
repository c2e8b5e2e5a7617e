-- Two votes that alone show that their signer broke a rule.
use Rattle.std.specs.Prelude.{◌≡◌, ℕ, List, Option, Some, None}
use Rattle.simplex_types.specs.declared.types.messages.Artifact.{Artifact}
use Rattle.simplex_types.specs.declared.types.messages.Artifact.TheVariants as artifact
use Rattle.simplex_types.specs.declared.types.messages.Subject.{Subject}
use Rattle.simplex_types.specs.declared.types.messages.Subject.TheVariants as subject
use Rattle.laws_safety.specs.Accountability.{IsEvidence}
use Rattle.laws_safety.specs.Traces.{TraceEvent}
use Rattle.laws_safety.specs.Lawful.{HasSigned, IsLawful}

-- the vote in an artifact, with the member that signed it
abbrev pub signed_vote_in : {S D K G C : Type 0} → Artifact S D K G C → Option (ℕ × Subject D)
signed_vote_in (artifact.Notarize vote) = Some (vote.signer, subject.Notarize vote.proposal)
signed_vote_in (artifact.Nullify vote) = Some (vote.signer, subject.Nullify vote.round)
signed_vote_in (artifact.Finalize vote) = Some (vote.signer, subject.Finalize vote.proposal)
signed_vote_in _ = None

module _ {D : Type 0} where
  -- the epoch of a vote
  abbrev pub epoch_of : Subject D → ℕ
  epoch_of (subject.Notarize p) = p.round.epoch
  epoch_of (subject.Nullify round) = round.epoch
  epoch_of (subject.Finalize p) = p.round.epoch

  -- two votes of one member, in one epoch, that are evidence
  abbrev pub AreEvidence : Option (ℕ × Subject D) → Option (ℕ × Subject D) → Type 0
  AreEvidence (Some (i, a)) (Some (j, b)) = (i ≡ j) × (epoch_of a ≡ epoch_of b) × IsEvidence a b
  AreEvidence _ _ = ⊥

  -- a member that signed both did not keep the voting rules, whatever else it did
  abbrev pub ShowsABrokenRule : Option (ℕ × Subject D) → Option (ℕ × Subject D) → Type 0
  ShowsABrokenRule (Some (i, a)) (Some (j, b)) =
      (term_length : ℕ) (trace : List (TraceEvent D)) → HasSigned trace a → HasSigned trace b
      → IsLawful term_length trace → ⊥
  ShowsABrokenRule _ _ = ⊥
