-- The subjects of votes.
use Rattle.std.specs.Prelude.{Bool, false}
use Rattle.simplex_types.specs.declared.types.messages.Subject.{Subject}
use Rattle.simplex_types.specs.declared.types.numbers.Round.{Round}
use Rattle.simplex_types.specs.declared.types.messages.Subject.TheVariants as subject
use Rattle.simplex_types.specs.Proposal.{same_round, same_proposal}

-- of one kind, on one proposal or round, by a test of payloads
abbrev pub same_subject : {D : Type 0} → (D → D → Bool) → Subject D → Subject D → Bool
same_subject same (subject.Notarize p) (subject.Notarize q) = same_proposal same p q
same_subject same (subject.Nullify r) (subject.Nullify s) = same_round r s
same_subject same (subject.Finalize p) (subject.Finalize q) = same_proposal same p q
same_subject same _ _ = false

-- the epoch and the view of a vote
abbrev pub subject_round : {D : Type 0} → Subject D → Round
subject_round (subject.Notarize p) = p.round
subject_round (subject.Nullify round) = round
subject_round (subject.Finalize p) = p.round
