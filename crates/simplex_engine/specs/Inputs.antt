-- The inputs and outputs of an engine.
use Rattle.std.specs.Prelude.{ℕ, List, [], Option, Some, None, Result, Ok, Err, option_to_list}
use Rattle.simplex_types.specs.Certificates.{certificate_facts}
use Rattle.simplex_types.specs.Encoding.{certificate_subject}
use Rattle.simplex_types.specs.declared.types.messages.Subject.{Subject}
use Rattle.engine_votes.specs.declared.batcher.Counted.{Counted}
use Rattle.engine_votes.specs.declared.batcher.Counted.TheVariants.{Certified}
use Rattle.simplex_engine.specs.declared.input.Input.{Input}
use Rattle.simplex_engine.specs.declared.input.Input.TheVariants as input

-- the subject of a certificate that is accepted for this input: of the passed certificate, or of the passed vote
abbrev pub subject_in : {S D K G C : Type 0} → (C → List ℕ) → Input S D K G C → Option (Subject D)
subject_in bytes_of (input.Vote vote) = Some vote.subject
subject_in bytes_of (input.Certificate certificate) =
    Some (certificate_subject (certificate_facts bytes_of certificate))
subject_in bytes_of _ = None

-- the subject of the certificate that a vote completes, if it completes one
abbrev pub subject_made : {S D K G C : Type 0} → (C → List ℕ) → Counted S D K G C → Option (Subject D)
subject_made bytes_of (Certified made) = Some (certificate_subject (certificate_facts bytes_of made))
subject_made bytes_of _ = None

-- the output that a poll returns
abbrev pub returned_outputs : {A E : Type 0} → Result (Option A) E → List A
returned_outputs (Ok out) = option_to_list out
returned_outputs (Err _) = []
