-- The text of replies: one space separates words, as in a line.
use Rattle.std.specs.Prelude.{ℕ, List, [], ◌∷◌, codes, decimal}
use Rattle.std.specs.List.{join_with_byte}
use Rattle.simplex_types.specs.declared.types.fault.Fault.{Fault}
use Rattle.simplex_types.specs.declared.types.fault.Fault.TheVariants as fault
use Rattle.simplex_types.specs.Fault.{fault_name}
use Rattle.simplex_record.specs.declared.record.error.RecoverError.{RecoverError}
use Rattle.simplex_record.specs.declared.record.error.RecoverError.TheVariants as error
use Rattle.simplex_record.specs.Errors.{recover_error_name}

-- the text of words: one space between each two
abbrev pub text_of : List (List ℕ) → List ℕ
text_of words = join_with_byte 32 words

-- the number of a fault
abbrev pub fault_number : Fault → ℕ
fault_number fault.OutOfMemory = 1
fault_number fault.Failed = 2
fault_number fault.ViewTooLarge = 3
fault_number fault.TimeOverflow = 4

-- a fault, by its number and its name
abbrev pub fault_words : Fault → List (List ℕ)
fault_words f = codes "fault" ∷ decimal (fault_number f) ∷ fault_name f ∷ []

-- the number of a refused restart
abbrev pub refusal_number : RecoverError → ℕ
refusal_number error.OutOfOrder = 1
refusal_number error.OtherEpoch = 2
refusal_number error.ZeroView = 3
refusal_number error.ViewTooLarge = 4
refusal_number error.ForeignSigner = 5
refusal_number error.ParentNotBelow = 6
refusal_number error.VerdictWithoutNotarization = 7
refusal_number error.ContradictingVerdicts = 8
refusal_number error.NullifyBesideFinalize = 9
refusal_number error.ContradictingVotes = 10
refusal_number error.FinalizeWithoutVerdict = 11
refusal_number error.TimeOverflow = 12
refusal_number error.OutOfMemory = 13
refusal_number error.RetentionGrown = 14

-- why a restart was refused, by its number and its name
abbrev pub refusal_words : RecoverError → List (List ℕ)
refusal_words e = codes "refused" ∷ decimal (refusal_number e) ∷ recover_error_name e ∷ []
