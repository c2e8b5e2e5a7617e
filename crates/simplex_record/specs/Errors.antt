-- The names of refusals.
use Rattle.std.specs.Prelude.{ℕ, List, codes}
use Rattle.simplex_record.specs.declared.record.error.RecoverError.{RecoverError}
use Rattle.simplex_record.specs.declared.record.error.RecoverError.TheVariants as error
use Rattle.simplex_types.specs.Config.{config_error_name}
use Rattle.simplex_record.specs.declared.record.settings.StartError.{StartError}
use Rattle.simplex_record.specs.declared.record.settings.StartError.TheVariants as start_error

-- why no state is made from a record
abbrev pub recover_error_name : RecoverError → List ℕ
recover_error_name error.OutOfOrder = codes "OutOfOrder"
recover_error_name error.OtherEpoch = codes "OtherEpoch"
recover_error_name error.ZeroView = codes "ZeroView"
recover_error_name error.ViewTooLarge = codes "ViewTooLarge"
recover_error_name error.ForeignSigner = codes "ForeignSigner"
recover_error_name error.ParentNotBelow = codes "ParentNotBelow"
recover_error_name error.VerdictWithoutNotarization = codes "VerdictWithoutNotarization"
recover_error_name error.ContradictingVerdicts = codes "ContradictingVerdicts"
recover_error_name error.NullifyBesideFinalize = codes "NullifyBesideFinalize"
recover_error_name error.ContradictingVotes = codes "ContradictingVotes"
recover_error_name error.FinalizeWithoutVerdict = codes "FinalizeWithoutVerdict"
recover_error_name error.TimeOverflow = codes "TimeOverflow"
recover_error_name error.OutOfMemory = codes "OutOfMemory"
recover_error_name error.RetentionGrown = codes "RetentionGrown"

-- why a member does not start
abbrev pub start_error_name : StartError → List ℕ
start_error_name (start_error.Config e) = config_error_name e
start_error_name start_error.OtherMembers = codes "OtherMembers"
