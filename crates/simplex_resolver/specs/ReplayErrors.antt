-- The names of refusals, and which one applies.
use Rattle.std.specs.Prelude.{◌≡◌, ℕ, List, Option, MatchOption, codes}
use Rattle.simplex_resolver.specs.declared.replay.error.ReplayError.{ReplayError}
use Rattle.simplex_resolver.specs.declared.replay.error.ReplayError.TheVariants as error

-- why a resolver is not started from a record
abbrev pub replay_error_name : ReplayError → List ℕ
replay_error_name error.ZeroView = codes "ZeroView"
replay_error_name error.ViewTooLarge = codes "ViewTooLarge"
replay_error_name error.VerdictWithoutNotarization = codes "VerdictWithoutNotarization"
replay_error_name error.OutOfMemory = codes "OutOfMemory"

-- the error that applies, and if none does, out of memory
abbrev pub IsDue : Option ReplayError → ReplayError → Type 0
IsDue due found = MatchOption due (found ≡ error.OutOfMemory) (λ e. found ≡ e)
