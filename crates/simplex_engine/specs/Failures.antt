-- Why a call of an engine fails.
use Rattle.std.specs.Prelude.{◌≡◌, Bool, if◌then◌else◌}
use Rattle.simplex_types.specs.declared.types.fault.Fault.{Fault}
use Rattle.simplex_types.specs.declared.types.fault.Fault.TheVariants.{OutOfMemory, Failed}

-- an engine that had failed returns only that; one that fails now returns out of memory
abbrev pub IsFailure : (had_failed : Bool) → Fault → Type 0
IsFailure had_failed fault = fault ≡ (if had_failed then Failed else OutOfMemory)
