-- The names of faults.
use Rattle.std.specs.Prelude.{ℕ, List, codes}
use Rattle.simplex_types.specs.declared.types.fault.Fault.{Fault}
use Rattle.simplex_types.specs.declared.types.fault.Fault.TheVariants.{OutOfMemory, Failed, ViewTooLarge, TimeOverflow}

-- the name of a fault
abbrev pub fault_name : Fault → List ℕ
fault_name OutOfMemory = codes "OutOfMemory"
fault_name Failed = codes "Failed"
fault_name ViewTooLarge = codes "ViewTooLarge"
fault_name TimeOverflow = codes "TimeOverflow"
