-- How a part of a call ends without a reply: running out of memory in the middle loses the state. No public clause
-- names this.
use Rattle.std.specs.Prelude.{◌≡◌, Bool, true, false, Option, Some, None, Result, Ok, Err}
use Rattle.simplex_types.specs.declared.types.fault.Fault.{Fault}
use Rattle.simplex_types.specs.declared.types.fault.Fault.TheVariants.{OutOfMemory}
use Rattle.simplex_voter.specs.Facts.{StateFacts}
use Rattle.simplex_member.specs.OutstandingWork.{OutstandingWork}

-- the state is lost
abbrev pub is_lost : {T : Type 0} → Result T Fault → Bool
is_lost (Err OutOfMemory) = true
is_lost _ = false

-- it may be, and there was no fault
abbrev pub IsLoss : Bool → Option Fault → Type 0
IsLoss true due = due ≡ None
IsLoss false due = ⊥

-- the state is lost, if it may be and there was no fault; or the part is refused for its fault, with all unchanged
abbrev pub Ends : {K L D : Type 0} → Bool → Option Fault → StateFacts K L D → StateFacts K L D → Fault → Type 0
Ends may_fall due x y OutOfMemory = IsLoss may_fall due
Ends may_fall due x y fault = (due ≡ Some fault) × (y ≡ x)

-- the open requests stay unchanged, unless the state is lost
abbrev pub UnchangedUnlessLost : {K D : Type 0} → OutstandingWork K D → OutstandingWork K D → Fault → Type 0
UnchangedUnlessLost o left OutOfMemory = Unit {0}
UnchangedUnlessLost o left fault = left ≡ o

-- what was passed in is new, by the state's result
abbrev pub is_new : {T : Type 0} → (T → Bool) → Result T Fault → Bool
is_new so (Ok answer) = so answer
is_new so (Err fault) = false
