-- The meaning of a held proposal's standing, when a scan for proposals to verify comes to it.
use Rattle.std.specs.Prelude.{ℕ, Bool, true, false, Option, Some, None}
use Rattle.simplex_voter.specs.declared.voter.verify.Standing.{Standing}
use Rattle.simplex_voter.specs.declared.voter.verify.Standing.TheVariants.{Invalid, Lacks, Ready}

-- a proposal of this standing is returned for verification
abbrev pub is_given_out : {D : Type 0} → Standing D → Bool
is_given_out (Ready _) = true
is_given_out _ = false

-- its parent is invalid for good
abbrev pub is_invalid : {D : Type 0} → Standing D → Bool
is_invalid Invalid = true
is_invalid _ = false

-- the view of its missing certificate
abbrev pub lacked_view : {D : Type 0} → Standing D → Option ℕ
lacked_view (Lacks w _) = Some w
lacked_view _ = None
