-- How the program ends if it can't continue to serve.
use Rattle.std.specs.Prelude.{ℕ}
use Rattle.simplex_program.specs.declared.serve_error.ServeError.{ServeError}
use Rattle.simplex_program.specs.declared.serve_error.ServeError.TheVariants.{NotACall, OutOfMemory, Read, Write}

-- the exit status for the reason why the program ended
abbrev pub exit_status : ServeError → ℕ
exit_status (NotACall _) = 3
exit_status OutOfMemory = 4
exit_status Read = 5
exit_status Write = 5
