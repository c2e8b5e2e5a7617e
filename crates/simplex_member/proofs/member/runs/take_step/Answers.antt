-- How the contract of `take_step` follows: a restart that is refused ends the run with its error.
use Rattle.std.proofs.lemmas.Result.{err_from_is_err_and}
use Rattle.simplex_member.proofs.member.runs.take_step.Goals as goal

pub returns-in_err-restart-in-Restart-clause-refused : goal.returns-in_err-restart-in-Restart-clause-refused
returns-in_err-restart-in-Restart-clause-refused g c =
    let p = err_from_is_err_and c.from_residual.result c.from_residual.ensures.1 in
    rw (p.1, p.2, c.in-Restart.is) (c.restart.new.self.facts, c.in_err-restart-in-Restart.ensures.restarted)
