-- How the contract of `renew` follows: the record has the floor's finalization before the state is remade from it.
use Rattle.std.proofs.lemmas.Result.{err_from_is_err_and}
use Rattle.simplex_member.proofs.member.restart.renew.Goals as goal

pub returns-in_err-state-clause-refused : goal.returns-in_err-state-clause-refused
returns-in_err-state-clause-refused g c =
    let p = err_from_is_err_and c.from_residual.result c.from_residual.ensures.1 in
    rw (p.1, p.2, ← c.deref.ensures.value) c.in_err-state.ensures.refused

pub returns-clause-renewed : goal.returns-clause-renewed
returns-clause-renewed g c = rw (← c.deref.ensures.value) c.in_ok-state.ensures.remade
