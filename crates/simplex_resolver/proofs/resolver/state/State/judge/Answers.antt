-- How the contract of `judge` follows: a true verdict is recorded as a success.
use Rattle.simplex_resolver.proofs.resolver.state.State.judge.Goals as goal

pub returns-then-success-clause-after : goal.returns-then-success-clause-after
returns-then-success-clause-after g c = rw c.if-success.true c.record_success.ensures.after
