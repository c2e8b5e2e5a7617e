-- step by step
use Rattle.laws_engine.proofs.ReceivedCalls.{left_given}
use Rattle.laws_engine.proofs.laws.work_was_given.Goals as goal

pub returns : goal.returns
returns g c = λ same elect bytes bytes_of now came out held old new it.
    left_given same elect bytes_of now _ _ it.steps _ _ _ _ _ it.by_steps
