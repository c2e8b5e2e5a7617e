-- no reply gives what comes from outside
use Rattle.laws_engine.proofs.ReceivedCalls.{calls_replied}
use Rattle.laws_engine.proofs.laws.calls_were_received_before.Goals as goal

pub returns : goal.returns
returns g c = λ same elect bytes bytes_of now came out held old new it call reply there.
    calls_replied same elect bytes_of now _ _ it.steps _ _ _ _ _ it.by_steps call reply there
