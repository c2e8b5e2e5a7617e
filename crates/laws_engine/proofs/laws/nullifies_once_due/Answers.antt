-- of all matters a timeout's alone lets a view be nullified, and replies alone give it
use Rattle.laws_engine.proofs.TimeoutCauses.{nullified_once_due}
use Rattle.laws_engine.proofs.laws.nullifies_once_due.Goals as goal

pub returns : goal.returns
returns g c = λ same elect bytes bytes_of now came out held old new it view reply there.
    nullified_once_due same elect bytes_of now _ _ it.steps _ _ _ _ _ it.by_steps view reply there
