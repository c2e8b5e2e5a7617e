-- How the contract of `add_nullification` follows: running out of memory fails the state, and keeps its setup.
use Rattle.simplex_voter.proofs.Faults.{failed_now}
use Rattle.simplex_voter.proofs.voter.state.State.add_nullification.Goals as goal

pub returns-in-Err-clause-out_of_memory : goal.returns-in-Err-clause-out_of_memory
returns-in-Err-clause-out_of_memory g c none =
    (c.in-Err.ensures.refused, failed_now _ _ _ c.in-Err.ensures.setup c.fail.ensures)
