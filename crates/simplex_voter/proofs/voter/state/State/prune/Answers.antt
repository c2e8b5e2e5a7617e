-- How the contract of `prune` follows: running out of memory fails the state.
use Rattle.simplex_voter.proofs.Faults.{failed_here}
use Rattle.simplex_voter.proofs.voter.state.State.prune.Goals as goal

pub returns-in-Err-clause-out_of_memory : goal.returns-in-Err-clause-out_of_memory
returns-in-Err-clause-out_of_memory g c none = (c.in-Err.ensures.refused, failed_here _ _ c.fail.ensures)
