-- How the contract of `set_floor` follows: a fault at genesis is passed on as it is.
use Rattle.simplex_voter.proofs.Faults.{passed_on}
use Rattle.simplex_voter.proofs.voter.state.State.set_floor.Goals as goal

pub returns-in-Err-clause-refused : goal.returns-in-Err-clause-refused
returns-in-Err-clause-refused g c = rw c.in-Genesis.is (passed_on _ _ _ _ c.in-Err.fault c.in-Err.ensures.refused)

pub returns-in-Err-clause-out_of_memory : goal.returns-in-Err-clause-out_of_memory
returns-in-Err-clause-out_of_memory g c = rw c.in-Genesis.is c.in-Err.ensures.out_of_memory
