-- How the contract of `set_genesis` follows: a late deadline of view 1 is the one fault that is due, and running out of
-- memory fails the state.
use Rattle.simplex_voter.proofs.Faults.{no_late_fault, failed_now}
use Rattle.simplex_voter.proofs.voter.state.State.set_genesis.Goals as goal

pub returns-in-Err-clause-refused : goal.returns-in-Err-clause-refused
returns-in-Err-clause-refused g c = no_late_fault _ _ _ _ c.if-is_failed.ensures c.in-Some.ensures.late.1

pub returns-in-Err-clause-out_of_memory : goal.returns-in-Err-clause-out_of_memory
returns-in-Err-clause-out_of_memory g c none =
    (c.in-Err.ensures.refused, failed_now _ _ _ c.in-Err.ensures.setup c.fail.ensures)
