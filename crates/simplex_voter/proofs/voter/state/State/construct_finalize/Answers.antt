-- How the contract of `construct_finalize` follows: the rule names a tracked view that may be finalized, and running
-- out of memory fails the state.
use Rattle.std.proofs.Common.{sym}
use Rattle.simplex_voter.proofs.Rules.{finalize_round}
use Rattle.simplex_voter.proofs.Faults.{failed_now}
use Rattle.simplex_voter.proofs.voter.state.State.construct_finalize.Goals as goal

pub cast_finalize-requires : goal.cast_finalize-requires
cast_finalize-requires g c = finalize_round _ _ _ (sym c.if-not-may_finalize.ensures)

pub returns-in-Err-clause-out_of_memory : goal.returns-in-Err-clause-out_of_memory
returns-in-Err-clause-out_of_memory g c none =
    (c.in-Err.ensures.refused, failed_now _ _ _ c.in-Err.ensures.setup c.fail.ensures)
