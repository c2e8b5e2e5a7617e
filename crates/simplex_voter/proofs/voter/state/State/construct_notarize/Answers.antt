-- How the contract of `construct_notarize` follows: the rule names a tracked view that may be notarized, and running
-- out of memory fails the state.
use Rattle.std.proofs.Common.{sym}
use Rattle.simplex_voter.proofs.Rules.{notarize_round}
use Rattle.simplex_voter.proofs.Faults.{failed_now}
use Rattle.simplex_voter.proofs.voter.state.State.construct_notarize.Goals as goal

pub cast_notarize-requires-clause-may : goal.cast_notarize-requires-clause-may
cast_notarize-requires-clause-may g c = notarize_round _ _ _ _ (sym c.if-not-may_notarize.ensures.may)

pub cast_notarize-requires-clause-view : goal.cast_notarize-requires-clause-view
cast_notarize-requires-clause-view g c = c.may_notarize.ensures.room c.if-not-may_notarize.false

pub returns-in-Err-clause-out_of_memory : goal.returns-in-Err-clause-out_of_memory
returns-in-Err-clause-out_of_memory g c none =
    (c.in-Err.ensures.refused, failed_now _ _ _ c.in-Err.ensures.setup c.fail.ensures)
