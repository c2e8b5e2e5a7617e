-- How the contract of `certified` follows: a tracked view's verdict is refused for what is due alone, and running out
-- of memory fails the state.
use Rattle.std.proofs.Common.{◌+◌}
use Rattle.simplex_voter.specs.Facts.{is_tracked}
use Rattle.simplex_voter.specs.Refusals.{enters_late}
use Rattle.simplex_voter.proofs.Faults.{failed_now, no_late_verdict}
use Rattle.simplex_voter.proofs.voter.state.State.certified.Goals as goal

pub returns-in-Ok-clause-refused : goal.returns-in-Ok-clause-refused
returns-in-Ok-clause-refused g c = no_late_verdict c.args.self.now.failed c.args.success
    (is_tracked c.args.self.now c.args.view) (enters_late c.args.self.now (c.args.view + 1) c.args.now) _
    c.if-is_failed.ensures c.in-Some.ensures.late.1

pub returns-in-Err-clause-refused : goal.returns-in-Err-clause-refused
returns-in-Err-clause-refused g c = no_late_verdict c.args.self.now.failed c.args.success
    (is_tracked c.args.self.now c.args.view) (enters_late c.args.self.now (c.args.view + 1) c.args.now) _
    c.if-is_failed.ensures c.in-Some.ensures.late.1

pub returns-in-Err-clause-out_of_memory : goal.returns-in-Err-clause-out_of_memory
returns-in-Err-clause-out_of_memory g c none =
    (c.in-Err.ensures.refused, failed_now _ _ _ c.in-Err.ensures.setup c.fail.ensures)
