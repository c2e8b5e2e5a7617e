-- How the contract of `first_deadline` follows: the first entered round of the range has the deadline, and those before
-- it are passed by.
use Rattle.std.proofs.Common.{ap, sym, ◌∙◌}
use Rattle.std.specs.Prelude.{option_and_then}
use Rattle.simplex_voter.specs.Timeouts.{is_entered_between, standing_deadline}
use Rattle.simplex_voter.proofs.Stalls.{first_found, first_next, first_end}
use Rattle.simplex_voter.proofs.voter.timeouts.first_deadline.Goals as goal

pub returns-then-is_entered_between : goal.returns-then-is_entered_between
returns-then-is_entered_between g c =
    c.stall_deadline.ensures
    ∙ ap (option_and_then (λ e. standing_deadline e.1))
    (sym (first_found (is_entered_between c.args.finalized c.args.current) _ _ c.loop-entry.invariant _ _
    c.in-Some.ensures c.if-is_entered_between.ensures))

pub loop-entry-preserved : goal.loop-entry-preserved
loop-entry-preserved g c = first_next (is_entered_between c.args.finalized c.args.current) _ _ c.loop-entry.invariant _
    _ c.in-Some.ensures c.if-is_entered_between.ensures

pub returns : goal.returns
returns g c = ap (option_and_then (λ e. standing_deadline e.1))
    (sym
    (first_end (is_entered_between c.args.finalized c.args.current) _ _ c.loop-entry.invariant c.in_default.ensures.0))
