-- How the contract of `has_refused` follows: one of the views so far decides for all, or the rest does.
use Rattle.std.proofs.Common.{refl}
use Rattle.simplex_voter.specs.Rounds.{is_refused_above}
use Rattle.simplex_voter.proofs.Between.{any_found, any_next, any_end}
use Rattle.simplex_voter.proofs.voter.ranges.has_refused.Goals as goal

pub loop-entry-init : goal.loop-entry-init
loop-entry-init g c = refl

pub returns-then-was_refused_above : goal.returns-then-was_refused_above
returns-then-was_refused_above g c = any_found (λ e. is_refused_above c.args.rounds.now c.args.above e.0) _ _
    c.loop-entry.invariant _ _ c.in-Some.ensures c.if-was_refused_above.ensures

pub loop-entry-preserved : goal.loop-entry-preserved
loop-entry-preserved g c = any_next (λ e. is_refused_above c.args.rounds.now c.args.above e.0) _ _
    c.loop-entry.invariant _ _ c.in-Some.ensures c.if-was_refused_above.ensures

pub returns : goal.returns
returns g c = any_end (λ e. is_refused_above c.args.rounds.now c.args.above e.0) _ _ c.loop-entry.invariant
    c.in_default.ensures.0
