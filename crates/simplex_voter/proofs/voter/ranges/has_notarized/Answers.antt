-- How the contract of `has_notarized` follows: one of the rounds so far decides for all, or the rest does.
use Rattle.std.proofs.Common.{refl}
use Rattle.simplex_voter.specs.Windows.{is_notarized}
use Rattle.simplex_voter.proofs.Between.{any_found, any_next, any_end}
use Rattle.simplex_voter.proofs.voter.ranges.has_notarized.Goals as goal

pub loop-entry-init : goal.loop-entry-init
loop-entry-init g c = refl

pub returns-then-is_directly_notarized : goal.returns-then-is_directly_notarized
returns-then-is_directly_notarized g c = any_found (λ e. is_notarized e.1) c.args.entries c.loop-entry.entries
    c.loop-entry.invariant _ _ c.in-Some.ensures c.if-is_directly_notarized.ensures

pub loop-entry-preserved : goal.loop-entry-preserved
loop-entry-preserved g c = any_next (λ e. is_notarized e.1) c.args.entries c.loop-entry.entries c.loop-entry.invariant _
    _ c.in-Some.ensures c.if-is_directly_notarized.ensures

pub returns : goal.returns
returns g c = any_end (λ e. is_notarized e.1) c.args.entries c.loop-entry.entries c.loop-entry.invariant
    c.in_default.ensures.0
