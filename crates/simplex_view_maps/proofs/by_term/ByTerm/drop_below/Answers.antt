-- How the contract of `drop_below` follows: the remaining run begins no lower than the view, and is covered by the
-- remaining table.
use Rattle.std.proofs.Common.{ap, ◌∙◌}
use Rattle.std.specs.Prelude.{max}
use Rattle.simplex_view_maps.proofs.Runs.{lowered_covers, behind_term}
use Rattle.simplex_view_maps.proofs.by_term.ByTerm.drop_below.Goals as goal

pub invariant_of-self : goal.invariant_of-self
invariant_of-self g c w low high =
    let first = c.at_or_above-self-inside.ensures.first ∙ ap (max c.self.inside.run.first) c.end_of_term.ensures.end in
    let positive = rw c.drop_below.ensures at c.end_of_term.ensures.positive in
    let parts = behind_term c.self.inside.run.first c.self.inside.run.end _ w c.at_or_above-self-inside.ensures.in_range
    (rw first at low) (rw c.at_or_above-self-inside.ensures.end at high) in
    let behind = rw c.drop_below.ensures at parts.1 in
    rw c.drop_below.ensures (lowered_covers c.self.inside.table c.args.view positive w behind
    (c.self.invariant w parts.0 (rw c.at_or_above-self-inside.ensures.end at high)))
