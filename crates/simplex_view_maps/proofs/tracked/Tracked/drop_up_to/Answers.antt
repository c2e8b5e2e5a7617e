-- How the contract of `drop_up_to` follows: the first entries, as many as are at or below the view, are dropped, and
-- the rest stays sorted.
use Rattle.std.proofs.Common.{◌∙◌}
use Rattle.simplex_view_maps.proofs.Maps.{entries_of_made, at_or_above_read, made_from_entries, sorted_from_entries}
use Rattle.simplex_view_maps.proofs.Unboxed.{unboxed-drop}
use Rattle.simplex_view_maps.proofs.tracked.Tracked.drop_up_to.Goals as goal

pub invariant_of-self : goal.invariant_of-self
invariant_of-self g c =
    let same = entries_of_made _ _ c.self.view_is c.self.invariant in
    sorted_from_entries _ _ (unboxed-drop c.self.inside.entries c.drop_first.new.entries c.end_of-end.result
    c.drop_first.ensures ∙ at_or_above_read _ _ _ _ same c.end_of-end.ensures)

pub returns : goal.returns
returns g c =
    let same = entries_of_made _ _ c.self.view_is c.self.invariant in
    made_from_entries _ _ (unboxed-drop c.self.inside.entries c.drop_first.new.entries c.end_of-end.result
    c.drop_first.ensures ∙ at_or_above_read _ _ _ _ same c.end_of-end.ensures)
