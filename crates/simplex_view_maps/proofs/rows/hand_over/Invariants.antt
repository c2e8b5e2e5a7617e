-- The loop of `hand_over`: the room has come to a row, and the entries are the same.
use Rattle.std.proofs.Common.{◌≡◌, ◌≤◌, ◌-◌}
use Rattle.simplex_view_maps.specs.Rows.{row_entries, HasRoomAt}
use Rattle.simplex_view_maps.proofs.rows.hand_over.Given as goal

abbrev pub invariant-loop-row : goal.invariant-loop-row
invariant-loop-row g l = record {
  above : l.from ≤ l.row;
  same : row_entries l.rows.items ≡ row_entries l.fn.rows.items;
  room : HasRoomAt l.row l.rows.items;
}

abbrev pub decreases-loop-row : goal.decreases-loop-row
decreases-loop-row g l = l.row - l.from
