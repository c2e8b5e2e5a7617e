-- How the contract of `add_row` follows: an empty row after full ones adds no entry, and has room.
use Rattle.std.proofs.Common.{◌≡◌, ◌-◌, ◌∙◌, ap, length, arith}
use Rattle.std.specs.VecDeque.{deque_len}
use Rattle.simplex_view_maps.specs.Rows.{row_entries}
use Rattle.simplex_view_maps.proofs.CutRows.{on_err, full_cut, joined_pushed, room_pushed}
use Rattle.simplex_view_maps.proofs.rows.add_row.Goals as goal

pub returns-in_err-reserve-clause-cut : goal.returns-in_err-reserve-clause-cut
returns-in_err-reserve-clause-cut g c = on_err _
    (full_cut c.reserve.new.self.items (rw c.reserve.ensures.items c.requires))

pub returns-in_err-row-clause-cut : goal.returns-in_err-row-clause-cut
returns-in_err-row-clause-cut g c = on_err _ (full_cut c.reserve.new.self.items (rw c.reserve.ensures.items c.requires))

pub returns-clause-same : goal.returns-clause-same
returns-clause-same g c =
    ap row_entries c.push_back_reserved.ensures.items
    ∙ joined_pushed c.reserve.new.self.items c.in_ok-row.row c.in_ok-row.ensures.items
    ∙ ap row_entries c.reserve.ensures.items

pub returns-clause-room : goal.returns-clause-room
returns-clause-room g c =
    let last : deque_len c.push_back_reserved.new.self - 1 ≡ length c.reserve.new.self.items =
    omega (arith, c.push_back_reserved.ensures.len, c.reserve.new.self.ok.0) in
    rw (c.push_back_reserved.ensures.items, last)
    (room_pushed c.reserve.new.self.items c.in_ok-row.row (rw c.reserve.ensures.items c.requires)
    c.in_ok-row.ensures.len (omega (arith, c.in_ok-row.ensures.exact)))
