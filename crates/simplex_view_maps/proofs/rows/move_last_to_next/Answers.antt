-- How the contract of `move_last_to_next` follows: the last entry of a row, moved to the front of the next row, keeps
-- all entries in order, and moves the room.
use Rattle.std.proofs.Common.{◌≡◌, ◌+◌, ◌^◌, ◌<◌, suc, set, subst, ap, ◌∙◌, arith, rules}
use Rattle.simplex_view_maps.specs.Rows.{row_entries, HasRoomAt}
use Rattle.simplex_view_maps.proofs.CutRows.{room_within, has_room, full_before, next_row, handed_same, handed_room}
use Rattle.simplex_view_maps.proofs.rows.move_last_to_next.Goals as goal

pub index_mut-requires : goal.index_mut-requires
index_mut-requires g c = omega (arith, room_within _ _ c.requires, c.args.rows.now.ok.0)

pub unreachable-requires : goal.unreachable-requires
unreachable-requires g c =
    let full = full_before _ _ _ c.requires c.index_mut.ensures.value in
    omega (arith, full, c.in_default.ensures.cases)

pub overflow_add-row : goal.overflow_add-row
overflow_add-row g c =
    let fits : c.args.row + 1 < 2 ^ 64 = omega
    (arith, room_within _ _ c.requires, c.args.rows.now.ok.0, c.args.rows.now.small.0, c.args.rows.now.small.1) in
    search rules

pub index_mut-requires-2 : goal.index_mut-requires-2
index_mut-requires-2 g c = omega (arith, room_within _ _ c.requires, c.args.rows.now.ok.0)

pub push_front_reserved-requires : goal.push_front_reserved-requires
push_front_reserved-requires g c = has_room _ _ _ c.requires
    (next_row c.args.rows.now.items c.args.row c.pop_back.new.self c.index_mut-2.result.now c.index_mut-2.ensures.value)

pub returns-clause-same : goal.returns-clause-same
returns-clause-same g c =
    let rows = c.args.rows.now.items in
    let less = c.pop_back.new.self in
    let more = c.push_front_reserved.new.self in
    let one : c.args.row + 1 ≡ suc c.args.row = omega arith in
    ap (λ j. row_entries (set (set rows c.args.row less) j more)) one
    ∙ handed_same c.index_mut.result.now less c.index_mut-2.result.now more c.in-Some.value c.in-Some.ensures.items
    (omega (arith, c.in-Some.ensures.cases))
    (omega (arith, c.in-Some.ensures.cases, c.in-Some.ensures.capacity, c.index_mut.result.now.small.1))
    c.push_front_reserved.ensures.items (omega (arith, c.push_front_reserved.ensures.len)) rows c.args.row
    c.requires c.index_mut.ensures.value (next_row c.args.rows.now.items c.args.row c.pop_back.new.self
    c.index_mut-2.result.now c.index_mut-2.ensures.value)

pub returns-clause-room : goal.returns-clause-room
returns-clause-room g c =
    let rows = c.args.rows.now.items in
    let less = c.pop_back.new.self in
    let more = c.push_front_reserved.new.self in
    let one : suc c.args.row ≡ c.args.row + 1 = omega arith in
    subst (λ j. HasRoomAt c.args.row (set (set rows c.args.row less) j more)) one
    (handed_room c.index_mut.result.now less c.index_mut-2.result.now more c.in-Some.value c.in-Some.ensures.items
    (omega (arith, c.in-Some.ensures.cases))
    (omega (arith, c.in-Some.ensures.cases, c.in-Some.ensures.capacity, c.index_mut.result.now.small.1))
    c.push_front_reserved.ensures.items (omega (arith, c.push_front_reserved.ensures.len)) rows c.args.row
    c.requires c.index_mut.ensures.value (next_row c.args.rows.now.items c.args.row c.pop_back.new.self
    c.index_mut-2.result.now c.index_mut-2.ensures.value))
