-- How the contract of `insert_in` follows: with the room moved to its row, an insertion at the entry's spot is one at
-- its place, and keeps rows full.
use Rattle.std.proofs.Common.{◌+◌, ◌-◌, ◌*◌, ◌≤◌, ◌/◌, ◌%◌, ◌∙◌, ap, length, arith}
use Rattle.std.specs.List.{insert}
use Rattle.std.proofs.Math.Nat.{mod-lt}
use Rattle.std.proofs.lemmas.Nat.{div-add-mod'}
use Rattle.simplex_view_maps.specs.Rows.{row_size, row_entries, HasRoomAt}
use Rattle.simplex_view_maps.proofs.CutRows.{ok_gives, room_within, has_room, new_row_within, new_spot_within, inserted_in, cut_filled}
use Rattle.simplex_view_maps.proofs.rows.insert_in.Goals as goal

pub hand_over-requires : goal.hand_over-requires
hand_over-requires g c =
    let rows = c.make_room.new.rows in
    let k = c.args.place / row_size in
    let o = c.args.place % row_size in
    let apart = div-add-mod' c.args.place row_size in
    let room : HasRoomAt (c.len-last.result - 1) rows.items =
    rw c.len-last.ensures (ok_gives _ c.if-is_err.ensures.value c.make_room.ensures.room) in
    let below : k * row_size + o ≤ length (row_entries rows.items) =
    omega (arith, apart, c.requires.1, ap length c.make_room.ensures.same) in
    let within = new_row_within rows.items (c.len-last.result - 1) k o room below in
    (omega (arith, within, rows.ok.0, c.len-last.ensures), room)

pub index_mut-requires : goal.index_mut-requires
index_mut-requires g c = omega (arith, room_within _ _ c.hand_over.ensures.room, c.hand_over.new.rows.ok.0)

pub put-requires : goal.put-requires
put-requires g c =
    let apart = div-add-mod' c.args.place row_size in
    let same = ap length (c.hand_over.ensures.same ∙ c.make_room.ensures.same) in
    new_spot_within c.hand_over.new.rows.items (c.args.place / row_size) (c.args.place % row_size)
    c.index_mut.result.now c.hand_over.ensures.room (mod-lt c.args.place (omega arith))
    (omega (arith, apart, c.requires.1, same)) c.index_mut.ensures.value

-- the row has room, so the entry isn't refused
pub returns-in_err-put-clause-unchanged : goal.returns-in_err-put-clause-unchanged
returns-in_err-put-clause-unchanged g c =
    let room = has_room c.hand_over.new.rows.items (c.args.place / row_size) c.index_mut.result.now
    c.hand_over.ensures.room c.index_mut.ensures.value in
    absurd (omega (arith, room, c.in_err-put.ensures.full))

pub returns-in_err-put-clause-cut : goal.returns-in_err-put-clause-cut
returns-in_err-put-clause-cut g c =
    let room = has_room c.hand_over.new.rows.items (c.args.place / row_size) c.index_mut.result.now
    c.hand_over.ensures.room c.index_mut.ensures.value in
    absurd (omega (arith, room, c.in_err-put.ensures.full))

pub returns-clause-items : goal.returns-clause-items
returns-clause-items g c =
    let rows = c.hand_over.new.rows.items in
    let k = c.args.place / row_size in
    let o = c.args.place % row_size in
    let apart = div-add-mod' c.args.place row_size in
    let old = c.index_mut.result.now in
    let same = c.hand_over.ensures.same ∙ c.make_room.ensures.same in
    let spot = new_spot_within rows k o old c.hand_over.ensures.room (mod-lt c.args.place (omega arith))
    (omega (arith, apart, c.requires.1, ap length same)) c.index_mut.ensures.value in
    inserted_in rows k o old c.put.new.row c.args.value c.hand_over.ensures.room c.index_mut.ensures.value spot
    c.in_ok-put.ensures.items
    ∙ ap (λ n. insert (row_entries rows) n c.args.value) apart
    ∙ ap (λ t. insert t c.args.place c.args.value) same

pub returns-clause-cut : goal.returns-clause-cut
returns-clause-cut g c = cut_filled c.hand_over.new.rows.items (c.args.place / row_size) c.index_mut.result.now
    c.put.new.row c.hand_over.ensures.room c.index_mut.ensures.value (omega (arith, c.in_ok-put.ensures.len))
