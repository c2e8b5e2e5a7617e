-- How the contract of `remove_in` follows: a removal at the entry's spot leaves room in its row, which is then moved to
-- the first.
use Rattle.std.proofs.Common.{◌+◌, ◌*◌, ◌<◌, ◌/◌, ◌%◌, ◌∙◌, ap, length, arith}
use Rattle.std.specs.List.{remove}
use Rattle.std.proofs.Math.Nat.{mod-lt}
use Rattle.std.proofs.lemmas.Nat.{div-add-mod'}
use Rattle.simplex_view_maps.specs.Rows.{row_size, row_entries}
use Rattle.simplex_view_maps.proofs.CutRows.{row_within, spot_within, room_made, removed_in}
use Rattle.simplex_view_maps.proofs.rows.remove_in.Goals as goal

pub index_mut-requires : goal.index_mut-requires
index_mut-requires g c =
    let apart = div-add-mod' c.args.place row_size in
    let within = row_within c.args.rows.now.items (c.args.place / row_size) (c.args.place % row_size) c.requires.0
    (omega (arith, apart, c.requires.1)) in
    omega (arith, within, c.args.rows.now.ok.0)

pub drop_at-requires : goal.drop_at-requires
drop_at-requires g c =
    let apart = div-add-mod' c.args.place row_size in
    spot_within c.args.rows.now.items (c.args.place / row_size) (c.args.place % row_size) c.index_mut.result.now
    c.requires.0 (mod-lt c.args.place (omega arith)) (omega (arith, apart, c.requires.1)) c.index_mut.ensures.value

pub hand_over-requires : goal.hand_over-requires
hand_over-requires g c =
    let rows = c.args.rows.now.items in
    let k = c.args.place / row_size in
    let o = c.args.place % row_size in
    let apart = div-add-mod' c.args.place row_size in
    let within = row_within rows k o c.requires.0 (omega (arith, apart, c.requires.1)) in
    let old = c.index_mut.result.now in (
      omega arith,
      room_made rows k old c.drop_at.new.row c.requires.0 within c.index_mut.ensures.value
          (omega (arith, c.drop_at.ensures.len))
          (omega (arith, c.drop_at.ensures.len, c.drop_at.ensures.capacity, old.small.1)),
    )

pub returns-clause-removed : goal.returns-clause-removed
returns-clause-removed g c =
    let rows = c.args.rows.now.items in
    let k = c.args.place / row_size in
    let o = c.args.place % row_size in
    let apart = div-add-mod' c.args.place row_size in
    let below : k * row_size + o < length (row_entries rows) = omega (arith, apart, c.requires.1) in
    let old = c.index_mut.result.now in
    let spot = spot_within rows k o old c.requires.0 (mod-lt c.args.place (omega arith)) below c.index_mut.ensures.value
    in
    c.hand_over.ensures.same
    ∙ removed_in rows k o old c.drop_at.new.row c.requires.0 (row_within rows k o c.requires.0 below)
    c.index_mut.ensures.value spot c.drop_at.ensures.items
    ∙ ap (λ n. remove (row_entries rows) n) apart
