-- How the contract of `at` follows: the place by the size of a row is a row and a spot in it, and both are within.
use Rattle.std.proofs.Common.{◌+◌, ◌*◌, ◌<◌, ◌/◌, ◌%◌, ◌∙◌, ap, length, get_or, arith}
use Rattle.std.proofs.Math.Nat.{mod-lt}
use Rattle.std.proofs.lemmas.Nat.{div-add-mod'}
use Rattle.simplex_view_maps.specs.Rows.{row_size, row_entries}
use Rattle.simplex_view_maps.proofs.CutRows.{row_within, spot_within, entry_at}
use Rattle.simplex_view_maps.proofs.rows.at.Goals as goal

pub index-requires : goal.index-requires
index-requires g c =
    let apart = div-add-mod' c.args.place row_size in
    let within = row_within c.args.rows.now.items (c.args.place / row_size) (c.args.place % row_size) c.requires.0
    (omega (arith, apart, c.requires.1)) in
    omega (arith, within, c.args.rows.now.ok.0)

pub index-requires-2 : goal.index-requires-2
index-requires-2 g c =
    let apart = div-add-mod' c.args.place row_size in
    spot_within c.args.rows.now.items (c.args.place / row_size) (c.args.place % row_size) c.index.result.now
    c.requires.0 (mod-lt c.args.place (omega arith)) (omega (arith, apart, c.requires.1)) c.index.ensures

pub returns : goal.returns
returns g c =
    let rows = c.args.rows.now.items in
    let k = c.args.place / row_size in
    let o = c.args.place % row_size in
    let apart = div-add-mod' c.args.place row_size in
    let below : k * row_size + o < length (row_entries rows) = omega (arith, apart, c.requires.1) in
    let spot = spot_within rows k o c.index.result.now c.requires.0 (mod-lt c.args.place (omega arith)) below
    c.index.ensures in
    entry_at rows k o c.index.result.now c.index-2.result.now c.requires.0 (row_within rows k o c.requires.0 below)
    c.index.ensures spot c.index-2.ensures
    ∙ ap (λ n. get_or (row_entries rows) n c.index-2.result.now) apart
