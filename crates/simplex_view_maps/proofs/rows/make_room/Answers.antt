-- How the contract of `make_room` follows: a last row with more capacity holds the same entries, and has room for one
-- more.
use Rattle.std.proofs.Common.{◌≡◌, ◌<◌, ◌-◌, suc, length, arith, refl}
use Rattle.std.specs.VecDeque.{deque_len}
use Rattle.std.proofs.lemmas.Result.{on_ok_weaker}
use Rattle.simplex_view_maps.proofs.CutRows.{on_err, joined_same, cut-set, room_at_end}
use Rattle.simplex_view_maps.proofs.rows.make_room.Goals as goal

pub returns-clause-same : goal.returns-clause-same
returns-clause-same g c = joined_same c.args.rows.now.items (deque_len c.args.rows.now - 1) c.in-Some.last.now
    c.reserve.new.self c.in-Some.ensures.value c.reserve.ensures.items

pub returns-clause-room : goal.returns-clause-room
returns-clause-room g c =
    let q = c.args.rows.now in
    let some : 0 < deque_len q = c.in-Some.ensures.variant.0 refl in
    let end : suc (deque_len q - 1) ≡ length q.items = omega (arith, some, q.ok.0) in
    let short = c.if-ends_full.ensures.short refl in
    on_ok_weaker c.reserve.result (λ fits. room_at_end q.items (deque_len q - 1) c.in-Some.last.now c.reserve.new.self
    c.requires short end c.in-Some.ensures.value c.reserve.ensures.len (omega (arith, fits))) c.reserve.ensures.ok

pub returns-clause-cut : goal.returns-clause-cut
returns-clause-cut g c = on_err c.reserve.result
    (cut-set c.args.rows.now.items (deque_len c.args.rows.now - 1) c.in-Some.last.now c.reserve.new.self c.requires
    c.in-Some.ensures.value c.reserve.ensures.len)
