-- How the contract of `ends_full` follows: the last row has as many entries as a full one, or fewer.
use Rattle.std.proofs.Common.{◌≡◌, ◌<◌, ◌-◌, ◌∙◌, suc, length, arith, refl}
use Rattle.std.specs.VecDeque.{deque_len}
use Rattle.std.proofs.lemmas.Bool.{eqb-true, eqb-false}
use Rattle.simplex_view_maps.proofs.rows.ends_full.Goals as goal
use Rattle.simplex_view_maps.proofs.CutRows as rows

pub returns-in-Some-clause-full : goal.returns-in-Some-clause-full
returns-in-Some-clause-full g c full =
    let q = c.args.rows.now in
    let some : 0 < deque_len q = c.in-Some.ensures.variant.0 refl in
    let end : suc (deque_len q - 1) ≡ length q.items = omega (arith, some, q.ok.0) in
    rows.ends_full q.items (deque_len q - 1) c.in-Some.last.now c.requires end c.in-Some.ensures.lookup
    (omega (arith, eqb-true _ _ full, c.len.ensures))

pub returns-in-Some-clause-short : goal.returns-in-Some-clause-short
returns-in-Some-clause-short g c short =
    let q = c.args.rows.now in
    let some : 0 < deque_len q = c.in-Some.ensures.variant.0 refl in
    let end : suc (deque_len q - 1) ≡ length q.items = omega (arith, some, q.ok.0) in
    rows.ends_short q.items (deque_len q - 1) c.in-Some.last.now c.requires end c.in-Some.ensures.lookup
    (λ same. eqb-false _ _ short (c.len.ensures ∙ same))
