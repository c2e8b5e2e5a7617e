-- How the contract of `end_of` follows: an entry at the view counts besides those below it, and without one the place
-- is the end.
use Rattle.std.proofs.Common.{sym, arith, rules, ◌∙◌, ◌<◌, ◌≤◌, ◌+◌, ◌^◌}
use Rattle.simplex_view_maps.proofs.Maps.{len-below-there, len-below-not_there, len-below-end, len-below-le-len}
use Rattle.simplex_view_maps.proofs.tracked.Tracked.end_of.Goals as goal

pub returns-then-place-len : goal.returns-then-place-len
returns-then-place-len g c = len-below-end _ _ _ c.find-place.ensures.place (c.if-place-len.true ∙ c.len.ensures)

pub overflow_add-result : goal.overflow_add-result
overflow_add-result g c =
    let at_most : c.find-place.result.0 ≤ c.len.result =
    rw (c.find-place.ensures.place, c.len.ensures) (len-below-le-len _ _) in
    let other = c.if-place-len.false in
    let fits : c.find-place.result.0 + 1 < 2 ^ 64 = omega (arith, at_most, other, c.len.type_inv) in
    search rules

pub returns-then-has_view_at : goal.returns-then-has_view_at
returns-then-has_view_at g c = len-below-there _ _ _ c.find-place.ensures.place (sym c.if-has_view_at.ensures)

pub returns-else-has_view_at : goal.returns-else-has_view_at
returns-else-has_view_at g c = len-below-not_there _ _ _ c.find-place.ensures.place (sym c.if-has_view_at.ensures)
