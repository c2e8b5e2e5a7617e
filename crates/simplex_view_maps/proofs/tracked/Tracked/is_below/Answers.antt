-- How the contract of `is_below` follows: the entries rise, so the one at a place is below the view exactly where the
-- place is below the view's.
use Rattle.std.proofs.Common.{ap, ◌∙◌, ltb, get_or, arith}
use Rattle.simplex_view_maps.proofs.Maps.{length_of_made, entries_of_made, far_above, below_at}
use Rattle.simplex_view_maps.proofs.Unboxed.{unboxed_at, same_length, opened}
use Rattle.simplex_view_maps.proofs.tracked.Tracked.is_below.Goals as goal

pub index-requires : goal.index-requires
index-requires g c =
    let long = same_length c.self.inside.entries ∙ length_of_made _ _ c.self.view_is c.self.invariant in
    omega (arith, long, c.requires.in_range)

pub distance-requires : goal.distance-requires
distance-requires g c =
    let long = same_length c.self.inside.entries ∙ length_of_made _ _ c.self.view_is c.self.invariant in
    omega (arith, long, c.requires.room, c.index.ensures.fits)

pub returns-clause-answer : goal.returns-clause-answer
returns-clause-answer g c =
    let rows = c.self.inside.entries in
    let same = entries_of_made _ _ c.self.view_is c.self.invariant in
    let long = same_length rows ∙ length_of_made _ _ c.self.view_is c.self.invariant in
    let read = unboxed_at rows c.args.place c.index.result.now (omega (arith, long, c.requires.in_range))
    c.index.ensures.entry in
    ap (ltb 0) c.distance.ensures.distance ∙ far_above _ _
    ∙ ap (λ e. ltb e.0 c.args.view) (read ∙ ap (λ es. get_or es c.args.place (opened c.index.result.now)) same)
    ∙ below_at c.args.self.now c.args.view c.args.place _ c.requires.in_range
