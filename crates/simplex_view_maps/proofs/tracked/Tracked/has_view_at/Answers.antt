-- How the contract of `has_view_at` follows: the map has the view exactly where the entry at its place is the view's,
-- and not past the end.
use Rattle.std.proofs.Common.{◌∙◌, ◌≤◌, length, ap, sym, refl, Some, inl, inr, arith}
use Rattle.std.proofs.lemmas.Bool.{cases_lt, false≢true}
use Rattle.std.proofs.lemmas.Option.{slice_get-get_or, slice_get_past}
use Rattle.simplex_view_maps.specs.Tracked.{unboxed}
use Rattle.simplex_view_maps.proofs.Maps.{entries_of_made, contains_at, contains_past}
use Rattle.simplex_view_maps.proofs.Unboxed.{unboxed_at, same_length, opened}
use Rattle.simplex_view_maps.proofs.tracked.Tracked.has_view_at.Goals as goal

pub returns-in-Some : goal.returns-in-Some
returns-in-Some g c =
    let rows = c.self.inside.entries in
    let same = entries_of_made _ _ c.self.view_is c.self.invariant in
    let within = c.in-Some.ensures.variant.0 refl in
    let read = unboxed_at rows c.args.place c.in-Some.entry.now (omega (arith, within)) c.in-Some.ensures.lookup in
    let here = slice_get-get_or (unboxed rows) c.args.place (opened c.in-Some.entry.now)
    (omega (arith, within, same_length rows)) ∙ ap Some (sym read) in
    c.eq.ensures ∙ contains_at c.args.self.now c.args.view (opened c.in-Some.entry.now) (rw (← c.requires, ← same) here)

pub returns-in-None : goal.returns-in-None
returns-in-None g c =
    let rows = c.self.inside.entries in
    let same = entries_of_made _ _ c.self.view_is c.self.invariant in
    let past : length (unboxed rows) ≤ c.args.place = elim (cases_lt c.args.place (length rows)) [
      | inl within ↦ absurd (false≢true (c.in-None.ensures.variant.1 within))
      | inr past ↦ omega (arith, past, same_length rows)
    ] in
    contains_past c.args.self.now c.args.view (rw (← c.requires, ← same) (slice_get_past _ _ past))
