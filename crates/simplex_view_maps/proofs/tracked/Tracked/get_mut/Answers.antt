-- How the contract of `get_mut` follows: if the view is at its place, a write there is one at the view, and the entries
-- stay sorted.
use Rattle.std.proofs.Common.{◌<◌, sym, refl, length, set, arith}
use Rattle.std.specs.Box.{with_value}
use Rattle.simplex_view_maps.specs.Tracked.{unboxed}
use Rattle.std.proofs.lemmas.Bool.{false≢true}
use Rattle.simplex_view_maps.proofs.Maps.{lent_alike, entries_of_made, value_at, sorted_from_entries, made_from_entries}
use Rattle.simplex_view_maps.proofs.Unboxed.{boxed_written, boxed_value, same_length}
use Rattle.simplex_view_maps.proofs.tracked.Tracked.get_mut.Goals as goal

-- the view is there, so its place is within the entries
pub returns-in_err-entry : goal.returns-in_err-entry
returns-in_err-entry g c =
    let same = entries_of_made _ _ refl c.self.invariant in
    let within = (value_at _ _ _ _ same c.find-place.ensures.place (sym c.if-not-has_view_at.ensures)).0 in
    let there : c.find-place.result.0 < length c.self.inside.entries =
    omega (arith, within, same_length c.self.inside.entries) in
    absurd (false≢true (c.in_err-entry.ensures.variant.1 there))

pub invariant_of-self-lent : goal.invariant_of-self-lent
invariant_of-self-lent g c =
    let entries = c.self.inside.entries in
    let entry = c.in_ok-entry.entry.now in
    let same = entries_of_made (unboxed entries) _ refl c.self.invariant in
    λ w. sorted_from_entries (unboxed (set entries c.find-place.result.0 (entry.0, with_value entry.1 w))) _
    (boxed_written _ _ entries _ entry w same c.find-place.ensures.place (sym c.if-not-has_view_at.ensures)
    c.in_ok-entry.ensures.value)

pub returns : goal.returns
returns g c =
    let entries = c.self.inside.entries in
    let entry = c.in_ok-entry.entry.now in
    let same = entries_of_made _ _ c.self.view_is c.self.invariant in
    let place = rw c.self.view_is at c.find-place.ensures.place in
    let there = rw c.self.view_is at (sym c.if-not-has_view_at.ensures) in
    let read = c.in_ok-entry.ensures.value in (
      lent_alike (λ w. made_from_entries (unboxed (set entries c.find-place.result.0 (entry.0, with_value entry.1 w))) _
          (boxed_written _ _ entries _ entry w same place there read)),
      record {
        writes_back = tt;
        value = rw c.deref_mut.ensures.value
            (boxed_value _ _ entries _ entry same place there read);
      },
    )
