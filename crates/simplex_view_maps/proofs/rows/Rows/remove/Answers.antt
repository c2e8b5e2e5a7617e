-- How the contract of `remove` follows: a removal from the first row or from the rest is one from the entries of both,
-- and the room that it leaves is filled.
use Rattle.std.proofs.Common.{◌++◌, ◌∙◌, ap, sym, length, length-append, arith}
use Rattle.std.specs.List.{remove}
use Rattle.std.proofs.lemmas.List.Edits.{remove-append_left, remove-append_right, length-remove}
use Rattle.simplex_view_maps.specs.Rows.{row_entries}
use Rattle.simplex_view_maps.proofs.rows.Rows.remove.Goals as goal

pub returns-else-place-first : goal.returns-else-place-first
returns-else-place-first g c =
    let first = c.self.inside.first in
    c.fill_room.ensures.same
    ∙ ap (λ t. first.items ++ t) c.remove_in.ensures.removed
    ∙ sym (remove-append_right first.items (row_entries c.self.inside.rest.items) c.len-first.result c.args.place
    (sym (c.len-first.ensures ∙ first.ok.0)) (omega (arith, c.if-place-first.false)))
    ∙ ap (λ t. remove t c.args.place) c.self.view_is

pub overflow_sub-self : goal.overflow_sub-self
overflow_sub-self g c = omega (arith, c.requires, ap length c.self.view_is, c.self.invariant.counted)

pub invariant_of-self : goal.invariant_of-self
invariant_of-self g c =
    let first = c.self.inside.first in
    let row = c.drop_at.new.row in
    let rest = row_entries c.self.inside.rest.items in
    let was = c.self.invariant in
    record {
      counted = omega (
        arith,
        was.counted,
        length-append first.items rest,
        length-append row.items rest,
        c.drop_at.ensures.len,
        first.ok.0,
        row.ok.0,
      );
      fits = omega (arith, was.fits);
      first_fits = omega (arith, was.first_fits, c.drop_at.ensures.len);
      cut = was.cut;
    }

pub invariant_of-self-else-place-first : goal.invariant_of-self-else-place-first
invariant_of-self-else-place-first g c =
    let removed = ap length (returns-else-place-first g c) in
    let was = c.self.invariant in
    record {
      counted = omega (
        arith,
        was.counted,
        c.requires,
        ap length c.self.view_is,
        removed,
        length-remove c.args.self.now c.args.place,
      );
      fits = omega (arith, was.fits);
      first_fits = c.fill_room.ensures.places;
      cut = c.fill_room.ensures.cut;
    }

pub returns-then-place-first : goal.returns-then-place-first
returns-then-place-first g c =
    let first = c.self.inside.first in
    let rest = row_entries c.self.inside.rest.items in
    ap (λ t. t ++ rest) c.drop_at.ensures.items
    ∙ sym (remove-append_left first.items rest c.args.place
    (omega (arith, c.if-place-first.true, c.len-first.ensures, first.ok.0)))
    ∙ ap (λ t. remove t c.args.place) c.self.view_is
