-- How the contract of `insert` follows: an insertion into the first row or the rest is one into the entries, and each
-- row but the last stays full.
use Rattle.std.proofs.Common.{◌++◌, ◌∙◌, ap, sym, length, length-append, arith}
use Rattle.std.specs.List.{insert}
use Rattle.std.proofs.lemmas.List.Edits.{insert-append_left, insert-append_right}
use Rattle.simplex_view_maps.specs.Rows.{row_entries}
use Rattle.simplex_view_maps.proofs.rows.Rows.insert.Goals as goal
use Rattle.simplex_view_maps.proofs.rows.Rows.insert.Goals.{then-place-first+in_ok-put, else-place-first+in_ok-insert_in}

pub insert_in-requires : goal.insert_in-requires
insert_in-requires g c =
    let first = c.end_full_row.new.first in
    let rest = row_entries c.end_full_row.new.rest.items in
    let long = ap length (c.end_full_row.ensures.same ∙ c.self.view_is) in (
      c.end_full_row.ensures.cut,
      omega (arith, long, c.requires, c.len-first.ensures, length-append first.items rest, first.ok.0),
    )

pub returns-clause-items : goal.returns-clause-items
returns-clause-items g c =
    let first = c.end_full_row.new.first in
    let rest = row_entries c.end_full_row.new.rest.items in
    let same = ap (λ t. insert t c.args.place c.args.value) (c.end_full_row.ensures.same ∙ c.self.view_is) in
    elim c.if-place-first.branch [
      | then-place-first+in_ok-put w ↦
          rw w.self-inside-is (ap (λ t. t ++ rest) w.in_ok-put.ensures.items
          ∙ sym (insert-append_left first.items rest c.args.place c.args.value
          (omega (arith, w.if-place-first.true, c.len-first.ensures, first.ok.0))) ∙ same)
      | else-place-first+in_ok-insert_in w ↦
          rw w.self-inside-is (ap (λ t. first.items ++ t) w.in_ok-insert_in.ensures.items
          ∙ sym (insert-append_right first.items rest c.len-first.result c.args.place c.args.value
          (sym (c.len-first.ensures ∙ first.ok.0)) (omega (arith, w.if-place-first.false))) ∙ same)
    ]

pub invariant_of-self : goal.invariant_of-self
invariant_of-self g c =
    let was = c.self.invariant in
    record {
      counted = was.counted ∙ ap length (sym c.end_full_row.ensures.same);
      fits = was.fits;
      first_fits = c.end_full_row.ensures.places.0;
      cut = c.end_full_row.ensures.cut;
    }

pub invariant_of-self-in_err-put : goal.invariant_of-self-in_err-put
invariant_of-self-in_err-put g c =
    let was = c.self.invariant in
    let rest = row_entries c.end_full_row.new.rest.items in
    let unchanged = c.in_err-put.ensures.unchanged in
    record {
      counted = was.counted ∙ ap length (sym (ap (λ t. t ++ rest) unchanged.0 ∙ c.end_full_row.ensures.same));
      fits = was.fits;
      first_fits = omega (arith, unchanged.1, c.end_full_row.ensures.places.0);
      cut = c.end_full_row.ensures.cut;
    }

pub invariant_of-self-in_err-insert_in : goal.invariant_of-self-in_err-insert_in
invariant_of-self-in_err-insert_in g c =
    let was = c.self.invariant in
    let first = c.end_full_row.new.first in
    record {
      counted = was.counted ∙ ap length
          (sym (ap (λ t. first.items ++ t) c.in_err-insert_in.ensures.unchanged ∙ c.end_full_row.ensures.same));
      fits = was.fits;
      first_fits = c.end_full_row.ensures.places.0;
      cut = c.insert_in.ensures.cut;
    }
