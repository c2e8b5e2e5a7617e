-- How the contract of `get_mut` follows: a place lies in the first row or in one of the rest, and what is written there
-- is the entry at that place.
use Rattle.std.proofs.Common.{◌≡◌, ◌+◌, ◌-◌, ◌*◌, ◌<◌, ◌≤◌, ◌/◌, ◌%◌, ◌++◌, ◌∙◌, ap, length, get_or, set, sym, refl, arith, length-append}
use borrow.Follows.Closed.{read_of}
use Rattle.std.specs.Option.{ghost_name_of}
use Rattle.std.specs.VecDeque.{deque_len, deque_with_item}
use Rattle.std.proofs.Math.Nat.{mod-lt}
use Rattle.std.proofs.lemmas.Bool.{false≢true}
use Rattle.std.proofs.lemmas.Nat.{div-add-mod'}
use Rattle.std.proofs.lemmas.List.{length-set, set-append_left, set-append_right, get_or_append_left, get_or-append_right}
use Rattle.simplex_view_maps.specs.Rows.{row_size, row_entries}
use Rattle.simplex_view_maps.proofs.CutRows.{if_some_weaker, row_within, spot_within, entry_at, set_in, joined_same, in_rows-set}
use Rattle.simplex_view_maps.proofs.rows.Rows.get_mut.Goals as goal

-- the entry is in the first row
pub returns-then-place-first : goal.returns-then-place-first
returns-then-place-first g c =
    let first = c.self.inside.first in
    let rest = row_entries c.self.inside.rest.items in
    let total : c.args.place < length (first.items ++ rest) =
    omega (arith, c.if-self-place.false, c.self.invariant.counted) in
    let here : c.args.place < deque_len first = omega (arith, c.if-place-first.true, c.len-first.ensures) in
    let within : c.args.place < length first.items = omega (arith, here, first.ok.0) in
    rw (← c.self.view_is) (
      λ t. read_of (ghost_name_of c.get_mut.result)
          (λ (w : g.row.T.Denot). sym (set-append_left first.items rest c.args.place w within) t) (first.items ++ rest),
      record {
        writes_back = tt;
        variant = (λ some. total, λ there. c.get_mut.ensures.variant.1 here);
        value = if_some_weaker c.get_mut.result
            (λ e read. read ∙ sym (get_or_append_left first.items rest e.now c.args.place within))
            c.get_mut.ensures.value;
      },
    )

-- the entry is in another row, which is there
pub returns-in_err-row : goal.returns-in_err-row
returns-in_err-row g c =
    let first = c.self.inside.first in
    let rest = c.self.inside.rest in
    let after = c.args.place - c.len-first.result in
    let apart = div-add-mod' after row_size in
    let below : after / row_size * row_size + after % row_size < length (row_entries rest.items) =
    omega (
      arith,
      apart,
      c.if-self-place.false,
      c.if-place-first.false,
      c.self.invariant.counted,
      c.len-first.ensures,
      first.ok.0,
      length-append first.items (row_entries rest.items),
    ) in
    let within : after / row_size < deque_len rest =
    omega (arith, row_within rest.items (after / row_size) (after % row_size) c.self.invariant.cut below, rest.ok.0)
    in
    absurd (false≢true (c.in_err-row.ensures.variant.1 within))

pub invariant_of-self-lent-2 : goal.invariant_of-self-lent-2
invariant_of-self-lent-2 g c =
    let after = c.args.place - c.len-first.result in
    let row = c.in_ok-row.row.now in
    let kept = in_rows-set c.self.inside.count c.self.inside.first c.self.inside.rest (after / row_size) row in
    λ some. (
      λ w. kept (deque_with_item row (after % row_size) w) c.self.invariant c.in_ok-row.ensures.value
          (length-set row.items (after % row_size) w) refl,
      kept row c.self.invariant c.in_ok-row.ensures.value refl refl,
    )

pub returns : goal.returns
returns g c =
    let first = c.self.inside.first in
    let rest = c.self.inside.rest in
    let n = c.len-first.result in
    let after = c.args.place - n in
    let k = after / row_size in
    let o = after % row_size in
    let row = c.in_ok-row.row.now in
    let read = c.in_ok-row.ensures.value in
    let cut = c.self.invariant.cut in
    let apart = div-add-mod' after row_size in
    let long : length first.items ≡ n = sym (c.len-first.ensures ∙ first.ok.0) in
    let behind : n ≤ c.args.place = omega (arith, c.if-place-first.false) in
    let total : c.args.place < length (first.items ++ row_entries rest.items) =
    omega (arith, c.if-self-place.false, c.self.invariant.counted) in
    let below : k * row_size + o < length (row_entries rest.items) =
    omega (arith, apart, total, behind, long, length-append first.items (row_entries rest.items)) in
    let within = row_within rest.items k o cut below in
    let spot = spot_within rest.items k o row cut (mod-lt after (omega arith)) below read in
    rw (← c.self.view_is) (
      λ t. read_of (ghost_name_of c.get_mut-3.result)
          (λ (w : g.row.T.Denot).
          (ap (λ xs. first.items ++ xs) (set_in rest.items k o row (deque_with_item row o w) w cut within read spot refl
          ∙ ap (λ i. set (row_entries rest.items) i w) apart)
          ∙ sym (set-append_right first.items (row_entries rest.items) n c.args.place w long behind)) t)
          (ap (λ xs. first.items ++ xs) (joined_same rest.items k row row read refl) t),
      record {
        writes_back = tt;
        variant = (λ some. total, λ there. c.get_mut-3.ensures.variant.1 spot);
        value = if_some_weaker c.get_mut-3.result (λ e found.
            entry_at rest.items k o row e.now cut within read spot found
            ∙ ap (λ i. get_or (row_entries rest.items) i e.now) apart
            ∙ sym (get_or-append_right first.items (row_entries rest.items) n c.args.place e.now long behind))
            c.get_mut-3.ensures.value;
      },
    )
