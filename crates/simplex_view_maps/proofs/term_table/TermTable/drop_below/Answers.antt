-- How the contract of `drop_below` follows: the terms below the view's own are dropped whole, and its own is cut.
use Rattle.std.proofs.Common.{ap, sym, ◌∙◌}
use Rattle.std.specs.Option.{option_copied_mut}
use Rattle.simplex_view_maps.proofs.Terms.{alike}
use Rattle.simplex_view_maps.proofs.TermLists.{own_by_term, none_lowered, none_left, some_left, some_by_term, some_lowered, without_by_term, without_lowered}
use Rattle.simplex_view_maps.proofs.term_table.TermTable.drop_below.Goals as goal

pub invariant_of-self : goal.invariant_of-self
invariant_of-self g c = rw (c.drop_below.ensures, c.term_start-start.ensures)
    (own_by_term _ _ c.self.invariant c.args.view)

pub returns-in_default : goal.returns-in_default
returns-in_default g c =
    let found = rw (c.drop_below.ensures, c.term_start-start.ensures) at
    (sym c.get_mut.follows ∙ ap option_copied_mut c.in_default.is) in
    rw (← c.self.view_is) (alike c.self.inside.term_length
    (rw (c.drop_below.ensures, c.term_start-start.ensures) (none_lowered _ _ c.self.invariant c.args.view found)))

pub invariant_of-self-then-is_empty : goal.invariant_of-self-then-is_empty
invariant_of-self-then-is_empty g c =
    let found = rw (c.drop_below.ensures, c.term_start-start.ensures) at
    (sym c.get_mut.follows ∙ ap option_copied_mut c.in-Some.is) in
    rw (c.remove.ensures, c.drop_below.ensures, c.drop_below-2.ensures, c.term_start-start.ensures)
    (without_by_term _ _ c.self.invariant c.args.view c.in-Some.term.now found)

pub invariant_of-self-else-is_empty : goal.invariant_of-self-else-is_empty
invariant_of-self-else-is_empty g c =
    let found = rw (c.drop_below.ensures, c.term_start-start.ensures) at
    (sym c.get_mut.follows ∙ ap option_copied_mut c.in-Some.is) in
    let some = rw c.drop_below-2.ensures at (some_left _ (sym c.is_empty.ensures ∙ c.if-is_empty.false)) in
    rw (c.drop_below.ensures, c.drop_below-2.ensures, c.term_start-start.ensures)
    (some_by_term _ _ c.self.invariant c.args.view c.in-Some.term.now found some)

pub returns-then-is_empty : goal.returns-then-is_empty
returns-then-is_empty g c =
    let found = rw (c.drop_below.ensures, c.term_start-start.ensures) at
    (sym c.get_mut.follows ∙ ap option_copied_mut c.in-Some.is) in
    let none = rw c.drop_below-2.ensures at (none_left _ (sym c.is_empty.ensures ∙ c.if-is_empty.true)) in
    rw (← c.self.view_is) (alike c.self.inside.term_length
    (rw (c.remove.ensures, c.drop_below.ensures, c.drop_below-2.ensures, c.term_start-start.ensures)
    (without_lowered _ _ c.self.invariant c.args.view c.in-Some.term.now found none)))

pub returns-else-is_empty : goal.returns-else-is_empty
returns-else-is_empty g c =
    let found = rw (c.drop_below.ensures, c.term_start-start.ensures) at
    (sym c.get_mut.follows ∙ ap option_copied_mut c.in-Some.is) in
    let some = rw c.drop_below-2.ensures at (some_left _ (sym c.is_empty.ensures ∙ c.if-is_empty.false)) in
    rw (← c.self.view_is)
    (alike c.self.inside.term_length (rw (c.drop_below.ensures, c.drop_below-2.ensures, c.term_start-start.ensures)
    (some_lowered _ _ c.self.invariant c.args.view c.in-Some.term.now found some)))
