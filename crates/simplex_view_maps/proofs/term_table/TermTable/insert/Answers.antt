-- How the contract of `insert` follows: the value goes into the list of its term, or into a new list of one.
use Rattle.std.proofs.Common.{◌≡◌, Some, None, is_some, refl, ap, sym, ◌∙◌}
use Rattle.std.specs.Option.{option_copied_mut}
use Rattle.std.specs.FinMap as map
use Rattle.simplex_view_maps.proofs.CutRows.{on_err}
use Rattle.simplex_view_maps.proofs.Terms.{alike}
use Rattle.simplex_view_maps.proofs.TermLists.{get_of, standing_by_term, standing_joined, new_by_term, new_joined, put_new, one_len, one_value}
use Rattle.simplex_view_maps.proofs.term_table.TermTable.insert.Goals as goal

pub invariant_of-self : goal.invariant_of-self
invariant_of-self g c =
    let found = rw c.term_start-start.ensures at (sym c.get_mut.follows ∙ ap option_copied_mut c.in-Some.is) in
    rw (c.term_start-start.ensures, c.insert.ensures.after)
    (standing_by_term _ _ c.self.invariant c.args.view c.args.value c.in-Some.term.now found c.insert.result)

pub returns-in-Some-clause-standing : goal.returns-in-Some-clause-standing
returns-in-Some-clause-standing g c =
    let found = rw c.term_start-start.ensures at (sym c.get_mut.follows ∙ ap option_copied_mut c.in-Some.is) in
    let there : map.contains_key c.args.self.now.by_view c.args.view ≡ map.contains_key c.in-Some.term.now c.args.view
    = ap (λ m. map.contains_key m.by_view c.args.view) (sym c.self.view_is)
    ∙ ap is_some (get_of _ _ c.self.invariant c.args.view _ (Some c.in-Some.term.now) refl found) in
    rw there c.insert.ensures.standing

pub returns-in-Some-clause-refused_only_new : goal.returns-in-Some-clause-refused_only_new
returns-in-Some-clause-refused_only_new g c =
    let found = rw c.term_start-start.ensures at (sym c.get_mut.follows ∙ ap option_copied_mut c.in-Some.is) in
    let at : map.get c.args.self.now.by_view c.args.view ≡ map.get c.in-Some.term.now c.args.view
    = ap (λ m. map.get m.by_view c.args.view) (sym c.self.view_is)
    ∙ get_of _ _ c.self.invariant c.args.view _ (Some c.in-Some.term.now) refl found in
    rw at c.insert.ensures.refused_only_new

pub returns-in-Some-clause-after : goal.returns-in-Some-clause-after
returns-in-Some-clause-after g c =
    let found = rw c.term_start-start.ensures at (sym c.get_mut.follows ∙ ap option_copied_mut c.in-Some.is) in
    rw (← c.self.view_is) (alike c.self.inside.term_length (rw (c.term_start-start.ensures, c.insert.ensures.after)
    (standing_joined _ _ c.self.invariant c.args.view c.args.value c.in-Some.term.now found c.insert.result)))

pub returns-in_err-term-clause-refused_only_new : goal.returns-in_err-term-clause-refused_only_new
returns-in_err-term-clause-refused_only_new g c =
    let found = rw c.term_start-start.ensures at (sym c.get_mut.follows ∙ ap option_copied_mut c.in_default.is) in
    on_err c.from_residual.result (ap (λ m. map.get m.by_view c.args.view) (sym c.self.view_is)
    ∙ get_of _ _ c.self.invariant c.args.view _ None refl found)

pub invariant_of-self-in-Ok : goal.invariant_of-self-in-Ok
invariant_of-self-in-Ok g c =
    let none = sym c.get_mut.follows ∙ ap option_copied_mut c.in_default.is in
    let found = rw c.term_start-start.ensures at none in
    let put = put_new _ _ _ _ _ none c.in-Ok.ensures.standing c.in-Ok.ensures.after in
    rw (put, c.in_ok-term.ensures.made, c.term_start-start.ensures)
    (new_by_term _ _ c.self.invariant c.args.view c.args.value found)

pub returns-in-Ok-clause-standing : goal.returns-in-Ok-clause-standing
returns-in-Ok-clause-standing g c =
    let found = rw c.term_start-start.ensures at (sym c.get_mut.follows ∙ ap option_copied_mut c.in_default.is) in
    let at : map.get c.args.self.now.by_view c.args.view ≡ None
    = ap (λ m. map.get m.by_view c.args.view) (sym c.self.view_is)
    ∙ get_of _ _ c.self.invariant c.args.view _ None refl found in
    rw at refl

pub returns-in-Ok-clause-after : goal.returns-in-Ok-clause-after
returns-in-Ok-clause-after g c =
    let none = sym c.get_mut.follows ∙ ap option_copied_mut c.in_default.is in
    let found = rw c.term_start-start.ensures at none in
    let put = put_new _ _ _ _ _ none c.in-Ok.ensures.standing c.in-Ok.ensures.after in
    rw (← c.self.view_is) (alike c.self.inside.term_length
    (rw (put, c.in_ok-term.ensures.made, c.term_start-start.ensures)
    (new_joined _ _ c.self.invariant c.args.view c.args.value found)))

pub into_only-requires : goal.into_only-requires
into_only-requires g c = one_len _ c.args.view c.args.value (c.in-Err.ensures.refused ∙ c.in_ok-term.ensures.made)

pub returns-clause-refused : goal.returns-clause-refused
returns-clause-refused g c = one_value _ c.args.view c.args.value _
    (c.in-Err.ensures.refused ∙ c.in_ok-term.ensures.made) c.into_only.ensures

pub returns-clause-refused_only_new : goal.returns-clause-refused_only_new
returns-clause-refused_only_new g c =
    let found = rw c.term_start-start.ensures at (sym c.get_mut.follows ∙ ap option_copied_mut c.in_default.is) in
    ap (λ m. map.get m.by_view c.args.view) (sym c.self.view_is)
    ∙ get_of _ _ c.self.invariant c.args.view _ None refl found
