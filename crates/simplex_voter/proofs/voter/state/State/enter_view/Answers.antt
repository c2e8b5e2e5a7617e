-- How the contract of `enter_view` follows: a view above the current one is entered, and the bound of current views
-- holds.
use Rattle.std.proofs.Common.{length, ap, sym, refl, ◌∙◌}
use Rattle.simplex_voter.specs.Setup.{deadlines_at}
use Rattle.simplex_voter.proofs.Shown.{not_le, entered_by, kept_with_rounds}
use Rattle.simplex_voter.proofs.voter.state.State.enter_view.Goals as goal

pub invariant_of-self : goal.invariant_of-self
invariant_of-self g c = kept_with_rounds c.self.invariant c.enter_view.ensures.origin

pub invariant_of-self-2 : goal.invariant_of-self-2
invariant_of-self-2 g c = record {
  in_range = c.requires.in_range;
  nullified = c.self.invariant.nullified;
  nullify_votes = c.self.invariant.nullify_votes;
  elector = c.self.invariant.elector ∙ ap length (sym c.enter_view.ensures.origin.members);
}

pub returns-clause-entered : goal.returns-clause-entered
returns-clause-entered g c =
    let above = not_le _ _ c.if-le.ensures in
    rw (← c.self.view_is)
    (entered_by _ _ c.self.view_is c.args.view c.args.now c.args.deadlines.now _ _ c.in_ok-enter_view.ensures.entered
    (c.requires.deadlines (rw (← c.self.view_is) above) ∙ ap (λ x. deadlines_at x c.args.now) (sym c.self.view_is))
    above (λ e. refl))
