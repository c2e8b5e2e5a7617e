-- How the contract of `drop_below` follows: the rounds, the nullified views and the nullify votes from the view on
-- remain after a prune.
use Rattle.std.proofs.Common.{refl, ap, sym, length, ◌∙◌}
use Rattle.simplex_voter.specs.Windows.{min_active}
use Rattle.simplex_voter.proofs.Shown.{pruned_shown}
use Rattle.simplex_voter.proofs.voter.state.State.drop_below.Goals as goal

pub invariant_of-self : goal.invariant_of-self
invariant_of-self g c = record {
  in_range = c.self.invariant.in_range;
  nullified = ap (λ m. m.term_length) c.drop_below-2.ensures ∙ c.self.invariant.nullified;
  nullify_votes = ap (λ m. m.term_length) c.drop_below-3.ensures ∙ c.self.invariant.nullify_votes;
  elector = c.self.invariant.elector ∙ ap (λ r. length r.members) (sym c.drop_below.ensures);
}

pub returns : goal.returns
returns g c =
    rw (← c.self.view_is, c.drop_below.ensures, c.drop_below-2.ensures, c.drop_below-3.ensures)
    (pruned_shown _ _ _ _ refl refl (c.requires ∙ ap min_active (sym c.self.view_is)))
