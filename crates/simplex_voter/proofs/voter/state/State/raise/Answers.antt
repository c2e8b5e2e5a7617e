-- How the contract of `raise` follows: a view above the last finalized one becomes it, and ends what waits or is under
-- way up to it.
use Rattle.std.proofs.Common.{refl, ap, sym, length, ◌∙◌}
use Rattle.simplex_voter.proofs.Shown.{not_le}
use Rattle.simplex_voter.proofs.RaisedFinal.{raised_by}
use Rattle.simplex_voter.proofs.voter.state.State.raise.Goals as goal

pub invariant_of-self : goal.invariant_of-self
invariant_of-self g c = record {
  in_range = c.self.invariant.in_range;
  nullified = c.self.invariant.nullified;
  nullify_votes = c.self.invariant.nullify_votes;
  elector = c.self.invariant.elector ∙ ap (λ r. length r.members) (sym c.end_certifications.ensures);
}

pub returns : goal.returns
returns g c =
    rw (← c.self.view_is)
    (raised_by _ _ c.self.view_is _ _ _ _ c.args.view c.next.result refl c.drop_below.ensures c.next.ensures
    c.end_certifications.ensures refl (not_le _ _ c.if-le.ensures))
