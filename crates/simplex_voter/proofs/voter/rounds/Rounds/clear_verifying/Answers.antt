-- How the contract of `clear_verifying` follows: the round at the view loses its binding, and an untracked one has
-- none.
use Rattle.std.proofs.Common.{refl, inl}
use Rattle.simplex_voter.specs.Verification.{with_nothing_bound}
use Rattle.simplex_voter.proofs.Changed.{kept_changed, changed_there, untouched}
use Rattle.simplex_voter.proofs.voter.rounds.Rounds.clear_verifying.Goals as goal

pub invariant_of-self-2 : goal.invariant_of-self-2
invariant_of-self-2 g c = kept_changed _ _ refl c.self.invariant _ _ _ c.in-Some.ensures.value
    (rw c.clear_verifying.ensures (record {
      me = refl;
      members = refl;
      round = refl;
      notarization = refl;
      leader = refl;
      explicit = inl;
      under_way = inl;
      refused = inl;
    }))

pub returns-in_default-clause-unbound : goal.returns-in_default-clause-unbound
returns-in_default-clause-unbound g c = rw (← c.self.view_is)
    (untouched _ _ refl _ with_nothing_bound c.in_default.ensures.value)

pub returns-clause-unbound : goal.returns-clause-unbound
returns-clause-unbound g c = rw (← c.self.view_is)
    (changed_there _ _ refl _ _ _ with_nothing_bound c.in-Some.ensures.value c.clear_verifying.ensures)
