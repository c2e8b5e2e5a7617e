-- How the contract of `release` follows: the rounds' part is the whole change of the state.
use Rattle.std.proofs.Common.{refl}
use Rattle.simplex_voter.proofs.Shown.{where_true, kept_with_rounds}
use Rattle.simplex_voter.specs.Rounds.{has_round}
use Rattle.simplex_voter.proofs.voter.state.State.release.Goals as goal

pub invariant_of-self : goal.invariant_of-self
invariant_of-self g c = kept_with_rounds c.self.invariant c.release.ensures.origin

pub returns : goal.returns
returns g c = rw (← c.self.view_is) (where_true _ _ c.self.view_is (has_round c.self.inside.rounds c.args.view) _ _
    c.self.inside.rounds c.release.ensures.released refl)
