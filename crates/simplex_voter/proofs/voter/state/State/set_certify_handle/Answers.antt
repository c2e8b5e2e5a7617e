-- How the contract of `set_certify_handle` follows: the rounds' part is the whole change of the state.
use Rattle.std.proofs.Common.{refl}
use Rattle.simplex_voter.proofs.Shown.{where_true, kept_with_rounds}
use Rattle.simplex_voter.specs.Rounds.{has_round}
use Rattle.simplex_voter.proofs.voter.state.State.set_certify_handle.Goals as goal

pub invariant_of-self : goal.invariant_of-self
invariant_of-self g c = kept_with_rounds c.self.invariant c.set_certify_handle.ensures.origin

pub returns-clause-after : goal.returns-clause-after
returns-clause-after g c = rw (← c.self.view_is)
    (where_true _ _ c.self.view_is (has_round c.self.inside.rounds c.args.view) _ _ c.self.inside.rounds
    c.set_certify_handle.ensures.set refl)
