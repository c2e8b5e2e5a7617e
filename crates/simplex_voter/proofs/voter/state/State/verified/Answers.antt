-- How the contract of `verified` follows: the rounds' part of it keeps the state's invariant.
use Rattle.simplex_voter.proofs.Shown.{kept_with_rounds}
use Rattle.simplex_voter.proofs.voter.state.State.verified.Goals as goal

pub invariant_of-self : goal.invariant_of-self
invariant_of-self g c = kept_with_rounds c.self.invariant c.mark.ensures.origin
