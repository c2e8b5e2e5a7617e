-- How the contract of `latch` follows: the rounds' part is the whole change of the state.
use Rattle.std.proofs.Common.{refl}
use Rattle.simplex_voter.proofs.Shown.{where_true, kept_with_rounds}
use Rattle.simplex_voter.specs.Rounds.{has_round}
use Rattle.simplex_voter.proofs.voter.state.State.latch.Goals as goal

pub invariant_of-self : goal.invariant_of-self
invariant_of-self g c = kept_with_rounds c.self.invariant c.latch.ensures.origin

pub returns-clause-latched : goal.returns-clause-latched
returns-clause-latched g c = rw (← c.self.view_is)
    (where_true _ _ c.self.view_is (has_round c.self.inside.rounds c.args.view) _ _ c.self.inside.rounds
    c.latch.ensures.latched refl)

pub returns-clause-answer : goal.returns-clause-answer
returns-clause-answer g c = rw (← c.self.view_is) c.latch.ensures.answer
