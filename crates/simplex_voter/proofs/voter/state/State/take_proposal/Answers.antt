-- How the contract of `take_proposal` follows: the rounds' part is the whole change of the state, and its set-up stays.
use Rattle.simplex_voter.proofs.Shown.{on_ok, by_rounds, same_setup, kept_with_rounds}
use Rattle.simplex_voter.proofs.voter.state.State.take_proposal.Goals as goal

pub invariant_of-self : goal.invariant_of-self
invariant_of-self g c = kept_with_rounds c.self.invariant c.take_proposal.ensures.origin

pub returns-clause-setup : goal.returns-clause-setup
returns-clause-setup g c = same_setup _ _ c.self.view_is _ c.take_proposal.ensures.origin

pub returns-clause-taken : goal.returns-clause-taken
returns-clause-taken g c = rw (← c.self.view_is)
    (on_ok c.take_proposal.result (by_rounds _ _ c.self.view_is _ _) c.take_proposal.ensures.taken)

pub returns-clause-answer : goal.returns-clause-answer
returns-clause-answer g c = rw (← c.self.view_is) c.take_proposal.ensures.first
