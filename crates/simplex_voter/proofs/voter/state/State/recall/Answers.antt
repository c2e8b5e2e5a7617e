-- How the contract of `recall` follows: the rounds' part is the whole change of the state, and its set-up stays.
use Rattle.simplex_voter.proofs.Shown.{on_ok, by_rounds, same_setup, kept_with_rounds}
use Rattle.simplex_voter.proofs.voter.state.State.recall.Goals as goal

pub invariant_of-self : goal.invariant_of-self
invariant_of-self g c = kept_with_rounds c.self.invariant c.recall.ensures.origin

pub returns-clause-setup : goal.returns-clause-setup
returns-clause-setup g c = same_setup _ _ c.self.view_is _ c.recall.ensures.origin

pub returns-clause-recalled : goal.returns-clause-recalled
returns-clause-recalled g c = rw (← c.self.view_is)
    (on_ok c.recall.result (by_rounds _ _ c.self.view_is _ _) c.recall.ensures.recalled)
