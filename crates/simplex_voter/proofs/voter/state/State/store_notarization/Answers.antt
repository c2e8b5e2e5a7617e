-- How the contract of `store_notarization` follows: the rounds' part is the whole change of the state, and its set-up
-- stays.
use Rattle.simplex_voter.proofs.Shown.{on_ok, by_rounds, same_setup, kept_with_rounds}
use Rattle.simplex_voter.proofs.voter.state.State.store_notarization.Goals as goal

pub invariant_of-self : goal.invariant_of-self
invariant_of-self g c = kept_with_rounds c.self.invariant c.store_notarization.ensures.origin

pub returns-clause-setup : goal.returns-clause-setup
returns-clause-setup g c = same_setup _ _ c.self.view_is _ c.store_notarization.ensures.origin

pub returns-clause-kept : goal.returns-clause-kept
returns-clause-kept g c = rw (← c.self.view_is)
    (on_ok c.store_notarization.result (by_rounds _ _ c.self.view_is _ _)
    (rw c.view-view.ensures at c.store_notarization.ensures.kept))

pub returns-clause-added : goal.returns-clause-added
returns-clause-added g c = rw (← c.self.view_is) (rw c.view-view.ensures at c.store_notarization.ensures.added)
