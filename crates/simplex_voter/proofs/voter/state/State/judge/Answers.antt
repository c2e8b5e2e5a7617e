-- How the contract of `judge` follows: the rounds' part is the whole change of the state, and its set-up stays.
use Rattle.std.proofs.Common.{refl, ◌∙◌}
use Rattle.simplex_voter.proofs.Shown.{on_ok, by_rounds, same_setup, kept_with_rounds}
use Rattle.simplex_voter.proofs.voter.state.State.judge.Goals as goal

pub invariant_of-self : goal.invariant_of-self
invariant_of-self g c = kept_with_rounds c.self.invariant c.judge.ensures.origin

pub returns-clause-setup : goal.returns-clause-setup
returns-clause-setup g c = same_setup _ _ c.self.view_is _ c.judge.ensures.origin

pub returns-clause-judged : goal.returns-clause-judged
returns-clause-judged g c =
    let tracked = rw (← c.self.view_is) at c.requires.tracked in
    rw (← c.self.view_is)
    (on_ok c.judge.result (λ is. by_rounds _ _ c.self.view_is _ _ (is ∙ rw tracked refl)) c.judge.ensures.judged)
