-- How the contract of `record_proposed` follows: the rounds' part is the whole change of the state.
use Rattle.std.proofs.Common.{refl}
use Rattle.simplex_voter.proofs.Shown.{where_true, kept_with_rounds}
use Rattle.simplex_voter.proofs.voter.state.State.record_proposed.Goals as goal

pub invariant_of-self : goal.invariant_of-self
invariant_of-self g c = kept_with_rounds c.self.invariant c.record_proposed.ensures.origin

pub returns-clause-recorded : goal.returns-clause-recorded
returns-clause-recorded g c = rw (← c.self.view_is) c.record_proposed.ensures.recorded

pub returns-clause-after : goal.returns-clause-after
returns-clause-after g c = rw (← c.self.view_is)
    (where_true _ _ c.self.view_is c.record_proposed.result _ _ c.self.inside.rounds c.record_proposed.ensures.after
    refl)
