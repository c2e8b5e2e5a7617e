-- How the contract of `broadcast_nullification` follows: the rounds return it once, the rest of the state stays, and
-- running out of memory fails it.
use Rattle.std.proofs.Common.{refl}
use Rattle.simplex_voter.proofs.Shown.{where_true, same_setup, kept_with_rounds}
use Rattle.simplex_voter.proofs.Faults.{failed_now}
use Rattle.simplex_voter.specs.Rounds.{has_round}
use Rattle.simplex_voter.proofs.voter.state.State.broadcast_nullification.Goals as goal

pub invariant_of-self : goal.invariant_of-self
invariant_of-self g c = kept_with_rounds c.self.invariant c.return_nullification.ensures.origin

pub returns-in-Ok-clause-answer : goal.returns-in-Ok-clause-answer
returns-in-Ok-clause-answer g c = rw (← c.self.view_is) c.in-Ok.ensures.answer

pub returns-in-Ok-clause-after : goal.returns-in-Ok-clause-after
returns-in-Ok-clause-after g c = rw (← c.self.view_is)
    (where_true _ _ c.self.view_is (has_round c.self.inside.rounds c.args.view) _ _ c.self.inside.rounds
    c.in-Ok.ensures.handed_out refl)

pub returns-in-Err-clause-out_of_memory : goal.returns-in-Err-clause-out_of_memory
returns-in-Err-clause-out_of_memory g c none = (
  c.in-Err.ensures.refused,
  failed_now _ _ _ (same_setup _ _ c.self.view_is _ c.return_nullification.ensures.origin)
      c.fail.ensures,
)
