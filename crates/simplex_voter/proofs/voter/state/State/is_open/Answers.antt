-- How the contract of `is_open` follows: above a floor that is not genesis, the rounds between answer.
use Rattle.simplex_voter.proofs.Between.{not_zero}
use Rattle.simplex_voter.proofs.voter.state.State.is_open.Goals as goal

pub returns : goal.returns
returns g c = rw (not_zero c.args.floor c.if-is_zero.ensures.1) (rw (← c.self.view_is) c.has_notarized_between.ensures)
