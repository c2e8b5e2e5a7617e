-- How the contract of `states_time_out` follows: a view that is certified or decided to be finalized is left, unless a
-- replay settled it.
use Rattle.laws_safety.proofs.lives.LeftByEntries.{recovered_states_time_out}
use Rattle.laws_safety.proofs.lives.LeftViews.{used_states_time_out}
use Rattle.laws_safety.proofs.laws.states.states_time_out.Goals as goal

pub returns : goal.returns
returns g c = record {
  recovered = recovered_states_time_out g.D.PartialEq.eq g.L.Elector.elect;
  used = used_states_time_out g.D.PartialEq.eq g.L.Elector.elect;
}
