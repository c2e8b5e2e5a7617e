-- How the contract of `current_views_time_out` follows: each state of a run has a timeout in its current view, and a
-- poll returns it.
use Rattle.laws_safety.proofs.lives.Polls.{states_time_out, polls_answered}
use Rattle.laws_safety.proofs.laws.lives.current_views_time_out.Goals as goal

pub returns : goal.returns
returns g c = record {
  times_out = states_time_out g.D.PartialEq.eq g.met.D.Digest.equal_is_same g.L.Elector.elect;
  polls = polls_answered g.D.PartialEq.eq g.met.D.Digest.equal_is_same g.L.Elector.elect;
}
