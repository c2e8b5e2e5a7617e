-- How the contract of `views_are_left` follows: each state of a run is sound and has not failed, so each certificate
-- that ends its view does.
use Rattle.laws_safety.proofs.lives.Progress.{states_are_left}
use Rattle.laws_safety.proofs.laws.progress.views_are_left.Goals as goal

pub returns : goal.returns
returns g c = record { can_be_left = states_are_left g.D.PartialEq.eq g.L.Elector.elect }
