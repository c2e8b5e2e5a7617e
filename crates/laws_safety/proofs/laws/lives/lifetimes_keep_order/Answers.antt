-- call by call
use Rattle.laws_safety.proofs.lives.WithinLives.{life_never_falls}
use Rattle.laws_safety.proofs.laws.lives.lifetimes_keep_order.Goals as goal

pub returns : goal.returns
returns g c = record { never_falls = life_never_falls g.D.PartialEq.eq g.L.Elector.elect }
