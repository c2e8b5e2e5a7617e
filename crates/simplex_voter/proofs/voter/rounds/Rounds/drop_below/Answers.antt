-- How the contract of `drop_below` follows: the rounds from the view on remain, each unchanged.
use Rattle.std.proofs.Common.{refl}
use Rattle.simplex_voter.proofs.Containers.{entries-kept}
use Rattle.simplex_voter.proofs.Changed.{left_kept}
use Rattle.simplex_voter.proofs.voter.rounds.Rounds.drop_below.Goals as goal

pub invariant_of-self : goal.invariant_of-self
invariant_of-self g c = left_kept _ _ refl c.args.view _ c.drop_below.ensures _ c.drop_below-2.ensures c.self.invariant

pub returns : goal.returns
returns g c = rw (← c.self.view_is, c.drop_below.ensures, entries-kept _ _) refl
