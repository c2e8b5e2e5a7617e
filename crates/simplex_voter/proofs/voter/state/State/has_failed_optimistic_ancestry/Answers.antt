-- How the contract of `has_failed_optimistic_ancestry` follows: the range of the search begins at the term's start,
-- which is no later than the view.
use Rattle.std.proofs.Common.{arith, ◌-◌}
use Rattle.std.proofs.Math.Nat.{div-mul-le_self}
use Rattle.simplex_voter.proofs.voter.state.State.has_failed_optimistic_ancestry.Goals as goal

pub has_refused_between-requires : goal.has_refused_between-requires
has_refused_between-requires g c =
    let low = div-mul-le_self (c.args.view - 1) c.terms.result.term_length in
    omega (arith, low, c.term_start-start.ensures)

pub returns : goal.returns
returns g c = rw (← c.self.view_is) (rw (c.term_start-start.ensures, c.terms.ensures) at c.has_refused_between.ensures)
