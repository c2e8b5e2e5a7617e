-- How the contract of `next_term` follows: a term has fewer than 2^32 views, so the next one's start fits.
use Rattle.std.proofs.Common.{◌-◌, arith}
use Rattle.std.proofs.Math.Nat.{div-mul-le_self}
use Rattle.simplex_voter.proofs.voter.state.State.next_term.Goals as goal

-- a term has fewer than 2 ^ 32 views
pub returns-clause-in_range : goal.returns-clause-in_range
returns-clause-in_range g c =
    let low = div-mul-le_self (c.args.view - 1) c.terms-length.result.term_length in
    omega (arith, low, c.get-views.ensures.in_range, c.next_term_start.ensures, c.requires)
