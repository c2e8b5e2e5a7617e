-- How the contract of `stall_deadline` follows: the first entered round of the term above the last finalized view has
-- the deadline.
use Rattle.simplex_voter.proofs.Stalls.{stall_shown}
use Rattle.simplex_voter.proofs.voter.state.State.stall_deadline.Goals as goal

pub returns : goal.returns
returns g c =
    rw (← c.self.view_is)
    (stall_shown _ _ c.self.view_is _ _ _ _ _ c.terms.ensures c.term_start-start.ensures c.max.ensures
    c.at_or_above-entries.ensures.above c.first_deadline.ensures)
