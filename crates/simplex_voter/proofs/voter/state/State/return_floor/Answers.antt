-- How the contract of `return_floor` follows: a view that a certificate may name is in the range of the tracked ones.
use Rattle.simplex_voter.proofs.ViewEntry.{votable_tracked}
use Rattle.simplex_voter.proofs.voter.state.State.return_floor.Goals as goal

pub recall-requires-clause-in_range : goal.recall-requires-clause-in_range
recall-requires-clause-in_range g c = votable_tracked c.view-view.result _ c.view-view.ensures c.requires
