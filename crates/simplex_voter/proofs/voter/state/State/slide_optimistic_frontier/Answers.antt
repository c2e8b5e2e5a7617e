-- How the contract of `slide_optimistic_frontier` follows: each view takes the leader of the one before, and the rest
-- leads on to the whole slide.
use Rattle.std.proofs.Common.{◌∙◌, arith}
use Rattle.simplex_voter.proofs.CarriedLeaders.{is_below, slid_next, same_setup_joins}
use Rattle.simplex_voter.proofs.voter.state.State.slide_optimistic_frontier.Goals as goal

pub loop-last-preserved : goal.loop-last-preserved
loop-last-preserved g c =
    let below = is_below _ _ c.loop-last-test.ensures in
    record {
      reached = omega (arith, below, c.next-next.ensures);
      left = slid_next _ _ _ _ _ below c.next-next.ensures c.in_ok-inherit_leader.ensures.inherited
          ∙ c.loop-last.invariant.left;
      setup = same_setup_joins _ _ _ c.loop-last.invariant.setup c.in_ok-inherit_leader.ensures.setup;
    }
