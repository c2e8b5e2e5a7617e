-- How the contract of `next_timeout` follows: the moment is noted and the round polled, as the definition has them at
-- once.
use Rattle.simplex_voter.specs.Timeouts.{round_with_retry}
use Rattle.simplex_voter.proofs.FirstPoll.{noted_after}
use Rattle.simplex_voter.proofs.voter.state.State.next_timeout.Goals as goal

pub returns-clause-after : goal.returns-clause-after
returns-clause-after g c =
    noted_after c.args.self.now c.poll.new.self c.note_moment.new.self c.args.self.now.current c.args.now
    (round_with_retry c.args.self.now c.args.now) c.in_ok-timeout.ensures.polled c.note_moment.ensures
