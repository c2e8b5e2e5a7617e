-- How the contract of `leader` follows: each tracked round's leader is a member.
use Rattle.std.proofs.Common.{subst}
use Rattle.simplex_voter.specs.Rounds.{AreKept}
use Rattle.simplex_voter.proofs.Changed.{leader_member}
use Rattle.simplex_voter.proofs.voter.rounds.Rounds.leader.Goals as goal

pub returns-clause-member : goal.returns-clause-member
returns-clause-member g c = leader_member c.args.self.now (subst (AreKept _) c.self.view_is c.self.invariant)
    c.args.view _ _ c.in_ok-get.ensures.round c.in_ok-leader.ensures
