-- How the contract of `inherit_leader` follows: the rounds' part is the whole change of the state, and its set-up
-- stays.
use Rattle.std.proofs.Common.{refl}
use Rattle.simplex_round.specs.Round.{leader_at}
use Rattle.simplex_voter.specs.Rounds.{round_in}
use Rattle.simplex_voter.proofs.Shown.{on_ok, handed_on, same_setup, kept_with_rounds}
use Rattle.simplex_voter.proofs.voter.state.State.inherit_leader.Goals as goal

pub invariant_of-self : goal.invariant_of-self
invariant_of-self g c = kept_with_rounds c.self.invariant c.inherit_leader.ensures.origin

pub returns-clause-setup : goal.returns-clause-setup
returns-clause-setup g c = same_setup _ _ c.self.view_is _ c.inherit_leader.ensures.origin

pub returns-clause-inherited : goal.returns-clause-inherited
returns-clause-inherited g c = rw (← c.self.view_is)
    (on_ok c.inherit_leader.result (λ is. handed_on _ _ c.self.view_is _ _
    (λ i. record (round_in c.self.inside.rounds c.args.to) { leader = leader_at c.self.inside.rounds.members i })
    c.args.to _ _ is refl) c.inherit_leader.ensures.inherited)
