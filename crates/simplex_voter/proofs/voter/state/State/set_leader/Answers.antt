-- How the contract of `set_leader` follows: the rounds' part is the whole change of the state, and a view with a leader
-- stays.
use Rattle.std.proofs.Common.{is_some, refl}
use Rattle.simplex_voter.proofs.Shown.{on_ok, where_false, same_setup, kept_with_rounds}
use Rattle.simplex_voter.specs.Rounds.{round_in}
use Rattle.simplex_voter.proofs.voter.state.State.set_leader.Goals as goal

pub invariant_of-self : goal.invariant_of-self
invariant_of-self g c = kept_with_rounds c.self.invariant c.lead.ensures.origin

pub returns-clause-setup : goal.returns-clause-setup
returns-clause-setup g c = same_setup _ _ c.self.view_is _ c.lead.ensures.origin

pub returns-clause-led : goal.returns-clause-led
returns-clause-led g c = rw (← c.self.view_is)
    (on_ok c.lead.result (λ is. where_false _ _ c.self.view_is
    (is_some (round_in c.self.inside.rounds c.args.view).leader) _ _ c.self.inside.rounds is refl) c.lead.ensures.led)
