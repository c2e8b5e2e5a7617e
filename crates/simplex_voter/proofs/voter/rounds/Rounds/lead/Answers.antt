-- How the contract of `lead` follows: the round's members are the state's, so a leader among these is one of the
-- round's.
use Rattle.std.proofs.Common.{◌∙◌, ap, sym, refl}
use Rattle.simplex_round.specs.Round.{leader_at}
use Rattle.simplex_voter.proofs.Changed.{never_none, kept_at, kept_led, changed_tracked}
use Rattle.simplex_voter.proofs.voter.rounds.Rounds.lead.Goals as goal

pub unreachable-requires : goal.unreachable-requires
unreachable-requires g c = never_none _ _ _ (c.self.view_is ∙ c.in_ok-track.ensures.tracked) _ refl
    c.in_default.ensures.value

pub set_leader-requires : goal.set_leader-requires
set_leader-requires g c =
    let members = (kept_at _ _ refl c.self.invariant _ _ c.in-Some.ensures.value).members
    ∙ ap (λ x. x.members) (c.self.view_is ∙ c.in_ok-track.ensures.tracked) in
    rw members c.requires.member

pub invariant_of-self : goal.invariant_of-self
invariant_of-self g c =
    let members = ap (λ x. x.members) (c.self.view_is ∙ c.in_ok-track.ensures.tracked) in
    kept_led _ _ refl c.self.invariant _ c.args.leader _ _ (rw members c.requires.member) c.in-Some.ensures.value
    c.set_leader.ensures

pub returns-clause-led : goal.returns-clause-led
returns-clause-led g c =
    let members = (kept_at _ _ refl c.self.invariant _ _ c.in-Some.ensures.value).members
    ∙ ap (λ x. x.members) (c.self.view_is ∙ c.in_ok-track.ensures.tracked) in
    rw (sym c.if-has_leader.ensures)
    (changed_tracked _ _ _ (c.self.view_is ∙ c.in_ok-track.ensures.tracked) _ refl _ _
    (λ r. record r { leader = leader_at c.args.self.now.members c.args.leader }) c.in-Some.ensures.value
    (c.set_leader.ensures ∙ ap (λ all. record (c.in-Some.round.now) { leader = leader_at all c.args.leader }) members))
