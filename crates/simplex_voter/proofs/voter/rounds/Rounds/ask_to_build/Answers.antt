-- How the contract of `ask_to_build` follows: the round at the view has its request set, and none is set at an
-- untracked one.
use Rattle.std.proofs.Common.{true, ap, sym, refl, ◌∙◌, inl}
use Rattle.simplex_round.specs.Round.{should_propose}
use Rattle.simplex_voter.specs.ProposalRequests.{build_requested}
use Rattle.simplex_voter.proofs.Changed.{lent, kept_changed, changed_there, untouched}
use Rattle.simplex_voter.proofs.voter.rounds.Rounds.ask_to_build.Goals as goal

pub invariant_of-self-2 : goal.invariant_of-self-2
invariant_of-self-2 g c =
    let lent = lent c.args.self.now _ (sym (ap (λ x. x.by_view) c.self.view_is)) _ _ c.in-Some.ensures.value in
    let ready = ap should_propose lent ∙ c.requires in
    kept_changed _ _ refl c.self.invariant _ _ _ c.in-Some.ensures.value
    (rw (c.try_propose.ensures.facts, ready)
    (record {
      me = refl;
      members = refl;
      round = refl;
      notarization = refl;
      leader = refl;
      explicit = inl;
      under_way = inl;
      refused = inl;
    }))

pub returns-in_default-clause-asked : goal.returns-in_default-clause-asked
returns-in_default-clause-asked g c = rw (← c.self.view_is)
    (untouched _ _ refl _ (λ r. record r { slot = build_requested true r.slot }) c.in_default.ensures.value)

pub returns-clause-asked : goal.returns-clause-asked
returns-clause-asked g c =
    let lent = lent c.args.self.now _ (sym (ap (λ x. x.by_view) c.self.view_is)) _ _ c.in-Some.ensures.value in
    let ready = ap should_propose lent ∙ c.requires in
    rw (← c.self.view_is) (changed_there _ _ refl _ _ _ (λ r. record r { slot = build_requested true r.slot })
    c.in-Some.ensures.value (c.try_propose.ensures.facts ∙ rw ready refl))
