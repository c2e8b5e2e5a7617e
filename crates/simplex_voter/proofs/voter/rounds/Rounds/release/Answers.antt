-- How the contract of `release` follows: the round at the view loses its request, and an untracked one has none.
use Rattle.std.proofs.Common.{refl, inl}
use Rattle.std.proofs.Common.{false}
use Rattle.simplex_voter.specs.ProposalRequests.{build_requested}
use Rattle.simplex_voter.proofs.Changed.{kept_changed, changed_there, untouched}
use Rattle.simplex_voter.proofs.voter.rounds.Rounds.release.Goals as goal

pub invariant_of-self-2 : goal.invariant_of-self-2
invariant_of-self-2 g c = kept_changed _ _ refl c.self.invariant _ _ _ c.in-Some.ensures.value
    (rw c.clear_proposal_request.ensures (record {
      me = refl;
      members = refl;
      round = refl;
      notarization = refl;
      leader = refl;
      explicit = inl;
      under_way = inl;
      refused = inl;
    }))

pub returns-in_default-clause-released : goal.returns-in_default-clause-released
returns-in_default-clause-released g c = rw (← c.self.view_is)
    (untouched _ _ refl _ (λ r. record r { slot = build_requested false r.slot }) c.in_default.ensures.value)

pub returns-clause-released : goal.returns-clause-released
returns-clause-released g c = rw (← c.self.view_is)
    (changed_there _ _ refl _ _ _ (λ r. record r { slot = build_requested false r.slot }) c.in-Some.ensures.value
    c.clear_proposal_request.ensures)
