-- How the contract of `note_request` follows: the round at the view has the request, and an untracked one changes
-- nothing.
use Rattle.std.proofs.Common.{refl, inl}
use Rattle.simplex_voter.specs.Verification.{with_request}
use Rattle.simplex_voter.proofs.Changed.{kept_changed, changed_there, untouched}
use Rattle.simplex_voter.proofs.voter.rounds.Rounds.note_request.Goals as goal

pub invariant_of-self-2 : goal.invariant_of-self-2
invariant_of-self-2 g c = kept_changed _ _ refl c.self.invariant _ _ _ c.in-Some.ensures.value
    (rw c.request.ensures.facts (record {
      me = refl;
      members = refl;
      round = refl;
      notarization = refl;
      leader = refl;
      explicit = inl;
      under_way = inl;
      refused = inl;
    }))

pub returns-in_default-clause-noted : goal.returns-in_default-clause-noted
returns-in_default-clause-noted g c = rw (← c.self.view_is)
    (untouched _ _ refl _ (λ r. with_request r c.args.wanted) c.in_default.ensures.value)

pub returns-clause-noted : goal.returns-clause-noted
returns-clause-noted g c = rw (← c.self.view_is)
    (changed_there _ _ refl _ _ _ (λ r. with_request r c.args.wanted) c.in-Some.ensures.value c.request.ensures.facts)
