-- How the contract of `store_finalization` follows: the view is tracked and the bounds allow it before the round has
-- it, so the invariant holds.
use Rattle.std.proofs.Common.{◌∙◌, refl}
use Rattle.simplex_types.specs.Proposal.{same_proposal}
use Rattle.simplex_types.specs.Certificates.{finalization_facts}
use Rattle.simplex_round.specs.Round.{with_finalization}
use Rattle.simplex_voter.proofs.RoundChanges.{finalized_alike}
use Rattle.simplex_voter.proofs.Changed.{never_none, lent_tracked, wider_kept, kept_changed, changed_tracked}
use Rattle.simplex_voter.proofs.voter.rounds.Rounds.store_finalization.Goals as goal

pub unreachable-requires : goal.unreachable-requires
unreachable-requires g c = never_none _ _ _ (c.self.view_is ∙ c.in_ok-track.ensures.tracked) _ refl
    c.in_default.ensures.value

pub invariant_of-self : goal.invariant_of-self
invariant_of-self g c =
    kept_changed _ _ refl (wider_kept _ c.raise_finalized_bound.ensures.wider c.self.invariant) _ _ _
    c.in-Some.ensures.value (finalized_alike (same_proposal g.D.PartialEq.eq) _ _
    (finalization_facts g.S.CertificateScheme.certificate_bytes c.args.finalization)
    c.raise_finalized_bound.ensures.explicit c.add_finalization.ensures.facts)

pub returns-clause-kept : goal.returns-clause-kept
returns-clause-kept g c =
    changed_tracked _ _ _ (c.self.view_is ∙ c.in_ok-track.ensures.tracked) _ refl _ _
    (λ r. with_finalization (same_proposal g.D.PartialEq.eq) r
    (finalization_facts g.S.CertificateScheme.certificate_bytes c.args.finalization)) c.in-Some.ensures.value
    c.add_finalization.ensures.facts

pub returns-clause-added : goal.returns-clause-added
returns-clause-added g c =
    let lent = lent_tracked _ _ _ (c.self.view_is ∙ c.in_ok-track.ensures.tracked) _ refl _ c.in-Some.ensures.value in
    c.add_finalization.ensures.added ∙ rw lent refl
