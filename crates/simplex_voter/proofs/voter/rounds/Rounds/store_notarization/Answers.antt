-- How the contract of `store_notarization` follows: the view is tracked first, and a certificate names only a view that
-- may be notarized.
use Rattle.std.proofs.Common.{◌∙◌, refl}
use Rattle.simplex_types.specs.Proposal.{same_proposal}
use Rattle.simplex_types.specs.Certificates.{notarization_facts}
use Rattle.simplex_round.specs.Round.{with_notarization}
use Rattle.simplex_voter.proofs.Changed.{never_none, lent_tracked, kept_notarized, changed_tracked}
use Rattle.simplex_voter.proofs.voter.rounds.Rounds.store_notarization.Goals as goal

pub unreachable-requires : goal.unreachable-requires
unreachable-requires g c = never_none _ _ _ (c.self.view_is ∙ c.in_ok-track.ensures.tracked) _ refl
    c.in_default.ensures.value

pub invariant_of-self : goal.invariant_of-self
invariant_of-self g c = kept_notarized _ _ refl c.self.invariant (same_proposal g.D.PartialEq.eq) _ _ _
    (notarization_facts g.S.CertificateScheme.certificate_bytes c.args.notarization) c.requires c.in-Some.ensures.value
    c.add_notarization.ensures.facts

pub returns-clause-kept : goal.returns-clause-kept
returns-clause-kept g c =
    changed_tracked _ _ _ (c.self.view_is ∙ c.in_ok-track.ensures.tracked) _ refl _ _
    (λ r. with_notarization (same_proposal g.D.PartialEq.eq) r
    (notarization_facts g.S.CertificateScheme.certificate_bytes c.args.notarization)) c.in-Some.ensures.value
    c.add_notarization.ensures.facts

pub returns-clause-added : goal.returns-clause-added
returns-clause-added g c =
    let lent = lent_tracked _ _ _ (c.self.view_is ∙ c.in_ok-track.ensures.tracked) _ refl _ c.in-Some.ensures.value in
    c.add_notarization.ensures.added ∙ rw lent refl
