-- How the contract of `store_nullification` follows: the view is tracked first, and the nullification is the only
-- change of its round.
use Rattle.std.proofs.Common.{◌∙◌, refl}
use Rattle.simplex_types.specs.Certificates.{nullification_facts}
use Rattle.simplex_round.specs.Round.{with_nullification}
use Rattle.simplex_voter.proofs.RoundChanges.{nullified_alike}
use Rattle.simplex_voter.proofs.Changed.{never_none, kept_changed, changed_tracked}
use Rattle.simplex_voter.proofs.voter.rounds.Rounds.store_nullification.Goals as goal

pub unreachable-requires : goal.unreachable-requires
unreachable-requires g c = never_none _ _ _ (c.self.view_is ∙ c.in_ok-track.ensures.tracked) _ refl
    c.in_default.ensures.value

pub invariant_of-self : goal.invariant_of-self
invariant_of-self g c = kept_changed _ _ refl c.self.invariant _ _ _ c.in-Some.ensures.value
    (nullified_alike _ _ _ c.add_nullification-first.ensures.facts)

pub returns-clause-kept : goal.returns-clause-kept
returns-clause-kept g c =
    changed_tracked _ _ _ (c.self.view_is ∙ c.in_ok-track.ensures.tracked) _ refl _ _
    (λ r. with_nullification r (nullification_facts g.S.CertificateScheme.certificate_bytes c.args.nullification))
    c.in-Some.ensures.value c.add_nullification-first.ensures.facts
