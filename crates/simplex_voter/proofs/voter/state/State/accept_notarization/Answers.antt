-- How the contract of `accept_notarization` follows: a second notarization of a view adds nothing, a first one waits
-- for certification.
use Rattle.std.proofs.Common.{◌∙◌}
use Rattle.simplex_types.specs.Certificates.{notarization_facts}
use Rattle.simplex_voter.proofs.AcceptedProposals.{notarization_stays_added, notarized_again, notarized_first}
use Rattle.simplex_voter.proofs.CarriedLeaders.{same_setup_joins}
use Rattle.simplex_voter.proofs.voter.state.State.accept_notarization.Goals as goal

pub returns-then-not-added-clause-added : goal.returns-then-not-added-clause-added
returns-then-not-added-clause-added g c =
    let facts = notarization_facts g.S.CertificateScheme.certificate_bytes c.args.notarization in
    c.in_ok-added.ensures.added ∙ notarization_stays_added g.D.PartialEq.eq g.L.Elector.elect c.args.self.now
    c.elect.new.self c.elect.new.self facts c.view-view.result c.next.result c.view-view.ensures c.next.ensures
    c.in_ok-elect.ensures.elected

pub returns-then-not-added-clause-accepted : goal.returns-then-not-added-clause-accepted
returns-then-not-added-clause-accepted g c =
    let facts = notarization_facts g.S.CertificateScheme.certificate_bytes c.args.notarization in
    notarized_again g.D.PartialEq.eq g.L.Elector.elect c.args.self.now c.elect.new.self c.store_notarization.new.self
    facts c.view-view.result c.next.result c.view-view.ensures c.next.ensures c.in_ok-elect.ensures.elected
    c.in_ok-added.added c.in_ok-added.ensures.added c.in_ok-added.ensures.kept c.if-not-added.true

pub returns-clause-added : goal.returns-clause-added
returns-clause-added g c =
    let facts = notarization_facts g.S.CertificateScheme.certificate_bytes c.args.notarization in
    c.in_ok-added.ensures.added ∙ notarization_stays_added g.D.PartialEq.eq g.L.Elector.elect c.args.self.now
    c.elect.new.self c.elect.new.self facts c.view-view.result c.next.result c.view-view.ensures c.next.ensures
    c.in_ok-elect.ensures.elected

pub returns-clause-accepted : goal.returns-clause-accepted
returns-clause-accepted g c =
    let facts = notarization_facts g.S.CertificateScheme.certificate_bytes c.args.notarization in
    notarized_first g.D.PartialEq.eq g.L.Elector.elect c.args.self.now c.elect.new.self c.store_notarization.new.self
    facts c.view-view.result c.next.result c.view-view.ensures c.next.ensures c.in_ok-elect.ensures.elected
    c.in_ok-added.added c.in_ok-added.ensures.added c.in_ok-added.ensures.kept c.if-not-added.false _ _
    c.in_ok-name_for_certification.ensures.named c.in_ok-slide_optimistic_frontier.ensures.slid

pub returns-in_err-added-clause-setup : goal.returns-in_err-added-clause-setup
returns-in_err-added-clause-setup g c = same_setup_joins _ _ _ c.elect.ensures.setup c.store_notarization.ensures.setup

pub returns-then-not-added-clause-setup : goal.returns-then-not-added-clause-setup
returns-then-not-added-clause-setup g c =
    same_setup_joins _ _ _ c.elect.ensures.setup c.store_notarization.ensures.setup

pub returns-in_err-name_for_certification-clause-setup : goal.returns-in_err-name_for_certification-clause-setup
returns-in_err-name_for_certification-clause-setup g c =
    same_setup_joins _ _ _ (same_setup_joins _ _ _ c.elect.ensures.setup c.store_notarization.ensures.setup)
    c.name_for_certification.ensures.setup

pub returns-in_err-slide_optimistic_frontier-clause-setup : goal.returns-in_err-slide_optimistic_frontier-clause-setup
returns-in_err-slide_optimistic_frontier-clause-setup g c =
    same_setup_joins _ _ _ (same_setup_joins _ _ _
    (same_setup_joins _ _ _ c.elect.ensures.setup c.store_notarization.ensures.setup)
    c.name_for_certification.ensures.setup) c.slide_optimistic_frontier.ensures.setup

pub returns-clause-setup : goal.returns-clause-setup
returns-clause-setup g c = same_setup_joins _ _ _
    (same_setup_joins _ _ _ (same_setup_joins _ _ _ c.elect.ensures.setup c.store_notarization.ensures.setup)
    c.name_for_certification.ensures.setup) c.slide_optimistic_frontier.ensures.setup
