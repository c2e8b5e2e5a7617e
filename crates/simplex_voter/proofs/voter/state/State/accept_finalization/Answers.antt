-- How the contract of `accept_finalization` follows: a second finalization of a view adds nothing, a first one raises,
-- elects and enters.
use Rattle.std.proofs.Common.{ap, ◌∙◌}
use Rattle.simplex_types.specs.Certificates.{finalization_facts}
use Rattle.simplex_voter.specs.Leaders.{with_window_leaders}
use Rattle.simplex_voter.proofs.AcceptedProposals.{finalization_stays_added, finalized_again, finalized_first}
use Rattle.simplex_voter.proofs.CarriedLeaders.{same_setup_joins}
use Rattle.simplex_voter.proofs.voter.state.State.accept_finalization.Goals as goal

pub returns-then-not-added-clause-added : goal.returns-then-not-added-clause-added
returns-then-not-added-clause-added g c =
    let facts = finalization_facts g.S.CertificateScheme.certificate_bytes c.args.finalization in
    c.in_ok-added.ensures.added ∙ finalization_stays_added g.D.PartialEq.eq g.L.Elector.elect c.args.self.now
    c.pass.new.self c.pass.new.self facts c.view-view.result c.args.now c.view-view.ensures
    c.in_ok-pass.ensures.passed

pub returns-clause-added : goal.returns-clause-added
returns-clause-added g c =
    let facts = finalization_facts g.S.CertificateScheme.certificate_bytes c.args.finalization in
    c.in_ok-added.ensures.added ∙ finalization_stays_added g.D.PartialEq.eq g.L.Elector.elect c.args.self.now
    c.pass.new.self c.pass.new.self facts c.view-view.result c.args.now c.view-view.ensures
    c.in_ok-pass.ensures.passed

pub returns-then-not-added-clause-accepted : goal.returns-then-not-added-clause-accepted
returns-then-not-added-clause-accepted g c =
    let facts = finalization_facts g.S.CertificateScheme.certificate_bytes c.args.finalization in
    finalized_again g.D.PartialEq.eq g.L.Elector.elect c.args.self.now c.pass.new.self c.store_finalization.new.self
    facts c.view-view.result c.args.now
    c.view-view.ensures c.in_ok-pass.ensures.passed c.in_ok-added.added c.in_ok-added.ensures.added
    c.in_ok-added.ensures.kept c.if-not-added.true

pub returns-clause-accepted : goal.returns-clause-accepted
returns-clause-accepted g c =
    let facts = finalization_facts g.S.CertificateScheme.certificate_bytes c.args.finalization in
    finalized_first g.D.PartialEq.eq g.L.Elector.elect c.args.self.now c.pass.new.self c.store_finalization.new.self
    facts c.view-view.result c.args.now
    c.view-view.ensures c.in_ok-pass.ensures.passed c.in_ok-added.added c.in_ok-added.ensures.added
    c.in_ok-added.ensures.kept c.if-not-added.false _
    (c.in_ok-slide_optimistic_frontier.ensures.slid
    ∙ ap (λ w. with_window_leaders w c.view-view.result) c.in_ok-wake_certification_child.ensures.woken)

pub returns-in_err-added-clause-setup : goal.returns-in_err-added-clause-setup
returns-in_err-added-clause-setup g c = same_setup_joins _ _ _ c.pass.ensures.setup c.store_finalization.ensures.setup

pub returns-then-not-added-clause-setup : goal.returns-then-not-added-clause-setup
returns-then-not-added-clause-setup g c = same_setup_joins _ _ _ c.pass.ensures.setup c.store_finalization.ensures.setup

pub returns-in_err-wake_certification_child-clause-setup : goal.returns-in_err-wake_certification_child-clause-setup
returns-in_err-wake_certification_child-clause-setup g c =
    same_setup_joins _ _ _ (same_setup_joins _ _ _ c.pass.ensures.setup c.store_finalization.ensures.setup)
    c.wake_certification_child.ensures.setup

pub returns-in_err-slide_optimistic_frontier-clause-setup : goal.returns-in_err-slide_optimistic_frontier-clause-setup
returns-in_err-slide_optimistic_frontier-clause-setup g c =
    same_setup_joins _ _ _ (same_setup_joins _ _ _
    (same_setup_joins _ _ _ c.pass.ensures.setup c.store_finalization.ensures.setup)
    c.wake_certification_child.ensures.setup) c.slide_optimistic_frontier.ensures.setup

pub returns-clause-setup : goal.returns-clause-setup
returns-clause-setup g c = same_setup_joins _ _ _
    (same_setup_joins _ _ _ (same_setup_joins _ _ _ c.pass.ensures.setup c.store_finalization.ensures.setup)
    c.wake_certification_child.ensures.setup) c.slide_optimistic_frontier.ensures.setup
