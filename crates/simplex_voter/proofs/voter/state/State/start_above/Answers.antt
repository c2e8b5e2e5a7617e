-- How the contract of `start_above` follows: the finalization is accepted and then counts as already broadcast, and its
-- copy is of the same view.
use Rattle.std.proofs.Common.{ℕ, Result, Ok, Err, OnOk, IfOk, Some, option_map, ◌≡◌, ap, sym, subst, ◌∙◌}
use Rattle.simplex_types.specs.Terms.{IsVotable}
use Rattle.simplex_types.specs.Certificates.{ProposalFacts, finalization_facts}
use Rattle.simplex_voter.specs.Facts.{StateFacts}
use Rattle.simplex_voter.specs.Acceptance.{after_add_finalization, with_finalization_broadcast}
use Rattle.simplex_voter.proofs.CarriedLeaders.{same_setup_joins}
use Rattle.simplex_voter.proofs.voter.state.State.start_above.Goals as goal

-- the copy is of the same view, and what was stored before is what is known of it
started_at : {K L D A E : Type 0} (r : Result A E) (n y z : StateFacts K L D) (v w : ℕ)
    → OnOk r (n ≡ with_finalization_broadcast y v) → y ≡ z → v ≡ w → OnOk r (n ≡ with_finalization_broadcast z w)
started_at (Ok a) n y z v w counted accepted same = counted ∙ ap (λ x. with_finalization_broadcast x v) accepted
    ∙ ap (with_finalization_broadcast z) same
started_at (Err e) n y z v w counted accepted same = counted

pub return_floor-requires : goal.return_floor-requires
return_floor-requires g c = subst IsVotable
    (sym (ap (λ (f : ProposalFacts _). f.proposal.round.view) c.in_ok-copy.ensures.same)) c.requires.votable

pub returns-in-Ok-clause-setup : goal.returns-in-Ok-clause-setup
returns-in-Ok-clause-setup g c = same_setup_joins _ _ _ c.in-Ok.ensures.setup c.return_floor.ensures.setup

pub returns-in-Ok-clause-answer : goal.returns-in-Ok-clause-answer
returns-in-Ok-clause-answer g c =
    let bytes_of = g.S.CertificateScheme.certificate_bytes in
    subst (λ (f : ProposalFacts _). IfOk c.return_floor.result
    (λ answer. option_map (finalization_facts bytes_of) answer ≡ Some f)) c.in_ok-copy.ensures.same
    c.return_floor.ensures.answer

pub returns-in-Ok-clause-started : goal.returns-in-Ok-clause-started
returns-in-Ok-clause-started g c =
    let after = after_add_finalization g.D.PartialEq.eq g.L.Elector.elect c.args.self.now
    (finalization_facts g.S.CertificateScheme.certificate_bytes c.args.finalization) c.args.now in
    let same : c.in_ok-copy.copy.proposal.round.view ≡ c.args.finalization.proposal.round.view =
    ap (λ (f : ProposalFacts _). f.proposal.round.view) c.in_ok-copy.ensures.same in
    started_at c.return_floor.result c.return_floor.new.self c.accept_finalization.new.self after
    c.in_ok-copy.copy.proposal.round.view c.args.finalization.proposal.round.view c.return_floor.ensures.counted
    c.in-Ok.ensures.accepted same
