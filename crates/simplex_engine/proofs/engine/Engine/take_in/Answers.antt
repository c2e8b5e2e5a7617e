-- That each input is taken by what is for it.
use Rattle.std.proofs.Common.{refl, sym, subst, inl, [], ◌∷◌}
use Rattle.std.specs.Prelude.{IfOk, IsFalse}
use Rattle.std.proofs.lemmas.Bool.{false≢true}
use Rattle.simplex_engine.specs.declared.input.Input.TheVariants as input
use Rattle.simplex_engine.specs.InputEffects.{HasDoneTask}
use Rattle.simplex_engine.specs.Admission.{IsTurnedAway}
use Rattle.simplex_engine.specs.InputResults.{IsInputTaken}
use Rattle.simplex_engine.proofs.InputResults.{taken_alone}
use Rattle.engine_planner.specs.declared.task.Task.TheVariants as task
use Rattle.engine_planner.specs.Causes.{Message}
use Rattle.engine_planner.proofs.PlannedWork.{among_more}
use Rattle.engine_planner.proofs.PlanStates.{on_ok}
use Rattle.simplex_engine.specs.Provenance.{pending_causes}
use Rattle.simplex_engine.proofs.Provenance.{replied_verified}
use Rattle.simplex_engine.proofs.engine.Engine.take_in.Goals as goal

pub returns-in-Proposal : goal.returns-in-Proposal
returns-in-Proposal g c =
    taken_alone g.D.PartialEq.eq g.L.Elector.elect g.D.Digest.bytes g.S.CertificateScheme.certificate_bytes
    g.S.Assembly.IsMadeOf g.S.CertificateScheme.participants c.args.now
    c.args.input (input.Proposal c.in-Proposal.from c.in-Proposal.proposal) c.args.self.now c.offer.new.self
    c.offer.result c.in-Proposal.is c.offer.ensures.continues c.offer.ensures.batcher tt c.offer.ensures.due_work
    c.offer.ensures.provenance
    c.offer.ensures.unadmitted c.offer.ensures.acted

pub returns-in-Vote : goal.returns-in-Vote
returns-in-Vote g c =
    subst (λ what. IsInputTaken g.D.PartialEq.eq g.L.Elector.elect g.D.Digest.bytes
    g.S.CertificateScheme.certificate_bytes g.S.Scheme.IsSignature g.S.Assembly.IsMadeOf
    g.S.CertificateScheme.participants c.args.now what
    c.args.self.now c.args.self.now c.count.new.self c.count.result) (sym c.in-Vote.is) c.count.ensures

pub returns-in-Certificate : goal.returns-in-Certificate
returns-in-Certificate g c =
    taken_alone g.D.PartialEq.eq g.L.Elector.elect g.D.Digest.bytes g.S.CertificateScheme.certificate_bytes
    g.S.Assembly.IsMadeOf g.S.CertificateScheme.participants c.args.now
    c.args.input (input.Certificate c.in-Certificate.certificate) c.args.self.now c.accept.new.self c.accept.result
    c.in-Certificate.is c.accept.ensures.continues c.accept.ensures.batcher tt c.accept.ensures.due_work
    c.accept.ensures.provenance
    (λ no. let turned = c.accept.ensures.unadmitted no in
    subst (λ r. IfOk r (λ u. IsFalse u × IsTurnedAway (input.Certificate c.in-Certificate.certificate)
    c.args.self.now c.accept.new.self)) (sym turned.0) (refl, turned.1)) c.accept.ensures.acted

pub returns-in-Verified : goal.returns-in-Verified
returns-in-Verified g c =
    taken_alone g.D.PartialEq.eq g.L.Elector.elect g.D.Digest.bytes g.S.CertificateScheme.certificate_bytes
    g.S.Assembly.IsMadeOf g.S.CertificateScheme.participants c.args.now
    c.args.input (input.Verified c.in-Verified.view c.in-Verified.is_valid) c.args.self.now c.ask.new.self c.ask.result
    c.in-Verified.is c.ask.ensures.continues c.ask.ensures.batcher tt c.ask.ensures.due_work
    (replied_verified g.D.PartialEq.eq g.L.Elector.elect g.D.Digest.bytes g.S.CertificateScheme.certificate_bytes
    c.args.now c.in-Verified.is_valid c.in-Verified.view c.args.self.now c.ask.new.self c.ask.result
    c.verification.ensures c.ask.ensures.provenance)
    (λ no. absurd (false≢true (sym no))) (λ _.
    subst (λ task. IfOk c.ask.result (HasDoneTask g.D.PartialEq.eq g.L.Elector.elect task c.args.now
    c.args.self.now.core.member.facts c.ask.new.self.core.member.facts))
    c.verification.ensures c.ask.ensures.acted)

pub returns-in-Built : goal.returns-in-Built
returns-in-Built g c =
    taken_alone g.D.PartialEq.eq g.L.Elector.elect g.D.Digest.bytes g.S.CertificateScheme.certificate_bytes
    g.S.Assembly.IsMadeOf g.S.CertificateScheme.participants c.args.now
    c.args.input (input.Built c.in-Built.context c.in-Built.payload) c.args.self.now c.build.new.self c.build.result
    c.in-Built.is c.build.ensures.continues c.build.ensures.batcher tt c.build.ensures.due_work
    c.build.ensures.provenance
    (λ no. absurd (false≢true (sym no))) (λ _. c.build.ensures.acted)

pub returns-in-Certified : goal.returns-in-Certified
returns-in-Certified g c =
    taken_alone g.D.PartialEq.eq g.L.Elector.elect g.D.Digest.bytes g.S.CertificateScheme.certificate_bytes
    g.S.Assembly.IsMadeOf g.S.CertificateScheme.participants c.args.now
    c.args.input (input.Certified c.in-Certified.view c.in-Certified.is_success) c.args.self.now c.judge.new.self
    c.judge.result c.in-Certified.is c.judge.ensures.continues c.judge.ensures.batcher tt c.judge.ensures.due_work
    c.judge.ensures.provenance
    (λ no. let turned = c.judge.ensures.unadmitted no in
    subst (λ r. IfOk r (λ u. IsFalse u × IsTurnedAway
    (input.Certified c.in-Certified.view c.in-Certified.is_success) c.args.self.now c.judge.new.self))
    (sym turned.0) (refl, turned.1)) c.judge.ensures.acted

pub returns-in-GivenUp : goal.returns-in-GivenUp
returns-in-GivenUp g c =
    let asked = task.TriggerTimeout c.in-GivenUp.view c.in-GivenUp.reason in
    taken_alone g.D.PartialEq.eq g.L.Elector.elect g.D.Digest.bytes g.S.CertificateScheme.certificate_bytes
    g.S.Assembly.IsMadeOf g.S.CertificateScheme.participants c.args.now
    c.args.input (input.GivenUp c.in-GivenUp.view c.in-GivenUp.reason) c.args.self.now c.ask-in-GivenUp.new.self
    c.ask-in-GivenUp.result c.in-GivenUp.is c.ask-in-GivenUp.ensures.continues c.ask-in-GivenUp.ensures.batcher tt
    c.ask-in-GivenUp.ensures.due_work
    (on_ok c.ask-in-GivenUp.result c.ask-in-GivenUp.ensures.provenance
    (λ provenance. provenance (Message asked ∷ []) (λ kind view. refl)
    (inl (asked, refl, among_more (Message asked ∷ []) (pending_causes c.args.self.now), tt))))
    (λ no. absurd (false≢true (sym no))) (λ _. c.ask-in-GivenUp.ensures.acted)
