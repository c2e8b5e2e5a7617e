-- That each step is taken by what is for it.
use Rattle.std.proofs.Common.{None, refl, ◌∷◌, [], sym, subst, ap}
use Rattle.simplex_engine.specs.ApplicationWork.{KeepsTaken}
use Rattle.engine_planner.specs.PlannedWork.{work_planned}
use Rattle.engine_outbox.specs.Continuity.{Continues}
use Rattle.engine_planner.specs.declared.plan.Step.TheVariants as step
use Rattle.simplex_engine.proofs.OwnSteps.{alone_with}
use Rattle.engine_outbox.proofs.Continuity.{stays}
use Rattle.engine_planner.proofs.PlanStates.{on_ok}
use Rattle.simplex_engine.proofs.UnfinishedWork.{on_any, passed_on, tells_other, tells_planned}
use Rattle.engine_outbox.specs.Outputs.{work_in}
use Rattle.engine_planner.specs.Causes.{MissingCertificate, of_step}
use Rattle.simplex_engine.specs.Provenance.{IsCausedWith}
use Rattle.simplex_engine.specs.Steps.{IsStepTaken}
use Rattle.simplex_engine.proofs.Provenance.{comes_same, hand_with}
use Rattle.engine_planner.proofs.AskedSteps.{asks_over}
use Rattle.simplex_engine.proofs.engine.Engine.take_step.Goals as goal

pub returns-in-Ask : goal.returns-in-Ask
returns-in-Ask g c = record {
  done = passed_on _ c.ask_planned.result c.taken.result c.taken.ensures
      (on_ok c.ask_planned.result c.ask_planned.ensures.done
      (subst (λ step. IsStepTaken g.D.PartialEq.eq g.L.Elector.elect g.D.Digest.bytes
      g.S.CertificateScheme.certificate_bytes c.args.now step c.args.self.now c.ask_planned.new.self)
      (sym c.in-Ask.is)));
  alone = alone_with c.args.self.now c.ask_planned.new.self c.ask_planned.ensures.continues
      c.ask_planned.ensures.batcher;
  due_work = passed_on _ c.ask_planned.result c.taken.result c.taken.ensures
      (on_ok c.ask_planned.result c.ask_planned.ensures.due_work
      (tells_other c.args.self.now c.ask_planned.new.self c.args.step (step.Ask c.in-Ask.task) c.in-Ask.is refl));
  provenance = passed_on _ c.ask_planned.result c.taken.result c.taken.ensures
      (on_ok c.ask_planned.result c.ask_planned.ensures.provenance
      (λ provenance. subst (λ it. IsCausedWith g.D.PartialEq.eq g.L.Elector.elect g.D.Digest.bytes
      g.S.CertificateScheme.certificate_bytes c.args.now (of_step it) c.args.self.now c.ask_planned.new.self)
      (sym c.in-Ask.is)
      provenance));
}

pub returns-in-Offer : goal.returns-in-Offer
returns-in-Offer g c = record {
  done = passed_on _ c.offer.result c.taken-in-Offer.result c.taken-in-Offer.ensures
      (on_ok c.offer.result c.offer.ensures.offered
      (subst (λ step. IsStepTaken g.D.PartialEq.eq g.L.Elector.elect g.D.Digest.bytes
      g.S.CertificateScheme.certificate_bytes c.args.now step c.args.self.now c.offer.new.self)
      (sym c.in-Offer.is)));
  alone = alone_with c.args.self.now c.offer.new.self c.offer.ensures.continues c.offer.ensures.batcher;
  due_work = passed_on _ c.offer.result c.taken-in-Offer.result c.taken-in-Offer.ensures
      (on_ok c.offer.result c.offer.ensures.due_work
      (tells_other c.args.self.now c.offer.new.self c.args.step (step.Offer c.in-Offer.from c.in-Offer.proposal)
      c.in-Offer.is refl));
  provenance = passed_on _ c.offer.result c.taken-in-Offer.result c.taken-in-Offer.ensures
      (on_ok c.offer.result c.offer.ensures.provenance
      (λ provenance. subst (λ it. IsCausedWith g.D.PartialEq.eq g.L.Elector.elect g.D.Digest.bytes
      g.S.CertificateScheme.certificate_bytes c.args.now (of_step it) c.args.self.now c.offer.new.self)
      (sym c.in-Offer.is) provenance));
}

pub returns-in-Resolve : goal.returns-in-Resolve
returns-in-Resolve g c = record {
  done = passed_on _ c.resolve.result c.taken-in-Resolve.result c.taken-in-Resolve.ensures
      (on_ok c.resolve.result c.resolve.ensures.fetched
      (subst (λ step. IsStepTaken g.D.PartialEq.eq g.L.Elector.elect g.D.Digest.bytes
      g.S.CertificateScheme.certificate_bytes c.args.now step c.args.self.now c.resolve.new.self)
      (sym c.in-Resolve.is)));
  alone = alone_with c.args.self.now c.resolve.new.self
      (subst (Continues g.D.PartialEq.eq g.L.Elector.elect g.S.CertificateScheme.certificate_bytes
      g.S.Scheme.IsSignature None c.args.self.now.core) (sym c.resolve.ensures.core) (stays c.args.self.now.core))
      c.resolve.ensures.batcher;
  due_work = on_any c.taken-in-Resolve.result
      (tells_other c.args.self.now c.resolve.new.self c.args.step
      (step.Resolve c.in-Resolve.kind c.in-Resolve.view c.in-Resolve.proposal) c.in-Resolve.is refl
      (tells_planned c.args.self.now c.resolve.new.self c.resolve.ensures.core c.resolve.ensures.planned));
  provenance = passed_on _ c.resolve.result c.taken-in-Resolve.result c.taken-in-Resolve.ensures
      (on_ok c.resolve.result c.resolve.ensures.asks
      (λ asks. subst (λ it. IsCausedWith g.D.PartialEq.eq g.L.Elector.elect g.D.Digest.bytes
      g.S.CertificateScheme.certificate_bytes c.args.now (of_step it) c.args.self.now c.resolve.new.self)
      (sym c.in-Resolve.is)
      (comes_same (ap (λ core. core.member.facts) c.resolve.ensures.core)
      (hand_with c.args.self.now c.resolve.new.self (MissingCertificate c.in-Resolve.kind c.in-Resolve.view ∷ [])
      (ap (λ core. work_in core.outbox.queue.items) c.resolve.ensures.core) c.resolve.ensures.causes)
      (asks_over _ asks))));
}

pub returns-in-Repeat : goal.returns-in-Repeat
returns-in-Repeat g c = record {
  done = on_ok c.repeat.result c.repeat.ensures.done
      (λ done. subst (λ step. IsStepTaken g.D.PartialEq.eq g.L.Elector.elect g.D.Digest.bytes
      g.S.CertificateScheme.certificate_bytes c.args.now step c.args.self.now c.repeat.new.self) (sym c.in-Repeat.is)
      (done c.args.now));
  alone = c.repeat.ensures.alone;
  due_work = on_ok c.repeat.result c.repeat.ensures.due_work
      (tells_other c.args.self.now c.repeat.new.self c.args.step (step.Repeat c.in-Repeat.view) c.in-Repeat.is refl);
  provenance = on_ok c.repeat.result c.repeat.ensures.provenance
      (λ provenance. subst (λ it. IsCausedWith g.D.PartialEq.eq g.L.Elector.elect g.D.Digest.bytes
      g.S.CertificateScheme.certificate_bytes c.args.now (of_step it) c.args.self.now c.repeat.new.self)
      (sym c.in-Repeat.is) (provenance c.args.now));
}

pub returns-in-Push : goal.returns-in-Push
returns-in-Push g c = record {
  done = on_ok c.push.result c.push.ensures.done
      (λ done. subst (λ step. IsStepTaken g.D.PartialEq.eq g.L.Elector.elect g.D.Digest.bytes
      g.S.CertificateScheme.certificate_bytes c.args.now step c.args.self.now c.push.new.self) (sym c.in-Push.is)
      (done c.args.now));
  alone = c.push.ensures.alone;
  due_work = on_ok c.push.result c.push.ensures.due_work
      (λ keeps. subst (λ it. KeepsTaken (work_planned (it ∷ [])) c.args.self.now c.push.new.self) (sym c.in-Push.is)
      keeps);
  provenance = on_ok c.push.result c.push.ensures.provenance
      (λ provenance. subst (λ it. IsCausedWith g.D.PartialEq.eq g.L.Elector.elect g.D.Digest.bytes
      g.S.CertificateScheme.certificate_bytes c.args.now (of_step it) c.args.self.now c.push.new.self)
      (sym c.in-Push.is) (provenance c.args.now));
}
