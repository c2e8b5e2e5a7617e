-- A proposal is passed in, or at most stored.
use Rattle.std.proofs.Common.{refl, ap, sym, ◌∙◌, None, subst, inl, inr, [], ◌∷◌}
use Rattle.std.proofs.lemmas.Bool.{cond_both, false≢true}
use Rattle.std.specs.Prelude.{IfOk}
use Rattle.engine_planner.specs.declared.task.Task.TheVariants.{SetProposal}
use Rattle.simplex_engine.specs.InputEffects.{HasDoneTask}
use Rattle.simplex_engine.specs.Steps.{IsOffered, IsTaskDone}
use Rattle.engine_outbox.specs.Continuity.{Continues}
use Rattle.engine_outbox.proofs.Continuity.{stays}
use Rattle.engine_planner.specs.PlannedWork.{AreAmong}
use Rattle.engine_planner.proofs.PlannedWork.{among_more, among_still, plans_kept}
use Rattle.simplex_engine.specs.Admission.{stores_early}
use Rattle.simplex_engine.proofs.UnfinishedWork.{tells_planned}
use Rattle.simplex_member.specs.Calls as call
use Rattle.engine_outbox.specs.Outputs.{work_in}
use Rattle.engine_planner.specs.Causes.{Arrival}
use Rattle.engine_planner.proofs.PlanStates.{on_ok}
use Rattle.simplex_engine.specs.Provenance.{pending_causes, is_final}
use Rattle.simplex_engine.proofs.Provenance.{comes_same, hand_with, kept_early}
use Rattle.engine_planner.specs.FetchRequests.{asks}
use Rattle.engine_planner.proofs.AskedFetches.{asks_none_still}
use Rattle.engine_planner.proofs.AskedSteps.{asks_beside, keeps_asking}
use Rattle.simplex_engine.proofs.engine.Engine.offer.Goals as goal

pub returns-then-admits_proposal : goal.returns-then-admits_proposal
returns-then-admits_proposal g c = record {
  continues = c.ask.ensures.continues;
  batcher = c.ask.ensures.batcher;
  unadmitted = λ no. absurd (false≢true (sym no ∙ sym c.admits_proposal.ensures ∙ c.if-admits_proposal.true));
  acted = λ _. subst (λ view. IfOk c.ask.result
      (HasDoneTask g.D.PartialEq.eq g.L.Elector.elect (SetProposal view c.args.proposal) c.args.now
      c.args.self.now.core.member.facts c.ask.new.self.core.member.facts)) c.view.ensures c.ask.ensures.acted;
  offered = on_ok c.ask.result c.ask.ensures.done (λ done.
      subst (λ is. IsOffered g.D.PartialEq.eq g.L.Elector.elect g.D.Digest.bytes g.S.CertificateScheme.certificate_bytes
      c.args.now is c.args.from c.args.proposal c.args.self.now c.ask.new.self)
      (sym (sym c.admits_proposal.ensures ∙ c.if-admits_proposal.true))
      (subst (λ view. IsTaskDone g.D.PartialEq.eq g.L.Elector.elect g.D.Digest.bytes
      g.S.CertificateScheme.certificate_bytes c.args.now (SetProposal view c.args.proposal) c.args.self.now
      c.ask.new.self) c.view.ensures done));
  due_work = c.ask.ensures.due_work;
  provenance = on_ok c.ask.result c.ask.ensures.provenance
      (λ provenance. provenance (Arrival c.args.from c.args.proposal ∷ []) (λ kind view. refl) (inr (inl (
        c.args.from,
        c.args.proposal,
        ap (λ view. call.SetProposal view c.args.proposal) c.view.ensures,
        among_more (Arrival c.args.from c.args.proposal ∷ []) (pending_causes c.args.self.now),
        sym c.admits_proposal.ensures ∙ c.if-admits_proposal.true,
      ))));
}

pub returns-in_err-store_early-clause-continues : goal.returns-in_err-store_early-clause-continues
returns-in_err-store_early-clause-continues g c =
    subst (Continues g.D.PartialEq.eq g.L.Elector.elect g.S.CertificateScheme.certificate_bytes g.S.Scheme.IsSignature
    None c.args.self.now.core)
    (sym (ap (λ engine. engine.core) c.store_early.ensures.same)) (stays c.args.self.now.core)

pub returns-in_err-store_early-clause-batcher : goal.returns-in_err-store_early-clause-batcher
returns-in_err-store_early-clause-batcher g c = ap (λ engine. engine.batcher) c.store_early.ensures.same

pub returns : goal.returns
returns g c =
    let old = c.args.self.now.plan.early.proposals.items in
    let kept = subst (AreAmong old) (sym c.in_ok-store_early.ensures.kept.kept)
    (cond_both (stores_early c.args.self.now c.args.proposal) _ _ (AreAmong old) (λ _. among_more old _)
    (λ _. among_still old)) in
    record {
      continues = subst (Continues g.D.PartialEq.eq g.L.Elector.elect g.S.CertificateScheme.certificate_bytes
          g.S.Scheme.IsSignature None c.args.self.now.core)
          (sym (ap (λ engine. engine.core) c.store_early.ensures.same)) (stays c.args.self.now.core);
      batcher = ap (λ engine. engine.batcher) c.store_early.ensures.same;
      unadmitted = λ _. (refl, c.in_ok-store_early.ensures.kept);
      acted = λ is. absurd (false≢true (sym c.if-admits_proposal.false ∙ c.admits_proposal.ensures ∙ is));
      offered = subst (λ is. IsOffered g.D.PartialEq.eq g.L.Elector.elect g.D.Digest.bytes
          g.S.CertificateScheme.certificate_bytes c.args.now is c.args.from c.args.proposal c.args.self.now
          c.store_early.new.self)
          (sym (sym c.admits_proposal.ensures ∙ c.if-admits_proposal.false)) c.in_ok-store_early.ensures.kept;
      due_work = tells_planned c.args.self.now c.store_early.new.self
          (ap (λ engine. engine.core) c.store_early.ensures.same)
          (plans_kept c.args.self.now.plan c.store_early.new.self.plan
          (ap (λ engine. engine.plan) c.store_early.ensures.same) kept);
      provenance = comes_same (ap (λ engine. engine.core.member.facts) c.store_early.ensures.same)
          (hand_with c.args.self.now c.store_early.new.self (Arrival c.args.from c.args.proposal ∷ [])
          (ap (λ engine. work_in engine.core.outbox.queue.items) c.store_early.ensures.same)
          (kept_early c.args.from c.args.proposal c.args.self.now c.store_early.new.self
          c.in_ok-store_early.ensures.kept))
          (asks_beside (Arrival c.args.from c.args.proposal ∷ []) (λ kind view. refl)
          (keeps_asking (λ kind view. is_final c.store_early.new.self.core.member.facts view)
          (ap (λ engine. engine.plan.repair.resolver) c.store_early.ensures.same)
          (λ kind view asked un. ap (λ engine. asks engine.plan kind view) c.store_early.ensures.same ∙ asked)
          (asks_none_still (ap (λ engine. engine.plan.repair.fetches) c.store_early.ensures.same))));
    }
