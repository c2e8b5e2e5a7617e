-- That a call which is planned passes no verdict.
use Rattle.std.proofs.Common.{refl, sym, subst, inl, ◌∙◌}
use Rattle.engine_outbox.proofs.Continuity.{stays}
use Rattle.simplex_engine.proofs.UnfinishedWork.{tells_still}
use Rattle.engine_planner.specs.Causes.{of_task}
use Rattle.engine_planner.proofs.Causes.{among_last}
use Rattle.engine_planner.proofs.PlannedWork.{among_more}
use Rattle.engine_planner.proofs.PlanStates.{on_ok}
use Rattle.simplex_engine.specs.Provenance.{pending_causes}
use Rattle.simplex_engine.specs.Steps.{IsTaskTaken}
use Rattle.simplex_engine.proofs.Provenance.{comes_still}
use Rattle.simplex_engine.proofs.NoMissingCertificates.{needs_no_offer, task_lacks_none}
use Rattle.simplex_engine.proofs.engine.Engine.ask_planned.Goals as goal

pub returns-then-is_verdict : goal.returns-then-is_verdict
returns-then-is_verdict g c = record {
  continues = stays c.args.self.now.core;
  batcher = refl;
  done = subst (λ is. IsTaskTaken g.D.PartialEq.eq g.L.Elector.elect g.D.Digest.bytes
      g.S.CertificateScheme.certificate_bytes c.args.now is c.args.task c.args.self.now c.args.self.now)
      (sym (sym c.is_verdict.ensures ∙ c.if-is_verdict.true)) refl;
  due_work = tells_still c.args.self.now;
  provenance = comes_still refl refl (task_lacks_none g.row.S.Denot g.row.S-PublicKey.Denot g.row.S-Signature.Denot
      g.row.S-Certificate.Denot c.args.task)
      (among_last (of_task c.args.task) (pending_causes c.args.self.now));
}

pub returns : goal.returns
returns g c =
    let own = needs_no_offer c.args.self.now.core.member.facts c.args.now c.args.task
    (sym c.is_verdict.ensures ∙ c.if-is_verdict.false) in
    record {
      continues = c.ask.ensures.continues;
      batcher = c.ask.ensures.batcher;
      done = on_ok c.ask.result c.ask.ensures.done
          (subst (λ is. IsTaskTaken g.D.PartialEq.eq g.L.Elector.elect g.D.Digest.bytes
          g.S.CertificateScheme.certificate_bytes c.args.now is c.args.task c.args.self.now c.ask.new.self)
          (sym (sym c.is_verdict.ensures ∙ c.if-is_verdict.false)));
      due_work = c.ask.ensures.due_work;
      provenance = on_ok c.ask.result c.ask.ensures.provenance (λ provenance. provenance (of_task c.args.task)
          (task_lacks_none g.row.S.Denot g.row.S-PublicKey.Denot g.row.S-Signature.Denot g.row.S-Certificate.Denot
          c.args.task)
          (inl (c.args.task, refl, among_more (of_task c.args.task) (pending_causes c.args.self.now), own)));
    }
