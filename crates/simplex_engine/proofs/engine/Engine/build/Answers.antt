-- A block is passed in where the application was asked for it.
use Rattle.std.proofs.Common.{false, refl, sym, subst, ◌∙◌, inl, [], ◌∷◌}
use Rattle.std.proofs.lemmas.Result.{IfOk-weaker}
use Rattle.simplex_engine.specs.InputEffects.{IsBlockTaken}
use Rattle.engine_outbox.proofs.Continuity.{stays}
use Rattle.simplex_engine.proofs.UnfinishedWork.{tells_still}
use Rattle.engine_planner.specs.declared.task.Task.TheVariants as task
use Rattle.engine_planner.specs.Causes.{Message}
use Rattle.engine_planner.proofs.Causes.{among_last}
use Rattle.engine_planner.proofs.PlannedWork.{among_more}
use Rattle.engine_planner.proofs.PlanStates.{on_ok}
use Rattle.simplex_engine.specs.Provenance.{pending_causes}
use Rattle.simplex_engine.proofs.Provenance.{comes_still}
use Rattle.simplex_engine.proofs.engine.Engine.build.Goals as goal

pub returns-then-not-is_building : goal.returns-then-not-is_building
returns-then-not-is_building g c =
    let facts = c.args.self.now.core.member.facts in
    record {
      continues = stays c.args.self.now.core;
      batcher = refl;
      acted = subst (λ is_asked. IsBlockTaken g.D.PartialEq.eq g.L.Elector.elect is_asked c.args.context.now.round.view
          c.args.payload c.args.now facts facts false)
          (sym c.if-not-is_building.true ∙ c.is_building.ensures) (refl, refl);
      due_work = tells_still c.args.self.now;
      provenance = comes_still refl refl (λ kind view. refl)
          (among_last (Message (task.Proposed c.args.context.now.round.view c.args.payload) ∷ [])
          (pending_causes c.args.self.now));
    }

pub returns : goal.returns
returns g c =
    let asked = task.Proposed c.args.context.now.round.view c.args.payload in
    let before = c.args.self.now.core.member.facts in
    let after = c.ask.new.self.core.member.facts in
    record {
      continues = c.ask.ensures.continues;
      batcher = c.ask.ensures.batcher;
      acted = IfOk-weaker c.ask.result _ _ (λ is_of_use done.
          subst (λ is_asked. IsBlockTaken g.D.PartialEq.eq g.L.Elector.elect is_asked c.args.context.now.round.view
          c.args.payload c.args.now before after is_of_use)
          (sym c.if-not-is_building.false ∙ c.is_building.ensures) done) c.ask.ensures.acted;
      due_work = c.ask.ensures.due_work;
      provenance = on_ok c.ask.result c.ask.ensures.provenance
          (λ provenance. provenance (Message asked ∷ []) (λ kind view. refl)
          (inl (asked, refl, among_more (Message asked ∷ []) (pending_causes c.args.self.now), tt)));
    }
