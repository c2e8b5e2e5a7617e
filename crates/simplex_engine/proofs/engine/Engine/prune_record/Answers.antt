-- That the views which are over are dropped first, and then the record is made short.
use Rattle.std.proofs.Common.{ap, refl, [], inl}
use Rattle.engine_outbox.proofs.Continuity.{goes_further}
use Rattle.simplex_engine.proofs.UnfinishedWork.{tells_further, tells_beside}
use Rattle.engine_planner.specs.declared.task.Task.TheVariants as task
use Rattle.engine_planner.specs.Causes.{planned_causes}
use Rattle.engine_planner.proofs.Causes.{among_none}
use Rattle.engine_planner.proofs.PlannedWork.{among_still}
use Rattle.simplex_engine.proofs.Provenance.{comes_on, comes_pruned, hand_alone}
use Rattle.simplex_engine.proofs.engine.Engine.prune_record.Goals as goal

pub returns-in_err-ask-clause-alone : goal.returns-in_err-ask-clause-alone
returns-in_err-ask-clause-alone g c = record { continues = c.ask.ensures.continues; batcher = c.ask.ensures.batcher }

pub returns-in_err-prune_record-clause-alone : goal.returns-in_err-prune_record-clause-alone
returns-in_err-prune_record-clause-alone g c =
    record {
      continues = goes_further c.ask.ensures.continues c.prune_record.ensures.continues;
      batcher = c.ask.ensures.batcher;
    }

pub returns : goal.returns
returns g c = record {
  alone = record {
    continues = goes_further c.ask.ensures.continues c.prune_record.ensures.continues;
    batcher = c.ask.ensures.batcher;
  };
  due_work =
      let keeps = tells_further c.in_ok-ask.ensures.due_work
      (tells_beside c.ask.new.self (record (c.ask.new.self) { core = c.prune_record.new.self })
      c.prune_record.ensures.waiting (ap (λ m. m.life) c.in_ok-prune_record.ensures.pruned)
      c.prune_record.ensures.continues refl) in
      record {
        stays = keeps.stays;
        works = keeps.works;
        near = keeps.near;
        seen = keeps.seen;
        early = keeps.early;
        risen = keeps.risen;
        constants = keeps.constants;
        ignored = keeps.ignored;
      };
  provenance = comes_on (c.in_ok-ask.ensures.provenance [] (λ kind view. refl)
      (inl (task.Prune, refl, among_none _, tt))) c.prune_record.ensures.continues.risen
      (tells_beside c.ask.new.self (record (c.ask.new.self) { core = c.prune_record.new.self })
      c.prune_record.ensures.waiting (ap (λ m. m.life) c.in_ok-prune_record.ensures.pruned)
      c.prune_record.ensures.continues refl).works (comes_pruned c.in_ok-prune_record.ensures.pruned refl
      (hand_alone c.ask.new.self (record (c.ask.new.self) { core = c.prune_record.new.self })
      c.prune_record.ensures.no_work (among_still (planned_causes c.ask.new.self.plan))));
}
