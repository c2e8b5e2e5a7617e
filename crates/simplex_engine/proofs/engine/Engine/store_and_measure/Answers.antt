-- That all of the record is queued, and then short.
use Rattle.std.proofs.Common.{◌≡◌, Bool, true, false, not, refl, ap, subst}
use Rattle.std.proofs.lemmas.Bool.{false≢true}
use Rattle.engine_outbox.specs.RecordReach.{IsShort}
use Rattle.simplex_engine.proofs.UnfinishedWork.{tells_beside}
use Rattle.engine_planner.specs.Causes.{planned_causes}
use Rattle.engine_planner.proofs.PlannedWork.{among_still}
use Rattle.simplex_engine.proofs.Provenance.{comes_still, hand_alone}
use Rattle.simplex_engine.proofs.engine.Engine.store_and_measure.Goals as goal

is_not : (b : Bool) → not b ≡ true → b ≡ false
is_not false is = refl
is_not true is = absurd (false≢true is)

pub returns-in_err-store-clause-alone : goal.returns-in_err-store-clause-alone
returns-in_err-store-clause-alone g c = record { continues = c.store.ensures.continues; batcher = refl }

pub returns-clause-alone : goal.returns-clause-alone
returns-clause-alone g c = record { continues = c.store.ensures.continues; batcher = refl }

pub returns-clause-short : goal.returns-clause-short
returns-clause-short g c = λ given kept is.
    subst (λ long. IsShort long c.store.new.self.member.facts) c.long_record.ensures
    (c.is_record_too_long.ensures.short (is_not c.is_record_too_long.result is)
    (c.store.ensures.continues.kept given kept).reaching c.in_ok-store.ensures.whole)

pub returns-clause-due_work : goal.returns-clause-due_work
returns-clause-due_work g c =
    tells_beside c.args.self.now (record c.args.self.now { core = c.store.new.self })
    (ap (λ m. m.facts.outstanding_work) c.store.ensures.member)
    (ap (λ m. m.facts.life) c.store.ensures.member)
    c.store.ensures.continues refl

pub returns-clause-provenance : goal.returns-clause-provenance
returns-clause-provenance g c now =
    comes_still (ap (λ m. m.facts) c.store.ensures.member) refl (λ kind view. refl)
    (hand_alone c.args.self.now (record c.args.self.now { core = c.store.new.self }) c.store.ensures.no_work
    (among_still (planned_causes c.args.self.now.plan)))
