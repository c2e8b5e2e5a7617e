-- That nothing is done but to queue the work.
use Rattle.std.proofs.Common.{refl, ap}
use Rattle.simplex_engine.proofs.UnfinishedWork.{tells_pushed}
use Rattle.simplex_engine.proofs.Provenance.{comes_still, hand_pushed}
use Rattle.simplex_engine.proofs.NoMissingCertificates.{work_lacks_none}
use Rattle.simplex_engine.proofs.engine.Engine.push.Goals as goal

pub returns-in_err-push-clause-alone : goal.returns-in_err-push-clause-alone
returns-in_err-push-clause-alone g c = record { continues = c.push.ensures.continues; batcher = refl }

pub returns : goal.returns
returns g c = record {
  alone = record { continues = c.push.ensures.continues; batcher = refl };
  due_work = tells_pushed c.args.self.now (record c.args.self.now { core = c.push.new.self }) c.args.work
      c.push.ensures.member refl c.in_ok-push.ensures.queued;
  done = λ now. c.in_ok-push.ensures.queued;
  provenance = λ now. comes_still (ap (λ m. m.facts) c.push.ensures.member) refl (work_lacks_none c.args.work)
      (hand_pushed c.args.self.now (record c.args.self.now { core = c.push.new.self }) c.args.work
      c.in_ok-push.ensures.queued refl);
}
