-- Each effect is carried out after those before it.
use Rattle.std.proofs.Common.{arith, ◌∙◌}
use Rattle.engine_fetches.proofs.OutstandingFetches.{effects_more}
use Rattle.engine_fetches.proofs.fetches.Fetches.apply.Goals as goal

pub loop-effect-preserved : goal.loop-effect-preserved
loop-effect-preserved c =
    let loop = c.loop-effect in
    record {
      after = effects_more c.args.moment c.args.effects.now loop.effect-index c.effect-item.result
          loop.self.wanted.items c.apply_one.new.self.wanted.items (omega arith) c.effect-item.is
          c.in_ok-apply_one.ensures.after ∙ loop.invariant.after;
      peers = c.apply_one.ensures.same.0 ∙ loop.invariant.peers;
      retry = c.apply_one.ensures.same.1 ∙ loop.invariant.retry;
    }
