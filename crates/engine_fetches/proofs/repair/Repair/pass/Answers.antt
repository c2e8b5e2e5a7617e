-- That no wanted view above the last finalized one is left out.
use Rattle.std.proofs.Common.{sym, subst, arith}
use Rattle.engine_fetches.specs.OutstandingFetches.{FetchesTheOutstanding}
use Rattle.engine_fetches.proofs.OutstandingFetches.{asks_passed}
use Rattle.engine_fetches.proofs.repair.Repair.pass.Goals as goal

pub invariant_of-self : goal.invariant_of-self
invariant_of-self c =
    let old = c.args.self.now in
    record {
      complete = λ up. subst (FetchesTheOutstanding c.later_of-self.result old.resolver.open_fetches)
          (sym c.pass.ensures.passed)
          (asks_passed old.passed old.resolver.open_fetches old.fetches.wanted.items (old.complete up) c.args.finalized
          c.later_of-self.result
          (omega (arith, c.later_of-self.ensures)) (omega (arith, c.later_of-self.ensures)));
    }
