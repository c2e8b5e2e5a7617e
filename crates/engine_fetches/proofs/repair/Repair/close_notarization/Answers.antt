-- That no wanted view is left out.
use Rattle.std.proofs.Common.{sym, subst}
use Rattle.engine_fetches.specs.OutstandingFetches.{FetchesTheOutstanding}
use Rattle.engine_fetches.proofs.OutstandingFetches.{asks_notarized}
use Rattle.engine_fetches.proofs.repair.Repair.close_notarization.Goals as goal

pub invariant_of-self : goal.invariant_of-self
invariant_of-self c =
    let old = c.args.self.now in
    record {
      complete = λ up. subst (FetchesTheOutstanding old.passed old.resolver.open_fetches) (sym c.close.ensures.closed)
          (asks_notarized old.passed old.resolver.open_fetches old.fetches.wanted.items (old.complete up) c.args.view);
    }
