-- That a view is found by its order.
use Rattle.std.proofs.Common.{◌∙◌}
use Rattle.engine_fetches.proofs.OutstandingFetches.{has_by_order}
use Rattle.engine_fetches.proofs.fetches.missing.is_among.Goals as goal

pub returns : goal.returns
returns c = c.contains.ensures ∙ has_by_order c.args.view c.args.views.now.keys
