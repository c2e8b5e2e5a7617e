-- That of what the resolver has open nothing is left out.
use Rattle.std.proofs.Common.{◌≡◌, ◌∙◌, ◌||◌, true, ap, subst, sym}
use Rattle.std.specs.List.{list_any}
use Rattle.simplex_resolver.specs.Repair.{has}
use Rattle.engine_fetches.specs.Fetches.{is_fetch_open}
use Rattle.engine_fetches.specs.OutstandingFetches.{wanting}
use Rattle.engine_fetches.specs.declared.fetches.FetchKind.TheVariants.{Nullification}
use Rattle.engine_fetches.proofs.OutstandingFetches.{asks_wanting}
use Rattle.engine_fetches.proofs.repair.Repair.new.Goals as goal

pub invariant_of-result : goal.invariant_of-result
invariant_of-result c = record {
  complete = λ up v is high.
      let views = c.args.resolver.open_fetches in
      let before = c.args.fetches.wanted.items in
      subst (λ xs. is_fetch_open Nullification v xs ≡ true)
      (sym (c.in_ok-open_all.ensures.opened ∙ ap (λ ks. wanting ks before) c.fetches.ensures))
      (asks_wanting views before v (ap (λ b. b || is_fetch_open Nullification v before) is));
}
