-- How the contract of `has_covering` follows: some entry covers the view exactly where the last one up to it does.
use Rattle.std.proofs.Common.{ap, ◌∙◌}
use Rattle.std.specs.Option.{is_some}
use Rattle.simplex_types.specs.Terms.{covers}
use Rattle.simplex_view_maps.proofs.Gaps.{any_last, some_mapped}
use Rattle.simplex_view_maps.proofs.term_table.TermTable.has_covering.Goals as goal

pub returns : goal.returns
returns g c =
    let m = c.args.self.now in
    c.is_some.ensures ∙ some_mapped _ c.covering.result ∙ ap is_some c.covering.ensures
    ∙ any_last m.by_view (λ u. covers m.term_length u c.args.view)
