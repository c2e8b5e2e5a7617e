-- How the contract of `contains` follows: a view is in the map exactly if it is in one of the three sets.
use Rattle.std.proofs.Common.{◌∙◌, sym}
use Rattle.std.proofs.lemmas.Bool.{false≢true}
use Rattle.simplex_resolver.proofs.ViewSets.{same_some, value_there, failed_there, noted_there}
use Rattle.simplex_resolver.proofs.resolver.notarizations.Notarizations.contains.Goals as goal
use Rattle.simplex_resolver.proofs.resolver.notarizations.Notarizations.contains.Goals.{then-is_some, else-is_some}

pub returns-then-contains : goal.returns-then-contains
returns-then-contains c = c.if-contains.true ∙ sym (elim c.if-is_some.branch [
  | then-is_some w ↦ value_there c.self.inside.certified c.self.inside.failed c.self.inside.noted c.args.self.now
      c.self.view_is c.args.view
      (sym (same_some c.get.result c.is_some.result _ c.is_some.ensures c.get.ensures) ∙ w.if-is_some.true)
  | else-is_some w ↦ failed_there c.self.inside.certified c.self.inside.failed c.self.inside.noted c.args.self.now
      c.self.view_is c.args.view (sym w.contains.ensures ∙ sym w.value-is ∙ c.if-contains.true)
])

pub returns-else-contains : goal.returns-else-contains
returns-else-contains c = c.contains-else-contains.ensures ∙ elim c.if-is_some.branch [
  | then-is_some w ↦ absurd (false≢true (sym c.if-contains.false ∙ w.value-is ∙ w.if-is_some.true))
  | else-is_some w ↦
      noted_there c.self.inside.certified c.self.inside.failed c.self.inside.noted c.args.self.now c.self.view_is
      c.args.view
      (sym (same_some c.get.result c.is_some.result _ c.is_some.ensures c.get.ensures) ∙ w.if-is_some.false)
      (sym w.contains.ensures ∙ sym w.value-is ∙ c.if-contains.false)
]
