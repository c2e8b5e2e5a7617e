-- How the contract of `note` follows: a view that is in one of the three sets stays there, another one is noted apart
-- from them.
use Rattle.std.proofs.Common.{◌∙◌, sym}
use Rattle.simplex_resolver.proofs.ViewSets.{same_some, value_there, failed_there, seen_there, seen_noted, noted_apart}
use Rattle.simplex_resolver.proofs.resolver.notarizations.Notarizations.note.Goals as goal
use Rattle.simplex_resolver.proofs.resolver.notarizations.Notarizations.note.Goals.{then-contains-via-then-contains, then-contains-via-else-contains+then-is_some}

pub returns-then-contains : goal.returns-then-contains
returns-then-contains c = seen_there c.self.inside.certified c.self.inside.failed c.self.inside.noted c.args.self.now
    c.self.view_is c.args.view (elim c.then-contains.branch [
      | then-contains-via-then-contains w ↦ failed_there c.self.inside.certified c.self.inside.failed
          c.self.inside.noted
          c.args.self.now c.self.view_is c.args.view (sym c.contains.ensures ∙ w.if-contains.true)
      | then-contains-via-else-contains+then-is_some w ↦
          value_there c.self.inside.certified c.self.inside.failed c.self.inside.noted c.args.self.now c.self.view_is
          c.args.view
          (sym (same_some w.get.result w.is_some.result _ w.is_some.ensures w.get.ensures) ∙ w.if-is_some.true)
    ])

pub returns : goal.returns
returns c =
    seen_noted c.self.inside.certified c.self.inside.failed c.self.inside.noted c.args.self.now c.self.view_is
    c.insert.result c.insert.new.self c.args.view
    (sym (same_some c.get.result c.is_some.result _ c.is_some.ensures c.get.ensures) ∙ c.if-is_some.false)
    c.insert.ensures.inserted

pub invariant_of-self : goal.invariant_of-self
invariant_of-self c =
    noted_apart c.self.inside.certified c.self.inside.failed c.self.inside.noted c.self.invariant c.insert.result
    c.insert.new.self c.args.view
    (sym (same_some c.get.result c.is_some.result _ c.is_some.ensures c.get.ensures) ∙ c.if-is_some.false)
    (sym c.contains.ensures ∙ c.if-contains.false) c.insert.ensures.inserted c.insert.ensures.refused
