-- How the contract of `has_refused_between` follows: a range that ends below the view has no view above it, else the
-- refused ones of the range are looked at.
use Rattle.std.proofs.Common.{ℕ, Bool, ◌+◌, ap, ◌∙◌, sym, subst}
use Rattle.std.specs.List.{list_any}
use Rattle.std.specs.FinMap as map
use Rattle.simplex_view_maps.specs.Tracked.{below, at_or_above}
use Rattle.simplex_view_maps.proofs.Gaps.{lt_yes}
use Rattle.simplex_voter.specs.Rounds.{AreKept, is_refused_above}
use Rattle.simplex_voter.proofs.Refused.{searched, none_between}
use Rattle.simplex_voter.proofs.voter.rounds.Rounds.has_refused_between.Goals as goal

pub returns-then-lt : goal.returns-then-lt
returns-then-lt g c =
    none_between c.args.self.now c.args.above c.args.from c.args.last (lt_yes c.args.last c.args.above c.if-lt.ensures)

pub returns : goal.returns
returns g c =
    let kept = subst (AreKept c.self.inside.bounds) c.self.view_is c.self.invariant in
    let found : ℕ × Unit {0} → Bool = λ e. is_refused_above c.self.inside.by_view c.args.above e.0 in
    c.has_refused.ensures
    ∙ ap (list_any found) c.from_to-views.ensures
    ∙ ap (λ low. list_any found (map.entries (at_or_above (below c.self.inside.bounds.refused (c.args.last + 1)) low)))
    c.later.ensures
    ∙ searched c.args.self.now c.self.inside.by_view (sym (ap (λ x. x.by_view) c.self.view_is)) c.self.inside.bounds
    kept c.args.above c.args.from c.args.last
