-- How the contract of `get` follows: the view is the newest one's, or it is looked for among the others.
use Rattle.std.proofs.Common.{sym, ◌∙◌}
use Rattle.std.specs.FinMap as map
use Rattle.simplex_member.proofs.PendingValues.{found_newest, found_other}
use Rattle.simplex_member.proofs.member.pending.Pending.get.Goals as goal

pub returns-then-eq : goal.returns-then-eq
returns-then-eq g c =
    let newest = c.in-Some.newest in
    rw (← c.self.view_is, c.in-Some.is)
    (found_newest c.self.inside.others newest.0 c.args.view newest.1 (sym c.eq.ensures ∙ c.if-eq.true))

pub returns-else-eq : goal.returns-else-eq
returns-else-eq g c =
    let newest = c.in-Some.newest in
    rw (← c.self.view_is, c.in-Some.is) (c.get.ensures
    ∙ found_other c.self.inside.others newest.0 c.args.view newest.1 (sym c.eq.ensures ∙ c.if-eq.false))

pub returns-in-None : goal.returns-in-None
returns-in-None g c = rw (← c.self.view_is, c.in-None.is)
    (c.get-in-None.ensures ∙ map.get-entries c.self.inside.others c.args.view)
