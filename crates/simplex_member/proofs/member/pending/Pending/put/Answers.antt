-- How the contract of `put` follows: there is room for the newest value, and the entries have it at its view.
use Rattle.std.proofs.Common.{◌≡◌, true, sym, subst}
use Rattle.simplex_member.proofs.PendingValues.{none_newest, entries-insert}
use Rattle.simplex_member.proofs.member.pending.Pending.put.Goals as goal

pub returns : goal.returns
returns g c =
    let i = c.self.inside in
    let none = none_newest i.newest (subst (λ w. w.has_room ≡ true) (sym c.self.view_is) c.requires) in
    record { entries = rw (← c.self.view_is, none) (entries-insert i.others c.args.view c.args.value) }
