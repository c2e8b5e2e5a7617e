-- How the contract of `move_over` follows: a value moved among the others, or left the newest, is in the entries either
-- way.
use Rattle.std.proofs.Common.{◌≡◌, true, false, is_some, sym, subst, ap, ◌∙◌}
use Rattle.std.specs.FinMap.{entries, get}
use Rattle.simplex_member.proofs.PendingValues.{none_newest, none_removed, entries-put}
use Rattle.simplex_voter.proofs.RoundsKept.{inserted_new}
use Rattle.simplex_member.proofs.member.pending.Pending.move_over.Goals as goal

pub returns-in-Ok-clause-entries : goal.returns-in-Ok-clause-entries
returns-in-Ok-clause-entries g c =
    let i = c.self.inside in
    let none = none_newest i.newest (subst (λ w. w.has_room ≡ true) (sym c.self.view_is) c.requires) in
    let vacant : is_some (get c.remove.new.self c.args.view) ≡ false =
    rw c.remove.ensures (none_removed i.others c.args.view) in
    let put_there = inserted_new c.remove.new.self c.insert.new.self c.args.view c.args.value c.in-Ok.field-0 vacant
    c.in-Ok.ensures.standing c.in-Ok.ensures.after in
    rw (← c.self.view_is, none)
    (ap entries put_there ∙ rw c.remove.ensures (entries-put i.others c.args.view c.args.value))

pub returns-clause-entries : goal.returns-clause-entries
returns-clause-entries g c =
    let i = c.self.inside in
    let none = none_newest i.newest (subst (λ w. w.has_room ≡ true) (sym c.self.view_is) c.requires) in
    rw (← c.self.view_is, none, c.in-Err.ensures.after, c.in-Err.ensures.refused, c.remove.ensures)
    (entries-put i.others c.args.view c.args.value)
