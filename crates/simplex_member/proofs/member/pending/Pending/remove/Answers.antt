-- How the contract of `remove` follows: the view's value is the newest or one of the others, and the entries without it
-- are left.
use Rattle.std.proofs.Common.{Some, None, sym, ◌∙◌}
use Rattle.simplex_member.proofs.PendingValues.{entries-without}
use Rattle.simplex_member.proofs.member.pending.Pending.remove.Goals as goal
use Rattle.simplex_member.proofs.member.pending.Pending.remove.Goals.{in-Some, in-None}

pub returns-clause-entries : goal.returns-clause-entries
returns-clause-entries g c =
    let i = c.self.inside in
    elim c.match-take.branch [
      | in-Some w ↦ rw (
        ← c.self.view_is,
        w.t-9-is,
        w.unless_of.ensures,
        c.remove.ensures,
        sym c.take.ensures.value ∙ w.in-Some.is,
      ) (entries-without (Some w.in-Some.newest) i.others c.args.view)
      | in-None w ↦ rw (← c.self.view_is, w.t-9-is, c.remove.ensures, sym c.take.ensures.value ∙ w.in-None.is)
          (entries-without None i.others c.args.view)
    ]
