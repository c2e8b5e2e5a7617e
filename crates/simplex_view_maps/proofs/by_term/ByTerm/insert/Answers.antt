-- How the contract of `insert` follows: the run stays covered with one entry more, and so does the one that the entry
-- lengthens.
use Rattle.std.proofs.Common.{arith}
use Rattle.simplex_view_maps.proofs.Runs.{inserted_covers, insert_covers, followed}
use Rattle.simplex_view_maps.proofs.by_term.ByTerm.insert.Goals as goal

pub invariant_of-self : goal.invariant_of-self
invariant_of-self g c w low high =
    rw c.insert.ensures.after
    (inserted_covers c.self.inside.table c.args.view c.args.value c.insert.result w (c.self.invariant w low high))

pub invariant_of-self-2 : goal.invariant_of-self-2
invariant_of-self-2 g c w low high = followed (c.joined-run.ensures _
    (λ w low high. rw c.insert.ensures.after
    (inserted_covers c.self.inside.table c.args.view c.args.value c.insert.result w (c.self.invariant w low high)))
    (λ w low high.
    let end = rw c.in_ok-back.ensures.after at c.covered_by.ensures.end in
    rw c.in_ok-back.ensures.after (insert_covers c.self.inside.table c.args.view c.args.value c.in_ok-back.back
    c.requires c.in_ok-back.ensures.standing w (rw c.covered_by.ensures.first at low) (grind (arith, end)))))
    c.grown-self-inside.ensures.behind w (rw c.grown-self-inside.ensures.first at low) high
