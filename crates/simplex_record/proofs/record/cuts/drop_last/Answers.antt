-- How the contract of `drop_last` follows: each entry that is dropped is the last and no vote, and the first that may
-- not be ends it.
use Rattle.std.proofs.Common.{◌≡◌, true, ◌∙◌, sym}
use Rattle.simplex_record.specs.Cuts.{may_drop}
use Rattle.simplex_record.specs.Entries.{entries_of}
use Rattle.simplex_record.proofs.Cuts.{one_item_dropped, none_dropped}
use Rattle.simplex_record.proofs.Votes.{votes_undropped}
use Rattle.simplex_record.proofs.record.cuts.drop_last.Goals as goal

pub loop-left-preserved : goal.loop-left-preserved
loop-left-preserved g c =
    let bytes_of = g.S.CertificateScheme.certificate_bytes in
    let may : may_drop c.args.closed (entries_of bytes_of c.loop-left.entries.items) ≡ true =
    rw (← c.deref.ensures.value) (sym c.may_drop.ensures.answer ∙ c.if-may_drop.true) in
    rw (c.truncate.ensures.items, c.len.ensures, c.loop-left.entries.ok.0) (
      one_item_dropped bytes_of c.args.closed c.loop-left.left c.loop-left.entries.items may c.loop-left-test.true
          ∙ c.loop-left.invariant.0,
      votes_undropped bytes_of c.args.closed c.loop-left.entries.items may ∙ c.loop-left.invariant.1,
    )

pub returns-else-may_drop-clause-left : goal.returns-else-may_drop-clause-left
returns-else-may_drop-clause-left g c =
    sym (none_dropped c.args.closed c.loop-left.left
    (entries_of g.S.CertificateScheme.certificate_bytes c.loop-left.entries.items)
    (rw (← c.deref.ensures.value) (sym c.may_drop.ensures.answer ∙ c.if-may_drop.false)))
    ∙ c.loop-left.invariant.0
