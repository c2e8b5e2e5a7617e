-- How the contract of `prune_record` follows: each entry that is left counts as closed, and the votes are those of the
-- entries left.
use Rattle.std.proofs.Common.{sym, ◌∙◌}
use Rattle.simplex_record.specs.Entries.{entries_of}
use Rattle.simplex_record.proofs.Cuts.{length_entries}
use Rattle.simplex_member.specs.MemberFacts.{MemberFacts, living, open_while}
use Rattle.simplex_member.proofs.PrunedRecord.{closed_so}
use Rattle.simplex_member.proofs.member.life.Member.prune_record.Goals as goal

pub returns-clause-pruned : goal.returns-clause-pruned
returns-clause-pruned g c =
    let bytes_of = g.S.CertificateScheme.certificate_bytes in
    let inside = c.self.inside in
    let m : MemberFacts _ _ _ = record {
      life = living inside.failed inside.state.value;
      outstanding_work = open_while inside.failed inside.outstanding_work.open_now;
      entries = entries_of bytes_of inside.artifacts.items;
      closed = inside.closed;
      is_pruned = inside.is_pruned;
      retention = inside.retention;
      least_retention = inside.least_retention;
    } in
    let lowest = rw c.deref.ensures.value at c.lowest_retained-lowest.ensures in
    let left = rw (c.deref-2.ensures, lowest) at c.keep_within.ensures.left in
    let all = c.len-self-inside.ensures
    ∙ (c.keep_within.new.entries.ok.0 ∙ sym (length_entries bytes_of c.keep_within.new.entries.items)) in
    rw (← c.self.view_is)
    (closed_so m (entries_of bytes_of c.keep_within.new.entries.items) c.len-self-inside.result left all)

pub returns-clause-votes : goal.returns-clause-votes
returns-clause-votes g c =
    let lowest = rw c.deref.ensures.value at c.lowest_retained-lowest.ensures in
    rw (← c.self.view_is) (rw (c.deref-2.ensures, lowest) at c.keep_within.ensures.votes)
