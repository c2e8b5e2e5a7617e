-- The loop of `drop_last`: the remaining drops give the requested cut, and each vote stays.
use Rattle.std.proofs.Common.{◌≡◌}
use Rattle.simplex_record.specs.Entries.{entries_of}
use Rattle.simplex_record.specs.Cuts.{without_last}
use Rattle.simplex_record.specs.Votes.{votes_of}
use Rattle.simplex_record.proofs.record.cuts.drop_last.Given as goal

abbrev pub invariant-loop-left : goal.invariant-loop-left
invariant-loop-left g l =
    (without_last l.fn.closed l.left (entries_of g.S.CertificateScheme.certificate_bytes l.entries.items)
    ≡ without_last l.fn.closed l.fn.count (entries_of g.S.CertificateScheme.certificate_bytes l.fn.entries.items))
    × (votes_of l.entries.items ≡ votes_of l.fn.entries.items)

abbrev pub decreases-loop-left : goal.decreases-loop-left
decreases-loop-left g l = l.left
