-- The loop of `take_all`: the remaining entries lead to the whole.
use Rattle.std.proofs.Common.{drop}
use Rattle.simplex_record.proofs.EntrySuffixes.{Taking}
use Rattle.simplex_record.proofs.record.recovery.take_all.Given as goal

abbrev pub invariant-loop-artifact : goal.invariant-loop-artifact
invariant-loop-artifact g l =
    Taking g.S.CertificateScheme.certificate_bytes g.D.PartialEq.eq g.L.Elector.elect l.fn.state l.entries l.now l.state
    (drop l.artifact-index l.entries)
