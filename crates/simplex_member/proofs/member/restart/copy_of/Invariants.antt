-- The loop of `copy_of`: the entries that were copied, and the remaining ones.
use Rattle.std.proofs.Common.{◌≡◌, ◌++◌, drop}
use Rattle.simplex_record.specs.Entries.{entries_of}
use Rattle.simplex_member.proofs.member.restart.copy_of.Given as goal

abbrev pub invariant-loop-artifact : goal.invariant-loop-artifact
invariant-loop-artifact g l =
    let bytes_of = g.S.CertificateScheme.certificate_bytes in
    entries_of bytes_of l.copy.items ++ entries_of bytes_of (drop l.artifact-index l.artifacts) ≡ entries_of bytes_of
    l.artifacts
