-- The loop of `is_finalized_in`: none of those that were met is one.
use Rattle.std.proofs.Common.{◌≡◌, drop}
use Rattle.simplex_record.specs.Check.{stands}
use Rattle.simplex_record.specs.Entries.{entries_of}
use Rattle.simplex_record.specs.Recovery.{is_finalization_entry}
use Rattle.simplex_member.proofs.member.restart.is_finalized_in.Given as goal

abbrev pub invariant-loop-artifact : goal.invariant-loop-artifact
invariant-loop-artifact g l =
    let bytes_of = g.S.CertificateScheme.certificate_bytes in
    stands l.view is_finalization_entry (entries_of bytes_of l.artifacts)
    ≡ stands l.view is_finalization_entry (entries_of bytes_of (drop l.artifact-index l.artifacts))
