-- The loop of `check_entries`: the entries so far, whose notarizations are noted and which break no rule.
use Rattle.std.proofs.Common.{◌≡◌, None, take}
use Rattle.simplex_resolver.specs.RecordCalls.{newest_first}
use Rattle.simplex_resolver.specs.RecordRules.{record_error}
use Rattle.simplex_resolver.specs.RecordPositions.{AreNoted}
use Rattle.simplex_resolver.proofs.replay.check.check_entries.Given as goal

abbrev pub invariant-loop-place : goal.invariant-loop-place
invariant-loop-place g l = record {
  noted : AreNoted g.S.CertificateScheme.certificate_bytes l.places (take l.place l.entries);
  sound : record_error (newest_first g.S.CertificateScheme.certificate_bytes (take l.place l.entries)) ≡ None;
}
