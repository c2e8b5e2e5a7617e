-- The loop of `pass_every`: the entries so far, whose notarizations are noted and whose calls were made.
use Rattle.std.proofs.Common.{◌≡◌, take}
use Rattle.simplex_resolver.specs.RecordCalls.{newest_first, calls_of, all_after}
use Rattle.simplex_resolver.specs.RecordPositions.{AreNoted}
use Rattle.simplex_resolver.proofs.replay.calls.pass_every.Given as goal

abbrev pub invariant-loop-place : goal.invariant-loop-place
invariant-loop-place g l = record {
  noted : AreNoted g.S.CertificateScheme.certificate_bytes l.places (take l.place l.entries);
  after : l.state ≡ all_after l.fn.state
      (calls_of g.D.Digest.bytes (newest_first g.S.CertificateScheme.certificate_bytes (take l.place l.entries)));
}
