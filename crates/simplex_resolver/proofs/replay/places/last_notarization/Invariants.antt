-- The loop of `last_notarization`: the last one is among the rest.
use Rattle.std.proofs.Common.{◌≡◌}
use Rattle.simplex_resolver.specs.RecordCalls.{newest_first, newest_notarization}
use Rattle.simplex_resolver.proofs.replay.places.last_notarization.Given as goal

abbrev pub invariant-loop-artifact : goal.invariant-loop-artifact
invariant-loop-artifact g l = record {
  can_next : (goal.iterator-loop-artifact g).can_next l.artifact-iterator;
  finite : (goal.iterator-loop-artifact g).is_finite l.artifact-iterator;
  rest : newest_notarization l.view (newest_first g.S.CertificateScheme.certificate_bytes l.fn.entries)
      ≡ newest_notarization l.view
      (newest_first g.S.CertificateScheme.certificate_bytes l.artifact-iterator.iter.rest.now);
}
