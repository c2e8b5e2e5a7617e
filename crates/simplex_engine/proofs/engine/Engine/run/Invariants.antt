-- The engine continued by itself in the steps so far, and reported all that the member waits for; what was at hand
-- causes everything.
use Rattle.simplex_engine.specs.OwnSteps.{ContinuesWithoutInput}
use Rattle.simplex_engine.specs.Provenance.{IsCausedWithoutInput}
use Rattle.simplex_engine.specs.ApplicationWork.{KeepsApplicationWork}
use Rattle.simplex_engine.proofs.engine.Engine.run.Given as goal

abbrev pub invariant-loop : goal.invariant-loop
invariant-loop g l = record {
  alone : ContinuesWithoutInput g.D.PartialEq.eq g.L.Elector.elect g.S.CertificateScheme.certificate_bytes
      g.S.Scheme.IsSignature l.initial.self l.self;
  due_work : KeepsApplicationWork l.initial.self l.self;
  provenance : IsCausedWithoutInput g.D.PartialEq.eq g.L.Elector.elect g.D.Digest.bytes
      g.S.CertificateScheme.certificate_bytes l.now l.initial.self l.self;
}
