-- from the clauses of `Engine::handle`
use Rattle.laws_rounds.proofs.DeliveredInputs.{answered}
use Rattle.laws_rounds.proofs.LifetimeCalls.{result_lives}
use Rattle.laws_rounds.proofs.calls.deliver.Goals as goal

pub returns-clause-call : goal.returns-clause-call
returns-clause-call g c = record {
  made = record {
    continues = c.handle.ensures.continues;
    votes = c.handle.ensures.votes;
    backed = c.handle.ensures.backed;
  };
  stays = λ failed. (c.handle.ensures.refused failed).1;
  lives = λ alive. result_lives g.D.PartialEq.eq g.L.Elector.elect g.D.Digest.bytes
      g.S.CertificateScheme.certificate_bytes _ _ _ _ _ _ c.handle.result c.handle.ensures.provenance
      c.handle.ensures.failed alive;
}

pub returns-clause-answered : goal.returns-clause-answered
returns-clause-answered g c = answered g.D.PartialEq.eq g.L.Elector.elect
    g.S.CertificateScheme.certificate_bytes g.S.Scheme.IsSignature _ g.S.CertificateScheme.participants _ c.args.input _
    _ c.handle.result c.handle.ensures.acted
