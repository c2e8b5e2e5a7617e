-- from the clauses of `Engine::handle`
use Rattle.laws_rounds.proofs.LifetimeCalls.{result_lives}
use Rattle.laws_meetings.proofs.CallClauses.{on_ok, does_work, handle_reports, handle_settles}
use Rattle.laws_meetings.proofs.calls.deliver.Goals as goal

pub returns : goal.returns
returns g c = record {
  lifetime = record {
    made = record {
      continues = c.handle.ensures.continues;
      votes = c.handle.ensures.votes;
      backed = c.handle.ensures.backed;
    };
    stays = λ failed. (c.handle.ensures.refused failed).1;
    lives = λ alive. result_lives g.D.PartialEq.eq g.L.Elector.elect g.D.Digest.bytes
        g.S.CertificateScheme.certificate_bytes _ _ _ _ _ _ c.handle.result c.handle.ensures.provenance
        c.handle.ensures.failed alive;
  };
  works = λ alive. does_work g.D.PartialEq.eq g.L.Elector.elect g.D.Digest.bytes
      g.S.CertificateScheme.certificate_bytes _ _ _ _ _ _ c.handle.result c.handle.ensures.provenance
      (on_ok c.handle.result c.handle.ensures.due_work (λ keeps. keeps.works))
      (on_ok c.handle.result c.handle.ensures.due_work (handle_reports _ _)) c.handle.ensures.failed alive;
  settles = λ alive. handle_settles g.D.PartialEq.eq g.L.Elector.elect g.D.Digest.bytes
      g.S.CertificateScheme.certificate_bytes _ _ _ c.handle.ensures.continues.kept c.handle.ensures.to_settle
      (λ failed. (c.handle.ensures.refused failed).1) alive;
}
