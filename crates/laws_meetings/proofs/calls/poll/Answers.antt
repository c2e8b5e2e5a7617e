-- from the clauses of `Engine::poll`
use Rattle.laws_rounds.proofs.LifetimeCalls.{result_lives}
use Rattle.laws_meetings.proofs.CallClauses.{does_work, poll_settles}
use Rattle.laws_meetings.proofs.calls.poll.Goals as goal

pub returns : goal.returns
returns g c = record {
  lifetime = record {
    made = record { traced = c.poll.ensures.traced; votes = c.poll.ensures.votes };
    stays = λ failed. (c.poll.ensures.refused failed).1;
    lives = λ alive. result_lives g.D.PartialEq.eq g.L.Elector.elect g.D.Digest.bytes
        g.S.CertificateScheme.certificate_bytes _ _ _ _ _ _ c.poll.result c.poll.ensures.provenance
        c.poll.ensures.failed alive;
  };
  works = λ alive. does_work g.D.PartialEq.eq g.L.Elector.elect g.D.Digest.bytes
      g.S.CertificateScheme.certificate_bytes _ _ _ _ _ _ c.poll.result c.poll.ensures.provenance
      c.poll.ensures.works c.poll.ensures.due_work c.poll.ensures.failed alive;
  settles = λ alive. poll_settles g.D.PartialEq.eq g.L.Elector.elect g.D.Digest.bytes
      g.S.CertificateScheme.certificate_bytes _ _ _ c.poll.result c.poll.ensures.given c.poll.ensures.settled
      c.poll.ensures.rest c.poll.ensures.failed alive;
}
