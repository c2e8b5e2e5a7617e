-- How the contract of `read_with_round` follows: a certificate that its scheme refuses is the cause, after a round.
use Rattle.simplex_codec.proofs.Laws.{none_read}
use Rattle.simplex_codec.proofs.certificate.read_with_round.Goals as goal

pub returns-in-None-clause-refused : goal.returns-in-None-clause-refused
returns-in-None-clause-refused g c = record {
  round = c.in-Some.round;
  own = c.in-Some.own.now;
  fits = c.in-Some.ensures.fits;
  parts = c.in-Some.ensures.parts;
  unreadable = none_read g.S.CertificateScheme.certificate_bytes c.in-Some.own.now c.in_ok-certificate.field-0
      c.in_ok-certificate.ensures c.in-None.is;
}
