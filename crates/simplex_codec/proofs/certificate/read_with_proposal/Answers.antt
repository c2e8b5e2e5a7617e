-- How the contract of `read_with_proposal` follows: a certificate that its scheme refuses is the cause, after a
-- proposal.
use Rattle.simplex_codec.proofs.Laws.{none_read}
use Rattle.simplex_codec.proofs.certificate.read_with_proposal.Goals as goal

pub returns-in-None-clause-refused : goal.returns-in-None-clause-refused
returns-in-None-clause-refused g c = record {
  proposal = c.in_ok-proposal.proposal;
  own = c.in_ok-proposal.own.now;
  fits = c.in_ok-proposal.ensures.fits;
  parts = c.in_ok-proposal.ensures.parts;
  unreadable = none_read g.S.CertificateScheme.certificate_bytes c.in_ok-proposal.own.now c.in_ok-certificate.field-0
      c.in_ok-certificate.ensures c.in-None.is;
}
