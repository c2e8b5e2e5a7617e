-- How the contract of `decode_certificate` follows: each kind's bytes are read back as what they were written from, and
-- other bytes have their cause.
use Rattle.simplex_codec.proofs.Laws.{reads_certificates}
use Rattle.simplex_codec.proofs.certificate.decode_certificate.Goals as goal

pub returns-clause-reads : goal.returns-clause-reads
returns-clause-reads g c =
    reads_certificates g.D.Digest.bytes g.D.Digest.SIZE g.met.D.Digest.length_bytes
    g.S.CertificateScheme.certificate_bytes c.encoding_tells_apart.ensures c.args.bytes.now c.decode_kind.result
    c.decode_kind.ensures.decoded c.decode_kind.ensures.fits c.decode_kind.ensures.refused
