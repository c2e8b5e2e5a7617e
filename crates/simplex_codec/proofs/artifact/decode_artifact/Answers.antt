-- How the contract of `decode_artifact` follows: each kind's bytes are read back as what they were written from, and
-- other bytes have their cause.
use Rattle.simplex_codec.proofs.ArtifactLaw.{reads_artifacts}
use Rattle.simplex_codec.proofs.artifact.decode_artifact.Goals as goal

pub returns-clause-reads : goal.returns-clause-reads
returns-clause-reads g c =
    let decode = c.decode_kind.ensures in
    reads_artifacts g.D.Digest.bytes g.D.Digest.SIZE g.met.D.Digest.length_bytes g.S.CertificateScheme.certificate_bytes
    c.encoding_tells_apart.ensures g.S.SchemeCodec.signature_bytes g.S.SchemeCodec.signature_of c.args.bytes.now
    c.decode_kind.result decode.decoded decode.fits decode.readable decode.refused
