-- How the contract of `encoding_tells_apart` follows: the digest's bytes have one length and distinguish digests, so
-- each part of an encoding is
-- found again.
use Rattle.simplex_types.proofs.EncodingLaw.{tells_apart}
use Rattle.simplex_types.proofs.types.encoding.encoding_tells_apart.Goals as goal

pub returns : goal.returns
returns g c = tells_apart g.D.Digest.bytes g.D.Digest.SIZE g.met.D.Digest.length_bytes g.met.D.Digest.bytes_injective
