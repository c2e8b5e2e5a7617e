-- How the contract of `write_signature` follows: a key and a subject are read back of the bytes that they were written
-- as.
use Rattle.std.proofs.Common.{arith}
use Rattle.simplex_codec.proofs.PlainLaw.{signature_back}
use Rattle.simplex_codec.proofs.plain.PlainSchemeSchemeCodec.write_signature.Goals as goal

pub returns-clause-read_back : goal.returns-clause-read_back
returns-clause-read_back c = signature_back c.args.signature.now (omega arith) c.in_ok-put_subject.ensures.fits
