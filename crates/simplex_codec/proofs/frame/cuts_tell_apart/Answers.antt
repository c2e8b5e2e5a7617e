-- How the contract of `cuts_tell_apart` follows: a check sum has 32 bytes, so whatever changed within a frame leaves as
-- many bytes and is no cut.
use Rattle.sha2.specs.Sha256.{sha256}
use Rattle.sha2.proofs.Facts256.{length-sha256}
use Rattle.simplex_codec.proofs.FrameLaw.{cut_ends, body_ends_not, header_ends_not}
use Rattle.simplex_codec.proofs.frame.cuts_tell_apart.Goals as goal

pub returns : goal.returns
returns c = record { cut = cut_ends sha256; body = body_ends_not sha256 length-sha256; header = header_ends_not sha256 }
