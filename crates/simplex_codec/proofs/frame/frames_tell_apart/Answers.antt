-- How the contract of `frames_tell_apart` follows: a header names its entry's length, so the front of two frames is of
-- one length and has one entry.
use Rattle.sha2.specs.Sha256.{sha256}
use Rattle.simplex_codec.proofs.FrameLaw.{replied_frames}
use Rattle.simplex_codec.proofs.frame.frames_tell_apart.Goals as goal

pub returns : goal.returns
returns c = replied_frames sha256
