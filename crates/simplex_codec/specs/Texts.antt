-- The texts of refusals.
use Rattle.std.specs.Prelude.{ℕ, List, ◌++◌, codes, decimal}
use Rattle.simplex_codec.specs.declared.error.DecodeError.{DecodeError}
use Rattle.simplex_codec.specs.declared.error.DecodeError.TheVariants as error
use Rattle.simplex_codec.specs.declared.frame.NoFrame.{NoFrame}
use Rattle.simplex_codec.specs.declared.frame.NoFrame.TheVariants as no_frame

-- why bytes are refused
abbrev pub decode_error_text : DecodeError → List ℕ
decode_error_text error.OutOfMemory = codes "no memory is left"
decode_error_text error.TooShort = codes "the bytes end early"
decode_error_text (error.UnknownKind kind) = decimal kind ++ codes " is no kind"
decode_error_text error.UnreadablePayload = codes "the payload is no digest"
decode_error_text error.UnreadableCertificate = codes "the certificate is not the scheme's"
decode_error_text error.UnreadableSignature = codes "the signature is not the scheme's"
decode_error_text (error.UnknownVerdict verdict) = decimal verdict ++ codes " is no verdict"
decode_error_text error.TrailingBytes = codes "bytes are left over"

-- why there is no frame
abbrev pub no_frame_text : NoFrame → List ℕ
no_frame_text no_frame.Cut = codes "the frame is cut"
no_frame_text no_frame.Damaged = codes "the frame is damaged"
