-- How the contract of `read` follows: nothing follows the number's eight bytes.
use Rattle.std.proofs.Common.{◌++◌, ap, sym, ◌∙◌}
use Rattle.std.specs.Int.{w64, to_be_bytes}
use Rattle.simplex_codec.proofs.Numbers.{none_left}
use Rattle.simplex_codec.proofs.plain.PlainDigestDigestCodec.read.Goals as goal

pub returns : goal.returns
returns c =
    c.new.ensures ∙ sym (c.in_ok-number.ensures.parts
    ∙ ap (λ xs. to_be_bytes w64 c.in_ok-number.number ++ xs)
    (none_left c.in_ok-number.rest.now (sym c.is_empty.ensures ∙ c.if-not-is_empty.false)))
