-- The loop of `write_hexadecimal`: the digits of the bytes so far, which are written.
use Rattle.std.proofs.Common.{take}
use Rattle.std.specs.Fmt.{HasWritten, IsPlainFormatter}
use Rattle.std.specs.List.{flat_map}
use Rattle.simplex_program.specs.ResolverText.{byte_digits}
use Rattle.simplex_program.proofs.resolver_text.write_hexadecimal.Given as goal

abbrev pub invariant-loop-byte : goal.invariant-loop-byte
invariant-loop-byte g l =
    IsPlainFormatter l.initial.f
    → HasWritten g.W.Write.write_str_gives l.initial.f (flat_map (byte_digits) (take l.byte-index l.bytes)) l.f
