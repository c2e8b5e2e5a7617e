-- How the contract of `write_hexadecimal` follows: one byte more is two digits more.
use Rattle.std.proofs.Common.{refl, arith}
use Rattle.std.proofs.Output.{has_written_append, has_written_of_eq}
use Rattle.simplex_program.proofs.Spaces.{byte_more}
use Rattle.simplex_program.proofs.resolver_text.write_hexadecimal.Goals as goal

pub loop-byte-preserved : goal.loop-byte-preserved
loop-byte-preserved g c = λ plain.
    let so_far = c.loop-byte.invariant plain in
    let written = rw (c.laid_out.ensures, c.in_radix.ensures) at c.in_ok-write.ensures.writes in
    let i = c.loop-byte.byte-index in
    has_written_of_eq _ _ _ _ _ (byte_more c.args.bytes.now i c.loop-byte-test.true (omega (arith, c.type_inv.bytes i)))
    (has_written_append _ _ _ _ _ _ so_far (written so_far.plain refl))
