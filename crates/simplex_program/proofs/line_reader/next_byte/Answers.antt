-- How the contract of `next_byte` follows: an interrupted read takes nothing, and the end is where none is given.
use Rattle.std.proofs.Common.{refl, arith}
use Rattle.simplex_program.proofs.Lines.{keeps_bytes, nothing_taken, none_given, one_given}
use Rattle.simplex_program.proofs.line_reader.next_byte.Goals as goal

pub loop-try-init : goal.loop-try-init
loop-try-init g c = record { taken = keeps_bytes (g.R.Read.remaining c.args.reader.now); room = refl }

pub loop-try-preserved : goal.loop-try-preserved
loop-try-preserved g c = record {
  taken = nothing_taken _ _ _ c.loop-try.invariant.taken c.in-Err.ensures.bytes;
  room = omega (arith, c.read.auto.buf, c.loop-try.invariant.room);
}

pub returns-in-Ok-eq0 : goal.returns-in-Ok-eq0
returns-in-Ok-eq0 g c =
    let read = rw c.in-Ok-eq0.is at c.read.ensures.bytes in
    none_given _ _ _ c.in-Ok-eq0.field-0 _ c.in-Ok-eq0.field-0-test
    (omega (arith, c.read.auto.buf, c.loop-try.invariant.room)) c.loop-try.invariant.taken read

pub returns-in-Ok : goal.returns-in-Ok
returns-in-Ok g c =
    one_given _ _ _ c.in-Ok.field-0 _ c.in-Ok.field-0-test.1 c.in-Ok.ensures.bound.0
    (omega (arith, c.read.auto.buf, c.loop-try.invariant.room)) c.loop-try.invariant.taken c.in-Ok.ensures.bytes.0
