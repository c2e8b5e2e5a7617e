-- The loop of `next_byte`: no byte is taken yet, and there is room for one.
use Rattle.std.proofs.Common.{◌≡◌, [], length}
use Rattle.std.specs.Io.KnownBytes.{Consumes}
use Rattle.simplex_program.proofs.line_reader.next_byte.Given as goal

abbrev pub invariant-loop-try : goal.invariant-loop-try
invariant-loop-try g l = record {
  taken : Consumes (g.R.Read.remaining l.initial.reader) (g.R.Read.remaining l.reader) [];
  room : length l.bytes ≡ 1;
}
