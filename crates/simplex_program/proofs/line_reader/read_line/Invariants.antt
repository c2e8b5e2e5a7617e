-- The loop of `read_line`: the bytes that are read are in the line, and have no feed among them; each part has at least
-- one.
use Rattle.std.proofs.Common.{◌<◌, ◌≤◌, length}
use Rattle.std.specs.Io.Buffered.{reader_remaining}
use Rattle.std.specs.Io.KnownBytes.{Consumes}
use Rattle.simplex_program.proofs.Lines.{IsPassed}
use Rattle.simplex_program.proofs.line_reader.read_line.Given as goal

abbrev pub invariant-loop-part : goal.invariant-loop-part
invariant-loop-part g l = record {
  least : l._part ≤ length l.line.items;
  most : length l.line.items < 201;
  passed : IsPassed l.line.items;
  taken : Consumes (reader_remaining g.R.Read.remaining l.initial.reader) (reader_remaining g.R.Read.remaining l.reader)
      l.line.items;
}
