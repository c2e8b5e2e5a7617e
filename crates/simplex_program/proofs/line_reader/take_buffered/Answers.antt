-- How the contract of `take_buffered` follows: what the buffer holds up to its first feed is the line's part.
use Rattle.std.proofs.Common.{ap, length, arith}
use Rattle.std.specs.Io.Buffered.{reader_buffer, reader_remaining}
use Rattle.simplex_program.proofs.Parts.{up_to_its_feed}
use Rattle.simplex_program.proofs.line_reader.take_buffered.Goals as goal

pub returns-in_ok-move_buffered-in-Some : goal.returns-in_ok-move_buffered-in-Some
returns-in_ok-move_buffered-in-Some g c =
    let found = rw c.buffer-2.ensures at c.in-Some.ensures in
    up_to_its_feed c.args.line.now.items c.move_buffered.new.line.items (reader_buffer c.args.reader.now)
    (reader_remaining g.R.Read.remaining c.args.reader.now)
    (reader_remaining g.R.Read.remaining c.move_buffered.new.reader) c.min-most.result
    (omega (
      arith,
      c.min-most.ensures,
      c.saturating_sub-room.ensures,
      c.len.ensures,
      ap length c.buffer.ensures,
      c.args.line.now.ok.0,
    ))
    c.in-Some.place found.0 found.1 c.in_ok-move_buffered-in-Some.ensures.line
    c.in_ok-move_buffered-in-Some.ensures.reader
