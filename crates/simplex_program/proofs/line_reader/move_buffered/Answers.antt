-- How the contract of `move_buffered` follows: what is taken from the buffer is taken from what remains to be read.
use Rattle.simplex_program.proofs.Parts.{taken_ahead}
use Rattle.simplex_program.proofs.line_reader.move_buffered.Goals as goal

pub returns-clause-reader : goal.returns-clause-reader
returns-clause-reader g c = taken_ahead g.R.Read.remaining c.args.reader.now _ c.args.count c.requires
    c.consume.ensures.bytes
