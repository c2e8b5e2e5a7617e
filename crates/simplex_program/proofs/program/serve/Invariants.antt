-- The loop of `serve`: the lines so far, each of which is served.
use Rattle.std.specs.Io.Buffered.{reader_remaining}
use Rattle.simplex_program.specs.Session.{asked_of}
use Rattle.simplex_program.proofs.Turns.{HasServed}
use Rattle.simplex_program.proofs.program.serve.Given as goal

abbrev pub invariant-loop-number : goal.invariant-loop-number
invariant-loop-number g l = HasServed
    (record {
      asked = asked_of l.initial.session;
      left = reader_remaining g.R.Read.remaining l.initial.reader;
      held = g.W.Write.contents l.initial.writer;
    })
    (record {
      asked = asked_of l.session;
      left = reader_remaining g.R.Read.remaining l.reader;
      held = g.W.Write.contents l.writer;
    })
    l.number
