-- The loop of `write_line`: a front of the bytes that is written, and the rest that is left.
use Rattle.simplex_program.proofs.ServedLines.{IsWritten}
use Rattle.simplex_program.proofs.line_writer.write_line.Given as goal

abbrev pub invariant-loop-try : goal.invariant-loop-try
invariant-loop-try g l = IsWritten (g.W.Write.contents l.initial.writer) (g.W.Write.contents l.writer) l.bytes l.rest
