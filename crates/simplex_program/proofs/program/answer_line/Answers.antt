-- How the contract of `answer_line` follows: a reply that is not written whole is of the line that was read and
-- answered.
use Rattle.std.proofs.Common.{string_bytes}
use Rattle.std.specs.Io.Buffered.{reader_remaining}
use Rattle.simplex_program.specs.Session.{asked_of}
use Rattle.simplex_program.proofs.program.answer_line.Goals as goal

pub returns-in-Err : goal.returns-in-Err
returns-in-Err g c =
    let next = rw c.if-not-found.false at c.in-Ok.ensures in
    let replied = rw (c.in-Some.ensures.0, c.deref.ensures.value) at c.in_ok-reply_to.ensures.replied in
    let written = rw c.as_bytes.ensures.value at c.in-Err.ensures in (
      c.read_line.new.line.items,
      string_bytes c.reply_to.new.reply,
      asked_of c.reply_to.new.self,
      reader_remaining g.R.Read.remaining c.read_line.new.reader,
      (next, replied),
      written,
    )
