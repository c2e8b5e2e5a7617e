-- How the contract of `serve` follows: the reader begins with an empty buffer, so all that remains is what its source
-- has; the lines so far
-- are served, one more is served after them, and each end is one of the definition.
use Rattle.std.proofs.Common.{refl, arith, inr}
use Rattle.std.proofs.lemmas.Result.{err_from_is_err_and}
use Rattle.std.specs.Io.Buffered.{reader_remaining}
use Rattle.simplex_program.specs.Session.{asked_of}
use Rattle.simplex_program.specs.Transcript.{Point}
use Rattle.simplex_program.proofs.Turns.{serves_none, serves_one_more, serves_all, serves_most, serving_ends, reader_begins}
use Rattle.simplex_program.proofs.program.serve.Goals as goal

pub returns-in_err-answer_line : goal.returns-in_err-answer_line
returns-in_err-answer_line g c =
    let asked = asked_of c.in-Ok-start.session in
    let start : Point = record {
      asked = asked;
      left = reader_remaining g.R.Read.remaining c.in-Ok.reader;
      held = g.W.Write.contents c.args.writer.now;
    } in
    let now : Point = record {
      asked = asked_of c.loop-number.session;
      left = reader_remaining g.R.Read.remaining c.loop-number.reader;
      held = g.W.Write.contents c.loop-number.writer;
    } in
    let next : Point = record {
      asked = asked_of c.answer_line.new.session;
      left = reader_remaining g.R.Read.remaining c.answer_line.new.reader;
      held = g.W.Write.contents c.answer_line.new.writer;
    } in
    let begins = c.in-Ok.ensures in
    let left = reader_begins g.R.Read.remaining c.in-Ok.reader c.args.reader begins.inner begins.empty begins.capacity
    in
    let p = err_from_is_err_and c.from_residual.result c.from_residual.ensures.1 in
    inr (
      asked,
      c.in-Ok-start.ensures,
      rw (← left, p.1, p.2)
          (serving_ends start now next c.loop-number.number _ c.loop-number.invariant c.in_err-answer_line.ensures),
    )

pub returns-then-not-branch : goal.returns-then-not-branch
returns-then-not-branch g c =
    let asked = asked_of c.in-Ok-start.session in
    let start : Point = record {
      asked = asked;
      left = reader_remaining g.R.Read.remaining c.in-Ok.reader;
      held = g.W.Write.contents c.args.writer.now;
    } in
    let now : Point = record {
      asked = asked_of c.loop-number.session;
      left = reader_remaining g.R.Read.remaining c.loop-number.reader;
      held = g.W.Write.contents c.loop-number.writer;
    } in
    let next : Point = record {
      asked = asked_of c.answer_line.new.session;
      left = reader_remaining g.R.Read.remaining c.answer_line.new.reader;
      held = g.W.Write.contents c.answer_line.new.writer;
    } in
    let begins = c.in-Ok.ensures in
    let left = reader_begins g.R.Read.remaining c.in-Ok.reader c.args.reader begins.inner begins.empty begins.capacity
    in
    let ended = rw c.if-not-branch.true at c.in_ok-answer_line.ensures in
    inr (
      asked,
      c.in-Ok-start.ensures,
      rw left at
          (serves_all start now next c.loop-number.number c.loop-number.invariant ended),
    )

pub loop-number-init : goal.loop-number-init
loop-number-init g c = serves_none _

pub loop-number-preserved : goal.loop-number-preserved
loop-number-preserved g c =
    let start : Point = record {
      asked = asked_of c.in-Ok-start.session;
      left = reader_remaining g.R.Read.remaining c.in-Ok.reader;
      held = g.W.Write.contents c.args.writer.now;
    } in
    let now : Point = record {
      asked = asked_of c.loop-number.session;
      left = reader_remaining g.R.Read.remaining c.loop-number.reader;
      held = g.W.Write.contents c.loop-number.writer;
    } in
    let next : Point = record {
      asked = asked_of c.answer_line.new.session;
      left = reader_remaining g.R.Read.remaining c.answer_line.new.reader;
      held = g.W.Write.contents c.answer_line.new.writer;
    } in
    let answered = rw c.if-not-branch.false at c.in_ok-answer_line.ensures in
    serves_one_more start now next c.loop-number.number _ c.loop-number.invariant answered refl

pub returns : goal.returns
returns g c =
    let asked = asked_of c.in-Ok-start.session in
    let start : Point = record {
      asked = asked;
      left = reader_remaining g.R.Read.remaining c.in-Ok.reader;
      held = g.W.Write.contents c.args.writer.now;
    } in
    let now : Point = record {
      asked = asked_of c.loop-number.session;
      left = reader_remaining g.R.Read.remaining c.loop-number.reader;
      held = g.W.Write.contents c.loop-number.writer;
    } in
    let begins = c.in-Ok.ensures in
    let left = reader_begins g.R.Read.remaining c.in-Ok.reader c.args.reader begins.inner begins.empty begins.capacity
    in
    inr (
      asked,
      c.in-Ok-start.ensures,
      rw left at
          (serves_most start now c.loop-number.number c.loop-number.invariant
          (omega (arith, c.loop-number-test.false, c.loop-number.auto))),
    )
