-- How the contract of `read_line` follows: the parts so far are in the line and have no feed, and each part ends the
-- line or continues it.
use Rattle.std.proofs.Common.{[], ◌∷◌, length, ap, arith}
use Rattle.std.specs.Io.Buffered.{reader_remaining}
use Rattle.std.proofs.lemmas.List.{length-append}
use Rattle.simplex_program.proofs.Lines.{keeps_bytes, passed_none, passed_more, taken_more, reads_to_feed, reads_to_end}
use Rattle.simplex_program.proofs.Parts.{part_ends, part_goes_on}
use Rattle.simplex_program.proofs.line_reader.read_line.Goals as goal

pub loop-part-init : goal.loop-part-init
loop-part-init g c =
    let none = ap length c.clear.ensures.items in
    record {
      least = omega (arith, none);
      most = omega (arith, none);
      passed = passed_none _ c.clear.ensures.items;
      taken = rw c.clear.ensures.items (keeps_bytes (reader_remaining g.R.Read.remaining c.args.reader.now));
    }

pub loop-part-preserved : goal.loop-part-preserved
loop-part-preserved g c =
    let start = reader_remaining g.R.Read.remaining c.args.reader.now in
    let given = rw c.in-Some.is at c.in_ok-byte.ensures in
    let items = c.in_ok-push.ensures.items in
    let long = ap length items in
    let longer = length-append c.loop-part.line.items (c.in-Some.byte ∷ []) in
    let passed = passed_more c.loop-part.line.items c.push.new.self.items c.in-Some.byte c.loop-part.invariant.passed
    c.if-byte-eq10.false items in
    let taken = taken_more start _ _ c.loop-part.line.items c.push.new.self.items c.in-Some.byte items
    c.loop-part.invariant.taken given in
    let moves = rw c.if-branch.false at c.in_ok-take_buffered.ensures in
    let on = part_goes_on start _ _ c.push.new.self.items c.take_buffered.new.line.items passed taken
    (omega (arith, long, longer, c.loop-part.invariant.most)) (omega (arith, long, longer)) moves in
    record {
      least = omega (arith, c.loop-part.invariant.least, long, longer, on.2);
      most = on.3;
      passed = on.0;
      taken = on.1;
    }

pub returns-then-branch : goal.returns-then-branch
returns-then-branch g c =
    let start = reader_remaining g.R.Read.remaining c.args.reader.now in
    let given = rw c.in-Some.is at c.in_ok-byte.ensures in
    let items = c.in_ok-push.ensures.items in
    let long = ap length items in
    let longer = length-append c.loop-part.line.items (c.in-Some.byte ∷ []) in
    let passed = passed_more c.loop-part.line.items c.push.new.self.items c.in-Some.byte c.loop-part.invariant.passed
    c.if-byte-eq10.false items in
    let taken = taken_more start _ _ c.loop-part.line.items c.push.new.self.items c.in-Some.byte items
    c.loop-part.invariant.taken given in
    let moves = rw c.if-branch.true at c.in_ok-take_buffered.ensures in
    part_ends start _ _ c.push.new.self.items c.take_buffered.new.line.items passed taken
    (omega (arith, long, longer, c.loop-part.invariant.most)) (omega (arith, long, longer)) moves

pub returns-in_default : goal.returns-in_default
returns-in_default g c =
    let given = rw c.in_default.is at c.in_ok-byte.ensures in
    reads_to_end _ _ _ _ _ _ c.is_empty.ensures (c.loop-part.line.ok.0) (omega (arith, c.loop-part.invariant.most))
    c.loop-part.invariant.passed c.loop-part.invariant.taken given

pub returns-then-byte-eq10 : goal.returns-then-byte-eq10
returns-then-byte-eq10 g c =
    let given = rw c.in-Some.is at c.in_ok-byte.ensures in
    reads_to_feed _ _ _ _ _ _ c.in_ok-push.ensures.items c.if-byte-eq10.true c.loop-part.invariant.most
    c.loop-part.invariant.passed c.loop-part.invariant.taken given
