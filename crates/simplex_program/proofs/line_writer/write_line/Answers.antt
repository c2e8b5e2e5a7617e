-- How the contract of `write_line` follows: a front of the bytes is written each time, and a write that fails or writes
-- none leaves the rest.
use Rattle.std.proofs.Common.{◌≡◌, ℕ, List, [], drop, Bor, refl, ap, ◌∙◌}
use Rattle.std.proofs.lemmas.List.{take_rest}
use Rattle.simplex_program.proofs.ServedLines.{keeps_self, nothing_appended, more_written, as_much_written, front_written, front_and_more_written, all_written}
use Rattle.simplex_program.proofs.line_writer.write_line.Goals as goal
use Rattle.simplex_program.proofs.line_writer.write_line.Goals.{in-Ok, in-Err}

pub loop-try-init : goal.loop-try-init
loop-try-init g c = ([], refl, nothing_appended (g.W.Write.contents c.args.writer.now))

pub loop-try-preserved : goal.loop-try-preserved
loop-try-preserved g c =
    elim c.match-write.branch [
      | in-Ok w ↦
          let left : c.match-write.rest.now ≡ drop w.in-Ok.count c.loop-try.rest.now =
          ap (λ (b : Bor (List ℕ)). b.now) w.rest-is ∙ take_rest c.loop-try.rest.now w.in-Ok.count in
          more_written _ _ _ _ _ _ w.in-Ok.count c.loop-try.invariant w.in-Ok.ensures.bytes left
      | in-Err w ↦
          let left : c.match-write.rest.now ≡ c.loop-try.rest.now = ap (λ (b : Bor (List ℕ)). b.now) w.rest-is in
          as_much_written _ _ _ _ _ _ c.loop-try.invariant w.in-Err.ensures.bytes left
    ]

pub returns-then-is_empty : goal.returns-then-is_empty
returns-then-is_empty g c = all_written _ _ _ _ _ c.if-is_empty.ensures c.loop-try.invariant c.flush.ensures.bytes

pub returns-in-Ok-eq0 : goal.returns-in-Ok-eq0
returns-in-Ok-eq0 g c =
    let wrote = rw c.in-Ok-eq0.is at c.write.ensures.bytes in
    front_and_more_written _ _ _ _ _ c.in-Ok-eq0.field-0 c.loop-try.invariant wrote

pub returns-in-Err-2 : goal.returns-in-Err-2
returns-in-Err-2 g c = front_written _ _ _ _ _ c.loop-try.invariant c.in-Err-2.ensures.bytes

pub returns : goal.returns
returns g c = front_written _ _ _ _ _ c.loop-try.invariant (keeps_self (g.W.Write.contents c.loop-try.writer))
