-- How the contract of `write_entries` follows: one entry more is one frame more, and fits it.
use Rattle.std.proofs.Common.{◌≡◌, ◌<◌, length, get_or, arith}
use Rattle.std.proofs.lemmas.Grind.{common_steps}
use Rattle.ffi_member.proofs.Frames.{fit_more, framed_more}
use Rattle.ffi_member.proofs.journal.write_entries.Goals as goal

pub loop-entry-preserved : goal.loop-entry-preserved
loop-entry-preserved c =
    let entries = c.args.entries.now in let i = c.loop-entry.entry-index in let entry = c.entry-item.result in
    let low : i < length entries = omega (arith, c.loop-entry-test.true) in
    let is : get_or entries i entry ≡ entry = grind (arith, common_steps, c.entry-item.is) in (
      framed_more entries i entry _ c.loop-entry.out.items _ low is c.loop-entry.invariant.0
          c.in_ok-write_entry.ensures.written,
      fit_more entries i entry low is c.loop-entry.invariant.1 c.in_ok-write_entry.ensures.fits,
    )
