-- How the contract of `scan` follows: the whole frames so far are counted, each has some bytes, so their number fits.
use Rattle.std.proofs.Common.{arith}
use Rattle.ffi_member.proofs.Frames.{scanned_least, scanned_more}
use Rattle.ffi_member.proofs.journal.scan.Goals as goal

pub overflow_add-entries : goal.overflow_add-entries
overflow_add-entries c =
    omega (arith, scanned_least _ _ _ (scanned_more _ _ _ _ c.loop-behind.invariant c.in-Some.ensures))

pub loop-behind-preserved : goal.loop-behind-preserved
loop-behind-preserved c = scanned_more _ _ _ _ c.loop-behind.invariant c.in-Some.ensures
