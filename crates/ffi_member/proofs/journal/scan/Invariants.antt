-- The loop of `scan`: the whole frames so far, counted, and the bytes that are left.
use Rattle.std.proofs.Common.{length}
use Rattle.ffi_member.specs.Journals.{HasScanned}
use Rattle.ffi_member.proofs.journal.scan.Given as goal

abbrev pub invariant-loop-behind : goal.invariant-loop-behind
invariant-loop-behind l = HasScanned l.journal l.entries l.left

abbrev pub decreases-loop-behind : goal.decreases-loop-behind
decreases-loop-behind l = length l.left
