-- The loop of `read_entries`: the journal as the frames of the entries so far and the bytes that are left.
use Rattle.std.proofs.Common.{◌≡◌, ◌++◌, length}
use Rattle.ffi_member.specs.Journals.{framed}
use Rattle.ffi_member.proofs.journal.read_entries.Given as goal

abbrev pub invariant-loop-left : goal.invariant-loop-left
invariant-loop-left l = l.journal ≡ framed l.entries.items ++ l.left

abbrev pub decreases-loop-left : goal.decreases-loop-left
decreases-loop-left l = length l.left
