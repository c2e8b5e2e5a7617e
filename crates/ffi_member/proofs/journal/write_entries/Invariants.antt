-- The loop of `write_entries`: the frames of the entries so far, each of which fits one.
use Rattle.std.proofs.Common.{◌≡◌, ◌++◌, take}
use Rattle.std.specs.List.{All}
use Rattle.ffi_member.specs.Journals.{FitsFrame, framed}
use Rattle.ffi_member.proofs.journal.write_entries.Given as goal

abbrev pub invariant-loop-entry : goal.invariant-loop-entry
invariant-loop-entry l = (l.out.items ≡ l.initial.out.items ++ framed (take l.entry-index l.entries))
    × All FitsFrame (take l.entry-index l.entries)
