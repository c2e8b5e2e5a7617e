-- How a record is pruned within a lifetime, and what is loaded of it then.
use Rattle.std.specs.Prelude.{◌≡◌, length}
use Rattle.simplex_member.specs.PrunedRecord.{pruned_member, votes_within}
use Rattle.ffi_member.specs.declared.held.Held.{Held}
use Rattle.ffi_member.specs.declared.view_types.FlatEntries.{FlatEntries}
use Rattle.ffi_member.specs.ShownFacts.{HasEntries, IsStoredBeside}

-- the record is pruned within the lifetime, with the votes in it; nothing else changed, and all that is left is loaded
pub record IsPruned (old : Held) (r : FlatEntries) (new : Held) : Type 0 where
  pub facts : new.member.facts ≡ pruned_member old.member.facts
  pub votes : new.member.votes ≡ votes_within old.member.facts old.member.votes
  pub last : new.last ≡ old.last
  pub entries : HasEntries new.member 0 r new.shown.items
  pub bytes : r.bytes ≡ length new.shown.items
  pub stored : IsStoredBeside new.member.facts r.stored
