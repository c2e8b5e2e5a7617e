-- A member after its record is pruned within the lifetime.
use Rattle.std.proofs.Common.{◌≡◌, refl, ℕ, true, List, length, filter}
use Rattle.simplex_types.specs.Certificates.{ArtifactFacts}
use Rattle.simplex_record.specs.Entries.{entry_view}
use Rattle.simplex_member.specs.MemberFacts.{MemberFacts}
use Rattle.simplex_member.specs.PrunedRecord.{stays_within, pruned_member}

pub closed_so : {K L D : Type 0} (m : MemberFacts K L D) (left : List (ArtifactFacts D)) (closed : ℕ)
    → left ≡ filter (λ e. stays_within m (entry_view e)) m.entries → closed ≡ length left
    → (record m { entries = left; closed = closed; is_pruned = true }) ≡ pruned_member m
closed_so m left closed is all = rw (all, is) refl
