-- A record that holds each entry once: no two of its entries are of one kind and one view.
use Rattle.std.specs.Prelude.{◌≤◌, ℕ, Bool, true, false, ◌&&◌, ◌==◌, List, length, filter}
use Rattle.std.specs.List.{IsDistinct}
use Rattle.simplex_types.specs.Certificates.{Notarized, Nullified, Finalized, ArtifactFacts, NotarizeVote, NullifyVote, FinalizeVote, Verdict, Accepted}
use Rattle.simplex_record.specs.Entries.{entry_view}
use Rattle.simplex_member.specs.MemberFacts.{MemberFacts}

module _ {D : Type 0} where
  -- two entries are of one kind: votes to notarize, to nullify or to finalize, verdicts, or certificates of one kind
  abbrev pub are_of_one_kind : ArtifactFacts D → ArtifactFacts D → Bool
  are_of_one_kind (NotarizeVote _ _) (NotarizeVote _ _) = true
  are_of_one_kind (NullifyVote _ _) (NullifyVote _ _) = true
  are_of_one_kind (FinalizeVote _ _) (FinalizeVote _ _) = true
  are_of_one_kind (Verdict _ _) (Verdict _ _) = true
  are_of_one_kind (Accepted (Notarized _)) (Accepted (Notarized _)) = true
  are_of_one_kind (Accepted (Nullified _)) (Accepted (Nullified _)) = true
  are_of_one_kind (Accepted (Finalized _)) (Accepted (Finalized _)) = true
  are_of_one_kind _ _ = false

  -- and of one view
  abbrev pub are_alike : ArtifactFacts D → ArtifactFacts D → Bool
  are_alike e f = entry_view e == entry_view f && are_of_one_kind e f

-- no two of them are: at most one vote of each kind, one verdict and one certificate of each kind for each view
abbrev pub RecordsOnce : {D : Type 0} → List (ArtifactFacts D) → Type 0
RecordsOnce entries = IsDistinct are_alike entries

-- this holds for a member's record, which has at most seven entries of a view
pub record HoldsEachEntryOnce {K L D : Type 0} (m : MemberFacts K L D) : Type 0 where
  pub once : RecordsOnce m.entries
  pub few : (view : ℕ) → length (filter (λ e. entry_view e == view) m.entries) ≤ 7
