-- The cuts that a restart makes in a record, oldest entry first.
use Rattle.std.specs.Prelude.{ℕ, zero, suc, ◌-◌, Bool, true, false, ◌&&◌, not, nat_le, nat_lt, max, if◌then◌else◌, List, [], ◌∷◌, length, take, filter, slice_get}
use Rattle.std.specs.Option.{option_map_or}
use Rattle.simplex_types.specs.Certificates.{Finalized, ArtifactFacts, NotarizeVote, NullifyVote, FinalizeVote, Verdict, Accepted}
use Rattle.simplex_record.specs.Entries.{entry_view}

module _ {D : Type 0} where
  -- the entry is a vote of the member's own, which no restart drops
  abbrev pub is_vote : ArtifactFacts D → Bool
  is_vote (NotarizeVote _ _) = true
  is_vote (NullifyVote _ _) = true
  is_vote (FinalizeVote _ _) = true
  is_vote (Verdict _ _) = false
  is_vote (Accepted _) = false

  -- the last entry may be dropped: it is no vote, and not among the first that are closed
  unfoldable pub may_drop : ℕ → List (ArtifactFacts D) → Bool
  may_drop closed entries =
      nat_lt closed (length entries) && not (option_map_or is_vote (slice_get entries (length entries - 1)) true)

  -- `count` last entries are dropped, but no vote or closed entry, nor anything before one
  abbrev pub without_last : ℕ → ℕ → List (ArtifactFacts D) → List (ArtifactFacts D)
  without_last closed zero entries = entries
  without_last closed (suc count) entries =
      if may_drop closed entries then without_last closed count (take (length entries - 1) entries) else entries

  -- the view that a finalization finalizes
  abbrev pub finalized_by : ArtifactFacts D → ℕ
  finalized_by (Accepted (Finalized c)) = c.proposal.round.view
  finalized_by _ = 0

  -- the highest view that is finalized in the record
  abbrev pub finalized_in : List (ArtifactFacts D) → ℕ
  finalized_in [] = 0
  finalized_in (e ∷ rest) = max (finalized_by e) (finalized_in rest)

  -- without the entries below the highest finalized view by more than the retention
  unfoldable pub pruned_entries : ℕ → List (ArtifactFacts D) → List (ArtifactFacts D)
  pruned_entries retention entries = filter (λ e. nat_le (finalized_in entries - retention) (entry_view e)) entries
