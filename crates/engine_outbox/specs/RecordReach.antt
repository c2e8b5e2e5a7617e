-- How far back a record reaches, and when a pruning would drop more of its views than it retains.
use Rattle.std.specs.Prelude.{◌≡◌, ◌⊎◌, ℕ, ◌+◌, ◌-◌, ◌^◌, ◌≤◌, min, Bool, nat_lt, List, [], ◌∷◌, length, take, All, IfSome}
use Rattle.simplex_types.specs.Certificates.{ArtifactFacts}
use Rattle.simplex_voter.specs.Facts.{StateFacts}
use Rattle.simplex_voter.specs.Windows.{min_active}
use Rattle.simplex_record.specs.Cuts.{finalized_in}
use Rattle.simplex_record.specs.Entries.{entry_view}
use Rattle.simplex_member.specs.MemberFacts.{MemberFacts}

module _ {D : Type 0} where
  -- the lowest of a view and of those of entries
  abbrev pub lowest_of : ℕ → List (ArtifactFacts D) → ℕ
  lowest_of view [] = view
  lowest_of view (e ∷ rest) = lowest_of (min view (entry_view e)) rest

  -- a record has at least this number of entries, and this is the lowest view of these
  pub record ReachesTo (reach count : ℕ) (entries : List (ArtifactFacts D)) : Type 0 where
    pub counted : count ≤ length entries
    pub lowest : reach ≡ lowest_of (2 ^ 64 - 1) (take count entries)

  -- none of these entries lies further below this view than the current one lies above it
  abbrev pub AreNear : (lowest current : ℕ) → List (ArtifactFacts D) → Type 0
  AreNear lowest current entries = All (λ e. lowest ≤ entry_view e + (current - lowest)) entries

-- a view lies further below the lowest one that is left than the current one lies above that
abbrev pub is_far_below : (reach lowest current : ℕ) → Bool
is_far_below reach lowest current = nat_lt (current - lowest) (lowest - reach)

module _ {K L D : Type 0} where
  -- the lowest view whose entries a pruning retains: one that the state retains, or the record by its own last
  -- finalized view
  abbrev pub lowest_retained_after : MemberFacts K L D → StateFacts K L D → ℕ
  lowest_retained_after m x = min (min_active x) (finalized_in m.entries - m.retention)

  -- while the member has not failed, its record has at most this number of entries, or a pruning would drop no more
  -- views than it retains
  abbrev pub IsShort : ℕ → MemberFacts K L D → Type 0
  IsShort long m = IfSome m.life
      (λ x. (length m.entries ≤ long) ⊎ AreNear (lowest_retained_after m x) x.current m.entries)
