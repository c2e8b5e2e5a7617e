-- For `resumes_are_restarts`.
-- A restart that prunes makes of a record that was pruned within the lifetime what it makes of the whole one.
use Rattle.std.proofs.Common.{◌≡◌, refl, ap, sym, ◌∙◌, subst, ℕ, ◌-◌, ◌≤◌, inl, inr, Bool, true, false, nat_le, cond, List, [], ◌∷◌, filter, arith}
use Rattle.std.proofs.lemmas.Bool.{false≢true, leb-true}
use Rattle.simplex_types.specs.Certificates.{Finalized, ArtifactFacts, Accepted}
use Rattle.simplex_record.specs.Cuts.{finalized_in, pruned_entries}
use Rattle.simplex_record.specs.Entries.{entry_view}
use Rattle.simplex_member.specs.MemberFacts.{MemberFacts}
use Rattle.simplex_member.specs.PrunedRecord.{tracks, stays_within}
use Rattle.simplex_member.specs.Restarts.{closed_at}
use Rattle.laws_safety.specs.Resumes.{IsPrunedAsAtRestart}
use Rattle.laws_safety.proofs.lists.Filters.{Contains-filter, Contains-filtered}
use Rattle.laws_safety.proofs.records.Lifetimes.{is_highest, has_highest}
use Rattle.laws_safety.proofs.records.PrunedRecords.{high_stay}

-- a test that passes no more than the one before it finds the same
twice : {X : Type 0} (p q : X → Bool) → ((x : X) → p x ≡ true → q x ≡ true) → (xs : List X)
    → filter p (filter q xs) ≡ filter p xs
twice p q more [] = refl
twice {X} p q more (x ∷ xs) = by_tests (twice p q more xs) (q x) (p x) refl refl
  where
    by_tests : filter p (filter q xs) ≡ filter p xs → (a b : Bool) → q x ≡ a → p x ≡ b
        → filter p (cond a (x ∷ filter q xs) (filter q xs)) ≡ cond b (x ∷ filter p xs) (filter p xs)
    by_tests rest true true stays is = rw is (ap (λ (ys : List X). x ∷ ys) rest)
    by_tests rest true false stays is = rw is rest
    by_tests rest false true falls is = absurd (false≢true (sym falls ∙ more x is))
    by_tests rest false false falls is = rest

module _ {D : Type 0} (entries : List (ArtifactFacts D)) (stays : ℕ → Bool) (bound : ℕ)
    (above : (v : ℕ) → bound ≤ v → stays v ≡ true) (low : bound ≤ finalized_in entries) where
  abbrev left : List (ArtifactFacts D)
  left = filter (λ e. stays (entry_view e)) entries

  no_higher : finalized_in left ≤ finalized_in entries
  no_higher = elim (has_highest left) [
    | inl none ↦ omega (arith, none)
    | inr c ↦ (let here = is_highest entries c.0
        (Contains-filtered (λ e. stays (entry_view e)) entries (Accepted (Finalized c.0)) c.1) in
        omega (arith, here, c.2))
  ]

  no_lower : finalized_in entries ≤ finalized_in left
  no_lower = elim (has_highest entries) [
    | inl none ↦ omega (arith, none)
    | inr c ↦
        (let passes = above c.0.proposal.round.view (omega (arith, c.2)) in
        let there = is_highest left c.0
        (Contains-filter (λ e. stays (entry_view e)) entries (Accepted (Finalized c.0)) c.1 passes) in
        omega (arith, there, c.2))
  ]

  -- the highest finalized view stays in the record
  same_highest : finalized_in left ≡ finalized_in entries
  same_highest = let a = no_higher in let b = no_lower in omega (arith, a, b)

module _ {K L D : Type 0} (m : MemberFacts K L D) where
  abbrev bound : ℕ
  bound = finalized_in m.entries - m.retention

  above : (v : ℕ) → bound ≤ v → stays_within m v ≡ true
  above v high = high_stay (tracks m.life) bound v high

  same_entries : pruned_entries m.retention (filter (λ e. stays_within m (entry_view e)) m.entries) ≡ pruned_entries
      m.retention m.entries
  unfolding pruned_entries
  same_entries =
      let left = filter (λ e. stays_within m (entry_view e)) m.entries in
      let same = same_highest m.entries (stays_within m) bound above (omega arith) in
      subst (λ highest. filter (λ e. nat_le (highest - m.retention) (entry_view e)) left ≡ filter
      (λ e. nat_le bound (entry_view e)) m.entries) (sym same)
      (twice (λ e. nat_le bound (entry_view e)) (λ e. stays_within m (entry_view e))
      (λ e passes. above (entry_view e) (high e passes)) m.entries)
    where
      high : (e : ArtifactFacts D) → nat_le bound (entry_view e) ≡ true → bound ≤ entry_view e
      high e passes = leb-true bound (entry_view e) passes

  pub pruned_as_at_restart : IsPrunedAsAtRestart m
  pruned_as_at_restart = ap (closed_at m) same_entries
