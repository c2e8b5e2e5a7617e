-- The highest view of a record's entries: it does not fall where entries come, nor where the record is pruned.
use Rattle.std.proofs.Common.{◌≡◌, refl, ap, ℕ, ◌<◌, ◌≤◌, inl, inr, Bool, true, false, List, [], ◌∷◌, ◌++◌, Contains, map, filter, nat_lt, arith}
use Rattle.std.proofs.lemmas.Bool.Decides.{nat_tests}
use Rattle.std.proofs.lemmas.Bool.{cases_Bool}
use Rattle.simplex_types.specs.Certificates.{ArtifactFacts, NotarizeVote, NullifyVote, FinalizeVote, Verdict, Accepted, Notarized, Nullified, Finalized}
use Rattle.simplex_resolver.specs.ReceivedFacts.{greatest}
use Rattle.simplex_record.specs.Cuts.{finalized_by, finalized_in}
use Rattle.simplex_record.specs.Entries.{entry_view}
use Rattle.laws_safety.proofs.lists.Filters.{Contains-filter}
use Rattle.laws_safety.proofs.lists.Splits.{Contains-cases, Contains-cons_rest}

module _ {D : Type 0} where
  pub among_greatest : (entries : List (ArtifactFacts D)) (e : ArtifactFacts D) → Contains entries e
      → entry_view e ≤ greatest (map entry_view entries)
  among_greatest [] e h = absurd (omega (arith, h.1))
  among_greatest (f ∷ rest) e h = elim (Contains-cases f rest e h) [
    | inl here ↦ (let is : entry_view f ≡ entry_view e = ap entry_view here in omega (arith, is))
    | inr later ↦ (let below = among_greatest rest e later in omega (arith, below))
  ]

  greatest_within : (u : ℕ) (entries : List (ArtifactFacts D))
      → ((e : ArtifactFacts D) → Contains entries e → entry_view e ≤ u) → greatest (map entry_view entries) ≤ u
  greatest_within u [] low = omega arith
  greatest_within u (e ∷ rest) low =
      let here = low e (0, omega arith, refl) in
      let later = greatest_within u rest (λ f h. low f (Contains-cons_rest e rest f h)) in
      omega (arith, here, later)

  pub greatest_grows : (entries more : List (ArtifactFacts D))
      → greatest (map entry_view entries) ≤ greatest (map entry_view (entries ++ more))
  greatest_grows [] more = omega arith
  greatest_grows (e ∷ rest) more = let grows = greatest_grows rest more in omega (arith, grows)

  -- a finalization is of the highest view that is finalized
  is_final_entry : (e : ArtifactFacts D) → 0 < finalized_by e → entry_view e ≡ finalized_by e
  is_final_entry (NotarizeVote p m) some = absurd (omega (arith, some))
  is_final_entry (NullifyVote round m) some = absurd (omega (arith, some))
  is_final_entry (FinalizeVote p m) some = absurd (omega (arith, some))
  is_final_entry (Verdict round success) some = absurd (omega (arith, some))
  is_final_entry (Accepted (Notarized c)) some = absurd (omega (arith, some))
  is_final_entry (Accepted (Nullified c)) some = absurd (omega (arith, some))
  is_final_entry (Accepted (Finalized c)) some = refl

  finalization_there : (entries : List (ArtifactFacts D)) → 0 < finalized_in entries
      → (e : ArtifactFacts D) × Contains entries e × (entry_view e ≡ finalized_in entries)
  finalization_there [] some = absurd (omega (arith, some))
  finalization_there (e ∷ rest) some = elim (cases_Bool (nat_lt (finalized_by e) (finalized_in rest))) [
    | inl later ↦ (
        let above : finalized_by e < finalized_in rest = grind (arith, nat_tests, later) in
        let found = finalization_there rest (omega (arith, above)) in
        (found.0, Contains-cons_rest e rest found.0 found.1, (let is = found.2 in omega (arith, is, above)))
        )
    | inr here ↦ (
        let below : finalized_in rest ≤ finalized_by e = grind (arith, nat_tests, here) in
        let is = is_final_entry e (omega (arith, some, below)) in
        (e, (0, omega arith, refl), omega (arith, is, below))
        )
  ]

  -- what a pruning leaves reaches as high
  pub greatest_stays : (entries : List (ArtifactFacts D)) (stays : ℕ → Bool) (low : ℕ) → low ≤ finalized_in entries
      → ((v : ℕ) → stays v ≡ false → v < low)
      → greatest (map entry_view entries) ≤ greatest (map entry_view (filter (λ e. stays (entry_view e)) entries))
  greatest_stays entries stays low within goes = greatest_within _ entries below
    where
      kept : List (ArtifactFacts D)
      kept = filter (λ e. stays (entry_view e)) entries

      below : (e : ArtifactFacts D) → Contains entries e → entry_view e ≤ greatest (map entry_view kept)
      below e h = elim (cases_Bool (stays (entry_view e))) [
        | inl stays_so ↦ among_greatest kept e (Contains-filter (λ e. stays (entry_view e)) entries e h stays_so)
        | inr gone ↦ (
            let under = goes (entry_view e) gone in
            let last = finalization_there entries (omega (arith, under, within)) in
            let last_stays : stays (entry_view last.0) ≡ true =
            elim (cases_Bool (stays (entry_view last.0))) [
              | inl is ↦ is
              | inr is ↦ absurd
                  (let lower = goes (entry_view last.0) is in let at = last.2 in omega (arith, lower, at, within))
            ] in
            let reaches = among_greatest kept last.0
            (Contains-filter (λ e. stays (entry_view e)) entries last.0 last.1 last_stays) in
            let at = last.2 in
            omega (arith, under, within, reaches, at)
            )
      ]
