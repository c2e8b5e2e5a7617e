-- The anchors from a view on, one term after another.
use Rattle.std.proofs.Common.{◌≡◌, ℕ, ◌+◌, ◌-◌, ◌<◌, ◌≤◌, Bool, true, false, ◌||◌, not, ◌==◌, nat_lt, cond, List, [], ◌∷◌, ◌++◌, filter, inl, inr, refl, sym, ◌∙◌, ap, arith, zero, suc, append_assoc, append-nil}
use Rattle.std.specs.List.{range_with_len}
use Rattle.std.proofs.lemmas.Bool.Decides.{nat_tests}
use Rattle.std.proofs.lemmas.Bool.{cond-true, cond-false, cases_lt}
use Rattle.simplex_types.specs.Terms.{term_start, term_end, next_term_start}
use Rattle.simplex_view_maps.specs.ByTerm.{has_covering, ByTermFacts}
use Rattle.simplex_types.specs.declared.reasons.FetchReason.TheVariants.{MissingNullification}
use Rattle.simplex_resolver.specs.declared.resolver.effect.Effect.{Effect}
use Rattle.simplex_resolver.specs.declared.resolver.effect.Effect.TheVariants.{Fetch}
use Rattle.simplex_resolver.specs.Facts.{anchors, uncovered_anchors, end_of_scan}
use Rattle.simplex_resolver.specs.Steps.{missing_fetches}
use Rattle.simplex_resolver.proofs.Terms.{AreTerms, terms}

-- a range that begins at b, one more at a time
range-next : (b end : ℕ) → b < end → range_with_len b (end - b) ≡ b ∷ range_with_len (b + 1) (end - (b + 1))
range-next b end h =
    let more : end - b ≡ suc (end - (b + 1)) = omega arith in ap (range_with_len b) more

range-none : (b end : ℕ) → end ≤ b → range_with_len b (end - b) ≡ []
range-none b end h = let none : end - b ≡ 0 = omega arith in ap (range_with_len b) none

-- two tests that agree from b on keep the same
filter_alike : (p q : ℕ → Bool) (n b : ℕ) → ((v : ℕ) → b ≤ v → p v ≡ q v)
    → filter p (range_with_len b n) ≡ filter q (range_with_len b n)
filter_alike p q zero b same = refl
filter_alike p q (suc n) b same =
    ap (λ c. cond c (b ∷ filter p (range_with_len (b + 1) n)) (filter p (range_with_len (b + 1) n)))
    (same b (omega arith))
    ∙ ap (λ rest. cond (q b) (b ∷ rest) rest) (filter_alike p q n (b + 1) (λ v h. same v (omega arith)))

-- views without the property, from b up to the next one that may have it, are skipped
filter_skip : (p : ℕ → Bool) (gap b end : ℕ) → ((v : ℕ) → b ≤ v → v < b + gap → p v ≡ false)
    → filter p (range_with_len b (end - b)) ≡ filter p (range_with_len (b + gap) (end - (b + gap)))
filter_skip p zero b end none = let here : b ≡ b + 0 = omega arith in
    ap (λ n. filter p (range_with_len n (end - n))) here
filter_skip p (suc gap) b end none = elim (cases_lt b end) [
  | inl more ↦
      ap (filter p) (range-next b end more)
      ∙ cond-false (p b) _ _ (none b (omega arith) (omega arith))
      ∙ filter_skip p gap (b + 1) end (λ v low high. none v (omega arith) (omega arith))
      ∙ (let there : b + 1 + gap ≡ b + suc gap = omega arith in ap (λ n. filter p (range_with_len n (end - n))) there)
  | inr over ↦ ap (filter p) (range-none b end over) ∙ sym (ap (filter p) (range-none (b + suc gap) end (omega arith)))
]

-- over any way to part the views into terms
module _ (first last : ℕ → ℕ) (ts : AreTerms first last) where
  abbrev starts_from : ℕ → ℕ → List ℕ
  starts_from a end = filter (λ v. (v == first v) || v == a) (range_with_len a (end - a))

  -- after an anchor the next one starts a term
  starts-next : (a end : ℕ) → 1 ≤ a → a < end → starts_from a end ≡ a ∷ starts_from (last a + 1) end
  starts-next a end low more =
      let p : ℕ → Bool = λ v. (v == first v) || v == a in
      let next = last a + 1 in
      let q : ℕ → Bool = λ v. (v == first v) || v == next in
      let own = ts.le-last a low in
      let starts = ts.first-next a low in
      let to_next : a + 1 + (next - (a + 1)) ≡ next = omega (arith, own) in
      ap (filter p) (range-next a end more)
      ∙ cond-true (p a) _ _ (grind (arith, nat_tests))
      ∙ ap (λ rest. a ∷ rest)
      (filter_skip p (next - (a + 1)) (a + 1) end (λ v above below.
      let same = ts.first_inside a v low (omega arith) (omega (arith, own)) in
      let begins = ts.first-le a low in grind (arith, nat_tests, same, begins, above))
      ∙ ap (λ n. filter p (range_with_len n (end - n))) to_next
      ∙ filter_alike p q (end - next) next (λ v above. grind (arith, nat_tests, own, starts, above)))

  end-next : (a end : ℕ) → 1 ≤ a → a < end
      → cond (nat_lt (last a + 1) end) (last (end - 1) + 1) (last a + 1) ≡ cond (nat_lt a end) (last (end - 1) + 1) a
  end-next a end low more =
      let own = ts.le-last a low in
      let inside = ts.last_inside a (end - 1) low (omega arith) in elim (cases_lt (last a + 1) end) [
        | inl under ↦ cond-true (nat_lt (last a + 1) end) _ _ (grind (arith, nat_tests))
            ∙ sym (cond-true (nat_lt a end) _ _ (grind (arith, nat_tests)))
        | inr over ↦ cond-false (nat_lt (last a + 1) end) _ _ (grind (arith, nat_tests))
            ∙ ap (λ n. n + 1) (sym (inside (omega arith)))
            ∙ sym (cond-true (nat_lt a end) _ _ (grind (arith, nat_tests)))
      ]

pub anchors-next : (t a end : ℕ) → 0 < t → 1 ≤ a → a < end → anchors t a end ≡ a ∷ anchors t (next_term_start t a) end
anchors-next t a end h low more = starts-next (term_start t) (term_end t) (terms t h) a end low more

pub anchors-none : (t a end : ℕ) → end ≤ a → anchors t a end ≡ []
anchors-none t a end h = ap (filter (λ v. (v == term_start t v) || v == a)) (range-none a end h)

-- one turn of a scan
pub uncovered-next : (m : ByTermFacts (List ℕ)) (a end : ℕ) → 0 < m.term_length → 1 ≤ a → a < end
    → uncovered_anchors m a end ≡ cond (not (has_covering m a))
    (a ∷ uncovered_anchors m (next_term_start m.term_length a) end)
    (uncovered_anchors m (next_term_start m.term_length a) end)
uncovered-next m a end h low more = ap (filter (λ v. not (has_covering m v)))
    (anchors-next m.term_length a end h low more)

pub uncovered-none : (m : ByTermFacts (List ℕ)) (a end : ℕ) → end ≤ a → uncovered_anchors m a end ≡ []
uncovered-none m a end h = ap (filter (λ v. not (has_covering m v))) (anchors-none m.term_length a end h)

pub end_of_scan-next : (t a end : ℕ) → 0 < t → 1 ≤ a → a < end
    → end_of_scan t (next_term_start t a) end ≡ end_of_scan t a end
end_of_scan-next t a end h low more = end-next (term_start t) (term_end t) (terms t h) a end low more

-- one turn of the loop of a scan: what it has and what is to come stay the same
pub turn : (bare : Bool) (cause a next end : ℕ) (m : ByTermFacts (List ℕ)) (items items' all : List Effect)
    → 0 < m.term_length → 1 ≤ a → a < end
    → next ≡ next_term_start m.term_length a → not (has_covering m a) ≡ bare
    → items' ≡ items ++ cond bare (Fetch a cause MissingNullification ∷ []) []
    → items ++ missing_fetches cause (uncovered_anchors m a end) ≡ all
    → items' ++ missing_fetches cause (uncovered_anchors m next end) ≡ all
turn true cause a next end m items items' all h low more to is grown before =
    ap (λ xs. xs ++ missing_fetches cause (uncovered_anchors m next end)) grown
    ∙ append_assoc items (Fetch a cause MissingNullification ∷ []) _
    ∙ ap (λ n. items ++ (Fetch a cause MissingNullification ∷ missing_fetches cause (uncovered_anchors m n end))) to
    ∙ ap (λ vs. items ++ missing_fetches cause vs)
    (sym (uncovered-next m a end h low more ∙ cond-true (not (has_covering m a)) _ _ is))
    ∙ before
turn false cause a next end m items items' all h low more to is grown before =
    ap (λ xs. xs ++ missing_fetches cause (uncovered_anchors m next end)) (grown ∙ append-nil items)
    ∙ ap (λ n. items ++ missing_fetches cause (uncovered_anchors m n end)) to
    ∙ ap (λ vs. items ++ missing_fetches cause vs)
    (sym (uncovered-next m a end h low more ∙ cond-false (not (has_covering m a)) _ _ is))
    ∙ before
