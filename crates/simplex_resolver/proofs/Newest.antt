-- Entries newest first, and the notarization that is found among them.
use Rattle.std.proofs.Common.{◌≡◌, ℕ, true, false, List, [], ◌∷◌, ◌++◌, map, reverse, length, arith, Option, Some, None, is_some, refl, ap, sym, ◌∙◌}
use Rattle.std.specs.Option.{option_or}
use Rattle.std.proofs.lemmas.Bool.{false≢true}
use Rattle.std.proofs.lemmas.List.{map-append, reverse-append}
use Rattle.simplex_types.specs.Certificates.{ProposalFacts, artifact_facts}
use Rattle.simplex_types.specs.declared.types.messages.Artifact.{Artifact}
use Rattle.simplex_resolver.specs.RecordCalls.{newest_first, notarization_at, newest_notarization}

module _ {S D K G C : Type 0} (bytes_of : C → List ℕ) where
  -- an artifact after the others is the newest entry
  pub newest_more : (xs : List (Artifact S D K G C)) (x : Artifact S D K G C)
      → newest_first bytes_of (xs ++ x ∷ []) ≡ artifact_facts bytes_of x ∷ newest_first bytes_of xs
  newest_more xs x = ap reverse (map-append (artifact_facts bytes_of) xs (x ∷ []))
      ∙ reverse-append (map (artifact_facts bytes_of) xs) (artifact_facts bytes_of x ∷ [])

  -- a search from the newest entry on: past one that is none, to one that is, to the end
  pub passed_by : (v : ℕ) (xs : List (Artifact S D K G C)) (x : Artifact S D K G C) (o : Option (ProposalFacts D))
      → o ≡ notarization_at v (artifact_facts bytes_of x) → is_some o ≡ false
      → newest_notarization v (newest_first bytes_of (xs ++ x ∷ [])) ≡ newest_notarization v (newest_first bytes_of xs)
  passed_by v xs x None is none =
      ap (newest_notarization v) (newest_more xs x)
      ∙ ap (λ o. option_or o (newest_notarization v (newest_first bytes_of xs))) (sym is)
  passed_by v xs x (Some n) is none = absurd (false≢true (sym none))

  pub stopped_at : (v : ℕ) (xs : List (Artifact S D K G C)) (x : Artifact S D K G C) (o : Option (ProposalFacts D))
      → o ≡ notarization_at v (artifact_facts bytes_of x) → is_some o ≡ true
      → o ≡ newest_notarization v (newest_first bytes_of (xs ++ x ∷ []))
  stopped_at v xs x None is some = absurd (false≢true some)
  stopped_at v xs x (Some n) is some =
      sym (ap (newest_notarization v) (newest_more xs x)
      ∙ ap (λ o. option_or o (newest_notarization v (newest_first bytes_of xs))) (sym is))

  pub none_left : (v : ℕ) (xs : List (Artifact S D K G C)) → length xs ≡ 0
      → None ≡ newest_notarization v (newest_first bytes_of xs)
  none_left v [] is = refl
  none_left v (x ∷ xs) is = absurd (omega (arith, is))
