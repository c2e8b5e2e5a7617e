-- Entries, one after another.
use Rattle.std.proofs.Common.{◌≡◌, ℕ, zero, suc, ◌+◌, ◌<◌, ◌≤◌, List, [], ◌∷◌, ◌++◌, map, take, drop, Option, Some, length, refl, ap, sym, ◌∙◌, append_assoc, append-nil, add-one, get_or, drop-cons, arith}
use Rattle.std.specs.Prelude.{option_to_list}
use Rattle.std.specs.Option.{option_map_or}
use Rattle.std.proofs.lemmas.List.{take_more, map-append}
use Rattle.simplex_types.specs.Certificates.{artifact_facts, signature_in}
use Rattle.simplex_types.specs.declared.types.messages.Artifact.{Artifact}
use Rattle.engine_outbox.specs.declared.output.Output.{Output}
use Rattle.engine_outbox.specs.declared.output.Output.TheVariants as output
use Rattle.engine_votes.specs.declared.votes.Vote.{Vote}
use Rattle.engine_outbox.specs.Entries.{vote_in, votes_of_entries, nullify_in, newest_from, AreCopies}

-- the next one is the first that is left
next_left : {X : Type 0} (xs : List X) (i : ℕ) (x : X) → i < length xs → x ≡ get_or xs i x
    → drop i xs ≡ x ∷ drop (i + 1) xs
next_left xs i x within is = drop-cons xs i x within ∙ ap (λ y. y ∷ drop (suc i) xs) (sym is)
    ∙ ap (λ n. x ∷ drop n xs) (sym (add-one i))

none_left : {X : Type 0} (xs : List X) (i : ℕ) → length xs ≤ i → drop i xs ≡ []
none_left [] zero past = refl
none_left [] (suc i) past = refl
none_left (x ∷ xs) zero past = absurd (omega arith)
none_left (x ∷ xs) (suc i) past = none_left xs i (omega arith)

-- one more value of each
more_mapped : {X Y : Type 0} (f : X → Y) (xs ys : List X) (i : ℕ) (x y : X) → i < length xs → x ≡ get_or xs i x
    → f y ≡ f x → map f ys ≡ map f (take i xs) → map f (ys ++ y ∷ []) ≡ map f (take (i + 1) xs)
more_mapped f xs ys i x y within is same before =
    map-append f ys (y ∷ []) ∙ ap (λ fs. fs ++ f y ∷ []) before ∙ ap (λ z. map f (take i xs) ++ z ∷ []) (same ∙ ap f is)
    ∙ sym (map-append f (take i xs) (get_or xs i x ∷ [])) ∙ ap (map f) (sym (take_more xs i x within))

module _ {S D K G C : Type 0} where
  pub copies_more : (bytes_of : C → List ℕ) (entries copies : List (Artifact S D K G C)) (i : ℕ)
      (entry copy : Artifact S D K G C) → i < length entries → entry ≡ get_or entries i entry
      → artifact_facts bytes_of copy ≡ artifact_facts bytes_of entry → signature_in copy ≡ signature_in entry
      → AreCopies bytes_of (take i entries) copies → AreCopies bytes_of (take (i + 1) entries) (copies ++ copy ∷ [])
  copies_more bytes_of entries copies i entry copy within is facts signature before = (
    more_mapped (artifact_facts bytes_of) entries copies i entry copy within is facts before.0,
    more_mapped signature_in entries copies i entry copy within is signature before.1,
  )

  pub newest_step : (entries : List (Artifact S D K G C)) (i : ℕ) (entry : Artifact S D K G C)
      (before after all : Option (Vote D G)) → i < length entries → entry ≡ get_or entries i entry
      → after ≡ option_map_or Some (nullify_in entry) before → newest_from before (drop i entries) ≡ all
      → newest_from after (drop (i + 1) entries) ≡ all
  newest_step entries i entry before after all within is step whole =
      ap (λ v. newest_from v (drop (i + 1) entries)) step
      ∙ sym (ap (newest_from before) (next_left entries i entry within is)) ∙ whole

module _ {S D J K G C : Type 0} where
  pub votes_step : (entries : List (Artifact S D K G C)) (i : ℕ) (entry : Artifact S D K G C)
      (before after all : List (Output S D J K G C)) → i < length entries → entry ≡ get_or entries i entry
      → after ≡ before ++ map output.Vote (option_to_list (vote_in entry))
      → before ++ map output.Vote (votes_of_entries (drop i entries)) ≡ all
      → after ++ map output.Vote (votes_of_entries (drop (i + 1) entries)) ≡ all
  votes_step entries i entry before after all within is step whole =
      let rest = votes_of_entries (drop (i + 1) entries) in
      ap (λ vs. vs ++ map output.Vote rest) step
      ∙ append_assoc before (map output.Vote (option_to_list (vote_in entry))) (map output.Vote rest)
      ∙ ap (λ vs. before ++ vs) (sym (map-append output.Vote (option_to_list (vote_in entry)) rest))
      ∙ ap (λ es. before ++ map output.Vote (votes_of_entries es)) (sym (next_left entries i entry within is)) ∙ whole

  pub votes_end : (entries : List (Artifact S D K G C)) (i : ℕ) (votes all : List (Output S D J K G C))
      → length entries ≤ i → votes ++ map output.Vote (votes_of_entries (drop i entries)) ≡ all → votes ≡ all
  votes_end entries i votes all past whole = sym (append-nil votes)
      ∙ ap (λ es. votes ++ map output.Vote (votes_of_entries es)) (sym (none_left entries i past)) ∙ whole
