-- Dropping entries one by one, and a list of artifacts as entries.
use Rattle.std.proofs.Common.{◌≡◌, refl, sym, ap, ◌∙◌, ℕ, zero, suc, ◌+◌, ◌-◌, ◌<◌, Bool, true, false, List, [], ◌∷◌, length, take, drop, filter, max, arith, slice_get, option_map, nat_lt, ◌&&◌, get_or, not, ◌≤◌, Some}
use Rattle.std.proofs.lemmas.Bool.Decides.{nat_tests}
use Rattle.std.proofs.lemmas.Option.{slice_get-map}
use Rattle.std.specs.Ordering.{nat_cmp, is_lt, ord_max}
use Rattle.simplex_types.specs.MessageViews.{artifact_view}
use Rattle.std.proofs.lemmas.List.{take-map, length-map}
use Rattle.simplex_types.specs.Certificates.{ArtifactFacts, artifact_facts}
use Rattle.simplex_types.specs.declared.types.messages.Artifact.{Artifact}
use Rattle.simplex_record.specs.Entries.{entries_of, entry_view}
use Rattle.simplex_record.specs.Cuts.{is_vote, may_drop, without_last, finalized_by, finalized_in}
use Rattle.simplex_record.proofs.CheckState.{entries_from, view_of_entry}

shut : (closed n : ℕ) (b : Bool) → n ≤ closed → false ≡ (nat_lt closed n && b)
shut closed n b most = let past : nat_lt closed n ≡ false = grind (arith, nat_tests) in rw past refl

pub ord_max_is : (a b : ℕ) → ord_max nat_cmp a b ≡ max a b
ord_max_is a b = ordered _ refl
  where
    ordered : (test : Bool) → is_lt (nat_cmp b a) ≡ test → ord_max nat_cmp a b ≡ max a b
    ordered true is = let less : b < a = grind (arith, nat_tests) in rw is (omega arith)
    ordered false is = let less : a ≤ b = grind (arith, nat_tests) in rw is (omega arith)

max_again : (a b c : ℕ) → max (max a b) c ≡ max a (max b c)
max_again a b c = omega arith

module _ {D : Type 0} where
  pub one_dropped : (closed n : ℕ) (entries : List (ArtifactFacts D)) → may_drop closed entries ≡ true → 0 < n
      → without_last closed (n - 1) (take (length entries - 1) entries) ≡ without_last closed n entries
  one_dropped closed zero entries may some = absurd (omega arith)
  one_dropped closed (suc n) entries may some = let e : suc n - 1 ≡ n = omega arith in rw (e, may) refl

  pub none_dropped : (closed n : ℕ) (entries : List (ArtifactFacts D)) → may_drop closed entries ≡ false
      → without_last closed n entries ≡ entries
  none_dropped closed zero entries may = refl
  none_dropped closed (suc n) entries may = rw may refl

module _ {S D K G C : Type 0} (bytes_of : C → List ℕ) where
  pub length_entries : (items : List (Artifact S D K G C)) → length (entries_of bytes_of items) ≡ length items
  length_entries items = length-map items (artifact_facts bytes_of)

  pub entry_at : (items : List (Artifact S D K G C)) (i : ℕ)
      → slice_get (entries_of bytes_of items) i ≡ option_map (artifact_facts bytes_of) (slice_get items i)
  entry_at items i = slice_get-map (artifact_facts bytes_of) items i

  pub first_entries : (items : List (Artifact S D K G C)) (n : ℕ)
      → entries_of bytes_of (take n items) ≡ take n (entries_of bytes_of items)
  first_entries items n = sym (take-map (artifact_facts bytes_of) n items)

  -- one artifact fewer
  pub one_item_dropped : (closed n : ℕ) (items : List (Artifact S D K G C))
      → may_drop closed (entries_of bytes_of items) ≡ true → 0 < n
      → without_last closed (n - 1) (entries_of bytes_of (take (length items - 1) items)) ≡ without_last closed n
      (entries_of bytes_of items)
  one_item_dropped closed n items may some =
      ap (without_last closed (n - 1)) (first_entries items (length items - 1)
      ∙ ap (λ k. take (k - 1) (entries_of bytes_of items)) (sym (length_entries items)))
      ∙ one_dropped closed n (entries_of bytes_of items) may some

  -- the highest finalized view so far, and that of the rest
  pub finalized_next : (items : List (Artifact S D K G C)) (i : ℕ) (a : Artifact S D K G C) (highest : ℕ)
      → a ≡ get_or items i a → i < length items
      → max (max highest (finalized_by (artifact_facts bytes_of a)))
      (finalized_in (entries_of bytes_of (drop (i + 1) items))) ≡ max highest
      (finalized_in (entries_of bytes_of (drop i items)))
  finalized_next items i a highest is within =
      max_again highest (finalized_by (artifact_facts bytes_of a))
      (finalized_in (entries_of bytes_of (drop (i + 1) items)))
      ∙ ap (λ es. max highest (finalized_in es)) (sym (entries_from bytes_of items i a is within))

  -- no artifact may be dropped where all are closed
  pub all_closed : (closed : ℕ) (items : List (Artifact S D K G C)) → length items ≤ closed
      → false ≡ may_drop closed (entries_of bytes_of items)
  unfolding may_drop
  all_closed closed items most = rw (length_entries items) (shut _ _ _ most)

  -- else the last one may, if it is no vote
  pub last_open : (closed : ℕ) (items : List (Artifact S D K G C)) (a : Artifact S D K G C) → closed < length items
      → slice_get items (length items - 1) ≡ Some a
      → not (is_vote (artifact_facts bytes_of a)) ≡ may_drop closed (entries_of bytes_of items)
  unfolding may_drop
  last_open closed items a more last = let open_yet : nat_lt closed (length items) ≡ true = grind (arith, nat_tests) in
      rw (length_entries items, entry_at items (length items - 1), last, open_yet) refl

  -- the artifacts that remain give the entries that remain
  pub entries_kept : (stays : ℕ → Bool) (items : List (Artifact S D K G C))
      → entries_of bytes_of (filter (λ a. stays (artifact_view a)) items) ≡ filter (λ e. stays (entry_view e))
      (entries_of bytes_of items)
  entries_kept stays [] = refl
  entries_kept stays (a ∷ items) = kept (entries_kept stays items) _ refl
    where
      kept : entries_of bytes_of (filter (λ b. stays (artifact_view b)) items) ≡ filter (λ e. stays (entry_view e))
          (entries_of bytes_of items)
          → (test : Bool) → stays (artifact_view a) ≡ test
          → entries_of bytes_of (filter (λ b. stays (artifact_view b)) (a ∷ items)) ≡ filter
          (λ e. stays (entry_view e)) (entries_of bytes_of (a ∷ items))
      kept rest true is = rw (is, ← view_of_entry bytes_of a, is, rest) refl
      kept rest false is = rw (is, ← view_of_entry bytes_of a, is, rest) refl

pub ruleset dropped = (one_item_dropped, none_dropped)
