-- For the code of the engine.
-- How far back a record reaches that grows and is pruned.
use Rattle.std.proofs.Common.{◌≡◌, ◌⊎◌, inl, inr, ◌≤◌, ◌<◌, ℕ, ◌+◌, ◌-◌, min, Bool, true, false, ◌&&◌, nat_lt, List, [], ◌∷◌, ◌++◌, take, drop, length, Option, Some, None, get_or, length-append, ◌^◌, refl, ap, sym, subst, ◌∙◌, arith}
use Rattle.std.specs.Prelude.{All, IfSome}
use Rattle.std.specs.Option.{option_map_or}
use Rattle.std.proofs.lemmas.Bool.Decides.{nat_tests}
use Rattle.std.proofs.lemmas.List.{take_all, take-append-drop, take-append-le}
use Rattle.std.proofs.lemmas.List.Elements.{All-cons, All-nil}
use Rattle.simplex_types.specs.Certificates.{ArtifactFacts}
use Rattle.simplex_types.specs.MessageViews.{artifact_view}
use Rattle.simplex_types.specs.declared.types.messages.Artifact.{Artifact}
use Rattle.simplex_voter.specs.Facts.{StateFacts}
use Rattle.simplex_record.specs.Entries.{entries_of, entry_view}
use Rattle.simplex_record.proofs.CheckState.{entries_from, view_of_entry}
use Rattle.simplex_member.specs.MemberFacts.{MemberFacts, HasGrown}
use Rattle.engine_outbox.specs.RecordReach.{lowest_of, ReachesTo, AreNear, is_far_below}

module _ {D : Type 0} where
  lowest_append : (view : ℕ) (xs ys : List (ArtifactFacts D))
      → lowest_of view (xs ++ ys) ≡ lowest_of (lowest_of view xs) ys
  lowest_append view [] ys = refl
  lowest_append view (e ∷ xs) ys = lowest_append (min view (entry_view e)) xs ys

  lowest_at_most : (view : ℕ) (entries : List (ArtifactFacts D)) → lowest_of view entries ≤ view
  lowest_at_most view [] = omega arith
  lowest_at_most view (e ∷ rest) = omega (arith, lowest_at_most (min view (entry_view e)) rest)

  lowest_under : (view : ℕ) (entries : List (ArtifactFacts D))
      → All (λ e. lowest_of view entries ≤ entry_view e) entries
  lowest_under view [] = All-nil (λ e. view ≤ entry_view e)
  lowest_under view (e ∷ rest) =
      All-cons (λ f. lowest_of (min view (entry_view e)) rest ≤ entry_view f) e rest
      (omega (arith, lowest_at_most (min view (entry_view e)) rest)) (lowest_under (min view (entry_view e)) rest)

module _ {K L D : Type 0} where
  -- a record that has grown after them
  pub reaches_still : (reach stored : ℕ) (old new : MemberFacts K L D) → HasGrown old new
      → ReachesTo reach stored old.entries → ReachesTo reach stored new.entries
  reaches_still reach stored old new grown reaches =
      subst (ReachesTo reach stored) (sym grown.1)
      (record {
        counted = long;
        lowest = reaches.lowest
            ∙ ap (lowest_of (2 ^ 64 - 1)) (sym (take-append-le stored old.entries grown.0 reaches.counted));
      })
    where
      long : stored ≤ length (old.entries ++ grown.0)
      long = omega (arith, length-append old.entries grown.0, reaches.counted)

module _ {D : Type 0} where
  -- all entries of a record
  pub reaches_whole : (reach stored : ℕ) (entries : List (ArtifactFacts D)) → length entries ≡ stored
      → reach ≡ lowest_of (2 ^ 64 - 1) entries → ReachesTo reach stored entries
  reaches_whole reach stored entries counted is = record {
    counted = omega (arith, counted);
    lowest = is ∙ ap (lowest_of (2 ^ 64 - 1)) (sym (take_all stored entries (omega (arith, counted))));
  }

  -- and of one that was stored up to a place
  pub reaches_all : (before after stored count : ℕ) (entries : List (ArtifactFacts D)) → ReachesTo before stored entries
      → length entries ≡ count
      → after ≡ lowest_of before (drop stored entries) → ReachesTo after count entries
  reaches_all before after stored count entries reaches counted is =
      reaches_whole after count entries counted
      (is ∙ ap (λ v. lowest_of v (drop stored entries)) reaches.lowest
      ∙ sym (lowest_append (2 ^ 64 - 1) (take stored entries) (drop stored entries))
      ∙ ap (lowest_of (2 ^ 64 - 1)) (take-append-drop stored entries))

  near_by : (reach lowest current : ℕ) (entries : List (ArtifactFacts D)) → is_far_below reach lowest current ≡ false
      → reach ≡ lowest_of (2 ^ 64 - 1) entries
      → AreNear lowest current entries
  near_by reach lowest current entries far is = λ k d less.
      let under : lowest_of (2 ^ 64 - 1) entries ≤ entry_view (get_or entries k d) =
      lowest_under (2 ^ 64 - 1) entries k d less in
      let near : lowest - reach ≤ current - lowest = grind (arith, nat_tests, far) in
      omega (arith, under, near, is)

  -- a record that is not overgrown, all of which is stored
  pub short_by : (long reach stored lowest current : ℕ) (entries : List (ArtifactFacts D))
      → ReachesTo reach stored entries → length entries ≤ stored
      → (nat_lt long (length entries) && is_far_below reach lowest current) ≡ false
      → (length entries ≤ long) ⊎ AreNear lowest current entries
  short_by long reach stored lowest current entries reaches whole is = by_length (nat_lt long (length entries)) refl is
    where
      by_length : (b : Bool) → nat_lt long (length entries) ≡ b → (b && is_far_below reach lowest current) ≡ false
          → (length entries ≤ long) ⊎ AreNear lowest current entries
      by_length false few far = inl (grind (arith, nat_tests, few))
      by_length true many far = inr (near_by reach lowest current entries far
          (reaches.lowest ∙ ap (lowest_of (2 ^ 64 - 1)) (take_all stored entries whole)))

-- what a test that fails says of a lifetime, where there is one
pub while_alive : {K L D : Type 0} (life : Option (StateFacts K L D)) (test : StateFacts K L D → Bool)
    (Holds : StateFacts K L D → Type 0)
    → ((x : StateFacts K L D) → test x ≡ false → Holds x) → option_map_or test life false ≡ false → IfSome life Holds
while_alive None test Holds each fails = tt
while_alive (Some x) test Holds each fails = each x fails

-- where a view is not far below the retained one, it isn't below a lower one
pub nearer : (reach active kept current : ℕ) → is_far_below reach active current ≡ false
    → false ≡ is_far_below reach (min active kept) current
nearer reach active kept current near =
    let within : active - reach ≤ current - active = grind (arith, nat_tests, near) in
    let still : min active kept - reach ≤ current - min active kept = omega (arith, within) in
    sym (not_less (current - min active kept) (min active kept - reach) still)
  where
    not_less : (a b : ℕ) → b ≤ a → nat_lt a b ≡ false
    not_less a b at = grind (arith, nat_tests, at)

-- the lowest view so far, and that of the rest
pub lowest_next : {S D K G C : Type 0} (bytes_of : C → List ℕ) (items : List (Artifact S D K G C)) (i : ℕ)
    (a : Artifact S D K G C) (lowest view : ℕ) → a ≡ get_or items i a → i < length items
    → view ≡ artifact_view a → lowest_of (min lowest view) (entries_of bytes_of (drop (i + 1) items)) ≡ lowest_of lowest
    (entries_of bytes_of (drop i items))
lowest_next bytes_of items i a lowest view is within at =
    ap (λ v. lowest_of (min lowest v) (entries_of bytes_of (drop (i + 1) items))) (at ∙ view_of_entry bytes_of a)
    ∙ ap (lowest_of lowest) (sym (entries_from bytes_of items i a is within))
