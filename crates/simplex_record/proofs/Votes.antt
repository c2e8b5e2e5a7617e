-- The votes after a cut.
use Rattle.std.proofs.Common.{◌≡◌, refl, sym, ap, ◌∙◌, ℕ, suc, ◌-◌, Bool, true, false, List, [], ◌∷◌, ◌++◌, length, take, filter, arith, slice_get, not, nat_lt, ◌&&◌, cond}
use Rattle.std.specs.Option.{option_map_or}
use Rattle.std.proofs.lemmas.List.Elements.{filter-append}
use Rattle.simplex_types.specs.Certificates.{ArtifactFacts, artifact_facts}
use Rattle.simplex_types.specs.MessageViews.{artifact_view}
use Rattle.simplex_types.specs.declared.types.messages.Artifact.{Artifact}
use Rattle.simplex_types.specs.declared.types.messages.Artifact.TheVariants as artifact
use Rattle.simplex_record.specs.Cuts.{is_vote, may_drop}
use Rattle.simplex_record.specs.Entries.{entries_of, entry_view}
use Rattle.simplex_record.specs.Votes.{signed_vote, votes_of}

both : (a b : Bool) → (a && b) ≡ true → b ≡ true
both true b is = is
both false b is = absurd cc

module _ {S D K G C : Type 0} (bytes_of : C → List ℕ) where
  no_vote : (a : Artifact S D K G C) → not (is_vote (artifact_facts bytes_of a)) ≡ true → signed_vote a ≡ []
  no_vote (artifact.Notarize vote) is = absurd cc
  no_vote (artifact.Nullify vote) is = absurd cc
  no_vote (artifact.Finalize vote) is = absurd cc
  no_vote (artifact.Certification round success) is = refl
  no_vote (artifact.Notarization n) is = refl
  no_vote (artifact.Nullification n) is = refl
  no_vote (artifact.Finalization f) is = refl

  -- the last artifact is no vote
  without_the_last : (items : List (Artifact S D K G C))
      → not (option_map_or is_vote (slice_get (entries_of bytes_of items) (length (entries_of bytes_of items) - 1))
      true) ≡ true → votes_of (take (length items - 1) items) ≡ votes_of items
  without_the_last [] last = absurd cc
  without_the_last (a ∷ []) last = sym (ap (λ vs. vs ++ []) (no_vote a last))
  without_the_last (a ∷ b ∷ rest) last =
      let n : length (a ∷ b ∷ rest) - 1 ≡ suc (length (b ∷ rest) - 1) = omega arith in
      let k : length (entries_of bytes_of (a ∷ b ∷ rest)) - 1 ≡ suc (length (entries_of bytes_of (b ∷ rest)) - 1) =
      omega arith in
      rw n (ap (λ vs. signed_vote a ++ vs) (without_the_last (b ∷ rest) (rw k at last)))

  pub votes_undropped : (closed : ℕ) (items : List (Artifact S D K G C))
      → may_drop closed (entries_of bytes_of items) ≡ true → votes_of (take (length items - 1) items) ≡ votes_of items
  unfolding may_drop
  votes_undropped closed items may = without_the_last items
      (both (nat_lt closed (length (entries_of bytes_of items))) _ may)

neither : {A : Type 0} (b : Bool) → [] ≡ cond {A = List A} b [] []
neither true = refl
neither false = refl

module _ {S D K G C : Type 0} (stays : ℕ → Bool) where
  one_stays : (a : Artifact S D K G C) → filter (λ v. stays (entry_view v.vote)) (signed_vote a) ≡ cond
      (stays (artifact_view a)) (signed_vote a) []
  one_stays (artifact.Notarize vote) = refl
  one_stays (artifact.Nullify vote) = refl
  one_stays (artifact.Finalize vote) = refl
  one_stays (artifact.Certification round success) = neither (stays round.view)
  one_stays (artifact.Notarization n) = neither (stays n.proposal.round.view)
  one_stays (artifact.Nullification n) = neither (stays n.round.view)
  one_stays (artifact.Finalization f) = neither (stays f.proposal.round.view)

  -- the artifacts that remain give the votes that remain
  pub votes_kept : (items : List (Artifact S D K G C))
      → votes_of (filter (λ a. stays (artifact_view a)) items) ≡ filter (λ v. stays (entry_view v.vote))
      (votes_of items)
  votes_kept [] = refl
  votes_kept (a ∷ items) =
      sym (filter-append (λ v. stays (entry_view v.vote)) (signed_vote a) (votes_of items)
      ∙ rw (one_stays a, ← votes_kept items) (by_test (stays (artifact_view a)) refl))
    where
      by_test : (b : Bool) → stays (artifact_view a) ≡ b
          → cond (stays (artifact_view a)) (signed_vote a) [] ++ votes_of
          (filter (λ c. stays (artifact_view c)) items) ≡ votes_of (filter (λ c. stays (artifact_view c)) (a ∷ items))
      by_test true is = rw is refl
      by_test false is = rw is refl
