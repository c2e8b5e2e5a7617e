-- Places of notarizations, entry by entry.
use Rattle.std.proofs.Common.{◌≡◌, ◌⊎◌, ℕ, zero, suc, ◌+◌, ◌-◌, ◌<◌, ◌≤◌, true, false, List, [], ◌∷◌, ◌++◌, map, reverse, take, drop, length, Option, Some, None, is_some, Result, Ok, Err, is_ok, OnOk, OnErr, slice_get, refl, ap, sym, ◌∙◌, inl, inr, arith}
use Rattle.std.specs.Option.{option_or, option_and_then, option_map}
use Rattle.std.specs.Ordering.{nat_cmp}
use Rattle.std.specs.FinMap as fin
use Rattle.std.specs.FinMap.{FinMap}
use Rattle.std.proofs.lemmas.Bool.{cases_eq, eq-eqb, ne_eqb, false≢true}
use Rattle.std.proofs.lemmas.List.{map-append, reverse-append, length-append, length-drop, take_all, take-append-le, take-append-drop}
use Rattle.simplex_types.specs.Certificates.{ProposalFacts, Notarized, Nullified, Finalized, ArtifactFacts, NotarizeVote, NullifyVote, FinalizeVote, Verdict, Accepted, artifact_facts}
use Rattle.simplex_types.specs.declared.types.messages.Artifact.{Artifact}
use Rattle.simplex_view_maps.proofs.Maps.{get-insert}
use Rattle.simplex_resolver.specs.declared.replay.places.Places.{Places}
use Rattle.simplex_resolver.specs.RecordCalls.{newest_first, notarization_at, newest_notarization}
use Rattle.simplex_resolver.specs.RecordPositions.{with_place, AreNoted}
use Rattle.simplex_resolver.proofs.Newest.{newest_more}

-- ---- results and options

pub ok_gives : {A E P : Type 0} (r : Result A E) → true ≡ is_ok r → OnOk r P → P
ok_gives (Ok a) is says = says
ok_gives (Err e) is says = absurd (false≢true (sym is))

pub err_gives : {A E P : Type 0} (r : Result A E) → false ≡ is_ok r → OnErr r P → P
err_gives (Ok a) is says = absurd (false≢true is)
err_gives (Err e) is says = says

pub same_some : {A B : Type 0} (f : A → B) (o : Option A) → is_some (option_map f o) ≡ is_some o
same_some f None = refl
same_some f (Some x) = refl

-- ---- lists

module _ {X : Type 0} where
  -- an entry stays at its place when one more comes
  stays_at : (xs : List X) (x : X) (i : ℕ) → i < length xs → slice_get (xs ++ x ∷ []) i ≡ slice_get xs i
  stays_at [] x i h = absurd (omega (arith, h))
  stays_at (y ∷ ys) x zero h = refl
  stays_at (y ∷ ys) x (suc i) h = stays_at ys x i (omega (arith, h))

  -- and that one comes after the others
  last_at : (xs : List X) (x : X) → slice_get (xs ++ x ∷ []) (length xs) ≡ Some x
  last_at [] x = refl
  last_at (y ∷ ys) x = last_at ys x

or_or : {T : Type 0} (a b c : Option T) → option_or (option_or a b) c ≡ option_or a (option_or b c)
or_or None b c = refl
or_or (Some x) b c = refl

module _ {D : Type 0} where
  newest_of_both : (v : ℕ) (es fs : List (ArtifactFacts D))
      → newest_notarization v (es ++ fs) ≡ option_or (newest_notarization v es) (newest_notarization v fs)
  newest_of_both v [] fs = refl
  newest_of_both v (e ∷ es) fs = ap (option_or (notarization_at v e)) (newest_of_both v es fs)
      ∙ sym (or_or (notarization_at v e) (newest_notarization v es) (newest_notarization v fs))

module _ {D : Type 0} where
  -- an entry is a notarization of the view, which is at its place from then on, or the view's place stays
  abbrev Placed : FinMap nat_cmp ℕ → ArtifactFacts D → ℕ → ℕ → Type 0
  Placed m e n v = ((f : ProposalFacts D) × (notarization_at v e ≡ Some f) × (fin.get (with_place m e n) v ≡ Some n))
      ⊎ ((notarization_at v e ≡ None) × (fin.get (with_place m e n) v ≡ fin.get m v))

  placed : (m : FinMap nat_cmp ℕ) (e : ArtifactFacts D) (n v : ℕ) → Placed m e n v
  placed m (Accepted (Notarized f)) n v = elim (cases_eq v f.proposal.round.view) [
    | inl same ↦ inl (
      f,
      rw (eq-eqb f.proposal.round.view v (sym same)) refl,
      get-insert m f.proposal.round.view n v ∙ rw (eq-eqb v f.proposal.round.view same) refl,
    )
    | inr other ↦ inr (
      rw (ne_eqb f.proposal.round.view v (λ same. other (sym same))) refl,
      get-insert m f.proposal.round.view n v ∙ rw (ne_eqb v f.proposal.round.view other) refl,
    )
  ]
  placed m (Accepted (Nullified f)) n v = inr (refl, refl)
  placed m (Accepted (Finalized f)) n v = inr (refl, refl)
  placed m (NotarizeVote p signer) n v = inr (refl, refl)
  placed m (NullifyVote round signer) n v = inr (refl, refl)
  placed m (FinalizeVote p signer) n v = inr (refl, refl)
  placed m (Verdict round success) n v = inr (refl, refl)

module _ {S D K G C : Type 0} (bytes_of : C → List ℕ) where
  newest_behind : (v : ℕ) (xs ys : List (Artifact S D K G C)) → newest_notarization v (newest_first bytes_of (xs ++ ys))
      ≡ option_or (newest_notarization v (newest_first bytes_of ys)) (newest_notarization v (newest_first bytes_of xs))
  newest_behind v xs ys =
      ap (λ es. newest_notarization v (reverse es)) (map-append (artifact_facts bytes_of) xs ys)
      ∙ ap (newest_notarization v)
      (reverse-append (map (artifact_facts bytes_of) xs) (map (artifact_facts bytes_of) ys))
      ∙ newest_of_both v (newest_first bytes_of ys) (newest_first bytes_of xs)

  -- the notarization of a view at a place
  abbrev pub at_place : List (Artifact S D K G C) → ℕ → ℕ → Option (ProposalFacts D)
  at_place xs v i = option_and_then (λ a. notarization_at v (artifact_facts bytes_of a)) (slice_get xs i)

  place_stays : (xs : List (Artifact S D K G C)) (x : Artifact S D K G C) (v n : ℕ) (o : Option ℕ) → n ≤ length xs
      → ((i : ℕ) → o ≡ Some i → i < n)
      → option_and_then (at_place (xs ++ x ∷ []) v) o ≡ option_and_then (at_place xs v) o
  place_stays xs x v n None count within = refl
  place_stays xs x v n (Some i) count within =
      ap (option_and_then (λ a. notarization_at v (artifact_facts bytes_of a)))
      (stays_at xs x i (let low = within i refl in omega (arith, low, count)))

  -- ---- nothing is noted; one entry more is not noted

  pub none_noted : (p : Places) → p.by_view ≡ fin.empty → p.noted ≡ 0
      → AreNoted {S = S} {D = D} {K = K} {G = G} bytes_of p []
  none_noted p empty none =
      let no : (v : ℕ) → fin.get p.by_view v ≡ None = λ v. ap (λ m. fin.get m v) empty ∙ fin.get-empty nat_cmp v in
      record {
        count = omega (arith, none);
        within = λ v i is. absurd (false≢true (ap is_some (sym (no v) ∙ is)));
        found = λ v. rw (no v, none) refl;
      }

  pub not_noted : (p : Places) (xs : List (Artifact S D K G C)) (x : Artifact S D K G C) → AreNoted bytes_of p xs
      → AreNoted bytes_of p (xs ++ x ∷ [])
  not_noted p xs x a = record {
    count = let count = a.count in let more = length-append xs (x ∷ []) in omega (arith, count, more);
    within = a.within;
    found = λ v. place_stays xs x v p.noted (fin.get p.by_view v) a.count (a.within v) ∙ a.found v
        ∙ ap (λ es. newest_notarization v (newest_first bytes_of es))
        (sym (take-append-le p.noted xs (x ∷ []) a.count));
  }

  -- ---- it is noted

  module _ (p q : Places) (xs : List (Artifact S D K G C)) (x : Artifact S D K G C) (a : AreNoted bytes_of p xs)
      (all : p.noted ≡ length xs) (next : q.noted ≡ length xs + 1)
      (with : q.by_view ≡ with_place p.by_view (artifact_facts bytes_of x) (length xs)) where
    abbrev e : ArtifactFacts D
    e = artifact_facts bytes_of x

    whole : (v : ℕ) → newest_notarization v (newest_first bytes_of (take q.noted (xs ++ x ∷ [])))
        ≡ option_or (notarization_at v e) (newest_notarization v (newest_first bytes_of xs))
    whole v =
        ap (λ es. newest_notarization v (newest_first bytes_of es))
        (take_all q.noted (xs ++ x ∷ []) (let more = length-append xs (x ∷ []) in omega (arith, more, next)))
        ∙ ap (newest_notarization v) (newest_more bytes_of xs x)

    before : (v : ℕ) → option_and_then (at_place xs v) (fin.get p.by_view v) ≡ newest_notarization v
        (newest_first bytes_of xs)
    before v = a.found v ∙ ap (λ es. newest_notarization v (newest_first bytes_of es))
        (take_all p.noted xs (omega (arith, all)))

    found_by : (v : ℕ) → Placed p.by_view e (length xs) v
        → option_and_then (at_place (xs ++ x ∷ []) v) (fin.get q.by_view v) ≡ newest_notarization v
        (newest_first bytes_of (take q.noted (xs ++ x ∷ [])))
    found_by v (inl here) =
        ap (λ m. option_and_then (at_place (xs ++ x ∷ []) v) (fin.get m v)) with
        ∙ ap (option_and_then (at_place (xs ++ x ∷ []) v)) here.2
        ∙ ap (option_and_then (λ y. notarization_at v (artifact_facts bytes_of y))) (last_at xs x)
        ∙ here.1 ∙ ap (λ o. option_or o (newest_notarization v (newest_first bytes_of xs))) (sym here.1) ∙ sym (whole v)
    found_by v (inr there) =
        ap (λ m. option_and_then (at_place (xs ++ x ∷ []) v) (fin.get m v)) with
        ∙ ap (option_and_then (at_place (xs ++ x ∷ []) v)) there.1
        ∙ place_stays xs x v p.noted (fin.get p.by_view v) a.count (a.within v)
        ∙ before v ∙ ap (λ o. option_or o (newest_notarization v (newest_first bytes_of xs))) (sym there.0)
        ∙ sym (whole v)

    within_by : (v i : ℕ) → Placed p.by_view e (length xs) v → fin.get q.by_view v ≡ Some i → i < q.noted
    within_by v i (inl here) is =
        let same : Some (length xs) ≡ Some i = sym (ap (λ m. fin.get m v) with ∙ here.2) ∙ is in
        let at : length xs ≡ i = some_same same in
        omega (arith, at, next)
      where
        some_same : {m n : ℕ} → Some m ≡ Some n → m ≡ n
        some_same is = cc
    within_by v i (inr there) is =
        let below = a.within v i (sym (ap (λ m. fin.get m v) with ∙ there.1) ∙ is) in
        omega (arith, below, all, next)

    pub one_noted : AreNoted bytes_of q (xs ++ x ∷ [])
    one_noted = record {
      count = let more = length-append xs (x ∷ []) in omega (arith, more, next);
      within = λ v i. within_by v i (placed p.by_view e (length xs) v);
      found = λ v. found_by v (placed p.by_view e (length xs) v);
    }

  -- ---- a search: what is not noted is walked over, and the rest is looked up

  module _ (p : Places) (xs : List (Artifact S D K G C)) (a : AreNoted bytes_of p xs) (v : ℕ) where
    parts : newest_notarization v (newest_first bytes_of xs)
        ≡ option_or (newest_notarization v (newest_first bytes_of (drop p.noted xs)))
        (newest_notarization v (newest_first bytes_of (take p.noted xs)))
    parts = ap (λ es. newest_notarization v (newest_first bytes_of es)) (sym (take-append-drop p.noted xs))
        ∙ newest_behind v (take p.noted xs) (drop p.noted xs)

    -- what is not noted, as a range of the entries
    abbrev pub rest : List (Artifact S D K G C)
    rest = take (length xs - p.noted) (drop p.noted xs)

    same_rest : rest ≡ drop p.noted xs
    same_rest = take_all (length xs - p.noted) (drop p.noted xs)
        (let left = length-drop p.noted xs in omega (arith, left))

    behind_by : (o other : Option (ProposalFacts D)) → is_some o ≡ true → option_or o other ≡ o
    behind_by None other some = absurd (false≢true some)
    behind_by (Some n) other some = refl

    before_by : (o other : Option (ProposalFacts D)) → is_some o ≡ false → option_or o other ≡ other
    before_by None other none = refl
    before_by (Some n) other none = absurd (false≢true (sym none))

    by_parts : (o : Option (ProposalFacts D)) → o ≡ newest_notarization v (newest_first bytes_of rest)
        → newest_notarization v (newest_first bytes_of xs) ≡ option_or o
        (newest_notarization v (newest_first bytes_of (take p.noted xs)))
    by_parts o is = parts ∙ ap (λ f. option_or f (newest_notarization v (newest_first bytes_of (take p.noted xs))))
        (sym (is ∙ ap (λ es. newest_notarization v (newest_first bytes_of es)) same_rest))

    pub found_behind : (o : Option (ProposalFacts D)) → o ≡ newest_notarization v (newest_first bytes_of rest)
        → is_some o ≡ true → o ≡ newest_notarization v (newest_first bytes_of xs)
    found_behind o is some =
        sym (by_parts o is ∙ behind_by o (newest_notarization v (newest_first bytes_of (take p.noted xs))) some)

    pub found_at_place : (o : Option (ProposalFacts D)) → o ≡ newest_notarization v (newest_first bytes_of rest)
        → is_some o ≡ false
        → option_and_then (at_place xs v) (fin.get p.by_view v) ≡ newest_notarization v (newest_first bytes_of xs)
    found_at_place o is none = a.found v ∙ sym
        (by_parts o is ∙ before_by o (newest_notarization v (newest_first bytes_of (take p.noted xs))) none)

    pub read_place : (i : ℕ) (x : Artifact S D K G C) → slice_get xs i ≡ Some x → fin.get p.by_view v ≡ Some i
        → notarization_at v (artifact_facts bytes_of x) ≡ option_and_then (at_place xs v) (fin.get p.by_view v)
    read_place i x at is = sym (ap (option_and_then (at_place xs v)) is
        ∙ ap (option_and_then (λ a. notarization_at v (artifact_facts bytes_of a))) at)
