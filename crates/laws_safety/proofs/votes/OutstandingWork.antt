-- The requests and verifications of a member that stay open.
use Rattle.std.proofs.Common.{◌≡◌, ◌≢◌, refl, ap, sym, ◌∙◌, ℕ, ◌⊎◌, inl, inr, Bool, true, false, ◌||◌, not, cond, eqb, List, [], ◌∷◌, Option, Some, None, is_some}
use Rattle.std.specs.Prelude.{filter}
use Rattle.std.specs.BTreeSet.{insert_key}
use Rattle.std.specs.FinMap.{nat_cmp-IsAntisymmetric}
use Rattle.std.specs.FinMap.Entries.{find, put, find-put, where_key, find-where_key}
use Rattle.simplex_view_maps.proofs.Maps.{is_eq-nat_cmp}
use Rattle.std.specs.List.{list_any}
use Rattle.std.specs.Ordering.{nat_cmp, match_ordering}
use Rattle.std.specs.declared.cmp.Ordering.{Ordering}
use Rattle.std.specs.declared.cmp.Ordering.TheVariants.{Less, Equal, Greater}
use Rattle.std.specs.Cmp.{nat_cmp_total}
use Rattle.std.proofs.lemmas.Bool.{false≢true, eqb-true, eq-eqb}
use Rattle.simplex_types.specs.declared.types.messages.Context.{Context}
use Rattle.simplex_member.specs.OutstandingWork.{OutstandingWork, all_but, is_among, context_at, without_context, with_context}
use Rattle.laws_safety.proofs.votes.NullifyVotes.{tied}

-- a view is among those with one more
pub among_noted : (k v : ℕ) (ks : List ℕ) → is_among v (insert_key nat_cmp ks k) ≡ (eqb v k || is_among v ks)
among_noted k v [] = refl
among_noted k v (u ∷ ks) =
    let behind : is_among v (insert_key nat_cmp ks k) ≡ (eqb v k || is_among v ks) = among_noted k v ks in
    (elim (nat_cmp k u) as (λ (o : Ordering). nat_cmp k u ≡ o
    → is_among v (match_ordering o (k ∷ u ∷ ks) (u ∷ ks) (u ∷ insert_key nat_cmp ks k))
    ≡ (eqb v k || (eqb v u || is_among v ks))) [
      | Less ↦ λ is. refl
      | Equal ↦ λ is. rw (tied k u is) (twice (eqb v u) (is_among v ks))
      | Greater ↦ λ is. rw behind (swapped (eqb v u) (eqb v k) (is_among v ks))
    ]) refl
  where
    twice : (a b : Bool) → (a || b) ≡ (a || (a || b))
    twice true b = refl
    twice false b = refl

    swapped : (a b c : Bool) → (a || (b || c)) ≡ (b || (a || c))
    swapped true true c = refl
    swapped true false c = refl
    swapped false b c = refl

-- a view among others but one
pub among_others : (v w : ℕ) (views : List ℕ) → is_among w (all_but v views) ≡ true
    → (is_among w views ≡ true) × (w ≢ v)
among_others v w [] is = absurd (false≢true is)
among_others v w (u ∷ views) is = by_test (eqb u v) refl (among_others v w views) is
  where
    by_test : (b : Bool) → eqb u v ≡ b → (is_among w (all_but v views) ≡ true → (is_among w views ≡ true) × (w ≢ v))
        → is_among w (cond (not b) (u ∷ all_but v views) (all_but v views)) ≡ true
        → ((eqb w u || is_among w views) ≡ true) × (w ≢ v)
    by_test true left_out behind is = (let there = behind is in (later (eqb w u) (is_among w views) there.0, there.1))
      where
        later : (a b : Bool) → b ≡ true → (a || b) ≡ true
        later true b is = refl
        later false b is = is
    by_test false stays behind is = by_here (eqb w u) refl is
      where
        by_here : (b : Bool) → eqb w u ≡ b → (b || is_among w (all_but v views)) ≡ true
            → ((b || is_among w views) ≡ true) × (w ≢ v)
        by_here true here is = (refl, λ at. false≢true (sym stays ∙ eq-eqb u v (sym (eqb-true w u here) ∙ at)))
        by_here false other is = behind is

pub now_among : (v w : ℕ) (views : List ℕ) → is_among w (insert_key nat_cmp views v) ≡ true
    → (w ≡ v) ⊎ (is_among w views ≡ true)
now_among v w views is = by_here (eqb w v) refl (sym (among_noted v w views) ∙ is)
  where
    by_here : (b : Bool) → eqb w v ≡ b → (b || is_among w views) ≡ true → (w ≡ v) ⊎ (is_among w views ≡ true)
    by_here true here is = inl (eqb-true w v here)
    by_here false other is = inr is

module _ {A : Type 0} (test : A → Bool) where
  -- an item that passes is among all
  pub any_of_kept : (keep : A → Bool) (items : List A) → list_any test (filter keep items) ≡ true
      → list_any test items ≡ true
  any_of_kept keep [] is = is
  any_of_kept keep (a ∷ items) is = by_keep (keep a) (any_of_kept keep items) is
    where
      by_keep : (b : Bool) → (list_any test (filter keep items) ≡ true → list_any test items ≡ true)
          → list_any test (cond b (a ∷ filter keep items) (filter keep items)) ≡ true
          → (test a || list_any test items) ≡ true
      by_keep true behind is = by_test (test a) is
        where
          by_test : (b : Bool) → (b || list_any test (filter keep items)) ≡ true → (b || list_any test items) ≡ true
          by_test true is = refl
          by_test false is = behind is
      by_keep false behind is = by_test (test a)
        where
          by_test : (b : Bool) → (b || list_any test items) ≡ true
          by_test true = refl
          by_test false = behind is

pub some_still : {A : Type 0} (p q : Option A) → ((a : A) → p ≡ Some a → q ≡ Some a) → is_some p ≡ true
    → is_some q ≡ true
some_still None q says is = absurd (false≢true is)
some_still (Some a) q says is = ap is_some (says a refl)

-- each context that is open is of its view
abbrev pub ArePlaced : {K D : Type 0} → OutstandingWork K D → Type 0
ArePlaced {K} {D} o = (v : ℕ) (c : Context D K) → context_at o v ≡ Some c → c.round.view ≡ v

-- an open context was open before
abbrev pub NoMoreContexts : {K D : Type 0} → OutstandingWork K D → OutstandingWork K D → Type 0
NoMoreContexts {K} {D} o o' = (v : ℕ) (c : Context D K) → context_at o' v ≡ Some c → context_at o v ≡ Some c

-- a list by view, with one entry more or less
module _ {V : Type 0} (es : List (ℕ × V)) where
  as_where : (p : ℕ → Bool) (fs : List (ℕ × V)) → filter (λ e. p e.0) fs ≡ where_key nat_cmp p fs
  as_where p [] = refl
  as_where p (f ∷ fs) = λ i. cond (p f.0) (f ∷ as_where p fs i) (as_where p fs i)

  left : (v w : ℕ) → find nat_cmp w (filter (λ e. not (eqb e.0 v)) es) ≡ cond (not (eqb w v)) (find nat_cmp w es) None
  left v w =
      ap (find nat_cmp w) (as_where (λ k. not (eqb k v)) es)
      ∙ find-where_key nat_cmp (λ k. not (eqb k v)) w
      (λ k tied. ap (λ u. not (eqb u v)) (sym (nat_cmp-IsAntisymmetric w k tied))) es

  -- an item found after a removal was there before
  pub got_others : (v w : ℕ) (a : V) → find nat_cmp w (filter (λ e. not (eqb e.0 v)) es) ≡ Some a
      → find nat_cmp w es ≡ Some a
  got_others v w a is = by_test (not (eqb w v)) (sym (left v w) ∙ is)
    where
      by_test : (b : Bool) → cond b (find nat_cmp w es) None ≡ Some a → find nat_cmp w es ≡ Some a
      by_test true still = still
      by_test false still = absurd (false≢true (ap is_some still))

  -- and after an insertion, unless it is that one
  pub got_now : (v : ℕ) (a : V) (w : ℕ) (b : V) → find nat_cmp w (put nat_cmp v a es) ≡ Some b
      → ((w ≡ v) × (a ≡ b)) ⊎ (find nat_cmp w es ≡ Some b)
  got_now v a w b is = by_test (eqb w v) refl
      (ap (λ t. cond t (Some a) (find nat_cmp w es)) (sym (is_eq-nat_cmp w v))
      ∙ sym (find-put nat_cmp nat_cmp_total w v a es) ∙ is)
    where
      by_test : (t : Bool) → eqb w v ≡ t → cond t (Some a) (find nat_cmp w es) ≡ Some b
          → ((w ≡ v) × (a ≡ b)) ⊎ (find nat_cmp w es ≡ Some b)
      by_test true here still = inl (eqb-true w v here, cc)
      by_test false other still = inr still

module _ {K D : Type 0} (o : OutstandingWork K D) where
  -- one that is open after a close was open before
  pub still_open : (v w : ℕ) → is_some (context_at (without_context o v) w) ≡ true → is_some (context_at o w) ≡ true
  still_open v w is = some_still (context_at (without_context o v) w) (context_at o w) (got_others o.contexts v w) is

  -- and after an opening, unless it is that one
  pub now_open : (context : Context D K) (w : ℕ) → is_some (context_at (with_context o context) w) ≡ true
      → (w ≡ context.round.view) ⊎ (is_some (context_at o w) ≡ true)
  now_open context w is = by_found (context_at (with_context o context) w) refl is
    where
      by_found : (found : Option (Context D K)) → context_at (with_context o context) w ≡ found → is_some found ≡ true
          → (w ≡ context.round.view) ⊎ (is_some (context_at o w) ≡ true)
      by_found None none is = absurd (false≢true is)
      by_found (Some c) found is = elim (got_now o.contexts context.round.view context w c found)
          [ inl now ↦ inl now.0 | inr before ↦ inr (ap is_some before) ]

  pub still_placed : (context : Context D K) → ArePlaced o → ArePlaced (with_context o context)
  still_placed context placed w c is = elim (got_now o.contexts context.round.view context w c is) [
    | inl now ↦ ap (λ (k : Context D K). k.round.view) (sym now.1) ∙ sym now.0
    | inr before ↦ placed w c before
  ]
