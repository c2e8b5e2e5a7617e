-- Only fetches that a resolver wants, and those that are opened, become open.
use Rattle.std.proofs.Common.{◌≡◌, ℕ, ◌⊎◌, inl, inr, Bool, true, false, ◌&&◌, ◌||◌, ◌==◌, cond, not, List, [], ◌∷◌, ◌++◌, filter, refl, ap, sym, subst, ◌∙◌}
use Rattle.std.specs.Prelude.{Option, Some, None, MatchOption, slice_get, slice_set}
use Rattle.std.specs.List.{list_any}
use Rattle.std.proofs.lemmas.Bool.{false≢true, eq-eqb, eqb-true, or_cases, or_left, or_right}
use Rattle.std.proofs.lemmas.Option.{get_or_from_slice_get}
use Rattle.simplex_resolver.specs.Repair.{settles, has, is_outstanding, IsApplied}
use Rattle.simplex_resolver.specs.declared.resolver.effect.Effect.{Effect}
use Rattle.simplex_resolver.specs.declared.resolver.effect.Effect.TheVariants as effect
use Rattle.simplex_voter.specs.declared.voter.candidates.CertificateFetch.{CertificateFetch}
use Rattle.engine_fetches.specs.declared.fetches.Ask.{Ask}
use Rattle.engine_fetches.specs.declared.fetches.Fetch.{Fetch}
use Rattle.engine_fetches.specs.declared.fetches.Fetches.{Fetches}
use Rattle.engine_fetches.specs.declared.fetches.FetchKind.{FetchKind}
use Rattle.engine_fetches.specs.declared.fetches.FetchKind.TheVariants.{Notarization, Nullification, Decision}
use Rattle.engine_fetches.specs.Requests.{ask_of, IsAsking}
use Rattle.engine_fetches.specs.Fetches.{asked_again, due_at, is_of, is_fetch_open, fresh, opened, same_kind}
use Rattle.engine_fetches.specs.OutstandingFetches.{after_effect, after_effects, fetching, wanting, wants, OpensNoOther}
use Rattle.engine_fetches.proofs.Once.{open_again}
use Rattle.engine_fetches.proofs.OutstandingFetches.{effects_are, open_more}

parts : (a b : Bool) → (a && b) ≡ true → (a ≡ true) × (b ≡ true)
parts true b is = (refl, is)
parts false b is = absurd (false≢true is)

same_kinds : (k l : FetchKind) → same_kind k l ≡ true → k ≡ l
same_kinds Notarization Notarization is = refl
same_kinds Notarization Nullification is = absurd (false≢true is)
same_kinds Notarization Decision is = absurd (false≢true is)
same_kinds Nullification Notarization is = absurd (false≢true is)
same_kinds Nullification Nullification is = refl
same_kinds Nullification Decision is = absurd (false≢true is)
same_kinds Decision Notarization is = absurd (false≢true is)
same_kinds Decision Nullification is = absurd (false≢true is)
same_kinds Decision Decision is = refl

module _ (kind : FetchKind) (view : ℕ) where
  -- what is open among some is among all
  pub open_among : (p : Fetch → Bool) (xs : List Fetch) → is_fetch_open kind view (filter p xs) ≡ true
      → is_fetch_open kind view xs ≡ true
  open_among p [] is = is
  open_among p (x ∷ xs) is =
      by_test (λ left. or_right (is_of kind view x) (is_fetch_open kind view xs) (open_among p xs left)) (p x) is
    where
      by_test : (is_fetch_open kind view (filter p xs) ≡ true → is_fetch_open kind view (x ∷ xs) ≡ true) → (t : Bool)
          → is_fetch_open kind view (cond t (x ∷ filter p xs) (filter p xs)) ≡ true
          → is_fetch_open kind view (x ∷ xs) ≡ true
      by_test rest false left = rest left
      by_test rest true some = elim (or_cases (is_of kind view x) (is_fetch_open kind view (filter p xs)) some) [
        | inl this ↦ or_left (is_of kind view x) (is_fetch_open kind view xs) this
        | inr left ↦ rest left
      ]

  -- what is open once one is opened is that one, or was open
  pub open_once : (k : FetchKind) (v first moment : ℕ) (xs : List Fetch)
      → is_fetch_open kind view (opened k v first moment xs) ≡ true
      → (is_fetch_open kind view xs ≡ true) ⊎ ((k ≡ kind) × (v ≡ view))
  open_once k v first moment xs is = by_test (is_fetch_open k v xs) is
    where
      by_test : (t : Bool) → is_fetch_open kind view (cond t xs (xs ++ fresh k v first moment ∷ [])) ≡ true
          → (is_fetch_open kind view xs ≡ true) ⊎ ((k ≡ kind) × (v ≡ view))
      by_test true some = inl some
      by_test false some =
          elim (or_cases (is_fetch_open kind view xs) (same_kind k kind && (v == view))
          (sym (open_more kind view xs (fresh k v first moment)) ∙ some)) [
            | inl before ↦ inl before
            | inr now ↦ (let both = parts (same_kind k kind) (v == view) now in
                inr (same_kinds k kind both.0, eqb-true v view both.1))
          ]

-- effects open nullifications alone
module _ (kind : FetchKind) (view : ℕ) (other : same_kind Nullification kind ≡ false) where
  open_by_effect : (moment : ℕ) (e : Effect) (xs : List Fetch)
      → is_fetch_open kind view (after_effect moment e xs) ≡ true → is_fetch_open kind view xs ≡ true
  open_by_effect moment (effect.Fetch v cause reason) xs is =
      elim (open_once kind view Nullification v 0 moment xs is) [
        | inl before ↦ before
        | inr now ↦ absurd (false≢true (sym other ∙ ap (same_kind Nullification) (sym now.0)))
      ]
  open_by_effect moment (effect.Settled of start end) xs is = open_among kind view _ xs is
  open_by_effect moment (effect.Finalized v) xs is = open_among kind view _ xs is
  open_by_effect moment (effect.Raised v) xs is = open_among kind view _ xs is

  open_by_effects : (moment : ℕ) (es : List Effect) (xs : List Fetch)
      → is_fetch_open kind view (after_effects moment es xs) ≡ true → is_fetch_open kind view xs ≡ true
  open_by_effects moment [] xs is = is
  open_by_effects moment (e ∷ es) xs is = open_by_effect moment e xs
      (open_by_effects moment es (after_effect moment e xs) is)

-- the effects are carried out
pub opens_after : (moment : ℕ) (old new : List ℕ) (es : List Effect) (xs : List Fetch) → IsApplied old es new
    → OpensNoOther old xs new (after_effects moment es xs)
opens_after moment old new es xs applied Notarization v is unwanted =
    (open_by_effects Notarization v refl moment es xs is, refl)
opens_after moment old new es xs applied Decision v is unwanted =
    (open_by_effects Decision v refl moment es xs is, refl)
opens_after moment old new es xs applied Nullification v is unwanted =
    by_parts (is_fetch_open Nullification v xs) (has old v) (not (list_any (settles v) es)) (is_outstanding es v)
    (sym (effects_are v moment es xs) ∙ is) (sym (applied v) ∙ unwanted)
  where
    by_parts : (before was left out : Bool) → ((before && left) || out) ≡ true → ((was && left) || out) ≡ false
        → (before ≡ true) × (was ≡ false)
    by_parts true false left out is not_now = (refl, refl)
    by_parts true true true out is not_now = absurd (false≢true (sym not_now))
    by_parts true true false true is not_now = absurd (false≢true (sym not_now))
    by_parts true true false false is not_now = absurd (false≢true is)
    by_parts false was left true is not_now = absurd (or_left_true was left not_now)
      where
        or_left_true : (a b : Bool) → ((a && b) || true) ≡ false → ⊥
        or_left_true true true e = false≢true (sym e)
        or_left_true true false e = false≢true (sym e)
        or_left_true false b e = false≢true (sym e)
    by_parts false was left false is not_now = absurd (false≢true is)

module _ (wanted : List ℕ) (xs : List Fetch) where
  -- some are closed
  pub opens_left : (p : Fetch → Bool) → OpensNoOther wanted xs wanted (filter p xs)
  opens_left p kind view is unwanted = (open_among kind view p xs is, unwanted)

  pub opens_still : OpensNoOther wanted xs wanted xs
  opens_still kind view is unwanted = (is, unwanted)

pub opens_further : (a b c : List ℕ) (xs ys zs : List Fetch) → OpensNoOther a xs b ys → OpensNoOther b ys c zs
    → OpensNoOther a xs c zs
opens_further a b c xs ys zs first second kind view is unwanted =
    (let between = second kind view is unwanted in first kind view between.0 between.1)

-- one is asked for
pub open_asked : (now : ℕ) (old new : Fetches) (ask : Option Ask) → IsAsking now old ask new
    → (kind : FetchKind) (view : ℕ)
    → is_fetch_open kind view new.wanted.items ≡ is_fetch_open kind view old.wanted.items
open_asked now old new ask asking kind view = by_place (due_at now old.wanted.items) asking
  where
    by_place : (at : Option ℕ)
        → MatchOption at ((ask ≡ None) × (new ≡ old))
        (λ place. (fetch : Fetch) × (slice_get old.wanted.items place ≡ Some fetch)
        × (ask ≡ Some (ask_of old fetch))
        × (new.wanted.items ≡ slice_set old.wanted.items place (asked_again now old.retry fetch))
        × (new.peers ≡ old.peers) × (new.retry ≡ old.retry))
        → is_fetch_open kind view new.wanted.items ≡ is_fetch_open kind view old.wanted.items
    by_place None (_, same) = ap (λ (fetches : Fetches). is_fetch_open kind view fetches.wanted.items) same
    by_place (Some place) (fetch, at, _, items, _, _) =
        ap (is_fetch_open kind view) items
        ∙ open_again (asked_again now old.retry fetch) kind view old.wanted.items place fetch
        (subst (λ f. (fetch.kind ≡ f.kind) × (fetch.view ≡ f.view))
        (sym (get_or_from_slice_get old.wanted.items place fetch fetch at)) (refl, refl))

-- notarizations that certifications wait for
pub open_fetching : (now : ℕ) (kind : FetchKind) (view : ℕ) (wanted : List CertificateFetch) (xs : List Fetch)
    → is_fetch_open kind view (fetching now wanted xs) ≡ true
    → (is_fetch_open kind view xs ≡ true)
    ⊎ ((kind ≡ Notarization) × (list_any (λ (it : CertificateFetch). it.view == view) wanted ≡ true))
open_fetching now kind view [] xs is = inl is
open_fetching now kind view (one ∷ rest) xs is =
    elim (open_fetching now kind view rest (opened Notarization one.view 0 now xs) is) [
      | inr later ↦ inr (later.0, or_right (one.view == view) _ later.1)
      | inl so_far ↦ (elim (open_once kind view Notarization one.view 0 now xs so_far) [
        | inl before ↦ inl before
        | inr this ↦ inr (sym this.0, or_left (one.view == view) _ (eq-eqb one.view view this.1))
      ])
    ]

-- what a resolver has open from the begin
pub open_wanting : (kind : FetchKind) (view : ℕ) (views : List ℕ) (xs : List Fetch)
    → is_fetch_open kind view (wanting views xs) ≡ true
    → (is_fetch_open kind view xs ≡ true) ⊎ (wants views kind view ≡ true)
open_wanting kind view [] xs is = inl is
open_wanting kind view (v ∷ views) xs is = elim (open_wanting kind view views (opened Nullification v 0 0 xs) is) [
  | inr later ↦ (let both = parts (same_kind kind Nullification) (has views view) later in
      inr (ap (λ b. b && ((view == v) || has views view)) both.0 ∙ or_right (view == v) (has views view) both.1))
  | inl so_far ↦ (elim (open_once kind view Nullification v 0 0 xs so_far) [
    | inl before ↦ inl before
    | inr this ↦ inr (ap (λ k. same_kind k Nullification && ((view == v) || has views view)) (sym this.0)
        ∙ or_left (view == v) (has views view) (eq-eqb view v (sym this.1)))
  ])
]
