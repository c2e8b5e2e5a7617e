-- What is asked for once effects are carried out, and fetches are opened, closed or asked for: no wanted view is left
-- out.
use Rattle.std.proofs.Common.{◌≡◌, ℕ, ◌≤◌, ◌<◌, Bool, true, false, ◌+◌, cond, eqb, not, ◌&&◌, ◌||◌, List, [], ◌∷◌, ◌++◌, length, get_or, drop, filter, refl, ap, sym, ◌∙◌, arith}
use Rattle.std.specs.Prelude.{nat_le, nat_lt, is_some}
use Rattle.std.specs.List.{list_any}
use Rattle.std.proofs.lemmas.Bool.{false≢true, eqb-true, ltb-true, lt-ltb}
use Rattle.std.proofs.lemmas.Bool.Decides.{nat_tests}
use Rattle.std.proofs.lemmas.List.Elements.{filter_passes}
use Rattle.std.proofs.lemmas.List.{at_drop_more}
use Rattle.std.specs.Ordering.{nat_cmp}
use Rattle.std.specs.BTreeMap.{is_at}
use Rattle.simplex_view_maps.proofs.Maps.{is_eq-nat_cmp}
use Rattle.simplex_types.specs.declared.reasons.Kind.TheVariants as kind
use Rattle.simplex_resolver.specs.Repair.{fetches, settles, has, is_outstanding, IsApplied}
use Rattle.simplex_resolver.specs.declared.resolver.effect.Effect.{Effect}
use Rattle.simplex_resolver.specs.declared.resolver.effect.Effect.TheVariants as effect
use Rattle.simplex_voter.specs.declared.voter.candidates.CertificateFetch.{CertificateFetch}
use Rattle.simplex_voter.specs.Facts.{StateFacts}
use Rattle.simplex_voter.specs.StateAnswers.{nullification_of}
use Rattle.engine_fetches.specs.declared.fetches.Fetch.{Fetch}
use Rattle.engine_fetches.specs.declared.fetches.FetchKind.{FetchKind}
use Rattle.engine_fetches.specs.declared.fetches.FetchKind.TheVariants.{Notarization, Nullification, Decision}
use Rattle.engine_fetches.specs.Fetches.{same_kind, is_of, is_within, is_fetch_open, fresh, opened, closed, passed}
use Rattle.engine_fetches.specs.OutstandingFetches.{after_effect, after_effects, fetching, wanting, FetchesTheOutstanding, holds, is_held, is_missing, FetchesTheMissing}

or_none : (b : Bool) → (b || false) ≡ b
or_none true = refl
or_none false = refl

and_all : (b : Bool) → (b && true) ≡ b
and_all true = refl
and_all false = refl

and_none : (b : Bool) → (b && false) ≡ false
and_none true = refl
and_none false = refl

or_joined : (a b c : Bool) → (a || (b || c)) ≡ ((a || b) || c)
or_joined true b c = refl
or_joined false b c = refl

both_are : (a b : Bool) → (a && b) ≡ true → (a ≡ true) × (b ≡ true)
both_are true b is = (refl, is)
both_are false b is = absurd (false≢true is)

is_false : (b : Bool) → not b ≡ true → b ≡ false
is_false false is = refl
is_false true is = absurd (false≢true is)

views_alike : (v w : ℕ) → eqb v w ≡ eqb w v
views_alike v w = grind (arith, nat_tests)

-- a nullification is no notarization
no_notarization : (k : FetchKind) → same_kind k Nullification ≡ true → same_kind k Notarization ≡ false
no_notarization Notarization is = absurd (false≢true is)
no_notarization Nullification is = refl
no_notarization Decision is = absurd (false≢true is)

a_nullification : (k : FetchKind) → same_kind k Nullification ≡ true → k ≡ Nullification
a_nullification Notarization is = absurd (false≢true is)
a_nullification Nullification is = refl
a_nullification Decision is = absurd (false≢true is)

-- one more

pub open_more : (kind : FetchKind) (view : ℕ) (xs : List Fetch) (more : Fetch)
    → is_fetch_open kind view (xs ++ more ∷ []) ≡ (is_fetch_open kind view xs || is_of kind view more)
open_more kind view [] more = or_none (is_of kind view more)
open_more kind view (x ∷ xs) more =
    ap (λ b. is_of kind view x || b) (open_more kind view xs more)
    ∙ or_joined (is_of kind view x) (is_fetch_open kind view xs) (is_of kind view more)

-- one that is opened is open
pub open_now : (v view moment : ℕ) (xs : List Fetch)
    → is_fetch_open Nullification v (opened Nullification view 0 moment xs)
    ≡ (is_fetch_open Nullification v xs || eqb v view)
open_now v view moment xs = by_test (is_fetch_open Nullification view xs) refl
  where
    more : List Fetch
    more = xs ++ fresh Nullification view 0 moment ∷ []

    known : (t : Bool) → eqb v view ≡ t → is_fetch_open Nullification view xs ≡ true
        → is_fetch_open Nullification v xs ≡ (is_fetch_open Nullification v xs || t)
    known true same is = let here = ap (λ w. is_fetch_open Nullification w xs) (eqb-true v view same) ∙ is in
        here ∙ ap (λ b. b || true) (sym here)
    known false same is = sym (or_none (is_fetch_open Nullification v xs))

    by_test : (t : Bool) → is_fetch_open Nullification view xs ≡ t
        → is_fetch_open Nullification v (cond t xs more) ≡ (is_fetch_open Nullification v xs || eqb v view)
    by_test true is = known (eqb v view) refl is
    by_test false is =
        open_more Nullification v xs (fresh Nullification view 0 moment)
        ∙ ap (λ b. is_fetch_open Nullification v xs || b) (views_alike view v)

-- what was open is
pub open_still : (v : ℕ) (kind : FetchKind) (view first moment : ℕ) (xs : List Fetch)
    → is_fetch_open Nullification v xs ≡ true → is_fetch_open Nullification v (opened kind view first moment xs) ≡ true
open_still v kind view first moment xs is = by_test (is_fetch_open kind view xs)
  where
    by_test : (t : Bool) → is_fetch_open Nullification v (cond t xs (xs ++ fresh kind view first moment ∷ [])) ≡ true
    by_test true = is
    by_test false =
        open_more Nullification v xs (fresh kind view first moment)
        ∙ ap (λ b. b || is_of Nullification v (fresh kind view first moment)) is

-- some fewer

module _ (p : Fetch → Bool) (kind : FetchKind) (view : ℕ) (keep : Bool)
    (each : (x : Fetch) → is_of kind view x ≡ true → p x ≡ keep) where
  kept_one : (a b left : Bool) → left ≡ (b && keep) → (a ≡ true → true ≡ keep) → (a || left) ≡ ((a || b) && keep)
  kept_one false b left is one = is
  kept_one true b left is one = one refl

  left_out : (a b left : Bool) → left ≡ (b && keep) → (a ≡ true → false ≡ keep) → left ≡ ((a || b) && keep)
  left_out false b left is one = is
  left_out true b left is one = is ∙ ap (λ k. b && k) (sym (one refl)) ∙ and_none b ∙ one refl

  -- those of a kind and view all stay or all go
  open_kept : (xs : List Fetch) → is_fetch_open kind view (filter p xs) ≡ (is_fetch_open kind view xs && keep)
  open_kept [] = refl
  open_kept (x ∷ xs) = by_test (open_kept xs) (p x) refl
    where
      by_test : is_fetch_open kind view (filter p xs) ≡ (is_fetch_open kind view xs && keep) → (t : Bool) → p x ≡ t
          → is_fetch_open kind view (cond t (x ∷ filter p xs) (filter p xs))
          ≡ (is_fetch_open kind view (x ∷ xs) && keep)
      by_test rest true is = kept_one (is_of kind view x) (is_fetch_open kind view xs)
          (is_fetch_open kind view (filter p xs)) rest (λ e. sym is ∙ each x e)
      by_test rest false is = left_out (is_of kind view x) (is_fetch_open kind view xs)
          (is_fetch_open kind view (filter p xs)) rest (λ e. sym is ∙ each x e)

module _ (v : ℕ) (x : Fetch) (is : is_of Nullification v x ≡ true) where
  kind_is : same_kind x.kind Nullification ≡ true
  kind_is = (both_are (same_kind x.kind Nullification) (eqb x.view v) is).0

  view_is : x.view ≡ v
  view_is = eqb-true x.view v (both_are (same_kind x.kind Nullification) (eqb x.view v) is).1

  no_notarization_within : (first last : ℕ) → not (is_within Notarization first last x) ≡ true
  no_notarization_within first last = ap (λ b. not ((b && nat_le first x.view) && nat_le x.view last))
      (no_notarization x.kind kind_is)

  no_notarization_of : (view : ℕ) → not (is_of Notarization view x) ≡ true
  no_notarization_of view = ap (λ b. not (b && eqb x.view view)) (no_notarization x.kind kind_is)

  nullification_within : (first last : ℕ) → not (is_within Nullification first last x) ≡ not
      (nat_le first v && nat_le v last)
  nullification_within first last =
      ap (λ b. not ((b && nat_le first x.view) && nat_le x.view last)) kind_is
      ∙ ap (λ w. not (nat_le first w && nat_le w last)) view_is

  above : (finalized : ℕ) → nat_lt finalized x.view ≡ not (nat_le v finalized)
  above finalized = ap (λ w. nat_lt finalized w) view_is ∙ lower finalized v
    where
      lower : (a b : ℕ) → nat_lt a b ≡ not (nat_le b a)
      lower a b = grind (arith, nat_tests)

from_zero : (v : ℕ) → nat_le 0 v ≡ true
from_zero v = grind (arith, nat_tests)

-- effects

one_of : (o f : Bool) → (o || f) ≡ ((o && true) || f)
one_of o f = ap (λ b. b || f) (sym (and_all o))

none_of : (o s : Bool) → (o && not s) ≡ ((o && not s) || false)
none_of o s = sym (or_none (o && not s))

effect_is : (v moment : ℕ) (e : Effect) (xs : List Fetch)
    → is_fetch_open Nullification v (after_effect moment e xs)
    ≡ ((is_fetch_open Nullification v xs && not (settles v e)) || fetches v e)
effect_is v moment (effect.Fetch view cause reason) xs = open_now v view moment xs
    ∙ one_of (is_fetch_open Nullification v xs) (eqb v view)
effect_is v moment (effect.Settled kind.Notarization start end) xs =
    open_kept (λ x. not (is_within Notarization start end x)) Nullification v true
    (λ x is. no_notarization_within v x is start end) xs ∙ none_of (is_fetch_open Nullification v xs) false
effect_is v moment (effect.Settled kind.Nullification start end) xs =
    open_kept (λ x. not (is_within Nullification start end x)) Nullification v (not (nat_le start v && nat_le v end))
    (λ x is. nullification_within v x is start end) xs
    ∙ none_of (is_fetch_open Nullification v xs) (nat_le start v && nat_le v end)
effect_is v moment (effect.Finalized view) xs =
    open_kept (λ x. nat_lt view x.view) Nullification v (not (nat_le v view)) (λ x is. above v x is view) xs
    ∙ none_of (is_fetch_open Nullification v xs) (nat_le v view)
effect_is v moment (effect.Raised view) xs =
    open_kept (λ x. not (is_within Nullification 0 view x)) Nullification v (not (nat_le v view))
    (λ x is. nullification_within v x is 0 view ∙ ap (λ b. not (b && nat_le v view)) (from_zero v)) xs
    ∙ none_of (is_fetch_open Nullification v xs) (nat_le v view)

joined : (o s f t out : Bool) → ((((o && not s) || f) && not t) || out) ≡ ((o && not (s || t)) || ((f && not t) || out))
joined false s f t out = refl
joined true true f t out = refl
joined true false true true out = refl
joined true false false true out = refl
joined true false f false out = refl

-- what they leave open: what was and is settled by none, and what was fetched and not settled after that
pub effects_are : (v moment : ℕ) (es : List Effect) (xs : List Fetch)
    → is_fetch_open Nullification v (after_effects moment es xs)
    ≡ ((is_fetch_open Nullification v xs && not (list_any (settles v) es)) || is_outstanding es v)
effects_are v moment [] xs =
    sym (or_none (is_fetch_open Nullification v xs && true) ∙ and_all (is_fetch_open Nullification v xs))
effects_are v moment (e ∷ es) xs =
    effects_are v moment es (after_effect moment e xs)
    ∙ ap (λ o. (o && not (list_any (settles v) es)) || is_outstanding es v) (effect_is v moment e xs)
    ∙ joined (is_fetch_open Nullification v xs) (settles v e) (fetches v e) (list_any (settles v) es)
    (is_outstanding es v)

follows : (h o n out : Bool) → (h ≡ true → o ≡ true) → ((h && n) || out) ≡ true → ((o && n) || out) ≡ true
follows true o n out asked is = ap (λ b. (b && n) || out) (asked refl) ∙ is
follows false true true out asked is = refl
follows false true false out asked is = is
follows false false n out asked is = is

-- that none is left out

-- once the effects are carried out
pub asks_after : (finalized moment : ℕ) (old new : List ℕ) (es : List Effect) (xs : List Fetch)
    → IsApplied old es new → FetchesTheOutstanding finalized old xs
    → FetchesTheOutstanding finalized new (after_effects moment es xs)
asks_after finalized moment old new es xs applied asks v is high =
    effects_are v moment es xs
    ∙ follows (has old v) (is_fetch_open Nullification v xs) (not (list_any (settles v) es)) (is_outstanding es v)
    (λ was. asks v was high) (sym (applied v) ∙ is)

module _ (finalized : ℕ) (wanted : List ℕ) (xs : List Fetch) (asks : FetchesTheOutstanding finalized wanted xs) where
  -- once one is opened
  pub asks_opened : (kind : FetchKind) (view first moment : ℕ)
      → FetchesTheOutstanding finalized wanted (opened kind view first moment xs)
  asks_opened kind view first moment v is high = open_still v kind view first moment xs (asks v is high)

  -- once a notarization came
  pub asks_notarized : (view : ℕ) → FetchesTheOutstanding finalized wanted (closed Notarization view xs)
  asks_notarized view v is high =
      open_kept (λ x. not (is_of Notarization view x)) Nullification v true (λ x of. no_notarization_of v x of view) xs
      ∙ and_all (is_fetch_open Nullification v xs) ∙ asks v is high

  -- once a view is final: above each higher one
  pub asks_passed : (later higher : ℕ) → finalized ≤ higher → later ≤ higher
      → FetchesTheOutstanding higher wanted (passed later xs)
  asks_passed later higher before up v is high =
      open_kept (λ x. nat_lt later x.view) Nullification v true
      (λ x of. ap (λ w. nat_lt later w) (view_is v x of) ∙ lt-ltb later v (omega (arith, up, high))) xs
      ∙ and_all (is_fetch_open Nullification v xs) ∙ asks v is (omega (arith, before, high))

  -- once those are closed that are not missing
  pub asks_lacking : {K L D : Type 0} (x : StateFacts K L D) → finalized ≤ x.finalized
      → FetchesTheMissing wanted x (filter (is_missing wanted x) xs)
  asks_lacking x before = record {
    ahead = λ k d within. ltb-true x.finalized _ (both_are _ _ (filter_passes (is_missing wanted x) xs k d within)).0;
    lacking = λ k d within. is_false _ (both_are _ _ (filter_passes (is_missing wanted x) xs k d within)).1;
    wanted_all = λ v is high.
        open_kept (is_missing wanted x) Nullification v true
        (λ f of.
        ap (λ w. nat_lt x.finalized w && not (is_held wanted x f)) (view_is v f of)
        ∙ ap (λ b. b && not (is_held wanted x f)) (lt-ltb x.finalized v high)
        ∙ ap not (not_held v f of is)) xs
        ∙ and_all (is_fetch_open Nullification v xs) ∙ asks v is (omega (arith, before, high));
  }
    where
      not_held : (v : ℕ) (f : Fetch) → is_of Nullification v f ≡ true → has wanted v ≡ true → is_held wanted x f ≡ false
      not_held v f of is =
          ap (λ k. holds wanted x k f.view) (a_nullification f.kind (kind_is v f of))
          ∙ ap (λ w. holds wanted x Nullification w) (view_is v f of)
          ∙ ap (λ b. not b && is_some (nullification_of x v)) is

-- views that are opened

-- one is
opened_so_far : (v view moment : ℕ) (views : List ℕ) (xs : List Fetch)
    → (has (view ∷ views) v || is_fetch_open Nullification v xs) ≡ true
    → (has views v || is_fetch_open Nullification v (opened Nullification view 0 moment xs)) ≡ true
opened_so_far v view moment views xs is =
    ap (λ b. has views v || b) (open_now v view moment xs)
    ∙ turned (eqb v view) (has views v) (is_fetch_open Nullification v xs) is
  where
    turned : (here rest asked : Bool) → ((here || rest) || asked) ≡ true → (rest || (asked || here)) ≡ true
    turned here true asked is = refl
    turned true false true is = refl
    turned true false false is = refl
    turned false false true is = refl
    turned false false false is = is

-- each of them is asked for
pub asks_wanting : (views : List ℕ) (xs : List Fetch) (v : ℕ) → (has views v || is_fetch_open Nullification v xs) ≡ true
    → is_fetch_open Nullification v (wanting views xs) ≡ true
asks_wanting [] xs v is = is
asks_wanting (view ∷ views) xs v is = asks_wanting views (opened Nullification view 0 0 xs) v
    (opened_so_far v view 0 views xs is)

-- whether a view is among others, by its order
pub has_by_order : (v : ℕ) (views : List ℕ) → list_any (is_at (nat_cmp v)) views ≡ has views v
has_by_order v [] = refl
has_by_order v (w ∷ ws) = ap (λ b. b || list_any (is_at (nat_cmp v)) ws) (is_eq-nat_cmp v w)
    ∙ ap (λ b. eqb v w || b) (has_by_order v ws)

-- what is left to be done, once one more is

-- an effect is carried out
pub effects_more : (moment : ℕ) (es : List Effect) (i : ℕ) (e : Effect) (xs ys : List Fetch) → i < length es
    → e ≡ get_or es i e → ys ≡ after_effect moment e xs
    → after_effects moment (drop (i + 1) es) ys ≡ after_effects moment (drop i es) xs
effects_more moment es i e xs ys within is made =
    ap (after_effects moment (drop (i + 1) es)) made
    ∙ sym (at_drop_more (λ rest. after_effects moment rest xs) es i e within
    ∙ ap (λ f. after_effects moment (f ∷ drop (i + 1) es) xs) (sym is))

-- a notarization is asked for
pub fetching_more : (now : ℕ) (all : List CertificateFetch) (i : ℕ) (one : CertificateFetch) (xs ys : List Fetch)
    → i < length all → one ≡ get_or all i one
    → ys ≡ opened Notarization one.view 0 now xs → fetching now (drop (i + 1) all) ys ≡ fetching now (drop i all) xs
fetching_more now all i one xs ys within is made =
    ap (fetching now (drop (i + 1) all)) made
    ∙ sym (at_drop_more (λ rest. fetching now rest xs) all i one within
    ∙ ap (λ f. fetching now (f ∷ drop (i + 1) all) xs) (sym is))
