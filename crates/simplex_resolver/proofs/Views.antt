-- Lists of views and of effects, read by their tests.
use Rattle.std.proofs.Common.{◌≡◌, ℕ, ◌+◌, Bool, true, false, ◌&&◌, ◌||◌, not, ◌==◌, nat_lt, nat_le, cond, List, [], ◌∷◌, ◌++◌, map, filter, refl, sym, ◌∙◌, ap, arith, zero, suc}
use Rattle.std.specs.Ordering.{nat_cmp, match_ordering}
use Rattle.std.specs.declared.cmp.Ordering.TheVariants.{Less, Equal, Greater}
use Rattle.std.specs.BTreeSet.{insert_key}
use Rattle.std.specs.List.{list_any, range_with_len}
use Rattle.std.proofs.lemmas.Bool.Decides.{nat_tests}
use Rattle.std.proofs.lemmas.List.Folds.{list_any-append}
use Rattle.simplex_types.specs.declared.reasons.FetchReason.{FetchReason}
use Rattle.simplex_resolver.specs.declared.resolver.effect.Effect.{Effect}
use Rattle.simplex_resolver.specs.declared.resolver.effect.Effect.TheVariants.{Fetch}
use Rattle.simplex_resolver.specs.Repair.{has, fetches, settles, is_outstanding, IsApplied, KeepsOutstanding}

-- one step of a filter, and one of an insertion, read by a test
pub any-cond : {A : Type 0} (q : A → Bool) (b : Bool) (x : A) (rest : List A)
    → list_any q (cond b (x ∷ rest) rest) ≡ ((b && q x) || list_any q rest)
any-cond q true x rest = refl
any-cond q false x rest = refl

any-ordering : {A : Type 0} (q : A → Bool) (b c : Bool) (less equal greater : List A)
    → list_any q (match_ordering (cond b Less (cond c Equal Greater)) less equal greater) ≡ cond b (list_any q less)
    (cond c (list_any q equal) (list_any q greater))
any-ordering q true c less equal greater = refl
any-ordering q false true less equal greater = refl
any-ordering q false false less equal greater = refl

-- the numbers of a list that pass a filter
pub has-filter : (p : ℕ → Bool) (us : List ℕ) (v : ℕ) → has (filter p us) v ≡ (p v && has us v)
has-filter p [] v = grind arith
has-filter p (u ∷ us) v =
    let step = any-cond (λ w. v == w) (p u) u (filter p us) in
    let rest = has-filter p us v in grind (arith, nat_tests, step, rest)

pub has-range : (first n v : ℕ) → has (range_with_len first n) v ≡ (nat_le first v && nat_lt v (first + n))
has-range first zero v = grind (arith, nat_tests)
has-range first (suc n) v = let rest = has-range (first + 1) n v in grind (arith, nat_tests)

pub has-insert_key : (us : List ℕ) (u v : ℕ) → has (insert_key nat_cmp us u) v ≡ (v == u || has us v)
has-insert_key [] u v = refl
has-insert_key (x ∷ us) u v =
    let step = any-ordering (λ w. v == w) (nat_lt u x) (u == x) (u ∷ x ∷ us) (x ∷ us) (x ∷ insert_key nat_cmp us u) in
    let rest = has-insert_key us u v in grind (arith, nat_tests, step, rest)

pub settles-map : (cause : ℕ → ℕ) (reason : FetchReason) (us : List ℕ) (v : ℕ)
    → list_any (settles v) (map (λ u. Fetch u (cause u) reason) us) ≡ false
settles-map cause reason [] v = refl
settles-map cause reason (u ∷ us) v = settles-map cause reason us v

pub fetches-map : (cause : ℕ → ℕ) (reason : FetchReason) (us : List ℕ) (v : ℕ)
    → is_outstanding (map (λ u. Fetch u (cause u) reason) us) v ≡ has us v
fetches-map cause reason [] v = refl
fetches-map cause reason (u ∷ us) v =
    let none = settles-map cause reason us v in
    let rest = fetches-map cause reason us v in grind (arith, nat_tests, none, rest)

pub is_outstanding-append : (es fs : List Effect) (v : ℕ)
    → is_outstanding (es ++ fs) v ≡ ((is_outstanding es v && not (list_any (settles v) fs)) || is_outstanding fs v)
is_outstanding-append [] fs v = refl
is_outstanding-append (e ∷ es) fs v =
    let rest = is_outstanding-append es fs v in
    let any = list_any-append (settles v) es fs in grind (arith, rest, any)

-- one effect more, applied to a set
pub applied-next : (first : Bool) (before : Bool) (after : Bool) (es : List Effect) (e : Effect) (v : ℕ)
    → before ≡ ((first && not (list_any (settles v) es)) || is_outstanding es v)
    → after ≡ (fetches v e || (before && not (settles v e)))
    → after ≡ ((first && not (list_any (settles v) (es ++ e ∷ []))) || is_outstanding (es ++ e ∷ []) v)
applied-next first before after es e v so_far next =
    let outstanding = is_outstanding-append es (e ∷ []) v in
    let any = list_any-append (settles v) es (e ∷ []) in grind (arith, so_far, next, outstanding, any)

-- effects that are applied to what is outstanding after earlier ones
pub keeps_outstanding : (old new : List ℕ) (es : List Effect) → IsApplied old es new → KeepsOutstanding old es new
keeps_outstanding old new es applied earlier was v =
    applied v ∙ ap (λ b. (b && not (list_any (settles v) es)) || is_outstanding es v) (was v)
    ∙ sym (is_outstanding-append earlier es v)
