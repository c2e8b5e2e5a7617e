-- Which fetches are open: the effects in order, against what was received.
use Rattle.std.specs.Prelude.{◌≡◌, ℕ, ◌<◌, Bool, true, false, ◌&&◌, ◌||◌, not, ◌==◌, nat_le, List, [], ◌∷◌, ◌++◌}
use Rattle.std.specs.List.{list_any, AllByRecursion}
use Rattle.simplex_types.specs.declared.reasons.Kind.TheVariants.{Nullification as OfNullification}
use Rattle.simplex_resolver.specs.declared.resolver.effect.Effect.{Effect}
use Rattle.simplex_resolver.specs.declared.resolver.effect.Effect.TheVariants.{Fetch, Settled, Finalized, Raised}
use Rattle.simplex_resolver.specs.Facts.{ResolverFacts, empty}
use Rattle.simplex_resolver.specs.Steps.{Call, after, effects}
use Rattle.simplex_resolver.specs.ReceivedFacts.{is_replayed, are_alike, NamesAView, is_needed}

-- ---- the effects

-- the effect opens a fetch of the view
abbrev pub fetches : ℕ → Effect → Bool
fetches v (Fetch u cause reason) = v == u
fetches v effect = false

-- the effect ends the fetch of v
abbrev pub settles : ℕ → Effect → Bool
settles v (Settled OfNullification start end) = nat_le start v && nat_le v end
settles v (Finalized u) = nat_le v u
settles v (Raised u) = nat_le v u
settles v effect = false

-- some fetch of v is followed by nothing that settles v
abbrev pub is_outstanding : List Effect → ℕ → Bool
is_outstanding [] v = false
is_outstanding (e ∷ es) v = (fetches v e && not (list_any (settles v) es)) || is_outstanding es v

-- whether a list has a view
abbrev pub has : List ℕ → ℕ → Bool
has vs v = list_any (λ u. v == u) vs

-- the effects, in order, lead from one set of views to another
abbrev pub IsApplied : List ℕ → List Effect → List ℕ → Type 0
IsApplied old es new = (v : ℕ) → has new v ≡ ((has old v && not (list_any (settles v) es)) || is_outstanding es v)

-- the set holds the outstanding views of the effects
abbrev pub IsOutstandingSet : List ℕ → List Effect → Type 0
IsOutstandingSet vs es = (v : ℕ) → has vs v ≡ is_outstanding es v

-- the set of the outstanding views after some effects becomes that of these followed by the new ones
abbrev pub KeepsOutstanding : List ℕ → List Effect → List ℕ → Type 0
KeepsOutstanding old es new =
    (earlier : List Effect) → IsOutstandingSet old earlier → IsOutstandingSet new (earlier ++ es)

-- ---- runs, the last call first

-- the facts after a list of calls, the latest first
abbrev pub facts_of : ℕ → List Call → ResolverFacts
facts_of t [] = empty t
facts_of t (call ∷ earlier) = after (facts_of t earlier) call

-- all effects of these, in order
abbrev pub effects_of : ℕ → List Call → List Effect
effects_of t [] = []
effects_of t (call ∷ earlier) = effects_of t earlier ++ effects (facts_of t earlier) call

-- once it was replayed, a resolver's outstanding fetches are exactly the views that it needs
abbrev pub OutstandingIsNeeded : Type 0
OutstandingIsNeeded =
    (t : ℕ) (calls : List Call) → 0 < t → AllByRecursion NamesAView calls
    → list_any is_replayed calls ≡ true
    → (v : ℕ) → is_outstanding (effects_of t calls) v ≡ is_needed t calls v

-- a certificate opens no fetch if one of its kind and view was passed in before, with these signers or with
-- others
abbrev pub RecordedAgainFetchesNothing : Type 0
RecordedAgainFetchesNothing =
    (t : ℕ) (calls : List Call) (c : Call) → 0 < t → AllByRecursion NamesAView calls
    → list_any (are_alike c) calls ≡ true
    → (v : ℕ) → list_any (fetches v) (effects (facts_of t calls) c) ≡ false
