-- The results of a resolver from its stored certificates.
use Rattle.std.specs.Prelude.{ℕ, Bool, ◌||◌, nat_le, if◌then◌else◌, List, Option, None, Some, is_some}
use Rattle.std.specs.Option.{option_and_then}
use Rattle.std.specs.FinMap as map
use Rattle.simplex_types.specs.declared.reasons.Kind.{Kind}
use Rattle.simplex_types.specs.declared.reasons.Kind.TheVariants.{Nullification as OfNullification, Notarization as OfNotarization}
use Rattle.simplex_view_maps.specs.ByTerm.{has_covering}
use Rattle.simplex_resolver.specs.Facts.{ResolverFacts, last_finalized, covering_encoding, certified_encoding}

-- nothing of the kind must be fetched at v any more
abbrev pub is_settled : ResolverFacts → ℕ → Kind → Bool
is_settled x v OfNullification = nat_le v (last_finalized x) || has_covering x.nullifications v
is_settled x v OfNotarization = nat_le v (last_finalized x) || map.contains_key x.notarizations v

-- the first, if there is one, else the second
abbrev pub or_else : {A : Type 0} → Option A → Option A → Option A
or_else o p = if is_some o then o else p

-- the highest finalization, if v is at or below it
abbrev pub finalized_for : ResolverFacts → ℕ → Option (List ℕ)
finalized_for x v = option_and_then (λ f. if nat_le v f.0 then Some f.1 else None) x.finalization

-- the certified notarization at the floor, if v is at or below it
abbrev pub floor_for : ResolverFacts → ℕ → Option (List ℕ)
floor_for x v = if nat_le v x.floor then certified_encoding x.notarizations x.floor else None

-- the encoding that is served for v
abbrev pub served_encoding : ResolverFacts → ℕ → Option (List ℕ)
served_encoding x v =
    or_else (finalized_for x v)
    (or_else (certified_encoding x.notarizations v)
    (or_else (covering_encoding x.nullifications v) (floor_for x v)))
