-- The facts of a resolver, as its contracts see it.
use Rattle.std.specs.Prelude.{ℕ, ◌+◌, ◌-◌, Bool, true, false, ◌&&◌, ◌||◌, not, ◌==◌, nat_lt, if◌then◌else◌, List, Option, None, filter, refl}
use Rattle.std.specs.List.{range_with_len}
use Rattle.std.specs.Option.{option_map, option_map_or, option_and_then}
use Rattle.std.specs.Ordering.{nat_cmp}
use Rattle.std.specs.Coded.{Coded, code_by, coded×, coded_ℕ, coded_bool, coded_list, coded_option}
use base.Stored.{coded_unit}
use Rattle.std.specs.FinMap as map
use Rattle.std.specs.FinMap.{FinMap}
use Rattle.simplex_types.specs.Terms.{term_start, next_term_start}
use Rattle.simplex_view_maps.specs.ByTerm.{ByTermFacts, by_term_code, has_covering}
use Rattle.simplex_view_maps.specs.ByTerm as by_term

-- all that a resolver's later results and effects depend on
pub record ResolverFacts : Type 0 where
  pub current : ℕ  -- the highest view of a certificate
  pub floor : ℕ  -- the highest view of a finalization or a true verdict
  pub scanned : ℕ  -- scans have passed the anchors below this view
  pub finalization : Option (ℕ × List ℕ)  -- the highest one's view and encoding
  pub nullifications : ByTermFacts (List ℕ)  -- their encodings, in the terms that end above the last finalized view
  -- views above the last finalized one that are notarized or judged, each with its encoding if the last verdict
  -- was true
  pub notarizations : FinMap nat_cmp (Option (List ℕ))
  pub uncertifiable : FinMap nat_cmp (Unit {0})  -- views above the last finalized one with a false verdict
  pub replaying : Bool
  pub is_failed : Bool

-- a resolver that has received nothing
abbrev pub empty : ℕ → ResolverFacts
empty t = record {
  current = 0;
  floor = 0;
  scanned = 0;
  finalization = None;
  nullifications = record { term_length = t; by_view = map.empty };
  notarizations = map.empty;
  uncertifiable = map.empty;
  replaying = true;
  is_failed = false;
}

-- how many views a term has
abbrev pub term_length : ResolverFacts → ℕ
term_length x = x.nullifications.term_length

-- the highest finalized view, or 0
abbrev pub last_finalized : ResolverFacts → ℕ
last_finalized x = option_map_or (λ f. f.0) x.finalization 0

-- the encoding of the nullification of the highest view that covers v
abbrev pub covering_encoding : ByTermFacts (List ℕ) → ℕ → Option (List ℕ)
covering_encoding m v = option_map (λ e. e.1) (by_term.covering m v)

-- the encoding of the notarization at v, if its last verdict was true
abbrev pub certified_encoding : FinMap nat_cmp (Option (List ℕ)) → ℕ → Option (List ℕ)
certified_encoding m v = option_and_then (λ e. e) (map.get m v)

-- ---- anchors

-- the view is the first one of its term
abbrev pub starts_term : ℕ → ℕ → Bool
starts_term t v = v == term_start t v

-- v is its term's lowest view above the floor
abbrev pub is_anchor : ℕ → ℕ → ℕ → Bool
is_anchor t floor v = nat_lt floor v && (starts_term t v || v == floor + 1)

-- first, and the term starts after it, below end
abbrev pub anchors : ℕ → ℕ → ℕ → List ℕ
anchors t first end = filter (λ v. starts_term t v || v == first) (range_with_len first (end - first))

-- the anchors among these that no nullification covers
abbrev pub uncovered_anchors : ByTermFacts (List ℕ) → ℕ → ℕ → List ℕ
uncovered_anchors m first end = filter (λ v. not (has_covering m v)) (anchors m.term_length first end)

-- where a scan ends: at the first anchor that is not below end
abbrev pub end_of_scan : ℕ → ℕ → ℕ → ℕ
end_of_scan t first end = if nat_lt first end then next_term_start t (end - 1) else first

-- ---- how facts are stored: as the tuple of their fields

-- facts as numbers and maps, so that two can be distinguished
abbrev pub facts_code : Coded ResolverFacts
facts_code =
    code_by
    (((ℕ × ℕ) × (ℕ × Option (ℕ × List ℕ)))
    × ((ByTermFacts (List ℕ) × FinMap nat_cmp (Option (List ℕ))) × (FinMap nat_cmp (Unit {0}) × (Bool × Bool))))
    (coded× (coded× (coded× coded_ℕ coded_ℕ) (coded× coded_ℕ (coded_option (coded× coded_ℕ (coded_list coded_ℕ)))))
    (coded× (coded× (by_term_code (coded_list coded_ℕ)) (map.code coded_ℕ (coded_option (coded_list coded_ℕ))))
    (coded× (map.code coded_ℕ coded_unit) (coded× coded_bool coded_bool))))
    (λ x. (
      ((x.current, x.floor), (x.scanned, x.finalization)),
      ((x.nullifications, x.notarizations), (x.uncertifiable, (x.replaying, x.is_failed))),
    ))
    (λ p. record {
      current = p.0.0.0;
      floor = p.0.0.1;
      scanned = p.0.1.0;
      finalization = p.0.1.1;
      nullifications = p.1.0.0;
      notarizations = p.1.0.1;
      uncertifiable = p.1.1.0;
      replaying = p.1.1.1.0;
      is_failed = p.1.1.1.1;
    })
    (λ _. refl)
