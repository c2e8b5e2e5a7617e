-- What each call changes before its scan.
use Rattle.std.proofs.Common.{◌≡◌, ℕ, ◌+◌, ◌<◌, ◌≤◌, Bool, true, false, ◌&&◌, ◌||◌, not, ◌==◌, nat_lt, nat_le, cond, List, [], ◌∷◌, None, Some, ◌⊎◌, inl, inr, max, min, refl, sym, ◌∙◌, ap, arith}
use Rattle.std.specs.List.{list_any}
use Rattle.std.specs.Option.{option_map_or}
use Rattle.std.specs.FinMap as finmap
use Rattle.std.proofs.lemmas.Bool.Decides.{nat_tests}
use Rattle.simplex_types.specs.Terms.{term_end, covers}
use Rattle.simplex_view_maps.specs.ByTerm.{has_covering}
use Rattle.simplex_types.specs.declared.reasons.Kind.TheVariants.{Nullification as OfNullification, Notarization as OfNotarization}
use Rattle.simplex_resolver.specs.declared.resolver.effect.Effect.{Effect}
use Rattle.simplex_resolver.specs.declared.resolver.effect.Effect.TheVariants.{Settled, Finalized, Raised}
use Rattle.simplex_resolver.specs.Facts.{ResolverFacts, term_length, last_finalized, starts_term}
use Rattle.simplex_resolver.specs.Steps.{Call, Nullification, Notarization, Finalization, Verdict, Replayed, insert_new, with_stored_nullification, with_stored_finalization, without_finalized, after_raise, raise_effects, before_scan, settle_effects}
use Rattle.simplex_resolver.specs.ReceivedFacts.{finalized_view, floor_raised_to, current_view, is_covering, is_false_verdict, is_notarizing, is_replayed, NamesAView}
use Rattle.simplex_resolver.specs.Repair.{fetches, settles, is_outstanding}
use Rattle.simplex_resolver.proofs.Terms.{covers_upto}
use Rattle.simplex_resolver.proofs.Maps.{any_key-insert_new, contains-insert, contains-insert_new, contains-at_or_above, has_covering-not_ended}

-- from x to y by the call c, which settles what s says
pub record Changed (x : ResolverFacts) (c : Call) (y : ResolverFacts) (s : List Effect) : Type 0 where
  pub length : term_length y ≡ term_length x
  pub current : y.current ≡ max (current_view c) x.current
  pub floor : y.floor ≡ max (floor_raised_to c) x.floor
  pub final : last_finalized y ≡ max (finalized_view c) (last_finalized x)
  -- above the last finalized view
  pub covered : (v : ℕ) → last_finalized y < v
      → has_covering y.nullifications v ≡ (is_covering (term_length x) v c || has_covering x.nullifications v)
  pub failed : (v : ℕ) → last_finalized y < v
      → finmap.contains_key y.uncertifiable v ≡ (is_false_verdict v c || finmap.contains_key x.uncertifiable v)
  pub notarized : (v : ℕ) → last_finalized y < v
      → finmap.contains_key y.notarizations v ≡ (is_notarizing v c || finmap.contains_key x.notarizations v)
  pub replaying : y.replaying ≡ (not (is_replayed c) && x.replaying)
  -- the next scan begins where it would have, or just above the floor
  pub pulled_back : ((y.scanned ≡ x.scanned)
      × ((y.floor ≡ x.floor) ⊎ (starts_term (term_length x) (y.floor + 1) ≡ true))) ⊎ (y.scanned ≤ y.floor + 1)
  pub still_zero : x.scanned ≡ 0 → y.scanned ≡ 0
  -- the effects
  pub settled : (v : ℕ) → y.floor < v → list_any (settles v) s ≡ is_covering (term_length x) v c
  pub settled_low : (v : ℕ) → x.floor < v → v ≤ y.floor → list_any (settles v) s ≡ true
  pub unfetched : (v : ℕ) → is_outstanding s v ≡ false

-- ---- certificates but finalizations

-- a view that lies above the end of u's term is not covered
beyond : (u v end f : ℕ) (covered : Bool) → covered ≡ (nat_le u v && nat_le v end) → false ≡ nat_lt f end → f < v
    → covered ≡ false
beyond u v end f covered is low above = grind (arith, nat_tests, is, low)

within : (u v end : ℕ) (covered : Bool) → covered ≡ (nat_le u v && nat_le v end)
    → ((nat_le u v && nat_le v end) || false) ≡ covered
within u v end covered is = grind (arith, is)

by_nullification : (kept : Bool) (x : ResolverFacts) (u : ℕ) (b : List ℕ) → 0 < term_length x → 1 ≤ u
    → last_finalized x ≤ x.floor
    → kept ≡ nat_lt (last_finalized x) (term_end (term_length x) u)
    → Changed x (Nullification u b)
    (cond kept (record (with_stored_nullification x u b) { current = max x.current u })
    (record x { current = max x.current u }))
    (cond kept (Settled OfNullification u (term_end (term_length x) u) ∷ []) [])
by_nullification true x u b long named final is = record {
  length = refl;
  current = omega arith;
  floor = omega arith;
  final = omega arith;
  covered = λ v above. any_key-insert_new (λ w. covers (term_length x) w v) x.nullifications.by_view u b;
  failed = λ v above. refl;
  notarized = λ v above. refl;
  replaying = refl;
  pulled_back = inl (refl, inl refl);
  still_zero = λ none. none;
  settled = λ v above. within u v (term_end (term_length x) u) _ (covers_upto (term_length x) u v long named);
  settled_low = λ v above low. absurd (omega arith);
  unfetched = λ v. refl;
}
by_nullification false x u b long named final is = record {
  length = refl;
  current = omega arith;
  floor = omega arith;
  final = omega arith;
  covered = λ v above. ap (λ c. c || has_covering x.nullifications v)
      (sym (beyond u v (term_end (term_length x) u) (last_finalized x) _ (covers_upto (term_length x) u v long named) is
      above));
  failed = λ v above. refl;
  notarized = λ v above. refl;
  replaying = refl;
  pulled_back = inl (refl, inl refl);
  still_zero = λ none. none;
  settled = λ v above. sym (beyond u v (term_end (term_length x) u) (last_finalized x) _
      (covers_upto (term_length x) u v long named) is (omega arith));
  settled_low = λ v above low. absurd (omega arith);
  unfetched = λ v. refl;
}

settles_none : (b : Bool) (u v : ℕ) → list_any (settles v) (cond b (Settled OfNotarization u u ∷ []) []) ≡ false
settles_none true u v = refl
settles_none false u v = refl

fetches_none : (b : Bool) (u v : ℕ) → is_outstanding (cond b (Settled OfNotarization u u ∷ []) []) v ≡ false
fetches_none true u v = refl
fetches_none false u v = refl

-- the value added at u, if u is above f, read above f
put_above : (above : Bool) (f u v : ℕ) (before after : Bool) → above ≡ nat_lt f u → f < v → after ≡ (v == u || before)
    → cond above after before ≡ (v == u || before)
put_above true f u v before after is h put = put
put_above false f u v before after is h put = grind (arith, nat_tests, is)

by_notarization : (above settles_it : Bool) (x : ResolverFacts) (u : ℕ) → last_finalized x ≤ x.floor
    → above ≡ nat_lt (last_finalized x) u
    → Changed x (Notarization u)
    (cond above (record x { current = max x.current u; notarizations = insert_new x.notarizations u None })
    (record x { current = max x.current u }))
    (cond settles_it (Settled OfNotarization u u ∷ []) [])
by_notarization true settles_it x u final is = record {
  length = refl;
  current = omega arith;
  floor = omega arith;
  final = omega arith;
  covered = λ v above. refl;
  failed = λ v above. refl;
  notarized = λ v above. contains-insert_new x.notarizations u None v;
  replaying = refl;
  pulled_back = inl (refl, inl refl);
  still_zero = λ none. none;
  settled = λ v above. settles_none settles_it u v;
  settled_low = λ v above low. absurd (omega arith);
  unfetched = λ v. fetches_none settles_it u v;
}
by_notarization false settles_it x u final is = record {
  length = refl;
  current = omega arith;
  floor = omega arith;
  final = omega arith;
  covered = λ v above. refl;
  failed = λ v above. refl;
  notarized = λ v above. put_above false (last_finalized x) u v (finmap.contains_key x.notarizations v)
      (v == u || finmap.contains_key x.notarizations v) is above refl;
  replaying = refl;
  pulled_back = inl (refl, inl refl);
  still_zero = λ none. none;
  settled = λ v above. settles_none settles_it u v;
  settled_low = λ v above low. absurd (omega arith);
  unfetched = λ v. fetches_none settles_it u v;
}

-- ---- calls that may raise the floor

-- y is x after a call that raises the floor to u and returns the effect e, without the raise
record Lifts (x : ResolverFacts) (y : ResolverFacts) (u : ℕ) (c : Call) (e : Effect) : Type 0 where
  length : term_length y ≡ term_length x
  floor : y.floor ≡ x.floor
  scanned : y.scanned ≡ x.scanned
  current : y.current ≡ max (current_view c) x.current
  replaying : y.replaying ≡ x.replaying
  under : floor_raised_to c ≡ u
  covers_none : (v : ℕ) → is_covering (term_length x) v c ≡ false
  fails_none : (v : ℕ) → is_false_verdict v c ≡ false
  live : is_replayed c ≡ false
  final : last_finalized y ≡ max (finalized_view c) (last_finalized x)
  covered : (v : ℕ) → last_finalized y < v → has_covering y.nullifications v ≡ has_covering x.nullifications v
  failed : (v : ℕ) → last_finalized y < v → finmap.contains_key y.uncertifiable v ≡ finmap.contains_key x.uncertifiable
      v
  notarized : (v : ℕ) → last_finalized y < v
      → finmap.contains_key y.notarizations v ≡ (is_notarizing v c || finmap.contains_key x.notarizations v)
  settled : (v : ℕ) → max u x.floor < v → settles v e ≡ false
  unfetched : (v : ℕ) → fetches v e ≡ false

pulled : (starts : Bool) (t scanned scanned' u floor : ℕ) → scanned' ≡ scanned → starts ≡ starts_term t (u + 1)
    → ((cond starts scanned' (min scanned' (u + 1)) ≡ scanned) × ((u ≡ floor) ⊎ (starts_term t (u + 1) ≡ true)))
    ⊎ (cond starts scanned' (min scanned' (u + 1)) ≤ u + 1)
pulled true t scanned scanned' u floor same is = inl (same, inr (sym is))
pulled false t scanned scanned' u floor same is = inr (omega arith)

pulled-zero : (starts : Bool) (scanned u : ℕ) → scanned ≡ 0 → cond starts scanned (min scanned (u + 1)) ≡ 0
pulled-zero true scanned u none = none
pulled-zero false scanned u none = omega arith

by_raise : (rises : Bool) (x y : ResolverFacts) (u : ℕ) (c : Call) (e : Effect) → rises ≡ nat_lt y.floor u
    → Lifts x y u c e
    → Changed x c
    (cond rises (record y
    { floor = u; scanned = cond (starts_term (term_length y) (u + 1)) y.scanned (min y.scanned (u + 1)) }) y)
    (e ∷ cond rises (Raised u ∷ []) [])
by_raise true x y u c e is l = record {
  length = l.length;
  current = l.current;
  floor = grind (arith, nat_tests, is, l.floor, l.under);
  final = l.final;
  covered = λ v above. l.covered v above ∙ ap (λ b. b || has_covering x.nullifications v) (sym (l.covers_none v));
  failed = λ v above. l.failed v above ∙ ap (λ b. b || finmap.contains_key x.uncertifiable v) (sym (l.fails_none v));
  notarized = l.notarized;
  replaying = grind (arith, l.replaying, l.live);
  pulled_back = let same : term_length y ≡ term_length x = l.length in
      pulled (starts_term (term_length y) (u + 1)) (term_length x) x.scanned y.scanned u x.floor l.scanned
      (ap (λ t. starts_term t (u + 1)) same);
  still_zero = λ none. pulled-zero (starts_term (term_length y) (u + 1)) y.scanned u (l.scanned ∙ none);
  settled = λ v above. grind (arith, nat_tests, is, l.floor, l.covers_none v, l.settled v);
  settled_low = λ v above low. grind (arith, nat_tests);
  unfetched = λ v. grind (arith, l.unfetched v);
}
by_raise false x y u c e is l = record {
  length = l.length;
  current = l.current;
  floor = grind (arith, nat_tests, is, l.floor, l.under);
  final = l.final;
  covered = λ v above. l.covered v above ∙ ap (λ b. b || has_covering x.nullifications v) (sym (l.covers_none v));
  failed = λ v above. l.failed v above ∙ ap (λ b. b || finmap.contains_key x.uncertifiable v) (sym (l.fails_none v));
  notarized = l.notarized;
  replaying = grind (arith, l.replaying, l.live);
  pulled_back = inl (l.scanned, inl l.floor);
  still_zero = λ none. l.scanned ∙ none;
  settled = λ v above. grind (arith, nat_tests, is, l.floor, l.covers_none v, l.settled v);
  settled_low = λ v above low. grind (arith, nat_tests, l.floor);
  unfetched = λ v. grind (arith, l.unfetched v);
}

pub last-put : (new : Bool) (x : ResolverFacts) (u : ℕ) (b : List ℕ) → new ≡ nat_lt (last_finalized x) u
    → option_map_or (λ f. f.0) (cond new (Some (u, b)) x.finalization) 0 ≡ max u (last_finalized x)
last-put true x u b is = grind (arith, nat_tests, is)
last-put false x u b is = grind (arith, nat_tests, is)

lifted_finalization : (x : ResolverFacts) (u : ℕ) (b : List ℕ) → 0 < term_length x → last_finalized x ≤ x.floor
    → Lifts x (without_finalized (with_stored_finalization x u b) (max (last_finalized x) u)) u (Finalization u b)
    (Finalized (max (last_finalized x) u))
lifted_finalization x u b long low =
    let last = last-put (nat_lt (last_finalized x) u) x u b refl in
    let finalized = max (last_finalized x) u in record {
      length = refl;
      floor = refl;
      scanned = refl;
      current = omega arith;
      replaying = refl;
      under = refl;
      covers_none = λ v. refl;
      fails_none = λ v. refl;
      live = refl;
      final = last;
      covered = λ v above. has_covering-not_ended x.nullifications finalized v long (omega (arith, last, above));
      failed = λ v above. contains-at_or_above x.uncertifiable finalized v (omega (arith, last, above));
      notarized = λ v above. contains-at_or_above x.notarizations finalized v (omega (arith, last, above));
      settled = λ v above. grind (arith, nat_tests);
      unfetched = λ v. refl;
    }

lifted_success : (above : Bool) (x : ResolverFacts) (u : ℕ) (b : List ℕ) → above ≡ nat_lt (last_finalized x) u
    → Lifts x (cond above (record x { notarizations = finmap.insert x.notarizations u (Some b) }) x) u
    (Verdict u b true) (Settled OfNotarization u u)
lifted_success true x u b is = record {
  length = refl;
  floor = refl;
  scanned = refl;
  current = omega arith;
  replaying = refl;
  under = refl;
  covers_none = λ v. refl;
  fails_none = λ v. refl;
  live = refl;
  final = omega arith;
  covered = λ v above. refl;
  failed = λ v above. refl;
  notarized = λ v above. contains-insert x.notarizations u (Some b) v;
  settled = λ v above. refl;
  unfetched = λ v. refl;
}
lifted_success false x u b is = record {
  length = refl;
  floor = refl;
  scanned = refl;
  current = omega arith;
  replaying = refl;
  under = refl;
  covers_none = λ v. refl;
  fails_none = λ v. refl;
  live = refl;
  final = omega arith;
  covered = λ v above. refl;
  failed = λ v above. refl;
  notarized = λ v above. put_above false (last_finalized x) u v (finmap.contains_key x.notarizations v)
      (v == u || finmap.contains_key x.notarizations v) is above refl;
  settled = λ v above. refl;
  unfetched = λ v. refl;
}

by_success : (above : Bool) (x : ResolverFacts) (u : ℕ) (b : List ℕ) → above ≡ nat_lt (last_finalized x) u
    → Changed x (Verdict u b true)
    (after_raise (cond above (record x { notarizations = finmap.insert x.notarizations u (Some b) }) x) u)
    (Settled OfNotarization u u ∷ raise_effects x u)
by_success true x u b is =
    by_raise (nat_lt x.floor u) x (record x { notarizations = finmap.insert x.notarizations u (Some b) }) u
    (Verdict u b true) (Settled OfNotarization u u) refl (lifted_success true x u b is)
by_success false x u b is = by_raise (nat_lt x.floor u) x x u (Verdict u b true) (Settled OfNotarization u u) refl
    (lifted_success false x u b is)

-- ---- false verdicts

by_failure : (above : Bool) (x : ResolverFacts) (u : ℕ) (b : List ℕ) → above ≡ nat_lt (last_finalized x) u
    → Changed x (Verdict u b false)
    (cond above (record x
    { notarizations = finmap.insert x.notarizations u None; uncertifiable = insert_new x.uncertifiable u tt }) x)
    (Settled OfNotarization u u ∷ [])
by_failure true x u b is = record {
  length = refl;
  current = omega arith;
  floor = omega arith;
  final = omega arith;
  covered = λ v above. refl;
  failed = λ v above. contains-insert_new x.uncertifiable u tt v;
  notarized = λ v above. contains-insert x.notarizations u None v;
  replaying = refl;
  pulled_back = inl (refl, inl refl);
  still_zero = λ none. none;
  settled = λ v above. refl;
  settled_low = λ v above low. absurd (omega arith);
  unfetched = λ v. refl;
}
by_failure false x u b is = record {
  length = refl;
  current = omega arith;
  floor = omega arith;
  final = omega arith;
  covered = λ v above. refl;
  failed = λ v above. put_above false (last_finalized x) u v (finmap.contains_key x.uncertifiable v)
      (v == u || finmap.contains_key x.uncertifiable v) is above refl;
  notarized = λ v above. put_above false (last_finalized x) u v (finmap.contains_key x.notarizations v)
      (v == u || finmap.contains_key x.notarizations v) is above refl;
  replaying = refl;
  pulled_back = inl (refl, inl refl);
  still_zero = λ none. none;
  settled = λ v above. refl;
  settled_low = λ v above low. absurd (omega arith);
  unfetched = λ v. refl;
}

-- every call
pub changed : (x : ResolverFacts) (c : Call) → 0 < term_length x → NamesAView c → last_finalized x ≤ x.floor
    → Changed x c (before_scan x c) (settle_effects x c)
changed x (Nullification u b) long named final =
    by_nullification (nat_lt (last_finalized x) (term_end (term_length x) u)) x u b long named final refl
changed x (Notarization u) long named final =
    by_notarization (nat_lt (last_finalized x) u)
    (nat_lt (last_finalized x) u && not (finmap.contains_key x.uncertifiable u)) x u final refl
changed x (Finalization u b) long named final =
    by_raise (nat_lt x.floor u) x (without_finalized (with_stored_finalization x u b) (max (last_finalized x) u)) u
    (Finalization u b) (Finalized (max (last_finalized x) u)) refl
    (lifted_finalization x u b long final)
changed x (Verdict u b true) long named final =
    by_success (nat_lt (last_finalized x) u) x u b refl
changed x (Verdict u b false) long named final = by_failure (nat_lt (last_finalized x) u) x u b refl
changed x Replayed long named final = record {
  length = refl;
  current = omega arith;
  floor = omega arith;
  final = omega arith;
  covered = λ v above. refl;
  failed = λ v above. refl;
  notarized = λ v above. refl;
  replaying = refl;
  pulled_back = inl (refl, inl refl);
  still_zero = λ none. none;
  settled = λ v above. refl;
  settled_low = λ v above low. absurd (omega arith);
  unfetched = λ v. refl;
}
