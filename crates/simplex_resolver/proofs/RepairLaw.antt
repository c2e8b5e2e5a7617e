-- Over all runs of calls: after the replay, the outstanding fetches are exactly the views that must be fetched.
use Rattle.std.proofs.Common.{◌≡◌, ℕ, ◌+◌, ◌-◌, ◌<◌, ◌≤◌, Bool, true, false, ◌&&◌, ◌||◌, not, ◌==◌, nat_lt, cond, List, [], ◌∷◌, ◌++◌, map, filter, Option, inl, inr, max, refl, sym, ◌∙◌, ap, subst, arith}
use Rattle.std.specs.List.{list_any, range_with_len, AllByRecursion}
use Rattle.std.specs.FinMap as finmap
use Rattle.std.proofs.lemmas.Bool.Decides.{nat_tests}
use Rattle.std.proofs.lemmas.Bool.{cases_eq}
use Rattle.std.proofs.lemmas.List.Folds.{list_any-append}
use Rattle.simplex_types.specs.Terms.{term_start, term_end, covers}
use Rattle.simplex_types.specs.declared.reasons.FetchReason.TheVariants.{MissingNullification, CertificationFailed}
use Rattle.simplex_resolver.specs.declared.resolver.effect.Effect.{Effect}
use Rattle.simplex_resolver.specs.declared.resolver.effect.Effect.TheVariants.{Fetch}
use Rattle.simplex_view_maps.specs.ByTerm.{has_covering}
use Rattle.simplex_resolver.specs.Facts.{ResolverFacts, term_length, last_finalized, empty, anchors, starts_term}
use Rattle.simplex_resolver.specs.Steps.{Call, Nullification, Notarization, Finalization, Verdict, Replayed, before_scan, settle_effects, after, effects, scan_start, scan_end, missing, needs_nullification, failing, failure_fetches}
use Rattle.simplex_resolver.specs.ReceivedFacts.{finalized_view, current_view, floor_raised_to, finalized_of, current_of, floor_of, is_covering, is_false_verdict, is_notarizing, is_replayed, NamesAView}
use Rattle.simplex_resolver.specs.Repair.{has, settles, is_outstanding, facts_of, effects_of, OutstandingIsNeeded}
use Rattle.simplex_resolver.proofs.Terms.{AreTerms, terms}
use Rattle.simplex_resolver.proofs.Scan.{IsBetweenCallsAt, ReadyAt, ChangesAt, EndsAt, is_found_by, is_wanted_by, ready_after_change, failed_after_change, quiet_after_scan, quiet_after_failure}
use Rattle.simplex_resolver.proofs.Views.{has-filter, has-range, fetches-map, settles-map, is_outstanding-append}
use Rattle.simplex_resolver.proofs.Maps.{has_keys, keys-empty, contains-empty}
use Rattle.simplex_resolver.proofs.Changes.{Changed, changed}

-- the invariant between two calls
abbrev IsBetweenCalls : ResolverFacts → (ℕ → Bool) → Type 0
IsBetweenCalls x out = (v : ℕ) → IsBetweenCallsAt x.floor x.current x.scanned v (starts_term (term_length x) v)
    (has_covering x.nullifications v) (finmap.contains_key x.uncertifiable v) (out v)

-- the invariant before a scan
abbrev Ready : ResolverFacts → (ℕ → Bool) → Type 0
Ready x out = (v : ℕ) → ReadyAt x.floor x.current x.scanned v (starts_term (term_length x) v)
    (has_covering x.nullifications v) (finmap.contains_key x.uncertifiable v) (out v)

abbrev found : ResolverFacts → ℕ → Bool
found x v = is_found_by (scan_start x) x.current v (starts_term (term_length x) v) (has_covering x.nullifications v)

-- v has a false verdict and needs a nullification
abbrev unmet : ResolverFacts → ℕ → Bool
unmet x v = (finmap.contains_key x.uncertifiable v && nat_lt x.floor v) && not (has_covering x.nullifications v)

has-missing : (x : ResolverFacts) (v : ℕ) → has (missing x) v ≡ found x v
has-missing x v =
    let first = scan_start x in
    let outer = has-filter (λ u. not (has_covering x.nullifications u)) (anchors (term_length x) first x.current) v in
    let inner = has-filter (λ u. starts_term (term_length x) u || u == first) (range_with_len first (x.current - first))
    v in
    let range = has-range first (x.current - first) v in cc

has-unmet : (x : ResolverFacts) (v : ℕ) → has (filter (needs_nullification x) (finmap.keys x.uncertifiable)) v ≡ unmet x
    v
has-unmet x v =
    let outer = has-filter (needs_nullification x) (finmap.keys x.uncertifiable) v in
    let keys = has_keys x.uncertifiable v in grind (arith, outer, keys)

-- over any way to part the views into terms
ends_by : (below : Bool) (first last : ℕ → ℕ) → AreTerms first last → (start current v : ℕ) → 1 ≤ start
    → below ≡ nat_lt start current
    → EndsAt start current (cond below (last (current - 1) + 1) start) v (v == first v)
ends_by true first last ts start current v low is = record {
  at_start = λ under at. let begins = ts.first-next (current - 1) (omega arith) in
      let here : first v ≡ v = ap first at ∙ begins ∙ sym at in grind (arith, nat_tests, here);
  none_between = λ under above behind.
      let same = ts.first_inside (current - 1) v (omega arith) (omega arith) (omega arith) in
      let low = ts.first-le (current - 1) (omega arith) in grind (arith, nat_tests, same, low);
  at_first = λ above. absurd (grind (arith, nat_tests, is));
}
ends_by false first last ts start current v low is = record {
  at_start = λ under at. absurd (grind (arith, nat_tests, is));
  none_between = λ under above behind. absurd (grind (arith, nat_tests, is));
  at_first = λ above. refl;
}

-- a scan of y, with what it finds and the false verdicts that need it
scanned : (y : ResolverFacts) (out out' : ℕ → Bool) → 0 < term_length y → Ready y out
    → ((v : ℕ) → out' v ≡ ((out v || found y v) || unmet y v))
    → IsBetweenCalls (record y { scanned = scan_end y }) out'
scanned y out out' long ready is v =
    let t = term_length y in
    quiet_after_scan y.floor y.current y.scanned (scan_end y) v (starts_term t v) (has_covering y.nullifications v)
    (finmap.contains_key y.uncertifiable v) (out v) (out' v) (ready v)
    (ends_by (nat_lt (scan_start y) y.current) (term_start t) (term_end t) (terms t long) (scan_start y) y.current v
    (omega arith) refl) (is v)

-- effects that end by fetches of `us`
adds : (es fs : List Effect) (cause : ℕ → ℕ) (us : List ℕ) (v : ℕ) → is_outstanding fs v ≡ false
    → is_outstanding (es ++ (fs ++ map (λ u. Fetch u (cause u) MissingNullification) us))
    v ≡ ((is_outstanding es v && not (list_any (settles v) fs)) || has us v)
adds es fs cause us v none =
    let gs = map (λ u. Fetch u (cause u) MissingNullification) us in
    let outer = is_outstanding-append es (fs ++ gs) v in
    let inner = is_outstanding-append fs gs v in
    let any = list_any-append (settles v) fs gs in
    let quiet = settles-map cause MissingNullification us v in
    let has = fetches-map cause MissingNullification us v in grind (arith, outer, inner, any, quiet, has, none)

adds_failed : (es fs : List Effect) (us : List ℕ) (v : ℕ) → is_outstanding fs v ≡ false
    → is_outstanding (es ++ (fs ++ failure_fetches us))
    v ≡ ((is_outstanding es v && not (list_any (settles v) fs)) || has us v)
adds_failed es fs us v none =
    let gs = failure_fetches us in
    let outer = is_outstanding-append es (fs ++ gs) v in
    let inner = is_outstanding-append fs gs v in
    let any = list_any-append (settles v) fs gs in
    let quiet = settles-map (λ u. u) CertificationFailed us v in
    let has = fetches-map (λ u. u) CertificationFailed us v in grind (arith, outer, inner, any, quiet, has, none)

-- a call that is no false verdict, on a live resolver
module _ (x : ResolverFacts) (c : Call) (y : ResolverFacts) (s : List Effect) (out : ℕ → Bool)
    (low : last_finalized y ≤ y.floor)
    (h : Changed x c y s) (fails_none : (v : ℕ) → is_false_verdict v c ≡ false) (q : IsBetweenCalls x out) where
  change_at : (v : ℕ) → ChangesAt x.floor y.floor x.current y.current x.scanned y.scanned v
      (starts_term (term_length x) v)
      (has_covering x.nullifications v) (has_covering y.nullifications v) (finmap.contains_key x.uncertifiable v)
      (finmap.contains_key y.uncertifiable v) (out v) (list_any (settles v) s)
  change_at v = record {
    floor_rises = omega (arith, h.floor);
    current_rises = omega (arith, h.current);
    pulled_back = elim h.pulled_back [
      | inl kept ↦ inl (
        kept.0,
        elim kept.1 [
          | inl floor ↦ inl floor
          | inr start ↦ inr (λ at. subst (λ u. starts_term (term_length x) u ≡ true) (sym at) start)
        ],
      )
      | inr back ↦ inr back
    ];
    covered_more = λ above. more_covered _ _ _ _ (h.covered v (omega (arith, low, above))) (h.settled v above);
    failed_same = λ above. h.failed v (omega (arith, low, above))
        ∙ ap (λ b. b || finmap.contains_key x.uncertifiable v) (fails_none v);
    settled_low = λ low outstanding.
        let wanted = (q v).wanted in
        let above : x.floor < v = grind (arith, nat_tests, wanted) in h.settled_low v above low;
  }
    where
      more_covered : (after before settled covers : Bool) → after ≡ (covers || before) → settled ≡ covers
          → after ≡ (before || settled)
      more_covered after before settled covers is same = grind (arith, is, same)

  -- the same by y's terms, which are x's
  live_ready : Ready y (λ v. out v && not (list_any (settles v) s))
  live_ready v =
      subst (λ t. ReadyAt y.floor y.current y.scanned v (starts_term t v) (has_covering y.nullifications v)
      (finmap.contains_key y.uncertifiable v) (out v && not (list_any (settles v) s))) (sym h.length)
      (ready_after_change x.floor y.floor x.current y.current x.scanned y.scanned v (starts_term (term_length x) v)
      (has_covering x.nullifications v) (has_covering y.nullifications v) (finmap.contains_key x.uncertifiable v)
      (finmap.contains_key y.uncertifiable v) (out v) (list_any (settles v) s) (q v) (change_at v))

  live_unmet : (v : ℕ) → unmet y v ≡ true → (out v && not (list_any (settles v) s)) ≡ true
  live_unmet v = failed_after_change x.floor y.floor x.current y.current x.scanned y.scanned v
      (starts_term (term_length x) v)
      (has_covering x.nullifications v) (has_covering y.nullifications v) (finmap.contains_key x.uncertifiable v)
      (finmap.contains_key y.uncertifiable v) (out v) (list_any (settles v) s) (q v) (change_at v)

-- ---- one call

-- what is known of the facts after the calls, the last one first
pub record FollowsCalls (t : ℕ) (calls : List Call) (x : ResolverFacts) : Type 0 where
  pub length : term_length x ≡ t
  pub current : x.current ≡ current_of calls
  pub floor : x.floor ≡ floor_of calls
  pub final : last_finalized x ≡ finalized_of calls
  pub low : last_finalized x ≤ x.floor
  -- above the last finalized view
  pub covered : (v : ℕ) → last_finalized x < v → has_covering x.nullifications v ≡ list_any (is_covering t v) calls
  pub failed : (v : ℕ) → last_finalized x < v
      → finmap.contains_key x.uncertifiable v ≡ list_any (is_false_verdict v) calls
  pub notarized : (v : ℕ) → last_finalized x < v
      → finmap.contains_key x.notarizations v ≡ list_any (is_notarizing v) calls
  pub replaying : x.replaying ≡ not (list_any is_replayed calls)

-- a scan changes nothing but where the next one begins
pub record SameHeld (z y : ResolverFacts) : Type 0 where
  pub current : z.current ≡ y.current
  pub floor : z.floor ≡ y.floor
  pub finalization : z.finalization ≡ y.finalization
  pub nullifications : z.nullifications ≡ y.nullifications
  pub notarizations : z.notarizations ≡ y.notarizations
  pub uncertifiable : z.uncertifiable ≡ y.uncertifiable
  pub replaying : z.replaying ≡ y.replaying

held-scan : (b : Bool) (y : ResolverFacts) (n : ℕ) → SameHeld (cond b y (record y { scanned = n })) y
held-scan true y n = record {
  current = refl;
  floor = refl;
  finalization = refl;
  nullifications = refl;
  notarizations = refl;
  uncertifiable = refl;
  replaying = refl;
}
held-scan false y n = record {
  current = refl;
  floor = refl;
  finalization = refl;
  nullifications = refl;
  notarizations = refl;
  uncertifiable = refl;
  replaying = refl;
}

pub held : (x : ResolverFacts) (c : Call) → SameHeld (after x c) (before_scan x c)
held x (Nullification u b) = let y = before_scan x (Nullification u b) in held-scan y.replaying y (scan_end y)
held x (Notarization u) = let y = before_scan x (Notarization u) in held-scan y.replaying y (scan_end y)
held x (Finalization u b) = let y = before_scan x (Finalization u b) in held-scan y.replaying y (scan_end y)
held x (Verdict u b true) = let y = before_scan x (Verdict u b true) in held-scan y.replaying y (scan_end y)
held x (Verdict u b false) = record {
  current = refl;
  floor = refl;
  finalization = refl;
  nullifications = refl;
  notarizations = refl;
  uncertifiable = refl;
  replaying = refl;
}
held x Replayed = record {
  current = refl;
  floor = refl;
  finalization = refl;
  nullifications = refl;
  notarizations = refl;
  uncertifiable = refl;
  replaying = refl;
}

-- the state of the fetches
pub record Fetched (x : ResolverFacts) (es : List Effect) : Type 0 where
  pub at_rest : x.replaying ≡ true → (x.scanned ≡ 0) × ((v : ℕ) → is_outstanding es v ≡ false)
  pub quiet : x.replaying ≡ false → IsBetweenCalls x (is_outstanding es)

absorb : (all out found missing unmet : Bool) → all ≡ (out || missing) → missing ≡ found → (unmet ≡ true → out ≡ true)
    → all ≡ ((out || found) || unmet)
absorb all out found missing unmet sums finds met = grind (arith, sums, finds, met)

lives : (b live : Bool) → live ≡ false → (not live && b) ≡ b
lives b live is = grind (arith, is)

-- a call that scans
next_scanning : (b : Bool) (x : ResolverFacts) (es : List Effect) (c : Call) (y : ResolverFacts) (s : List Effect)
    (cause : ℕ)
    → 0 < term_length x → last_finalized y ≤ y.floor → Fetched x es → Changed x c y s
    → ((v : ℕ) → is_false_verdict v c ≡ false) → is_replayed c ≡ false → y.replaying ≡ b
    → Fetched (cond b y (record y { scanned = scan_end y }))
    (es ++ (s ++ cond b [] (map (λ v. Fetch v cause MissingNullification) (missing y))))
next_scanning true x es c y s cause long low st h fails_none live is =
    let was : x.replaying ≡ true = sym (lives x.replaying (is_replayed c) live) ∙ sym h.replaying ∙ is in
    record {
      at_rest = λ rests. (
        h.still_zero (st.at_rest was).0,
        λ v.
            let none = (st.at_rest was).1 v in
            let sum = adds es s (λ _. cause) [] v (h.unfetched v) in grind (arith, none, sum),
      );
      quiet = λ runs. absurd (let clash = sym is ∙ runs in cc);
    }
next_scanning false x es c y s cause long low st h fails_none live is =
    let was : x.replaying ≡ false = sym (lives x.replaying (is_replayed c) live) ∙ sym h.replaying ∙ is in
    let out : ℕ → Bool = λ v. is_outstanding es v && not (list_any (settles v) s) in
    let out' : ℕ → Bool = is_outstanding (es ++ (s ++ map (λ v. Fetch v cause MissingNullification) (missing y))) in
    let sum : (v : ℕ) → out' v ≡ ((out v || found y v) || unmet y v) = λ v.
    absorb (out' v) (out v) (found y v) (has (missing y) v) (unmet y v)
    (adds es s (λ _. cause) (missing y) v (h.unfetched v)) (has-missing y v)
    (live_unmet x c y s (is_outstanding es) low h fails_none (st.quiet was) v) in
    record {
      at_rest = λ rests. absurd (let clash = sym is ∙ rests in cc);
      quiet = λ runs. scanned y out out' (subst (λ n. 0 < n) (sym h.length) long)
          (live_ready x c y s (is_outstanding es) low h fails_none (st.quiet was)) sum;
    }

has-failing : (b : Bool) (u v : ℕ) → has (cond b (u ∷ []) []) v ≡ (b && v == u)
has-failing true u v = grind arith
has-failing false u v = refl

failing_at : (floor v u : ℕ) (replaying covered covered_u out all fetched : Bool)
    → all ≡ ((out && true) || fetched)
    → fetched ≡ ((not replaying && (nat_lt floor u && not covered_u)) && v == u)
    → replaying ≡ false → (v ≡ u → covered_u ≡ covered) → all ≡ (out || ((nat_lt floor v && not covered) && v == u))
failing_at floor v u replaying covered covered_u out all fetched sum fails runs cover =
    elim (cases_eq v u) [
      | inl here ↦ let same : covered_u ≡ covered = cover here in grind (arith, nat_tests, sum, fails, runs, same, here)
      | inr apart ↦ grind (arith, nat_tests, sum, fails, runs, apart)
    ]

-- what a false verdict keeps as it was
pub record Fails (x y : ResolverFacts) : Type 0 where
  pub floor : y.floor ≡ x.floor
  pub current : y.current ≡ x.current
  pub scanned : y.scanned ≡ x.scanned
  pub nullifications : y.nullifications ≡ x.nullifications
  pub replaying : y.replaying ≡ x.replaying

fails-if : (above : Bool) (x y : ResolverFacts) → Fails x y → Fails x (cond above y x)
fails-if true x y f = f
fails-if false x y f = record { floor = refl; current = refl; scanned = refl; nullifications = refl; replaying = refl }

pub fails : (x : ResolverFacts) (u : ℕ) (b : List ℕ) → Fails x (before_scan x (Verdict u b false))
fails x u b = fails-if (nat_lt (last_finalized x) u) x _
    (record { floor = refl; current = refl; scanned = refl; nullifications = refl; replaying = refl })

quiet_alike : (x y : ResolverFacts) (out : ℕ → Bool) → Fails x y
    → ((v : ℕ) → IsBetweenCallsAt x.floor x.current x.scanned v (starts_term (term_length x) v)
    (has_covering x.nullifications v) (finmap.contains_key y.uncertifiable v) (out v))
    → IsBetweenCalls y out
quiet_alike x y out f q v = rw (f.floor, f.current, f.scanned, f.nullifications) (q v)

-- a false verdict
next_failure : (x : ResolverFacts) (es : List Effect) (u : ℕ) (b : List ℕ)
    → last_finalized (before_scan x (Verdict u b false)) ≤ x.floor → Fetched x es
    → Changed x (Verdict u b false) (before_scan x (Verdict u b false)) (settle_effects x (Verdict u b false))
    → Fetched (after x (Verdict u b false)) (es ++ effects x (Verdict u b false))
next_failure x es u b low st h =
    let c = Verdict u b false in
    let y = before_scan x c in
    let f = fails x u b in
    let sum : (v : ℕ) → _ = λ v. adds_failed es (settle_effects x c) (failing x u) v (h.unfetched v) in
    let fetched : (v : ℕ) → _ = λ v. has-failing (not x.replaying && needs_nullification x u) u v in
    record {
      at_rest = λ rests.
          let rested = st.at_rest (sym f.replaying ∙ rests) in (
            f.scanned ∙ rested.0,
            λ v. still v (is_outstanding es v) _ _ (rested.1 v) (sum v) (fetched v) (sym f.replaying ∙ rests),
          );
      quiet = λ runs.
          let was = sym f.replaying ∙ runs in
          quiet_alike x y (is_outstanding (es ++ effects x c)) f
          (λ v. let cover : v ≡ u → has_covering x.nullifications u ≡ has_covering x.nullifications v =
          λ e. ap (has_covering x.nullifications) (sym e) in
          quiet_after_failure x.floor x.current x.scanned v u (starts_term (term_length x) v)
          (has_covering x.nullifications v) (finmap.contains_key x.uncertifiable v)
          (finmap.contains_key y.uncertifiable v)
          (is_outstanding es v) (is_outstanding (es ++ effects x c) v) true (st.quiet was v)
          (λ above. h.failed v (omega (arith, low, above)))
          (failing_at x.floor v u x.replaying (has_covering x.nullifications v) (has_covering x.nullifications u)
          (is_outstanding es v)
          (is_outstanding (es ++ effects x c) v) (has (failing x u) v) (sum v) (fetched v) was cover));
    }
  where
    still : (v : ℕ) (out all fetched : Bool) → out ≡ false → all ≡ ((out && true) || fetched)
        → (x0 : fetched ≡ ((not x.replaying && needs_nullification x u) && v == u)) → x.replaying ≡ true → all ≡ false
    still v out all fetched none sum is rests = grind (arith, none, sum, is, rests)

-- what is fetched at the end of the replay
adds_both : (es : List Effect) (cause : ℕ) (us ws : List ℕ) (v : ℕ)
    → is_outstanding (es ++ (map (λ u. Fetch u cause MissingNullification) us ++ failure_fetches ws))
    v ≡ ((is_outstanding es v || has us v) || has ws v)
adds_both es cause us ws v =
    let fs = map (λ u. Fetch u cause MissingNullification) us in
    let gs = failure_fetches ws in
    let outer = is_outstanding-append es (fs ++ gs) v in
    let inner = is_outstanding-append fs gs v in
    let any = list_any-append (settles v) fs gs in
    let quiet = settles-map (λ _. cause) MissingNullification us v in
    let quiet' = settles-map (λ u. u) CertificationFailed ws v in
    let found = fetches-map (λ _. cause) MissingNullification us v in
    let found' = fetches-map (λ u. u) CertificationFailed ws v in
    grind (arith, outer, inner, any, quiet, quiet', found, found')

ready_at_rest : (x : ResolverFacts) (out : ℕ → Bool) → x.scanned ≡ 0 → ((v : ℕ) → out v ≡ false) → Ready x out
ready_at_rest x out none quiet v = record {
  begins = λ at behind. absurd (omega arith);
  below = λ under above anchor. absurd (omega arith);
  passed = λ under above anchor bare. absurd (omega arith);
  only = λ left. absurd (let not_out = quiet v in cc);
}

ready_live : (x : ResolverFacts) (out : ℕ → Bool) → IsBetweenCalls x out → Ready x out
ready_live x out q v = record {
  begins = λ at behind. (q v).begins at behind;
  below = λ under above anchor. (q v).below under above anchor;
  passed = λ under above anchor bare. let lower = (q v).below under above anchor in let wanted = (q v).wanted in
      grind (arith, nat_tests, wanted, lower, anchor, bare);
  only = λ left. sym (q v).wanted ∙ left;
}

-- the end of the replay
next_replayed : (r : Bool) (x : ResolverFacts) (es : List Effect) → 0 < term_length x → Fetched x es → x.replaying ≡ r
    → Fetched (after x Replayed) (es ++ effects x Replayed)
next_replayed r x es long st is =
    let y : ResolverFacts = record x { replaying = false } in
    let ready : Ready y (is_outstanding es) = elim r as (λ b. x.replaying ≡ b → Ready y (is_outstanding es)) [
      | true ↦ λ rests. ready_at_rest y (is_outstanding es) (st.at_rest rests).0 (st.at_rest rests).1
      | false ↦ λ runs. ready_live y (is_outstanding es) (st.quiet runs)
    ] is in
    let out' : ℕ → Bool = is_outstanding (es ++ effects x Replayed) in
    let failed = filter (needs_nullification x) (finmap.keys x.uncertifiable) in
    let sum : (v : ℕ) → out' v ≡ ((is_outstanding es v || found y v) || unmet y v) = λ v.
    adds_both es x.current (missing y) failed v
    ∙ ap (λ b. (is_outstanding es v || b) || has failed v) (has-missing y v)
    ∙ ap (λ b. (is_outstanding es v || found y v) || b) (has-unmet x v) in
    record { at_rest = λ rests. absurd (cc); quiet = λ runs. scanned y (is_outstanding es) out' long ready sum }

-- every call
next_fetched : (x : ResolverFacts) (es : List Effect) (c : Call) → 0 < term_length x
    → last_finalized (before_scan x c) ≤ (before_scan x c).floor → Fetched x es
    → Changed x c (before_scan x c) (settle_effects x c) → Fetched (after x c) (es ++ effects x c)
next_fetched x es (Nullification u b) long low st h =
    let c = Nullification u b in let y = before_scan x c in
    next_scanning y.replaying x es c y (settle_effects x c) u long low st h (λ v. refl) refl refl
next_fetched x es (Notarization u) long low st h =
    let c = Notarization u in let y = before_scan x c in
    next_scanning y.replaying x es c y (settle_effects x c) u long low st h (λ v. refl) refl refl
next_fetched x es (Finalization u b) long low st h =
    let c = Finalization u b in let y = before_scan x c in
    next_scanning y.replaying x es c y (settle_effects x c) u long low st h (λ v. refl) refl refl
next_fetched x es (Verdict u b true) long low st h =
    let c = Verdict u b true in let y = before_scan x c in
    next_scanning y.replaying x es c y (settle_effects x c) u long low st h (λ v. refl) refl refl
next_fetched x es (Verdict u b false) long low st h =
    next_failure x es u b (let f = fails x u b in omega (arith, low, f.floor)) st h
next_fetched x es Replayed long low st h = next_replayed x.replaying x es long st refl

both_not : (a b : Bool) → (not a && not b) ≡ not (a || b)
both_not true b = refl
both_not false b = refl

-- a finalized view is under the floor
view_under : (c : Call) → finalized_view c ≤ floor_raised_to c
view_under (Nullification u b) = omega arith
view_under (Notarization u) = omega arith
view_under (Finalization u b) = omega arith
view_under (Verdict u b true) = omega arith
view_under (Verdict u b false) = omega arith
view_under Replayed = omega arith

under_floor : (x y : ResolverFacts) (c : Call) (s : List Effect) → Changed x c y s → last_finalized x ≤ x.floor
    → last_finalized y ≤ y.floor
under_floor x y c s h low = let here = view_under c in omega (arith, here, h.final, h.floor, low)

next : (t : ℕ) (calls : List Call) (x : ResolverFacts) (c : Call) → 0 < t → NamesAView c → FollowsCalls t calls x
    → FollowsCalls t (c ∷ calls) (after x c)
next t calls x c long named st =
    let y = before_scan x c in
    let s = settle_effects x c in
    let h = changed x c (subst (λ n. 0 < n) (sym st.length) long) named st.low in
    let k = held x c in
    let same : last_finalized (after x c) ≡ last_finalized y = ap last k.finalization in
    let low = under_floor x y c s h st.low in
    let was : (v : ℕ) → last_finalized y < v → last_finalized x < v = λ v above. omega (arith, h.final, above) in
    let now : (v : ℕ) → last_finalized (after x c) < v → last_finalized y < v = λ v above. omega (arith, same, above) in
    record {
      length = ap (λ m. m.term_length) k.nullifications ∙ h.length ∙ st.length;
      current = k.current ∙ h.current ∙ ap (max (current_view c)) st.current;
      floor = k.floor ∙ h.floor ∙ ap (max (floor_raised_to c)) st.floor;
      final = same ∙ h.final ∙ ap (max (finalized_view c)) st.final;
      low = omega (arith, k.floor, same, low);
      covered = λ v above.
          ap (λ m. has_covering m v) k.nullifications ∙ h.covered v (now v above)
          ∙ ap (λ n. is_covering n v c || has_covering x.nullifications v) st.length
          ∙ ap (λ b. is_covering t v c || b) (st.covered v (was v (now v above)));
      failed = λ v above.
          ap (λ us. finmap.contains_key us v) k.uncertifiable ∙ h.failed v (now v above)
          ∙ ap (λ b. is_false_verdict v c || b) (st.failed v (was v (now v above)));
      notarized = λ v above.
          ap (λ us. finmap.contains_key us v) k.notarizations ∙ h.notarized v (now v above)
          ∙ ap (λ b. is_notarizing v c || b) (st.notarized v (was v (now v above)));
      replaying = k.replaying ∙ h.replaying ∙ ap (λ b. not (is_replayed c) && b) st.replaying
          ∙ both_not (is_replayed c) (list_any is_replayed calls);
    }
  where
    last : Option (ℕ × List ℕ) → ℕ
    last f = last_finalized (record (empty 1) { finalization = f })

pub stands : (t : ℕ) (calls : List Call) → 0 < t → AllByRecursion NamesAView calls
    → FollowsCalls t calls (facts_of t calls)
stands t [] long named = record {
  length = refl;
  current = refl;
  floor = refl;
  final = refl;
  low = omega arith;
  covered = λ v above. ap (list_any (λ u. covers t u v)) (keys-empty (List ℕ));
  failed = λ v above. contains-empty (Unit {0}) v;
  notarized = λ v above. contains-empty (Option (List ℕ)) v;
  replaying = refl;
}
stands t (c ∷ calls) long named = next t calls (facts_of t calls) c long named.0 (stands t calls long named.1)

pub all_fetched : (t : ℕ) (calls : List Call) → 0 < t → AllByRecursion NamesAView calls
    → Fetched (facts_of t calls) (effects_of t calls)
all_fetched t [] long named = record { at_rest = λ rests. (refl, λ v. refl); quiet = λ runs. absurd (cc) }
all_fetched t (c ∷ calls) long named =
    let x = facts_of t calls in
    let st = stands t calls long named.1 in
    let h = changed x c (subst (λ n. 0 < n) (sym st.length) long) named.0 st.low in
    next_fetched x (effects_of t calls) c (subst (λ n. 0 < n) (sym st.length) long)
    (under_floor x (before_scan x c) c (settle_effects x c) h st.low) (all_fetched t calls long named.1) h

by_tests : (floor floor' current current' v : ℕ) (starts covered covered' failed failed' out : Bool) → floor ≡ floor'
    → current ≡ current'
    → (floor < v → covered ≡ covered') → (floor < v → failed ≡ failed')
    → out ≡ is_wanted_by floor current v starts covered failed
    → out ≡ is_wanted_by floor' current' v starts covered' failed'
by_tests floor floor' current current' v starts covered covered' failed failed' out f c cs fs is =
    grind (arith, nat_tests, cs, fs, is)

pub outstanding_is_wanted : OutstandingIsNeeded
outstanding_is_wanted t calls long named replayed v =
    let st = stands t calls long named in
    let x = facts_of t calls in
    let live : x.replaying ≡ false = st.replaying ∙ ap not replayed in
    let wanted = ((all_fetched t calls long named).quiet live v).wanted in
    by_tests x.floor (floor_of calls) x.current (current_of calls) v (starts_term t v) (has_covering x.nullifications v)
    (list_any (is_covering t v) calls)
    (finmap.contains_key x.uncertifiable v) (list_any (is_false_verdict v) calls)
    (is_outstanding (effects_of t calls) v) st.floor st.current
    (λ above. st.covered v (omega (arith, st.low, above))) (λ above. st.failed v (omega (arith, st.low, above)))
    (subst (λ n. is_outstanding (effects_of t calls) v ≡ is_wanted_by x.floor x.current v (starts_term n v)
    (has_covering x.nullifications v) (finmap.contains_key x.uncertifiable v)) st.length wanted)
