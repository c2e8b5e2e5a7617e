-- The results of a resolver follow from what it received.
use Rattle.std.proofs.Common.{◌≡◌, ℕ, ◌<◌, ◌≤◌, Bool, true, false, ◌&&◌, ◌||◌, not, ◌==◌, nat_lt, nat_le, cond, List, [], ◌∷◌, map, Option, None, Some, IsSome, is_some, rules, ◌⊎◌, inl, inr, refl, sym, ◌∙◌, ap, subst, arith}
use Rattle.std.specs.List.{list_any, AllByRecursion}
use Rattle.std.specs.Option.{option_map, option_and_then}
use Rattle.std.specs.Ordering.{nat_cmp}
use Rattle.std.specs.FinMap as finmap
use Rattle.std.proofs.lemmas.Bool.Decides.{nat_tests}
use Rattle.std.proofs.lemmas.Bool.{cases_eq, cases_lt, false≢true}
use Rattle.simplex_types.specs.Terms.{term_start, term_end, covers}
use Rattle.simplex_view_maps.specs.ByTerm.{ByTermFacts, has_covering, covering}
use Rattle.simplex_types.specs.declared.reasons.Kind.{Kind}
use Rattle.simplex_types.specs.declared.reasons.Kind.TheVariants.{Nullification as OfNullification, Notarization as OfNotarization}
use Rattle.simplex_resolver.specs.Facts.{ResolverFacts, empty, term_length, last_finalized, covering_encoding, certified_encoding}
use Rattle.simplex_resolver.specs.Steps.{Call, Nullification, Notarization, Finalization, Verdict, Replayed, before_scan, after}
use Rattle.simplex_resolver.specs.Served.{is_settled, or_else, finalized_for, floor_for}
use Rattle.simplex_resolver.specs.ReceivedFacts.{NamesAView, greatest, finalized_view, floor_raised_to, finalized_of, floor_of, is_true_verdict, is_false_verdict, is_notarizing, is_covering, WasMade}
use Rattle.simplex_resolver.specs.Repair.{facts_of}
use Rattle.simplex_resolver.specs.Answers.{is_settled_by, is_failed_by, Source, OfFinalization, OfCertified, OfNullified, covering_view, bringing, ServesReceived, NoContradiction, AnswersAreOfTheReceived}
use Rattle.simplex_resolver.proofs.Terms.{covers_upto}
use Rattle.simplex_resolver.proofs.Maps.{contains-empty, some_covering}
use Rattle.simplex_resolver.proofs.Changes.{changed}
use Rattle.simplex_resolver.proofs.RepairLaw.{FollowsCalls, stands, held}
use Rattle.simplex_resolver.proofs.Kept.{kept, is_nullification, is_certified, IsAbove}
use Rattle.simplex_resolver.proofs.Last.{IsLastKept, last_kept}

-- ---- stored certificates come from received ones

pub record CertificateOrigins (t : ℕ) (calls : List Call) (x : ResolverFacts) : Type 0 where
  pub final : (f : ℕ) (e : List ℕ) → x.finalization ≡ Some (f, e) → WasMade (Finalization f e) calls
  pub nullified : (u : ℕ) (e : List ℕ) → finmap.get x.nullifications.by_view u ≡ Some e
      → WasMade (Nullification u e) calls
  pub held : (u : ℕ) → last_finalized x < term_end t u
      → finmap.contains_key x.nullifications.by_view u ≡ list_any (is_nullification u) calls
  pub notarized : (v : ℕ) (e : List ℕ) → finmap.get x.notarizations v ≡ Some (Some e) → WasMade (Verdict v e true) calls
  pub certified : NoContradiction calls → (v : ℕ) → last_finalized x < v
      → is_certified x.notarizations v ≡ list_any (is_true_verdict v) calls
  pub above : IsAbove (last_finalized x) x.notarizations
  pub above_failed : IsAbove (last_finalized x) x.uncertifiable

either_made : (call made : Call) (earlier : List Call) → WasMade call earlier ⊎ (call ≡ made)
    → WasMade call (made ∷ earlier)
either_made call made earlier (inl old) = inr old
either_made call made earlier (inr new) = inl new

no_earlier : (c : Call) (calls : List Call) → NoContradiction (c ∷ calls) → NoContradiction calls
no_earlier c calls none v is_true =
    let now = none v in
    let then_false : list_any (is_false_verdict v) (c ∷ calls) ≡ false = now (grind (arith, is_true)) in
    grind (arith, then_false)

still_certified : (succeeds fails before failed now was : Bool) → now ≡ (succeeds || (not fails && was)) → was ≡ before
    → ((succeeds || before) ≡ true → (fails || failed) ≡ false) → now ≡ (succeeds || before)
still_certified succeeds fails before failed now was is same none = grind (arith, is, same, none)

next_origins : (t : ℕ) (calls : List Call) (x : ResolverFacts) (c : Call) → 0 < t → NamesAView c
    → FollowsCalls t calls x → CertificateOrigins t calls x → CertificateOrigins t (c ∷ calls) (after x c)
next_origins t calls x c long named st k =
    let y = before_scan x c in
    let h = changed x c (subst (λ n. 0 < n) (sym st.length) long) named st.low in
    let n = kept x c in
    let same = held x c in
    let last : last_finalized (after x c) ≡ last_finalized y = ap final_view same.finalization in
    let was : (v : ℕ) → last_finalized y < v → last_finalized x < v = λ v above. omega (arith, h.final, above) in
    let now : (v : ℕ) → last_finalized (after x c) < v → last_finalized y < v = λ v above. omega (arith, last, above) in
    record {
      final = λ f e at. either_made _ c calls (elim (n.final f e (sym same.finalization ∙ at)) [
        | inl old ↦ inl (k.final f e old)
        | inr new ↦ inr new
      ]);
      nullified = λ u e at. either_made _ c calls
          (elim
          (n.nullified u e (sym (ap (λ (m : ByTermFacts (List ℕ)). finmap.get m.by_view u) same.nullifications) ∙ at)) [
            | inl old ↦ inl (k.nullified u e old)
            | inr new ↦ inr new
          ]);
      held = λ u high.
          ap (λ (m : ByTermFacts (List ℕ)). finmap.contains_key m.by_view u) same.nullifications
          ∙ n.held u (subst (λ n. last_finalized y < term_end n u) (sym st.length) (now (term_end t u) high))
          ∙ ap (λ b. is_nullification u c || b) (k.held u (was (term_end t u) (now (term_end t u) high)));
      notarized = λ v e at. either_made _ c calls
          (elim (n.notarized v e (sym (ap (λ m. finmap.get m v) same.notarizations) ∙ at)) [
            | inl old ↦ inl (k.notarized v e old)
            | inr new ↦ inr new
          ]);
      certified = λ none v high.
          still_certified (is_true_verdict v c) (is_false_verdict v c) (list_any (is_true_verdict v) calls)
          (list_any (is_false_verdict v) calls) _ (is_certified x.notarizations v)
          (ap (λ m. is_certified m v) same.notarizations ∙ n.certified v (now v high))
          (k.certified (no_earlier c calls none) v (was v (now v high))) (none v);
      above = λ v there. let high = n.above k.above v
          (sym (ap (λ m. finmap.contains_key m v) same.notarizations) ∙ there) in omega (arith, last, high);
      above_failed = λ v there. let high = n.above_failed k.above_failed v
          (sym (ap (λ m. finmap.contains_key m v) same.uncertifiable) ∙ there) in omega (arith, last, high);
    }
  where
    final_view : Option (ℕ × List ℕ) → ℕ
    final_view f = last_finalized (record (empty 1) { finalization = f })

nothing_at : (V : Type 0) (v : ℕ) (x : V) → finmap.get (finmap.empty {X = V} {R = nat_cmp}) v ≡ Some x → ⊥
nothing_at V v x at = false≢true (sym (contains-empty V v) ∙ ap is_some at)

certificate_origins : (t : ℕ) (calls : List Call) → 0 < t → AllByRecursion NamesAView calls
    → CertificateOrigins t calls (facts_of t calls)
certificate_origins t [] long named = record {
  final = λ f e at. absurd (let none : None ≡ Some (f, e) = at in cc);
  nullified = λ u e at. nothing_at (List ℕ) u e at;
  held = λ u high. contains-empty (List ℕ) u;
  notarized = λ v e at. nothing_at (Option (List ℕ)) v (Some e) at;
  certified = λ none v high. ap (λ o. is_some (option_and_then (λ e. e) o)) (finmap.get-empty nat_cmp v);
  above = λ v there. absurd (false≢true (sym (contains-empty (Option (List ℕ)) v) ∙ there));
  above_failed = λ v there. absurd (false≢true (sym (contains-empty (Unit {0}) v) ∙ there));
}
certificate_origins t (c ∷ calls) long named =
    next_origins t calls (facts_of t calls) c long named.0 (stands t calls long named.1)
    (certificate_origins t calls long named.1)

-- ---- the received calls

made_named : (c : Call) (calls : List Call) → AllByRecursion NamesAView calls → WasMade c calls → NamesAView c
made_named c [] named made = absurd made
made_named c (d ∷ calls) named (inl same) = subst NamesAView (sym same) named.0
made_named c (d ∷ calls) named (inr earlier) = made_named c calls named.1 earlier

-- no verdict and no nullification speaks of view 0
not_true_at_zero : (c : Call) → NamesAView c → is_true_verdict 0 c ≡ false
not_true_at_zero (Nullification u e) named = refl
not_true_at_zero (Notarization u) named = refl
not_true_at_zero (Finalization u e) named = refl
not_true_at_zero (Verdict u e true) named = grind (arith, nat_tests, named)
not_true_at_zero (Verdict u e false) named = refl
not_true_at_zero Replayed named = refl

not_covering_zero : (t : ℕ) (c : Call) → NamesAView c → is_covering t 0 c ≡ false
not_covering_zero t (Nullification u e) named = none (term_start t u) (term_start t 0)
  where
    none : (a b : ℕ) → (nat_le u 0 && (a == b)) ≡ false
    none a b = grind (arith, nat_tests, named)
not_covering_zero t (Notarization u) named = refl
not_covering_zero t (Finalization u e) named = refl
not_covering_zero t (Verdict u e true) named = refl
not_covering_zero t (Verdict u e false) named = refl
not_covering_zero t Replayed named = refl

none_any : (test : Call → Bool) (calls : List Call) → AllByRecursion NamesAView calls
    → ((c : Call) → NamesAView c → test c ≡ false) → list_any test calls ≡ false
none_any test [] named none = refl
none_any test (c ∷ calls) named none = let here = none c named.0 in let rest = none_any test calls named.1 none in
    grind (arith, here, rest)

-- a floor above the last finalized view is at a true verdict
floor_by : (w : ℕ) (c : Call) → finalized_view c < w → w ≡ floor_raised_to c → is_true_verdict w c ≡ true
floor_by w (Nullification u e) low at = absurd (omega arith)
floor_by w (Notarization u) low at = absurd (omega arith)
floor_by w (Finalization u e) low at = absurd (omega arith)
floor_by w (Verdict u e true) low at = grind (arith, nat_tests)
floor_by w (Verdict u e false) low at = absurd (omega arith)
floor_by w Replayed low at = absurd (omega arith)

floor_is_certified : (w : ℕ) (calls : List Call) → finalized_of calls < w → w ≡ floor_of calls
    → list_any (is_true_verdict w) calls ≡ true
floor_is_certified w [] low at = absurd (omega arith)
floor_is_certified w (c ∷ calls) low at = elim (cases_eq w (floor_raised_to c)) [
  | inl here ↦ let found = floor_by w c (omega arith) here in grind (arith, found)
  | inr other ↦ let found = floor_is_certified w calls (omega arith) (omega (arith, other)) in grind (arith, found)
]

-- ---- the highest nullification that covers a view

covering_view-le : (t v : ℕ) (c : Call) (calls : List Call) → WasMade c calls
    → covering_view t v c ≤ greatest (map (covering_view t v) calls)
covering_view-le t v c [] made = absurd made
covering_view-le t v c (d ∷ calls) (inl same) = let at = ap (covering_view t v) same in omega (arith, at)
covering_view-le t v c (d ∷ calls) (inr earlier) = let rest = covering_view-le t v c calls earlier in
    omega (arith, rest)

greatest-le : (t v u : ℕ) (calls : List Call) → ((c : Call) → WasMade c calls → covering_view t v c ≤ u)
    → greatest (map (covering_view t v) calls) ≤ u
greatest-le t v u [] low = omega arith
greatest-le t v u (c ∷ calls) low = let here = low c (inl refl) in
    let rest = greatest-le t v u calls (λ d made. low d (inr made)) in omega (arith, here, rest)

reaches : (w v : ℕ) (b : Bool) (end : ℕ) → true ≡ b → b ≡ (nat_le w v && nat_le v end) → v ≤ end
reaches w v b end is upto = grind (arith, nat_tests, is, upto)

made_any : (u : ℕ) (e : List ℕ) (calls : List Call) → WasMade (Nullification u e) calls
    → list_any (is_nullification u) calls ≡ true
made_any u e [] made = absurd made
made_any u e (c ∷ calls) (inl same) = let at = sym (ap (is_nullification u) same) in grind (arith, nat_tests, at)
made_any u e (c ∷ calls) (inr earlier) = let rest = made_any u e calls earlier in grind (arith, rest)

-- ---- the results

-- the result if a test holds
abbrev TellsWhere : List Call → Bool → Source → Option (List ℕ) → Type 0
TellsWhere calls test from None = test ≡ false
TellsWhere calls test from (Some e) = (test ≡ true) × WasMade (bringing from e) calls

serve : (calls : List Call) (t1 t2 t3 t4 : Bool) (s1 s2 s3 s4 : Source) (o1 o2 o3 o4 : Option (List ℕ))
    → TellsWhere calls t1 s1 o1 → (o1 ≡ None → TellsWhere calls t2 s2 o2) → (o1 ≡ None → TellsWhere calls t3 s3 o3)
    → (o1 ≡ None → TellsWhere calls t4 s4 o4)
    → ServesReceived calls (cond t1 (Some s1) (cond t2 (Some s2) (cond t3 (Some s3) (cond t4 (Some s4) None))))
    (or_else o1 (or_else o2 (or_else o3 o4)))
serve calls t1 t2 t3 t4 s1 s2 s3 s4 (Some e) o2 o3 o4 a b c d = rw a.0 a.1
serve calls t1 t2 t3 t4 s1 s2 s3 s4 None (Some e) o3 o4 a b c d = let second = b refl in rw (a, second.0) second.1
serve calls t1 t2 t3 t4 s1 s2 s3 s4 None None (Some e) o4 a b c d = let third = c refl in
    rw (a, b refl, third.0) third.1
serve calls t1 t2 t3 t4 s1 s2 s3 s4 None None None (Some e) a b c d = let fourth = d refl in
    rw (a, b refl, c refl, fourth.0) fourth.1
serve calls t1 t2 t3 t4 s1 s2 s3 s4 None None None None a b c d = rw (a, b refl, c refl, d refl) tt

-- the last of the alternatives
last_resort : (t1 t2 t3 t4 : Bool) (s1 s2 s3 s4 : Source) → t4 ≡ true
    → IsSome (cond t1 (Some s1) (cond t2 (Some s2) (cond t3 (Some s3) (cond t4 (Some s4) None))))
last_resort true t2 t3 t4 s1 s2 s3 s4 is = search rules
last_resort false true t3 t4 s1 s2 s3 s4 is = search rules
last_resort false false true t4 s1 s2 s3 s4 is = search rules
last_resort false false false t4 s1 s2 s3 s4 is = rw is (search rules)

module _ (t : ℕ) (calls : List Call) (x : ResolverFacts) (long : 0 < t) (named : AllByRecursion NamesAView calls)
    (st : FollowsCalls t calls x) (k : CertificateOrigins t calls x) where
  settled_at : (v : ℕ) (kind : Kind) → is_settled x v kind ≡ is_settled_by t calls v kind
  settled_at v OfNullification = let final = st.final in let covered = st.covered v in
      by_cases (last_finalized x) (finalized_of calls) v (has_covering x.nullifications v)
      (list_any (is_covering t v) calls) final covered
    where
      by_cases : (last fin v : ℕ) (a b : Bool) → last ≡ fin → (last < v → a ≡ b)
          → (nat_le v last || a) ≡ (nat_le v fin || b)
      by_cases last fin v a b same above = grind (arith, nat_tests, same, above)
  settled_at v OfNotarization = let final = st.final in let noted = st.notarized v in
      by_cases (last_finalized x) (finalized_of calls) v (finmap.contains_key x.notarizations v)
      (list_any (is_notarizing v) calls) final noted
    where
      by_cases : (last fin v : ℕ) (a b : Bool) → last ≡ fin → (last < v → a ≡ b)
          → (nat_le v last || a) ≡ (nat_le v fin || b)
      by_cases last fin v a b same above = grind (arith, nat_tests, same, above)

  failed_at : (v : ℕ) → finmap.contains_key x.uncertifiable v ≡ is_failed_by calls v
  failed_at v = by_cases (last_finalized x) (finalized_of calls) v (finmap.contains_key x.uncertifiable v)
      (list_any (is_false_verdict v) calls) st.final (st.failed v) (k.above_failed v)
    where
      by_cases : (last fin v : ℕ) (a b : Bool) → last ≡ fin → (last < v → a ≡ b) → (a ≡ true → last < v)
          → a ≡ (nat_lt fin v && b)
      by_cases last fin v a b same above high = grind (arith, nat_tests, same, above, high)

  abbrev final_view : Option (ℕ × List ℕ) → ℕ
  final_view f = last_finalized (record (empty 1) { finalization = f })

  -- the highest finalization
  abbrev is_final : ℕ → Bool
  is_final v = nat_lt 0 (finalized_of calls) && nat_le v (finalized_of calls)

  tells_final : (v : ℕ) (f : Option (ℕ × List ℕ)) → x.finalization ≡ f
      → TellsWhere calls (is_final v) (OfFinalization (finalized_of calls))
      (option_and_then (λ g. cond (nat_le v g.0) (Some g.1) None) f)
  tells_final v None at =
      let none : finalized_of calls ≡ 0 = sym st.final ∙ ap final_view at in grind (arith, nat_tests, none)
  tells_final v (Some g) at =
      let made = k.final g.0 g.1 at in
      let named_view : 1 ≤ g.0 = made_named _ calls named made in
      let highest : finalized_of calls ≡ g.0 = sym st.final ∙ ap final_view at in
      by_test (nat_le v g.0) refl (subst (λ f. WasMade (Finalization f g.1) calls) (sym highest) made) named_view
      highest
    where
      by_test : (b : Bool) → b ≡ nat_le v g.0 → WasMade (Finalization (finalized_of calls) g.1) calls → 1 ≤ g.0
          → finalized_of calls ≡ g.0
          → TellsWhere calls (is_final v) (OfFinalization (finalized_of calls)) (cond b (Some g.1) None)
      by_test true is made low same = (grind (arith, nat_tests, is, low, same), made)
      by_test false is made low same = grind (arith, nat_tests, is, low, same)

  -- a view that is not finalized lies above the last finalized view, or is view 0 before any finalization
  abbrev Unfinalized : ℕ → Type 0
  Unfinalized v = (last_finalized x < v) ⊎ ((v ≡ 0) × (last_finalized x ≡ 0))

  unfinalized : (v : ℕ) (f : Option (ℕ × List ℕ)) → x.finalization ≡ f
      → option_and_then (λ g. cond (nat_le v g.0) (Some g.1) None) f ≡ None → Unfinalized v
  unfinalized v None at none = let last : last_finalized x ≡ 0 = ap final_view at in elim (cases_eq v 0) [
    | inl zero_view ↦ inr (zero_view, last)
    | inr above ↦ inl (omega (arith, last, above))
  ]
  unfinalized v (Some g) at none = let last : last_finalized x ≡ g.0 = ap final_view at in
      inl (by_test (nat_le v g.0) refl none last)
    where
      by_test : (b : Bool) → b ≡ nat_le v g.0 → cond b (Some g.1) None ≡ None → last_finalized x ≡ g.0
          → last_finalized x < v
      by_test true is none last = absurd (let some : Some g.1 ≡ None = none in cc)
      by_test false is none last = grind (arith, nat_tests, is, last)

  -- the notarization at a view
  noted_above : (v : ℕ) (o : Option (List ℕ)) → finmap.get x.notarizations v ≡ Some o → last_finalized x < v
  noted_above v o at = k.above v (ap is_some at)

  tells_certified : NoContradiction calls → (v : ℕ) → Unfinalized v → (o : Option (Option (List ℕ)))
      → finmap.get x.notarizations v ≡ o
      → TellsWhere calls (list_any (is_true_verdict v) calls) (OfCertified v) (option_and_then (λ e. e) o)
  tells_certified none v low (Some (Some e)) at = (
    sym (k.certified none v (noted_above v (Some e) at)) ∙ ap (λ o. is_some (option_and_then (λ e. e) o)) at,
    k.notarized v e at,
  )
  tells_certified none v low (Some None) at = sym (k.certified none v (noted_above v None at))
      ∙ ap (λ o. is_some (option_and_then (λ e. e) o)) at
  tells_certified none v (inl above) None at = sym (k.certified none v above)
      ∙ ap (λ o. is_some (option_and_then (λ e. e) o)) at
  tells_certified none v (inr zero_view) None at = ap (λ w. list_any (is_true_verdict w) calls) zero_view.0
      ∙ none_any (is_true_verdict 0) calls named not_true_at_zero

  -- the highest nullification that covers a view
  module _ (v : ℕ) (above : last_finalized x < v) (u : ℕ) (e : List ℕ)
      (last : IsLastKept x.nullifications.by_view (λ w. covers (term_length x) w v) u e) where
    at_most : (c : Call) → WasMade c calls → covering_view t v c ≤ u
    at_most (Nullification w b) made = by_test (covers t w v) refl
      where
        by_test : (b : Bool) → b ≡ covers t w v → cond b w 0 ≤ u
        by_test false is = omega arith
        by_test true is =
            let low : 1 ≤ w = made_named (Nullification w b) calls named made in
            let upto = covers_upto t w v long low in
            let ends : v ≤ term_end t w = reaches w v (covers t w v) (term_end t w) is upto in
            let there = k.held w (omega (arith, above, ends)) ∙ made_any w b calls made in
            last.highest w there (ap (λ n. covers n w v) st.length ∙ sym is)
    at_most (Notarization w) made = omega arith
    at_most (Finalization w b) made = omega arith
    at_most (Verdict w b success) made = omega arith
    at_most Replayed made = omega arith

    is_greatest : greatest (map (covering_view t v) calls) ≡ u
    is_greatest =
        let made = k.nullified u e last.found in
        let at_least = covering_view-le t v (Nullification u e) calls made in
        let own : covering_view t v (Nullification u e) ≡ u =
        ap (λ b. cond b u 0) (ap (λ n. covers n u v) (sym st.length) ∙ last.passes) in
        let most = greatest-le t v u calls at_most in omega (arith, at_least, own, most)

  tells_nullified : (v : ℕ) → Unfinalized v → (o : Option (ℕ × List ℕ)) → covering x.nullifications v ≡ o
      → TellsWhere calls (list_any (is_covering t v) calls) (OfNullified (greatest (map (covering_view t v) calls)))
      (option_map (λ e. e.1) o)
  tells_nullified v low (Some g) at =
      let last = last_kept x.nullifications.by_view (λ w. covers (term_length x) w v) g.0 g.1 at in
      let made = k.nullified g.0 g.1 last.found in
      let named_view : 1 ≤ g.0 = made_named (Nullification g.0 g.1) calls named made in
      let above = covered_above v low g.0 named_view (term_start (term_length x) g.0) (term_start (term_length x) v)
      last.passes in (
        sym (st.covered v above) ∙ sym (some_covering x.nullifications v) ∙ ap is_some at,
        subst (λ n. WasMade (Nullification n g.1) calls) (sym (is_greatest v above g.0 g.1 last)) made,
      )
    where
      covered_above : (v : ℕ) → Unfinalized v → (u : ℕ) → 1 ≤ u → (a b : ℕ) → (nat_le u v && (a == b)) ≡ true
          → last_finalized x < v
      covered_above v (inl above) u low a b is = above
      covered_above v (inr zero_view) u low a b is =
          absurd
          (let at = zero_view.0 in let upto : u ≤ v = grind (arith, nat_tests, is) in omega (arith, at, upto, low))
  tells_nullified v (inl above) None at = sym (st.covered v above) ∙ sym (some_covering x.nullifications v)
      ∙ ap is_some at
  tells_nullified v (inr zero_view) None at = ap (λ w. list_any (is_covering t w) calls) zero_view.0
      ∙ none_any (is_covering t 0) calls named (not_covering_zero t)

  -- the certified notarization at the floor
  floor_above : (v : ℕ) → Unfinalized v → 0 < floor_of calls → v ≤ floor_of calls → last_finalized x < floor_of calls
  floor_above v (inl above) some upto = omega (arith, above, upto)
  floor_above v (inr zero_view) some upto = let none = zero_view.1 in omega (arith, none, some)

  -- nothing is certified at the floor only if the floor is 0
  unfloored : NoContradiction calls → (v : ℕ) → Unfinalized v → true ≡ nat_le v (floor_of calls)
      → (o : Option (Option (List ℕ))) → finmap.get x.notarizations (floor_of calls) ≡ o
      → is_some (option_and_then (λ e. e) o) ≡ false → (nat_lt 0 (floor_of calls) && nat_le v (floor_of calls)) ≡ false
  unfloored none v low is o at lost = elim (cases_lt 0 (floor_of calls)) [
    | inl some ↦
        let upto : v ≤ floor_of calls = grind (arith, nat_tests, is) in
        let above = floor_above v low some upto in
        let final = st.final in
        let found = floor_is_certified (floor_of calls) calls (omega (arith, final, above)) refl in
        absurd (false≢true (sym lost ∙ sym (ap (λ o. is_some (option_and_then (λ e. e) o)) at)
        ∙ k.certified none (floor_of calls) above ∙ found))
    | inr no_floor ↦ grind (arith, nat_tests, no_floor)
  ]

  tells_floor : NoContradiction calls → (v : ℕ) → Unfinalized v → (b : Bool) → b ≡ nat_le v (floor_of calls)
      → (o : Option (Option (List ℕ))) → finmap.get x.notarizations (floor_of calls) ≡ o
      → TellsWhere calls (nat_lt 0 (floor_of calls) && nat_le v (floor_of calls)) (OfCertified (floor_of calls))
      (cond b (option_and_then (λ e. e) o) None)
  tells_floor none v low false is o at = grind (arith, nat_tests, is)
  tells_floor none v low true is (Some (Some e)) at =
      let above = noted_above (floor_of calls) (Some e) at in
      (grind (arith, nat_tests, is, above), k.notarized (floor_of calls) e at)
  tells_floor none v low true is (Some None) at = unfloored none v low is (Some None) at refl
  tells_floor none v low true is None at = unfloored none v low is None at refl

pub answers_are_of_the_received : AnswersAreOfTheReceived
answers_are_of_the_received t calls long named =
    let x = facts_of t calls in
    let st = stands t calls long named in
    let k = certificate_origins t calls long named in
    record {
      settled = settled_at t calls x long named st k;
      uncertifiable = failed_at t calls x long named st k;
      served = λ none v.
          let low : finalized_for x v ≡ None → Unfinalized t calls x long named st k v =
          unfinalized t calls x long named st k v x.finalization refl in
          serve calls (is_final t calls x long named st k v) (list_any (is_true_verdict v) calls)
          (list_any (is_covering t v) calls) (nat_lt 0 (floor_of calls) && nat_le v (floor_of calls))
          (OfFinalization (finalized_of calls)) (OfCertified v) (OfNullified (greatest (map (covering_view t v) calls)))
          (OfCertified (floor_of calls))
          (finalized_for x v) (certified_encoding x.notarizations v) (covering_encoding x.nullifications v)
          (floor_for x v)
          (tells_final t calls x long named st k v x.finalization refl)
          (λ open_view. tells_certified t calls x long named st k none v (low open_view) (finmap.get x.notarizations v)
          refl)
          (λ open_view. tells_nullified t calls x long named st k v (low open_view) (covering x.nullifications v) refl)
          (λ open_view. subst (λ f. TellsWhere calls (nat_lt 0 (floor_of calls) && nat_le v (floor_of calls))
          (OfCertified (floor_of calls)) (cond (nat_le v f) (certified_encoding x.notarizations f) None))
          (sym st.floor)
          (tells_floor t calls x long named st k none v (low open_view) (nat_le v (floor_of calls)) refl
          (finmap.get x.notarizations (floor_of calls)) refl));
      floor_served = λ v some upto. last_resort (is_final t calls x long named st k v)
          (list_any (is_true_verdict v) calls) (list_any (is_covering t v) calls)
          (nat_lt 0 (floor_of calls) && nat_le v (floor_of calls)) _ _ _ _
          (grind (arith, nat_tests, some, upto));
    }
