-- A certificate opens no fetch where one of its kind and view was recorded before.
use Rattle.std.proofs.Common.{◌≡◌, ℕ, ◌+◌, ◌-◌, ◌<◌, ◌≤◌, Bool, true, false, ◌&&◌, ◌||◌, not, nat_lt, cond, List, [], ◌∷◌, ◌++◌, map, max, min, refl, sym, ◌∙◌, ap, subst, arith}
use Rattle.std.specs.List.{list_any, AllByRecursion}
use Rattle.std.specs.FinMap as finmap
use Rattle.std.proofs.lemmas.Bool.Decides.{nat_tests}
use Rattle.std.proofs.lemmas.List.Folds.{list_any-append}
use Rattle.simplex_types.specs.Terms.{term_start, term_end}
use Rattle.simplex_types.specs.declared.reasons.Kind.{Kind}
use Rattle.simplex_types.specs.declared.reasons.Kind.TheVariants.{Nullification as OfNullification, Notarization as OfNotarization}
use Rattle.simplex_resolver.specs.declared.resolver.effect.Effect.{Effect}
use Rattle.simplex_resolver.specs.declared.resolver.effect.Effect.TheVariants.{Settled, Raised}
use Rattle.simplex_resolver.specs.Facts.{ResolverFacts, term_length, last_finalized, starts_term}
use Rattle.simplex_resolver.specs.Steps.{Call, Nullification, Notarization, Finalization, Verdict, Replayed, scan_start, scan_end, scan_fetches, missing_fetches, missing, without_finalized, with_stored_finalization, before_scan, settle_effects, after, effects}
use Rattle.simplex_resolver.specs.ReceivedFacts.{NamesAView, greatest, floor_raised_to, current_view, are_alike}
use Rattle.simplex_resolver.specs.Repair.{fetches, facts_of, RecordedAgainFetchesNothing}
use Rattle.simplex_resolver.proofs.Terms.{AreTerms, terms}
use Rattle.simplex_resolver.proofs.Anchors.{uncovered-none}
use Rattle.simplex_resolver.proofs.Changes.{changed}
use Rattle.simplex_resolver.proofs.RepairLaw.{stands, fails}

-- ---- scans have reached the current view

abbrev HasReached : ResolverFacts → Type 0
HasReached x = x.replaying ≡ false → x.current ≤ max x.scanned (x.floor + 1)

end_reaches : (below : Bool) (first last : ℕ → ℕ) → AreTerms first last → (start current : ℕ) → 1 ≤ start
    → below ≡ nat_lt start current
    → current ≤ cond below (last (current - 1) + 1) start
end_reaches true first last ts start current low is =
    let under : start < current = grind (arith, nat_tests, is) in
    let own = ts.le-last (current - 1) (omega arith) in omega (arith, own, under)
end_reaches false first last ts start current low is = grind (arith, nat_tests, is)

reached_by_scan : (b : Bool) (y : ResolverFacts) → 0 < term_length y → y.replaying ≡ b
    → HasReached (cond b y (record y { scanned = scan_end y }))
reached_by_scan true y long is live = absurd (let clash = sym is ∙ live in cc)
reached_by_scan false y long is live =
    let t = term_length y in
    let reached = end_reaches (nat_lt (scan_start y) y.current) (term_start t) (term_end t) (terms t long)
    (scan_start y) y.current (omega arith) refl in
    omega (arith, reached)

reached_next : (x : ResolverFacts) (c : Call) → 0 < term_length (before_scan x c) → HasReached x
    → HasReached (after x c)
reached_next x (Nullification u e) long before = let y = before_scan x (Nullification u e) in
    reached_by_scan y.replaying y long refl
reached_next x (Notarization u) long before = let y = before_scan x (Notarization u) in
    reached_by_scan y.replaying y long refl
reached_next x (Finalization u e) long before = let y = before_scan x (Finalization u e) in
    reached_by_scan y.replaying y long refl
reached_next x (Verdict u e true) long before = let y = before_scan x (Verdict u e true) in
    reached_by_scan y.replaying y long refl
reached_next x (Verdict u e false) long before = λ live.
    let f = fails x u e in
    let old = before (sym f.replaying ∙ live) in rw (f.current, f.scanned, f.floor) old
reached_next x Replayed long before = let y = before_scan x Replayed in reached_by_scan y.replaying y long refl

reached : (t : ℕ) (calls : List Call) → 0 < t → AllByRecursion NamesAView calls → HasReached (facts_of t calls)
reached t [] long named = λ live. absurd (cc)
reached t (c ∷ calls) long named =
    let x = facts_of t calls in
    let st = stands t calls long named.1 in
    let long_x = subst (λ n. 0 < n) (sym st.length) long in
    let h = changed x c long_x named.0 st.low in
    reached_next x c (subst (λ n. 0 < n) (sym h.length) long_x) (reached t calls long named.1)

-- ---- a certificate that was passed in before

abbrev is_certificate : Call → Bool
is_certificate (Nullification v encoding) = true
is_certificate (Notarization v) = true
is_certificate (Finalization v encoding) = true
is_certificate call = false

-- two calls pass in a certificate of the same views
record IsSameCertificate (c d : Call) : Type 0 where
  certificate : is_certificate c ≡ true
  current : current_view c ≡ current_view d
  floor : floor_raised_to c ≡ floor_raised_to d

alike : (c d : Call) → are_alike c d ≡ true → IsSameCertificate c d
alike (Nullification v e) (Nullification u f) is =
    record { certificate = refl; current = grind (arith, nat_tests, is); floor = refl }
alike (Nullification v e) (Notarization u) is = absurd (cc)
alike (Nullification v e) (Finalization u f) is = absurd (cc)
alike (Nullification v e) (Verdict u f success) is = absurd (cc)
alike (Nullification v e) Replayed is = absurd (cc)
alike (Notarization v) (Notarization u) is =
    record { certificate = refl; current = grind (arith, nat_tests, is); floor = refl }
alike (Notarization v) (Nullification u f) is = absurd (cc)
alike (Notarization v) (Finalization u f) is = absurd (cc)
alike (Notarization v) (Verdict u f success) is = absurd (cc)
alike (Notarization v) Replayed is = absurd (cc)
alike (Finalization v e) (Finalization u f) is =
    record { certificate = refl; current = grind (arith, nat_tests, is); floor = grind (arith, nat_tests, is) }
alike (Finalization v e) (Nullification u f) is = absurd (cc)
alike (Finalization v e) (Notarization u) is = absurd (cc)
alike (Finalization v e) (Verdict u f success) is = absurd (cc)
alike (Finalization v e) Replayed is = absurd (cc)
alike (Verdict v e success) d is = absurd (cc)
alike Replayed d is = absurd (cc)

by_either : (b others : Bool) (P : Type 0) → (b ≡ true → P) → (others ≡ true → P) → (b || others) ≡ true → P
by_either true others P here there made = here refl
by_either false others P here there made = there made

made_certificate : (c : Call) (calls : List Call) → list_any (are_alike c) calls ≡ true → is_certificate c ≡ true
made_certificate c [] made = absurd (cc)
made_certificate c (d ∷ calls) made =
    by_either (are_alike c d) (list_any (are_alike c) calls) (is_certificate c ≡ true) (λ h. (alike c d h).certificate)
    (made_certificate c calls) made

made_under : (view : Call → ℕ) (c : Call) (calls : List Call) → ((d : Call) → are_alike c d ≡ true → view c ≡ view d)
    → list_any (are_alike c) calls ≡ true → view c ≤ greatest (map view calls)
made_under view c [] same made = absurd (cc)
made_under view c (d ∷ calls) same made =
    by_either (are_alike c d) (list_any (are_alike c) calls) (view c ≤ max (view d) (greatest (map view calls)))
    (λ h. let at = same d h in omega (arith, at))
    (λ h. let rest = made_under view c calls same h in omega (arith, rest)) made

settles_only : (b : Bool) (kind : Kind) (start end v : ℕ)
    → list_any (fetches v) (cond b (Settled kind start end ∷ []) []) ≡ false
settles_only true kind start end v = refl
settles_only false kind start end v = refl

raises_only : (b : Bool) (u v : ℕ) → list_any (fetches v) (cond b (Raised u ∷ []) []) ≡ false
raises_only true u v = refl
raises_only false u v = refl

scans_nothing : (b : Bool) (y : ResolverFacts) (cause v : ℕ) → (b ≡ false → y.current ≤ scan_start y)
    → list_any (fetches v) (cond b [] (missing_fetches cause (missing y))) ≡ false
scans_nothing true y cause v done = refl
scans_nothing false y cause v done = ap (λ vs. list_any (fetches v) (missing_fetches cause vs))
    (uncovered-none y.nullifications (scan_start y) y.current (done refl))

no_fetch : (s : List Effect) (y : ResolverFacts) (cause v : ℕ) → list_any (fetches v) s ≡ false
    → (y.replaying ≡ false → y.current ≤ scan_start y)
    → list_any (fetches v) (s ++ scan_fetches y cause) ≡ false
no_fetch s y cause v none done =
    let both = list_any-append (fetches v) s (scan_fetches y cause) in
    let scan = scans_nothing y.replaying y cause v done in grind (arith, both, none, scan)

-- what remains to scan after a certificate of an earlier view
record SameScan (x y : ResolverFacts) : Type 0 where
  current : y.current ≡ x.current
  floor : y.floor ≡ x.floor
  scanned : y.scanned ≡ x.scanned
  replaying : y.replaying ≡ x.replaying

same_if : (b : Bool) (x y z : ResolverFacts) → SameScan x y → SameScan x z → SameScan x (cond b y z)
same_if true x y z s r = s
same_if false x y z s r = r

same_raise : (b : Bool) (x y : ResolverFacts) (u n : ℕ) → b ≡ nat_lt y.floor u → u ≤ x.floor → SameScan x y
    → SameScan x (cond b (record y { floor = u; scanned = n }) y)
same_raise true x y u n is low s = absurd
    (let above : y.floor < u = grind (arith, nat_tests, is) in omega (arith, s.floor, above, low))
same_raise false x y u n is low s = s

upto : (x : ResolverFacts) (u : ℕ) → u ≤ x.current → max x.current u ≡ x.current
upto x u low = omega arith

same_scan : (x : ResolverFacts) (c : Call) → is_certificate c ≡ true → current_view c ≤ x.current
    → floor_raised_to c ≤ x.floor → SameScan x (before_scan x c)
same_scan x (Nullification u e) is low under =
    let s : SameScan x (record x { current = max x.current u }) =
    record { current = upto x u low; floor = refl; scanned = refl; replaying = refl } in
    same_if (nat_lt (last_finalized x) (term_end (term_length x) u)) x _ _
    (record { current = upto x u low; floor = refl; scanned = refl; replaying = refl }) s
same_scan x (Notarization u) is low under =
    let s : SameScan x (record x { current = max x.current u }) =
    record { current = upto x u low; floor = refl; scanned = refl; replaying = refl } in
    same_if (nat_lt (last_finalized x) u) x _ _
    (record { current = upto x u low; floor = refl; scanned = refl; replaying = refl }) s
same_scan x (Finalization u e) is low under =
    let y = without_finalized (with_stored_finalization x u e) (max (last_finalized x) u) in
    same_raise (nat_lt y.floor u) x y u (cond (starts_term (term_length y) (u + 1)) y.scanned (min y.scanned (u + 1)))
    refl under
    (record { current = upto x u low; floor = refl; scanned = refl; replaying = refl })
same_scan x (Verdict u e success) is low under = absurd (cc)
same_scan x Replayed is low under = absurd (cc)

still_done : (x y : ResolverFacts) → SameScan x y → HasReached x → y.replaying ≡ false → y.current ≤ scan_start y
still_done x y s reached live = let old = reached (sym s.replaying ∙ live) in
    omega (arith, s.current, s.floor, s.scanned, old)

again : (x : ResolverFacts) (c : Call) (v : ℕ) → is_certificate c ≡ true
    → ((before_scan x c).replaying ≡ false → (before_scan x c).current ≤ scan_start (before_scan x c))
    → list_any (fetches v) (effects x c) ≡ false
again x (Nullification u e) v is done =
    no_fetch (settle_effects x (Nullification u e)) (before_scan x (Nullification u e)) u v
    (settles_only (nat_lt (last_finalized x) (term_end (term_length x) u)) OfNullification u
    (term_end (term_length x) u) v) done
again x (Notarization u) v is done =
    no_fetch (settle_effects x (Notarization u)) (before_scan x (Notarization u)) u v
    (settles_only (nat_lt (last_finalized x) u && not (finmap.contains_key x.uncertifiable u)) OfNotarization u u v)
    done
again x (Finalization u e) v is done =
    no_fetch (settle_effects x (Finalization u e)) (before_scan x (Finalization u e)) u v
    (raises_only (nat_lt x.floor u) u v) done
again x (Verdict u e success) v is done = absurd (cc)
again x Replayed v is done = absurd (cc)

pub recorded_again : RecordedAgainFetchesNothing
recorded_again t calls c long named made v =
    let x = facts_of t calls in
    let st = stands t calls long named in
    let is = made_certificate c calls made in
    let current = made_under current_view c calls (λ d h. (alike c d h).current) made in
    let floor = made_under floor_raised_to c calls (λ d h. (alike c d h).floor) made in
    let s = same_scan x c is (omega (arith, current, st.current)) (omega (arith, floor, st.floor)) in
    again x c v is (still_done x (before_scan x c) s (reached t calls long named))
