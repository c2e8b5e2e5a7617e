-- A resolver knows of no view, and asks for none, above those that it received.
use Rattle.std.proofs.Common.{◌≡◌, ℕ, ◌+◌, ◌-◌, ◌<◌, ◌≤◌, inl, inr, Bool, true, false, ◌&&◌, ◌||◌, ◌==◌, not, nat_lt, nat_le, cond, List, [], ◌∷◌, ◌++◌, reverse, length, max, min, Some, None, Contains, refl, ap, sym, ◌∙◌, arith}
use Rattle.std.specs.List.{list_any, range_with_len, AllByRecursion}
use Rattle.std.specs.Option.{option_or}
use Rattle.std.proofs.lemmas.Bool.{or_cases}
use Rattle.std.proofs.lemmas.Bool.Decides.{nat_tests}
use Rattle.std.proofs.lemmas.List.{get_or-reverse, length-reverse}
use Rattle.std.proofs.lemmas.List.Elements.{Contains-append_right}
use Rattle.simplex_types.specs.Terms.{term_end}
use Rattle.simplex_types.specs.Certificates.{CertificateFacts, Notarized, Nullified, Finalized, ArtifactFacts, NotarizeVote, NullifyVote, FinalizeVote, Verdict as VerdictOf, Accepted}
use Rattle.simplex_types.specs.declared.reasons.FetchReason.TheVariants.{MissingNullification, CertificationFailed}
use Rattle.simplex_types.specs.declared.reasons.Kind.TheVariants as kind
use Rattle.simplex_view_maps.specs.ByTerm.{has_covering}
use Rattle.simplex_resolver.specs.declared.resolver.effect.Effect.{Effect}
use Rattle.simplex_resolver.specs.declared.resolver.effect.Effect.TheVariants as effect
use Rattle.simplex_resolver.specs.Facts.{ResolverFacts, term_length, last_finalized, anchors, is_anchor, starts_term}
use Rattle.simplex_resolver.specs.Steps.{Call, Nullification, Notarization, Finalization, Verdict, Replayed, after, effects, before_scan, settle_effects, after_raise, scan_fetches, missing_fetches, missing, scan_start, failing, failure_fetches, needs_nullification, with_certified, with_stored_nullification, with_stored_finalization, without_finalized, insert_new, update}
use Rattle.simplex_resolver.specs.ReceivedFacts.{current_view, current_of, floor_of, is_covering, is_false_verdict, is_replayed, is_needed}
use Rattle.simplex_resolver.specs.Repair.{has, fetches, settles, is_outstanding}
use Rattle.simplex_resolver.specs.RecordCalls.{newest_notarization, verdict_on, entry_calls, calls_of}
use Rattle.simplex_resolver.specs.CallHistory.{LawfulResolverFacts, HasReceivedCalls, IsMade}
use Rattle.simplex_resolver.proofs.RepairLaw.{held, fails, stands}
use Rattle.simplex_resolver.proofs.CallHistory.{opens_the_wanted}
use Rattle.simplex_resolver.proofs.Views.{has-filter, has-range, fetches-map, is_outstanding-append}

-- the view that a resolver receives; 0 where the replay ends
abbrev pub view_replied : Call → ℕ
view_replied (Nullification v encoding) = v
view_replied (Notarization v) = v
view_replied (Finalization v encoding) = v
view_replied (Verdict v encoding success) = v
view_replied Replayed = 0

-- the view of a certificate's own round
abbrev pub view_of_certificate : {D : Type 0} → CertificateFacts D → ℕ
view_of_certificate (Notarized c) = c.proposal.round.view
view_of_certificate (Nullified c) = c.round.view
view_of_certificate (Finalized c) = c.proposal.round.view

-- a resolver knows of no certificate of a view above this one, and has none open
pub record IsUpTo (top : ℕ) (r : LawfulResolverFacts) : Type 0 where
  pub received : r.state.current ≤ top
  pub wanted : (v : ℕ) → has r.open_fetches v ≡ true → v ≤ top

pub up_to_higher : (top next : ℕ) (r : LawfulResolverFacts) → top ≤ next → IsUpTo top r → IsUpTo next r
up_to_higher top next r higher is = record {
  received = omega (arith, is.received, higher);
  wanted = λ v asked. omega (arith, is.wanted v asked, higher);
}

-- ---- the current view after a call

-- whichever of two is left
current_if : (b : Bool) (x y : ResolverFacts) (n : ℕ) → x.current ≡ n → y.current ≡ n → (cond b x y).current ≡ n
current_if true x y n left right = left
current_if false x y n left right = right

-- a raise of the floor leaves it
current_raised : (x : ResolverFacts) (v n : ℕ) → x.current ≡ n → (after_raise x v).current ≡ n
current_raised x v n is = current_if (nat_lt x.floor v)
    (record x { floor = v; scanned = cond (starts_term (term_length x) (v + 1)) x.scanned (min x.scanned (v + 1)) }) x n
    is is

current_before_scan : (x : ResolverFacts) (call : Call)
    → (before_scan x call).current ≡ max x.current (current_view call)
current_before_scan x (Nullification v encoding) =
    current_if (nat_lt (last_finalized x) (term_end (term_length x) v))
    (record (with_stored_nullification x v encoding) { current = max x.current v })
    (record x { current = max x.current v })
    (max x.current v) refl refl
current_before_scan x (Notarization v) =
    current_if (nat_lt (last_finalized x) v)
    (record x { current = max x.current v; notarizations = insert_new x.notarizations v None })
    (record x { current = max x.current v }) (max x.current v) refl refl
current_before_scan x (Finalization v encoding) =
    current_raised (without_finalized (with_stored_finalization x v encoding) (max (last_finalized x) v)) v
    (max x.current v) refl
current_before_scan x (Verdict v encoding true) =
    current_raised (with_certified x v encoding) v (max x.current 0)
    (current_if (nat_lt (last_finalized x) v) _ x (max x.current 0) (omega arith) (omega arith))
current_before_scan x (Verdict v encoding false) = let f = fails x v encoding in omega (arith, f.current)
current_before_scan x Replayed = omega arith

view_current : (call : Call) → current_view call ≤ view_replied call
view_current (Nullification v encoding) = omega arith
view_current (Notarization v) = omega arith
view_current (Finalization v encoding) = omega arith
view_current (Verdict v encoding success) = omega arith
view_current Replayed = omega arith

current_before : (x : ResolverFacts) (call : Call) → (before_scan x call).current ≤ max x.current (view_replied call)
current_before x call = omega (arith, current_before_scan x call, view_current call)

current_after : (x : ResolverFacts) (call : Call) → (after x call).current ≤ max x.current (view_replied call)
current_after x call = let same = (held x call).current in omega (arith, same, current_before x call)

-- ---- the fetches that a call opens

-- an effect that opens none
opens_none : (b : Bool) (e : Effect) (v : ℕ) → fetches v e ≡ false → is_outstanding (cond b (e ∷ []) []) v ≡ false
opens_none true e v none = ap (λ f. (f && true) || false) none
opens_none false e v none = refl

settling_opens_none : (x : ResolverFacts) (call : Call) (v : ℕ) → is_outstanding (settle_effects x call) v ≡ false
settling_opens_none x (Nullification u encoding) v =
    opens_none (nat_lt (last_finalized x) (term_end (term_length x) u))
    (effect.Settled kind.Nullification u (term_end (term_length x) u)) v refl
settling_opens_none x (Notarization u) v = opens_none _ (effect.Settled kind.Notarization u u) v refl
settling_opens_none x (Finalization u encoding) v = opens_none (nat_lt x.floor u) (effect.Raised u) v refl
settling_opens_none x (Verdict u encoding true) v = opens_none (nat_lt x.floor u) (effect.Raised u) v refl
settling_opens_none x (Verdict u encoding false) v = refl
settling_opens_none x Replayed v = refl

-- what a scan finds is below the current view
missing_below : (x : ResolverFacts) (v : ℕ) → has (missing x) v ≡ true → v < x.current
missing_below x v is =
    let first = scan_start x in
    let outer = has-filter (λ u. not (has_covering x.nullifications u)) (anchors (term_length x) first x.current) v in
    let inner = has-filter (λ u. starts_term (term_length x) u || u == first) (range_with_len first (x.current - first))
    v in
    let range = has-range first (x.current - first) v in
    within first x.current v (not (has_covering x.nullifications v)) (starts_term (term_length x) v || v == first)
    (has (missing x) v) (has (anchors (term_length x) first x.current) v)
    (has (range_with_len first (x.current - first)) v)
    outer inner range is
  where
    within : (first current v : ℕ) (bare anchor found between inside : Bool) → found ≡ (bare && between)
        → between ≡ (anchor && inside) → inside ≡ (nat_le first v && nat_lt v (first + (current - first)))
        → found ≡ true → v < current
    within first current v bare anchor found between inside is among range there =
        grind (arith, nat_tests, is, among, range, there)

scan_opens : (b : Bool) (x : ResolverFacts) (cause v : ℕ)
    → is_outstanding (cond b [] (missing_fetches cause (missing x))) v ≡ true → v < x.current
scan_opens true x cause v is = absurd (cc)
scan_opens false x cause v is = missing_below x v
    (sym (fetches-map (λ _. cause) MissingNullification (missing x) v) ∙ is)

-- after effects that open none, the others do
opened_behind : (es fs : List Effect) (v : ℕ) → is_outstanding es v ≡ false → is_outstanding (es ++ fs) v ≡ true
    → is_outstanding fs v ≡ true
opened_behind es fs v none is = let parts = is_outstanding-append es fs v in grind (arith, parts, none, is)

-- a call that scans
scanning_opens : (x : ResolverFacts) (call : Call) (cause v : ℕ)
    → is_outstanding (settle_effects x call ++ scan_fetches (before_scan x call) cause) v ≡ true
    → v ≤ max x.current (view_replied call)
scanning_opens x call cause v is =
    let y = before_scan x call in
    let below = scan_opens y.replaying y cause v
    (opened_behind (settle_effects x call) (scan_fetches y cause) v (settling_opens_none x call v) is) in
    omega (arith, below, current_before x call)

failing_is : (b : Bool) (u v : ℕ) → has (cond b (u ∷ []) []) v ≡ true → v ≡ u
failing_is true u v is = grind (arith, nat_tests, is)
failing_is false u v is = absurd (cc)

opened_up_to : (x : ResolverFacts) (call : Call) (v : ℕ) → is_replayed call ≡ false
    → is_outstanding (effects x call) v ≡ true → v ≤ max x.current (view_replied call)
opened_up_to x (Nullification u encoding) v lasts is = scanning_opens x (Nullification u encoding) u v is
opened_up_to x (Notarization u) v lasts is = scanning_opens x (Notarization u) u v is
opened_up_to x (Finalization u encoding) v lasts is = scanning_opens x (Finalization u encoding) u v is
opened_up_to x (Verdict u encoding true) v lasts is = scanning_opens x (Verdict u encoding true) u v is
opened_up_to x (Verdict u encoding false) v lasts is =
    let asked = opened_behind (settle_effects x (Verdict u encoding false)) (failure_fetches (failing x u)) v refl is in
    let at = failing_is (not x.replaying && needs_nullification x u) u v
    (sym (fetches-map (λ w. w) CertificationFailed (failing x u) v) ∙ asked) in
    omega (arith, at)
opened_up_to x Replayed v lasts is = absurd (cc)

-- a call of a view up to this one
pub made_up_to : (top : ℕ) (call : Call) (r left : LawfulResolverFacts) → is_replayed call ≡ false
    → view_replied call ≤ top → IsUpTo top r → IsMade call r (effects r.state call) left → IsUpTo top left
made_up_to top call r left lasts low is made = record {
  received = let same = ap (λ x. x.current) made.state in omega
      (arith, same, current_after r.state call, is.received, low);
  wanted = λ v asked.
      by_either v (has r.open_fetches v) (not (list_any (settles v) (effects r.state call)))
      (is_outstanding (effects r.state call) v) (is.wanted v)
      (λ opened. omega (arith, opened_up_to r.state call v lasts opened, is.received, low))
      (sym (made.applied v) ∙ asked);
}
  where
    by_either : (v : ℕ) (was stays opened : Bool) → (was ≡ true → v ≤ top) → (opened ≡ true → v ≤ top)
        → ((was && stays) || opened) ≡ true → v ≤ top
    by_either v was stays true before now is = now refl
    by_either v true stays false before now is = before refl
    by_either v false stays false before now is = absurd (cc)

-- ---- all that a resolver received

current_of_replied : (top : ℕ) (calls : List Call) → AllByRecursion (λ call. view_replied call ≤ top) calls
    → current_of calls ≤ top
current_of_replied top [] all = omega arith
current_of_replied top (call ∷ calls) all = omega (arith, view_current call, all.0, current_of_replied top calls all.1)

false_verdict_is : (call : Call) (v : ℕ) → is_false_verdict v call ≡ true → v ≡ view_replied call
false_verdict_is (Nullification u encoding) v is = absurd (cc)
false_verdict_is (Notarization u) v is = absurd (cc)
false_verdict_is (Finalization u encoding) v is = absurd (cc)
false_verdict_is (Verdict u encoding true) v is = absurd (cc)
false_verdict_is (Verdict u encoding false) v is = grind (arith, nat_tests, is)
false_verdict_is Replayed v is = absurd (cc)

false_verdict_replied : (top : ℕ) (calls : List Call) (v : ℕ) → AllByRecursion (λ call. view_replied call ≤ top) calls
    → list_any (is_false_verdict v) calls ≡ true → v ≤ top
false_verdict_replied top [] v all is = absurd (cc)
false_verdict_replied top (call ∷ calls) v all is =
    elim (or_cases (is_false_verdict v call) (list_any (is_false_verdict v) calls) is) [
      | inl here ↦ let at = false_verdict_is call v here in omega (arith, at, all.0)
      | inr there ↦ false_verdict_replied top calls v all.1 there
    ]

-- a view is wanted below the current one, or after a false verdict
wanted_is : (bare anchor low failed above wanted : Bool) → wanted ≡ (bare && ((anchor && low) || (failed && above)))
    → wanted ≡ true → (low || failed) ≡ true
wanted_is bare anchor low failed above wanted is there = grind (arith, is, there)

wanted_replied : (top t : ℕ) (calls : List Call) (v : ℕ) → AllByRecursion (λ call. view_replied call ≤ top) calls
    → is_needed t calls v ≡ true → v ≤ top
wanted_replied top t calls v all is =
    elim (or_cases (nat_lt v (current_of calls)) (list_any (is_false_verdict v) calls)
    (wanted_is (not (list_any (is_covering t v) calls)) (is_anchor t (floor_of calls) v) (nat_lt v (current_of calls))
    (list_any (is_false_verdict v) calls) (nat_lt (floor_of calls) v) (is_needed t calls v) refl is)) [
      | inl below ↦ lower v (current_of calls) below (current_of_replied top calls all)
      | inr failed ↦ false_verdict_replied top calls v all failed
    ]
  where
    lower : (v current : ℕ) → nat_lt v current ≡ true → current ≤ top → v ≤ top
    lower v current below low = grind (arith, nat_tests, below, low)

-- whatever it received about views up to this one, once its replay has ended
pub received_up_to : (top : ℕ) (t : ℕ) (calls : List Call) (r : LawfulResolverFacts) → HasReceivedCalls t calls r
    → list_any is_replayed calls ≡ true → AllByRecursion (λ call. view_replied call ≤ top) calls → IsUpTo top r
received_up_to top t calls r received replayed all = record {
  received = let same = ap (λ x. x.current) received.state ∙ (stands t calls received.long received.named).current in
      omega (arith, same, current_of_replied top calls all);
  wanted = λ v asked. wanted_replied top t calls v all (sym (opens_the_wanted r t calls received replayed v) ∙ asked);
}

-- ---- a record

all_of_both : (top : ℕ) (later earlier : List Call) → AllByRecursion (λ call. view_replied call ≤ top) later
    → AllByRecursion (λ call. view_replied call ≤ top) earlier
    → AllByRecursion (λ call. view_replied call ≤ top) (later ++ earlier)
all_of_both top [] earlier all rest = rest
all_of_both top (call ∷ later) earlier all rest = (all.0, all_of_both top later earlier all.1 rest)

reversed_contains : {X : Type 0} (xs : List X) (x : X) → Contains (reverse xs) x → Contains xs x
reversed_contains xs x (k, within, is) =
    let long = length-reverse xs in
    let inside : k < length xs = omega (arith, long, within) in
    (length xs - 1 - k, omega (arith, inside), sym (get_or-reverse xs k x inside) ∙ is)

module _ {D : Type 0} (bytes : D → List ℕ) (top : ℕ) where
  update_replied : (c : CertificateFacts D) → view_of_certificate c ≤ top → view_replied (update bytes c) ≤ top
  update_replied (Notarized n) low = low
  update_replied (Nullified n) low = low
  update_replied (Finalized f) low = low

  -- the accepted certificates of a record are of views up to this one
  abbrev AreLow : List (ArtifactFacts D) → Type 0
  AreLow entries = (c : CertificateFacts D) → Contains entries (Accepted c) → view_of_certificate c ≤ top

  rest_low : (e : ArtifactFacts D) (before : List (ArtifactFacts D)) → AreLow (e ∷ before) → AreLow before
  rest_low e before low c among = low c (Contains-append_right (e ∷ []) before (Accepted c) among)

  -- a verdict is of the view of an accepted notarization
  verdict_replied : (v : ℕ) (success : Bool) (before : List (ArtifactFacts D)) → AreLow before
      → AllByRecursion (λ call. view_replied call ≤ top) (verdict_on bytes (newest_notarization v before) success)
  verdict_replied v success [] low = tt
  verdict_replied v success (Accepted (Notarized n) ∷ before) low =
      by_test (n.proposal.round.view == v) (low (Notarized n) (0, omega arith, refl))
      (verdict_replied v success before (rest_low (Accepted (Notarized n)) before low))
    where
      by_test : (b : Bool) → n.proposal.round.view ≤ top
          → AllByRecursion (λ call. view_replied call ≤ top) (verdict_on bytes (newest_notarization v before) success)
          → AllByRecursion (λ call. view_replied call ≤ top)
          (verdict_on bytes (option_or (cond b (Some n) None) (newest_notarization v before)) success)
      by_test true here there = (here, tt)
      by_test false here there = there
  verdict_replied v success (Accepted (Nullified n) ∷ before) low =
      verdict_replied v success before (rest_low (Accepted (Nullified n)) before low)
  verdict_replied v success (Accepted (Finalized f) ∷ before) low =
      verdict_replied v success before (rest_low (Accepted (Finalized f)) before low)
  verdict_replied v success (NotarizeVote p i ∷ before) low =
      verdict_replied v success before (rest_low (NotarizeVote p i) before low)
  verdict_replied v success (NullifyVote round i ∷ before) low =
      verdict_replied v success before (rest_low (NullifyVote round i) before low)
  verdict_replied v success (FinalizeVote p i ∷ before) low =
      verdict_replied v success before (rest_low (FinalizeVote p i) before low)
  verdict_replied v success (VerdictOf round b ∷ before) low =
      verdict_replied v success before (rest_low (VerdictOf round b) before low)

  entry_replied : (e : ArtifactFacts D) (before : List (ArtifactFacts D)) → AreLow (e ∷ before)
      → AllByRecursion (λ call. view_replied call ≤ top) (entry_calls bytes before e)
  entry_replied (Accepted c) before low = (update_replied c (low c (0, omega arith, refl)), tt)
  entry_replied (VerdictOf round success) before low =
      verdict_replied round.view success before (rest_low (VerdictOf round success) before low)
  entry_replied (NotarizeVote p i) before low = tt
  entry_replied (NullifyVote round i) before low = tt
  entry_replied (FinalizeVote p i) before low = tt

  pub record_replied : (entries : List (ArtifactFacts D))
      → ((c : CertificateFacts D) → Contains entries (Accepted c) → view_of_certificate c ≤ top)
      → AllByRecursion (λ call. view_replied call ≤ top) (calls_of bytes entries)
  record_replied [] low = tt
  record_replied (e ∷ before) low = all_of_both top (entry_calls bytes before e) (calls_of bytes before)
      (entry_replied e before low) (record_replied before (rest_low e before low))

-- a resolver that has replayed a record
pub begun_up_to : {D : Type 0} (bytes : D → List ℕ) (top t : ℕ) (entries : List (ArtifactFacts D))
    (r : LawfulResolverFacts)
    → HasReceivedCalls t (Replayed ∷ calls_of bytes (reverse entries)) r
    → ((c : CertificateFacts D) → Contains entries (Accepted c) → view_of_certificate c ≤ top) → IsUpTo top r
begun_up_to bytes top t entries r received low =
    received_up_to top t (Replayed ∷ calls_of bytes (reverse entries)) r received refl (
      omega arith,
      record_replied bytes top (reverse entries)
          (λ c among. low c (reversed_contains entries (Accepted c) among)),
    )
