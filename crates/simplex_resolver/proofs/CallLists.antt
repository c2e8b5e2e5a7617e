-- The facts after lists of calls, and that no call fails them.
use Rattle.std.proofs.Common.{◌≡◌, ℕ, Bool, true, false, nat_lt, cond, List, [], ◌∷◌, ◌++◌, max, refl, ap, ◌∙◌}
use Rattle.simplex_types.specs.Terms.{term_end}
use Rattle.simplex_resolver.specs.Facts.{ResolverFacts, term_length, last_finalized, empty}
use Rattle.simplex_resolver.specs.Steps.{Call, Nullification, Notarization, Finalization, Verdict, Replayed, after, after_scan, after_raise, before_scan, with_stored_finalization, without_finalized, with_certified}
use Rattle.simplex_resolver.specs.Repair.{facts_of}
use Rattle.simplex_resolver.specs.RecordCalls.{all_after}

pub all_after-append : (x : ResolverFacts) (later earlier : List Call)
    → all_after x (later ++ earlier) ≡ all_after (all_after x earlier) later
all_after-append x [] earlier = refl
all_after-append x (c ∷ later) earlier = ap (λ y. after y c) (all_after-append x later earlier)

pub from_empty : (t : ℕ) (calls : List Call) → facts_of t calls ≡ all_after (empty t) calls
from_empty t [] = refl
from_empty t (c ∷ calls) = ap (λ y. after y c) (from_empty t calls)

-- ---- no call fails, and none changes the terms

abbrev lasting : ResolverFacts → Bool × ℕ
lasting x = (x.is_failed, term_length x)

either_way : (b : Bool) (x y : ResolverFacts) (p : Bool × ℕ) → lasting x ≡ p → lasting y ≡ p → lasting (cond b x y) ≡ p
either_way true x y p h k = h
either_way false x y p h k = k

scan_goes_on : (x : ResolverFacts) → lasting (after_scan x) ≡ lasting x
scan_goes_on x = either_way x.replaying x _ (lasting x) refl refl

raise_goes_on : (x : ResolverFacts) (v : ℕ) → lasting (after_raise x v) ≡ lasting x
raise_goes_on x v = either_way (nat_lt x.floor v) _ x (lasting x) refl refl

goes_before_scan : (x : ResolverFacts) (c : Call) → lasting (before_scan x c) ≡ lasting x
goes_before_scan x (Nullification v e) = either_way (nat_lt (last_finalized x) (term_end (term_length x) v)) _ _
    (lasting x) refl refl
goes_before_scan x (Notarization v) = either_way (nat_lt (last_finalized x) v) _ _ (lasting x) refl refl
goes_before_scan x (Finalization v e) = raise_goes_on
    (without_finalized (with_stored_finalization x v e) (max (last_finalized x) v)) v
goes_before_scan x (Verdict v e true) =
    raise_goes_on (with_certified x v e) v ∙ either_way (nat_lt (last_finalized x) v) _ x (lasting x) refl refl
goes_before_scan x (Verdict v e false) = either_way (nat_lt (last_finalized x) v) _ x (lasting x) refl refl
goes_before_scan x Replayed = refl

continues : (x : ResolverFacts) (c : Call) → lasting (after x c) ≡ lasting x
continues x (Nullification v e) = scan_goes_on (before_scan x (Nullification v e))
    ∙ goes_before_scan x (Nullification v e)
continues x (Notarization v) = scan_goes_on (before_scan x (Notarization v)) ∙ goes_before_scan x (Notarization v)
continues x (Finalization v e) = scan_goes_on (before_scan x (Finalization v e)) ∙ goes_before_scan x (Finalization v e)
continues x (Verdict v e true) = scan_goes_on (before_scan x (Verdict v e true)) ∙ goes_before_scan x (Verdict v e true)
continues x (Verdict v e false) = goes_before_scan x (Verdict v e false)
continues x Replayed = scan_goes_on (before_scan x Replayed)

pub same_terms : (x : ResolverFacts) (c : Call) → term_length (after x c) ≡ term_length x
same_terms x c = ap (λ p. p.1) (continues x c)

pub all_go_on : (x : ResolverFacts) (calls : List Call) → (all_after x calls).is_failed ≡ x.is_failed
all_go_on x [] = refl
all_go_on x (c ∷ calls) = ap (λ p. p.0) (continues (all_after x calls) c) ∙ all_go_on x calls
