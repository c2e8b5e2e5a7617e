-- The calls that a resolver received, without their order, and what follows from them.
use Rattle.std.specs.Prelude.{◌≡◌, ℕ, ◌≤◌, ◌⊎◌, Bool, true, false, ◌&&◌, ◌||◌, not, ◌==◌, nat_lt, List, [], ◌∷◌, map, max}
use Rattle.std.specs.List.{list_any}
use Rattle.simplex_types.specs.Terms.{covers}
use Rattle.simplex_resolver.specs.Facts.{is_anchor}
use Rattle.simplex_resolver.specs.Steps.{Call, Nullification, Notarization, Finalization, Verdict, Replayed}

-- certificates and verdicts name a view of at least 1
abbrev pub NamesAView : Call → Type 0
NamesAView (Nullification v encoding) = 1 ≤ v
NamesAView (Notarization v) = 1 ≤ v
NamesAView (Finalization v encoding) = 1 ≤ v
NamesAView (Verdict v encoding success) = 1 ≤ v
NamesAView Replayed = Unit {0}

-- the call is among those that were made
abbrev pub WasMade : Call → List Call → Type 0
WasMade call [] = ⊥
WasMade call (made ∷ earlier) = (call ≡ made) ⊎ WasMade call earlier

-- two certificates of the same kind and view, whoever signed them and whatever they carry
abbrev pub are_alike : Call → Call → Bool
are_alike (Nullification v encoding) (Nullification u other) = v == u
are_alike (Notarization v) (Notarization u) = v == u
are_alike (Finalization v encoding) (Finalization u other) = v == u
are_alike call other = false

-- the replay ends
abbrev pub is_replayed : Call → Bool
is_replayed Replayed = true
is_replayed call = false

-- ---- views

-- the greatest, or 0
abbrev pub greatest : List ℕ → ℕ
greatest [] = 0
greatest (v ∷ vs) = max v (greatest vs)

-- the view that a call finalizes, or 0
abbrev pub finalized_view : Call → ℕ
finalized_view (Finalization v encoding) = v
finalized_view call = 0

-- the view that a call raises the floor to
abbrev pub floor_raised_to : Call → ℕ
floor_raised_to (Finalization v encoding) = v
floor_raised_to (Verdict v encoding true) = v
floor_raised_to call = 0

-- the view of a certificate, or 0
abbrev pub current_view : Call → ℕ
current_view (Nullification v encoding) = v
current_view (Notarization v) = v
current_view (Finalization v encoding) = v
current_view call = 0

-- the last finalized view, the floor and the current view; 0 if there is none
abbrev pub finalized_of : List Call → ℕ
finalized_of calls = greatest (map finalized_view calls)

-- the floor after the calls
abbrev pub floor_of : List Call → ℕ
floor_of calls = greatest (map floor_raised_to calls)

-- the highest view with a certificate
abbrev pub current_of : List Call → ℕ
current_of calls = greatest (map current_view calls)

-- ---- single calls and a view

-- a true verdict on the view
abbrev pub is_true_verdict : ℕ → Call → Bool
is_true_verdict v (Verdict u encoding true) = v == u
is_true_verdict v call = false

-- a false verdict on it
abbrev pub is_false_verdict : ℕ → Call → Bool
is_false_verdict v (Verdict u encoding false) = v == u
is_false_verdict v call = false

-- a notarization of v, or a verdict on it
abbrev pub is_notarizing : ℕ → Call → Bool
is_notarizing v (Notarization u) = v == u
is_notarizing v (Verdict u encoding success) = v == u
is_notarizing v call = false

-- a nullification that covers v
abbrev pub is_covering : ℕ → ℕ → Call → Bool
is_covering t v (Nullification u encoding) = covers t u v
is_covering t v call = false

-- ---- what must be fetched

-- the uncovered views among each term's lowest above the floor, if it is below the current view, and those of
-- false verdicts above the floor
abbrev pub is_needed : ℕ → List Call → ℕ → Bool
is_needed t calls v =
    not (list_any (is_covering t v) calls)
    && ((is_anchor t (floor_of calls) v && nat_lt v (current_of calls))
    || (list_any (is_false_verdict v) calls && nat_lt (floor_of calls) v))
