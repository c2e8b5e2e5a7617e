-- The results of a resolver, against what it received, in whatever order.
use Rattle.std.specs.Prelude.{◌≡◌, ℕ, ◌<◌, ◌≤◌, Bool, true, false, ◌&&◌, ◌||◌, nat_lt, nat_le, if◌then◌else◌, List, map, Option, None, Some, IsSome}
use Rattle.std.specs.List.{list_any, AllByRecursion}
use Rattle.std.specs.FinMap as finmap
use Rattle.simplex_types.specs.Terms.{covers}
use Rattle.simplex_types.specs.declared.reasons.Kind.{Kind}
use Rattle.simplex_types.specs.declared.reasons.Kind.TheVariants.{Nullification as OfNullification, Notarization as OfNotarization}
use Rattle.simplex_resolver.specs.Facts.{ResolverFacts}
use Rattle.simplex_resolver.specs.Steps.{Call, Nullification, Finalization, Verdict}
use Rattle.simplex_resolver.specs.Served.{is_settled, served_encoding}
use Rattle.simplex_resolver.specs.ReceivedFacts.{NamesAView, greatest, finalized_of, floor_of, is_true_verdict, is_false_verdict, is_notarizing, is_covering, WasMade}
use Rattle.simplex_resolver.specs.Repair.{facts_of}

-- ---- what is settled

-- nothing of the kind must be fetched at v any more: it is finalized, or what settles it was received
abbrev pub is_settled_by : ℕ → List Call → ℕ → Kind → Bool
is_settled_by t calls v OfNullification = nat_le v (finalized_of calls) || list_any (is_covering t v) calls
is_settled_by t calls v OfNotarization = nat_le v (finalized_of calls) || list_any (is_notarizing v) calls

-- a false verdict was received for v, which is not finalized
abbrev pub is_failed_by : List Call → ℕ → Bool
is_failed_by calls v = nat_lt (finalized_of calls) v && list_any (is_false_verdict v) calls

-- ---- what is served

-- the kind and the view of a certificate
pub data Source : Type 0 where
  OfFinalization : (view : ℕ) → Source
  OfCertified : (view : ℕ) → Source
  OfNullified : (view : ℕ) → Source

-- the view of a nullification that covers v, else 0
abbrev pub covering_view : ℕ → ℕ → Call → ℕ
covering_view t v (Nullification u encoding) = if covers t u v then u else 0
covering_view t v call = 0

-- what is served for v: the highest finalization, if v is at or below it; the notarization at v, if a verdict
-- is true; the nullification of the highest view that covers v; at or below the floor, the certified
-- notarization there; else nothing
abbrev pub source : ℕ → List Call → ℕ → Option Source
source t calls v =
    if nat_lt 0 (finalized_of calls) && nat_le v (finalized_of calls) then Some (OfFinalization (finalized_of calls))
    else (if list_any (is_true_verdict v) calls then Some (OfCertified v)
    else (if list_any (is_covering t v) calls then Some (OfNullified (greatest (map (covering_view t v) calls)))
    else (if nat_lt 0 (floor_of calls) && nat_le v (floor_of calls)
    then Some (OfCertified (floor_of calls)) else None)))

-- the call that passes in a certificate of this kind and view with an encoding
abbrev pub bringing : Source → List ℕ → Call
bringing (OfFinalization v) encoding = Finalization v encoding
bringing (OfCertified v) encoding = Verdict v encoding true
bringing (OfNullified v) encoding = Nullification v encoding

-- a result is the encoding of a received certificate of the kind and view that must be served, and there is one
-- exactly if there is something to serve
abbrev pub ServesReceived : List Call → Option Source → Option (List ℕ) → Type 0
ServesReceived calls None None = Unit {0}
ServesReceived calls None (Some encoding) = ⊥
ServesReceived calls (Some from) None = ⊥
ServesReceived calls (Some from) (Some encoding) = WasMade (bringing from encoding) calls

-- no view has verdicts of both kinds
abbrev pub NoContradiction : List Call → Type 0
NoContradiction calls = (v : ℕ) → list_any (is_true_verdict v) calls ≡ true
    → list_any (is_false_verdict v) calls ≡ false

-- ---- the law

-- a resolver's results follow from what it received
pub record AnswersFit (t : ℕ) (calls : List Call) (x : ResolverFacts) : Type 0 where
  pub settled : (v : ℕ) (kind : Kind) → is_settled x v kind ≡ is_settled_by t calls v kind
  pub uncertifiable : (v : ℕ) → finmap.contains_key x.uncertifiable v ≡ is_failed_by calls v
  pub served : NoContradiction calls → (v : ℕ) → ServesReceived calls (source t calls v) (served_encoding x v)
  pub floor_served : (v : ℕ) → 0 < floor_of calls → v ≤ floor_of calls → IsSome (source t calls v)

-- after any calls, in any order, a resolver's results follow from what it received
abbrev pub AnswersAreOfTheReceived : Type 0
AnswersAreOfTheReceived =
    (t : ℕ) (calls : List Call) → 0 < t → AllByRecursion NamesAView calls → AnswersFit t calls (facts_of t calls)
