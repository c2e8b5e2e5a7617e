-- The calls of a resolver: their effect on the facts, and the effects that they return.
use Rattle.std.specs.Prelude.{◌≡◌, ℕ, ◌+◌, ◌<◌, ◌≤◌, ◌^◌, Bool, true, false, ◌&&◌, not, nat_lt, if◌then◌else◌, List, [], ◌∷◌, ◌++◌, map, filter, None, Some, max, min}
use Rattle.std.specs.Ordering.{nat_cmp}
use Rattle.std.specs.FinMap as map
use Rattle.std.specs.FinMap.{FinMap}
use Rattle.simplex_types.specs.Terms.{term_end}
use Rattle.simplex_view_maps.specs.Tracked.{at_or_above}
use Rattle.simplex_view_maps.specs.ByTerm.{not_ended, has_covering}
use Rattle.simplex_types.specs.Certificates.{CertificateFacts, ProposalFacts, Notarized, Nullified, Finalized as FinalizedOf}
use Rattle.simplex_types.specs.Encoding.{encoding}
use Rattle.simplex_types.specs.declared.types.messages.Proposal.{Proposal}
use Rattle.simplex_types.specs.declared.types.messages.Certificate.{Certificate}
use Rattle.simplex_types.specs.declared.types.messages.Certificate.TheVariants as certificate
use Rattle.simplex_types.specs.declared.types.fault.Fault.{Fault}
use Rattle.simplex_types.specs.declared.types.fault.Fault.TheVariants.{OutOfMemory, Failed, ViewTooLarge, TimeOverflow}
use Rattle.simplex_types.specs.declared.reasons.Kind.TheVariants.{Nullification as OfNullification, Notarization as OfNotarization}
use Rattle.simplex_types.specs.declared.reasons.FetchReason.TheVariants.{MissingNullification, CertificationFailed}
use Rattle.simplex_resolver.specs.declared.resolver.effect.Effect.{Effect}
use Rattle.simplex_resolver.specs.declared.resolver.effect.Effect.TheVariants.{Fetch, Settled, Finalized, Raised}
use Rattle.simplex_resolver.specs.Facts.{ResolverFacts, term_length, last_finalized, uncovered_anchors, starts_term, end_of_scan}

-- the calls of a resolver: a certificate of a view with its encoding, a verdict on a notarization, or the end
-- of the replay. Of a notarization only the view matters until a verdict passes it in again
pub data Call : Type 0 where
  Nullification : (view : ℕ) (encoding : List ℕ) → Call
  Notarization : (view : ℕ) → Call
  Finalization : (view : ℕ) (encoding : List ℕ) → Call
  Verdict : (view : ℕ) (encoding : List ℕ) (success : Bool) → Call
  Replayed : Call

-- the call that passes a certificate in
abbrev pub update : {D : Type 0} → (D → List ℕ) → CertificateFacts D → Call
update bytes_of (Nullified n) = Nullification n.round.view (encoding bytes_of (Nullified n))
update bytes_of (Notarized n) = Notarization n.proposal.round.view
update bytes_of (FinalizedOf f) = Finalization f.proposal.round.view (encoding bytes_of (FinalizedOf f))

-- the call that passes a verdict in
abbrev pub verdict : {D : Type 0} → (D → List ℕ) → ProposalFacts D → Bool → Call
verdict bytes_of n success = Verdict n.proposal.round.view (encoding bytes_of (Notarized n)) success

-- ---- a scan

-- where the next scan begins
abbrev pub scan_start : ResolverFacts → ℕ
scan_start x = max x.scanned (x.floor + 1)

-- the anchors that a scan finds uncovered
abbrev pub missing : ResolverFacts → List ℕ
missing x = uncovered_anchors x.nullifications (scan_start x) x.current

-- fetches of nullifications that are missing
abbrev pub missing_fetches : ℕ → List ℕ → List Effect
missing_fetches cause vs = map (λ v. Fetch v cause MissingNullification) vs

-- nothing is fetched before the replay has ended
abbrev pub scan_fetches : ResolverFacts → ℕ → List Effect
scan_fetches x cause = if x.replaying then [] else missing_fetches cause (missing x)

-- where the next scan ends
abbrev pub scan_end : ResolverFacts → ℕ
scan_end x = end_of_scan (term_length x) (scan_start x) x.current

-- scans have come this far, once the replay has ended
abbrev pub after_scan : ResolverFacts → ResolverFacts
after_scan x = if x.replaying then x else record x { scanned = scan_end x }

-- ---- the floor

-- the floor rises to v; inside a term the next scan begins just above it
abbrev pub after_raise : ResolverFacts → ℕ → ResolverFacts
after_raise x v =
    if nat_lt x.floor v
    then record x {
      floor = v;
      scanned = if starts_term (term_length x) (v + 1) then x.scanned
          else min x.scanned (v + 1);
    }
    else x

-- the floor rises, if the view is above it
abbrev pub raise_effects : ResolverFacts → ℕ → List Effect
raise_effects x v = if nat_lt x.floor v then Raised v ∷ [] else []

-- ---- a certificate

-- the value is added if the view has none
abbrev pub insert_new : {V : Type 0} → FinMap nat_cmp V → ℕ → V → FinMap nat_cmp V
insert_new m v x = if map.contains_key m v then m else map.insert m v x

-- the nullification is stored, unless there is one of its view
abbrev pub with_stored_nullification : ResolverFacts → ℕ → List ℕ → ResolverFacts
with_stored_nullification x v encoding =
    record x { nullifications = record x.nullifications { by_view = insert_new x.nullifications.by_view v encoding } }

-- a nullification is stored if its term ends above the last finalized view
abbrev pub after_nullification : ResolverFacts → ℕ → List ℕ → ResolverFacts
after_nullification x v encoding =
    if nat_lt (last_finalized x) (term_end (term_length x) v)
    then record (with_stored_nullification x v encoding) { current = max x.current v }
    else record x { current = max x.current v }

-- the effect of a nullification: it settles its view and the rest of its term, unless that is finalized
abbrev pub nullification_effects : ResolverFacts → ℕ → List Effect
nullification_effects x v =
    if nat_lt (last_finalized x) (term_end (term_length x) v)
    then Settled OfNullification v (term_end (term_length x) v) ∷ []
    else []

-- a notarization is noted if it is above the last finalized view, and served once it is certified
abbrev pub after_notarization : ResolverFacts → ℕ → ResolverFacts
after_notarization x v =
    if nat_lt (last_finalized x) v
    then record x { current = max x.current v; notarizations = insert_new x.notarizations v None }
    else record x { current = max x.current v }

-- the effect of a notarization: it settles its view, unless that is finalized or has failed
abbrev pub notarization_effects : ResolverFacts → ℕ → List Effect
notarization_effects x v =
    if nat_lt (last_finalized x) v && not (map.contains_key x.uncertifiable v)
    then Settled OfNotarization v v ∷ [] else []

-- the highest finalization is stored
abbrev pub with_stored_finalization : ResolverFacts → ℕ → List ℕ → ResolverFacts
with_stored_finalization x v encoding = record x {
  current = max x.current v;
  finalization = if nat_lt (last_finalized x) v then Some (v, encoding) else x.finalization;
}

-- what ends at or below a finalized view is dropped
abbrev pub without_finalized : ResolverFacts → ℕ → ResolverFacts
without_finalized x finalized = record x {
  nullifications = record x.nullifications { by_view = not_ended x.nullifications finalized };
  notarizations = at_or_above x.notarizations (finalized + 1);
  uncertifiable = at_or_above x.uncertifiable (finalized + 1);
}

-- the facts after a finalization
abbrev pub after_finalization : ResolverFacts → ℕ → List ℕ → ResolverFacts
after_finalization x v encoding =
    after_raise (without_finalized (with_stored_finalization x v encoding) (max (last_finalized x) v)) v

-- the effects of a finalization
abbrev pub finalization_effects : ResolverFacts → ℕ → List Effect
finalization_effects x v = Finalized (max (last_finalized x) v) ∷ raise_effects x v

-- ---- a verdict

-- a certified notarization above the last finalized view is stored with its encoding
abbrev pub with_certified : ResolverFacts → ℕ → List ℕ → ResolverFacts
with_certified x v encoding =
    if nat_lt (last_finalized x) v then record x { notarizations = map.insert x.notarizations v (Some encoding) } else x

-- the facts after a true verdict
abbrev pub after_success : ResolverFacts → ℕ → List ℕ → ResolverFacts
after_success x v encoding = after_raise (with_certified x v encoding) v

-- a notarization above the last finalized view that failed is no longer served
abbrev pub after_failure : ResolverFacts → ℕ → ResolverFacts
after_failure x v =
    if nat_lt (last_finalized x) v
    then record x { notarizations = map.insert x.notarizations v None; uncertifiable = insert_new x.uncertifiable v tt }
    else x

-- v is above the floor and uncovered
abbrev pub needs_nullification : ResolverFacts → ℕ → Bool
needs_nullification x v = nat_lt x.floor v && not (has_covering x.nullifications v)

-- the fetches of failed views
abbrev pub failure_fetches : List ℕ → List Effect
failure_fetches vs = map (λ v. Fetch v v CertificationFailed) vs

-- the view of a false verdict, if it then needs a nullification
abbrev pub failing : ResolverFacts → ℕ → List ℕ
failing x v = if not x.replaying && needs_nullification x v then v ∷ [] else []

-- ---- a call

-- the facts after a call, before its scan
abbrev pub before_scan : ResolverFacts → Call → ResolverFacts
before_scan x (Nullification v encoding) = after_nullification x v encoding
before_scan x (Notarization v) = after_notarization x v
before_scan x (Finalization v encoding) = after_finalization x v encoding
before_scan x (Verdict v encoding true) = after_success x v encoding
before_scan x (Verdict v encoding false) = after_failure x v
before_scan x Replayed = record x { replaying = false }

-- the facts after a call: all calls scan except a false verdict
abbrev pub after : ResolverFacts → Call → ResolverFacts
after x (Nullification v encoding) = after_scan (before_scan x (Nullification v encoding))
after x (Notarization v) = after_scan (before_scan x (Notarization v))
after x (Finalization v encoding) = after_scan (before_scan x (Finalization v encoding))
after x (Verdict v encoding true) = after_scan (before_scan x (Verdict v encoding true))
after x (Verdict v encoding false) = before_scan x (Verdict v encoding false)
after x Replayed = after_scan (before_scan x Replayed)

-- the views that a call settles
abbrev pub settle_effects : ResolverFacts → Call → List Effect
settle_effects x (Nullification v encoding) = nullification_effects x v
settle_effects x (Notarization v) = notarization_effects x v
settle_effects x (Finalization v encoding) = finalization_effects x v
settle_effects x (Verdict v encoding true) = Settled OfNotarization v v ∷ raise_effects x v
settle_effects x (Verdict v encoding false) = Settled OfNotarization v v ∷ []
settle_effects x Replayed = []

-- the effects that a call returns, in order
abbrev pub effects : ResolverFacts → Call → List Effect
effects x (Nullification v encoding) =
    settle_effects x (Nullification v encoding) ++ scan_fetches (before_scan x (Nullification v encoding)) v
effects x (Notarization v) = settle_effects x (Notarization v) ++ scan_fetches (before_scan x (Notarization v)) v
effects x (Finalization v encoding) =
    settle_effects x (Finalization v encoding) ++ scan_fetches (before_scan x (Finalization v encoding)) v
effects x (Verdict v encoding true) =
    settle_effects x (Verdict v encoding true) ++ scan_fetches (before_scan x (Verdict v encoding true)) v
effects x (Verdict v encoding false) = settle_effects x (Verdict v encoding false) ++ failure_fetches (failing x v)
effects x Replayed =
    scan_fetches (before_scan x Replayed) x.current
    ++ failure_fetches (filter (needs_nullification x) (map.keys x.uncertifiable))

-- ---- refusals

-- the higher of a proposal's view and its parent's
abbrev pub highest_named : {D : Type 0} → Proposal D → ℕ
highest_named p = max p.round.view p.parent

-- the highest view that a certificate names
abbrev pub highest_view : {S D K G C : Type 0} → Certificate S D K G C → ℕ
highest_view (certificate.Notarization n) = highest_named n.proposal
highest_view (certificate.Nullification n) = n.round.view
highest_view (certificate.Finalization f) = highest_named f.proposal

-- why a call that names no view above v is refused, and the facts after it
abbrev pub Refused : ResolverFacts → ℕ → Fault → ResolverFacts → Type 0
Refused old v OutOfMemory new =
    (old.is_failed ≡ false) × (v < 2 ^ 63) × (new.is_failed ≡ true) × (term_length new ≡ term_length old)
Refused old v Failed new = (old.is_failed ≡ true) × (new ≡ old)
Refused old v ViewTooLarge new = (old.is_failed ≡ false) × (2 ^ 63 ≤ v) × (new ≡ old)
Refused old v TimeOverflow new = ⊥
