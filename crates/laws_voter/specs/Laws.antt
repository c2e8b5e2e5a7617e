-- The laws of the definitions. K are the members' keys, L the elector, D the payloads.
use Rattle.std.specs.Prelude.{◌≡◌, ℕ, ◌<◌, ◌≤◌, ◌+◌, ◌↔◌, ◌⊎◌, ◌==◌, Bool, true, false, nat_le, Some, is_some, MatchOption, filter}
use Rattle.std.specs.List.{list_any}
use Rattle.std.specs.Ordering.{nat_cmp}
use Rattle.std.specs.FinMap as fin
use Rattle.std.specs.FinMap.Entries.{find, put, is_sorted}
use Rattle.std.specs.BTreeSet.{insert_key}
use Rattle.simplex_view_maps.specs.Tracked.{at_or_above}
use Rattle.simplex_types.specs.Window.{issuance_floor, AdmitsOutbound, AdmitsCertificate, AdmitsVote}
use Rattle.simplex_types.specs.declared.types.messages.Proposal.{Proposal}
use Rattle.simplex_voter.specs.Facts.{StateFacts, Elect}
use Rattle.simplex_voter.specs.Windows.{is_term_start, admits_outbound, admits_certificate, admits_vote, viewport}
use Rattle.simplex_voter.specs.Gaps.{is_covered, IsGapless, IsFirstGap, first_unnullified_view, is_gapless}
use Rattle.simplex_voter.specs.Payloads.{explicit_ancestry_payload, optimistic_ancestry_payload, payload_by, is_handoff_parent}
use Rattle.simplex_voter.specs.Parents.{ancestry_payload_for_child, IsAllowedParent, find_parent}
use Rattle.simplex_voter.specs.Rules.{may_notarize, may_nullify, may_finalize, required_certification_parent, NotarizeRule, NullifyRule, FinalizeRule}
use Rattle.simplex_voter.specs.Leaders.{opened_views}
use Rattle.simplex_voter.specs.Acceptance.{nullified_also}

-- gaps

-- a covered view stays covered by more nullifications
abbrev pub CoveringStays : (K L D : Type 0) → Type 0
CoveringStays K L D = (x : StateFacts K L D) (u w : ℕ) → is_covered x w ≡ true
    → is_covered (nullified_also x u) w ≡ true

-- the first gap is the lowest uncovered view between, and if there is none each view between is covered
abbrev pub FindsFirstGap : (K L D : Type 0) → Type 0
FindsFirstGap K L D =
    (x : StateFacts K L D) (p v : ℕ) → 0 < x.terms.term_length
    → MatchOption (first_unnullified_view x p v) (IsGapless x p v) (IsFirstGap x p v)

-- two stretches without a gap join over a covered view
abbrev pub GaplessJoins : (K L D : Type 0) → Type 0
GaplessJoins K L D =
    (x : StateFacts K L D) (p v w : ℕ) → IsGapless x p v → is_covered x v ≡ true → IsGapless x v w → IsGapless x p w

-- payloads

-- the payload that a view offers, given what the views below it offer
abbrev pub OptimisticPayloadIs : (K L D : Type 0) → Type 0
OptimisticPayloadIs K L D =
    (same : D → D → Bool) (elect : Elect L) (x : StateFacts K L D) (v : ℕ)
    → optimistic_ancestry_payload same elect x v ≡ payload_by same elect x (optimistic_ancestry_payload same elect x) v

-- parents

-- a parent may lie below a view: not below the last finalized view, without a gap, and inside a term exactly one below
pub record StandsBelow {K L D : Type 0} (x : StateFacts K L D) (v p : ℕ) : Type 0 where
  pub at_least_finalized : x.finalized ≤ p
  pub below : p < v
  pub just_below : is_term_start x v ≡ false → p + 1 ≡ v
  pub gapless : is_gapless x p v ≡ true

-- a parent is allowed exactly if it may lie below the view and has the payload that the view may build on
abbrev pub AllowedParentIs : (K L D : Type 0) → Type 0
AllowedParentIs K L D =
    (same : D → D → Bool) (elect : Elect L) (x : StateFacts K L D) (v p : ℕ) (d : D)
    → IsAllowedParent same elect x v p d ↔ (StandsBelow x v p × (ancestry_payload_for_child same elect x v p ≡ Some d))

-- the view before is offered to this member for a handoff
pub record IsHandedOff {K L D : Type 0} (same : D → D → Bool) (elect : Elect L) (x : StateFacts K L D) (v p : ℕ)
    (d : D) : Type 0 where
  pub just_below : p + 1 ≡ v
  pub handoff : is_handoff_parent elect x p ≡ true
  pub offered : optimistic_ancestry_payload same elect x p ≡ Some d

-- views are stored in order, and the last finalized one, if there is one, is known to be final
pub record KnowsFinalized {K L D : Type 0} (x : StateFacts K L D) : Type 0 where
  pub in_order : is_sorted nat_cmp x.rounds ≡ true
  pub known : 0 < x.finalized → is_some (find nat_cmp x.finalized x.rounds) ≡ true
  pub certified : 0 < x.finalized → is_some (explicit_ancestry_payload x x.finalized) ≡ true

-- a preferred parent is allowed, or handed off
abbrev pub PreferredParentStands : (K L D : Type 0) → Type 0
PreferredParentStands K L D =
    (same : D → D → Bool) (elect : Elect L) (x : StateFacts K L D) (v p : ℕ) (d : D)
    → KnowsFinalized x
    → x.finalized < v
    → find_parent same elect x v ≡ Some (p, d)
    → IsAllowedParent same elect x v p d ⊎ IsHandedOff same elect x v p d

-- the rules of votes, by their parts

-- the test of votes to notarize is their rule
abbrev pub MayNotarizeIs : (K L D : Type 0) → Type 0
MayNotarizeIs K L D =
    (same : D → D → Bool) (elect : Elect L) (x : StateFacts K L D) (v : ℕ)
    → (may_notarize same elect x v ≡ true) ↔ NotarizeRule same elect x v

-- the test of votes to nullify is their rule
abbrev pub MayNullifyIs : (K L D : Type 0) → Type 0
MayNullifyIs K L D = (x : StateFacts K L D) (v : ℕ) → (may_nullify x v ≡ true) ↔ NullifyRule x v

-- the test of votes to finalize is their rule
abbrev pub MayFinalizeIs : (K L D : Type 0) → Type 0
MayFinalizeIs K L D = (elect : Elect L) (x : StateFacts K L D) (v : ℕ) → (may_finalize elect x v ≡ true)
    ↔ FinalizeRule elect x v

-- the view that must be certified first is the view before
abbrev pub RequiredParentIsBefore : (K L D : Type 0) → Type 0
RequiredParentIsBefore K L D =
    (elect : Elect L) (x : StateFacts K L D) (v q : ℕ) (p : Proposal D) → 0 < v
    → required_certification_parent elect x v p ≡ Some q → q + 1 ≡ v

-- windows

-- the tests of the windows are those of the views
pub record WindowsAgree (K L D : Type 0) : Type 0 where
  pub outbound : (length optimistic current view : ℕ) → (admits_outbound length optimistic current view ≡ true)
      ↔ AdmitsOutbound length optimistic current view
  pub certificate : (x : StateFacts K L D) (v : ℕ) → (admits_certificate x v ≡ true) ↔ AdmitsCertificate (viewport x) v
  pub vote : (x : StateFacts K L D) (v : ℕ) → (admits_vote x v ≡ true) ↔ AdmitsVote (viewport x) v

-- a certificate of v lies in the window of w: not below its floor
pub record IsOpenedBy {K L D : Type 0} (x : StateFacts K L D) (v w low : ℕ) : Type 0 where
  pub floor : issuance_floor x.terms.term_length x.terms.optimistic_views w ≡ Some low
  pub reached : low ≤ v

-- the views that take their leader from below when v is certified: v lies in the window of each view up to them
abbrev pub OpenedViewsAre : (K L D : Type 0) → Type 0
OpenedViewsAre K L D =
    (x : StateFacts K L D) (v w : ℕ)
    → 0 < v
    → 0 < x.terms.term_length
    → (list_any (λ u. u == w) (opened_views x v) ≡ true)
    ↔ ((v < w) × ((u : ℕ) → v < u → u ≤ w → (low : ℕ) × IsOpenedBy x v u low))

-- the facts' lists match the sorted containers

-- what definitions do with lists is what the containers' maps do
pub record ListsAreContainers (R : Type 0) : Type 0 where
  pub looked_up : (m : fin.FinMap nat_cmp R) (v : ℕ) → fin.get m v ≡ find nat_cmp v (fin.entries m)
  pub put_in : (m : fin.FinMap nat_cmp R) (v : ℕ) (r : R)
      → fin.entries (fin.insert m v r) ≡ put nat_cmp v r (fin.entries m)
  pub kept : (m : fin.FinMap nat_cmp R) (v : ℕ)
      → fin.entries (at_or_above m v) ≡ filter (λ e. nat_le v e.0) (fin.entries m)
  pub noted : (m : fin.FinMap nat_cmp R) (v : ℕ) (r : R)
      → fin.keys (fin.insert m v r) ≡ insert_key nat_cmp (fin.keys m) v
