-- The laws of each lifetime of a member. A lifetime lies between a start or a restart and the next one.
use Rattle.std.specs.Prelude.{◌≡◌, ◌⊎◌, ℕ, ◌<◌, ◌≤◌, Bool, true, false, List, [], ◌∷◌, ◌++◌, map, length, nat_eq, Contains, Option, Some, None, MatchOption}
use Rattle.std.specs.List.{IsDistinct}
use Rattle.simplex_types.specs.Certificates.{CertificateFacts, Notarized, Nullified, Finalized}
use Rattle.simplex_types.specs.declared.types.fault.Fault.TheVariants.{Failed, TimeOverflow}
use Rattle.simplex_types.specs.declared.types.messages.Proposal.{Proposal}
use Rattle.simplex_types.specs.declared.reasons.TimeoutReason.{TimeoutReason}
use Rattle.simplex_voter.specs.Facts.{StateFacts, Elect, round_of, is_tracked}
use Rattle.simplex_voter.specs.Gaps.{IsGapless}
use Rattle.simplex_voter.specs.Rules.{NotarizeRule}
use Rattle.simplex_voter.specs.Timeouts.{has_timeout}
use Rattle.simplex_voter.specs.Windows.{min_active}
use Rattle.simplex_member.specs.Calls.{CallFacts, BroadcastNotarization, BroadcastNullification, BroadcastFinalization, NextTimeout, ReplyFacts, Returned, Dropped, TimesOut, Refused}
use Rattle.simplex_record.specs.Entries.{certificate_round}
use Rattle.simplex_member.specs.MemberFacts.{MemberFacts}
use Rattle.simplex_record.specs.Recovery.{recover_error}
use Rattle.simplex_member.specs.Runs.{StepFacts, Calls, IsRun, IsRunFrom}
use Rattle.simplex_record.specs.Start.{StartFacts, new_state}
use Rattle.laws_safety.specs.Executions.{new_member}
use Rattle.laws_safety.specs.ExactVotes.{proposal_at}
use Rattle.laws_safety.specs.TermLengths.{HasTerms, KeepTerms}

module _ {K L D : Type 0} (same : D → D → Bool) (elect : Elect L) where
  -- calls within one lifetime, one reply a call: a run without a restart
  abbrev pub IsLifetime : MemberFacts K L D → List (CallFacts D) → List (ReplyFacts K D) → MemberFacts K L D → Type 0
  IsLifetime m calls replies end = IsRun same elect m (map Calls calls) replies end

  -- a run from a start leads to a member, and these calls continue it within its lifetime
  pub record IsLifetimeOfRun (start : StartFacts K L D) (steps : List (StepFacts K L D))
      (replied : List (ReplyFacts K D))
      (m : MemberFacts K L D) (calls : List (CallFacts D)) (replies : List (ReplyFacts K D))
      (end : MemberFacts K L D) : Type 0 where
    pub accepted : recover_error same (new_state start.setup) start.floor start.now [] ≡ None
    pub reached : IsRun same elect (new_member same elect start) steps replied m
    pub life : IsLifetime m calls replies end

-- this holds of the first state and the last one, unless the member has failed by then; no state comes after a failure
abbrev pub WhileAlive : {K L D : Type 0} → (StateFacts K L D → StateFacts K L D → Type 0) → Option (StateFacts K L D)
    → Option (StateFacts K L D) → Type 0
WhileAlive Holds first None = Unit {0}
WhileAlive Holds None (Some last) = ⊥
WhileAlive Holds (Some first) (Some last) = Holds first last

-- neither the current view nor the last finalized one falls
pub record NeverFalls {K L D : Type 0} (first last : StateFacts K L D) : Type 0 where
  pub current : first.current ≤ last.current
  pub finalized : first.finalized ≤ last.finalized

-- the current view lies above the last finalized one, and has a timeout
pub record CurrentTimesOut {K L D : Type 0} (x : StateFacts K L D) : Type 0 where
  pub ahead : x.finalized < x.current
  pub timeout : has_timeout x ≡ true

-- wherever the rule of votes to notarize holds, the parent of the held proposal lies below the view, and nullifications
-- that the state knows at that moment cover each view between
abbrev pub NotarizesGapless : {K L D : Type 0} → (D → D → Bool) → Elect L → StateFacts K L D → Type 0
NotarizesGapless same elect x =
    (v : ℕ) (p : Proposal _) → NotarizeRule same elect x v → proposal_at x v ≡ Some p → (p.parent < v)
    × IsGapless x p.parent v

module _ {K L D : Type 0} where
  -- a poll returns a moment to wait for and its reason; or its member has failed, or its next retry passes the numbers
  -- of 64 bits
  abbrev pub PollIsAnswered : StepFacts K L D → ReplyFacts K D → Type 0
  PollIsAnswered (Calls (NextTimeout _)) replied =
      ((moment : ℕ × TimeoutReason) × (replied ≡ TimesOut (Some moment)))
      ⊎ (replied ≡ Refused Failed)
      ⊎ (replied ≡ Refused TimeOverflow)
  PollIsAnswered _ replied = Unit {0}

  -- the same for each poll among these steps
  abbrev pub PollsAreAnswered : List (StepFacts K L D) → List (ReplyFacts K D) → Type 0
  PollsAreAnswered (step ∷ steps) (replied ∷ replies) = PollIsAnswered step replied × PollsAreAnswered steps replies
  PollsAreAnswered _ _ = Unit {0}

-- a proposal of the view was seen that contradicts another
abbrev pub has_conflict : {K L D : Type 0} → StateFacts K L D → ℕ → Bool
has_conflict x v = (round_of x v).slot.conflict

-- the reply of a call says that it dropped the view
abbrev pub WasDropped : {K D : Type 0} → List (ReplyFacts K D) → ℕ → Type 0
WasDropped replies v = (views : List ℕ) × Contains replies (Dropped views) × Contains views v

-- the view was dropped, and lies below the retained views
pub record WasPruned {K L D : Type 0} (replies : List (ReplyFacts K D)) (last : StateFacts K L D) (v : ℕ) : Type 0 where
  pub dropped : WasDropped replies v
  pub below : v < min_active last

-- a conflict of a view stays until the view is pruned
abbrev pub ConflictsStay : {K L D : Type 0} → List (ReplyFacts K D) → StateFacts K L D → StateFacts K L D → Type 0
ConflictsStay replies first last =
    (v : ℕ) → has_conflict first v ≡ true → (has_conflict last v ≡ true) ⊎ WasPruned replies last v

-- what was dropped isn't tracked again
abbrev pub DroppedForGood : {K L D : Type 0} → List (ReplyFacts K D) → StateFacts K L D → StateFacts K L D → Type 0
DroppedForGood replies first last = (v : ℕ) → WasDropped replies v → is_tracked last v ≡ false

-- the kinds of certificates
pub data KindOfCertificate : Type 0 where
  Notarization : KindOfCertificate
  Nullification : KindOfCertificate
  Finalization : KindOfCertificate

module _ {D : Type 0} where
  -- the view whose certificate of this kind a call asks for, to broadcast it
  abbrev pub asked_by : KindOfCertificate → CallFacts D → List ℕ
  asked_by Notarization (BroadcastNotarization v) = v ∷ []
  asked_by Nullification (BroadcastNullification v) = v ∷ []
  asked_by Finalization (BroadcastFinalization v) = v ∷ []
  asked_by kind _ = []

module _ {K D : Type 0} where
  -- that view, if the reply has a certificate
  abbrev pub returned_by_call : KindOfCertificate → CallFacts D → ReplyFacts K D → List ℕ
  returned_by_call kind call (Returned (Some _)) = asked_by kind call
  returned_by_call kind call _ = []

  -- the views whose certificates of this kind are returned for broadcast, in order
  abbrev pub returned_in : KindOfCertificate → List (CallFacts D) → List (ReplyFacts K D) → List ℕ
  returned_in kind (call ∷ calls) (replied ∷ replies) = returned_by_call kind call replied
      ++ returned_in kind calls replies
  returned_in kind _ _ = []

  -- none is returned twice
  abbrev pub ReturnedOnce : List (CallFacts D) → List (ReplyFacts K D) → Type 0
  ReturnedOnce calls replies = (kind : KindOfCertificate) → IsDistinct nat_eq (returned_in kind calls replies)

module _ {D : Type 0} where
  -- which kind of certificate it is
  abbrev pub kind_of_certificate : CertificateFacts D → KindOfCertificate
  kind_of_certificate (Notarized _) = Notarization
  kind_of_certificate (Nullified _) = Nullification
  kind_of_certificate (Finalized _) = Finalization

module _ {K D : Type 0} where
  -- the certificate in a reply is of the kind and the view that its call asks for
  abbrev pub IsAsAsked : CallFacts D → ReplyFacts K D → Type 0
  IsAsAsked call replied =
      (kind : KindOfCertificate) (v : ℕ) (c : CertificateFacts D) → asked_by kind call ≡ v ∷ []
      → replied ≡ Returned (Some c)
      → (kind_of_certificate c ≡ kind) × ((certificate_round c).view ≡ v)

  -- the same for each call
  abbrev pub ReturnedAsRequested : List (CallFacts D) → List (ReplyFacts K D) → Type 0
  ReturnedAsRequested (call ∷ calls) (replied ∷ replies) = IsAsAsked call replied × ReturnedAsRequested calls replies
  ReturnedAsRequested _ _ = Unit {0}

module _ (K : Type 0) {L D : Type 0} (same : D → D → Bool) (elect : Elect L) where
  -- for each lifetime of any member
  abbrev pub OfEachLifetime : (MemberFacts K L D → List (CallFacts D) → List (ReplyFacts K D) → MemberFacts K L D
      → Type 0) → Type 0
  OfEachLifetime Holds =
      (m end : MemberFacts K L D) (calls : List (CallFacts D)) (replies : List (ReplyFacts K D))
      → IsLifetime same elect m calls replies end → Holds m calls replies end

  -- for each stretch of a lifetime that a run leads to, whose lifetimes share a length of terms
  abbrev pub OfEachStretch : (MemberFacts K L D → List (CallFacts D) → List (ReplyFacts K D) → MemberFacts K L D
      → Type 0) → Type 0
  OfEachStretch Holds =
      (term_length : ℕ) (start : StartFacts K L D) (before : List (StepFacts K L D)) (replied : List (ReplyFacts K D))
      (m end : MemberFacts K L D) (calls : List (CallFacts D)) (replies : List (ReplyFacts K D))
      → HasTerms term_length start.setup
      → KeepTerms term_length before
      → IsLifetimeOfRun same elect start before replied m calls replies end
      → Holds m calls replies end

  -- for the state that a run leads to, while the member has not failed, whose lifetimes share a length of terms
  abbrev pub OfEachState : (StateFacts K L D → Type 0) → Type 0
  OfEachState Holds =
      (term_length : ℕ) (start : StartFacts K L D) (steps : List (StepFacts K L D)) (replies : List (ReplyFacts K D))
      (end : MemberFacts K L D)
      → HasTerms term_length start.setup
      → KeepTerms term_length steps
      → IsRun same elect (new_member same elect start) steps replies end
      → MatchOption end.life (Unit {0}) Holds

  -- for the steps of each run and their replies, whose lifetimes share a length of terms
  abbrev pub OfEachRun : (List (StepFacts K L D) → List (ReplyFacts K D) → Type 0) → Type 0
  OfEachRun Holds =
      (term_length : ℕ) (start : StartFacts K L D) (steps : List (StepFacts K L D)) (replies : List (ReplyFacts K D))
      (end : MemberFacts K L D)
      → HasTerms term_length start.setup
      → KeepTerms term_length steps
      → IsRun same elect (new_member same elect start) steps replies end
      → Holds steps replies

  -- calls of a run with no restart among them are such a stretch
  abbrev pub StretchesAreLifetimes : Type 0
  StretchesAreLifetimes =
      (start : StartFacts K L D) (before after : List (StepFacts K L D)) (calls : List (CallFacts D))
      (replied replies rest : List (ReplyFacts K D))
      → length before ≡ length replied
      → length calls ≡ length replies
      → IsRunFrom same elect start (before ++ (map Calls calls ++ after)) (replied ++ (replies ++ rest))
      → (m end : MemberFacts K L D) × IsLifetimeOfRun same elect start before replied m calls replies end
