-- What led a member to a view: the certificates that it accepted, and the true verdicts that it received.
use Rattle.std.specs.Prelude.{◌≡◌, ℕ, ◌+◌, ◌<◌, ◌⊎◌, Bool, true, List, [], ◌∷◌, ◌++◌, Contains, Some}
use Rattle.simplex_types.specs.Terms.{next_term_start}
use Rattle.simplex_types.specs.declared.types.messages.Proposal.{Proposal}
use Rattle.simplex_types.specs.declared.types.messages.Subject.TheVariants as subject
use Rattle.simplex_types.specs.declared.types.numbers.Round.{Round}
use Rattle.simplex_round.specs.Round.{is_judged}
use Rattle.simplex_voter.specs.Facts.{StateFacts, Elect, round_of}
use Rattle.simplex_voter.specs.Payloads.{explicit_ancestry_payload}
use Rattle.simplex_member.specs.Calls.{ReplyFacts, Judged}
use Rattle.laws_safety.specs.Continuations.{ExecutionContinues}
use Rattle.laws_safety.specs.Traces.{TraceEvent, Accepts}
use Rattle.laws_safety.specs.Lawful.{HasSigned, SignsAfter}
use Rattle.laws_safety.specs.Executions.{Execution, trace_of, OfEachMember}
use Rattle.laws_progress.specs.NetworkStates.{RunsWith}

-- the verdict in a reply, with the proposal whose notarization was stored
abbrev pub judged_by : {K D : Type 0} → ReplyFacts K D → List (Bool × Proposal D)
judged_by (Judged success (Some c)) = (success, c.proposal) ∷ []
judged_by _ = []

-- those of the replies in order
abbrev pub judged_in : {K D : Type 0} → List (ReplyFacts K D) → List (Bool × Proposal D)
judged_in [] = []
judged_in (replied ∷ replies) = judged_by replied ++ judged_in replies

-- all verdicts that a member received, oldest first
abbrev pub judged_of : {K L D : Type 0} → Execution K L D → List (Bool × Proposal D)
judged_of s = judged_in s.replies

-- a view of this epoch
abbrev pub IsInEpoch : ℕ → ℕ → Round → Type 0
IsInEpoch epoch view round = (round.view ≡ view) × (round.epoch ≡ epoch)

module _ {D : Type 0} where
  -- a finalization of the view was accepted
  abbrev pub HasFinalized : ℕ → List (TraceEvent D) → ℕ → Type 0
  HasFinalized epoch trace view =
      (p : Proposal D) × Contains trace (Accepts (subject.Finalize p)) × IsInEpoch epoch view p.round

  -- this verdict was received on a proposal of the view
  abbrev pub HasJudged : Bool → ℕ → List (Bool × Proposal D) → ℕ → Type 0
  HasJudged success epoch verdicts view =
      (p : Proposal D) × Contains verdicts (success, p) × IsInEpoch epoch view p.round

  -- a proposal of the view was certified
  abbrev pub HasCertified : ℕ → List (Bool × Proposal D) → ℕ → Type 0
  HasCertified epoch verdicts view = HasJudged true epoch verdicts view

  -- a nullification of the view was accepted
  abbrev pub HasNullified : ℕ → List (TraceEvent D) → ℕ → Type 0
  HasNullified epoch trace view =
      (round : Round) × Contains trace (Accepts (subject.Nullify round)) × IsInEpoch epoch view round

-- a view is the first one, or lies just above one that was finalized or certified, or begins the term after one that
-- was nullified
pub data IsLedTo {D : Type 0} (term_length epoch : ℕ) (trace : List (TraceEvent D))
    (verdicts : List (Bool × Proposal D)) (view : ℕ) : Type 0 where
  First : view ≡ 1 → IsLedTo term_length epoch trace verdicts view
  PastFinalized : (below : ℕ) → HasFinalized epoch trace below → view ≡ below + 1
      → IsLedTo term_length epoch trace verdicts view
  PastCertified : (below : ℕ) → HasCertified epoch verdicts below → view ≡ below + 1
      → IsLedTo term_length epoch trace verdicts view
  PastNullified : (below : ℕ) → HasNullified epoch trace below → view ≡ next_term_start term_length below
      → IsLedTo term_length epoch trace verdicts view

module _ (K : Type 0) {L D : Type 0} (same : D → D → Bool) (elect : Elect L) where
  -- while a member has not failed, its current view was led to in its epoch
  abbrev pub CurrentViewsAreLedTo : Type 0
  CurrentViewsAreLedTo =
      OfEachMember K same elect (λ term_length s. (x : StateFacts K L D) → RunsWith same elect s x
      → IsLedTo term_length x.settings.epoch (trace_of s) (judged_of s) x.current)

  -- while a member has not failed, each view that a proposal may be built on, but genesis, was finalized or certified
  abbrev pub ExplicitViewsAreAccepted : Type 0
  ExplicitViewsAreAccepted =
      OfEachMember K same elect (λ term_length s. (x : StateFacts K L D) → RunsWith same elect s x
      → (v : ℕ) (payload : D) → 0 < v → explicit_ancestry_payload x v ≡ Some payload
      → HasFinalized x.settings.epoch (trace_of s) v ⊎ HasCertified x.settings.epoch (judged_of s) v)

  -- each view that a member voted to nullify was led to in the vote's epoch
  abbrev pub NullifiedViewsAreLedTo : Type 0
  NullifiedViewsAreLedTo =
      OfEachMember K same elect (λ term_length s. (round : Round) → HasSigned (trace_of s) (subject.Nullify round)
      → IsLedTo term_length round.epoch (trace_of s) (judged_of s) round.view)

  -- and before that vote: by what the member had done and received in the execution up to it
  abbrev pub NullifyVotesComeAfter : Type 0
  NullifyVotesComeAfter =
      OfEachMember K same elect
      (λ term_length s. (before : List (TraceEvent D)) (round : Round)
      → SignsAfter (trace_of s) before (subject.Nullify round)
      → (earlier : Execution K L D) × ExecutionContinues earlier s × (trace_of earlier ≡ before)
      × IsLedTo term_length round.epoch before (judged_of earlier) round.view)

  -- while a member has not failed, each verdict that it stores was received
  abbrev pub VerdictsAreReported : Type 0
  VerdictsAreReported =
      OfEachMember K same elect (λ term_length s. (x : StateFacts K L D) → RunsWith same elect s x
      → (v : ℕ) (success : Bool) → is_judged success (round_of x v).certification ≡ true
      → HasJudged success x.settings.epoch (judged_of s) v)

  -- each proposal that was judged has a notarization that was accepted
  abbrev pub JudgedAreNotarized : Type 0
  JudgedAreNotarized =
      OfEachMember K same elect
      (λ term_length s. (success : Bool) (p : Proposal D) → Contains (judged_of s) (success, p)
      → Contains (trace_of s) (Accepts (subject.Notarize p)))
