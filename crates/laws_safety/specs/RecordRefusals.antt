-- What a member's own record may be refused for.
use Rattle.std.specs.Prelude.{◌≡◌, ◌⊎◌, ℕ, ◌≤◌, ◌^◌, Bool, true, false, List, [], ◌∷◌, ◌++◌, Contains, Some, None, Err}
use Rattle.simplex_types.specs.Certificates.{ProposalFacts, Notarized, ArtifactFacts, Verdict, Accepted}
use Rattle.simplex_types.specs.Config.{FloorFacts, Genesis, Finalized}
use Rattle.simplex_types.specs.declared.types.messages.Proposal.{Proposal}
use Rattle.simplex_types.specs.declared.types.messages.Subject.TheVariants as subject
use Rattle.simplex_types.specs.declared.types.numbers.Round.{Round}
use Rattle.simplex_voter.specs.Facts.{Elect}
use Rattle.simplex_voter.specs.Refusals.{names_too_large}
use Rattle.simplex_record.specs.declared.record.error.RecoverError.{RecoverError}
use Rattle.simplex_record.specs.declared.record.error.RecoverError.TheVariants as error
use Rattle.simplex_member.specs.Calls.{Proposed, ReplyFacts}
use Rattle.simplex_member.specs.MemberFacts.{MemberFacts}
use Rattle.simplex_record.specs.Recovery.{recover_error}
use Rattle.simplex_member.specs.Restarts.{RestartFacts, IsByView, cut_member, IsRestart}
use Rattle.simplex_member.specs.Runs.{StepFacts, Calls, IsRun, EndsRunFrom}
use Rattle.simplex_record.specs.Start.{StartFacts, new_state}
use Rattle.laws_safety.specs.Executions.{new_member}
use Rattle.laws_safety.specs.Traces.{TraceEvent, Accepts, of_floor, trace_of_steps}
use Rattle.laws_safety.specs.Lawful.{HasSigned}
use Rattle.laws_safety.specs.TermLengths.{HasTerms, KeepTerms}

-- the error comes from outside: from the next start's epoch, key, floor or moment, or from a proposal or view that
-- others sent; not from the order of the entries
abbrev pub IsFromOutside : RecoverError → Type 0
IsFromOutside error.OtherEpoch = Unit {0}
IsFromOutside error.ZeroView = Unit {0}
IsFromOutside error.ViewTooLarge = Unit {0}
IsFromOutside error.ForeignSigner = Unit {0}
IsFromOutside error.ParentNotBelow = Unit {0}
IsFromOutside error.TimeOverflow = Unit {0}
IsFromOutside _ = ⊥

-- the errors that refuse a restart: those, or more views to be retained of a pruned record, or out of memory
abbrev pub IsExcused : RecoverError → Type 0
IsExcused found = IsFromOutside found ⊎ (found ≡ error.RetentionGrown) ⊎ (found ≡ error.OutOfMemory)

-- before each verdict of its record, in the record's own order, there is a notarization of the view
abbrev pub VerdictsFollowNotarizations : {K L D : Type 0} → MemberFacts K L D → Type 0
VerdictsFollowNotarizations {K} {L} {D} m =
    (before after : List (ArtifactFacts D)) (round : Round) (success : Bool)
    → m.entries ≡ before ++ Verdict round success ∷ after
    → (c : ProposalFacts D) × Contains before (Accepted (Notarized c)) × (c.proposal.round.view ≡ round.view)

-- a notarization was accepted whose proposal names no earlier view as its parent
abbrev pub AcceptedParentAbove : {D : Type 0} → List (TraceEvent D) → Type 0
AcceptedParentAbove {D} trace =
    (p : Proposal D) × Contains trace (Accepts (subject.Notarize p)) × (p.round.view ≤ p.parent)

-- the proposal's payload was passed in as what this member built in its view
abbrev pub HasBuiltIn : {K L D : Type 0} → List (StepFacts K L D) → Proposal D → Type 0
HasBuiltIn steps p = (now : ℕ) × Contains steps (Calls (Proposed p.round.view p.payload now))

-- the member voted in a view above each that a certificate may have: to nullify it, or to notarize what it built there
abbrev pub VotedTooHigh : {K L D : Type 0} → List (StepFacts K L D) → List (TraceEvent D) → Type 0
VotedTooHigh {K} {L} {D} steps trace =
    ((round : Round) × HasSigned trace (subject.Nullify round) × (2 ^ 63 ≤ round.view))
    ⊎ ((p : Proposal D) × HasSigned trace (subject.Notarize p) × (2 ^ 63 ≤ p.round.view) × HasBuiltIn steps p)

-- a floor's finalization names such a view
abbrev pub is_floor_too_large : {D : Type 0} → FloorFacts D → Bool
is_floor_too_large (Genesis _) = false
is_floor_too_large (Finalized c) = names_too_large c.proposal

module _ (K : Type 0) {L D : Type 0} (same : D → D → Bool) (elect : Elect L) where
  -- for each member that a run leads to, whose lifetimes share a length of terms
  abbrev pub OfEachEnd : (MemberFacts K L D → Type 0) → Type 0
  OfEachEnd Holds =
      (term_length : ℕ) (start : StartFacts K L D) (steps : List (StepFacts K L D)) (replies : List (ReplyFacts K D))
      (end : MemberFacts K L D)
      → HasTerms term_length start.setup
      → KeepTerms term_length steps
      → IsRun same elect (new_member same elect start) steps replies end
      → Holds end

  -- for any next restart: what remains of the record, by view, is refused only for what comes from outside
  abbrev pub RecordIsTaken : MemberFacts K L D → Type 0
  RecordIsTaken end =
      (next : RestartFacts K L D) (copy : List (ArtifactFacts D)) (found : RecoverError)
      → IsByView (cut_member end next.drop next.prune).entries copy
      → recover_error same (new_state next.start.setup) next.start.floor next.start.now copy ≡ Some found
      → IsFromOutside found

  -- and the restart itself only for such a reason
  abbrev pub RestartIsExcused : MemberFacts K L D → Type 0
  RestartIsExcused end =
      (left : MemberFacts K L D) (next : RestartFacts K L D) (found : RecoverError)
      → IsRestart same elect end next (Err found) left → IsExcused found

  -- it is refused for a parent only if a notarization with such a parent was accepted
  abbrev pub ParentsAreAccepted : Type 0
  ParentsAreAccepted =
      (term_length : ℕ) (start : StartFacts K L D) (steps : List (StepFacts K L D)) (replies : List (ReplyFacts K D))
      (end : MemberFacts K L D)
      → HasTerms term_length start.setup
      → KeepTerms term_length steps
      → IsRun same elect (new_member same elect start) steps replies end
      → (next : RestartFacts K L D) (copy : List (ArtifactFacts D))
      → IsByView (cut_member end next.drop next.prune).entries copy
      → recover_error same (new_state next.start.setup) next.start.floor next.start.now copy ≡ Some error.ParentNotBelow
      → AcceptedParentAbove (of_floor start.floor ++ trace_of_steps steps replies)

  -- for a run whose start is accepted, it is refused for a view that is too large only if the next floor names one, or
  -- the member voted in one
  abbrev pub HighViewsAreVotedFor : Type 0
  HighViewsAreVotedFor =
      (term_length : ℕ) (start : StartFacts K L D) (steps : List (StepFacts K L D)) (replies : List (ReplyFacts K D))
      (end : MemberFacts K L D)
      → HasTerms term_length start.setup
      → KeepTerms term_length steps
      → recover_error same (new_state start.setup) start.floor start.now [] ≡ None
      → IsRun same elect (new_member same elect start) steps replies end
      → (next : RestartFacts K L D) (copy : List (ArtifactFacts D))
      → IsByView (cut_member end next.drop next.prune).entries copy
      → recover_error same (new_state next.start.setup) next.start.floor next.start.now copy ≡ Some error.ViewTooLarge
      → (is_floor_too_large next.start.floor ≡ true)
      ⊎ VotedTooHigh steps (of_floor start.floor ++ trace_of_steps steps replies)

  -- the same for a run, at its start or at one of its restarts
  abbrev pub RunsAreExcused : Type 0
  RunsAreExcused =
      (term_length : ℕ) (start : StartFacts K L D) (steps : List (StepFacts K L D)) (found : RecoverError)
      → HasTerms term_length start.setup
      → KeepTerms term_length steps
      → EndsRunFrom {K = K} same elect start steps found
      → IsExcused found
