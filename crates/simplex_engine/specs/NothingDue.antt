-- A member has nothing new.
use Rattle.std.specs.Prelude.{◌≡◌, ◌≤◌, ℕ, Bool, true, false, List, [], ◌∷◌, Some, None}
use Rattle.simplex_voter.specs.Facts.{StateFacts, Elect}
use Rattle.simplex_voter.specs.DueVotes.{is_due}
use Rattle.simplex_voter.specs.declared.voter.verify.Verify.TheVariants.{Wait}
use Rattle.simplex_member.specs.Calls.{CallFacts, TryVerify, TryPropose, CertifyCandidates, Prune, ReplyFacts, Standing, Requested, Candidates}
use Rattle.simplex_member.specs.MemberFacts.{MemberFacts, IsCall}
use Rattle.simplex_engine.specs.Timeouts.{IsTimed}

-- a reply with no proposal to verify, no missing certificate for one, no block to build and no proposal to certify
abbrev pub is_nothing : {K D : Type 0} → ReplyFacts K D → Bool
is_nothing (Standing Wait) = true
is_nothing (Requested None) = true
is_nothing (Candidates [] _) = true
is_nothing _ = false

-- the calls for work of the application: a proposal to verify, a block to build, proposals to certify
abbrev pub for_work : {D : Type 0} → List (CallFacts D)
for_work = TryVerify ∷ TryPropose ∷ CertifyCandidates ∷ []

module _ {K L D : Type 0} (same : D → D → Bool) (elect : Elect L) where
  -- a call has such a reply
  pub record ReturnsNothing (before : MemberFacts K L D) (call : CallFacts D) (after : MemberFacts K L D) : Type 0 where
    pub answer : ReplyFacts K D
    pub nothing : is_nothing answer ≡ true
    pub answered : IsCall same elect before call answer after

  -- each of these calls has, one after the other
  abbrev pub ReturnNothing : MemberFacts K L D → List (CallFacts D) → MemberFacts K L D → Type 0
  ReturnNothing before [] after = after ≡ before
  ReturnNothing before (call ∷ rest) after =
      (between : MemberFacts K L D) × ReturnsNothing before call between × ReturnNothing between rest after

  -- a living member has cast each vote that its rule allows in a view from the last finalized one on, and has returned
  -- each certificate of these views
  pub record HasNothingDue (member : MemberFacts K L D) : Type 0 where
    pub state : StateFacts K L D
    pub alive : member.life ≡ Some state
    pub nothing_due : (view : ℕ) → state.finalized ≤ view → is_due same elect state view ≡ false

  -- asked for work for the application, the member has none; then it drops the views below those that it retains; then,
  -- asked at this moment for its next timeout, it names one that is awaited
  pub record IsQuiet (now timeout : ℕ) (before after : MemberFacts K L D) : Type 0 where
    pub between : MemberFacts K L D
    pub asked : ReturnNothing before for_work between
    pub dropped : ReplyFacts K D
    pub left : MemberFacts K L D
    pub drops : IsCall same elect between Prune dropped left
    pub timed : IsTimed same elect now timeout left after

  -- its last calls were these, and it has nothing due
  pub record HasNothingNew (now timeout : ℕ) (member : MemberFacts K L D) : Type 0 where
    pub before : MemberFacts K L D
    pub quiet : IsQuiet now timeout before member
    pub own : HasNothingDue member
