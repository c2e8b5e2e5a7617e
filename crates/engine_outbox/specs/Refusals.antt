-- Ignored calls, and what they change.
use Rattle.std.specs.Prelude.{◌≡◌, ◌⊎◌, ℕ, Bool, true, false, not, Some, None}
use Rattle.simplex_types.specs.declared.types.fault.Fault.{Fault}
use Rattle.simplex_types.specs.declared.types.fault.Fault.TheVariants.{OutOfMemory}
use Rattle.simplex_voter.specs.Facts.{StateFacts, round_at}
use Rattle.simplex_member.specs.Calls.{CallFacts, TriggerTimeout, Certified, ReplyFacts, Triggered, Judged, Refused, NotAllowed}
use Rattle.simplex_member.specs.MemberFacts.{MemberFacts}
use Rattle.simplex_member.specs.OutstandingWork.{without_offer}

-- a fault other than out of memory
abbrev pub is_lasting : Fault → Bool
is_lasting OutOfMemory = false
is_lasting _ = true

module _ {K D : Type 0} where
  -- the call is refused, and not because of memory
  abbrev pub is_refused : ReplyFacts K D → Bool
  is_refused (Refused fault) = is_lasting fault
  is_refused NotAllowed = true
  is_refused _ = false

  -- the same, or a reason of a timeout doesn't count, or a verdict is on a view that is not tracked
  abbrev pub says_nothing : ReplyFacts K D → Bool
  says_nothing (Triggered latched) = not latched
  says_nothing (Judged _ None) = true
  says_nothing answer = is_refused answer

-- the moment was noted, and otherwise the same is known, of each view too
pub record HasNoted {K L D : Type 0} (now : ℕ) (before after : StateFacts K L D) : Type 0 where
  pub rounds : (view : ℕ) → round_at after view ≡ round_at before view
  pub same : after ≡ record before { moment = now; rounds = after.rounds }

-- nothing has changed except that its state noted the moment
pub record IsNoted {K L D : Type 0} (now : ℕ) (m left : MemberFacts K L D) : Type 0 where
  pub before : StateFacts K L D
  pub after : StateFacts K L D
  pub alive : m.life ≡ Some before
  pub noted : HasNoted now before after
  pub same : left ≡ record m { life = Some after }

module _ {K L D : Type 0} where
  -- the member has no verdict to wait for in the view
  abbrev pub without_offer_at : ℕ → MemberFacts K L D → MemberFacts K L D
  without_offer_at view m = record m { outstanding_work = without_offer m.outstanding_work view }

  -- what an ignored call changes: nothing; or a reason of a timeout notes its moment, and so does a verdict, for which
  -- nothing waits any more
  abbrev pub IsLeftByCall : CallFacts D → MemberFacts K L D → MemberFacts K L D → Type 0
  IsLeftByCall (TriggerTimeout _ _ now) m left = (left ≡ m) ⊎ IsNoted now m left
  IsLeftByCall (Certified view _ now) m left = (left ≡ m) ⊎ IsNoted now (without_offer_at view m) left
  IsLeftByCall _ m left = left ≡ m
