-- What is known of a member, and how a call changes it.
use Rattle.std.specs.Prelude.{ℕ, Bool, true, ◌≡◌, ◌⊎◌, if◌then◌else◌, List, ◌++◌, Option, Some, None}
use Rattle.simplex_types.specs.Certificates.{ArtifactFacts}
use Rattle.simplex_types.specs.declared.types.fault.Fault.{Fault}
use Rattle.simplex_types.specs.declared.types.fault.Fault.TheVariants as fault
use Rattle.simplex_voter.specs.Facts.{StateFacts, Elect}
use Rattle.simplex_record.specs.Votes.{SignedVote}
use Rattle.simplex_member.specs.CallConditions.{is_allowed, fault_of, needs_room, may_fall}
use Rattle.simplex_member.specs.Calls.{CallFacts, ReplyFacts, Refused, NotAllowed}
use Rattle.simplex_member.specs.CallSemantics.{answer, after_call, outstanding_work_after, recorded_by}
use Rattle.simplex_member.specs.OutstandingWork.{OutstandingWork, no_outstanding_work}

-- what is known of a member
pub record MemberFacts (K L D : Type 0) : Type 0 where
  -- what its state knows; `None` while the member has failed
  pub life : Option (StateFacts K L D)
  -- its open requests
  pub outstanding_work : OutstandingWork K D
  -- its record, oldest entry first
  pub entries : List (ArtifactFacts D)
  -- how many of its first entries are closed to later drops
  pub closed : ℕ
  -- its record was pruned
  pub is_pruned : Bool
  -- how many views below the last finalized one its last lifetime retained, and the smallest such number of its
  -- lifetimes
  pub retention : ℕ
  pub least_retention : ℕ

-- a member, as contracts see it: what is known of it, and the votes of its record with their signatures
pub record SignedMember (K L D G : Type 0) : Type 0 where
  pub facts : MemberFacts K L D
  -- oldest first
  pub votes : List (SignedVote D G)

-- nothing is known of a failed member's state
abbrev pub living : {K L D : Type 0} → Bool → StateFacts K L D → Option (StateFacts K L D)
living failed x = if failed then None else Some x

-- nothing is open once the member has failed
abbrev pub open_while : {K D : Type 0} → Bool → OutstandingWork K D → OutstandingWork K D
open_while failed o = if failed then no_outstanding_work else o

module _ {K D : Type 0} where
  -- the reply, unless there is a fault
  abbrev pub unless_refused : Option Fault → ReplyFacts K D → ReplyFacts K D
  unless_refused None replied = replied
  unless_refused (Some fault) replied = Refused fault

module _ {K L D : Type 0} where
  -- the record stays, and what is known of it
  abbrev pub without_lifetime : MemberFacts K L D → MemberFacts K L D
  without_lifetime m = record m { life = None; outstanding_work = no_outstanding_work }

  -- its record is as it was, with more after it
  abbrev pub HasGrown : MemberFacts K L D → MemberFacts K L D → Type 0
  HasGrown m left = (more : List (ArtifactFacts D)) × (left.entries ≡ m.entries ++ more)

  -- the next member, unless there is a fault
  abbrev pub unless_retained : Option Fault → MemberFacts K L D → MemberFacts K L D → MemberFacts K L D
  unless_retained None m next = next
  unless_retained (Some fault) m next = m

module _ {K L D : Type 0} (same : D → D → Bool) (elect : Elect L) where
  -- the reply of a member that has not failed
  abbrev pub reply_of : StateFacts K L D → OutstandingWork K D → CallFacts D → ReplyFacts K D
  reply_of x o call = if is_allowed x o call
      then unless_refused (fault_of x call) (answer same elect x o call) else NotAllowed

  -- with the state and the open requests after a call, and with its new entries of the record
  abbrev pub with_call : StateFacts K L D → MemberFacts K L D → CallFacts D → MemberFacts K L D
  with_call x m call = record m {
    life = Some (after_call same elect x m.outstanding_work call);
    outstanding_work = outstanding_work_after same elect x m.outstanding_work call;
    entries = m.entries ++ recorded_by same elect x call;
  }

  -- a member that has not failed, after a call
  abbrev pub left_of : StateFacts K L D → MemberFacts K L D → CallFacts D → MemberFacts K L D
  left_of x m call = if is_allowed x m.outstanding_work call
      then unless_retained (fault_of x call) m (with_call x m call) else m

  -- after running out of memory: there was no room before the state was called, and nothing has changed; or there was
  -- no fault, and the member has failed
  abbrev pub IsLeftOutOfMemory : StateFacts K L D → MemberFacts K L D → CallFacts D → MemberFacts K L D → Type 0
  IsLeftOutOfMemory x m call left =
      ((needs_room x call ≡ true) × (left ≡ m))
      ⊎ ((fault_of x call ≡ None) × (may_fall x call ≡ true) × (left ≡ without_lifetime m))

  -- a member that has not failed replies by the definitions, or an allowed call ran out of memory
  abbrev pub Answers : StateFacts K L D → MemberFacts K L D → CallFacts D → ReplyFacts K D → MemberFacts K L D → Type 0
  Answers x m call replied left =
      ((replied ≡ reply_of x m.outstanding_work call) × (left ≡ left_of x m call))
      ⊎ ((is_allowed x m.outstanding_work call ≡ true) × (replied ≡ Refused fault.OutOfMemory)
      × IsLeftOutOfMemory x m call left)

  -- a member that has failed refuses each call, and stays unchanged
  abbrev pub AnswersAlive : Option (StateFacts K L D) → MemberFacts K L D → CallFacts D → ReplyFacts K D
      → MemberFacts K L D → Type 0
  AnswersAlive None m call replied left = (replied ≡ Refused fault.Failed) × (left ≡ m)
  AnswersAlive (Some x) m call replied left = Answers x m call replied left

  -- a call of a member, its reply and the member after it
  unfoldable pub IsCall : MemberFacts K L D → CallFacts D → ReplyFacts K D → MemberFacts K L D → Type 0
  IsCall m call replied left = AnswersAlive m.life m call replied left
