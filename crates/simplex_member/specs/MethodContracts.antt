-- The result of a call's own method: a reply of its kind, or why it is refused.
use Rattle.std.specs.Prelude.{◌≡◌, ◌⊎◌, ℕ, Bool, true, false, Option, Some, None, IfSome, Result, Ok, Err}
use Rattle.simplex_types.specs.declared.types.fault.Fault.TheVariants as fault
use Rattle.simplex_round.specs.Round.{is_nullify, is_finalize}
use Rattle.simplex_voter.specs.Facts.{StateFacts, Elect, round_of}
use Rattle.simplex_member.specs.CallConditions.{is_allowed, fault_of}
use Rattle.simplex_member.specs.Calls.{CallFacts, AddNotarization, AddNullification, AddFinalization, SetProposal, TryPropose, Proposed, SupersedeProposalRequest, PendingHandoffAbandonment, ReleaseProposalRequest, TryVerify, Verified, VerificationFailed, ConstructNotarize, CertifyCandidates, SetCertifyHandle, Certified, ConstructNullify, ConstructFinalize, BroadcastNotarization, BroadcastNullification, BroadcastFinalization, GetBestCertificate, TriggerTimeout, NextTimeout, Prune, ReplyFacts, Added, AddedNullification, Judged, Nullify, Finalize, Notarize, Returned, Dropped, Requested, Standing, Answered, Abandoned, Candidates, Released, Triggered, TimesOut, Done, Refused, NotAllowed}
use Rattle.simplex_member.specs.MemberFacts.{MemberFacts, without_lifetime, with_call}
use Rattle.simplex_member.specs.CallSemantics.{answer}
use Rattle.simplex_member.specs.declared.member.refusal.Refusal.{Refusal}
use Rattle.simplex_member.specs.declared.member.refusal.Refusal.TheVariants as refusal

module _ {K D : Type 0} where
  -- the reply to a refused call
  abbrev pub refusal_facts : Refusal → ReplyFacts K D
  refusal_facts (refusal.Fault due) = Refused due
  refusal_facts refusal.NotAllowed = NotAllowed

  -- the reply for a result
  abbrev pub result_facts : {T : Type 0} → (T → ReplyFacts K D) → Result T Refusal → ReplyFacts K D
  result_facts tell (Ok answered) = tell answered
  result_facts tell (Err refused) = refusal_facts refused

  -- whether a call may have this reply: one of its kind, or a refusal
  abbrev pub is_reply_to : ReplyFacts K D → CallFacts D → Bool
  is_reply_to (Refused due) call = true
  is_reply_to NotAllowed call = true
  is_reply_to (Added _ _) (AddNotarization _) = true
  is_reply_to (AddedNullification _) (AddNullification _ _) = true
  is_reply_to (Added _ _) (AddFinalization _ _) = true
  is_reply_to (Answered _) (SetProposal _ _) = true
  is_reply_to (Requested _) TryPropose = true
  is_reply_to (Answered _) (Proposed _ _ _) = true
  is_reply_to (Answered _) (SupersedeProposalRequest _) = true
  is_reply_to (Abandoned _) (PendingHandoffAbandonment _) = true
  is_reply_to (Released _) (ReleaseProposalRequest _) = true
  is_reply_to (Standing _) TryVerify = true
  is_reply_to (Answered _) (Verified _) = true
  is_reply_to Done (VerificationFailed _ _ _) = true
  is_reply_to (Notarize _) (ConstructNotarize _) = true
  is_reply_to (Candidates _ _) CertifyCandidates = true
  is_reply_to Done (SetCertifyHandle _ _) = true
  is_reply_to (Judged _ _) (Certified _ _ _) = true
  is_reply_to (Nullify _) (ConstructNullify _) = true
  is_reply_to (Finalize _) (ConstructFinalize _) = true
  is_reply_to (Returned _) (BroadcastNotarization _) = true
  is_reply_to (Returned _) (BroadcastNullification _) = true
  is_reply_to (Returned _) (BroadcastFinalization _) = true
  is_reply_to (Returned _) GetBestCertificate = true
  is_reply_to (Triggered _) (TriggerTimeout _ _ _) = true
  is_reply_to (TimesOut _) (NextTimeout _) = true
  is_reply_to (Dropped _) Prune = true
  is_reply_to _ _ = false

  -- this holds if the reply is no refusal
  abbrev pub IfAnswered : ReplyFacts K D → Type 0 → Type 0
  IfAnswered (Refused due) claim = Unit {0}
  IfAnswered NotAllowed claim = Unit {0}
  IfAnswered _ claim = claim

  -- this holds of the refusal, if it is one
  abbrev pub IfRefused : ReplyFacts K D → (Refusal → Type 0) → Type 0
  IfRefused (Refused due) claim = claim (refusal.Fault due)
  IfRefused NotAllowed claim = claim refusal.NotAllowed
  IfRefused _ claim = Unit {0}

module _ {K L D : Type 0} where
  -- a refusal changes nothing; but after running out of memory the member may have failed
  abbrev pub UnchangedButLifetime : MemberFacts K L D → Refusal → MemberFacts K L D → Type 0
  UnchangedButLifetime m (refusal.Fault fault.OutOfMemory) left = (left ≡ m) ⊎ (left ≡ without_lifetime m)
  UnchangedButLifetime m _ left = left ≡ m

module _ {K L D : Type 0} (same : D → D → Bool) (elect : Elect L) where
  -- a call that is answered: the member has not failed, what the call requires holds, and there is no fault; it has the
  -- reply of its definition, and leaves the state, the open requests and the record of its definition
  pub record IsAnswered (m : MemberFacts K L D) (call : CallFacts D) (replied : ReplyFacts K D)
      (left : MemberFacts K L D) : Type 0 where
    pub state : StateFacts K L D
    pub alive : m.life ≡ Some state
    pub allowed : is_allowed state m.outstanding_work call ≡ true
    pub not_due : fault_of state call ≡ None
    pub replied_so : replied ≡ answer same elect state m.outstanding_work call
    pub left_so : left ≡ with_call same elect state m call

module _ {K L D : Type 0} where
  -- while the member has not failed, a vote to notarize the view is decided
  abbrev pub HasNotarizeVote : MemberFacts K L D → ℕ → Type 0
  HasNotarizeVote m v = IfSome m.life (λ x. (round_of x v).notarize_decided ≡ true)

  -- a vote to nullify it
  abbrev pub HasNullifyVote : MemberFacts K L D → ℕ → Type 0
  HasNullifyVote m v = IfSome m.life (λ x. is_nullify (round_of x v).decision ≡ true)

  -- a vote to finalize it
  abbrev pub HasFinalizeVote : MemberFacts K L D → ℕ → Type 0
  HasFinalizeVote m v = IfSome m.life (λ x. is_finalize (round_of x v).decision ≡ true)

  -- while the member has not failed, such a call has nothing more to return of the view
  abbrev pub HasNoneLeft : {A : Type 0} → (StateFacts K L D → ℕ → Option A) → MemberFacts K L D → ℕ → Type 0
  HasNoneLeft answer m v = IfSome m.life (λ x. answer x v ≡ None)
