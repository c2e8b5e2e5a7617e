-- The contract of a part of a call gives the member's reply, and the member after it.
use Rattle.std.proofs.Common.{◌≡◌, ◌⊎◌, refl, ap, sym, ◌∙◌, ℕ, Bool, true, false, List, ◌++◌, Option, Some, None, option_map, option_and_then, Result, Ok, Err, OnOk, OnErr, IfOk, IfErr, IfSome, IsErrAnd, MatchResult, inl, inr}
use Rattle.std.proofs.lemmas.List.{append-nil}
use Rattle.std.proofs.lemmas.Result.{IfOk-weaker}
use Rattle.simplex_types.specs.Certificates.{ArtifactFacts}
use Rattle.simplex_types.specs.declared.types.fault.Fault.{Fault}
use Rattle.simplex_types.specs.declared.types.fault.Fault.TheVariants as fault
use Rattle.simplex_types.specs.declared.types.messages.Finalize as final
use Rattle.simplex_types.specs.declared.types.messages.Notarize as first
use Rattle.simplex_types.specs.declared.types.messages.Nullify as other
use Rattle.simplex_types.specs.declared.types.messages.Subject.{Subject}
use Rattle.simplex_voter.specs.Facts.{StateFacts, Elect}
use Rattle.simplex_voter.specs.Refusals.{is_started, first_fault, HasFailed}
use Rattle.simplex_voter.specs.Votes.{notarize_answer, nullify_answer, finalize_answer, IsSignedNotarize, IsSignedNullify, IsSignedFinalize}
use Rattle.simplex_member.specs.CallConditions.{is_allowed, fault_of, may_fall}
use Rattle.simplex_member.specs.Calls.{CallFacts, ReplyFacts, Refused, NotAllowed, reply_notarize, reply_nullify, reply_finalize}
use Rattle.simplex_member.specs.CallSemantics.{answer, after_call, outstanding_work_after, recorded_by, if_new, notarize_vote, nullify_vote, finalize_vote}
use Rattle.simplex_member.specs.MemberFacts.{MemberFacts, living, open_while, IsCall}
use Rattle.simplex_member.specs.MethodContracts.{result_facts, IfAnswered, UnchangedButLifetime, IsAnswered}
use Rattle.simplex_member.specs.OutstandingWork.{OutstandingWork}
use Rattle.simplex_member.specs.PartialFailures.{Ends, is_lost, is_new, UnchangedUnlessLost}
use Rattle.simplex_member.specs.ReplySignatures.{IsSignedReply}
use Rattle.simplex_member.specs.declared.member.calls.Reply.TheVariants as reply
use Rattle.simplex_member.specs.declared.member.refusal.Refusal.{Refusal}
use Rattle.simplex_member.specs.declared.member.refusal.Refusal.TheVariants as refusal
use Rattle.simplex_member.proofs.CallResults.{call_goes_on, answered_call, refused_call, lost_call, losing}
use Rattle.simplex_member.proofs.MethodContracts.{typed}

-- without an answer of the state there is no vote, whoever signs
no_vote : {B M : Type 0} (me : Option M) → (let none : Option B = None in none) ≡ option_and_then (λ (m : M). None) me
no_vote None = refl
no_vote (Some m) = refl

module _ {S L D K G C : Type 0} (is_signature : K → Subject D → G → Type 0) (x : StateFacts K L D) where
  -- a vote that is signed is a signed reply
  pub finalize_is_signed : (vote : Option (final.Finalize S D K G C)) → IfSome vote (IsSignedFinalize is_signature x)
      → IsSignedReply is_signature (reply.Finalize vote) x
  finalize_is_signed None is = tt
  finalize_is_signed (Some v) is = is.signed

  pub notarize_is_signed : (vote : Option (first.Notarize S D K G C)) → IfSome vote (IsSignedNotarize is_signature x)
      → IsSignedReply is_signature (reply.Notarize vote) x
  notarize_is_signed None is = tt
  notarize_is_signed (Some v) is = is.signed

  pub nullify_is_signed : (view : ℕ) (vote : Option (Bool × other.Nullify S K G C))
      → IfSome vote (λ v. IsSignedNullify is_signature x view v.1) → IsSignedReply is_signature (reply.Nullify vote) x
  nullify_is_signed view None is = tt
  nullify_is_signed view (Some v) is = is.signed

  -- and the state's result is the vote of its definition
  pub finalize_made : (elect : Elect L) (view : ℕ) (r : Result (Option (final.Finalize S D K G C)) Fault)
      → IfOk r (λ vote. option_map (λ v. v.proposal) vote ≡ finalize_answer elect x view)
      → IfOk r (λ vote. IfSome vote (IsSignedFinalize is_signature x))
      → IfOk r (λ vote. reply_finalize vote ≡ finalize_vote elect x view)
  finalize_made elect view (Ok None) is signed = rw (← is) (no_vote x.me)
  finalize_made elect view (Ok (Some v)) is signed = rw (← is, signed.signer) refl
  finalize_made elect view (Err found) is signed = tt

  pub notarize_made : (same : D → D → Bool) (elect : Elect L) (view : ℕ)
      (r : Result (Option (first.Notarize S D K G C)) Fault)
      → IfOk r (λ vote. option_map (λ v. v.proposal) vote ≡ notarize_answer same elect x view)
      → IfOk r (λ vote. IfSome vote (IsSignedNotarize is_signature x))
      → IfOk r (λ vote. reply_notarize vote ≡ notarize_vote same elect x view)
  notarize_made same elect view (Ok None) is signed = rw (← is) (no_vote x.me)
  notarize_made same elect view (Ok (Some v)) is signed = rw (← is, signed.signer) refl
  notarize_made same elect view (Err found) is signed = tt

  pub nullify_made : (view : ℕ) (r : Result (Option (Bool × other.Nullify S K G C)) Fault)
      → IfOk r (λ vote. option_map (λ v. v.0) vote ≡ nullify_answer x view)
      → IfOk r (λ vote. IfSome vote (λ v. IsSignedNullify is_signature x view v.1))
      → IfOk r (λ vote. reply_nullify vote ≡ nullify_vote x view)
  nullify_made view (Ok None) is signed = rw (← is) (no_vote x.me)
  nullify_made view (Ok (Some v)) is signed = rw (← is, signed.signer, signed.round) refl
  nullify_made view (Err found) is signed = tt

-- a claim that holds anyway holds of a result
pub so_ok : {T E A : Type 0} (r : Result T E) → A → OnOk r A
so_ok (Ok t) a = a
so_ok (Err e) a = tt

-- and a claim that follows from a result
pub on_answer : {T E A : Type 0} {P : T → Type 0} (r : Result T E) → ((t : T) → P t → A) → IfOk r P → OnOk r A
on_answer (Ok t) follows is = follows t is
on_answer (Err e) follows is = tt

-- and of an error
pub same_on_err : {T E A : Type 0} (r : Result T E) → A → OnErr r A
same_on_err (Ok t) a = tt
same_on_err (Err e) a = a

-- how a call ends, by how its part ended
abbrev pub ended : {T : Type 0} → Result T Fault → Result T Refusal
ended (Ok t) = Ok t
ended (Err found) = Err (refusal.Fault found)

-- it is the result of `map_err`
pub ended_so : {T : Type 0} (r : Result T Fault) (out : Result T Refusal)
    → MatchResult r (λ t. out ≡ Ok t) (λ found. IsErrAnd out (λ refused. refused ≡ refusal.Fault found)) → out ≡ ended r
ended_so (Ok t) out is = is
ended_so (Err found) (Ok t) is = absurd is
ended_so (Err found) (Err refused) is = ap Err is

-- a claim about a part's result is one about the call's
pub ended_ok : {T : Type 0} (P : T → Type 0) (r : Result T Fault) → IfOk r P → IfOk (ended r) P
ended_ok P (Ok t) is = is
ended_ok P (Err found) is = tt

-- and one about its error, about the call's
pub ended_err : {T : Type 0} (A : Type 0) (r : Result T Fault) → OnErr r A → OnErr (ended r) A
ended_err A (Ok t) is = tt
ended_err A (Err found) is = is

-- a new entry is recorded by its copy, and without a result nothing is
pub new_recorded : {T : Type 0} {D : Type 0} (so : T → Bool) (answer : T) (e copy : ArtifactFacts D)
    (before after : List (ArtifactFacts D)) (r : Result T Fault) → copy ≡ e → IfOk r (λ t. t ≡ answer)
    → after ≡ before ++ if_new (is_new so r) copy
    → OnOk r (after ≡ before ++ if_new (so answer) e) × OnErr r (after ≡ before)
    × IfOk (ended r) (λ t. after ≡ before ++ if_new (so t) e)
new_recorded so answer e copy before after (Ok t) alike is kept = (rw (← is, ← alike) kept, tt, rw (← alike) kept)
new_recorded so answer e copy before after (Err found) alike is kept = (tt, kept ∙ append-nil before, tt)

-- a call that opens and closes nothing keeps the open requests
pub kept_shut : {K D T : Type 0} (o : OutstandingWork K D) (r : Result T Fault) → IfErr r (UnchangedUnlessLost o o)
kept_shut o (Ok t) = tt
kept_shut o (Err fault.OutOfMemory) = tt
kept_shut o (Err fault.Failed) = refl
kept_shut o (Err fault.ViewTooLarge) = refl
kept_shut o (Err fault.TimeOverflow) = refl

-- a call of the state ends without an answer for the fault that is due, or because it found no memory
module _ {K L D T : Type 0} (x y : StateFacts K L D) where
  pub state_ends : (r : Result T Fault) (failed too_large late : Bool)
      → IfSome (first_fault failed too_large late) (λ due. (r ≡ Err due) × (y ≡ x))
      → (first_fault failed too_large late ≡ None → IfErr r (λ found. (found ≡ fault.OutOfMemory) × HasFailed x y))
      → IfErr r (Ends true (first_fault failed too_large late) x y)
  state_ends r true _ _ refused falls = rw refused.0 (refl, refused.1)
  state_ends r false true _ refused falls = rw refused.0 (refl, refused.1)
  state_ends r false false true refused falls = rw refused.0 (refl, refused.1)
  state_ends (Ok t) false false false refused falls = tt
  state_ends (Err found) false false false refused falls = rw (falls refl).0 refl

  -- and where it gives one, none is due
  pub state_due : (r : Result T Fault) (due : Option Fault) → IfSome due (λ is. (r ≡ Err is) × (y ≡ x))
      → OnOk r (due ≡ None)
  state_due (Ok t) None refused = refl
  state_due (Ok t) (Some is) refused = absurd (let no : ⊥ = cc (refused.0) in no)
  state_due (Err found) due refused = tt

  -- only running out of memory loses the state
  pub lost_ends : (r : Result T Fault) (due : Option Fault) → due ≡ None → IfErr r (λ found. found ≡ fault.OutOfMemory)
      → IfErr r (Ends true due x y)
  lost_ends (Ok t) due none lost = tt
  lost_ends (Err found) due none lost = rw lost none

-- a recorded vote is the state's, and if it is not recorded, there was no memory
pub vote_kept : {T : Type 0} (P : T → Type 0) (A B : Type 0) (made kept : Result T Fault) → IfOk made P → OnOk made A
    → IfErr made (λ found. (found ≡ fault.OutOfMemory) × B)
    → IfOk kept (λ t. made ≡ Ok t) → IfErr kept (λ found. (made ≡ Err found) ⊎ (found ≡ fault.OutOfMemory))
    → IfOk kept P × OnOk kept A × IfErr kept (λ found. found ≡ fault.OutOfMemory)
vote_kept P A B made (Ok t) is after falls from refused = (rw from at is, rw from at after, tt)
vote_kept P A B made (Err found) is after falls from (inl was) = (tt, tt, (rw was at falls).0)
vote_kept P A B made (Err found) is after falls from (inr memory) = (tt, tt, memory)

module _ {K L D T : Type 0} (same : D → D → Bool) (elect : Elect L) (x : StateFacts K L D) (o : OutstandingWork K D)
    (call : CallFacts D) where
  -- a stored state has not failed
  pub part_goes_on : (r : Result T Fault) (y : StateFacts K L D) → OnOk r (y ≡ after_call same elect x o call)
      → IfErr r (Ends (may_fall x call) (fault_of x call) x y)
      → x.failed ≡ false → is_started x ≡ true → is_lost r ≡ false → (y.failed ≡ false) × (is_started y ≡ true)
  part_goes_on (Ok t) y after refused going started kept = call_goes_on same elect x o call y after going started
  part_goes_on (Err fault.OutOfMemory) y after refused going started kept = cc
  part_goes_on (Err fault.Failed) y after refused going started kept = rw refused.1 (going, started)
  part_goes_on (Err fault.ViewTooLarge) y after refused going started kept = rw refused.1 (going, started)
  part_goes_on (Err fault.TimeOverflow) y after refused going started kept = rw refused.1 (going, started)

module _ {K L D T : Type 0} (same : D → D → Bool) (elect : Elect L) (m : MemberFacts K L D) (call : CallFacts D)
    (tell : T → ReplyFacts K D) where
  -- the contract of a part of a call, and the state, the open requests and the record after it
  module _ (x : StateFacts K L D) where
    pub record Part (r : Result T Fault) (y : StateFacts K L D) (o : OutstandingWork K D)
        (entries : List (ArtifactFacts D)) : Type 0 where
      pub due : OnOk r (fault_of x call ≡ None)
      pub answer : IfOk r (λ t. tell t ≡ answer same elect x m.outstanding_work call)
      pub after : OnOk r (y ≡ after_call same elect x m.outstanding_work call)
      pub opened : OnOk r (o ≡ outstanding_work_after same elect x m.outstanding_work call)
      pub recorded : OnOk r (entries ≡ m.entries ++ recorded_by same elect x call)
      pub refused : IfErr r (Ends (may_fall x call) (fault_of x call) x y)
      pub kept_open : IfErr r (UnchangedUnlessLost m.outstanding_work o)
      pub same_record : OnErr r (entries ≡ m.entries)

    -- so it is the call, with the member after it
    pub part_made : m.life ≡ Some x → is_allowed x m.outstanding_work call ≡ true
        → (r : Result T Fault) (y : StateFacts K L D) (o : OutstandingWork K D) (entries : List (ArtifactFacts D))
        → Part r y o entries
        → IsCall same elect m call (result_facts tell (ended r))
        (record m { life = living (is_lost r) y; outstanding_work = open_while (is_lost r) o; entries = entries })
    part_made alive allowed (Ok t) y o entries p =
        answered_call same elect m call x alive (tell t) y o entries allowed p.due p.answer p.after p.opened p.recorded
    part_made alive allowed (Err fault.OutOfMemory) y o entries p = let l = losing x call (fault_of x call) p.refused in
        rw p.same_record (lost_call same elect m call x alive allowed l.0 l.1)
    part_made alive allowed (Err fault.Failed) y o entries p =
        rw (p.refused.1, p.same_record, p.kept_open, ← alive)
        (refused_call same elect m call x alive fault.Failed allowed p.refused.0)
    part_made alive allowed (Err fault.ViewTooLarge) y o entries p =
        rw (p.refused.1, p.same_record, p.kept_open, ← alive)
        (refused_call same elect m call x alive fault.ViewTooLarge allowed p.refused.0)
    part_made alive allowed (Err fault.TimeOverflow) y o entries p =
        rw (p.refused.1, p.same_record, p.kept_open, ← alive)
        (refused_call same elect m call x alive fault.TimeOverflow allowed p.refused.0)

    -- a call of the state is such a part, with what is recorded of its result
    pub part_of_state : (r : Result T Fault) (y : StateFacts K L D) (entries : List (ArtifactFacts D))
        (failed too_large late : Bool) → fault_of x call ≡ first_fault failed too_large late
        → IfSome (first_fault failed too_large late) (λ due. (r ≡ Err due) × (y ≡ x))
        → IfOk r (λ t. tell t ≡ answer same elect x m.outstanding_work call)
        → OnOk r (y ≡ after_call same elect x m.outstanding_work call)
        → (first_fault failed too_large late ≡ None → IfErr r (λ found. (found ≡ fault.OutOfMemory) × HasFailed x y))
        → may_fall x call ≡ true → outstanding_work_after same elect x m.outstanding_work call ≡ m.outstanding_work
        → OnOk r (entries ≡ m.entries ++ recorded_by same elect x call) → OnErr r (entries ≡ m.entries)
        → Part r y m.outstanding_work entries
    part_of_state r y entries failed too_large late is refused replied after falls loses shut recorded kept = record {
      due = rw is (state_due x y r _ refused);
      answer = replied;
      after = after;
      opened = so_ok r (sym shut);
      recorded = recorded;
      refused = rw (loses, is) (state_ends x y r failed too_large late refused falls);
      kept_open = kept_shut m.outstanding_work r;
      same_record = kept;
    }

    -- the same for a vote that the state made, once it is recorded
    pub part_of_vote : {V : Type 0} (replied : T → V) (vote : V) (entry : V → List (ArtifactFacts D))
        (kept : Result T Fault) (y : StateFacts K L D) (entries : List (ArtifactFacts D))
        → fault_of x call ≡ None → may_fall x call ≡ true
        → outstanding_work_after same elect x m.outstanding_work call ≡ m.outstanding_work
        → recorded_by same elect x call ≡ entry vote
        → ((t : T) → replied t ≡ vote → tell t ≡ answer same elect x m.outstanding_work call)
        → IfOk kept (λ t. replied t ≡ vote) → OnOk kept (y ≡ after_call same elect x m.outstanding_work call)
        → IfErr kept (λ found. found ≡ fault.OutOfMemory)
        → IfOk kept (λ t. entries ≡ m.entries ++ entry (replied t)) → OnErr kept (entries ≡ m.entries)
        → Part kept y m.outstanding_work entries
    part_of_vote replied vote entry kept y entries not_due loses shut enters tells is after lost recorded unrecorded =
        record {
          due = so_ok kept not_due;
          answer = IfOk-weaker kept _ _ tells is;
          after = after;
          opened = so_ok kept (sym shut);
          recorded = rw enters (on_both kept is recorded);
          refused = rw loses (lost_ends x y kept _ not_due lost);
          kept_open = kept_shut m.outstanding_work kept;
          same_record = unrecorded;
        }
      where
        on_both : (r : Result T Fault) → IfOk r (λ t. replied t ≡ vote)
            → IfOk r (λ t. entries ≡ m.entries ++ entry (replied t)) → OnOk r (entries ≡ m.entries ++ entry vote)
        on_both (Ok t) so was = rw (← so) was
        on_both (Err found) so was = tt

  -- the reply to a call determines its result
  pub replied_kept : (r : Result T Refusal) (left : MemberFacts K L D)
      → IsCall same elect m call (result_facts tell r) left
      → IfErr r (λ refusal. UnchangedButLifetime m refusal left)
  replied_kept (Ok t) left made = tt
  replied_kept (Err (refusal.Fault due)) left made = (typed same elect m call (Refused due) left made).kept
  replied_kept (Err refusal.NotAllowed) left made = (typed same elect m call NotAllowed left made).kept

  pub replied_answered : ((t : T) (A : Type 0) → IfAnswered (tell t) A → A)
      → (r : Result T Refusal) (left : MemberFacts K L D) → IsCall same elect m call (result_facts tell r) left
      → IfOk r (λ t. IsAnswered same elect m call (tell t) left)
  replied_answered so (Ok t) left made = so t (IsAnswered same elect m call (tell t) left)
      (typed same elect m call (tell t) left made).answered
  replied_answered so (Err e) left made = tt
