-- A call is answered, refused, lost, or not allowed.
use Rattle.std.proofs.Common.{◌≡◌, refl, ◌∙◌, Bool, true, false, List, [], ◌++◌, Option, Some, None, Result, Ok, Err, IfSome, IsOk, inl, inr}
use Rattle.std.proofs.lemmas.Bool.{false≢true}
use Rattle.std.proofs.lemmas.List.{append-nil}
use Rattle.simplex_types.specs.Certificates.{ArtifactFacts}
use Rattle.simplex_types.specs.declared.types.fault.Fault.{Fault}
use Rattle.simplex_types.specs.declared.types.fault.Fault.TheVariants as fault
use Rattle.simplex_voter.specs.Facts.{StateFacts, Elect}
use Rattle.simplex_voter.specs.Refusals.{is_started}
use Rattle.simplex_member.specs.CallConditions.{is_allowed, fault_of, needs_room, may_fall}
use Rattle.simplex_member.specs.Calls.{CallFacts, ReplyFacts, Refused, NotAllowed}
use Rattle.simplex_member.specs.MemberFacts.{MemberFacts, without_lifetime, with_call, IsCall}
use Rattle.simplex_member.specs.CallSemantics.{answer, after_call, outstanding_work_after, recorded_by}
use Rattle.simplex_member.specs.OutstandingWork.{OutstandingWork}
use Rattle.simplex_member.specs.PartialFailures.{IsLoss}
use Rattle.simplex_member.specs.MethodContracts.{IsAnswered}
use Rattle.simplex_member.proofs.CallsKeepSettings.{goes}

module _ {K L D : Type 0} (same : D → D → Bool) (elect : Elect L) (x : StateFacts K L D) where
  -- the state after the call has not failed
  pub call_goes_on : (o : OutstandingWork K D) (call : CallFacts D) (y : StateFacts K L D)
      → y ≡ after_call same elect x o call → x.failed ≡ false → is_started x ≡ true
      → (y.failed ≡ false) × (is_started y ≡ true)
  call_goes_on o call y is going started = let g = goes same elect x o call in
      rw is (g.failed ∙ going, g.started started)

-- the state is lost only by a call that may find no memory
pub losing : {K L D : Type 0} (x : StateFacts K L D) (call : CallFacts D) (due : Option Fault)
    → IsLoss (may_fall x call) due → (due ≡ None) × (may_fall x call ≡ true)
losing x call due is = by_loss (may_fall x call) is
  where
    by_loss : (falls : Bool) → IsLoss falls due → (due ≡ None) × (falls ≡ true)
    by_loss true lost = (lost, refl)
    by_loss false lost = absurd lost

-- a call of the state without a result was refused for its fault, and changed nothing
pub refused_only : {T A : Type 0} (due : Option Fault) (found : Fault) (r : Result T Fault) (x y : A) → r ≡ Err found
    → IfSome due (λ is. (r ≡ Err is) × (y ≡ x)) → (due ≡ None → IsOk r) → (due ≡ Some found) × (y ≡ x)
refused_only (Some is) found r x y was refused taken = (let so : Some is ≡ Some found = cc in so, refused.1)
refused_only None found r x y was refused taken = absurd (false≢true (rw was at (taken refl)))

-- and where it gives one, nothing was due
pub answered_only : {T A : Type 0} (due : Option Fault) (t : T) (r : Result T Fault) (x y : A) → r ≡ Ok t
    → IfSome due (λ is. (r ≡ Err is) × (y ≡ x)) → due ≡ None
answered_only None t r x y was refused = refl
answered_only (Some is) t r x y was refused = absurd (let no : ⊥ = cc (was, refused.0) in no)

module _ {K L D : Type 0} (same : D → D → Bool) (elect : Elect L) (m : MemberFacts K L D) (call : CallFacts D) where
  -- a member that has failed
  pub failed_call : m.life ≡ None → IsCall same elect m call (Refused fault.Failed) m
  unfolding IsCall
  failed_call dead = rw dead (refl, refl)

  module _ (x : StateFacts K L D) (alive : m.life ≡ Some x) where
    pub forbidden_call : is_allowed x m.outstanding_work call ≡ false → IsCall same elect m call NotAllowed m
    unfolding IsCall
    forbidden_call not_allowed = rw (alive, not_allowed) (inl (refl, refl))

    -- a reply, with the member after it
    pub answered_call : (replied : ReplyFacts K D) (y : StateFacts K L D) (p : OutstandingWork K D)
        (entries : List (ArtifactFacts D)) → is_allowed x m.outstanding_work call ≡ true → fault_of x call ≡ None
        → replied ≡ answer same elect x m.outstanding_work call → y ≡ after_call same elect x m.outstanding_work call
        → p ≡ outstanding_work_after same elect x m.outstanding_work call
        → entries ≡ m.entries ++ recorded_by same elect x call
        → IsCall same elect m call replied (record m { life = Some y; outstanding_work = p; entries = entries })
    unfolding IsCall
    answered_call replied y p entries allowed no_fault is after open_now recorded =
        rw (alive, allowed, no_fault, is, after, open_now, recorded) (inl (refl, refl))

    -- a fault that was due, with nothing changed
    pub refused_call : (found : Fault) → is_allowed x m.outstanding_work call ≡ true → fault_of x call ≡ Some found
        → IsCall same elect m call (Refused found) m
    unfolding IsCall
    refused_call found allowed due = rw (alive, allowed, due) (inl (refl, refl))

    -- out of memory before the state was called, with nothing changed
    pub wanting_call : is_allowed x m.outstanding_work call ≡ true → needs_room x call ≡ true
        → IsCall same elect m call (Refused fault.OutOfMemory) m
    unfolding IsCall
    wanting_call allowed needs = rw alive (inr (allowed, refl, inl (needs, refl)))

    -- the state is lost, out of memory
    pub lost_call : is_allowed x m.outstanding_work call ≡ true → fault_of x call ≡ None → may_fall x call ≡ true
        → IsCall same elect m call (Refused fault.OutOfMemory) (without_lifetime m)
    unfolding IsCall
    lost_call allowed no_fault falls = rw alive (inr (allowed, refl, inr (no_fault, falls, refl)))

    -- a reply, as a caller reads it
    pub answered_so : (replied : ReplyFacts K D) (left : MemberFacts K L D)
        → is_allowed x m.outstanding_work call ≡ true
        → fault_of x call ≡ None
        → replied ≡ answer same elect x m.outstanding_work call → left ≡ with_call same elect x m call
        → IsAnswered same elect m call replied left
    answered_so replied left allowed no_fault is left_so =
        record { state = x; alive = alive; allowed = allowed; not_due = no_fault; replied_so = is; left_so = left_so }

    -- where such a call records nothing
    pub answered_unrecorded : (replied : ReplyFacts K D) (y : StateFacts K L D) (o : OutstandingWork K D)
        → is_allowed x m.outstanding_work call ≡ true → fault_of x call ≡ None
        → replied ≡ answer same elect x m.outstanding_work call → y ≡ after_call same elect x m.outstanding_work call
        → o ≡ outstanding_work_after same elect x m.outstanding_work call → recorded_by same elect x call ≡ []
        → IsAnswered same elect m call replied (record m { life = Some y; outstanding_work = o })
    answered_unrecorded replied y o allowed no_fault is after opened none =
        answered_so replied _ allowed no_fault is (rw (after, opened, none, append-nil m.entries) refl)

  -- a reply of this kind makes a call
  pub call_of_answer : (replied : ReplyFacts K D) (left : MemberFacts K L D) → IsAnswered same elect m call replied left
      → IsCall same elect m call replied left
  unfolding IsCall
  call_of_answer replied left a = rw (a.alive, a.allowed, a.not_due, a.replied_so, a.left_so) (inl (refl, refl))
