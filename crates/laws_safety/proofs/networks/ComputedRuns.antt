-- For the worked networks.
-- A run that is computed: the reply to each step of a list if memory never runs out, and that this is a run.
use Rattle.std.proofs.Common.{◌≡◌, refl, subst, ℕ, zero, suc, ◌≤◌, ◌<◌, inl, inr, Bool, true, false, List, [], ◌∷◌, length, Contains, Option, Some, None, Result, Ok, Err, arith}
use Rattle.std.specs.Prelude.{◌&&◌, nat_le}
use Rattle.std.specs.List.{slice_index_or}
use Rattle.std.specs.List.Sorted.{IsNonDecreasingBy}
use Rattle.std.proofs.lemmas.Bool.{leb-true}
use Rattle.simplex_types.specs.declared.types.fault.Fault.TheVariants as fault
use Rattle.simplex_voter.specs.Facts.{StateFacts, Elect}
use Rattle.simplex_voter.proofs.Gaps.{and_parts}
use Rattle.simplex_member.specs.Calls.{CallFacts, ReplyFacts, Refused, Restarted, NotRestarted, Done}
use Rattle.simplex_record.specs.Entries.{entry_view}
use Rattle.simplex_member.specs.MemberFacts.{MemberFacts, AnswersAlive, IsCall, reply_of, left_of, without_lifetime}
use Rattle.simplex_record.specs.Recovery.{recover_error}
use Rattle.simplex_record.specs.declared.record.error.RecoverError.{RecoverError}
use Rattle.simplex_record.specs.declared.record.error.RecoverError.TheVariants as error
use Rattle.simplex_member.specs.Restarts.{RestartFacts, cut_member, new_lifetime, retention_grows, IsRestart, IsRestartWhere}
use Rattle.simplex_member.specs.Runs.{StepFacts, Calls, Prunes, Restarts, restart_reply, IsRun, IsRunFrom}
use Rattle.simplex_record.specs.Start.{new_state}
use Rattle.simplex_member.specs.PrunedRecord.{pruned_member}
use Rattle.laws_safety.specs.Executions.{new_member, Execution, BeginsAs}
use Rattle.laws_safety.proofs.lists.Splits.{Contains-cases}

-- the result of a restart, by whether the retention grows and by the error that applies
abbrev result_then : Bool → Option RecoverError → Result (Unit {0}) RecoverError
result_then true due = Err error.RetentionGrown
result_then false None = Ok tt
result_then false (Some e) = Err e

module _ {K L D : Type 0} (same : D → D → Bool) (elect : Elect L) where
  -- the error that applies to the record after a restart's cut, in the order of the record
  abbrev due_error : MemberFacts K L D → RestartFacts K L D → Option RecoverError
  due_error m r = recover_error same (new_state r.start.setup) r.start.floor r.start.now
      (cut_member m r.drop r.prune).entries

  -- more views are to be retained than before
  abbrev grows_at : MemberFacts K L D → RestartFacts K L D → Bool
  grows_at m r = retention_grows m r.prune r.start.setup.settings.view_retention

  -- the reply to a restart, by whether the retention grows and by the error that applies
  abbrev pub replied_restart : Bool → Option RecoverError → ReplyFacts K D
  replied_restart true due = NotRestarted error.RetentionGrown
  replied_restart false None = Restarted
  replied_restart false (Some e) = NotRestarted e

  -- and the member after it
  abbrev pub left_restart : Bool → Option RecoverError → MemberFacts K L D → RestartFacts K L D → MemberFacts K L D
  left_restart true due m r = m
  left_restart false None m r = new_lifetime same elect (cut_member m r.drop r.prune) r.start
      (cut_member m r.drop r.prune).entries
  left_restart false (Some e) m r = without_lifetime (cut_member m r.drop r.prune)

  -- the reply, if memory never runs out
  abbrev pub reply_then : Option (StateFacts K L D) → MemberFacts K L D → StepFacts K L D → ReplyFacts K D
  reply_then life m Prunes = Done
  reply_then life m (Restarts r) = replied_restart (grows_at m r) (due_error m r)
  reply_then None m (Calls call) = Refused fault.Failed
  reply_then (Some x) m (Calls call) = reply_of same elect x m.outstanding_work call

  -- and the member after it
  abbrev pub next_then : Option (StateFacts K L D) → MemberFacts K L D → StepFacts K L D → MemberFacts K L D
  next_then life m Prunes = pruned_member m
  next_then life m (Restarts r) = left_restart (grows_at m r) (due_error m r) m r
  next_then None m (Calls call) = m
  next_then (Some x) m (Calls call) = left_of same elect x m call

  abbrev pub replies_from : MemberFacts K L D → List (StepFacts K L D) → List (ReplyFacts K D)
  replies_from m [] = []
  replies_from m (step ∷ steps) = reply_then m.life m step ∷ replies_from (next_then m.life m step) steps

  abbrev pub end_from : MemberFacts K L D → List (StepFacts K L D) → MemberFacts K L D
  end_from m [] = m
  end_from m (step ∷ steps) = end_from (next_then m.life m step) steps

  -- each restart finds its record by rising view
  abbrev pub FindsRisingRecords : MemberFacts K L D → List (StepFacts K L D) → Type 0
  FindsRisingRecords m [] = Unit {0}
  FindsRisingRecords m (Restarts r ∷ steps) =
      IsNonDecreasingBy entry_view (cut_member m r.drop r.prune).entries
      × FindsRisingRecords (next_then m.life m (Restarts r)) steps
  FindsRisingRecords m (Prunes ∷ steps) = FindsRisingRecords (next_then m.life m Prunes) steps
  FindsRisingRecords m (Calls call ∷ steps) = FindsRisingRecords (next_then m.life m (Calls call)) steps

  call_answered : (life : Option (StateFacts K L D)) (m : MemberFacts K L D) (call : CallFacts D)
      → AnswersAlive same elect life m call (reply_then life m (Calls call)) (next_then life m (Calls call))
  call_answered None m call = (refl, refl)
  call_answered (Some x) m call = inl (refl, refl)

  call_made : (m : MemberFacts K L D) (call : CallFacts D)
      → IsCall same elect m call (reply_then m.life m (Calls call)) (next_then m.life m (Calls call))
  unfolding IsCall
  call_made m call = call_answered m.life m call

  replied_so : (grows : Bool) (due : Option RecoverError)
      → replied_restart grows due ≡ restart_reply (result_then grows due)
  replied_so true due = refl
  replied_so false None = refl
  replied_so false (Some e) = refl

  restart_by : (grows : Bool) (due : Option RecoverError) (m : MemberFacts K L D) (r : RestartFacts K L D)
      → due_error m r ≡ due → IsNonDecreasingBy entry_view (cut_member m r.drop r.prune).entries
      → IsRestartWhere same elect grows m r (result_then grows due) (left_restart grows due m r)
  restart_by true due m r is rising = (refl, refl)
  restart_by false None m r is rising = inr
      ((cut_member m r.drop r.prune).entries, record { rising = rising; of_each_view = λ v. refl }, rw is (refl, refl))
  restart_by false (Some e) m r is rising =
      inr
      ((cut_member m r.drop r.prune).entries, record { rising = rising; of_each_view = λ v. refl }, rw is (refl, refl))

  restart_made : (m : MemberFacts K L D) (r : RestartFacts K L D)
      → IsNonDecreasingBy entry_view (cut_member m r.drop r.prune).entries
      → IsRestart same elect m r (result_then (grows_at m r) (due_error m r)) (next_then m.life m (Restarts r))
  unfolding IsRestart
  restart_made m r rising = restart_by (grows_at m r) (due_error m r) m r refl rising

  pub fits_run : (m : MemberFacts K L D) (steps : List (StepFacts K L D)) → FindsRisingRecords m steps
      → IsRun same elect m steps (replies_from m steps) (end_from m steps)
  fits_run m [] fits = refl
  fits_run m (Calls call ∷ steps) fits =
      (next_then m.life m (Calls call), call_made m call, fits_run (next_then m.life m (Calls call)) steps fits)
  fits_run m (Prunes ∷ steps) fits =
      (next_then m.life m Prunes, (refl, refl), fits_run (next_then m.life m Prunes) steps fits)
  fits_run m (Restarts r ∷ steps) fits =
      let grows = grows_at m r in
      let due = due_error m r in (
        next_then m.life m (Restarts r),
        (result_then grows due, restart_made m r fits.0, replied_so grows due),
        fits_run (next_then m.life m (Restarts r)) steps fits.1,
      )

  -- the replies to the steps of an execution, from its start on
  abbrev pub replied_from : Execution K L D → List (ReplyFacts K D)
  replied_from s = replies_from (new_member same elect s.start) s.steps

  pub fits_run_from : (s : Execution K L D)
      → recover_error same (new_state s.start.setup) s.start.floor s.start.now [] ≡ None
      → FindsRisingRecords (new_member same elect s.start) s.steps
      → replies_from (new_member same elect s.start) s.steps ≡ s.replies
      → IsRunFrom same elect s.start s.steps s.replies
  unfolding IsRunFrom
  fits_run_from s none fits is = (
    none,
    end_from (new_member same elect s.start) s.steps,
    subst (λ (replied : List (ReplyFacts K D)).
        IsRun same elect (new_member same elect s.start) s.steps replied
        (end_from (new_member same elect s.start) s.steps))
        is (fits_run (new_member same elect s.start) s.steps fits),
  )

-- the numbers of the items rise
abbrev pub rises_from : {X : Type 0} → (X → ℕ) → ℕ → List X → Bool
rises_from n low [] = true
rises_from n low (x ∷ xs) = nat_le low (n x) && rises_from n (n x) xs

above : {X : Type 0} (n : X → ℕ) (low : ℕ) (xs : List X) → rises_from n low xs ≡ true → (k : ℕ) (d : X) → k < length xs
    → low ≤ n (slice_index_or xs k d)
above n low [] rises k d less = absurd (omega arith)
above n low (x ∷ xs) rises zero d less = let parts = and_parts (nat_le low (n x)) (rises_from n (n x) xs) rises in
    leb-true low (n x) parts.0
above n low (x ∷ xs) rises (suc k) d less =
    let parts = and_parts (nat_le low (n x)) (rises_from n (n x) xs) rises in
    let here = leb-true low (n x) parts.0 in
    let there = above n (n x) xs parts.1 k d (omega arith) in
    omega arith

pub rises : {X : Type 0} (n : X → ℕ) (low : ℕ) (xs : List X) → rises_from n low xs ≡ true → IsNonDecreasingBy n xs
rises n low [] is i j d le less = absurd (omega arith)
rises n low (x ∷ xs) is zero zero d le less = omega arith
rises n low (x ∷ xs) is zero (suc j) d le less =
    above n (n x) xs (and_parts (nat_le low (n x)) (rises_from n (n x) xs) is).1 j d (omega arith)
rises n low (x ∷ xs) is (suc i) zero d le less = absurd (omega arith)
rises n low (x ∷ xs) is (suc i) (suc j) d le less =
    rises n (n x) xs (and_parts (nat_le low (n x)) (rises_from n (n x) xs) is).1 i j d (omega arith) (omega arith)

-- the lifetimes that the steps begin do so rightly
abbrev pub AllBegin : {K L D : Type 0} → ℕ → ℕ → List (StepFacts K L D) → Type 0
AllBegin term_length i [] = Unit {0}
AllBegin term_length i (Calls call ∷ steps) = AllBegin term_length i steps
AllBegin term_length i (Prunes ∷ steps) = AllBegin term_length i steps
AllBegin term_length i (Restarts r ∷ steps) = BeginsAs term_length i r.start.setup × AllBegin term_length i steps

same_restart : {K L D : Type 0} (q r : RestartFacts K L D) → Restarts q ≡ Restarts r → q ≡ r
same_restart q r e = cc

pub each_begins : {K L D : Type 0} (term_length i : ℕ) (steps : List (StepFacts K L D)) → AllBegin term_length i steps
    → (r : RestartFacts K L D) → Contains steps (Restarts r) → BeginsAs term_length i r.start.setup
each_begins term_length i [] all r h = absurd (omega (arith, h.1))
each_begins term_length i (Calls call ∷ steps) all r h =
    elim (Contains-cases (Calls call) steps (Restarts r) h)
    [ inl here ↦ absurd (cc) | inr later ↦ each_begins term_length i steps all r later ]
each_begins term_length i (Prunes ∷ steps) all r h =
    elim (Contains-cases Prunes steps (Restarts r) h)
    [ inl here ↦ absurd (cc) | inr later ↦ each_begins term_length i steps all r later ]
each_begins {K} {L} {D} term_length i (Restarts q ∷ steps) all r h =
    elim (Contains-cases (Restarts q) steps (Restarts r) h) [
      | inl here ↦ subst (λ (p : RestartFacts K L D). BeginsAs term_length i p.start.setup) (same_restart q r here)
          all.0
      | inr later ↦ each_begins term_length i steps all.1 r later
    ]
