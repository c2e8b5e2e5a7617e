-- For `resumes_are_restarts`.
-- A resume from a member's journal is its restart with nothing dropped and nothing pruned.
use Rattle.std.proofs.Common.{◌≡◌, refl, sym, subst, ℕ, zero, suc, ◌-◌, ◌<◌, ◌≤◌, inl, inr, Bool, true, false, ◌&&◌, nat_lt, if◌then◌else◌, List, [], ◌∷◌, ◌++◌, length, take, Option, Some, None, MatchOption, Result, Ok, Err, arith}
use Rattle.std.proofs.lemmas.Bool.{cases_Bool}
use Rattle.std.proofs.lemmas.Bool.Decides.{nat_tests}
use Rattle.std.proofs.lemmas.List.{length-append, length-take-le}
use Rattle.simplex_types.specs.Certificates.{ArtifactFacts}
use Rattle.simplex_types.specs.Config.{FloorFacts, Genesis, Finalized as FinalizedFloor}
use Rattle.simplex_types.specs.declared.types.fault.Fault.{Fault}
use Rattle.simplex_voter.specs.Facts.{StateFacts, Elect}
use Rattle.simplex_record.specs.declared.record.error.RecoverError.{RecoverError}
use Rattle.simplex_member.specs.declared.member.journal.Stored.{Stored}
use Rattle.simplex_member.specs.declared.member.resume.ResumeError.TheVariants.{Recover}
use Rattle.simplex_member.specs.CallConditions.{is_allowed, fault_of}
use Rattle.simplex_member.specs.Calls.{CallFacts, ReplyFacts, Restarted}
use Rattle.simplex_member.specs.CallSemantics.{recorded_by}
use Rattle.simplex_record.specs.Check.{stands}
use Rattle.simplex_record.specs.Cuts.{may_drop, without_last}
use Rattle.simplex_member.specs.Journal.{stored_of, stored_facts, whole_restart, IsResumed, IsNotResumed}
use Rattle.simplex_member.specs.MemberFacts.{MemberFacts, without_lifetime, left_of, AnswersAlive, IsCall}
use Rattle.simplex_member.specs.OutstandingWork.{OutstandingWork, no_outstanding_work}
use Rattle.simplex_record.specs.Recovery.{recover_error, is_finalization_entry, with_floor}
use Rattle.simplex_member.specs.Restarts.{RestartFacts, cut_member, retention_grows, new_lifetime, RecoversByView, IsRestartWhere, IsRestart}
use Rattle.simplex_member.specs.Runs.{StepFacts, Calls, Prunes, Restarts, IsStep, IsRun, IsRefused}
use Rattle.simplex_record.specs.Start.{StartFacts, new_state}
use Rattle.laws_safety.specs.Executions.{new_member}
use Rattle.laws_safety.specs.Resumes.{LosesNothing}

-- its record has all that was closed

abbrev Within : {K L D : Type 0} → MemberFacts K L D → Type 0
Within m = m.closed ≤ length m.entries

open_below : (closed count : ℕ) (b : Bool) → (nat_lt closed count && b) ≡ true → closed < count
open_below closed count b is = grind (arith, nat_tests)

not_below : (closed count : ℕ) → closed ≤ count → nat_lt count closed ≡ false
not_below closed count most = grind (arith, nat_tests)

module _ {D : Type 0} where
  -- a drop keeps the closed entries
  drop_within : (closed n : ℕ) (entries : List (ArtifactFacts D)) → closed ≤ length entries
      → closed ≤ length (without_last closed n entries)
  unfolding may_drop
  drop_within closed zero entries within = within
  drop_within closed (suc n) entries within = elim (cases_Bool (may_drop closed entries)) [
    | inr stays ↦ rw stays within
    | inl falls ↦
        (let fewer : closed < length entries = open_below closed (length entries) _ falls in
        let left : length (take (length entries - 1) entries) ≡ length entries - 1 =
        length-take-le (length entries - 1) entries (omega arith) in
        rw falls (drop_within closed n (take (length entries - 1) entries) (omega (arith, fewer, left))))
  ]

  grown : (entries more : List (ArtifactFacts D)) → length entries ≤ length (entries ++ more)
  grown entries more = let e = length-append entries more in omega (arith, e)

  floor_grown : (entries : List (ArtifactFacts D)) (floor : FloorFacts D)
      → length entries ≤ length (with_floor entries floor)
  floor_grown entries (Genesis payload) = omega arith
  floor_grown entries (FinalizedFloor c) = by_record (stands c.proposal.round.view is_finalization_entry entries) refl
    where
      by_record : (b : Bool) → stands c.proposal.round.view is_finalization_entry entries ≡ b
          → length entries ≤ length (with_floor entries (FinalizedFloor c))
      by_record true is = rw is (omega arith)
      by_record false is = rw is (grown entries _)

module _ {K L D : Type 0} where
  cut_within : (m : MemberFacts K L D) (n : ℕ) (prune : Bool) → Within m → Within (cut_member m n prune)
  cut_within m n false within = drop_within m.closed n m.entries within
  cut_within m n true within = omega arith

module _ {K L D : Type 0} (same : D → D → Bool) (elect : Elect L) (m : MemberFacts K L D) (within : Within m) where
  more_within : (more : List (ArtifactFacts D)) → m.closed ≤ length (m.entries ++ more)
  more_within more = let grows = grown m.entries more in omega (arith, grows, within)

  call_within : (call : CallFacts D) (replied : ReplyFacts K D) (left : MemberFacts K L D)
      → IsCall same elect m call replied left → Within left
  unfolding IsCall
  call_within call replied left is_call = by_life m.life is_call
    where
      by_fault : (x : StateFacts K L D) (f : Option Fault) → fault_of x call ≡ f
          → is_allowed x m.outstanding_work call ≡ true → Within (left_of same elect x m call)
      by_fault x None no_fault allowed = rw (allowed, no_fault) (more_within (recorded_by same elect x call))
      by_fault x (Some f) refused allowed = rw (allowed, refused) within

      by_allowed : (x : StateFacts K L D) (b : Bool) → is_allowed x m.outstanding_work call ≡ b
          → Within (left_of same elect x m call)
      by_allowed x true allowed = by_fault x (fault_of x call) refl allowed
      by_allowed x false not_allowed = rw not_allowed within

      by_life : (o : Option (StateFacts K L D)) → AnswersAlive same elect o m call replied left → Within left
      by_life None (tell, leaves) = rw leaves within
      by_life (Some x) (inl (tell, leaves)) = rw leaves (by_allowed x (is_allowed x m.outstanding_work call) refl)
      by_life (Some x) (inr (_, tell, inl (_, leaves))) = rw leaves within
      by_life (Some x) (inr (_, tell, inr (_, _, leaves))) = rw leaves within

module _ {K L D : Type 0} (same : D → D → Bool) (elect : Elect L) where
  goes_on_within : (n : MemberFacts K L D) (start : StartFacts K L D) (result : Result (Unit {0}) RecoverError)
      (left : MemberFacts K L D) → Within n → RecoversByView same elect n start result left → Within left
  goes_on_within n start result left within (inl (is, leaves)) = rw leaves within
  goes_on_within n start result left within (inr (copy, by_view, goes)) =
      by_error (recover_error same (new_state start.setup) start.floor start.now copy) goes
    where
      by_error : (o : Option RecoverError) → MatchOption o
          ((result ≡ Ok tt) × (left ≡ new_lifetime same elect n start copy))
          (λ e. (result ≡ Err e) × (left ≡ without_lifetime n)) → Within left
      by_error None (is, leaves) =
          rw leaves (let grows = floor_grown n.entries start.floor in omega (arith, grows, within))
      by_error (Some e) (is, leaves) = rw leaves within

  restart_within : (m : MemberFacts K L D) (r : RestartFacts K L D) (result : Result (Unit {0}) RecoverError)
      (left : MemberFacts K L D) → Within m → IsRestart same elect m r result left → Within left
  unfolding IsRestart
  restart_within m r result left within restarts =
      by_test (retention_grows m r.prune r.start.setup.settings.view_retention) restarts
    where
      by_test : (b : Bool) → IsRestartWhere same elect b m r result left → Within left
      by_test true (is, leaves) = rw leaves within
      by_test false goes = goes_on_within (cut_member m r.drop r.prune) r.start result left
          (cut_within m r.drop r.prune within) goes

  run_within : (m end : MemberFacts K L D) (steps : List (StepFacts K L D)) (replies : List (ReplyFacts K D)) → Within m
      → IsRun same elect m steps replies end → Within end
  run_within m end [] [] within run = subst Within run within
  run_within m end [] (replied ∷ replies) within run = absurd run
  run_within m end (step ∷ steps) [] within run = absurd run
  run_within m end (Calls call ∷ steps) (replied ∷ replies) within (next, is_step, rest) =
      run_within next end steps replies (call_within same elect m within call replied next is_step) rest
  run_within m end (Prunes ∷ steps) (replied ∷ replies) within (next, (tells, leaves), rest) =
      run_within next end steps replies (rw leaves (omega arith)) rest
  run_within m end (Restarts r ∷ steps) (replied ∷ replies) within (next, (result, restarts, tell), rest) =
      run_within next end steps replies (restart_within m r result next within restarts) rest

  pub run_loses_nothing : (start : StartFacts K L D) (steps : List (StepFacts K L D)) (replies : List (ReplyFacts K D))
      (m : MemberFacts K L D) → IsRun same elect (new_member same elect start) steps replies m → LosesNothing m
  run_loses_nothing start steps replies m run =
      not_below m.closed (length m.entries) (run_within (new_member same elect start) m steps replies (omega arith) run)

-- the member that a journal holds restarts as the one that it was stored of

module _ {K L D : Type 0} (same : D → D → Bool) (elect : Elect L) (start : StartFacts K L D) where
  -- whether it has failed, and its open requests, don't matter to a new lifetime
  other_life : (m next : MemberFacts K L D) (life : Option (StateFacts K L D)) (outstanding_work : OutstandingWork K D)
      → IsRestart same elect m (whole_restart start) (Ok tt) next
      → IsRestart same elect (record m { life = life; outstanding_work = outstanding_work }) (whole_restart start)
      (Ok tt) next
  unfolding IsRestart
  other_life m next life outstanding_work restarts =
      by_test (retention_grows m false start.setup.settings.view_retention) restarts
    where
      by_error : (copy : List (ArtifactFacts D)) (o : Option RecoverError)
          → MatchOption o ((◌≡◌ {A = Result (Unit {0}) RecoverError} (Ok tt) (Ok tt))
          × (next ≡ new_lifetime same elect m start copy))
          (λ e. (◌≡◌ {A = Result (Unit {0}) RecoverError} (Ok tt) (Err e)) × (next ≡ without_lifetime m))
          → MatchOption o ((◌≡◌ {A = Result (Unit {0}) RecoverError} (Ok tt) (Ok tt))
          × (next ≡ new_lifetime same elect m start copy))
          (λ e. (◌≡◌ {A = Result (Unit {0}) RecoverError} (Ok tt) (Err e))
          × (next ≡ without_lifetime (record m { life = life; outstanding_work = outstanding_work })))
      by_error copy None (is, leaves) = (is, leaves)
      by_error copy (Some e) (is, leaves) = absurd cc

      by_test : (b : Bool) → IsRestartWhere same elect b m (whole_restart start) (Ok tt) next
          → IsRestartWhere same elect b (record m { life = life; outstanding_work = outstanding_work })
          (whole_restart start) (Ok tt) next
      by_test true (is, leaves) = absurd cc
      by_test false (inl (is, leaves)) = absurd cc
      by_test false (inr (copy, by_view, goes)) =
          inr
          (copy, by_view, by_error copy (recover_error same (new_state start.setup) start.floor start.now copy) goes)

  -- nor do they to a refusal, which keeps them
  other_refusal : (m left : MemberFacts K L D) (life : Option (StateFacts K L D))
      (outstanding_work : OutstandingWork K D) (found : RecoverError)
      → IsRestart same elect m (whole_restart start) (Err found) left
      → IsRestartWhere same elect (retention_grows m false start.setup.settings.view_retention)
      (record m { life = life; outstanding_work = outstanding_work }) (whole_restart start) (Err found)
      (record m {
        life = if retention_grows m false start.setup.settings.view_retention then life else None;
        outstanding_work = if retention_grows m false start.setup.settings.view_retention then outstanding_work
            else no_outstanding_work;
      })
  unfolding IsRestart
  other_refusal m left life outstanding_work found restarts =
      by_test (retention_grows m false start.setup.settings.view_retention) restarts
    where
      by_error : (copy : List (ArtifactFacts D)) (o : Option RecoverError)
          → MatchOption o ((◌≡◌ {A = Result (Unit {0}) RecoverError} (Err found) (Ok tt))
          × (left ≡ new_lifetime same elect m start copy))
          (λ e. (◌≡◌ {A = Result (Unit {0}) RecoverError} (Err found) (Err e)) × (left ≡ without_lifetime m))
          → MatchOption o ((◌≡◌ {A = Result (Unit {0}) RecoverError} (Err found) (Ok tt))
          × (record m { life = None; outstanding_work = no_outstanding_work } ≡ new_lifetime same elect m start
          copy)) (λ e. (◌≡◌ {A = Result (Unit {0}) RecoverError} (Err found) (Err e))
          × (◌≡◌ {A = MemberFacts K L D} (record m { life = None; outstanding_work = no_outstanding_work })
          (record m { life = None; outstanding_work = no_outstanding_work })))
      by_error copy None (is, leaves) = absurd cc
      by_error copy (Some e) (is, leaves) = (is, refl)

      by_test : (b : Bool) → IsRestartWhere same elect b m (whole_restart start) (Err found) left
          → IsRestartWhere same elect b (record m { life = life; outstanding_work = outstanding_work })
          (whole_restart start) (Err found) (record m {
            life = if b then life else None;
            outstanding_work =
                if b then outstanding_work else no_outstanding_work;
          })
      by_test true (is, leaves) = (is, refl)
      by_test false (inl (is, leaves)) = inl (is, refl)
      by_test false (inr (copy, by_view, goes)) =
          inr
          (copy, by_view, by_error copy (recover_error same (new_state start.setup) start.floor start.now copy) goes)

  -- so for the one that is stored

  pub resumes : (m next : MemberFacts K L D) → LosesNothing m
      → IsStep same elect m (Restarts (whole_restart start)) Restarted next
      → IsResumed same elect (stored_of m) m.entries start next
  resumes m next whole (Ok u, restarts, tell) =
      record { whole = whole; restarted = other_life m next None no_outstanding_work restarts }
  resumes m next whole (Err e, restarts, tell) = absurd cc

  pub restarts : (m next : MemberFacts K L D) → IsResumed same elect (stored_of m) m.entries start next
      → IsStep same elect m (Restarts (whole_restart start)) Restarted next
  restarts m next is =
      (Ok tt, other_life (stored_facts (stored_of m) m.entries) next m.life m.outstanding_work is.restarted, refl)

  stays_ended : (m : MemberFacts K L D) (b : Bool)
      → ◌≡◌ {A = MemberFacts K L D} (record m
      { life = if b then None else None; outstanding_work = if b then no_outstanding_work else no_outstanding_work })
      (stored_facts (stored_of m) m.entries)
  stays_ended m true = refl
  stays_ended m false = refl

  pub refuses_resume : (m : MemberFacts K L D) (found : RecoverError) → LosesNothing m
      → IsRefused same elect m (Restarts (whole_restart start)) found
      → IsNotResumed same elect (stored_of m) m.entries start (Recover found)
  unfolding IsRestart
  refuses_resume m found whole (left, restarts) = (
    whole,
    subst (IsRestart same elect (stored_facts (stored_of m) m.entries) (whole_restart start) (Err found))
        (stays_ended m (retention_grows m false start.setup.settings.view_retention))
        (other_refusal m left None no_outstanding_work found restarts),
  )

  pub refuses_restart : (m : MemberFacts K L D) (found : RecoverError)
      → IsNotResumed same elect (stored_of m) m.entries start (Recover found)
      → IsRefused same elect m (Restarts (whole_restart start)) found
  unfolding IsRestart
  refuses_restart m found (whole, restarts) = (
    record m {
      life = if retention_grows m false start.setup.settings.view_retention then m.life else None;
      outstanding_work = if retention_grows m false start.setup.settings.view_retention then m.outstanding_work
          else no_outstanding_work;
    },
    other_refusal (stored_facts (stored_of m) m.entries) (stored_facts (stored_of m) m.entries) m.life
        m.outstanding_work found restarts,
  )

  -- of the member that a journal was stored of, a resume is its restart
  pub resumed_restart : (stored : Stored) (entries : List (ArtifactFacts D)) (m next : MemberFacts K L D)
      → stored_of m ≡ stored → m.entries ≡ entries → IsResumed same elect stored entries start next
      → IsRestart same elect m (whole_restart start) (Ok tt) next
  resumed_restart stored entries m next same_stored same_entries is =
      let of_stored = subst (λ kept. IsRestart same elect (stored_facts kept entries) (whole_restart start) (Ok tt)
      next) (sym same_stored) is.restarted in
      let of_entries = subst (λ es. IsRestart same elect (stored_facts (stored_of m) es) (whole_restart start) (Ok tt)
      next) (sym same_entries) of_stored in
      other_life (stored_facts (stored_of m) m.entries) next m.life m.outstanding_work of_entries
