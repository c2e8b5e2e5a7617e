-- Each certificate that a member accepts in a run names no view that is too large.
use Rattle.std.proofs.Common.{◌≡◌, refl, subst, ℕ, inl, inr, Bool, true, false, if◌then◌else◌, List, [], ◌∷◌, ◌++◌, Contains, Option, Some, None, Result, Ok, Err, arith}
use Rattle.std.specs.Prelude.{MatchOption}
use Rattle.std.proofs.lemmas.List.Elements.{Contains-append_cases}
use Rattle.simplex_types.specs.Certificates.{ArtifactFacts, NotarizeVote, NullifyVote, FinalizeVote}
use Rattle.simplex_types.specs.Config.{FloorFacts, Genesis, Finalized}
use Rattle.simplex_types.specs.declared.types.fault.Fault.{Fault}
use Rattle.simplex_types.specs.declared.types.messages.Subject.{Subject}
use Rattle.simplex_types.specs.declared.types.messages.Subject.TheVariants as subject
use Rattle.simplex_voter.specs.Facts.{StateFacts, Elect}
use Rattle.simplex_voter.specs.Refusals.{first_fault, is_too_large, names_too_large, has_late_deadline}
use Rattle.simplex_record.specs.declared.record.error.RecoverError.{RecoverError}
use Rattle.simplex_record.specs.declared.record.error.RecoverError.TheVariants as error
use Rattle.simplex_member.specs.CallConditions.{is_allowed, fault_of}
use Rattle.simplex_member.specs.Calls as calls
use Rattle.simplex_member.specs.Calls.{CallFacts, AddNotarization, AddNullification, AddFinalization, ReplyFacts, Added, AddedNullification, Nullify, Finalize, Notarize}
use Rattle.simplex_record.specs.Check.{first_error, recovery_floor_rules, first_broken_after, first_recover_error}
use Rattle.simplex_member.specs.MemberFacts.{MemberFacts, IsCall, AnswersAlive, reply_of, unless_refused, without_lifetime}
use Rattle.simplex_member.specs.CallSemantics.{answer}
use Rattle.simplex_record.specs.Recovery.{recover_error}
use Rattle.simplex_member.specs.Restarts.{RestartFacts, cut_member, new_lifetime, retention_grows, RecoversByView, IsRestart, IsRestartWhere}
use Rattle.simplex_member.specs.Runs.{StepFacts, Calls, Prunes, Restarts, restart_reply, IsRun}
use Rattle.simplex_record.specs.Start.{new_state}
use Rattle.laws_safety.specs.Traces.{TraceEvent, Accepts, passed_certificates, of_floor, of_vote, signed_in, accepted_by, trace_of_call, trace_at, trace_of_steps}
use Rattle.laws_safety.proofs.records.NewLives.{first_none}
use Rattle.laws_safety.proofs.lists.Splits.{only_one}

-- a certificate names a view that is too large
abbrev pub subject_too_large : {D : Type 0} → Subject D → Bool
subject_too_large (subject.Notarize p) = names_too_large p
subject_too_large (subject.Nullify round) = is_too_large round.view
subject_too_large (subject.Finalize p) = names_too_large p

-- no certificate that was accepted does
abbrev pub AreSmall : {D : Type 0} → List (TraceEvent D) → Type 0
AreSmall {D} trace = (c : Subject D) → Contains trace (Accepts c) → subject_too_large c ≡ false

module _ {D : Type 0} where
  small_none : AreSmall {D = D} []
  small_none c h = absurd (omega (arith, h.1))

  small_one : (certificate : Subject D) → subject_too_large certificate ≡ false → AreSmall (Accepts certificate ∷ [])
  small_one certificate small c h =
      let is = only_one (Accepts certificate) (Accepts c) h in
      let same : certificate ≡ c = cc in
      subst (λ d. subject_too_large d ≡ false) same small

  pub small_both : (trace more : List (TraceEvent D)) → AreSmall trace → AreSmall more → AreSmall (trace ++ more)
  small_both trace more small also c h = elim (Contains-append_cases trace more (Accepts c) h)
      [ inl old ↦ small c old | inr new ↦ also c new ]

  vote_accepts_none : (e : ArtifactFacts D) → AreSmall (of_vote e)
  vote_accepts_none (NotarizeVote p m) c h = (let is = only_one _ (Accepts c) h in absurd (cc))
  vote_accepts_none (NullifyVote round m) c h = (let is = only_one _ (Accepts c) h in absurd (cc))
  vote_accepts_none (FinalizeVote p m) c h = (let is = only_one _ (Accepts c) h in absurd (cc))
  vote_accepts_none _ c h = small_none c h

-- a floor that is taken

abbrev third_rule : Bool → Bool → Bool → List (Bool × RecoverError)
third_rule a b c = (a, error.OtherEpoch) ∷ (b, error.ZeroView) ∷ (c, error.ViewTooLarge) ∷ []

third_holds : (a b c : Bool) → first_error (third_rule a b c) ≡ None → c ≡ false
third_holds true b c is = absurd (cc)
third_holds false true c is = absurd (cc)
third_holds false false true is = absurd (cc)
third_holds false false false is = refl

module _ {D : Type 0} (same : D → D → Bool) where
  floor_kept : (epoch : ℕ) (floor : FloorFacts D) → first_error (recovery_floor_rules epoch floor) ≡ None
      → AreSmall (of_floor floor)
  floor_kept epoch (Genesis payload) is = small_none
  floor_kept epoch (Finalized c) is = small_one (subject.Finalize c.proposal)
      (third_holds _ _ (names_too_large c.proposal) is)

  pub floor_small : {K L : Type 0} (x : StateFacts K L D) (floor : FloorFacts D) (now : ℕ)
      (entries : List (ArtifactFacts D)) → recover_error same x floor now entries ≡ None → AreSmall (of_floor floor)
  unfolding first_recover_error
  floor_small x floor now entries none =
      let record_none = (first_none (first_recover_error same x.settings.epoch x.me floor entries)
      (if has_late_deadline x now then Some error.TimeOverflow else None) none).0 in
      floor_kept x.settings.epoch floor (first_none (first_error (recovery_floor_rules x.settings.epoch floor))
      (first_broken_after same x.settings.epoch x.me [] entries) record_none).0

-- a call

pub no_fault : (failed large late : Bool) → first_fault failed large late ≡ None → large ≡ false
no_fault true large late is = absurd (cc)
no_fault false true late is = absurd (cc)
no_fault false false late is = refl

module _ {K L D : Type 0} where
  handed_small : (x : StateFacts K L D) (call : CallFacts D) → fault_of x call ≡ None
      → AreSmall (passed_certificates call)
  handed_small x (AddNotarization c) none =
      small_one (subject.Notarize c.proposal) (no_fault x.failed (names_too_large c.proposal) false none)
  handed_small x (AddNullification c now) none =
      small_one (subject.Nullify c.round) (no_fault x.failed (is_too_large c.round.view) _ none)
  handed_small x (AddFinalization c now) none =
      small_one (subject.Finalize c.proposal) (no_fault x.failed (names_too_large c.proposal) _ none)
  handed_small x _ none = small_none

module _ {K D : Type 0} where
  accepted_small : (call : CallFacts D) (replied : ReplyFacts K D) → AreSmall (passed_certificates call)
      → AreSmall (accepted_by call replied)
  accepted_small call (Added newly leader) small = small
  accepted_small call (AddedNullification newly) small = small
  accepted_small call _ small = small_none

  signed_small : (replied : ReplyFacts K D) → AreSmall (signed_in replied)
  signed_small (Nullify (Some (retry, vote))) = vote_accepts_none vote
  signed_small (Finalize (Some vote)) = vote_accepts_none vote
  signed_small (Notarize (Some vote)) = vote_accepts_none vote
  signed_small _ = small_none

module _ {K L D : Type 0} (same : D → D → Bool) (elect : Elect L) where
  replied_small : (x : StateFacts K L D) (m : MemberFacts K L D) (call : CallFacts D)
      → AreSmall (trace_of_call call (reply_of same elect x m.outstanding_work call))
  replied_small x m call = by_allowed (is_allowed x m.outstanding_work call) (fault_of x call) refl
    where
      by_allowed : (b : Bool) (f : Option Fault) → fault_of x call ≡ f
          → AreSmall (trace_of_call call
          (if b then unless_refused f (answer same elect x m.outstanding_work call) else calls.NotAllowed))
      by_allowed false f is = small_none
      by_allowed true (Some f) is = small_none
      by_allowed true None is =
          let replied = answer same elect x m.outstanding_work call in
          small_both (accepted_by call replied) (signed_in replied)
          (accepted_small call replied (handed_small x call is))
          (signed_small replied)

  call_small : (m next : MemberFacts K L D) (call : CallFacts D) (replied : ReplyFacts K D)
      → IsCall same elect m call replied next → AreSmall (trace_of_call call replied)
  unfolding IsCall
  call_small m next call replied is_call = by_life m.life is_call
    where
      by_life : (o : Option (StateFacts K L D)) → AnswersAlive same elect o m call replied next
          → AreSmall (trace_of_call call replied)
      by_life None (tells, leaves) = rw tells small_none
      by_life (Some x) (inl (tells, leaves)) = rw tells (replied_small x m call)
      by_life (Some x) (inr (wants, tells, leaves)) = rw tells small_none

  -- a restart

  goes_on_small : (n left : MemberFacts K L D) (r : RestartFacts K L D) (result : Result (Unit {0}) RecoverError)
      → RecoversByView same elect n r.start result left
      → AreSmall (trace_at (Restarts r) (restart_reply {K = K} {D = D} result))
  goes_on_small n left r result (inl (is, leaves)) = rw is small_none
  goes_on_small n left r result (inr (copy, by_view, goes)) =
      by_error (recover_error same (new_state r.start.setup) r.start.floor r.start.now copy) refl goes
    where
      by_error : (o : Option RecoverError) → recover_error same (new_state r.start.setup) r.start.floor r.start.now
          copy ≡ o → MatchOption o ((result ≡ Ok tt) × (left ≡ new_lifetime same elect n r.start copy))
          (λ e. (result ≡ Err e) × (left ≡ without_lifetime n))
          → AreSmall (trace_at (Restarts r) (restart_reply {K = K} {D = D} result))
      by_error None none (is, leaves) = rw is
          (small_both (of_floor r.start.floor) []
          (floor_small same (new_state r.start.setup) r.start.floor r.start.now copy none) small_none)
      by_error (Some e) due (is, leaves) = rw is small_none

  restart_small : (m next : MemberFacts K L D) (r : RestartFacts K L D) (result : Result (Unit {0}) RecoverError)
      → IsRestart same elect m r result next → AreSmall (trace_at (Restarts r) (restart_reply {K = K} {D = D} result))
  unfolding IsRestart
  restart_small m next r result restarts = by_test (retention_grows m r.prune r.start.setup.settings.view_retention)
      restarts
    where
      by_test : (b : Bool) → IsRestartWhere same elect b m r result next
          → AreSmall (trace_at (Restarts r) (restart_reply {K = K} {D = D} result))
      by_test true (is, leaves) = rw is small_none
      by_test false goes = goes_on_small (cut_member m r.drop r.prune) next r result goes

  -- a run
  pub steps_small : (steps : List (StepFacts K L D)) (replies : List (ReplyFacts K D)) (m end : MemberFacts K L D)
      → IsRun same elect m steps replies end → AreSmall (trace_of_steps steps replies)
  steps_small [] [] m end run = small_none
  steps_small [] (replied ∷ replies) m end run = absurd run
  steps_small (step ∷ steps) [] m end run = absurd run
  steps_small (Calls call ∷ steps) (replied ∷ replies) m end (next, is_call, rest) =
      small_both (trace_at {L = L} (Calls call) replied) (trace_of_steps steps replies)
      (call_small m next call replied is_call) (steps_small steps replies next end rest)
  steps_small (Prunes ∷ steps) (replied ∷ replies) m end (next, (tells, leaves), rest) =
      rw tells (steps_small steps replies next end rest)
  steps_small (Restarts r ∷ steps) (replied ∷ replies) m end (next, (result, restarts, tells), rest) =
      small_both (trace_at (Restarts r) replied) (trace_of_steps steps replies)
      (rw tells (restart_small m next r result restarts))
      (steps_small steps replies next end rest)
