-- Which requests to build an answer leaves open.
use Rattle.std.proofs.Common.{◌≡◌, ◌∙◌, refl, ap, sym, subst, ℕ, ◌≤◌, ◌⊎◌, inl, inr, Bool, true, false, not, ◌==◌, cond, Option, Some, None, is_some, arith}
use Rattle.std.specs.Prelude.{nat_lt}
use Rattle.std.specs.List.{list_any}
use Rattle.std.specs.FinMap.Entries.{find}
use Rattle.std.specs.Ordering.{nat_cmp}
use Rattle.std.specs.Option.{option_map_or}
use Rattle.std.proofs.lemmas.Bool.{false≢true, eq-eqb, eqb-true, false_from_ne_true, ltb-true, or_from, or_left}
use Rattle.simplex_types.specs.Terms.{next_term_start}
use Rattle.simplex_types.specs.declared.types.fault.Fault.{Fault}
use Rattle.simplex_types.specs.declared.types.fault.Fault.TheVariants as fault
use Rattle.simplex_voter.specs.Facts.{StateFacts, Elect}
use Rattle.simplex_voter.specs.ProposalRequests.{propose_answer, request_context, supersede_answer}
use Rattle.simplex_voter.specs.Timeouts.{trigger_answer}
use Rattle.simplex_voter.specs.Verification.{set_proposal_answer, verified_answer, verify_answer}
use Rattle.simplex_voter.specs.declared.voter.propose.ProposalRequest.{ProposalRequest}
use Rattle.simplex_voter.specs.declared.voter.verify.Verify.{Verify}
use Rattle.simplex_voter.specs.declared.voter.verify.Verify.TheVariants as verify
use Rattle.simplex_voter.proofs.Found.{find-filtered}
use Rattle.simplex_member.specs.CallConditions.{is_allowed, fault_of}
use Rattle.simplex_member.specs.Calls as call
use Rattle.simplex_member.specs.Calls.{ReplyFacts}
use Rattle.simplex_member.specs.CallSemantics.{answer, outstanding_work_after}
use Rattle.simplex_member.specs.MemberFacts.{MemberFacts, AnswersAlive, IsCall, unless_refused, unless_retained, with_call}
use Rattle.simplex_member.specs.OutstandingWork.{OutstandingWork, context_at, with_open_request, with_verification, without_context}
use Rattle.laws_safety.proofs.votes.OutstandingWork.{now_open, still_open}
use Rattle.laws_safety.proofs.votes.Requests.{requested_ahead}
use Rattle.engine_planner.specs.declared.task.Task.{Task}
use Rattle.engine_planner.specs.declared.task.Task.TheVariants as task
use Rattle.engine_planner.specs.Consequences.{Nothing, Touched}
use Rattle.engine_planner.specs.PlannedWork.{ended_in, ends, views_requested}
use Rattle.engine_planner.specs.Tasks.{call_of}

-- nothing is ended
touched : (D : Type 0) (is_taken : Bool) (view other : ℕ)
    → ended_in {D = D} (cond is_taken (Touched view) Nothing) other ≡ false
touched D true view other = refl
touched D false view other = refl

module _ {K D : Type 0} where
  abbrev is_open : OutstandingWork K D → ℕ → Bool
  is_open waiting view = is_some (context_at waiting view)

  -- each request that is open in the end is in the reply or was open, and is not ended
  abbrev pub AreOpen : Task D → ReplyFacts K D → OutstandingWork K D → OutstandingWork K D → Type 0
  AreOpen asked replied before left =
      (view : ℕ) → is_open left view ≡ true
      → ((list_any (λ v. v == view) (views_requested replied) ≡ true) ⊎ (is_open before view ≡ true))
      × (ends asked replied view ≡ false)

  -- what is open after a close was open, and is of another view
  closed_other : (o : OutstandingWork K D) (v w : ℕ) → is_open (without_context o v) w ≡ true
      → (is_open o w ≡ true) × ((v == w) ≡ false)
  closed_other o v w is =
      (still_open o v w is, false_from_ne_true (v == w) (λ at. false≢true (sym (gone (eqb-true v w at)) ∙ is)))
    where
      gone : v ≡ w → is_open (without_context o v) w ≡ false
      gone at = ap is_some (find-filtered (λ k. not (k == v)) w o.contexts
          ∙ ap (λ b. cond (not b) (find nat_cmp w o.contexts) None) (eq-eqb w v (sym at)))

module _ {K L D : Type 0} (same : D → D → Bool) (elect : Elect L) (x : StateFacts K L D) (o : OutstandingWork K D) where
  by_request : (request : Option (ProposalRequest D K))
      → AreOpen task.TryPropose (call.Requested request) o (with_open_request o request)
  by_request None view is = (inr is, refl)
  by_request (Some request) view is = elim (now_open o (request_context request) view is) [
    | inl now ↦ (
      inl (or_left ((request_context request).round.view == view) false
          (eq-eqb (request_context request).round.view view (sym now))),
      refl,
    )
    | inr before ↦ (inr before, refl)
  ]

  superseded : (v : ℕ) (replaced : Bool) → AreOpen (task.SupersedeProposalRequest v) (call.Answered replaced) o
      (cond replaced (without_context o v) o)
  superseded v true view is = (let kept = closed_other o v view is in (inr kept.0, kept.1))
  superseded v false view is = (inr is, refl)

  by_verify : (verify : Verify D K) → AreOpen task.TryVerify (call.Standing verify) o (with_verification o verify)
  by_verify (verify.Ready context proposal) view is = (inr is, refl)
  by_verify (verify.Resolve proposal lacks kind target) view is = (inr is, refl)
  by_verify verify.Wait view is = (inr is, refl)

  -- a call that returns
  open_by_answer : (asked : Task D) (now : ℕ)
      → AreOpen asked (answer same elect x o (call_of asked now)) o
      (outstanding_work_after same elect x o (call_of asked now))
  open_by_answer task.TryPropose now view is = by_request (propose_answer same elect x) view is
  open_by_answer (task.Proposed v payload) now view is = (let kept = closed_other o v view is in (inr kept.0, kept.1))
  open_by_answer (task.SupersedeProposalRequest v) now view is =
      superseded v (option_map_or (λ context. supersede_answer same elect x context) (context_at o v) false) view is
  open_by_answer (task.ReleaseProposalRequest v) now view is =
      (let kept = closed_other o v view is in (inr kept.0, kept.1))
  open_by_answer (task.PendingHandoffAbandonment v) now view is = (inr is, refl)
  open_by_answer task.TryVerify now view is = by_verify (verify_answer same elect x) view is
  open_by_answer (task.SetProposal v p) now view is = (inr is, touched D (set_proposal_answer x v) v view)
  open_by_answer (task.Verified v) now view is = (inr is, touched D (verified_answer same elect x v) v view)
  open_by_answer (task.TriggerTimeout v reason) now view is = (inr is, touched D (trigger_answer x v reason) v view)
  open_by_answer (task.VerificationFailed v) now view is = (inr is, refl)
  open_by_answer task.CertifyCandidates now view is = (inr is, refl)
  open_by_answer (task.SetCertifyHandle v) now view is = (inr is, refl)
  open_by_answer (task.Certified v success) now view is = (inr is, refl)
  open_by_answer (task.ConstructNotarize v) now view is = (inr is, refl)
  open_by_answer (task.ConstructFinalize v) now view is = (inr is, refl)
  open_by_answer (task.ConstructNullify v reason) now view is = (inr is, refl)
  open_by_answer (task.BroadcastNotarization v) now view is = (inr is, refl)
  open_by_answer (task.BroadcastNullification v) now view is = (inr is, refl)
  open_by_answer (task.BroadcastFinalization v) now view is = (inr is, refl)
  open_by_answer task.GetBestCertificate now view is = (inr is, refl)
  open_by_answer task.NextTimeout now view is = (inr is, refl)
  open_by_answer task.Prune now view is = (inr is, refl)

  -- a call on a request that is not open is not allowed
  not_open : (v view : ℕ) → is_open o v ≡ false → is_open o view ≡ true → (v == view) ≡ false
  not_open v view none is = false_from_ne_true (v == view)
      (λ at. false≢true (sym none ∙ subst (λ w. is_open o w ≡ true) (sym (eqb-true v view at)) is))

  abbrev refusal : ReplyFacts K D
  refusal = call.NotAllowed

  open_by_refusal : (asked : Task D) (now view : ℕ) → is_allowed x o (call_of asked now) ≡ false → is_open o view ≡ true
      → ends asked refusal view ≡ false
  open_by_refusal (task.Proposed v payload) now view none is = not_open v view none is
  open_by_refusal (task.SupersedeProposalRequest v) now view none is = not_open v view none is
  open_by_refusal (task.PendingHandoffAbandonment v) now view none is = not_open v view none is
  open_by_refusal (task.ReleaseProposalRequest v) now view none is = absurd (false≢true (sym none))
  open_by_refusal task.TryPropose now view none is = refl
  open_by_refusal task.TryVerify now view none is = refl
  open_by_refusal (task.SetProposal v p) now view none is = refl
  open_by_refusal (task.Verified v) now view none is = refl
  open_by_refusal (task.TriggerTimeout v reason) now view none is = refl
  open_by_refusal (task.VerificationFailed v) now view none is = refl
  open_by_refusal task.CertifyCandidates now view none is = refl
  open_by_refusal (task.SetCertifyHandle v) now view none is = refl
  open_by_refusal (task.Certified v success) now view none is = refl
  open_by_refusal (task.ConstructNotarize v) now view none is = refl
  open_by_refusal (task.ConstructFinalize v) now view none is = refl
  open_by_refusal (task.ConstructNullify v reason) now view none is = refl
  open_by_refusal (task.BroadcastNotarization v) now view none is = refl
  open_by_refusal (task.BroadcastNullification v) now view none is = refl
  open_by_refusal (task.BroadcastFinalization v) now view none is = refl
  open_by_refusal task.GetBestCertificate now view none is = refl
  open_by_refusal task.NextTimeout now view none is = refl
  open_by_refusal task.Prune now view none is = refl

  -- what is requested is not above the first view of the next term
  none_above : (w : ℕ) → next_term_start x.terms.term_length x.current ≤ w → (request : Option (ProposalRequest D K))
      → propose_answer same elect x ≡ request
      → list_any (nat_lt w) (views_requested (call.Requested request)) ≡ false
  none_above w up None is = refl
  none_above w up (Some request) is =
      or_from (nat_lt w (request_context request).round.view) false
      (false_from_ne_true _ (λ above. absurd (omega
      (arith, ltb-true w (request_context request).round.view above, requested_ahead x same elect request is, up))))
      refl

  near_by_answer : (w : ℕ) → next_term_start x.terms.term_length x.current ≤ w → (asked : Task D) (now : ℕ)
      → list_any (nat_lt w) (views_requested (answer same elect x o (call_of asked now))) ≡ false
  near_by_answer w up task.TryPropose now = none_above w up (propose_answer same elect x) refl
  near_by_answer w up task.TryVerify now = refl
  near_by_answer w up (task.Proposed v payload) now = refl
  near_by_answer w up (task.SupersedeProposalRequest v) now = refl
  near_by_answer w up (task.PendingHandoffAbandonment v) now = refl
  near_by_answer w up (task.ReleaseProposalRequest v) now = refl
  near_by_answer w up (task.SetProposal v p) now = refl
  near_by_answer w up (task.Verified v) now = refl
  near_by_answer w up (task.TriggerTimeout v reason) now = refl
  near_by_answer w up (task.VerificationFailed v) now = refl
  near_by_answer w up task.CertifyCandidates now = refl
  near_by_answer w up (task.SetCertifyHandle v) now = refl
  near_by_answer w up (task.Certified v success) now = refl
  near_by_answer w up (task.ConstructNotarize v) now = refl
  near_by_answer w up (task.ConstructFinalize v) now = refl
  near_by_answer w up (task.ConstructNullify v reason) now = refl
  near_by_answer w up (task.BroadcastNotarization v) now = refl
  near_by_answer w up (task.BroadcastNullification v) now = refl
  near_by_answer w up (task.BroadcastFinalization v) now = refl
  near_by_answer w up task.GetBestCertificate now = refl
  near_by_answer w up task.NextTimeout now = refl
  near_by_answer w up task.Prune now = refl

module _ {K L D : Type 0} (same : D → D → Bool) (elect : Elect L) (m left : MemberFacts K L D) (asked : Task D)
    (now : ℕ) (replied : ReplyFacts K D) where
  -- a call of the member
  pub open_by_call : IsCall same elect m (call_of asked now) replied left
      → AreOpen asked replied m.outstanding_work left.outstanding_work
  unfolding IsCall
  open_by_call is_call = by_life m.life is_call
    where
      Leaves : ReplyFacts K D → MemberFacts K L D → Type 0
      Leaves t n = AreOpen asked t m.outstanding_work n.outstanding_work

      refused : (fault : Fault) → replied ≡ call.Refused fault → left ≡ m → Leaves replied left
      refused fault tells leaves = subst (λ t. Leaves t left) (sym tells)
          (subst (Leaves (call.Refused fault)) (sym leaves) (λ view is. (inr is, refl)))

      by_test : (x : StateFacts K L D) (b : Bool) (due : Option Fault)
          → is_allowed x m.outstanding_work (call_of asked now) ≡ b
          → replied ≡ cond b (unless_refused due (answer same elect x m.outstanding_work (call_of asked now)))
          call.NotAllowed
          → left ≡ cond b (unless_retained due m (with_call same elect x m (call_of asked now))) m → Leaves replied left
      by_test x false due allowed tells leaves =
          subst (λ t. Leaves t left) (sym tells) (subst (Leaves call.NotAllowed) (sym leaves)
          (λ view is. (inr is, open_by_refusal same elect x m.outstanding_work asked now view allowed is)))
      by_test x true (Some due) allowed tells leaves = refused due tells leaves
      by_test x true None allowed tells leaves =
          subst (λ t. Leaves t left) (sym tells)
          (subst (Leaves (answer same elect x m.outstanding_work (call_of asked now))) (sym leaves)
          (open_by_answer same elect x m.outstanding_work asked now))

      by_life : (life : Option (StateFacts K L D)) → AnswersAlive same elect life m (call_of asked now) replied left
          → Leaves replied left
      by_life None (tells, leaves) = refused fault.Failed tells leaves
      by_life (Some x) (inl (tells, leaves)) =
          by_test x (is_allowed x m.outstanding_work (call_of asked now)) (fault_of x (call_of asked now)) refl tells
          leaves
      by_life (Some x) (inr (_, tells, inl (_, leaves))) = refused fault.OutOfMemory tells leaves
      by_life (Some x) (inr (_, tells, inr (_, _, leaves))) =
          subst (Leaves replied) (sym leaves) (λ view is. absurd (false≢true is))

  -- what it requests is not above the first view of the next term
  pub near_by_call : IsCall same elect m (call_of asked now) replied left → (x : StateFacts K L D) → m.life ≡ Some x
      → (w : ℕ) → next_term_start x.terms.term_length x.current ≤ w
      → list_any (nat_lt w) (views_requested replied) ≡ false
  unfolding IsCall
  near_by_call is_call x lives w up = by_answer
      (subst (λ life. AnswersAlive same elect life m (call_of asked now) replied left) lives is_call)
    where
      IsNear : ReplyFacts K D → Type 0
      IsNear t = list_any (nat_lt w) (views_requested t) ≡ false

      by_test : (b : Bool) (due : Option Fault)
          → replied ≡ cond b (unless_refused due (answer same elect x m.outstanding_work (call_of asked now)))
          call.NotAllowed → IsNear replied
      by_test false due tells = subst IsNear (sym tells) refl
      by_test true (Some due) tells = subst IsNear (sym tells) refl
      by_test true None tells = subst IsNear (sym tells) (near_by_answer same elect x m.outstanding_work w up asked now)

      by_answer : AnswersAlive same elect (Some x) m (call_of asked now) replied left → IsNear replied
      by_answer (inl (tells, leaves)) = by_test (is_allowed x m.outstanding_work (call_of asked now))
          (fault_of x (call_of asked now)) tells
      by_answer (inr (_, tells, leaves)) = subst IsNear (sym tells) refl
