-- For `agreement`.
-- Each vote is returned exactly if its rule holds.
use Rattle.std.proofs.Common.{◌≡◌, refl, sym, subst, ℕ, inl, inr, Bool, true, false, ◌&&◌, List, [], ◌∷◌, Contains, Option, Some, None, Result, Ok, Err, arith}
use Rattle.std.specs.Prelude.{is_some, if◌then◌else◌, option_map, option_and_then}
use Rattle.std.proofs.lemmas.Bool.{false≢true}
use Rattle.simplex_types.specs.Certificates.{NotarizeVote, NullifyVote, FinalizeVote}
use Rattle.simplex_types.specs.declared.types.fault.Fault.{Fault}
use Rattle.simplex_types.specs.declared.types.fault.Fault.TheVariants as fault
use Rattle.simplex_types.specs.declared.types.messages.Proposal.{Proposal}
use Rattle.simplex_types.specs.declared.types.messages.Subject.{Subject}
use Rattle.simplex_types.specs.declared.types.messages.Subject.TheVariants as subject
use Rattle.simplex_types.specs.declared.types.numbers.Round.{Round}
use Rattle.simplex_voter.specs.Facts.{StateFacts, Elect, round_of, round_number}
use Rattle.simplex_voter.specs.Refusals.{plain_refusal}
use Rattle.simplex_round.specs.Round.{is_nullify}
use Rattle.simplex_voter.specs.Rules.{may_notarize, may_nullify, may_finalize, NotarizeRule, NullifyRule, FinalizeRule}
use Rattle.simplex_voter.proofs.Rules.{nullify_parts, nullify_whole, finalize_parts, finalize_whole, notarize_parts, notarize_whole}
use Rattle.simplex_record.specs.declared.record.error.RecoverError.{RecoverError}
use Rattle.simplex_member.specs.CallConditions.{is_allowed, fault_of}
use Rattle.simplex_member.specs.Calls.{CallFacts, ConstructNotarize, ConstructNullify, ConstructFinalize, ReplyFacts, Nullify, Finalize, Notarize, Refused, NotAllowed, Done}
use Rattle.simplex_member.specs.CallSemantics.{answer}
use Rattle.simplex_member.specs.MemberFacts.{MemberFacts, IsCall, AnswersAlive, reply_of, unless_refused}
use Rattle.simplex_member.specs.OutstandingWork.{OutstandingWork}
use Rattle.simplex_member.specs.Runs.{StepFacts, Calls, Prunes, Restarts, restart_reply, IsStep, IsRun, IsRunFrom}
use Rattle.simplex_member.specs.Restarts.{RestartFacts}
use Rattle.laws_safety.specs.ExactVotes.{ends_in_fault, IsSignedFor, IsExact, proposal_at, ExactAt, RunsExactly, SignsExactly}
use Rattle.laws_safety.specs.Traces.{TraceEvent, Signs, signed_in}
use Rattle.laws_safety.specs.Executions.{new_member, Execution}
use Rattle.laws_safety.proofs.lists.Splits.{only_one}

no_key : (i : ℕ) → None ≡ Some i → ⊥
no_key i e = absurd (cc)

no_subject : {D : Type 0} (vote : Subject D) → None ≡ Some vote → ⊥
no_subject vote e = absurd (cc)

module _ {K D : Type 0} where
  -- no vote is returned, since there is no key, the rule doesn't hold, or the call is refused
  unreplied : (Rule : Type 0) (me : Option ℕ) (about : Option (Subject D)) (replied : ReplyFacts K D)
      → signed_in replied ≡ []
      → ((d : TraceEvent D) → ends_in_fault replied ≡ false → Rule → IsSignedFor me about d → ⊥)
      → IsExact Rule me about replied
  unreplied Rule me about replied none never = record {
    only = λ d h. absurd
        (let g : Contains [] d = subst (λ (ds : List (TraceEvent D)). Contains ds d) none h in omega (arith, g.1));
    due = λ d kept rule signed. absurd (never d kept rule signed);
  }

  refused : (Rule : Type 0) (me : Option ℕ) (about : Option (Subject D)) (f : Fault)
      → IsExact {K = K} Rule me about (Refused f)
  refused Rule me about f = unreplied Rule me about (Refused f) refl (λ d kept rule signed. false≢true (sym kept))

  -- one is
  replied_so : (Rule : Type 0) (m : ℕ) (about : Subject D) (replied : ReplyFacts K D) → Rule
      → signed_in replied ≡ Signs m about ∷ [] → IsExact Rule (Some m) (Some about) replied
  replied_so Rule m about replied holds is = record {
    only = λ d h. (let e : Signs m about ≡ d =
        only_one _ d (subst (λ (ds : List (TraceEvent D)). Contains ds d) is h) in
        (holds, (m, about, refl, refl, sym e)));
    due = λ d kept rule signed. (
        let key : Some m ≡ Some signed.0 = signed.2 in
        let on : Some about ≡ Some signed.1 = signed.3 in
        let so : d ≡ Signs signed.0 signed.1 = signed.4 in
        let i = signed.0 in
        let vote = signed.1 in
        let whole : Signs m about ∷ [] ≡ d ∷ [] = cc in
        let out : signed_in replied ≡ d ∷ [] = cc in out);
  }

  module _ (Rule : Type 0) (may : Bool) (whole : Rule → may ≡ true) (parts : may ≡ true → Rule) where
    exact_nullify : (may_be : Bool) → may ≡ may_be → (me : Option ℕ) (retry : Bool) (r : Round)
        → IsExact {K = K} {D = D} Rule me (Some (subject.Nullify r))
        (Nullify (option_and_then (λ m. option_map (λ again. (again, NullifyVote r m))
        (if is_some me && may_be then Some retry else None)) me))
    exact_nullify may_be is None retry r = unreplied Rule None (Some (subject.Nullify r)) _ refl
        (λ d kept rule signed. no_key signed.0 signed.2)
    exact_nullify true is (Some m) retry r = replied_so Rule m (subject.Nullify r) _ (parts is) refl
    exact_nullify false is (Some m) retry r =
        unreplied Rule (Some m) (Some (subject.Nullify r)) _ refl
        (λ d kept rule signed. false≢true (let h = whole rule in cc))

    exact_finalize : (may_be : Bool) → may ≡ may_be → (me : Option ℕ) (p : Option (Proposal D))
        → IsExact {K = K} Rule me (option_map subject.Finalize p)
        (Finalize
        (option_and_then (λ m. option_map (λ q. FinalizeVote q m) (if is_some me && may_be then p else None)) me))
    exact_finalize may_be is None p = unreplied Rule None (option_map subject.Finalize p) _ refl
        (λ d kept rule signed. no_key signed.0 signed.2)
    exact_finalize true is (Some m) (Some p) = replied_so Rule m (subject.Finalize p) _ (parts is) refl
    exact_finalize true is (Some m) None = unreplied Rule (Some m) None _ refl
        (λ d kept rule signed. no_subject signed.1 signed.3)
    exact_finalize false is (Some m) p = unreplied Rule (Some m) (option_map subject.Finalize p) _ refl
        (λ d kept rule signed. false≢true (let h = whole rule in cc))

    exact_notarize : (may_be : Bool) → may ≡ may_be → (me : Option ℕ) (p : Option (Proposal D))
        → IsExact {K = K} Rule me (option_map subject.Notarize p)
        (Notarize
        (option_and_then (λ m. option_map (λ q. NotarizeVote q m) (if is_some me && may_be then p else None)) me))
    exact_notarize may_be is None p = unreplied Rule None (option_map subject.Notarize p) _ refl
        (λ d kept rule signed. no_key signed.0 signed.2)
    exact_notarize true is (Some m) (Some p) = replied_so Rule m (subject.Notarize p) _ (parts is) refl
    exact_notarize true is (Some m) None = unreplied Rule (Some m) None _ refl
        (λ d kept rule signed. no_subject signed.1 signed.3)
    exact_notarize false is (Some m) p = unreplied Rule (Some m) (option_map subject.Notarize p) _ refl
        (λ d kept rule signed. false≢true (let h = whole rule in cc))

module _ {K D : Type 0} where
  -- a reply with no vote stays one where the call isn't allowed or is refused
  still_none : (allowed : Bool) (f : Option Fault) (replied : ReplyFacts K D) → signed_in replied ≡ []
      → signed_in (if allowed then unless_refused f replied else NotAllowed) ≡ []
  still_none false f replied none = refl
  still_none true (Some f) replied none = refl
  still_none true None replied none = none

module _ (K D : Type 0) where
  restart_signs_none : (result : Result (Unit {0}) RecoverError) → signed_in {K = K} {D = D} (restart_reply result) ≡ []
  restart_signs_none (Ok done) = refl
  restart_signs_none (Err e) = refl

module _ {K L D : Type 0} (same : D → D → Bool) (elect : Elect L) where
  call_refused : (x : StateFacts K L D) (call : CallFacts D) (f : Fault)
      → ExactAt same elect (Some x) (Calls call) (Refused f)
  call_refused x (ConstructNullify v) f = refused (NullifyRule x v) x.me (Some (subject.Nullify (round_number x v))) f
  call_refused x (ConstructFinalize v) f = refused (FinalizeRule elect x v) x.me
      (option_map subject.Finalize (proposal_at x v)) f
  call_refused x (ConstructNotarize v) f = refused (NotarizeRule same elect x v) x.me
      (option_map subject.Notarize (proposal_at x v)) f
  call_refused x _ f = refl

  call_replied : (x : StateFacts K L D) (o : OutstandingWork K D) (call : CallFacts D)
      → ExactAt same elect (Some x) (Calls call) (reply_of same elect x o call)
  call_replied x o (ConstructNullify v) = by_fault (plain_refusal x)
    where
      by_fault : (f : Option Fault) → IsExact (NullifyRule x v) x.me (Some (subject.Nullify (round_number x v)))
          (unless_refused f (answer same elect x o (ConstructNullify v)))
      by_fault (Some f) = call_refused x (ConstructNullify v) f
      by_fault None = exact_nullify (NullifyRule x v) (may_nullify x v) (nullify_whole x v) (nullify_parts x v)
          (may_nullify x v) refl x.me (is_nullify (round_of x v).decision) (round_number x v)
  call_replied x o (ConstructFinalize v) = by_fault (plain_refusal x)
    where
      by_fault : (f : Option Fault) → IsExact (FinalizeRule elect x v) x.me
          (option_map subject.Finalize (proposal_at x v))
          (unless_refused f (answer same elect x o (ConstructFinalize v)))
      by_fault (Some f) = call_refused x (ConstructFinalize v) f
      by_fault None = exact_finalize (FinalizeRule elect x v) (may_finalize elect x v) (finalize_whole elect x v)
          (finalize_parts elect x v) (may_finalize elect x v) refl x.me (proposal_at x v)
  call_replied x o (ConstructNotarize v) = by_fault (plain_refusal x)
    where
      by_fault : (f : Option Fault) → IsExact (NotarizeRule same elect x v) x.me
          (option_map subject.Notarize (proposal_at x v))
          (unless_refused f (answer same elect x o (ConstructNotarize v)))
      by_fault (Some f) = call_refused x (ConstructNotarize v) f
      by_fault None = exact_notarize (NotarizeRule same elect x v) (may_notarize same elect x v)
          (notarize_whole same elect x v) (notarize_parts same elect x v) (may_notarize same elect x v) refl x.me
          (proposal_at x v)
  call_replied x o call = still_none (is_allowed x o call) (fault_of x call) (answer same elect x o call) refl

  pub call_exact : (m next : MemberFacts K L D) (call : CallFacts D) (replied : ReplyFacts K D)
      → IsCall same elect m call replied next → ExactAt same elect m.life (Calls call) replied
  unfolding IsCall
  call_exact m next call replied is_call = by_life m.life is_call
    where
      by_life : (o : Option (StateFacts K L D)) → AnswersAlive same elect o m call replied next
          → ExactAt same elect o (Calls call) replied
      by_life None (tells, leaves) = rw tells refl
      by_life (Some x) (inl (tells, leaves)) = rw tells (call_replied x m.outstanding_work call)
      by_life (Some x) (inr (allowed, tells, leaves)) = rw tells (call_refused x call fault.OutOfMemory)

  pub restart_exact : (life : Option (StateFacts K L D)) (r : RestartFacts K L D)
      (result : Result (Unit {0}) RecoverError) → ExactAt same elect life (Restarts r) (restart_reply result)
  restart_exact None r result = restart_signs_none K D result
  restart_exact (Some x) r result = restart_signs_none K D result

  prune_exact : (life : Option (StateFacts K L D)) → ExactAt same elect life Prunes Done
  prune_exact None = refl
  prune_exact (Some x) = refl

  pub step_exact : (m next : MemberFacts K L D) (step : StepFacts K L D) (replied : ReplyFacts K D)
      → IsStep same elect m step replied next → ExactAt same elect m.life step replied
  step_exact m next (Calls call) replied is_step = call_exact m next call replied is_step
  step_exact m next Prunes replied is_step = rw is_step.0 (prune_exact m.life)
  step_exact m next (Restarts r) replied (result, restarts, is) = rw is (restart_exact m.life r result)

  exact_steps : (m end : MemberFacts K L D) (steps : List (StepFacts K L D)) (replies : List (ReplyFacts K D))
      → IsRun same elect m steps replies end → RunsExactly same elect m steps replies
  exact_steps m end [] [] run = tt
  exact_steps m end [] (replied ∷ replies) run = absurd run
  exact_steps m end (step ∷ steps) [] run = absurd run
  exact_steps m end (step ∷ steps) (replied ∷ replies) (next, is_step, run) =
      (step_exact m next step replied is_step, (next, is_step, exact_steps next end steps replies run))

  pub run_exact : (s : Execution K L D) → IsRunFrom same elect s.start s.steps s.replies → SignsExactly same elect s
  unfolding IsRunFrom
  run_exact s (accepted, end, run) = exact_steps (new_member same elect s.start) end s.steps s.replies run
