-- A member that receives verdicts on its offers alone judges only proposals that it offered.
use Rattle.std.proofs.Common.{◌≡◌, refl, ap, sym, ◌∙◌, subst, ℕ, ◌⊎◌, inl, inr, Bool, true, false, cond, ◌&&◌, nat_lt, if◌then◌else◌, List, [], ◌∷◌, ◌++◌, append_assoc, append-nil, slice_get, Contains, Option, Some, None, is_some, unwrap_or, Result, Ok, Err, arith}
use Rattle.std.specs.Prelude.{MatchOption, option_and_then}
use Rattle.std.specs.BTreeSet.{insert_key}
use Rattle.std.specs.List.{fold}
use Rattle.std.specs.Option.{option_map_or}
use Rattle.std.specs.Ordering.{nat_cmp}
use Rattle.std.proofs.lemmas.Bool.{false≢true}
use Rattle.std.proofs.lemmas.List.Elements.{Contains-append_left, Contains-append_right, Contains-append_cases}
use Rattle.simplex_types.specs.Certificates.{ProposalFacts}
use Rattle.simplex_types.specs.Proposal.{same_proposal}
use Rattle.simplex_types.specs.declared.types.fault.Fault.{Fault}
use Rattle.simplex_types.specs.declared.types.messages.Proposal.{Proposal}
use Rattle.simplex_types.specs.declared.types.messages.Subject.TheVariants as subject
use Rattle.simplex_types.proofs.Proposal.{same_proposal-true}
use Rattle.simplex_round.specs.Round.{RoundFacts, is_ready, new_round}
use Rattle.simplex_voter.specs.Certification.{candidates_answer, certification_parent_ready, certified_answer, offered_of}
use Rattle.simplex_voter.specs.Facts.{StateFacts, Elect, round_at, round_number, round_of}
use Rattle.simplex_voter.specs.ProposalRequests.{propose_answer, supersede_answer}
use Rattle.simplex_voter.specs.Verification.{verify_answer}
use Rattle.simplex_voter.specs.declared.voter.candidates.CertificateFetch.{CertificateFetch}
use Rattle.simplex_voter.specs.declared.voter.propose.ProposalRequest.{ProposalRequest}
use Rattle.simplex_voter.specs.declared.voter.verify.Verify.{Verify}
use Rattle.simplex_voter.specs.declared.voter.verify.Verify.TheVariants as verify
use Rattle.simplex_record.specs.declared.record.error.RecoverError.{RecoverError}
use Rattle.simplex_record.specs.Recovery.{recover_error}
use Rattle.simplex_record.specs.Start.{new_state}
use Rattle.simplex_member.specs.CallConditions.{is_allowed, fault_of}
use Rattle.simplex_member.specs.Calls.{CallFacts, TryPropose, SupersedeProposalRequest, TryVerify, CertifyCandidates, Certified, ReplyFacts, Candidates, Judged, NotAllowed}
use Rattle.simplex_member.specs.CallSemantics.{answer, outstanding_work_after}
use Rattle.simplex_member.specs.MemberFacts.{MemberFacts, IsCall, AnswersAlive, unless_refused, unless_retained, with_call, without_lifetime}
use Rattle.simplex_member.specs.OutstandingWork.{OutstandingWork, no_outstanding_work, context_at, is_among, is_offered, with_open_request, with_verification, without_context}
use Rattle.simplex_member.specs.Restarts.{RestartFacts, cut_member, new_lifetime, retention_grows, IsRestart, IsRestartWhere}
use Rattle.simplex_member.specs.Runs.{StepFacts, Calls, Prunes, Restarts, IsStep, IsRun}
use Rattle.laws_safety.specs.Executions.{new_member, Execution, trace_of}
use Rattle.laws_safety.specs.Replicas.{Replica, Honest, Backed, IsNetworkOf}
use Rattle.laws_safety.specs.Traces.{Accepts}
use Rattle.laws_safety.proofs.agreement.Claims.{one_proposal}
use Rattle.laws_safety.proofs.lists.Splits.{Contains-cons_rest, only_one}
use Rattle.laws_safety.proofs.votes.OutstandingWork.{among_others, now_among}
use Rattle.laws_progress.specs.ViewCauses.{judged_by, judged_in, judged_of}
use Rattle.laws_progress.proofs.runs.Led.{Led}
use Rattle.laws_progress.proofs.runs.LedLives.{state_led, judged_are_notarized}
use Rattle.laws_chains.specs.Chains.{WasOffered}
use Rattle.laws_chains.specs.Offers.{IsStepOnOffer, IsRunOnOffers, OffersAreAwaited}
use Rattle.laws_chains.proofs.StatesAtOffers.{state_at_offer}
use Rattle.laws_chains.proofs.StatesAtVotes.{state_where}

none_in : {X : Type 0} (x : X) → Contains [] x → ⊥
none_in x h = absurd (omega (arith, h.1))

-- ---- what was offered

module _ {K D : Type 0} where
  -- a proposal of the view is among the offers of these replies
  abbrev IsOfferedIn : List (ReplyFacts K D) → ℕ → Type 0
  IsOfferedIn replied v =
      (offers : List (Proposal D)) × (fetches : List CertificateFetch) × (p : Proposal D)
      × Contains replied (Candidates offers fetches) × Contains offers p × (p.round.view ≡ v)

  -- so it is of each view whose offer is open
  abbrev AreOfferedIn : List (ReplyFacts K D) → OutstandingWork K D → Type 0
  AreOfferedIn replied o = (v : ℕ) → is_offered o v ≡ true → IsOfferedIn replied v

  offered_more : (replied more : List (ReplyFacts K D)) (v : ℕ) → IsOfferedIn replied v
      → IsOfferedIn (replied ++ more) v
  offered_more replied more v (offers, fetches, p, h, among, at) =
      (offers, fetches, p, Contains-append_left replied more (Candidates offers fetches) h, among, at)

  -- what is open beside offers does not matter
  request_offers : (o : OutstandingWork K D) (request : Option (ProposalRequest D K)) (v : ℕ)
      → is_offered (with_open_request o request) v ≡ is_offered o v
  request_offers o None v = refl
  request_offers o (Some request) v = refl

  verification_offers : (o : OutstandingWork K D) (it : Verify D K) (v : ℕ)
      → is_offered (with_verification o it) v ≡ is_offered o v
  verification_offers o verify.Wait v = refl
  verification_offers o (verify.Resolve proposal view kind target) v = refl
  verification_offers o (verify.Ready context p) v = refl

  superseded_offers : (o : OutstandingWork K D) (u : ℕ) (b : Bool) (v : ℕ)
      → is_offered (cond b (without_context o u) o) v ≡ is_offered o v
  superseded_offers o u true v = refl
  superseded_offers o u false v = refl

offered_now : {D : Type 0} (view : ℕ) (proposals : List (Proposal D)) (views : List ℕ)
    → is_among view (fold (λ vs (p : Proposal D). insert_key nat_cmp vs p.round.view) views proposals) ≡ true
    → (is_among view views ≡ true) ⊎ ((p : Proposal D) × Contains proposals p × (p.round.view ≡ view))
offered_now view [] views is = inl is
offered_now view (p ∷ rest) views is = elim (offered_now view rest (insert_key nat_cmp views p.round.view) is) [
  | inr later ↦ inr (later.0, Contains-cons_rest p rest later.0 later.1, later.2)
  | inl before ↦ (elim (now_among p.round.view view views before) [
    | inl now ↦ inr (p, (0, omega arith, refl), sym now)
    | inr there ↦ inl there
  ])
]

module _ {K L D : Type 0} (same : D → D → Bool) (elect : Elect L) where
  answer_opens : (replied : List (ReplyFacts K D)) (x : StateFacts K L D) (o : OutstandingWork K D) (call : CallFacts D)
      → AreOfferedIn replied o
      → AreOfferedIn (replied ++ answer same elect x o call ∷ []) (outstanding_work_after same elect x o call)
  answer_opens replied x o CertifyCandidates are v is =
      let offers = (candidates_answer same elect x).0 in
      let fetches = (candidates_answer same elect x).1 in
      elim (offered_now v offers o.offered is) [
        | inl before ↦ offered_more replied (Candidates offers fetches ∷ []) v (are v before)
        | inr now ↦ (
          offers,
          fetches,
          now.0,
          Contains-append_right replied (Candidates offers fetches ∷ [])
              (Candidates offers fetches) (0, omega arith, refl),
          now.1,
          now.2,
        )
      ]
  answer_opens replied x o (Certified u success now) are v is =
      offered_more replied (answer same elect x o (Certified u success now) ∷ []) v
      (are v (among_others u v o.offered is).0)
  answer_opens replied x o TryPropose are v is =
      offered_more replied (answer same elect x o TryPropose ∷ []) v
      (are v (sym (request_offers o (propose_answer same elect x) v) ∙ is))
  answer_opens replied x o TryVerify are v is =
      offered_more replied (answer same elect x o TryVerify ∷ []) v
      (are v (sym (verification_offers o (verify_answer same elect x) v) ∙ is))
  answer_opens replied x o (SupersedeProposalRequest u) are v is =
      let replaced = option_map_or (λ context. supersede_answer same elect x context) (context_at o u) false in
      offered_more replied (answer same elect x o (SupersedeProposalRequest u) ∷ []) v
      (are v (sym (superseded_offers o u replaced v) ∙ is))
  answer_opens replied x o call are v is = offered_more replied (answer same elect x o call ∷ []) v (are v is)

  module _ (replied : List (ReplyFacts K D)) (m next : MemberFacts K L D) (reply : ReplyFacts K D)
      (are : AreOfferedIn replied m.outstanding_work) where
    still_open : next.outstanding_work ≡ m.outstanding_work → AreOfferedIn (replied ++ reply ∷ []) next.outstanding_work
    still_open is v opened = offered_more replied (reply ∷ []) v (are v (subst (λ o. is_offered o v ≡ true) is opened))

    none_open : next.outstanding_work ≡ no_outstanding_work → AreOfferedIn (replied ++ reply ∷ []) next.outstanding_work
    none_open is v opened = absurd (false≢true (subst (λ o. is_offered o v ≡ true) is opened))

    abbrev open_in : MemberFacts K L D → OutstandingWork K D
    open_in n = n.outstanding_work

    call_opens : (call : CallFacts D) → IsCall same elect m call reply next
        → AreOfferedIn (replied ++ reply ∷ []) next.outstanding_work
    unfolding IsCall
    call_opens call is_call = by_life m.life is_call
      where
        by_test : (x : StateFacts K L D) (b : Bool) (due : Option Fault)
            → reply ≡ cond b (unless_refused due (answer same elect x m.outstanding_work call)) NotAllowed
            → next ≡ cond b (unless_retained due m (with_call same elect x m call)) m
            → AreOfferedIn (replied ++ reply ∷ []) next.outstanding_work
        by_test x false due tells leaves = still_open (ap open_in leaves)
        by_test x true (Some due) tells leaves = still_open (ap open_in leaves)
        by_test x true None tells leaves = λ v opened.
            subst (λ r. IsOfferedIn (replied ++ r ∷ []) v) (sym tells)
            (answer_opens replied x m.outstanding_work call are v
            (subst (λ o. is_offered o v ≡ true) (ap open_in leaves) opened))

        by_life : (life : Option (StateFacts K L D)) → AnswersAlive same elect life m call reply next
            → AreOfferedIn (replied ++ reply ∷ []) next.outstanding_work
        by_life None (tells, leaves) = still_open (ap open_in leaves)
        by_life (Some x) (inl (tells, leaves)) =
            by_test x (is_allowed x m.outstanding_work call) (fault_of x call) tells leaves
        by_life (Some x) (inr (allowed, tells, inl (room, leaves))) = still_open (ap open_in leaves)
        by_life (Some x) (inr (allowed, tells, inr (fault, falls, leaves))) = none_open (ap open_in leaves)

    restart_opens : (r : RestartFacts K L D) (result : Result (Unit {0}) RecoverError)
        → IsRestart same elect m r result next → AreOfferedIn (replied ++ reply ∷ []) next.outstanding_work
    unfolding IsRestart
    restart_opens r result is = by_growth (retention_grows m r.prune r.start.setup.settings.view_retention) is
      where
        cut : MemberFacts K L D
        cut = cut_member m r.drop r.prune

        by_error : (copy : List _) (o : Option RecoverError)
            → MatchOption o ((result ≡ Ok tt) × (next ≡ new_lifetime same elect cut r.start copy))
            (λ e. (result ≡ Err e) × (next ≡ without_lifetime cut))
            → AreOfferedIn (replied ++ reply ∷ []) next.outstanding_work
        by_error copy None (done, leaves) = none_open (ap open_in leaves)
        by_error copy (Some e) (refused, leaves) = none_open (ap open_in leaves)

        by_growth : (grows : Bool) → IsRestartWhere same elect grows m r result next
            → AreOfferedIn (replied ++ reply ∷ []) next.outstanding_work
        by_growth true (refused, leaves) = still_open (ap open_in leaves)
        by_growth false (inl (refused, leaves)) = none_open (ap open_in leaves)
        by_growth false (inr (copy, by_view, recovers)) =
            by_error copy (recover_error same (new_state r.start.setup) r.start.floor r.start.now copy) recovers

    step_opens : (step : StepFacts K L D) → IsStep same elect m step reply next
        → AreOfferedIn (replied ++ reply ∷ []) next.outstanding_work
    step_opens (Calls call) is_step = call_opens call is_step
    step_opens Prunes (tells, leaves) = still_open (ap open_in leaves)
    step_opens (Restarts r) (result, restarts, tells) = restart_opens r result restarts

-- ---- the step of a verdict

module _ {K L D : Type 0} (same : D → D → Bool) (elect : Elect L) (q : Proposal D) where
  -- the state gives this answer to a verdict on the view
  abbrev JudgesAt : StateFacts K L D → ℕ → Type 0
  JudgesAt x v = (success : Bool) × Contains (judged_by {K = K} (Judged success (certified_answer x v))) (true, q)

  -- a living member does, of a view that it offered
  abbrev Judges : MemberFacts K L D → Option (StateFacts K L D) → Type 0
  Judges m life = (x : StateFacts K L D) × (life ≡ Some x) × (v : ℕ) × (is_offered m.outstanding_work v ≡ true)
      × JudgesAt x v

  answer_judges : (m : MemberFacts K L D) (x : StateFacts K L D) (call : CallFacts D) → IsStepOnOffer m (Calls call)
      → Contains (judged_by (answer same elect x m.outstanding_work call)) (true, q)
      → (v : ℕ) × (is_offered m.outstanding_work v ≡ true) × JudgesAt x v
  answer_judges m x (Certified v success now) on_offer h = (v, on_offer, (success, h))
  answer_judges m x _ on_offer h = absurd (none_in (true, q) h)

  not_judged : {A : Type 0} (replied other : ReplyFacts K D) → replied ≡ other → judged_by other ≡ []
      → Contains (judged_by replied) (true, q) → A
  not_judged replied other is none h =
      absurd (none_in (true, q) (subst (λ js. Contains js (true, q)) (ap judged_by is ∙ none) h))

  call_judges : (m next : MemberFacts K L D) (call : CallFacts D) (replied : ReplyFacts K D)
      → IsCall same elect m call replied next → IsStepOnOffer m (Calls call) → Contains (judged_by replied) (true, q)
      → Judges m m.life
  unfolding IsCall
  call_judges m next call replied is_call on_offer h = by_life m.life is_call
    where
      by_test : (x : StateFacts K L D) (b : Bool) (due : Option Fault)
          → replied ≡ cond b (unless_refused due (answer same elect x m.outstanding_work call)) NotAllowed
          → Judges m (Some x)
      by_test x false due tells = not_judged replied NotAllowed tells refl h
      by_test x true (Some due) tells = not_judged replied _ tells refl h
      by_test x true None tells =
          let it = answer_judges m x call on_offer
          (subst (λ (t : ReplyFacts K D). Contains (judged_by t) (true, q)) tells h) in
          (x, refl, it.0, it.1, it.2)

      by_life : (life : Option (StateFacts K L D)) → AnswersAlive same elect life m call replied next → Judges m life
      by_life None (tells, leaves) = not_judged replied _ tells refl h
      by_life (Some x) (inl (tells, leaves)) = by_test x (is_allowed x m.outstanding_work call) (fault_of x call) tells
      by_life (Some x) (inr (allowed, tells, leaves)) = not_judged replied _ tells refl h

  step_judges : (m next : MemberFacts K L D) (step : StepFacts K L D) (replied : ReplyFacts K D)
      → IsStep same elect m step replied next → IsStepOnOffer m step → Contains (judged_by replied) (true, q)
      → Judges m m.life
  step_judges m next (Calls call) replied is_step on_offer h = call_judges m next call replied is_step on_offer h
  step_judges m next Prunes replied is_step on_offer h = not_judged replied _ is_step.0 refl h
  step_judges m next (Restarts r) replied (Ok done, restarts, is) on_offer h = not_judged replied _ is refl h
  step_judges m next (Restarts r) replied (Err error, restarts, is) on_offer h = not_judged replied _ is refl h

  -- the run up to there, where these replies came before
  record JudgedIn (before : List (ReplyFacts K D)) (m : MemberFacts K L D) (steps : List (StepFacts K L D))
      (replies : List (ReplyFacts K D)) : Type 0 where
    first : List (StepFacts K L D)
    replied : List (ReplyFacts K D)
    more : List (StepFacts K L D)
    rest : List (ReplyFacts K D)
    steps_are : steps ≡ first ++ more
    replies_are : replies ≡ replied ++ rest
    middle : MemberFacts K L D
    run : IsRun same elect m first replied middle
    x : StateFacts K L D
    alive : middle.life ≡ Some x
    view : ℕ
    offered : IsOfferedIn (before ++ replied) view
    judges : JudgesAt x view

  judged_at : (before : List (ReplyFacts K D)) (steps : List (StepFacts K L D)) (replies : List (ReplyFacts K D))
      (m end : MemberFacts K L D) → IsRunOnOffers same elect m steps replies end
      → AreOfferedIn before m.outstanding_work
      → Contains (judged_in replies) (true, q) → JudgedIn before m steps replies
  judged_at before [] [] m end run are h = absurd (none_in (true, q) h)
  judged_at before [] (reply ∷ replies) m end run are h = absurd run
  judged_at before (step ∷ steps) [] m end run are h = absurd run
  judged_at before (step ∷ steps) (reply ∷ replies) m end (on_offer, next, is_step, run) are h =
      elim (Contains-append_cases (judged_by reply) (judged_in replies) (true, q) h) [
        | inl here ↦ (
            let it = step_judges m next step reply is_step on_offer here in
            record {
              first = [];
              replied = [];
              more = step ∷ steps;
              rest = reply ∷ replies;
              steps_are = refl;
              replies_are = refl;
              middle = m;
              run = refl;
              x = it.0;
              alive = it.1;
              view = it.2;
              offered = subst (λ t. IsOfferedIn t it.2) (sym (append-nil before)) (are it.2 it.3);
              judges = it.4;
            })
        | inr later ↦ (
            let v = judged_at (before ++ reply ∷ []) steps replies next end run
            (step_opens same elect before m next reply are step is_step) later in
            record {
              first = step ∷ v.first;
              replied = reply ∷ v.replied;
              more = v.more;
              rest = v.rest;
              steps_are = ap (λ (ss : List (StepFacts K L D)). step ∷ ss) v.steps_are;
              replies_are = ap (λ (rs : List (ReplyFacts K D)). reply ∷ rs) v.replies_are;
              middle = v.middle;
              run = (next, is_step, v.run);
              x = v.x;
              alive = v.alive;
              view = v.view;
              offered = subst (λ t. IsOfferedIn t v.view) (append_assoc before (reply ∷ []) v.replied) v.offered;
              judges = v.judges;
            })
      ]

-- ---- what is offered and what is judged was notarized

module _ {K L D : Type 0} (same : D → D → Bool) (elect : Elect L) (x : StateFacts K L D) (v : ℕ) (q : Proposal D) where
  -- the notarization that an offer rests on
  abbrev RestsOn : Option (ProposalFacts D) → Type 0
  RestsOn n = (c : ProposalFacts D) × (n ≡ Some c) × (same_proposal same q c.proposal ≡ true)

  abbrev offer : Proposal D → Option (Proposal D)
  offer p = if nat_lt p.parent v && certification_parent_ready elect x v p then Some p else None

  offered_notarized : offered_of same elect x v ≡ Some q → RestsOn (round_of x v).notarization
  offered_notarized is = by_ready (is_ready (round_of x v).certification) is
    where
      by_test : (p : Proposal D) (b : Bool) → (if b then Some p else None) ≡ Some q → p ≡ q
      by_test p true is = ap (λ o. unwrap_or o q) is
      by_test p false is = absurd (false≢true (ap is_some is))

      by_same : (c : ProposalFacts D) (h : Proposal D) (b : Bool) → same_proposal same h c.proposal ≡ b
          → option_and_then offer (if b then Some h else None) ≡ Some q → same_proposal same q c.proposal ≡ true
      by_same c h true alike is =
          subst (λ (p : Proposal D). same_proposal same p c.proposal ≡ true)
          (by_test h (nat_lt h.parent v && certification_parent_ready elect x v h) is) alike
      by_same c h false alike is = absurd (false≢true (ap is_some is))

      by_held : (c : ProposalFacts D) (o : Option (Proposal D))
          → option_and_then offer (option_and_then (λ h. if same_proposal same h c.proposal then Some h else None) o)
          ≡ Some q → same_proposal same q c.proposal ≡ true
      by_held c None is = absurd (false≢true (ap is_some is))
      by_held c (Some h) is = by_same c h (same_proposal same h c.proposal) refl is

      by_notarization : (n : Option (ProposalFacts D))
          → option_and_then offer (option_and_then
          (λ (c : ProposalFacts D). option_and_then (λ h. if same_proposal same h c.proposal then Some h else None)
          (round_of x v).slot.held) n) ≡ Some q → RestsOn n
      by_notarization None is = absurd (false≢true (ap is_some is))
      by_notarization (Some c) is = (c, refl, by_held c (round_of x v).slot.held is)

      by_ready : (b : Bool) → option_and_then offer
          (if b then option_and_then (λ (c : ProposalFacts D).
          option_and_then (λ h. if same_proposal same h c.proposal then Some h else None) (round_of x v).slot.held)
          (round_of x v).notarization else None) ≡ Some q
          → RestsOn (round_of x v).notarization
      by_ready true is = by_notarization (round_of x v).notarization is
      by_ready false is = absurd (false≢true (ap is_some is))

module _ {K L D : Type 0} (term_length : ℕ) (s : Execution K L D) (x : StateFacts K L D)
    (led : Led term_length (trace_of s) (judged_of s) x) (v : ℕ) (q : Proposal D) where
  -- a verdict is on a proposal of its view
  judged_view : (success : Bool) → Contains (judged_by {K = K} (Judged success (certified_answer x v))) (true, q)
      → q.round.view ≡ v
  judged_view success h = by_round (round_at x v) refl h
    where
      by_notarization : (r : RoundFacts K D) (n : Option (ProposalFacts D)) → round_at x v ≡ Some r → r.notarization ≡ n
          → Contains (judged_by {K = K} (Judged success n)) (true, q) → q.round.view ≡ v
      by_notarization r None at is h = absurd (none_in (true, q) h)
      by_notarization r (Some c) at is h =
          let there : (round_of x v).notarization ≡ Some c =
          ap (λ f. (unwrap_or f (new_round x.me x.members (round_number x v))).notarization) at ∙ is in
          subst (λ (p : Proposal D). p.round.view ≡ v) (ap (λ (e : Bool × Proposal D). e.1) (only_one _ _ h))
          (led.rounds.notarized v c there).0.0

      by_round : (f : Option (RoundFacts K D)) → round_at x v ≡ f
          → Contains (judged_by {K = K} (Judged success (option_and_then (λ (r : RoundFacts K D). r.notarization) f)))
          (true, q) → q.round.view ≡ v
      by_round None at h = absurd (none_in (true, q) h)
      by_round (Some r) at h = by_notarization r r.notarization at refl h

-- ---- of a network

module _ {K L D : Type 0} (same : D → D → Bool) (decides : (d e : D) → same d e ≡ true → d ≡ e) (elect : Elect L)
    (term_length : ℕ) (network : List (Replica K L D)) (good : IsNetworkOf same elect term_length network) where
  module _ (i : ℕ) (s : Execution K L D) (at : slice_get network i ≡ Some (Honest s)) where
    offered_backed : (p : Proposal D) → WasOffered p s → Backed network (subject.Notarize p)
    offered_backed p was =
        let cast = state_at_offer same elect p term_length i s (good.honest i s at) was in
        let led = state_led same decides elect term_length i (record s { steps = cast.steps; replies = cast.replies })
        cast.ran cast.x cast.lives in
        let found = offered_notarized same elect cast.x cast.holds.0 p cast.holds.1 in
        let noted = led.rounds.notarized cast.holds.0 found.0 found.1 in
        good.backed i s (subject.Notarize p) at
        (subst (λ (r : Proposal D). Contains (trace_of s) (Accepts (subject.Notarize r)))
        (sym (same_proposal-true same decides p found.0.proposal found.2))
        (cast.trace_within (Accepts (subject.Notarize found.0.proposal)) noted.1))

    judged_offered : (end : MemberFacts K L D)
        → IsRunOnOffers same elect (new_member same elect s.start) s.steps s.replies end → (q : Proposal D)
        → Contains (judged_of s) (true, q) → WasOffered q s
    judged_offered end run q h =
        let ran = good.honest i s at in
        let it = judged_at same elect q [] s.steps s.replies (new_member same elect s.start) end run
        (λ v opened. absurd (false≢true opened)) h in
        let cast = state_where same elect term_length i s ran (λ x. JudgesAt same elect q x it.view) it.first it.more
        it.replied it.rest it.middle it.steps_are it.replies_are it.run it.x it.alive it.judges in
        let before = record s { steps = cast.steps; replies = cast.replies } in
        let view = judged_view term_length before cast.x
        (state_led same decides elect term_length i before cast.ran cast.x cast.lives) it.view q cast.holds.0
        cast.holds.1 in
        let found = it.offered in
        let was : WasOffered found.2 s = (
          found.0,
          found.1,
          subst (λ rs. Contains rs (Candidates found.0 found.1)) (sym it.replies_are)
              (Contains-append_left it.replied it.rest (Candidates found.0 found.1) found.3),
          found.4,
        ) in
        let judged = judged_are_notarized same decides elect term_length i s ran true q h in
        let one = one_proposal same decides elect term_length network good found.2 q (inl (offered_backed found.2 was))
        (inl (good.backed i s (subject.Notarize q) at judged)) (found.5 ∙ sym view) in
        subst (λ (p : Proposal D). WasOffered p s) one was

  pub offers_awaited : OffersAreAwaited same elect network
  offers_awaited runs i s at q h = (let run = runs i s at in judged_offered i s at run.0 run.1 q h)
