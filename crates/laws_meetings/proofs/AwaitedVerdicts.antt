-- A process at rest: of each notarized view without a true verdict, the application was asked, or its proposal is not
-- ready.
use Rattle.std.proofs.Common.{◌≡◌, refl, ap, sym, ◌∙◌, subst, ℕ, zero, suc, ◌+◌, ◌<◌, ◌⊎◌, inl, inr, Bool, true, false, List, [], ◌∷◌, ◌++◌, append_assoc, append-nil, Option, Some, None, is_some, arith}
use Rattle.std.specs.Prelude.{Contains, option_map}
use Rattle.std.specs.List.{list_any}
use Rattle.std.proofs.lemmas.Bool.{false≢true, true≢false, eqb-true, or_cases}
use Rattle.simplex_types.specs.Certificates.{Notarized}
use Rattle.simplex_types.specs.declared.types.fault.Fault.{Fault}
use Rattle.simplex_types.specs.declared.types.messages.Proposal.{Proposal}
use Rattle.simplex_types.specs.declared.types.messages.Subject.{Subject}
use Rattle.simplex_types.specs.declared.types.window.Terms.{Terms}
use Rattle.simplex_round.specs.declared.round.Certification.{Certification}
use Rattle.simplex_round.specs.declared.round.Certification.TheVariants as certification
use Rattle.simplex_round.specs.Round.{is_certified, is_judged}
use Rattle.simplex_voter.specs.Facts.{StateFacts, Elect, round_of}
use Rattle.simplex_voter.specs.Refusals.{plain_refusal}
use Rattle.simplex_voter.proofs.Gaps.{cases_option}
use Rattle.simplex_record.specs.Events as event
use Rattle.simplex_member.specs.CallConditions.{is_allowed}
use Rattle.simplex_member.specs.Calls.{CallFacts, CertifyCandidates, NextTimeout, Prune, ReplyFacts}
use Rattle.simplex_member.specs.CallSemantics.{answer, after_call}
use Rattle.simplex_member.specs.MemberFacts.{MemberFacts, IsCall, AnswersAlive, unless_refused, unless_retained, with_call}
use Rattle.simplex_member.specs.OutstandingWork.{OutstandingWork, is_among, is_offered}
use Rattle.simplex_member.specs.declared.member.journal.Stored.{Stored}
use Rattle.laws_safety.proofs.frames.RunsKeep.{HoldsIn}
use Rattle.laws_safety.proofs.lists.Splits.{Contains-cons_rest}
use Rattle.laws_safety.proofs.lives.WithinLives.{call_outcome}
use Rattle.laws_history.specs.HistoryFacts.{verdict_of}
use Rattle.laws_history.proofs.EventsWorked.{event_works}
use Rattle.engine_outbox.specs.Continuity.{has_failed}
use Rattle.engine_outbox.specs.Outputs.{work_in}
use Rattle.engine_outbox.specs.declared.output.Output.{Output}
use Rattle.engine_outbox.specs.declared.output.Output.TheVariants as output
use Rattle.engine_outbox.specs.declared.output.Work.{Work}
use Rattle.engine_outbox.specs.declared.output.Work.TheVariants as work
use Rattle.simplex_engine.specs.ApplicationWork.{work_ahead, is_certify_of, HasReportedAll}
use Rattle.simplex_engine.specs.NothingDue.{is_nothing, HasNothingNew}
use Rattle.simplex_engine.specs.declared.engine.Engine.{Engine}
use Rattle.laws_hosts.specs.EngineCalls.{EngineCall, Handled, Polled, outputs_of}
use Rattle.laws_hosts.specs.Processes.{Process}
use Rattle.laws_hosts.proofs.CallTraces.{here}
use Rattle.laws_rounds.specs.Rounds.{IsAtRest}
use Rattle.laws_meetings.specs.AwaitedVerdicts.{IsAsked, LacksVerdict, Asked, Refused, NotNotarized, AwaitsParent, WrongParent, VerdictsAreAwaited}
use Rattle.laws_meetings.specs.Broadcasts.{HasStates}
use Rattle.laws_meetings.specs.EngineRuns.{returned_by, AreWorkingCalls, IsEngineRun}
use Rattle.laws_meetings.proofs.CandidateOffers.{OffersAll}
use Rattle.laws_meetings.proofs.CandidateRuns.{history_offers}
use Rattle.laws_meetings.proofs.HostCertificates.{good_last}
use Rattle.laws_meetings.proofs.LedViews.{certified_so}
use Rattle.laws_meetings.proofs.ProcessesAtRest.{none_ahead, engine_rests}
use Rattle.laws_meetings.proofs.RunCertificates.{alive_before}

-- ---- no view waits to be offered

-- no view waits
abbrev NoneWaits : {K L D : Type 0} → StateFacts K L D → Type 0
NoneWaits x = (v : ℕ) → is_among v x.named ≡ false

-- a call that names no view
abbrev names_none : {D : Type 0} → CallFacts D → Bool
names_none Prune = true
names_none (NextTimeout now) = true
names_none _ = false

module _ {K L D : Type 0} (same : D → D → Bool) (elect : Elect L) where
  -- once each candidate was offered
  cleared : (m left : MemberFacts K L D) (replied : ReplyFacts K D)
      → IsCall same elect m CertifyCandidates replied left → is_nothing replied ≡ true → HoldsIn NoneWaits left.life
  unfolding IsCall
  cleared m left replied is nothing = by_life m.life is
    where
      refused : (other : ReplyFacts K D) → replied ≡ other → is_nothing other ≡ false → HoldsIn NoneWaits left.life
      refused other tells something = absurd (false≢true (sym (ap is_nothing tells ∙ something) ∙ nothing))

      by_fault : (x : StateFacts K L D) (due : Option Fault)
          → replied ≡ unless_refused due (answer same elect x m.outstanding_work CertifyCandidates)
          → left ≡ unless_retained due m (with_call same elect x m CertifyCandidates)
          → HoldsIn NoneWaits left.life
      by_fault x None tells leaves =
          subst (λ (n : MemberFacts K L D). HoldsIn NoneWaits n.life) (sym leaves) (λ v. refl)
      by_fault x (Some fault) tells leaves = refused _ tells refl

      by_life : (o : Option (StateFacts K L D)) → AnswersAlive same elect o m CertifyCandidates replied left
          → HoldsIn NoneWaits left.life
      by_life None (tells, leaves) = refused _ tells refl
      by_life (Some x) (inl (tells, leaves)) = by_fault x (plain_refusal x) tells leaves
      by_life (Some x) (inr (allowed, tells, leaves)) = refused _ tells refl

  answered : (call : CallFacts D) (x : StateFacts K L D) (o : OutstandingWork K D) → is_allowed x o call ≡ true
      → names_none call ≡ true → NoneWaits x → NoneWaits (after_call same elect x o call)
  answered Prune x o allowed is none v = (event_works same elect x event.Prune).named v ∙ none v
  answered (NextTimeout now) x o allowed is none v =
      (event_works same elect x (event.NextTimeout now)).named v ∙ none v
  answered _ x o allowed is none v = absurd (false≢true is)

  still_none : (m left : MemberFacts K L D) (call : CallFacts D) (replied : ReplyFacts K D)
      → IsCall same elect m call replied left → names_none call ≡ true → HoldsIn NoneWaits m.life
      → HoldsIn NoneWaits left.life
  still_none m left call replied is quiet none =
      elim (call_outcome same elect (λ c t x y. names_none c ≡ true → NoneWaits x → NoneWaits y)
      (λ c fault x quiet none. none) (λ c x quiet none. none) answered m call replied left is) [
        | inl (fault, tells, dies) ↦ subst (HoldsIn NoneWaits) (sym dies) tt
        | inr (x, y, alive, lives, keeps) ↦
            subst (HoldsIn NoneWaits) (sym lives) (keeps quiet (subst (HoldsIn NoneWaits) alive none))
      ]

  -- of a member that has nothing new
  none_waits : (now timeout : ℕ) (m : MemberFacts K L D) → HasNothingNew same elect now timeout m
      → HoldsIn NoneWaits m.life
  none_waits now timeout m has =
      let quiet = has.quiet in
      let last = quiet.asked.2.2 in
      let offered = cleared quiet.asked.2.0 last.0 last.1.answer last.1.answered last.1.nothing in
      let between = subst (λ (n : MemberFacts K L D). HoldsIn NoneWaits n.life) (sym last.2) offered in
      let pruned = still_none quiet.between quiet.left Prune quiet.dropped quiet.drops refl between in
      still_none quiet.left m (NextTimeout now) quiet.timed.answer quiet.timed.answered refl pruned

-- ---- the application was asked

module _ {S D K G C : Type 0} (view : ℕ) where
  -- among outputs with such work is one that asks for a verdict on the view
  asked_among : (outs : List (Output S D Stored K G C)) → list_any (is_certify_of view) (work_in outs) ≡ true
      → (p : Proposal D) × (p.round.view ≡ view) × Contains outs (output.Work (work.Certify p))
  asked_among [] any = absurd (false≢true any)
  asked_among (output.Work item ∷ rest) any =
      by_item item (asked_among rest)
      (or_cases (is_certify_of view item) (list_any (is_certify_of view) (work_in rest)) any)
    where
      by_item : (it : Work S D K G C)
          → (list_any (is_certify_of view) (work_in rest) ≡ true
          → (p : Proposal D) × (p.round.view ≡ view) × Contains rest (output.Work (work.Certify p)))
          → (is_certify_of view it ≡ true) ⊎ (list_any (is_certify_of view) (work_in rest) ≡ true)
          → (p : Proposal D) × (p.round.view ≡ view)
          × Contains (output.Work it ∷ rest) (output.Work (work.Certify p))
      by_item (work.Certify p) behind (inl first) =
          (p, eqb-true p.round.view view first, here (output.Work (work.Certify p)) rest)
      by_item it behind (inl first) = absurd (false≢true first)
      by_item it behind (inr later) =
          let found = behind later in
          (found.0, found.1, Contains-cons_rest (output.Work it) rest (output.Work (work.Certify found.0)) found.2)
  asked_among (out ∷ rest) any =
      let found = asked_among rest any in
      (found.0, found.1, Contains-cons_rest out rest (output.Work (work.Certify found.0)) found.2)

module _ {S L D K G C : Type 0} (same : D → D → Bool) (decides : (d e : D) → same d e ≡ true → d ≡ e)
    (elect : Elect L) (bytes : D → List ℕ) (bytes_of : C → List ℕ) (is_signature : K → Subject D → G → Type 0)
    (keys_of : S → List K) where
  -- over the calls of a process, what the application must receive was returned or is ahead
  calls_report : (first : StateFacts K L D) (calls : List (EngineCall S D K G C))
      (given : List (Output S D Stored K G C)) (begun last : Engine S L D K G C)
      → AreWorkingCalls same elect bytes bytes_of is_signature keys_of calls begun last → has_failed last.core ≡ false
      → HasReportedAll given begun → HasReportedAll (given ++ outputs_of calls) last
  calls_report first [] given begun last are alive reported =
      subst (λ engine. HasReportedAll (given ++ []) engine) (sym are)
      (subst (λ outs. HasReportedAll outs begun) (sym (append-nil given)) reported)
  calls_report first (call ∷ rest) given begun last (next, is, are) alive reported =
      let lived = alive_before same decides elect bytes bytes_of is_signature keys_of first rest next last are alive in
      subst (λ outs. HasReportedAll outs last)
      (append_assoc given (returned_by call) (outputs_of rest) ∙ ap (λ outs. given ++ outs) (sym (outputs_are call)))
      (calls_report first rest (given ++ returned_by call) next last are alive
      ((is.works lived).reports given reported))
    where
      outputs_are : (it : EngineCall S D K G C) → outputs_of (it ∷ rest) ≡ returned_by it ++ outputs_of rest
      outputs_are (Handled passed) = refl
      outputs_are (Polled outs) = refl

  module _ (process : Process S L D K G C) (first last : StateFacts K L D)
      (run : IsEngineRun same elect bytes bytes_of is_signature keys_of process) (at_rest : IsAtRest process)
      (states : HasStates process first last) where
    abbrev waiting : OutstandingWork K D
    waiting = process.last.core.member.facts.outstanding_work

    asked_so : (view : ℕ) → is_offered waiting view ≡ true → IsAsked process.carried waiting view
    asked_so view opened =
        let outs = outputs_of process.calls in
        let reported = calls_report first process.calls [] process.first process.last run.calls states.alive
        run.begun.reported in
        let rests = engine_rests same decides elect bytes bytes_of is_signature keys_of process first last run at_rest
        states in
        let whole : work_in outs ++ work_ahead process.last ≡ work_in outs =
        ap (λ works. work_in outs ++ works)
        (none_ahead process.last rests.1.empty rests.1.settled.idle.steps) ∙ append-nil (work_in outs) in
        let found = asked_among view outs
        (subst (λ works. list_any (is_certify_of view) works ≡ true) whole (reported.certified view opened)) in
        record {
          proposal = found.0;
          of_view = found.1;
          asked = subst (λ all. Contains all (output.Work (work.Certify found.0))) (sym at_rest.carried) found.2;
          no_verdict = opened;
        }

    none_left : NoneWaits last
    none_left =
        let rests = engine_rests same decides elect bytes bytes_of is_signature keys_of process first last run at_rest
        states in
        subst (HoldsIn NoneWaits) states.lives
        (none_waits same elect rests.0 _ process.last.core.member.facts rests.1.settled.quiet)

-- ---- down to a view that lacks its verdict

refused_so : (c : Certification) → verdict_of c ≡ Some false → is_judged false c ≡ true
refused_so certification.Ready is = absurd (false≢true (ap is_some is))
refused_so (certification.Outstanding token) is = absurd (false≢true (ap is_some is))
refused_so (certification.Judged true) is = absurd (true≢false (ap (λ o. is_true o) is))
  where
    is_true : Option Bool → Bool
    is_true None = false
    is_true (Some b) = b
refused_so (certification.Judged false) is = refl
refused_so certification.Aborted is = absurd (false≢true (ap is_some is))

module _ {K L D : Type 0} (elect : Elect L) (waiting : OutstandingWork K D) (asked : ℕ → Type 0) (x : StateFacts K L D)
    (was : OffersAll elect waiting x) (none : NoneWaits x)
    (reported : (view : ℕ) → is_offered waiting view ≡ true → asked view) where
  abbrev Lacks : ℕ → Type 0
  Lacks view = LacksVerdict elect asked x view

  -- of one view, by those that its proposal may require
  lacks_by : (view : ℕ) → ((parent : ℕ) → view ≡ parent + 1 → x.finalized < parent
      → is_certified (round_of x parent).certification ≡ false → Lacks parent)
      → x.finalized < view → is_certified (round_of x view).certification ≡ false → Lacks view
  lacks_by view below above denied = elim (cases_option (round_of x view).notarization) [
    | inl missing ↦ NotNotarized view (ap (λ o. is_some (option_map Notarized o)) missing)
    | inr (c, noted) ↦
        by_verdict (ap is_some noted) (verdict_of (round_of x view).certification) refl
  ]
    where
      by_verdict : is_some (round_of x view).notarization ≡ true → (o : Option Bool)
          → verdict_of (round_of x view).certification ≡ o → Lacks view
      by_verdict notarized (Some true) is =
          absurd (true≢false (sym (certified_so (round_of x view).certification is) ∙ denied))
      by_verdict notarized (Some false) is = Refused view (refused_so (round_of x view).certification is)
      by_verdict notarized None is = elim (was.waits view above notarized is) [
        | inl named ↦ absurd (true≢false (sym named ∙ none view))
        | inr (inl opened) ↦ Asked view (reported view opened)
        | inr (inr unready) ↦ elim unready.because [
          | inl wrong ↦ WrongParent view unready.proposal unready.held wrong
          | inr needs ↦ AwaitsParent view needs.parent unready.proposal unready.held needs.required
              (below needs.parent needs.next needs.above needs.uncertified)
        ]
      ]

  lacks : (view : ℕ) → x.finalized < view → is_certified (round_of x view).certification ≡ false → Lacks view
  lacks zero above denied = absurd (omega (arith, above))
  lacks (suc below) above denied =
      lacks_by (suc below)
      (λ parent next over uncertified. (
      let one : parent ≡ below = omega (arith, next) in
      subst Lacks (sym one) (lacks below (subst (λ v. x.finalized < v) one over)
      (subst (λ v. is_certified (round_of x v).certification ≡ false) one uncertified)))) above denied

-- ---- of each honest host at rest

module _ {S L D K G C : Type 0} (same : D → D → Bool) (decides : (d e : D) → same d e ≡ true → d ≡ e)
    (itself : (d : D) → same d d ≡ true) (elect : Elect L) (bytes : D → List ℕ) (bytes_of : C → List ℕ)
    (is_signature : K → Subject D → G → Type 0) (keys_of : S → List K) (me : S → Option ℕ) (terms : L → Terms) where
  pub verdicts_awaited : VerdictsAreAwaited {C = C} same elect bytes bytes_of is_signature keys_of me terms
  verdicts_awaited term_length hosts network i process first last is_last run rest states =
      let member = process.last.core.member.facts in
      let found = good_last same elect bytes_of is_signature keys_of me terms term_length hosts network i process
      is_last in
      let offers = history_offers same decides itself elect term_length i found.0 member found.1.done in
      lacks elect member.outstanding_work (IsAsked process.carried member.outstanding_work) last
      (subst (HoldsIn (OffersAll elect member.outstanding_work)) states.lives offers)
      (none_left same decides elect bytes bytes_of is_signature keys_of process first last run rest states)
      (asked_so same decides elect bytes bytes_of is_signature keys_of process first last run rest states)
