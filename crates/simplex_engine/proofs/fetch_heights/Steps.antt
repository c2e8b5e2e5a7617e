-- From one living member to another, by the steps that an engine takes: the highest view that is heard of does not
-- fall, and nothing above
-- it is received or named as missing.
use Rattle.std.proofs.Common.{◌≡◌, refl, ap, sym, ◌∙◌, subst, ℕ, ◌<◌, ◌≤◌, inl, inr, Bool, true, false, List, [], ◌∷◌, ◌++◌, Some, None, option_map, arith}
use Rattle.std.specs.List.{list_any, AllByRecursion}
use Rattle.std.proofs.lemmas.Bool.{cases_Bool, false≢true}
use Rattle.simplex_types.specs.Certificates.{ProposalFacts}
use Rattle.simplex_voter.specs.Facts.{StateFacts, Elect}
use Rattle.simplex_member.specs.Calls.{CallFacts, reply_facts}
use Rattle.simplex_member.specs.MemberFacts.{MemberFacts, IsCall, AnswersAlive}
use Rattle.simplex_member.specs.PrunedRecord.{pruned_member}
use Rattle.simplex_member.specs.Runs.{StepFacts, Calls, Prunes, Restarts}
use Rattle.simplex_member.specs.declared.member.calls.Reply.{Reply}
use Rattle.laws_safety.specs.Executions.{new_member, Execution}
use Rattle.laws_safety.specs.TermLengths.{HasTerms, KeepTerms}
use Rattle.laws_safety.specs.LifetimeLaws.{Notarization}
use Rattle.laws_safety.specs.MemberHistory.{HasHistory}
use Rattle.laws_safety.specs.Traces.{TraceEvent, of_floor, trace_at, trace_of_steps}
use Rattle.laws_safety.proofs.executions.ExecutionSteps.{call_done, prune_done}
use Rattle.laws_safety.proofs.frames.RunsKeep.{HoldsIn, run_induction}
use Rattle.laws_safety.proofs.frames.Sound.{IsSound, event_sound, floor_sound}
use Rattle.laws_safety.proofs.lives.UncertifiedViews.{IsWaiting, event_waits, floor_waits}
use Rattle.laws_safety.proofs.own_records.Runs.{TellsOn, run_own, start_own}
use Rattle.laws_safety.proofs.own_records.Verdicts.{ShowsVerdicts}
use Rattle.laws_safety.proofs.records.RunsLawful.{keep_terms}
use Rattle.engine_fetches.specs.declared.fetches.FetchKind.{FetchKind}
use Rattle.engine_planner.specs.FetchRequests.{received_by, with_missing_certificate}
use Rattle.engine_planner.specs.Causes.{Cause, unrequested}
use Rattle.engine_planner.specs.PlannedWork.{AreAmong}
use Rattle.engine_planner.proofs.TakenSteps.{unrequested_test}
use Rattle.simplex_engine.specs.Provenance.{step_causes, received_in, IsCausedBy}
use Rattle.simplex_engine.specs.FetchHeights.{highest_received}
use Rattle.simplex_engine.proofs.fetch_heights.AtHand.{lacks_above, none_both}
use Rattle.simplex_engine.proofs.fetch_heights.Calls.{IsKnown, call_received, pruned_received}
use Rattle.simplex_engine.proofs.fetch_heights.Replies.{IsLow, given_low, received_low}

-- what a run leads to is known of a living member

module _ {K L D : Type 0} (same : D → D → Bool) (decides : (d e : D) → same d e ≡ true → d ≡ e)
    (itself : (d : D) → same d d ≡ true) (elect : Elect L) (term_length i : ℕ) where
  done_known : (all : List (TraceEvent D)) (m : MemberFacts K L D) → HasHistory same elect term_length i all m
      → (x : StateFacts K L D) → m.life ≡ Some x → IsKnown m x
  done_known all m done x alive = record {
    some = subst (λ n. 0 < n) (sym sound.terms) begins.some;
    recorded = shows.notarized;
    placed = λ v c stands. sound.placed.views Notarization v c.proposal.round.view
        (ap (option_map (λ (d : ProposalFacts D). d.proposal.round.view)) stands);
    waits = λ v named. (waits.views v named).1;
  }
    where
      ran : Execution K L D
      ran = done.execution

      begins : HasTerms term_length ran.start.setup
      begins = done.executed.lives.first.terms

      keep : KeepTerms term_length ran.steps
      keep = keep_terms term_length i ran.steps done.executed.lives.later

      sound : IsSound term_length x
      sound =
          subst (HoldsIn (IsSound term_length)) alive
          (run_induction same elect term_length (IsSound term_length)
          (λ y floor now new. floor_sound same elect term_length y floor now new)
          (λ y e s. event_sound same elect term_length y e s)
          ran.start ran.steps ran.replies m begins keep done.executed.run)

      waits : IsWaiting x
      waits =
          subst (HoldsIn IsWaiting) alive
          (run_induction same elect term_length IsWaiting (floor_waits same elect term_length) (event_waits same elect)
          ran.start ran.steps ran.replies m begins keep done.executed.run)

      trace : List (TraceEvent D)
      trace = of_floor ran.start.floor ++ trace_of_steps ran.steps ran.replies

      shows : ShowsVerdicts m.entries x
      shows =
          (subst (TellsOn trace m.entries) alive
          (run_own same decides itself elect term_length begins.some ran.steps ran.replies (of_floor ran.start.floor)
          (new_member same elect ran.start) m keep
          (start_own same decides itself elect term_length ran.start begins) done.executed.run).tells).shows

none_among : {A : Type 0} (test : A → Bool) (these those : List A) → AreAmong these those → list_any test those ≡ false
    → list_any test these ≡ false
none_among test these those among none = elim (cases_Bool (list_any test these))
    [ inl some ↦ absurd (false≢true (sym none ∙ among.found test some)) | inr is ↦ is ]

all_both : {A : Type 0} (P : A → Type 0) (these those : List A) → AllByRecursion P these → AllByRecursion P those
    → AllByRecursion P (these ++ those)
all_both P [] those first second = second
all_both P (a ∷ these) those (here, first) second = (here, all_both P these those first second)

some_is : {A : Type 0} (a b : A) → Some a ≡ Some b → a ≡ b
some_is a b is = cc

pub some_none : {A : Type 0} (a : A) → None ≡ Some a → ⊥
some_none a is = cc

module _ {S L D K G C : Type 0} (same : D → D → Bool) (elect : Elect L) (bytes : D → List ℕ) (bytes_of : C → List ℕ)
    (now : ℕ) (asks_now over : FetchKind → ℕ → Bool) where
  -- a member that has failed stays so
  dead_call : (m : MemberFacts K L D) (call : CallFacts D) (answer : Reply S D K G C) (next : MemberFacts K L D)
      → m.life ≡ None → IsCall same elect m call (reply_facts bytes_of answer) next → next.life ≡ None
  unfolding IsCall
  dead_call m call answer next dead is_call =
      by_answer (subst (λ life. AnswersAlive same elect life m call (reply_facts bytes_of answer) next) dead is_call)
    where
      by_answer : AnswersAlive same elect None m call (reply_facts bytes_of answer) next → next.life ≡ None
      by_answer (tells, leaves) = ap (λ (n : MemberFacts K L D). n.life) leaves ∙ dead

  abbrev nothing : List (Cause S D K G C)
  nothing = []

  pub dead_stays : (steps : List (StepFacts K L D × Reply S D K G C)) (causes left : List (Cause S D K G C))
      (asked : FetchKind → ℕ → Bool) (m end : MemberFacts K L D) → m.life ≡ None
      → IsCausedBy same elect bytes_of now asks_now over steps causes asked m left end → end.life ≡ None
  dead_stays [] causes left asked m end dead (among, is, still, sought) =
      ap (λ (n : MemberFacts K L D). n.life) is ∙ dead
  dead_stays ((Calls call, answer) ∷ rest) causes left asked m end dead (meant, next, is_step, provenance) =
      let given : List (Cause S D K G C) = step_causes {L = L} now (Calls call) answer in
      dead_stays rest (causes ++ given) left (with_missing_certificate asked given) next end
      (dead_call m call answer next dead is_step) provenance
  dead_stays ((Prunes, answer) ∷ rest) causes left asked m end dead (meant, next, is_step, provenance) =
      dead_stays rest (causes ++ nothing) left (with_missing_certificate asked nothing) next end
      (ap (λ (n : MemberFacts K L D). n.life) is_step.1 ∙ dead) provenance
  dead_stays ((Restarts restart, answer) ∷ rest) causes left asked m end dead (meant, next, is_step, provenance) =
      absurd meant

  -- what holds of the highest view that is heard of, from one living member to another
  pub record Climbs (m : MemberFacts K L D) (x : StateFacts K L D) (end : MemberFacts K L D) (y : StateFacts K L D)
      (steps : List (StepFacts K L D × Reply S D K G C))
      (causes left : List (Cause S D K G C)) : Type 0 where
    pub up : highest_received m x ≤ highest_received end y
    pub received : AllByRecursion (IsLow (highest_received end y)) (received_in bytes bytes_of steps)
    pub low : list_any (lacks_above (highest_received end y)) causes ≡ false
        → list_any (lacks_above (highest_received end y)) left ≡ false

  module _ (decides : (d e : D) → same d e ≡ true → d ≡ e) (itself : (d : D) → same d d ≡ true)
      (term_length i : ℕ) where
    pub climbs : (steps : List (StepFacts K L D × Reply S D K G C)) (causes left : List (Cause S D K G C))
        (asked : FetchKind → ℕ → Bool) (m end : MemberFacts K L D) (all : List (TraceEvent D))
        → HasHistory same elect term_length i all m → (x y : StateFacts K L D) → m.life ≡ Some x → end.life ≡ Some y
        → IsCausedBy same elect bytes_of now asks_now over steps causes asked m left end
        → Climbs m x end y steps causes left
    climbs [] causes left asked m end all done x y alive lives (among, is, still, sought) =
        let one : x ≡ y = some_is x y (sym alive ∙ (ap (λ (n : MemberFacts K L D). n.life) (sym is) ∙ lives)) in
        record {
          up = subst (λ (n : MemberFacts K L D). highest_received m x ≤ highest_received n y) (sym is)
              (subst (λ z. highest_received m x ≤ highest_received m z) one (omega arith));
          received = tt;
          low = λ none. sym (unrequested_test (lacks_above (highest_received end y)) (λ request. refl) left)
              ∙ none_among (lacks_above (highest_received end y)) (unrequested left) causes among none;
        }
    climbs ((Calls call, answer) ∷ rest) causes left asked m end all done x y alive lives
        (meant, next, is_step, provenance) =
        elim (call_received same elect m x (done_known same decides itself elect term_length i all m done x alive) call
        (reply_facts bytes_of answer) next alive is_step) [
          | inl dead ↦ absurd (some_none y (sym (dead_stays rest (causes ++ given) left
              (with_missing_certificate asked given) next end dead provenance) ∙ lives))
          | inr received ↦
              (let later = climbs rest (causes ++ given) left (with_missing_certificate asked given) next end
              (all ++ trace_at {L = L} (Calls call) (reply_facts bytes_of answer))
              (call_done same elect term_length i m next call (reply_facts bytes_of answer) all
              (trace_at {L = L} (Calls call) (reply_facts bytes_of answer)) is_step refl done) received.state y
              received.alive
              lives provenance in
              let up = later.up in
              let low = received.low in
              let first = received.up in
              record {
                up = omega (arith, first, up);
                received = all_both (IsLow (highest_received end y)) (received_by bytes bytes_of answer call)
                    (received_in bytes bytes_of rest)
                    (received_low (highest_received end y) bytes bytes_of answer call (omega (arith, low, up)))
                    later.received;
                low = λ none. later.low (none_both (lacks_above (highest_received end y)) causes given none
                    (given_low (highest_received end y) S D K G C bytes_of now answer call (omega (arith, low, up))));
              })
        ]
      where
        given : List (Cause S D K G C)
        given = step_causes {L = L} now (Calls call) answer
    climbs ((Prunes, answer) ∷ rest) causes left asked m end all done x y alive lives
        (meant, next, is_step, provenance) =
        let later = climbs rest (causes ++ nothing) left (with_missing_certificate asked nothing) (pruned_member m) end
        (all ++ []) (prune_done same elect term_length i m all done) x y alive lives
        (subst (λ (n : MemberFacts K L D). IsCausedBy same elect bytes_of now asks_now over rest (causes ++ nothing)
        (with_missing_certificate asked nothing) n left end) is_step.1 provenance) in
        let first = pruned_received m x alive in
        let up = later.up in
        record {
          up = omega (arith, first, up);
          received = later.received;
          low = λ none. later.low (none_both (lacks_above (highest_received end y)) causes nothing none refl);
        }
    climbs ((Restarts restart, answer) ∷ rest) causes left asked m end all done x y alive lives
        (meant, next, is_step, provenance) = absurd meant
