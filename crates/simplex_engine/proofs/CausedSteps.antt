-- For the code of the engine. Steps that are caused by what is at hand, and by what earlier ones leave.
use Rattle.std.proofs.Common.{◌≡◌, ◌∙◌, refl, subst, ℕ, ◌⊎◌, inl, inr, Bool, true, false, ◌||◌, List, [], ◌∷◌, ◌++◌}
use Rattle.std.specs.List.{list_any}
use Rattle.std.proofs.lemmas.Bool.{or_cases, or_left, or_right}
use Rattle.simplex_types.specs.Encoding.{certificate_subject}
use Rattle.simplex_voter.specs.Facts.{Elect}
use Rattle.simplex_member.specs.Calls.{CallFacts}
use Rattle.simplex_member.specs.MemberFacts.{MemberFacts}
use Rattle.simplex_member.specs.Runs.{StepFacts, Calls, Prunes, Restarts}
use Rattle.simplex_member.specs.declared.member.calls.Reply.{Reply}
use Rattle.engine_fetches.specs.declared.fetches.Ask.{Ask}
use Rattle.engine_fetches.specs.declared.fetches.FetchKind.{FetchKind}
use Rattle.engine_planner.specs.Causes.{Cause, Arrival, Quorum, is_request, of_task, unrequested}
use Rattle.engine_planner.specs.FetchRequests.{is_missing_certificate, with_missing_certificate, IsNamed, IsSought, IsStill, IsWanted, WasAsked}
use Rattle.engine_planner.specs.PlannedWork.{AreAmong}
use Rattle.engine_planner.proofs.PlannedWork.{among_further, among_more, any_either, any_left, any_right}
use Rattle.engine_planner.proofs.TakenSteps.{others_among, task_other, unrequested_each, unrequested_test, unrequested_through, unrequested_with}
use Rattle.simplex_engine.specs.Provenance.{step_causes, IsCallCaused, IsCausedBy, IsStepCaused}

module _ {S L D K G C : Type 0} (now : ℕ) (causes more : List (Cause S D K G C))
    (among : AreAmong (unrequested causes) more) (m : MemberFacts K L D) where
  -- more causes a step
  meant_among : (call : CallFacts D) → IsCallCaused now causes m call → IsCallCaused now more m call
  meant_among call (inl (asked, is, of_these, on_offer)) =
      inl (asked, is, others_among (of_task asked) (task_other S K G C asked) of_these among, on_offer)
  meant_among call (inr (inl (from, proposal, is, in_these, admits))) =
      inr (inl (from, proposal, is, others_among (Arrival from proposal ∷ []) refl in_these among, admits))
  meant_among call (inr (inr (certificate, is, in_these))) =
      inr (inr (certificate, is, others_among (Quorum (certificate_subject certificate) ∷ []) refl in_these among))

  step_among : (step : StepFacts K L D) → IsStepCaused now causes m step → IsStepCaused now more m step
  step_among (Calls call) is = meant_among call is
  step_among Prunes is = tt
  step_among (Restarts restart) is = is

-- ---- why a peer is asked

module _ {S D K G C : Type 0} {causes : List (Cause S D K G C)} where
  -- more is over
  pub sought_wider : {asks_now over wider : FetchKind → ℕ → Bool} {ask : Ask}
      → ((kind : FetchKind) (view : ℕ) → wider kind view ≡ false → over kind view ≡ false)
      → IsSought causes asks_now over ask → IsSought causes asks_now wider ask
  sought_wider within (WasAsked it) = WasAsked it
  sought_wider within (IsNamed it) = IsNamed it
  sought_wider {ask = ask} within (IsWanted kind asks) = IsWanted kind (λ un. asks (within ask.kind ask.view un))

  -- more is asked for
  pub sought_by : {asks_now asks_then over : FetchKind → ℕ → Bool} {ask : Ask}
      → ((kind : FetchKind) (view : ℕ) → asks_now kind view ≡ true → asks_then kind view ≡ true)
      → IsSought causes asks_now over ask → IsSought causes asks_then over ask
  sought_by more (WasAsked it) = WasAsked it
  sought_by more (IsNamed it) = IsNamed it
  sought_by {ask = ask} more (IsWanted kind asks) = IsWanted kind (λ un. more ask.kind ask.view (asks un))

  -- what is asked for stays so, unless it is over
  sought_still : {asks_now asks_then over : FetchKind → ℕ → Bool} {ask : Ask}
      → ((kind : FetchKind) (view : ℕ) → asks_now kind view ≡ true → over kind view ≡ false
      → asks_then kind view ≡ true)
      → IsSought causes asks_now over ask → IsSought causes asks_then over ask
  sought_still still (WasAsked it) = WasAsked it
  sought_still still (IsNamed it) = IsNamed it
  sought_still {ask = ask} still (IsWanted kind asks) =
      IsWanted kind (λ un. still ask.kind ask.view (asks un) un)

  -- by more
  sought_with : {asks_now over : FetchKind → ℕ → Bool} {ask : Ask} (more : List (Cause S D K G C))
      → IsSought causes asks_now over ask → IsSought (causes ++ more) asks_now over ask
  sought_with {ask = ask} more (WasAsked it) = WasAsked (any_left (is_request ask) causes more it)
  sought_with {ask = ask} more (IsNamed it) =
      IsNamed (any_left (is_missing_certificate ask.kind ask.view) causes more it)
  sought_with more (IsWanted kind asks) = IsWanted kind asks

module _ {S L D K G C : Type 0} (same : D → D → Bool) (elect : Elect L) (bytes_of : C → List ℕ) (now : ℕ)
    (asks_now : FetchKind → ℕ → Bool) where
  -- more causes steps, where what was asked for before still is, or is over
  pub by_more : (steps : List (StepFacts K L D × Reply S D K G C)) (over wider : FetchKind → ℕ → Bool)
      (causes more left : List (Cause S D K G C)) (asked before : FetchKind → ℕ → Bool)
      (m end : MemberFacts K L D) → AreAmong (unrequested causes) more
      → ((ask : Ask) → list_any (is_request ask) causes ≡ true → IsSought more asked wider ask)
      → IsStill before wider asked
      → ((kind : FetchKind) (view : ℕ) → wider kind view ≡ false → over kind view ≡ false)
      → IsCausedBy same elect bytes_of now asks_now over steps causes asked m left end
      → IsCausedBy same elect bytes_of now asks_now wider steps more before m left end
  by_more [] over wider causes more left asked before m end among seeks still within is = (
    unrequested_through left causes is.0 among,
    is.1,
    λ kind view it un. is.2 kind view (still kind view it un) (within kind view un),
    λ ask it. further ask (is.3 ask it),
  )
    where
      further : (ask : Ask) → IsSought causes asks_now over ask → IsSought more asks_now wider ask
      further ask (WasAsked it) =
          sought_still (λ kind view asks un. is.2 kind view asks (within kind view un)) (seeks ask it)
      further ask (IsNamed it) = IsNamed (among.found (is_missing_certificate ask.kind ask.view)
          (unrequested_test (is_missing_certificate ask.kind ask.view) (λ request. refl) causes ∙ it))
      further ask (IsWanted kind asks) = IsWanted kind (λ un. asks (within ask.kind ask.view un))
  by_more ((step, answer) ∷ rest) over wider causes more left asked before m end among seeks still within
      (meant, next, is_step, provenance) =
      let given : List (Cause S D K G C) = step_causes {L = L} now step answer in (
        step_among now causes more among m step meant,
        next,
        is_step,
        by_more rest over wider (causes ++ given) (more ++ given) left (with_missing_certificate asked given)
            (with_missing_certificate before given) next end
            (unrequested_with causes given among)
            (λ ask it. seeks_too ask given (any_either (is_request ask) causes given it))
            (λ kind view it un. lacks_too kind view given
            (or_cases (before kind view) (list_any (is_missing_certificate kind view) given) it) un) within
            provenance,
      )
    where
      seeks_too : (ask : Ask) (given : List (Cause S D K G C))
          → (list_any (is_request ask) causes ≡ true) ⊎ (list_any (is_request ask) given ≡ true)
          → IsSought (more ++ given) (with_missing_certificate asked given) wider ask
      seeks_too ask given (inl it) = sought_by (λ kind view asks. or_left (asked kind view)
          (list_any (is_missing_certificate kind view) given) asks) (sought_with given (seeks ask it))
      seeks_too ask given (inr it) = WasAsked (any_right (is_request ask) more given it)

      lacks_too : (kind : FetchKind) (view : ℕ) (given : List (Cause S D K G C))
          → (before kind view ≡ true) ⊎ (list_any (is_missing_certificate kind view) given ≡ true)
          → wider kind view ≡ false
          → with_missing_certificate asked given kind view ≡ true
      lacks_too kind view given (inl it) un =
          or_left (asked kind view) (list_any (is_missing_certificate kind view) given) (still kind view it un)
      lacks_too kind view given (inr it) un =
          or_right (asked kind view) (list_any (is_missing_certificate kind view) given) it

module _ {S L D K G C : Type 0} (same : D → D → Bool) (elect : Elect L) (bytes_of : C → List ℕ) (now : ℕ)
    (asks_now : FetchKind → ℕ → Bool) where
  -- what was at hand stays so beside what is left
  pub left_more : (steps : List (StepFacts K L D × Reply S D K G C)) (over : FetchKind → ℕ → Bool)
      (causes extra left : List (Cause S D K G C)) (asked : FetchKind → ℕ → Bool) (m end : MemberFacts K L D)
      → AreAmong extra causes → IsCausedBy same elect bytes_of now asks_now over steps causes asked m left end
      → IsCausedBy same elect bytes_of now asks_now over steps causes asked m (extra ++ left) end
  left_more [] over causes extra left asked m end among is = (
    unrequested_each extra left among is.0,
    is.1,
    is.2,
    λ ask it. elim (any_either (is_request ask) extra left it) [
      | inl here ↦ WasAsked (among.found (is_request ask) here)
      | inr there ↦ is.3 ask there
    ],
  )
  left_more ((step, answer) ∷ rest) over causes extra left asked m end among (meant, next, is_step, provenance) =
      let given : List (Cause S D K G C) = step_causes {L = L} now step answer in (
        meant,
        next,
        is_step,
        left_more rest over (causes ++ given) extra left (with_missing_certificate asked given)
            next end (among_further among (among_more causes given)) provenance,
      )

-- what earlier steps leave causes the steps after them
module _ {S L D K G C : Type 0} (same : D → D → Bool) (elect : Elect L) (bytes_of : C → List ℕ) (now : ℕ)
    (between asks_now over later wider : FetchKind → ℕ → Bool)
    (first_within : (kind : FetchKind) (view : ℕ) → wider kind view ≡ false → over kind view ≡ false)
    (second_within : (kind : FetchKind) (view : ℕ) → wider kind view ≡ false → later kind view ≡ false) where
  pub joined : (steps more : List (StepFacts K L D × Reply S D K G C)) (a b c : List (Cause S D K G C))
      (asked : FetchKind → ℕ → Bool) (m n end : MemberFacts K L D)
      → IsCausedBy same elect bytes_of now between over steps a asked m b n
      → IsCausedBy same elect bytes_of now asks_now later more b (λ kind view. between kind view || false) n c end
      → IsCausedBy same elect bytes_of now asks_now wider (steps ++ more) a asked m c end
  joined [] more a b c asked m n end first second =
      by_more same elect bytes_of now asks_now more later wider b a c (λ kind view. between kind view || false) asked m
      end first.0
      (λ ask it. sought_by (λ kind view asks. or_left (between kind view) false asks)
      (sought_wider first_within (first.3 ask it)))
      (λ kind view it un. or_left (between kind view) false (first.2 kind view it (first_within kind view un)))
      second_within
      (subst (λ (it : MemberFacts K L D). IsCausedBy same elect bytes_of now asks_now later more b
      (λ kind view. between kind view || false) it c end) first.1 second)
  joined ((step, answer) ∷ rest) more a b c asked m n end (meant, next, is_step, provenance) second = (
    meant,
    next,
    is_step,
    joined rest more (a ++ step_causes {L = L} now step answer) b c
        (with_missing_certificate asked (step_causes {L = L} now step answer)) next n end provenance second,
  )
