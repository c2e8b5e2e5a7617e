-- What a step that is taken leaves at hand, and why it asks a peer.
use Rattle.std.proofs.Common.{◌≡◌, ◌∙◌, refl, ap, sym, subst, ℕ, zero, suc, inl, inr, Bool, true, false, ◌&&◌, ◌||◌, ◌==◌, cond, List, [], ◌∷◌, ◌++◌, append-nil, Option, Some, None}
use Rattle.std.specs.Prelude.{nat_lt, option_to_list, MatchOption, slice_get, slice_set}
use Rattle.std.specs.List.{list_any}
use Rattle.std.proofs.lemmas.Bool.{false≢true, and_from, and_parts, eq-eqb, eqb-true, or_cases, or_left, or_right}
use Rattle.simplex_voter.proofs.Between.{any-filter}
use Rattle.simplex_resolver.specs.CallHistory.{LawfulResolverFacts}
use Rattle.engine_fetches.specs.declared.fetches.Ask.{Ask}
use Rattle.engine_fetches.specs.declared.fetches.Fetch.{Fetch}
use Rattle.engine_fetches.specs.declared.fetches.Fetches.{Fetches}
use Rattle.engine_fetches.specs.declared.fetches.FetchKind.{FetchKind}
use Rattle.engine_fetches.specs.declared.fetches.FetchKind.TheVariants as fetch
use Rattle.engine_fetches.specs.Fetches.{asked_again, due_at, is_fetch_open, is_of, same_kind}
use Rattle.engine_fetches.specs.OutstandingFetches.{wants}
use Rattle.engine_fetches.specs.Requests.{ask_of, IsAsking}
use Rattle.engine_fetches.proofs.OpenedFetches.{open_asked}
use Rattle.engine_planner.specs.declared.plan.builds.PendingBuild.{PendingBuild}
use Rattle.engine_planner.specs.declared.plan.Plan.{Plan}
use Rattle.engine_planner.specs.declared.plan.Step.{Step}
use Rattle.engine_planner.specs.declared.task.Task.{Task}
use Rattle.engine_planner.specs.declared.task.Task.TheVariants as task
use Rattle.engine_planner.specs.AskedFetches.{same_ask, same_member}
use Rattle.engine_planner.specs.Causes.{Cause, Arrival, Expiry, Message, MissingCertificate, Quorum, Request, WorkItem, is_other, is_request, of_steps, of_task, planned_causes, unrequested}
use Rattle.engine_planner.specs.FetchRequests.{is_missing_certificate, never, IsNamed, IsSought, IsWanted, WasAsked}
use Rattle.engine_planner.specs.PlannedWork.{AreAmong}
use Rattle.engine_planner.specs.StepSelection.{fetching_one, watching_all, watching_where, AreWatched, HasTaken, IsFetchAsked, IsPruneAsked, IsReady, IsTimeoutAsked}
use Rattle.engine_planner.proofs.Causes.{among_each, among_last, each_part, fetches_alone, in_fetches, in_steps, lacks, no_other, of_steps-append, planned_alone, planned_more, same_plan, still_blocks, still_early, still_fetches}
use Rattle.engine_planner.proofs.FetchRequests.{kind_same}
use Rattle.engine_planner.proofs.PlannedWork.{among_all, among_further, among_kept, among_more, any_either, any_left, any_right}

-- ---- what is not asked of peers

module _ {S D K G C : Type 0} where
  abbrev pub other_and : (Cause S D K G C → Bool) → Cause S D K G C → Bool
  other_and test it = is_other it && test it

  pub any_weaker : (test : Cause S D K G C → Bool) (xs : List (Cause S D K G C)) → list_any (other_and test) xs ≡ true
      → list_any test xs ≡ true
  any_weaker test [] some = some
  any_weaker test (x ∷ xs) some = elim (or_cases (other_and test x) (list_any (other_and test) xs) some) [
    | inl this ↦ or_left (test x) (list_any test xs) (and_parts (is_other x) (test x) this).1
    | inr later ↦ or_right (test x) (list_any test xs) (any_weaker test xs later)
  ]

  pub unrequested_all : {xs ys : List (Cause S D K G C)} → AreAmong xs ys → AreAmong (unrequested xs) ys
  unrequested_all {xs = xs} is = among_further (among_kept is_other xs) is

  pub unrequested_further : {xs ys zs : List (Cause S D K G C)} → AreAmong xs ys → AreAmong (unrequested ys) zs
      → AreAmong (unrequested xs) zs
  unrequested_further {xs = xs} {ys = ys} first second = record {
    found = λ test some. second.found test (any-filter is_other test ys
        ∙ first.found (other_and test) (sym (any-filter is_other test xs) ∙ some));
  }

  unrequested_but : {xs ys : List (Cause S D K G C)} (zs : List (Cause S D K G C)) → AreAmong xs (ys ++ zs)
      → unrequested zs ≡ [] → AreAmong (unrequested xs) ys
  unrequested_but {xs = xs} {ys = ys} zs is none = record {
    found = λ test some. elim (any_either (other_and test) ys zs
        (is.found (other_and test) (sym (any-filter is_other test xs) ∙ some))) [
          | inl here ↦ any_weaker test ys here
          | inr there ↦ absurd (false≢true (ap (list_any test) (sym none) ∙ any-filter is_other test zs ∙ there))
        ];
  }

  -- with more after both
  pub unrequested_with : (xs more : List (Cause S D K G C)) {ys : List (Cause S D K G C)}
      → AreAmong (unrequested xs) ys → AreAmong (unrequested (xs ++ more)) (ys ++ more)
  unrequested_with xs more {ys = ys} is = record {
    found = λ test some. elim (any_either (other_and test) xs more
        (sym (any-filter is_other test (xs ++ more)) ∙ some)) [
          | inl here ↦ any_left test ys more (is.found test (any-filter is_other test xs ∙ here))
          | inr there ↦ any_right test ys more (any_weaker test more there)
        ];
  }

  any_twice : (test : Cause S D K G C → Bool) (xs : List (Cause S D K G C)) → list_any (other_and test) xs ≡ true
      → list_any (λ x. is_other x && other_and test x) xs ≡ true
  any_twice test [] some = some
  any_twice test (x ∷ xs) some = elim (or_cases (other_and test x) (list_any (other_and test) xs) some) [
    | inl this ↦ or_left (is_other x && other_and test x) (list_any (λ x. is_other x && other_and test x) xs)
        (and_from (is_other x) (other_and test x) (and_parts (is_other x) (test x) this).0 this)
    | inr later ↦ or_right (is_other x && other_and test x) (list_any (λ x. is_other x && other_and test x) xs)
        (any_twice test xs later)
  ]

  pub unrequested_through : (xs ys : List (Cause S D K G C)) {zs : List (Cause S D K G C)}
      → AreAmong (unrequested xs) ys → AreAmong (unrequested ys) zs → AreAmong (unrequested xs) zs
  unrequested_through xs ys first second = record {
    found = λ test some. second.found test (any-filter is_other test ys
        ∙ first.found (other_and test) (any-filter is_other (other_and test) xs
        ∙ any_twice test xs (sym (any-filter is_other test xs) ∙ some)));
  }

  pub unrequested_each : (xs ys : List (Cause S D K G C)) {all : List (Cause S D K G C)} → AreAmong xs all
      → AreAmong (unrequested ys) all → AreAmong (unrequested (xs ++ ys)) all
  unrequested_each xs ys first second = record {
    found = λ test some. elim (any_either (other_and test) xs ys
        (sym (any-filter is_other test (xs ++ ys)) ∙ some)) [
          | inl here ↦ first.found test (any_weaker test xs here)
          | inr there ↦ second.found test (any-filter is_other test ys ∙ there)
        ];
  }

  -- of which none is asked of peers
  pub others_among : (these : List (Cause S D K G C)) {xs ys : List (Cause S D K G C)}
      → unrequested these ≡ these → AreAmong these xs → AreAmong (unrequested xs) ys → AreAmong these ys
  others_among these {xs = xs} all is among = record {
    found = λ test some. among.found test (any-filter is_other test xs ∙ is.found (other_and test)
        (sym (any-filter is_other test these) ∙ (ap (list_any test) all ∙ some)));
  }

  -- a test that nothing which is asked of peers passes
  pub unrequested_test : (test : Cause S D K G C → Bool) → ((ask : Ask) → test (Request ask) ≡ false)
      → (xs : List (Cause S D K G C)) → list_any test (unrequested xs) ≡ list_any test xs
  unrequested_test test none [] = refl
  unrequested_test test none (Request ask ∷ xs) =
      unrequested_test test none xs ∙ ap (λ b. b || list_any test xs) (sym (none ask))
  unrequested_test test none (WorkItem it ∷ xs) = ap (λ b. test (WorkItem it) || b) (unrequested_test test none xs)
  unrequested_test test none (MissingCertificate kind view ∷ xs) =
      ap (λ b. test (MissingCertificate kind view) || b) (unrequested_test test none xs)
  unrequested_test test none (Arrival from proposal ∷ xs) =
      ap (λ b. test (Arrival from proposal) || b) (unrequested_test test none xs)
  unrequested_test test none (Quorum subject ∷ xs) = ap (λ b. test (Quorum subject) || b)
      (unrequested_test test none xs)
  unrequested_test test none (Message asked ∷ xs) = ap (λ b. test (Message asked) || b) (unrequested_test test none xs)
  unrequested_test test none (Expiry ∷ xs) = ap (λ b. test Expiry || b) (unrequested_test test none xs)

-- no task asks a peer
pub task_other : (S K G C : Type 0) {D : Type 0} (asked : Task D)
    → unrequested (of_task {S = S} {K = K} {G = G} {C = C} asked) ≡ of_task asked
task_other S K G C (task.SetProposal v p) = refl
task_other S K G C task.TryPropose = refl
task_other S K G C (task.Proposed v payload) = refl
task_other S K G C (task.SupersedeProposalRequest v) = refl
task_other S K G C (task.PendingHandoffAbandonment v) = refl
task_other S K G C (task.ReleaseProposalRequest v) = refl
task_other S K G C task.TryVerify = refl
task_other S K G C (task.Verified v) = refl
task_other S K G C (task.VerificationFailed v) = refl
task_other S K G C task.CertifyCandidates = refl
task_other S K G C (task.SetCertifyHandle v) = refl
task_other S K G C (task.Certified v is_success) = refl
task_other S K G C (task.ConstructNotarize v) = refl
task_other S K G C (task.ConstructFinalize v) = refl
task_other S K G C (task.ConstructNullify v reason) = refl
task_other S K G C (task.BroadcastNotarization v) = refl
task_other S K G C (task.BroadcastNullification v) = refl
task_other S K G C (task.BroadcastFinalization v) = refl
task_other S K G C task.GetBestCertificate = refl
task_other S K G C (task.TriggerTimeout v reason) = refl
task_other S K G C task.NextTimeout = refl
task_other S K G C task.Prune = refl

-- ---- the fetch that is due

itself : (it : Fetch) → is_of it.kind it.view it ≡ true
itself it = and_from (same_kind it.kind it.kind) (it.view == it.view) (kinds it.kind) (eq-eqb it.view it.view refl)
  where
    kinds : (kind : FetchKind) → same_kind kind kind ≡ true
    kinds fetch.Notarization = refl
    kinds fetch.Nullification = refl
    kinds fetch.Decision = refl

open_at : (xs : List Fetch) (place : ℕ) (it : Fetch) → slice_get xs place ≡ Some it
    → is_fetch_open it.kind it.view xs ≡ true
open_at [] place it at = absurd (cc)
open_at (x ∷ xs) zero it at =
    let same : x ≡ it = cc in
    or_left (is_of it.kind it.view x) (is_fetch_open it.kind it.view xs)
    (subst (λ (f : Fetch). is_of it.kind it.view f ≡ true) (sym same) (itself it))
open_at (x ∷ xs) (suc place) it at =
    or_right (is_of it.kind it.view x) (is_fetch_open it.kind it.view xs) (open_at xs place it at)

-- it is outstanding
asked_open : (now : ℕ) (old new : Fetches) (ask : Ask) → IsAsking now old (Some ask) new
    → is_fetch_open ask.kind ask.view old.wanted.items ≡ true
asked_open now old new ask asking = by_place (due_at now old.wanted.items) asking
  where
    by_place : (at : Option ℕ)
        → MatchOption at ((Some ask ≡ None) × (new ≡ old))
        (λ place. (due : Fetch) × (slice_get old.wanted.items place ≡ Some due) × (Some ask ≡ Some (ask_of old due))
        × (new.wanted.items ≡ slice_set old.wanted.items place (asked_again now old.retry due))
        × (new.peers ≡ old.peers) × (new.retry ≡ old.retry))
        → is_fetch_open ask.kind ask.view old.wanted.items ≡ true
    by_place None (none, same) = absurd (cc)
    by_place (Some place) (due, at, is, _, _, _) =
        let same : ask ≡ ask_of old due = cc in
        subst (λ (a : Ask). is_fetch_open a.kind a.view old.wanted.items ≡ true) (sym same)
        (open_at old.wanted.items place due at)

-- an asking like another is of its kind and view
open_alike : (a b : Ask) (xs : List Fetch) → same_ask a b ≡ true → is_fetch_open a.kind a.view xs ≡ true
    → is_fetch_open b.kind b.view xs ≡ true
open_alike a b xs alike is =
    let both = and_parts (same_kind a.kind b.kind && a.view == b.view) (same_member a.of b.of) alike in
    let parts = and_parts (same_kind a.kind b.kind) (a.view == b.view) both.0 in
    subst (λ v. is_fetch_open b.kind v xs ≡ true) (eqb-true a.view b.view parts.1)
    (subst (λ k. is_fetch_open k a.view xs ≡ true) (kind_same a.kind b.kind parts.0) is)

module _ {S D K G C : Type 0} where
  -- ---- the next step

  asked_of_peer : (ask : Option Ask)
      → unrequested (of_steps {S = S} {D = D} {K = K} {G = G} {C = C} (fetching_one ask)) ≡ []
  asked_of_peer None = refl
  asked_of_peer (Some ask) = refl

  watched_none : (current : ℕ) (builds : List (PendingBuild D K))
      → of_steps {S = S} {D = D} {K = K} {G = G} {C = C} (watching_all current builds) ≡ []
  watched_none current [] = refl
  watched_none current (b ∷ builds) = one (nat_lt b.context.round.view current) ∙ watched_none current builds
    where
      one : (t : Bool) → of_task {S = S} {D = D} {K = K} {G = G} {C = C}
          (cond t (task.ReleaseProposalRequest b.context.round.view)
          (task.PendingHandoffAbandonment b.context.round.view)) ++ of_steps (watching_all current builds) ≡ of_steps
          (watching_all current builds)
      one true = refl
      one false = refl

  watched_where : (b : Bool) (current : ℕ) (builds : List (PendingBuild D K))
      → of_steps {S = S} {D = D} {K = K} {G = G} {C = C} (watching_where b current builds) ≡ []
  watched_where true current builds = watched_none current builds
  watched_where false current builds = refl

  abbrev outstanding : Plan S D K G C → FetchKind → ℕ → Bool
  outstanding plan kind view = is_fetch_open kind view plan.repair.fetches.wanted.items

  abbrev Seeks : Plan S D K G C → Plan S D K G C → Type 0
  Seeks old new =
      (ask : Ask) → list_any (is_request ask) (planned_causes new) ≡ true
      → IsSought (planned_causes old) (outstanding new) never ask

  module _ (now : ℕ) where
    -- nothing else is at hand once fetches are others, of which none is opened
    refetched : (old new : Plan S D K G C) → IsFetchAsked now old new
        → AreAmong (planned_causes (record old { repair = new.repair })) (planned_causes old)
    refetched old new is =
        among_further (fetches_alone old (record old { repair = new.repair }) [] refl
        (among_further (no_other old.repair.resolver.open_fetches new.repair.resolver.open_fetches
        old.repair.fetches.wanted.items new.repair.fetches.wanted.items (λ kind view is_open unwanted. (
          sym (open_asked now old.repair.fetches new.repair.fetches is.ask is.asked kind view) ∙ is_open,
          ap (λ (r : LawfulResolverFacts). wants r.open_fetches kind view) (sym is.resolver) ∙ unwanted,
        )))
        (among_further (in_fetches old) (among_more (planned_causes old) []))))
        (among_all (append-nil (planned_causes old)))

    fetch_asked : (old new : Plan S D K G C) → IsFetchAsked now old new
        → AreAmong (unrequested (planned_causes new)) (planned_causes old)
    fetch_asked old new is =
        among_further
        (unrequested_but (of_steps (fetching_one is.ask)) (planned_more is.planned) (asked_of_peer is.ask))
        (refetched old new is)

    prune_asked : (b : Bool) (old new : Plan S D K G C) → IsPruneAsked b now old new
        → AreAmong (unrequested (planned_causes new)) (planned_causes old)
    prune_asked true old new is = unrequested_all (planned_alone refl is)
    prune_asked false old new is = fetch_asked old new is

    timeout_asked : (b : Bool) (old new : Plan S D K G C) → IsTimeoutAsked b now old new
        → AreAmong (unrequested (planned_causes new)) (planned_causes old)
    timeout_asked true old new is = unrequested_all (planned_alone refl is)
    timeout_asked false old new is = prune_asked old.is_prune_due old new is

    watched_on : (steps : List (Step S D K G C)) → of_steps steps ≡ [] → (old new : Plan S D K G C)
        → AreWatched steps now old new → AreAmong (unrequested (planned_causes new)) (planned_causes old)
    watched_on [] none old new is = timeout_asked old.is_timeout_due old new is
    watched_on (step ∷ steps) none old new is = unrequested_all (planned_alone none is)

    ready_on : (steps : List (Step S D K G C)) (old ready : Plan S D K G C) → IsReady steps now old ready
        → AreAmong (unrequested (planned_causes ready)) (planned_causes old)
    ready_on [] old ready is =
        watched_on (watching_where old.is_watch_due old.views.current old.builds.buildings.items)
        (watched_where old.is_watch_due old.views.current old.builds.buildings.items)
        (record old { is_watch_due = false }) ready is
    ready_on (step ∷ steps) old ready is = unrequested_all (same_plan is)

    -- the step that is taken, and what is left, were ready
    taken_ready : (step : Option (Step S D K G C)) (old new : Plan S D K G C) (taken : HasTaken now step old new)
        → AreAmong (of_steps (option_to_list step) ++ planned_causes new) (planned_causes taken.ready)
    taken_ready step old new taken =
        among_each (among_further (among_more (of_steps (option_to_list step)) (of_steps new.steps.items)) front)
        (each_part new (among_further (among_last (of_steps (option_to_list step)) (of_steps new.steps.items)) front)
        (still_blocks taken.ready new (ap (λ (p : Plan S D K G C). p.builds) taken.same))
        (still_early taken.ready new (ap (λ (p : Plan S D K G C). p.early) taken.same))
        (still_fetches taken.ready new (ap (λ (p : Plan S D K G C). p.repair) taken.same)))
      where
        front : AreAmong (of_steps (option_to_list step) ++ of_steps new.steps.items) (planned_causes taken.ready)
        front = among_further (among_all (sym
            (ap of_steps taken.taken ∙ of_steps-append (option_to_list step) new.steps.items))) (in_steps taken.ready)

    -- and were at hand, but for what is asked of a peer
    pub taken_alone : (step : Option (Step S D K G C)) (old new : Plan S D K G C) → HasTaken now step old new
        → AreAmong (unrequested (of_steps (option_to_list step) ++ planned_causes new)) (planned_causes old)
    taken_alone step old new taken =
        unrequested_further (taken_ready step old new taken) (ready_on old.steps.items old taken.ready taken.is_ready)

    -- ---- why a peer is asked

    seeks_anyway : (old new : Plan S D K G C) → AreAmong (planned_causes new) (planned_causes old) → Seeks old new
    seeks_anyway old new among ask is = WasAsked (among.found (is_request ask) is)

    -- what is outstanding is named as missing, or the resolver wants it
    open_sought : (old new : Plan S D K G C) (ask : Ask)
        → is_fetch_open ask.kind ask.view old.repair.fetches.wanted.items ≡ true
        → is_fetch_open ask.kind ask.view new.repair.fetches.wanted.items ≡ true
        → IsSought (planned_causes old) (outstanding new) never ask
    open_sought old new ask was is = by_wants (wants wanted ask.kind ask.view) refl
      where
        wanted : List ℕ
        wanted = old.repair.resolver.open_fetches

        by_wants : (t : Bool) → wants wanted ask.kind ask.view ≡ t
            → IsSought (planned_causes old) (outstanding new) never ask
        by_wants true wanted_it =
            IsWanted (and_parts (same_kind ask.kind fetch.Nullification) _ wanted_it).0 (λ un. is)
        by_wants false unwanted = IsNamed ((in_fetches old).found (is_missing_certificate ask.kind ask.view)
            ((lacks wanted ask.kind ask.view old.repair.fetches.wanted.items was unwanted).found
            (is_missing_certificate ask.kind ask.view)
            (or_left (same_kind ask.kind ask.kind && ask.view == ask.view) false
            (itself (record { kind = ask.kind; view = ask.view; first = 0; count = 0; moment = 0 })))))

    fetch_seeks : (old new : Plan S D K G C) → IsFetchAsked now old new → Seeks old new
    fetch_seeks old new is ask some =
        elim (any_either (is_request ask) (planned_causes (record old { repair = new.repair }))
        (of_steps (fetching_one is.ask)) ((planned_more is.planned).found (is_request ask) some)) [
          | inl before ↦ WasAsked ((refetched old new is).found (is_request ask) before)
          | inr this ↦ by_ask is.ask is.asked this
        ]
      where
        by_ask : (asked : Option Ask) → IsAsking now old.repair.fetches asked new.repair.fetches
            → list_any (is_request ask) (of_steps {S = S} {D = D} {K = K} {G = G} {C = C} (fetching_one asked)) ≡ true
            → IsSought (planned_causes old) (outstanding new) never ask
        by_ask None asking none = absurd (false≢true none)
        by_ask (Some it) asking some =
            let alike : same_ask it ask ≡ true = elim (or_cases (same_ask it ask) false some) [
              | inl this ↦ this
              | inr none ↦ absurd (false≢true none)
            ] in
            let was = open_alike it ask old.repair.fetches.wanted.items alike
            (asked_open now old.repair.fetches new.repair.fetches it asking) in
            open_sought old new ask was
            (open_asked now old.repair.fetches new.repair.fetches (Some it) asking ask.kind ask.view ∙ was)

    prune_seeks : (b : Bool) (old new : Plan S D K G C) → IsPruneAsked b now old new → Seeks old new
    prune_seeks true old new is = seeks_anyway old new (planned_alone refl is)
    prune_seeks false old new is = fetch_seeks old new is

    timeout_seeks : (b : Bool) (old new : Plan S D K G C) → IsTimeoutAsked b now old new → Seeks old new
    timeout_seeks true old new is = seeks_anyway old new (planned_alone refl is)
    timeout_seeks false old new is = prune_seeks old.is_prune_due old new is

    watched_seeks : (steps : List (Step S D K G C)) → of_steps steps ≡ [] → (old new : Plan S D K G C)
        → AreWatched steps now old new → Seeks old new
    watched_seeks [] none old new is = timeout_seeks old.is_timeout_due old new is
    watched_seeks (step ∷ steps) none old new is = seeks_anyway old new (planned_alone none is)

    ready_seeks : (steps : List (Step S D K G C)) (old ready : Plan S D K G C) → IsReady steps now old ready
        → Seeks old ready
    ready_seeks [] old ready is =
        watched_seeks (watching_where old.is_watch_due old.views.current old.builds.buildings.items)
        (watched_where old.is_watch_due old.views.current old.builds.buildings.items)
        (record old { is_watch_due = false }) ready is
    ready_seeks (step ∷ steps) old ready is = seeks_anyway old ready (same_plan is)

    -- the step that is taken, and what is left, ask a peer for what was at hand, or is sought
    pub taken_sought : (step : Option (Step S D K G C)) (old new : Plan S D K G C) → HasTaken now step old new
        → (ask : Ask) → list_any (is_request ask) (of_steps (option_to_list step) ++ planned_causes new) ≡ true
        → IsSought (planned_causes old) (outstanding new) never ask
    taken_sought step old new taken ask some =
        subst (λ (p : Plan S D K G C). IsSought (planned_causes old) (outstanding p) never ask) (sym taken.same)
        (ready_seeks old.steps.items old taken.ready taken.is_ready ask
        ((taken_ready step old new taken).found (is_request ask) some))
