-- Planned work stays planned, and waiting blocks continue to wait.
use Rattle.std.proofs.Common.{◌≡◌, ◌∙◌, refl, ap, sym, subst, ℕ, ◌⊎◌, inl, inr, Bool, true, false, not, ◌||◌, ◌&&◌, ◌==◌, List, [], ◌∷◌, ◌++◌, append-nil, filter}
use Rattle.std.specs.List.{list_any}
use Rattle.std.specs.Prelude.{Result, Ok, Err, OnOk, OnErr, IfErr}
use Rattle.std.proofs.lemmas.Bool.{and_from, and_parts, cases_Bool, or_cases, or_left, or_right}
use Rattle.std.proofs.lemmas.List.{map-append}
use Rattle.simplex_voter.proofs.Between.{any-filter}
use Rattle.laws_safety.proofs.votes.OutstandingWork.{any_of_kept}
use Rattle.engine_planner.specs.declared.plan.Views.{Views}
use Rattle.std.proofs.lemmas.List.Folds.{list_any-append}
use Rattle.simplex_types.specs.declared.types.fault.Fault.{Fault}
use Rattle.simplex_types.specs.declared.types.fault.Fault.TheVariants.{Failed}
use Rattle.simplex_types.specs.declared.types.messages.Context.{Context}
use Rattle.engine_fetches.specs.declared.fetches.Fetch.{Fetch}
use Rattle.engine_fetches.specs.declared.repair.Repair.{Repair}
use Rattle.engine_fetches.specs.Repairs.{HasFetches, HasPassed}
use Rattle.simplex_member.specs.Calls.{ReplyFacts}
use Rattle.engine_outbox.specs.declared.output.Work.{Work}
use Rattle.engine_outbox.specs.declared.output.Work.TheVariants as work
use Rattle.engine_planner.specs.declared.plan.builds.PendingBuild.{PendingBuild}
use Rattle.engine_planner.specs.declared.plan.Plan.{Plan}
use Rattle.engine_planner.specs.declared.plan.Step.{Step}
use Rattle.engine_planner.specs.declared.plan.Step.TheVariants as step
use Rattle.engine_planner.specs.declared.task.Task.{Task}
use Rattle.engine_planner.specs.Blocks.{views_built, all_but_at, in_place, waits_for}
use Rattle.engine_planner.specs.BuildPlans.{asking_for, HasBuilds}
use Rattle.engine_planner.specs.PlanStates.{HasPlanned}
use Rattle.engine_planner.specs.PlannedWork.{AreAmong, Beside, work_planned, work_of, is_build_of, awaits, has_block, IsPlanned, KeepsPlanned, KeepsPlannedThen, PlansAnswer, PlansAnswerThen, constants_of, beside_of, views_requested, is_early}
use Rattle.engine_planner.proofs.Blocks.{left_waiting, views_left}

-- tests that some pass

pub any_left : {A : Type 0} (test : A → Bool) (these those : List A) → list_any test these ≡ true
    → list_any test (these ++ those) ≡ true
any_left test these those is = list_any-append test these those ∙ ap (λ b. b || list_any test those) is

pub any_right : {A : Type 0} (test : A → Bool) (these those : List A) → list_any test those ≡ true
    → list_any test (these ++ those) ≡ true
any_right test these those is = list_any-append test these those
    ∙ or_right (list_any test these) (list_any test those) is

-- a test that some of these or those pass
pub any_either : {A : Type 0} (test : A → Bool) (these those : List A) → list_any test (these ++ those) ≡ true
    → (list_any test these ≡ true) ⊎ (list_any test those ≡ true)
any_either test these those is = or_cases (list_any test these) (list_any test those)
    (sym (list_any-append test these those) ∙ is)

module _ {A : Type 0} where
  pub among_all : {these those : List A} → these ≡ those → AreAmong these those
  among_all is = record { found = λ test some. ap (list_any test) (sym is) ∙ some }

  pub among_still : (these : List A) → AreAmong these these
  among_still these = record { found = λ test some. some }

  pub among_further : {a b c : List A} → AreAmong a b → AreAmong b c → AreAmong a c
  among_further first second = record { found = λ test some. second.found test (first.found test some) }

  pub among_more : (these those : List A) → AreAmong these (these ++ those)
  among_more these those = record { found = λ test. any_left test these those }

  pub among_both : {a b c d : List A} → AreAmong a b → AreAmong c d → AreAmong (a ++ c) (b ++ d)
  among_both {a = a} {b = b} {c = c} {d = d} first second = record {
    found = λ test some. elim (any_either test a c some) [
      | inl this ↦ any_left test b d (first.found test this)
      | inr that ↦ any_right test b d (second.found test that)
    ];
  }

  -- what stays among some that stay among others
  pub among_kept : (keep : A → Bool) (items : List A) → AreAmong (filter keep items) items
  among_kept keep items = record { found = λ test. any_of_kept test keep items }

  any_weaker : (p q : A → Bool) → ((a : A) → p a ≡ true → q a ≡ true) → (items : List A) → list_any p items ≡ true
      → list_any q items ≡ true
  any_weaker p q weaker [] some = some
  any_weaker p q weaker (a ∷ items) some = elim (or_cases (p a) (list_any p items) some) [
    | inl this ↦ or_left (q a) (list_any q items) (weaker a this)
    | inr that ↦ or_right (q a) (list_any q items) (any_weaker p q weaker items that)
  ]

  -- a stricter test, the second time
  pub kept_further : (a : List A) {b c : List A} (keep stricter : A → Bool)
      → ((x : A) → stricter x ≡ true → keep x ≡ true) → AreAmong (filter keep a) b → AreAmong (filter stricter b) c
      → AreAmong (filter stricter a) c
  kept_further a {b = b} keep stricter weaker first second = record {
    found = λ test some.
        let both : A → Bool = λ x. stricter x && test x in
        let all : list_any both (filter keep a) ≡ true = any-filter keep both a
        ∙ any_weaker both (λ x. keep x && both x)
        (λ x is. and_from (keep x) (both x) (weaker x (and_parts (stricter x) (test x) is).0) is) a
        (sym (any-filter stricter test a) ∙ some) in
        second.found test (any-filter stricter test b ∙ first.found both all);
  }

module _ {K D : Type 0} where
  -- the early proposals, where everything is the same, or continues
  early_same : (was is : Beside K D) → is ≡ was → AreAmong (filter (is_early is.reached.current) was.early) is.early
  early_same was is same = among_further (among_kept (is_early is.reached.current) was.early)
      (among_all (ap (λ (b : Beside K D). b.early) (sym same)))

  early_further : (was mid is : Beside K D) → AreAmong (filter (is_early mid.reached.current) was.early) mid.early
      → AreAmong (filter (is_early is.reached.current) mid.early) is.early
      → is.reached ≡ mid.reached → AreAmong (filter (is_early is.reached.current) was.early) is.early
  early_further was mid is first second reached =
      kept_further was.early (is_early mid.reached.current) (is_early is.reached.current)
      (λ e above. ap (λ (v : Views). is_early v.current e) (sym reached) ∙ above) first second

module _ {S D K G C : Type 0} where
  pub planned-append : (steps more : List (Step S D K G C))
      → work_planned (steps ++ more) ≡ work_planned steps ++ work_planned more
  planned-append [] more = refl
  planned-append (step.Ask _ ∷ steps) more = planned-append steps more
  planned-append (step.Offer _ _ ∷ steps) more = planned-append steps more
  planned-append (step.Resolve _ _ _ ∷ steps) more = planned-append steps more
  planned-append (step.Repeat _ ∷ steps) more = planned-append steps more
  planned-append (step.Push it ∷ steps) more = ap (λ works. it ∷ works) (planned-append steps more)

  -- steps that come after others
  planned_now : (old new more : List (Step S D K G C)) → new ≡ old ++ more
      → work_planned new ≡ work_planned old ++ work_planned more
  planned_now old new more is = ap work_planned is ∙ planned-append old more

  pub planned_behind : (old new more : List (Step S D K G C)) → new ≡ old ++ more
      → AreAmong (work_planned old) (work_planned new)
  planned_behind old new more is = among_further (among_more (work_planned old) (work_planned more))
      (among_all (sym (planned_now old new more is)))

  -- a block that was planned is planned still, and one that waited was asked for or waits still
  pub has_further : {works planned : List (Work S D K G C)} (was is : Beside K D) (view : ℕ) → AreAmong works planned
      → (awaits was view ≡ true → has_block planned is view ≡ true)
      → has_block works was view ≡ true → has_block planned is view ≡ true
  has_further {works = works} {planned = planned} was is view among waiting has =
      elim (or_cases (list_any (is_build_of view) works) (awaits was view) has) [
        | inl replied ↦ or_left (list_any (is_build_of view) planned) (awaits is view)
            (among.found (is_build_of view) replied)
        | inr waits ↦ waiting waits
      ]

  -- a plan that is the same, or continues through another
  pub keeps_as : {works planned : List (Work S D K G C)} {was is : Beside K D} → planned ≡ works → is ≡ was
      → IsPlanned [] (λ view. false) works was planned is
  keeps_as {planned = planned} {was = was} {is = is} same beside = record {
    early = early_same was is beside;
    found = among_all (sym same);
    building = λ view waits un. or_right (list_any (is_build_of view) planned) (awaits is view)
        (ap (λ b. awaits b view) beside ∙ waits);
    views = among_all (ap (λ (b : Beside K D). views_built b.blocks) beside);
    reached = ap (λ (b : Beside K D). b.reached) beside;
    constants = ap (λ (b : Beside K D). b.constants) beside;
    ignored = ap (λ (b : Beside K D). b.ignored) beside;
  }

  pub keeps_still : {works : List (Work S D K G C)} {beside : Beside K D}
      → IsPlanned [] (λ view. false) works beside works beside
  keeps_still = keeps_as refl refl

  pub keeps_further : {requested : List ℕ} {ended : ℕ → Bool} {a b c : List (Work S D K G C)} {x y z : Beside K D}
      → IsPlanned requested ended a x b y → IsPlanned [] (λ view. false) b y c z → IsPlanned requested ended a x c z
  keeps_further {x = x} {y = y} {z = z} first second = record {
    early = early_further x y z first.early second.early second.reached;
    found = among_further first.found second.found;
    building = λ view waits un. has_further y z view second.found (λ left. second.building view left refl)
        (first.building view waits un);
    views = among_further second.views first.views;
    reached = second.reached ∙ first.reached;
    constants = second.constants ∙ first.constants;
    ignored = second.ignored ∙ first.ignored;
  }

  -- more steps are queued, and nothing else has changed
  pub plans_too : (ended : ℕ → Bool) (old new : Plan S D K G C) (more : List (Step S D K G C))
      → new.steps.items ≡ old.steps.items ++ more → beside_of new ≡ beside_of old
      → IsPlanned [] ended (work_planned old.steps.items ++ work_planned more) (beside_of old)
      (work_planned new.steps.items) (beside_of new)
  plans_too ended old new more is same = record {
    early = early_same (beside_of old) (beside_of new) same;
    found = among_all (sym (planned_now old.steps.items new.steps.items more is));
    building = λ view waits un. or_right (list_any (is_build_of view) (work_planned new.steps.items))
        (awaits (beside_of new) view) (ap (λ beside. awaits beside view) same ∙ waits);
    views = among_all (ap (λ (beside : Beside K D). views_built beside.blocks) same);
    reached = ap (λ (beside : Beside K D). beside.reached) same;
    constants = ap (λ (beside : Beside K D). beside.constants) same;
    ignored = ap (λ (beside : Beside K D). beside.ignored) same;
  }

  pub plans_behind : (old new : Plan S D K G C) (more : List (Step S D K G C))
      → new.steps.items ≡ old.steps.items ++ more → beside_of new ≡ beside_of old → KeepsPlanned old new
  plans_behind old new more is same =
      let too = plans_too (λ view. false) old new more is same in
      record {
        found = planned_behind old.steps.items new.steps.items more is;
        building = too.building;
        views = too.views;
        early = too.early;
        reached = too.reached;
        constants = too.constants;
        ignored = too.ignored;
      }

  pub has_planned : {more : List (Step S D K G C)} {old new : Plan S D K G C} → HasPlanned more old new
      → KeepsPlanned old new
  has_planned {more = more} {old = old} {new = new} is = plans_behind old new more is.steps (ap beside_of is.same)

  -- nothing is built in a view any more
  pub has_ended : (view : ℕ) (more : List (Step S D K G C)) (old new : Plan S D K G C)
      → new.steps.items ≡ old.steps.items ++ more
      → new.builds.buildings.items ≡ all_but_at view old.builds.buildings.items
      → new.early.proposals.items ≡ old.early.proposals.items → new.views ≡ old.views
      → constants_of new ≡ constants_of old → new.ignored ≡ old.ignored
      → IsPlanned [] (λ other. view == other) (work_planned old.steps.items) (beside_of old)
      (work_planned new.steps.items) (beside_of new)
  has_ended view more old new steps blocks early reached constants ignored = record {
    early = among_further (among_kept (is_early new.views.current) old.early.proposals.items) (among_all (sym early));
    found = planned_behind old.steps.items new.steps.items more steps;
    building = λ other waits un.
        let parts = and_parts old.is_alone (list_any (waits_for other) old.builds.buildings.items) waits in
        or_right (list_any (is_build_of other) (work_planned new.steps.items)) (awaits (beside_of new) other)
        (and_from new.is_alone _ (ap (λ c. c.is_alone) constants ∙ parts.0)
        (ap (list_any (waits_for other)) blocks ∙ left_waiting view other un old.builds.buildings.items parts.1));
    views = record {
      found = λ test some. views_left test view old.builds.buildings.items
          (ap (λ builds. list_any test (views_built builds)) (sym blocks) ∙ some);
    };
    reached = reached;
    constants = constants;
    ignored = ignored;
  }

  -- a block is to be built, at once or, by a member alone, later
  pub has_requested : (ended : ℕ → Bool) (context : Context D K) (is_reported : Bool) (old new : Plan S D K G C)
      → (is_reported ≡ false → old.is_alone ≡ true)
      → HasBuilds (asking_for context is_reported)
      (in_place (record { context = context; is_reported = is_reported }) old.builds.buildings.items) old new
      → IsPlanned (context.round.view ∷ []) ended (work_planned old.steps.items ++ []) (beside_of old)
      (work_planned new.steps.items) (beside_of new)
  has_requested ended context is_reported old new alone is = record {
    early = among_further (among_kept (is_early new.views.current) old.early.proposals.items)
        (among_all (ap (λ (plan : Plan S D K G C). plan.early.proposals.items) (sym is.same)));
    found = among_further (among_all (append-nil (work_planned old.steps.items)))
        (planned_behind old.steps.items new.steps.items (asking_for context is_reported) is.steps);
    building = λ other waits un. elim (cases_Bool (context.round.view == other)) [
      | inl at ↦ by_replied is_reported refl other at
      | inr differs ↦ (elim (or_cases (context.round.view == other || false) (awaits (beside_of old) other) waits) [
        | inl at ↦ absurd (no_other other differs at)
        | inr before ↦ by_waiting other differs
            (and_parts old.is_alone (list_any (waits_for other) old.builds.buildings.items) before)
      ])
    ];
    views = record {
      found = λ test some.
          let still = all_but_at context.round.view old.builds.buildings.items in
          elim (any_either test (views_built still) (context.round.view ∷ [])
          (ap (list_any test)
          (sym (map-append (λ (building : PendingBuild D K). building.context.round.view) still (block ∷ [])))
          ∙ ap (λ builds. list_any test (views_built builds)) (sym is.blocks) ∙ some)) [
            | inl before ↦ any_right test (context.round.view ∷ []) (views_built old.builds.buildings.items)
                (views_left test context.round.view old.builds.buildings.items before)
            | inr now ↦ any_left test (context.round.view ∷ []) (views_built old.builds.buildings.items) now
          ];
    };
    reached = ap (λ (plan : Plan S D K G C). plan.views) is.same;
    constants = ap constants_of is.same;
    ignored = ap (λ (plan : Plan S D K G C). plan.ignored) is.same;
  }
    where
      block : PendingBuild D K
      block = record { context = context; is_reported = is_reported }

      no_other : (other : ℕ) → (context.round.view == other) ≡ false → (context.round.view == other || false) ≡ true → ⊥
      no_other other differs at = (let e : false ≡ true = sym (ap (λ b. b || false) differs) ∙ at in cc)

      alone_still : new.is_alone ≡ old.is_alone
      alone_still = ap (λ (plan : Plan S D K G C). plan.is_alone) is.same

      planned : (replied : Bool) → is_reported ≡ replied
          → work_planned new.steps.items ≡ work_planned old.steps.items ++ work_planned
          (asking_for {S = S} {D = D} {K = K} {G = G} {C = C} context replied)
      planned replied now = planned_now old.steps.items new.steps.items (asking_for context replied)
          (is.steps ∙ ap (λ t. old.steps.items ++ asking_for context t) now)

      -- the block that is requested
      by_replied : (replied : Bool) → is_reported ≡ replied → (other : ℕ) → (context.round.view == other) ≡ true
          → has_block (work_planned new.steps.items) (beside_of new) other ≡ true
      by_replied true now other at =
          or_left (list_any (is_build_of other) (work_planned new.steps.items)) (awaits (beside_of new) other)
          (ap (list_any (is_build_of other)) (planned true now)
          ∙ any_right (is_build_of other) (work_planned old.steps.items) (work.Build context ∷ [])
          (or_left (context.round.view == other) false at))
      by_replied false now other at =
          or_right (list_any (is_build_of other) (work_planned new.steps.items)) (awaits (beside_of new) other)
          (and_from new.is_alone _ (alone_still ∙ alone now)
          (ap (list_any (waits_for other)) is.blocks
          ∙ any_right (waits_for other) (all_but_at context.round.view old.builds.buildings.items) (block ∷ [])
          (or_left (waits_for other block) false
          (and_from (not is_reported) (context.round.view == other) (ap not now) at))))

      -- one of another view
      by_waiting : (other : ℕ) → (context.round.view == other) ≡ false
          → (old.is_alone ≡ true) × (list_any (waits_for other) old.builds.buildings.items ≡ true)
          → has_block (work_planned new.steps.items) (beside_of new) other ≡ true
      by_waiting other differs parts =
          or_right (list_any (is_build_of other) (work_planned new.steps.items)) (awaits (beside_of new) other)
          (and_from new.is_alone _ (alone_still ∙ parts.0)
          (ap (list_any (waits_for other)) is.blocks
          ∙ any_left (waits_for other) (all_but_at context.round.view old.builds.buildings.items) (block ∷ [])
          (left_waiting context.round.view other differs old.builds.buildings.items parts.1)))

  -- no work is asked for
  pub plans_none : {requested : List ℕ} {ended : ℕ → Bool} {works planned : List (Work S D K G C)} {x y : Beside K D}
      → IsPlanned requested ended works x planned y → IsPlanned requested ended (works ++ []) x planned y
  plans_none {works = works} keeps = record {
    found = among_further (among_all (append-nil works)) keeps.found;
    building = keeps.building;
    early = keeps.early;
    views = keeps.views;
    reached = keeps.reached;
    constants = keeps.constants;
    ignored = keeps.ignored;
  }

  -- nor is any block ended
  pub plans_nothing : (ended : ℕ → Bool) {works planned : List (Work S D K G C)} {x y : Beside K D}
      → IsPlanned [] (λ view. false) works x planned y → IsPlanned [] ended (works ++ []) x planned y
  plans_nothing ended {works = works} keeps = record {
    found = among_further (among_all (append-nil works)) keeps.found;
    building = λ view waits un. keeps.building view waits refl;
    early = keeps.early;
    views = keeps.views;
    reached = keeps.reached;
    constants = keeps.constants;
    ignored = keeps.ignored;
  }

  -- of a plan that is the same but for what else it keeps
  pub plans_beside : (old beside new : Plan S D K G C) → new ≡ beside → beside.steps.items ≡ old.steps.items
      → beside_of beside ≡ beside_of old → KeepsPlanned old new
  plans_beside old beside new is steps same =
      plans_behind old new [] (ap (λ (plan : Plan S D K G C). plan.steps.items) is ∙ steps
      ∙ sym (append-nil old.steps.items)) (ap beside_of is ∙ same)

  -- of a plan that has stored one more proposal, maybe
  pub plans_kept : (old new : Plan S D K G C) → new ≡ record old { early = new.early }
      → AreAmong old.early.proposals.items new.early.proposals.items → KeepsPlanned old new
  plans_kept old new is among = record {
    found = among_all (ap (λ (plan : Plan S D K G C). work_planned plan.steps.items) (sym is));
    building = λ view waits un. or_right (list_any (is_build_of view) (work_planned new.steps.items))
        (awaits (beside_of new) view)
        (ap (λ (plan : Plan S D K G C). awaits (beside_of plan) view) is ∙ waits);
    views = among_all (ap (λ (plan : Plan S D K G C). views_built plan.builds.buildings.items) is);
    early = among_further (among_kept (is_early new.views.current) old.early.proposals.items) among;
    reached = ap (λ (plan : Plan S D K G C). plan.views) is;
    constants = ap constants_of is;
    ignored = ap (λ (plan : Plan S D K G C). plan.ignored) is;
  }

  pub plans_same : (old new : Plan S D K G C) → new ≡ old → KeepsPlanned old new
  plans_same old new is = plans_beside old old new is refl refl

  -- of a plan with other fetches, which the same peers are asked for
  pub repaired_beside : (old : Plan S D K G C) (repair : Repair) → repair.fetches.peers ≡ old.repair.fetches.peers
      → repair.fetches.retry ≡ old.repair.fetches.retry
      → beside_of (record old { repair = repair }) ≡ beside_of old
  repaired_beside old repair peers retry = λ i. record {
    reached = old.views;
    blocks = old.builds.buildings.items;
    early = old.early.proposals.items;
    constants = record { is_alone = old.is_alone; options = old.options; peers = peers i; retry = retry i };
    ignored = old.ignored;
  }

  pub plans_repaired : (old new : Plan S D K G C) → new ≡ record old { repair = new.repair }
      → new.repair.fetches.peers ≡ old.repair.fetches.peers
      → new.repair.fetches.retry ≡ old.repair.fetches.retry → KeepsPlanned old new
  plans_repaired old new is peers retry = plans_beside old (record old { repair = new.repair }) new is refl
      (repaired_beside old new.repair peers retry)

  -- so it is after a call that may be refused
  pub plans_opened : {X E : Type 0} (opened kept : List Fetch) (old new : Plan S D K G C) (r : Result X E)
      → new ≡ record old { repair = new.repair }
      → OnOk r (HasFetches opened old.repair new.repair) → OnErr r (HasFetches kept old.repair new.repair)
      → KeepsPlanned old new
  plans_opened opened kept old new (Ok x) is opens refuses = plans_repaired old new is opens.peers opens.retry
  plans_opened opened kept old new (Err e) is opens refuses = plans_repaired old new is refuses.peers refuses.retry

  pub plans_dropped : {X : Type 0} (view : ℕ) (kept : List Fetch) (old new : Plan S D K G C) (r : Result X Fault)
      → new ≡ record old { repair = new.repair } → OnOk r (HasPassed view kept old.repair new.repair)
      → IfErr r (λ fault. (fault ≡ Failed) × (new ≡ old)) → KeepsPlanned old new
  plans_dropped view kept old new (Ok x) is closes refuses = plans_repaired old new is closes.peers closes.retry
  plans_dropped view kept old new (Err e) is closes refuses = plans_same old new refuses.1

  pub plans_begun : (old new : Plan S D K G C) → new ≡ record old { is_timeout_due = true; is_prune_due = true }
      → KeepsPlanned old new
  plans_begun old new is = plans_beside old (record old { is_timeout_due = true; is_prune_due = true }) new is refl refl

  -- what is planned after a change of something else
  pub plans_then : (a b c : Plan S D K G C) (asked : Task D) (replied : ReplyFacts K D) → KeepsPlanned a b
      → PlansAnswer asked replied b c → PlansAnswer asked replied a c
  plans_then a b c asked replied first second = record {
    early = early_further (beside_of a) (beside_of b) (beside_of c) first.early second.early second.reached;
    found = among_further (among_both first.found (among_still (work_of replied))) second.found;
    building = λ view waits un.
        elim (or_cases (list_any (λ v. v == view) (views_requested replied)) (awaits (beside_of a) view) waits) [
          | inl now ↦ second.building view
              (or_left (list_any (λ v. v == view) (views_requested replied)) (awaits (beside_of b) view) now) un
          | inr before ↦ has_further (beside_of b) (beside_of c) view
              (among_further (among_more (work_planned b.steps.items) (work_of replied)) second.found)
              (λ left. second.building view (or_right (list_any (λ v. v == view) (views_requested replied))
              (awaits (beside_of b) view) left) un) (first.building view before refl)
        ];
    views = among_further second.views (among_both (among_still (views_requested replied)) first.views);
    reached = second.reached ∙ first.reached;
    constants = second.constants ∙ first.constants;
    ignored = second.ignored ∙ first.ignored;
  }

  -- where other views were come to before the first
  pub plans_seen : (a b c : Plan S D K G C) (asked : Task D) (replied : ReplyFacts K D) → KeepsPlannedThen a b
      → PlansAnswer asked replied b c → PlansAnswerThen asked replied a c
  plans_seen a b c asked replied first second =
      subst (λ views. PlansAnswer asked replied (record a { views = views }) c) (sym second.reached)
      (plans_then (record a { views = b.views }) b c asked replied first second)

  pub keeps_seen : (a b c : Plan S D K G C) → KeepsPlannedThen a b → KeepsPlanned b c → KeepsPlannedThen a c
  keeps_seen a b c first second = subst (λ views. KeepsPlanned (record a { views = views }) c) (sym second.reached)
      (keeps_further first second)

  -- or none were
  pub keeps_own : (a b : Plan S D K G C) → KeepsPlanned a b → KeepsPlannedThen a b
  keeps_own a b keeps = subst (λ views. KeepsPlanned (record a { views = views }) b) (sym keeps.reached) keeps
