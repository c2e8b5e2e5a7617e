-- That what a plan has at hand was at hand before, or is given by an answer.
use Rattle.std.proofs.Common.{◌≡◌, ◌∙◌, refl, ap, sym, subst, ℕ, inl, inr, Bool, true, false, ◌&&◌, ◌==◌, cond, List, [], ◌∷◌, ◌++◌, append_assoc, append-nil, filter, map}
use Rattle.std.specs.List.{list_any}
use Rattle.std.proofs.lemmas.Bool.{false≢true, and_parts, eq-eqb, eqb-true, or_cases, or_left, or_right}
use Rattle.simplex_types.specs.declared.types.messages.Context.{Context}
use Rattle.simplex_resolver.specs.CallHistory.{LawfulResolverFacts}
use Rattle.simplex_voter.specs.declared.voter.candidates.CertificateFetch.{CertificateFetch}
use Rattle.engine_fetches.specs.declared.fetches.Fetch.{Fetch}
use Rattle.engine_fetches.specs.declared.fetches.FetchKind.{FetchKind}
use Rattle.engine_fetches.specs.declared.fetches.FetchKind.TheVariants as fetch
use Rattle.engine_fetches.specs.declared.repair.Repair.{Repair}
use Rattle.engine_fetches.specs.Fetches.{is_of, is_fetch_open, opened, same_kind}
use Rattle.engine_fetches.specs.Repairs.{HasFetches, HasPassed}
use Rattle.engine_fetches.specs.OutstandingFetches.{fetching, wants, OpensNoOther}
use Rattle.engine_fetches.proofs.OpenedFetches.{open_fetching, open_once, opens_left}
use Rattle.engine_outbox.specs.declared.output.Work.TheVariants as work
use Rattle.engine_planner.specs.declared.plan.builds.PendingBuild.{PendingBuild}
use Rattle.engine_planner.specs.declared.plan.Plan.{Plan}
use Rattle.engine_planner.specs.declared.plan.Step.{Step}
use Rattle.engine_planner.specs.Blocks.{has_waited, is_asked_at, reported_by}
use Rattle.engine_planner.specs.BuildPlans.{asking_for, stopping, HasBuilds}
use Rattle.engine_planner.specs.ViewChanges.{asking_by}
use Rattle.engine_planner.specs.Consequences.{later}
use Rattle.engine_planner.specs.Causes.{Cause, WorkItem, MissingCertificate, of_block, of_blocks, of_early, of_fetch, of_fetches, of_repair, of_step, of_steps, planned_causes}
use Rattle.engine_planner.specs.PlanStates.{HasPlanned}
use Rattle.engine_planner.specs.PlannedWork.{AreAmong}
use Rattle.engine_planner.proofs.PlannedWork.{among_all, among_both, among_further, among_more, among_still, any_either, any_right}

-- ---- lists

module _ {A : Type 0} where
  -- these and those, among the same
  pub among_each : {these those all : List A} → AreAmong these all → AreAmong those all → AreAmong (these ++ those) all
  among_each {these = these} {those = those} first second = record {
    found = λ test some. elim (any_either test these those some) [
      | inl this ↦ first.found test this
      | inr that ↦ second.found test that
    ];
  }

  pub among_none : (all : List A) → AreAmong [] all
  among_none all = record { found = λ test none. absurd (false≢true none) }

  pub among_last : (these those : List A) → AreAmong those (these ++ those)
  among_last these those = record { found = λ test. any_right test these those }

module _ {S D K G C : Type 0} where
  pub of_steps-append : (steps more : List (Step S D K G C))
      → of_steps (steps ++ more) ≡ of_steps steps ++ of_steps more
  of_steps-append [] more = refl
  of_steps-append (it ∷ steps) more = ap (λ rest. of_step it ++ rest) (of_steps-append steps more)
      ∙ sym (append_assoc (of_step it) (of_steps steps) (of_steps more))

  -- ---- parts of what a plan has at hand

  module _ (plan : Plan S D K G C) where
    abbrev pub steps_of : List (Cause S D K G C)
    steps_of = of_steps plan.steps.items

    abbrev pub blocks_of : List (Cause S D K G C)
    blocks_of = of_blocks plan.builds.buildings.items

    abbrev pub early_of : List (Cause S D K G C)
    early_of = of_early plan.early.proposals.items

    abbrev pub fetches_of : List (Cause S D K G C)
    fetches_of = of_repair plan.repair

    pub in_steps : AreAmong steps_of (planned_causes plan)
    in_steps = among_more steps_of (blocks_of ++ (early_of ++ fetches_of))

    pub in_blocks : AreAmong blocks_of (planned_causes plan)
    in_blocks = among_further (among_more blocks_of (early_of ++ fetches_of))
        (among_last steps_of (blocks_of ++ (early_of ++ fetches_of)))

    pub in_early : AreAmong early_of (planned_causes plan)
    in_early = among_further (among_more early_of fetches_of)
        (among_further (among_last blocks_of (early_of ++ fetches_of))
        (among_last steps_of (blocks_of ++ (early_of ++ fetches_of))))

    pub in_fetches : AreAmong fetches_of (planned_causes plan)
    in_fetches = among_further (among_last early_of fetches_of)
        (among_further (among_last blocks_of (early_of ++ fetches_of))
        (among_last steps_of (blocks_of ++ (early_of ++ fetches_of))))

  -- each part is among these
  pub each_part : (plan : Plan S D K G C) {all : List (Cause S D K G C)} → AreAmong (steps_of plan) all
      → AreAmong (blocks_of plan) all → AreAmong (early_of plan) all → AreAmong (fetches_of plan) all
      → AreAmong (planned_causes plan) all
  each_part plan steps blocks early fetches = among_each steps (among_each blocks (among_each early fetches))

  -- parts that are the same
  module _ (old new : Plan S D K G C) where
    pub still_blocks : new.builds ≡ old.builds → AreAmong (blocks_of new) (planned_causes old)
    still_blocks is = among_further (among_all (ap (λ builds. of_blocks builds.buildings.items) is)) (in_blocks old)

    pub still_early : new.early ≡ old.early → AreAmong (early_of new) (planned_causes old)
    still_early is = among_further (among_all (ap (λ early. of_early early.proposals.items) is)) (in_early old)

    pub still_fetches : new.repair ≡ old.repair → AreAmong (fetches_of new) (planned_causes old)
    still_fetches is = among_further (among_all (ap of_repair is)) (in_fetches old)

    -- steps with more after them
    pub more_steps : (more : List (Step S D K G C)) {all : List (Cause S D K G C)}
        → new.steps.items ≡ old.steps.items ++ more → AreAmong (planned_causes old) all → AreAmong (of_steps more) all
        → AreAmong (steps_of new) all
    more_steps more is before these =
        among_further (among_all (ap of_steps is ∙ of_steps-append old.steps.items more))
        (among_each (among_further (in_steps old) before) these)

  -- steps without a cause are planned
  pub planned_more : {more : List (Step S D K G C)} {old new : Plan S D K G C} → HasPlanned more old new
      → AreAmong (planned_causes new) (planned_causes old ++ of_steps more)
  planned_more {more = more} {old = old} {new = new} is =
      let before = among_more (planned_causes old) (of_steps more) in
      each_part new (more_steps old new more is.steps before (among_last (planned_causes old) (of_steps more)))
      (among_further (still_blocks old new (ap (λ (p : Plan S D K G C). p.builds) is.same)) before)
      (among_further (still_early old new (ap (λ (p : Plan S D K G C). p.early) is.same)) before)
      (among_further (still_fetches old new (ap (λ (p : Plan S D K G C). p.repair) is.same)) before)

  pub planned_alone : {more : List (Step S D K G C)} {old new : Plan S D K G C} → of_steps more ≡ []
      → HasPlanned more old new → AreAmong (planned_causes new) (planned_causes old)
  planned_alone {old = old} none is =
      among_further (planned_more is)
      (among_all (ap (λ causes. planned_causes old ++ causes) none ∙ append-nil (planned_causes old)))

  pub same_plan : {old new : Plan S D K G C} → new ≡ old → AreAmong (planned_causes new) (planned_causes old)
  same_plan is = among_all (ap planned_causes is)

  -- ---- blocks

  module _ (keep : PendingBuild D K → Bool) where
    pub blocks_left : (builds : List (PendingBuild D K))
        → AreAmong {A = Cause S D K G C} (of_blocks (filter keep builds)) (of_blocks builds)
    blocks_left [] = among_still []
    blocks_left (b ∷ builds) = by_test (keep b) (blocks_left builds)
      where
        by_test : (t : Bool) → AreAmong {A = Cause S D K G C} (of_blocks (filter keep builds)) (of_blocks builds)
            → AreAmong {A = Cause S D K G C} (of_blocks (cond t (b ∷ filter keep builds) (filter keep builds)))
            (of_blocks (b ∷ builds))
        by_test true left = among_both (among_still (of_block b.context)) left
        by_test false left = among_further left (among_last (of_block b.context) (of_blocks builds))

  pub of_blocks-append : (builds more : List (PendingBuild D K))
      → of_blocks {S = S} {G = G} {C = C} (builds ++ more) ≡ of_blocks builds ++ of_blocks more
  of_blocks-append [] more = refl
  of_blocks-append (b ∷ builds) more = ap (λ rest. of_block b.context ++ rest) (of_blocks-append builds more)

  -- one must stop that was asked for
  stop_of : (view : ℕ) (builds : List (PendingBuild D K)) → list_any (is_asked_at view) builds ≡ true
      → AreAmong {A = Cause S D K G C} (WorkItem (work.StopBuilding view) ∷ []) (of_blocks builds)
  stop_of view [] none = absurd (false≢true none)
  stop_of view (b ∷ builds) is = elim (or_cases (is_asked_at view b) (list_any (is_asked_at view) builds) is) [
    | inl this ↦ subst (λ v. AreAmong {A = Cause S D K G C} (WorkItem (work.StopBuilding v) ∷ [])
        (of_block b.context ++ of_blocks builds))
        (eqb-true b.context.round.view view (and_parts b.is_reported (b.context.round.view == view) this).1)
        (among_further (among_last (WorkItem (work.Build b.context) ∷ [])
        (WorkItem (work.StopBuilding b.context.round.view) ∷ []))
        (among_more (of_block b.context) (of_blocks builds)))
    | inr later ↦ among_further (stop_of view builds later) (among_last (of_block b.context) (of_blocks builds))
  ]

  pub stopping_of : (view : ℕ) (builds : List (PendingBuild D K))
      → AreAmong {A = Cause S D K G C} (of_steps (stopping view (list_any (is_asked_at view) builds)))
      (of_blocks builds)
  stopping_of view builds = by_test (list_any (is_asked_at view) builds) refl
    where
      by_test : (t : Bool) → list_any (is_asked_at view) builds ≡ t
          → AreAmong {A = Cause S D K G C} (of_steps (stopping view t)) (of_blocks builds)
      by_test true is = stop_of view builds is
      by_test false is = among_none (of_blocks builds)

  pub asking_of : (context : Context D K) (is_reported : Bool)
      → AreAmong {A = Cause S D K G C} (of_steps (asking_for context is_reported)) (of_block context)
  asking_of context true = among_more (WorkItem (work.Build context) ∷ [])
      (WorkItem (work.StopBuilding context.round.view) ∷ [])
  asking_of context false = among_none (of_block context)

  pub asking_all : (view : ℕ) (builds : List (PendingBuild D K))
      → AreAmong {A = Cause S D K G C} (of_steps (asking_by view builds)) (of_blocks builds)
  asking_all view [] = among_still []
  asking_all view (b ∷ builds) =
      among_further (among_all (of_steps-append (asking_for b.context (has_waited view b)) (asking_by view builds)))
      (among_both (asking_of b.context (has_waited view b)) (asking_all view builds))

  pub replied_blocks : (view : ℕ) (builds : List (PendingBuild D K))
      → of_blocks {S = S} {G = G} {C = C} (map (reported_by view) builds) ≡ of_blocks builds
  replied_blocks view [] = refl
  replied_blocks view (b ∷ builds) = ap (λ rest. of_block b.context ++ rest) (replied_blocks view builds)

  -- blocks are built, of these matters
  pub built : {more : List (Step S D K G C)} {builds : List (PendingBuild D K)} {old new : Plan S D K G C}
      {all : List (Cause S D K G C)} → HasBuilds more builds old new
      → AreAmong (planned_causes old) all → AreAmong (of_steps more) all → AreAmong (of_blocks builds) all
      → AreAmong (planned_causes new) all
  built {more = more} {old = old} {new = new} is before steps blocks =
      each_part new (more_steps old new more is.steps before steps)
      (among_further (among_all (ap of_blocks is.blocks)) blocks)
      (among_further (still_early old new (ap (λ (p : Plan S D K G C). p.early) is.same)) before)
      (among_further (still_fetches old new (ap (λ (p : Plan S D K G C). p.repair) is.same)) before)

  -- ---- fetches

  -- a fetch that is open and not wanted is missing
  pub lacks : (wanted : List ℕ) (kind : FetchKind) (view : ℕ) (xs : List Fetch) → is_fetch_open kind view xs ≡ true
      → wants wanted kind view ≡ false
      → AreAmong {A = Cause S D K G C} (MissingCertificate kind view ∷ []) (of_fetches wanted xs)
  lacks wanted kind view [] is unwanted = absurd (false≢true is)
  lacks wanted kind view (x ∷ xs) is unwanted = elim (or_cases (is_of kind view x) (is_fetch_open kind view xs) is) [
    | inl this ↦ (let both = and_parts (same_kind x.kind kind) (x.view == view) this in
        among_further (here (same x.kind kind both.0) (eqb-true x.view view both.1))
        (among_more (of_fetch wanted x) (of_fetches wanted xs)))
    | inr later ↦ among_further (lacks wanted kind view xs later unwanted)
        (among_last (of_fetch wanted x) (of_fetches wanted xs))
  ]
    where
      same : (k l : FetchKind) → same_kind k l ≡ true → k ≡ l
      same fetch.Notarization fetch.Notarization is = refl
      same fetch.Notarization fetch.Nullification is = absurd (false≢true is)
      same fetch.Notarization fetch.Decision is = absurd (false≢true is)
      same fetch.Nullification fetch.Notarization is = absurd (false≢true is)
      same fetch.Nullification fetch.Nullification is = refl
      same fetch.Nullification fetch.Decision is = absurd (false≢true is)
      same fetch.Decision fetch.Notarization is = absurd (false≢true is)
      same fetch.Decision fetch.Nullification is = absurd (false≢true is)
      same fetch.Decision fetch.Decision is = refl

      here : x.kind ≡ kind → x.view ≡ view → AreAmong {A = Cause S D K G C} (MissingCertificate kind view ∷ [])
          (of_fetch wanted x)
      here same_kinds at = among_all (ap (λ k. MissingCertificate k view ∷ []) (sym same_kinds)
          ∙ ap (λ v. MissingCertificate x.kind v ∷ []) (sym at)
          ∙ ap (λ t. cond t [] (MissingCertificate x.kind x.view ∷ []))
          (sym (ap (λ k. wants wanted k x.view) same_kinds ∙ ap (wants wanted kind) at ∙ unwanted)))

  -- these cause the fetches
  pub fetches_by : (wanted : List ℕ) (xs : List Fetch) (all : List (Cause S D K G C))
      → ((kind : FetchKind) (view : ℕ) → is_fetch_open kind view xs ≡ true → wants wanted kind view ≡ false
      → AreAmong (MissingCertificate kind view ∷ []) all)
      → AreAmong (of_fetches wanted xs) all
  fetches_by wanted [] all each = among_none all
  fetches_by wanted (x ∷ xs) all each =
      among_each (by_test (wants wanted x.kind x.view) refl)
      (fetches_by wanted xs all
      (λ kind view is. each kind view (or_right (is_of kind view x) (is_fetch_open kind view xs) is)))
    where
      itself : (kind : FetchKind) → same_kind kind kind ≡ true
      itself fetch.Notarization = refl
      itself fetch.Nullification = refl
      itself fetch.Decision = refl

      by_test : (t : Bool) → wants wanted x.kind x.view ≡ t
          → AreAmong (cond t [] (MissingCertificate x.kind x.view ∷ [])) all
      by_test true is = among_none all
      by_test false is = each x.kind x.view
          (or_left (is_of x.kind x.view x) (is_fetch_open x.kind x.view xs)
          (ap (λ b. b && (x.view == x.view)) (itself x.kind) ∙ eq-eqb x.view x.view refl)) is

  -- no other is opened
  pub no_other : (wanted now : List ℕ) (xs ys : List Fetch) → OpensNoOther wanted xs now ys
      → AreAmong {A = Cause S D K G C} (of_fetches now ys) (of_fetches wanted xs)
  no_other wanted now xs ys opens =
      fetches_by now ys (of_fetches wanted xs)
      (λ kind view is unwanted. let before = opens kind view is unwanted in
      lacks wanted kind view xs before.0 before.1)

  -- one is, and no other
  one_more : (wanted : List ℕ) (kind : FetchKind) (view first moment : ℕ) (xs : List Fetch)
      → AreAmong {A = Cause S D K G C} (of_fetches wanted (opened kind view first moment xs))
      (of_fetches wanted xs ++ MissingCertificate kind view ∷ [])
  one_more wanted kind view first moment xs =
      fetches_by wanted (opened kind view first moment xs) (of_fetches wanted xs ++ MissingCertificate kind view ∷ [])
      (λ k v is unwanted. elim (open_once k v kind view first moment xs is) [
        | inl before ↦ among_further (lacks wanted k v xs before unwanted)
            (among_more (of_fetches wanted xs) (MissingCertificate kind view ∷ []))
        | inr this ↦ among_further (among_all (ap (λ it. MissingCertificate it v ∷ []) (sym this.0)
            ∙ ap (λ it. MissingCertificate kind it ∷ []) (sym this.1)))
            (among_last (of_fetches wanted xs) (MissingCertificate kind view ∷ []))
      ])

  -- notarizations are, and no other
  lacking_one : (v : ℕ) (wanted : List CertificateFetch)
      → list_any (λ (it : CertificateFetch). it.view == v) wanted ≡ true
      → AreAmong {A = Cause S D K G C} (MissingCertificate fetch.Notarization v ∷ [])
      (map (λ (it : CertificateFetch). MissingCertificate fetch.Notarization it.view) wanted)
  lacking_one v [] none = absurd (false≢true none)
  lacking_one v (it ∷ rest) is =
      elim (or_cases (it.view == v) (list_any (λ (it : CertificateFetch). it.view == v) rest) is) [
        | inl this ↦ among_further
            (among_all (ap (λ w. MissingCertificate fetch.Notarization w ∷ []) (sym (eqb-true it.view v this))))
            (among_more (MissingCertificate fetch.Notarization it.view ∷ [])
            (map (λ (it : CertificateFetch). MissingCertificate fetch.Notarization it.view) rest))
        | inr later ↦ among_further (lacking_one v rest later)
            (among_last (MissingCertificate fetch.Notarization it.view ∷ [])
            (map (λ (it : CertificateFetch). MissingCertificate fetch.Notarization it.view) rest))
      ]

  pub notarizations : (open_views : List ℕ) (now : ℕ) (wanted : List CertificateFetch) (xs : List Fetch)
      → AreAmong {A = Cause S D K G C} (of_fetches open_views (fetching now wanted xs))
      (of_fetches open_views xs ++ map (λ (it : CertificateFetch). MissingCertificate fetch.Notarization it.view)
      wanted)
  notarizations open_views now wanted xs =
      let given : List (Cause S D K G C) = map
      (λ (it : CertificateFetch). MissingCertificate fetch.Notarization it.view) wanted in
      fetches_by open_views (fetching now wanted xs) (of_fetches open_views xs ++ given)
      (λ k v is unwanted. elim (open_fetching now k v wanted xs is) [
        | inl before ↦ among_further (lacks open_views k v xs before unwanted)
            (among_more (of_fetches open_views xs) given)
        | inr this ↦ among_further (among_all (ap (λ it. MissingCertificate it v ∷ []) this.0))
            (among_further (lacking_one v wanted this.1) (among_last (of_fetches open_views xs) given))
      ])

  -- the fetches of a plan, where nothing else has changed
  pub fetches_alone : (old new : Plan S D K G C) (more : List (Cause S D K G C))
      → new ≡ record old { repair = new.repair } → AreAmong (fetches_of new) (planned_causes old ++ more)
      → AreAmong (planned_causes new) (planned_causes old ++ more)
  fetches_alone old new more is fetches =
      let before = among_more (planned_causes old) more in
      each_part new
      (among_further (among_all (ap (λ (p : Plan S D K G C). of_steps p.steps.items) is))
      (among_further (in_steps old) before))
      (among_further (still_blocks old new (ap (λ (p : Plan S D K G C). p.builds) is)) before)
      (among_further (still_early old new (ap (λ (p : Plan S D K G C). p.early) is)) before) fetches

  -- some are closed
  pub repair_left : {old new : Repair} {view : ℕ} (keep : Fetch → Bool)
      → HasPassed view (filter keep old.fetches.wanted.items) old new
      → AreAmong {A = Cause S D K G C} (of_repair new) (of_repair old)
  repair_left {old = old} {new = new} keep is =
      among_further (among_all (ap (of_fetches new.resolver.open_fetches) is.fetches_now
      ∙ ap (λ (r : LawfulResolverFacts). of_fetches r.open_fetches (filter keep old.fetches.wanted.items))
      is.resolver))
      (no_other old.resolver.open_fetches old.resolver.open_fetches old.fetches.wanted.items
      (filter keep old.fetches.wanted.items)
      (opens_left old.resolver.open_fetches old.fetches.wanted.items keep))

  pub closes_some : {old new : Plan S D K G C} {view : ℕ} (keep : Fetch → Bool)
      → new ≡ record old { repair = new.repair }
      → HasPassed view (filter keep old.repair.fetches.wanted.items) old.repair new.repair
      → AreAmong (planned_causes new) (planned_causes old)
  closes_some {old = old} {new = new} keep is passes =
      among_further (fetches_alone old new [] is
      (among_further (repair_left keep passes)
      (among_further (in_fetches old) (among_more (planned_causes old) []))))
      (among_all (append-nil (planned_causes old)))

  -- one is opened
  pub opens_one : {old new : Plan S D K G C} (kind : FetchKind) (view first moment : ℕ)
      → new ≡ record old { repair = new.repair }
      → HasFetches (opened kind view first moment old.repair.fetches.wanted.items) old.repair new.repair
      → AreAmong (planned_causes new) (planned_causes old ++ MissingCertificate kind view ∷ [])
  opens_one {old = old} {new = new} kind view first moment is fetches =
      let xs = old.repair.fetches.wanted.items in
      let wanted = old.repair.resolver.open_fetches in
      fetches_alone old new (MissingCertificate kind view ∷ []) is
      (among_further (among_all (ap (of_fetches new.repair.resolver.open_fetches) fetches.fetches_now
      ∙ ap (λ (r : LawfulResolverFacts). of_fetches r.open_fetches (opened kind view first moment xs))
      fetches.resolver))
      (among_further (one_more wanted kind view first moment xs)
      (among_both (in_fetches old) (among_still (MissingCertificate kind view ∷ [])))))
