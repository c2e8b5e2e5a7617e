-- That what a plan asks for it asks for still.
use Rattle.std.proofs.Common.{◌≡◌, ◌∙◌, refl, ap, sym, subst, ℕ, ◌⊎◌, inl, inr, Bool, true, false, not, ◌&&◌, ◌||◌, ◌==◌, cond, List, [], ◌∷◌, ◌++◌, filter, map, arith}
use Rattle.std.specs.Prelude.{nat_le, nat_lt}
use Rattle.std.specs.List.{list_any}
use Rattle.std.proofs.lemmas.Bool.{false≢true, and_parts, eqb-true, or_cases, or_left, or_right}
use Rattle.std.proofs.lemmas.Bool.Decides.{nat_tests}
use Rattle.simplex_resolver.specs.declared.resolver.effect.Effect.{Effect}
use Rattle.simplex_resolver.specs.declared.resolver.effect.Effect.TheVariants as effect
use Rattle.simplex_voter.specs.declared.voter.candidates.CertificateFetch.{CertificateFetch}
use Rattle.engine_fetches.specs.declared.fetches.Fetch.{Fetch}
use Rattle.engine_fetches.specs.declared.fetches.FetchKind.{FetchKind}
use Rattle.engine_fetches.specs.declared.fetches.FetchKind.TheVariants as fetch
use Rattle.engine_fetches.specs.declared.repair.Repair.{Repair}
use Rattle.engine_fetches.specs.Fetches.{fetch_kind, is_of, is_within, is_fetch_open, opened, fresh, same_kind}
use Rattle.engine_fetches.specs.OutstandingFetches.{after_effect, after_effects, fetching}
use Rattle.engine_fetches.proofs.OutstandingFetches.{open_more}
use Rattle.engine_planner.specs.declared.plan.Plan.{Plan}
use Rattle.engine_planner.specs.declared.plan.Step.{Step}
use Rattle.engine_planner.specs.FetchRequests.{asks, ends_fetch, is_missing_certificate, is_resolve}
use Rattle.engine_planner.specs.Consequences.{later}
use Rattle.engine_planner.specs.Causes.{MissingCertificate}
use Rattle.engine_planner.specs.PlanStates.{HasPlanned}
use Rattle.engine_planner.proofs.PlannedWork.{any_left}

-- ---- kinds and fetches

pub kind_same : (k l : FetchKind) → same_kind k l ≡ true → k ≡ l
kind_same fetch.Notarization fetch.Notarization is = refl
kind_same fetch.Notarization fetch.Nullification is = absurd (false≢true is)
kind_same fetch.Notarization fetch.Decision is = absurd (false≢true is)
kind_same fetch.Nullification fetch.Notarization is = absurd (false≢true is)
kind_same fetch.Nullification fetch.Nullification is = refl
kind_same fetch.Nullification fetch.Decision is = absurd (false≢true is)
kind_same fetch.Decision fetch.Notarization is = absurd (false≢true is)
kind_same fetch.Decision fetch.Nullification is = absurd (false≢true is)
kind_same fetch.Decision fetch.Decision is = refl

turned : (k l : FetchKind) → same_kind k l ≡ same_kind l k
turned fetch.Notarization fetch.Notarization = refl
turned fetch.Notarization fetch.Nullification = refl
turned fetch.Notarization fetch.Decision = refl
turned fetch.Nullification fetch.Notarization = refl
turned fetch.Nullification fetch.Nullification = refl
turned fetch.Nullification fetch.Decision = refl
turned fetch.Decision fetch.Notarization = refl
turned fetch.Decision fetch.Nullification = refl
turned fetch.Decision fetch.Decision = refl

-- a notarization of the view, by a fetch and by a call
pub turned_over : (kind : FetchKind) (view other : ℕ)
    → (same_kind kind fetch.Notarization && view == other) ≡ (same_kind fetch.Notarization kind && other == view)
turned_over kind view other = ap (λ b. b && view == other) (turned kind fetch.Notarization)
    ∙ ap (λ b. same_kind fetch.Notarization kind && b) (alike view other)
  where
    alike : (v w : ℕ) → (v == w) ≡ (w == v)
    alike v w = grind (arith, nat_tests)

module _ (kind : FetchKind) (view : ℕ) where
  -- what is open still is among the retained ones
  pub open_kept : (keep : Fetch → Bool) → ((f : Fetch) → is_of kind view f ≡ true → keep f ≡ true) → (xs : List Fetch)
      → is_fetch_open kind view xs ≡ true
      → is_fetch_open kind view (filter keep xs) ≡ true
  open_kept keep each [] is = is
  open_kept keep each (x ∷ xs) is = by_test (open_kept keep each xs) (keep x) refl
      (or_cases (is_of kind view x) (is_fetch_open kind view xs) is)
    where
      by_test : (is_fetch_open kind view xs ≡ true → is_fetch_open kind view (filter keep xs) ≡ true) → (t : Bool)
          → keep x ≡ t
          → (is_of kind view x ≡ true) ⊎ (is_fetch_open kind view xs ≡ true)
          → is_fetch_open kind view (cond t (x ∷ filter keep xs) (filter keep xs)) ≡ true
      by_test rest true kept (inl this) = or_left (is_of kind view x) (is_fetch_open kind view (filter keep xs)) this
      by_test rest true kept (inr later) = or_right (is_of kind view x) (is_fetch_open kind view (filter keep xs))
          (rest later)
      by_test rest false kept (inl this) = absurd (false≢true (sym kept ∙ each x this))
      by_test rest false kept (inr later) = rest later

  -- what was open is so, once one is opened
  pub open_further : (k : FetchKind) (v first moment : ℕ) (xs : List Fetch) → is_fetch_open kind view xs ≡ true
      → is_fetch_open kind view (opened k v first moment xs) ≡ true
  open_further k v first moment xs is = by_test (is_fetch_open k v xs)
    where
      by_test : (t : Bool) → is_fetch_open kind view (cond t xs (xs ++ fresh k v first moment ∷ [])) ≡ true
      by_test true = is
      by_test false = open_more kind view xs (fresh k v first moment)
          ∙ or_left (is_fetch_open kind view xs) (is_of kind view (fresh k v first moment)) is

  -- and that one is
  pub open_now : (k : FetchKind) (v first moment : ℕ) (xs : List Fetch) → (same_kind k kind && v == view) ≡ true
      → is_fetch_open kind view (opened k v first moment xs) ≡ true
  open_now k v first moment xs this = by_test (is_fetch_open k v xs) refl
    where
      both : (k ≡ kind) × (v ≡ view)
      both = (
        kind_same k kind (and_parts (same_kind k kind) (v == view) this).0,
        eqb-true v view (and_parts (same_kind k kind) (v == view) this).1,
      )

      by_test : (t : Bool) → is_fetch_open k v xs ≡ t
          → is_fetch_open kind view (cond t xs (xs ++ fresh k v first moment ∷ [])) ≡ true
      by_test true is = subst (λ w. is_fetch_open kind w xs ≡ true) both.1
          (subst (λ it. is_fetch_open it v xs ≡ true) both.0 is)
      by_test false is = open_more kind view xs (fresh k v first moment)
          ∙ or_right (is_fetch_open kind view xs) (same_kind k kind && v == view) this

  pub open_fetched : (now : ℕ) (wanted : List CertificateFetch) (xs : List Fetch) → is_fetch_open kind view xs ≡ true
      → is_fetch_open kind view (fetching now wanted xs) ≡ true
  open_fetched now [] xs is = is
  open_fetched now (it ∷ wanted) xs is = open_fetched now wanted (opened fetch.Notarization it.view 0 now xs)
      (open_further fetch.Notarization it.view 0 now xs is)

  pub open_each : (S D K G C : Type 0) (now : ℕ) (wanted : List CertificateFetch) (xs : List Fetch)
      → list_any (is_missing_certificate {S = S} {D = D} {K = K} {G = G} {C = C} kind view)
      (map (λ (it : CertificateFetch). MissingCertificate fetch.Notarization it.view) wanted) ≡ true
      → is_fetch_open kind view (fetching now wanted xs) ≡ true
  open_each S D K G C now [] xs none = absurd (false≢true none)
  open_each S D K G C now (it ∷ wanted) xs is =
      elim (or_cases (same_kind fetch.Notarization kind && it.view == view) _ is) [
        | inl this ↦ open_fetched now wanted (opened fetch.Notarization it.view 0 now xs)
            (open_now fetch.Notarization it.view 0 now xs this)
        | inr later ↦ open_each S D K G C now wanted (opened fetch.Notarization it.view 0 now xs) later
      ]

  -- effects that do not end it
  pub open_past : (moment : ℕ) (e : Effect) (xs : List Fetch) → is_fetch_open kind view xs ≡ true
      → ends_fetch kind view e ≡ false → is_fetch_open kind view (after_effect moment e xs) ≡ true
  open_past moment (effect.Fetch v cause reason) xs is un = open_further fetch.Nullification v 0 moment xs is
  open_past moment (effect.Settled of start end) xs is un =
      open_kept (λ f. not (is_within (fetch_kind of) start end f)) (λ f here. outside f here) xs is
    where
      outside : (f : Fetch) → is_of kind view f ≡ true → not (is_within (fetch_kind of) start end f) ≡ true
      outside f here =
          let both = and_parts (same_kind f.kind kind) (f.view == view) here in
          ap not (ap (λ k. (same_kind k (fetch_kind of) && nat_le start f.view) && nat_le f.view end)
          (kind_same f.kind kind both.0)
          ∙ ap (λ v. (same_kind kind (fetch_kind of) && nat_le start v) && nat_le v end) (eqb-true f.view view both.1)
          ∙ ap (λ b. (b && nat_le start view) && nat_le view end) (turned kind (fetch_kind of)) ∙ un)
  open_past moment (effect.Finalized u) xs is un =
      open_kept (λ f. nat_lt u f.view) (λ f here.
      ap (nat_lt u) (eqb-true f.view view (and_parts (same_kind f.kind kind) (f.view == view) here).1)
      ∙ above u view un) xs is
    where
      above : (a b : ℕ) → nat_le b a ≡ false → nat_lt a b ≡ true
      above a b un = grind (arith, nat_tests, un)
  open_past moment (effect.Raised u) xs is un =
      open_kept (λ f. not (is_within fetch.Nullification 0 u f)) (λ f here. outside f here) xs is
    where
      from_zero : (v : ℕ) → nat_le 0 v ≡ true
      from_zero v = grind (arith, nat_tests)

      alike : (k : FetchKind) → same_kind k fetch.Nullification ≡ same_kind fetch.Nullification k
      alike fetch.Notarization = refl
      alike fetch.Nullification = refl
      alike fetch.Decision = refl

      dropped : (a b c : Bool) → b ≡ true → (a && c) ≡ false → ((a && b) && c) ≡ false
      dropped true true c is un = un
      dropped true false c is un = absurd (false≢true is)
      dropped false b c is un = refl

      outside : (f : Fetch) → is_of kind view f ≡ true → not (is_within fetch.Nullification 0 u f) ≡ true
      outside f here =
          let both = and_parts (same_kind f.kind kind) (f.view == view) here in
          ap not (ap (λ k. (same_kind k fetch.Nullification && nat_le 0 f.view) && nat_le f.view u)
          (kind_same f.kind kind both.0)
          ∙ ap (λ v. (same_kind kind fetch.Nullification && nat_le 0 v) && nat_le v u) (eqb-true f.view view both.1)
          ∙ dropped (same_kind kind fetch.Nullification) (nat_le 0 view) (nat_le view u) (from_zero view)
          (ap (λ b. b && nat_le view u) (alike kind) ∙ un))

  pub open_through : (moment : ℕ) (es : List Effect) (xs : List Fetch) → is_fetch_open kind view xs ≡ true
      → list_any (ends_fetch kind view) es ≡ false → is_fetch_open kind view (after_effects moment es xs) ≡ true
  open_through moment [] xs is un = is
  open_through moment (e ∷ es) xs is un =
      open_through moment es (after_effect moment e xs)
      (open_past moment e xs is (first_false (ends_fetch kind view e) (list_any (ends_fetch kind view) es) un))
      (last_false (ends_fetch kind view e) (list_any (ends_fetch kind view) es) un)
    where
      first_false : (a b : Bool) → (a || b) ≡ false → a ≡ false
      first_false true b is = absurd (false≢true (sym is))
      first_false false b is = refl

      last_false : (a b : Bool) → (a || b) ≡ false → b ≡ false
      last_false true b is = absurd (false≢true (sym is))
      last_false false b is = is

-- ---- a plan

module _ {S D K G C : Type 0} (kind : FetchKind) (view : ℕ) where
  -- it asks by an open fetch, or by a step
  pub asks_on : (old new : Plan S D K G C)
      → (is_fetch_open kind view old.repair.fetches.wanted.items ≡ true
      → is_fetch_open kind view new.repair.fetches.wanted.items ≡ true)
      → (list_any (is_resolve kind view) old.steps.items ≡ true
      → list_any (is_resolve kind view) new.steps.items ≡ true) → asks old kind view ≡ true
      → asks new kind view ≡ true
  asks_on old new opens steps is = elim (or_cases (is_fetch_open kind view old.repair.fetches.wanted.items)
      (list_any (is_resolve kind view) old.steps.items) is) [
        | inl before ↦ or_left (is_fetch_open kind view new.repair.fetches.wanted.items)
            (list_any (is_resolve kind view) new.steps.items) (opens before)
        | inr queued ↦ or_right (is_fetch_open kind view new.repair.fetches.wanted.items)
            (list_any (is_resolve kind view) new.steps.items) (steps queued)
      ]

  -- more steps are queued
  pub behind_steps : (more : List (Step S D K G C)) (old new : Plan S D K G C)
      → new.steps.items ≡ old.steps.items ++ more → list_any (is_resolve kind view) old.steps.items ≡ true
      → list_any (is_resolve kind view) new.steps.items ≡ true
  behind_steps more old new is queued = ap (list_any (is_resolve kind view)) is
      ∙ any_left (is_resolve kind view) old.steps.items more queued

  pub queued_more : (more : List (Step S D K G C)) (old new : Plan S D K G C)
      → new.steps.items ≡ old.steps.items ++ more → new.repair ≡ old.repair → asks old kind view ≡ true
      → asks new kind view ≡ true
  queued_more more old new steps repair is =
      asks_on old new (λ before. ap (λ (r : Repair). is_fetch_open kind view r.fetches.wanted.items) repair ∙ before)
      (behind_steps more old new steps) is

  pub planned_still : {more : List (Step S D K G C)} {old new : Plan S D K G C} → HasPlanned more old new
      → asks old kind view ≡ true → asks new kind view ≡ true
  planned_still {more = more} {old = old} {new = new} is =
      queued_more more old new is.steps (ap (λ (p : Plan S D K G C). p.repair) is.same)

  pub asks_same : {old new : Plan S D K G C} → new ≡ old → asks old kind view ≡ true → asks new kind view ≡ true
  asks_same is asked = ap (λ (p : Plan S D K G C). asks p kind view) is ∙ asked
