-- That an engine asks for no view above all that its member has heard of.
use Rattle.std.proofs.Common.{◌≡◌, refl, sym, ◌∙◌, subst, ℕ, ◌≤◌, inl, inr, Bool, true, false, ◌||◌, List, [], ◌∷◌, ◌++◌, Contains, nat_lt, Option, Some, None, arith, eqb, if◌then◌else◌}
use Rattle.std.specs.Prelude.{IfSome}
use Rattle.std.specs.List.{list_any, AllByRecursion}
use Rattle.std.proofs.lemmas.Bool.{false≢true, or_cases, eq-eqb, eqb-true, or_right}
use Rattle.std.proofs.lemmas.Bool.Decides.{nat_tests}
use Rattle.simplex_types.specs.Certificates.{CertificateFacts, Accepted, Notarized, Nullified, Finalized}
use Rattle.simplex_voter.specs.Facts.{StateFacts, Elect}
use Rattle.simplex_resolver.specs.Repair.{has}
use Rattle.simplex_resolver.specs.Steps.{Call}
use Rattle.simplex_resolver.specs.CallHistory.{LawfulResolverFacts}
use Rattle.laws_safety.specs.MemberHistory.{HasHistory}
use Rattle.laws_safety.specs.Traces.{TraceEvent}
use Rattle.engine_fetches.specs.declared.fetches.Fetch.{Fetch}
use Rattle.engine_fetches.specs.declared.fetches.FetchKind.{FetchKind}
use Rattle.engine_fetches.specs.declared.fetches.FetchKind.TheVariants.{Nullification}
use Rattle.engine_fetches.specs.Fetches.{fresh, is_fetch_open, opened}
use Rattle.engine_fetches.specs.OutstandingFetches.{wanting}
use Rattle.engine_outbox.specs.declared.output.Work.{Work}
use Rattle.engine_planner.specs.declared.plan.Step.{Step}
use Rattle.engine_planner.specs.declared.plan.Step.TheVariants as step
use Rattle.engine_planner.specs.FetchRequests.{asks as asks_of, ended_by, AreMade, with_missing_certificate}
use Rattle.engine_planner.specs.Causes.{Cause, of_works}
use Rattle.engine_planner.specs.declared.plan.Options.{Options}
use Rattle.simplex_engine.specs.declared.engine.Engine.{Engine}
use Rattle.simplex_engine.specs.EngineStart.{HasStartedWith}
use Rattle.simplex_engine.specs.Provenance.{is_final, pending_causes, received_in, IsCaused, HasNoMissingCertificate}
use Rattle.simplex_engine.specs.FetchHeights.{highest_received, resolves_above, FetchesUpTo, FetchesTheReported}
use Rattle.simplex_engine.proofs.fetch_heights.AtHand.{lacks_above, hand_asks, hand_low, none_both, none_lacks}
use Rattle.simplex_engine.proofs.Tests.{not_or}
use Rattle.simplex_engine.proofs.fetch_heights.Resolvers.{view_of_certificate, IsUpTo, begun_up_to, made_up_to}
use Rattle.simplex_engine.proofs.fetch_heights.Records.{among_greatest}
use Rattle.simplex_engine.proofs.fetch_heights.Replies.{IsLow}
use Rattle.simplex_engine.proofs.fetch_heights.Steps.{climbs, dead_stays, some_none}

any_higher : {A : Type 0} (view_of : A → ℕ) (low high : ℕ) → low ≤ high → (items : List A)
    → list_any (λ a. nat_lt low (view_of a)) items ≡ false → list_any (λ a. nat_lt high (view_of a)) items ≡ false
any_higher view_of low high up [] none = refl
any_higher view_of low high up (a ∷ items) none =
    let parts = not_or (nat_lt low (view_of a)) (list_any (λ b. nat_lt low (view_of b)) items) none in
    let first = parts.0 in
    let here : nat_lt high (view_of a) ≡ false = grind (arith, nat_tests, first, up) in
    rw here (any_higher view_of low high up items parts.1)

module _ {S D K G C : Type 0} where
  step_higher : (low high : ℕ) → low ≤ high → (it : Step S D K G C) → resolves_above low it ≡ false
      → resolves_above high it ≡ false
  step_higher low high up (step.Resolve kind view proposal) none = grind (arith, nat_tests, none, up)
  step_higher low high up (step.Ask asked) none = refl
  step_higher low high up (step.Offer from proposal) none = refl
  step_higher low high up (step.Repeat view) none = refl
  step_higher low high up (step.Push work) none = refl

  steps_higher : (low high : ℕ) → low ≤ high → (steps : List (Step S D K G C))
      → list_any (resolves_above low) steps ≡ false → list_any (resolves_above high) steps ≡ false
  steps_higher low high up [] none = refl
  steps_higher low high up (it ∷ steps) none =
      let parts = not_or (resolves_above low it) (list_any (resolves_above low) steps) none in
      rw (step_higher low high up it parts.0) (steps_higher low high up steps parts.1)

-- views that a resolver wants

wanted_low : (top : ℕ) (views : List ℕ) → ((v : ℕ) → has views v ≡ true → v ≤ top) → list_any (nat_lt top) views ≡ false
wanted_low top [] low = refl
wanted_low top (v ∷ views) low =
    let first : v ≤ top = low v (rw (eq-eqb v v refl) refl) in
    let here : nat_lt top v ≡ false = grind (arith, nat_tests, first) in
    rw here (wanted_low top views (λ w among. low w (or_right (eqb w v) (has views w) among)))

low_wanted : (top : ℕ) (views : List ℕ) → list_any (nat_lt top) views ≡ false → (v : ℕ) → has views v ≡ true → v ≤ top
low_wanted top [] none v among = absurd (false≢true among)
low_wanted top (w ∷ views) none v among =
    let parts = not_or (nat_lt top w) (list_any (nat_lt top) views) none in
    let first = parts.0 in
    elim (or_cases (eqb v w) (has views v) among) [
      | inl here ↦ (let at = eqb-true v w here in let under : w ≤ top = grind (arith, nat_tests, first) in
          omega (arith, at, under))
      | inr later ↦ low_wanted top views parts.1 v later
    ]

made_all : (top : ℕ) (calls : List Call) (r left : LawfulResolverFacts) → AllByRecursion (IsLow top) calls
    → IsUpTo top r → AreMade r calls left → IsUpTo top left
made_all top [] r left low is made = subst (IsUpTo top) (sym made) is
made_all top (call ∷ rest) r left (here, low) is (next, is_made, made) =
    made_all top rest next left low (made_up_to top call r next here.lives here.view is is_made) made

module _ {S L D K G C : Type 0} (same : D → D → Bool) (decides : (d e : D) → same d e ≡ true → d ≡ e)
    (itself : (d : D) → same d d ≡ true) (elect : Elect L) (bytes : D → List ℕ)
    (bytes_of : C → List ℕ) (now : ℕ) (term_length i : ℕ) (all : List (TraceEvent D)) where
  pub no_higher : {came : List (Cause S D K G C)} {out : List (Work S D K G C)} {held : FetchKind → ℕ → Bool}
      {a b : Engine S L D K G C} → HasHistory same elect term_length i all a.core.member.facts
      → HasNoMissingCertificate came → IsCaused same elect bytes bytes_of now came out held a b → FetchesTheReported a
      → FetchesTheReported b
  no_higher {came = came} {out = out} {held = held} {a = a} {b = b} done no_lack provenance asks =
      by_lives a.core.member.facts.life b.core.member.facts.life refl refl asks
    where
      over : FetchKind → ℕ → Bool
      over kind view = held kind view || (is_final b.core.member.facts view || ended_by a.plan.repair.resolver.state
          (received_in bytes bytes_of provenance.steps) kind view)

      by_lives : (old new : Option (StateFacts K L D)) → a.core.member.facts.life ≡ old → b.core.member.facts.life ≡ new
          → IfSome old (λ x. FetchesUpTo (highest_received a.core.member.facts x) a.plan)
          → IfSome new (λ x. FetchesUpTo (highest_received b.core.member.facts x) b.plan)
      by_lives old None was is asks = tt
      by_lives None (Some y) was is asks =
          absurd (some_none y (sym (dead_stays same elect bytes bytes_of now (asks_of b.plan) over provenance.steps
          (came ++ pending_causes a) (of_works out ++ pending_causes b)
          (with_missing_certificate (asks_of a.plan) came)
          a.core.member.facts b.core.member.facts was provenance.by_steps) ∙ is))
      by_lives (Some x) (Some y) was is asks =
          let goes = climbs same elect bytes bytes_of now (asks_of b.plan) over decides itself term_length i
          provenance.steps (came ++ pending_causes a) (of_works out ++ pending_causes b)
          (with_missing_certificate (asks_of a.plan) came)
          a.core.member.facts b.core.member.facts all done x y was is provenance.by_steps in
          let top : ℕ = highest_received b.core.member.facts y in
          let low : ℕ = highest_received a.core.member.facts x in
          let up = goes.up in
          let received = asks.received in
          let resolver = made_all top (received_in bytes bytes_of provenance.steps) a.plan.repair.resolver
          b.plan.repair.resolver goes.received
          (record {
            received = omega (arith, up, received);
            wanted = low_wanted top a.plan.repair.resolver.open_fetches
                (any_higher (λ v. v) low top up a.plan.repair.resolver.open_fetches asks.wanted);
          })
          provenance.received in
          let wanted = wanted_low top b.plan.repair.resolver.open_fetches resolver.wanted in
          let before = hand_low top a (any_higher (λ (fetch : Fetch). fetch.view) low top up
          a.plan.repair.fetches.wanted.items asks.asked) (steps_higher low top up a.plan.steps.items asks.planned)
          in
          let behind = hand_asks top out b wanted
          (goes.low (none_both (lacks_above top) came (pending_causes a) (none_lacks top came no_lack) before)) in
          record { asked = behind.0; planned = behind.1; wanted = wanted; received = resolver.received }

-- where it begins

module _ (top : ℕ) where
  opened_low : (v : ℕ) (fetches : List Fetch) → v ≤ top → list_any (λ fetch. nat_lt top fetch.view) fetches ≡ false
      → list_any (λ fetch. nat_lt top fetch.view) (opened Nullification v 0 0 fetches) ≡ false
  opened_low v fetches low none = by_open (is_fetch_open Nullification v fetches)
    where
      by_open : (b : Bool) → list_any (λ (fetch : Fetch). nat_lt top fetch.view)
          (if b then fetches else fetches ++ fresh Nullification v 0 0 ∷ []) ≡ false
      by_open true = none
      by_open false = none_both (λ (fetch : Fetch). nat_lt top fetch.view) fetches (fresh Nullification v 0 0 ∷ []) none
          (let here : nat_lt top v ≡ false = grind (arith, nat_tests, low) in rw here refl)

  wanting_low : (views : List ℕ) (fetches : List Fetch) → ((v : ℕ) → has views v ≡ true → v ≤ top)
      → list_any (λ fetch. nat_lt top fetch.view) fetches ≡ false
      → list_any (λ fetch. nat_lt top fetch.view) (wanting views fetches) ≡ false
  wanting_low [] fetches low none = none
  wanting_low (v ∷ views) fetches low none =
      wanting_low views (opened Nullification v 0 0 fetches) (λ w among. low w (or_right (eqb w v) (has views w) among))
      (opened_low v fetches (low v (rw (eq-eqb v v refl) refl)) none)

module _ {S L D K G C : Type 0} (bytes : D → List ℕ) (keys_of : S → List K) (keys : List K) (me : Option ℕ)
    (term_length : ℕ) (options : Options) where
  pub heights_begun : (engine : Engine S L D K G C) → HasStartedWith bytes keys_of keys me term_length options engine
      → FetchesTheReported engine
  heights_begun engine begun = by_life engine.core.member.facts.life
    where
      by_life : (life : Option (StateFacts K L D))
          → IfSome life (λ x. FetchesUpTo (highest_received engine.core.member.facts x) engine.plan)
      by_life None = tt
      by_life (Some x) =
          let top : ℕ = highest_received engine.core.member.facts x in
          let repair = begun.plan.repair in
          let is = begun_up_to bytes top term_length engine.core.member.facts.entries engine.plan.repair.resolver
          repair.received accepted_low in
          record {
            asked = subst (λ fetches. list_any (λ (fetch : Fetch). nat_lt top fetch.view) fetches ≡ false)
                (sym repair.fetched) (wanting_low top engine.plan.repair.resolver.open_fetches [] is.wanted refl);
            planned = rw begun.plan.nothing.0 refl;
            wanted = wanted_low top engine.plan.repair.resolver.open_fetches is.wanted;
            received = is.received;
          }
        where
          accepted_low : (c : CertificateFacts D) → Contains engine.core.member.facts.entries (Accepted c)
              → view_of_certificate c ≤ highest_received engine.core.member.facts x
          accepted_low (Notarized c) there = (let below =
              among_greatest engine.core.member.facts.entries (Accepted (Notarized c)) there in omega (arith, below))
          accepted_low (Nullified c) there = (let below =
              among_greatest engine.core.member.facts.entries (Accepted (Nullified c)) there in omega (arith, below))
          accepted_low (Finalized c) there = (let below =
              among_greatest engine.core.member.facts.entries (Accepted (Finalized c)) there in omega (arith, below))
