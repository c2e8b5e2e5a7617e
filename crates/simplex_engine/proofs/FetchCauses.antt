-- For the code of the engine. What a plan asks for, and what it has at hand, once fetches are opened or closed.
use Rattle.std.proofs.Common.{◌≡◌, ◌∙◌, ap, ℕ, Bool, [], ◌∷◌, ◌++◌, filter, refl, Result, Ok, Err}
use Rattle.std.specs.Prelude.{IfErr, OnErr, OnOk}
use Rattle.simplex_types.specs.declared.types.fault.Fault.{Fault}
use Rattle.simplex_types.specs.declared.types.fault.Fault.TheVariants.{Failed}
use Rattle.simplex_resolver.specs.CallHistory.{LawfulResolverFacts}
use Rattle.engine_fetches.specs.declared.fetches.Fetch.{Fetch}
use Rattle.engine_fetches.specs.declared.fetches.FetchKind.{FetchKind}
use Rattle.engine_fetches.specs.Fetches.{opened}
use Rattle.engine_fetches.specs.Repairs.{HasFetches, HasPassed}
use Rattle.engine_planner.specs.declared.plan.Plan.{Plan}
use Rattle.engine_planner.specs.AskedFetches.{AsksNoPeer}
use Rattle.engine_planner.specs.Causes.{MissingCertificate, of_fetches, planned_causes}
use Rattle.engine_planner.specs.FetchRequests.{never, KeepsFetching}
use Rattle.engine_planner.specs.PlannedWork.{AreAmong}
use Rattle.engine_planner.proofs.AskedFetches.{asks_none_wider}
use Rattle.engine_planner.proofs.AskedSteps.{keeps_asking, AsksOn}
use Rattle.engine_planner.proofs.Causes.{closes_some, opens_one, same_plan}
use Rattle.engine_planner.proofs.GivenWork.{repaired_alone}
use Rattle.engine_planner.proofs.PlannedWork.{among_all, among_further, among_more}

module _ {S D K G C : Type 0} where
  -- no step is left, so no peer is asked
  pub asks_none : {old new : Plan S D K G C} {over : FetchKind → ℕ → Bool} → AsksOn [] old new
      → AsksNoPeer never old.repair.fetches new.repair.fetches → KeepsFetching [] over [] old new
  asks_none {over = over} is unasked = keeps_asking over is.0 (λ kind view asked un. is.1 kind view asked)
      (asks_none_wider (λ kind view un. refl) unasked)

  pub resolved : {X E : Type 0} (r : Result X E) (kind : FetchKind) (view first moment : ℕ) (old new : Plan S D K G C)
      → new ≡ record old { repair = new.repair }
      → OnOk r (HasFetches (opened kind view first moment old.repair.fetches.wanted.items) old.repair new.repair)
      → OnErr r (HasFetches old.repair.fetches.wanted.items old.repair new.repair)
      → AreAmong (planned_causes new) (planned_causes old ++ MissingCertificate kind view ∷ [])
  resolved (Ok x) kind view first moment old new is opens refused = opens_one kind view first moment is opens
  resolved (Err e) kind view first moment old new is opens refused =
      among_further (repaired_alone old new is
      (among_all (ap (of_fetches new.repair.resolver.open_fetches) refused.fetches_now
      ∙ ap (λ (r : LawfulResolverFacts). of_fetches r.open_fetches old.repair.fetches.wanted.items)
      refused.resolver)))
      (among_more (planned_causes old) (MissingCertificate kind view ∷ []))

  pub drops_fetches : {X : Type 0} (r : Result X Fault) (finalized : ℕ) (keep : Fetch → Bool) (old new : Plan S D K G C)
      → new ≡ record old { repair = new.repair }
      → OnOk r (HasPassed finalized (filter keep old.repair.fetches.wanted.items) old.repair new.repair)
      → IfErr r (λ fault. (fault ≡ Failed) × (new ≡ old))
      → AreAmong (planned_causes new) (planned_causes old)
  drops_fetches (Ok x) finalized keep old new is passes refused = closes_some keep is passes
  drops_fetches (Err e) finalized keep old new is passes refused = same_plan refused.1
