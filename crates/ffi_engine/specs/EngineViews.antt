-- What the host can read of an engine behind a handle beside its outputs.
use Rattle.std.specs.Prelude.{◌≡◌, ◌||◌, ℕ, Bool, zero, suc, length, slice_get, MatchOption, if◌then◌else◌}
use Rattle.engine_fetches.specs.declared.fetches.Fetch.{Fetch}
use Rattle.engine_outbox.specs.Continuity.{has_failed}
use Rattle.engine_planner.specs.PlanStates.{IsWake}
use Rattle.ffi_member.specs.declared.resolver_types.FlatServed.{FlatServed}
use Rattle.ffi_member.specs.declared.view_types.FlatChunk.{FlatChunk}
use Rattle.ffi_member.specs.declared.view_types.FlatFound.{FlatFound}
use Rattle.ffi_member.specs.declared.view_types.FlatView.{FlatView}
use Rattle.ffi_member.specs.declared.view_types.FlatWithheld.{FlatWithheld}
use Rattle.ffi_member.specs.ResolverHandles.{HasServedOf}
use Rattle.ffi_member.specs.ShownFacts.{HasAnsweredIn, IsChunk, IsViewIn}
use Rattle.ffi_member.specs.Withheld.{IsWithheldIn}
use Rattle.ffi_engine.specs.declared.held.HeldEngine.{HeldEngine}
use Rattle.ffi_engine.specs.declared.flat.FlatOpen.{FlatOpen}
use Rattle.ffi_engine.specs.declared.flat.FlatStatus.{FlatStatus}
use Rattle.ffi_engine.specs.EngineHandles.{first_bytes, second_bytes}
use Rattle.ffi_engine.specs.Outputs.{fetch_number}

-- a part of the bytes of the last output, of the second signature of two, or of what was loaded last
abbrev pub ShowsChunk : HeldEngine → ℕ → ℕ → FlatChunk → Type 0
ShowsChunk held zero from r = IsChunk (first_bytes held) from r
ShowsChunk held (suc zero) from r = IsChunk (second_bytes held) from r
ShowsChunk held (suc (suc _)) from r = IsChunk held.shown.items from r

-- it has lost something, or it has failed, or its member has
abbrev pub is_failed : HeldEngine → Bool
is_failed held = held.is_lost || has_failed held.engine.core

-- the status of an engine
pub record ShowsStatus (held : HeldEngine) (r : FlatStatus) : Type 0 where
  pub status : r.status ≡ (if is_failed held then 2 else 0)
  pub wake : IsWake held.engine.plan.repair.fetches.wanted.items held.engine.plan.timeout r.wake
  pub ignored : r.ignored ≡ held.engine.plan.ignored
  pub fetches : r.fetches ≡ length held.engine.plan.repair.fetches.wanted.items

-- a fetch has these numbers
pub record IsOpenAs (f : Fetch) (r : FlatOpen) : Type 0 where
  pub fetched : r.fetch ≡ fetch_number f.kind
  pub view : r.view ≡ f.view
  pub count : r.count ≡ f.count
  pub moment : r.moment ≡ f.moment

-- there is no such open fetch, or this one
abbrev pub ShowsOpenFetch : HeldEngine → ℕ → FlatOpen → Type 0
ShowsOpenFetch held index r =
    (r.status ≡ 0) × MatchOption (slice_get held.engine.plan.repair.fetches.wanted.items index) (r.fetch ≡ 0)
    (λ f. IsOpenAs f r)

-- what the member knows of a view
abbrev pub ShowsView : HeldEngine → ℕ → FlatView → Type 0
ShowsView held view r = IsViewIn held.engine.core.member.facts.life view r

-- why the member withholds a vote
abbrev pub ShowsWithheld : HeldEngine → ℕ → ℕ → FlatWithheld → Type 0
ShowsWithheld held kind view r = IsWithheldIn held.engine.core.member.facts.life kind view r

-- how a view's certificate is loaded
pub record ShowsFound (old : HeldEngine) (kind view : ℕ) (r : FlatFound) (new : HeldEngine) : Type 0 where
  pub answered : HasAnsweredIn old.engine.core.member.facts.life kind view r new.shown.items
  pub bytes : r.bytes ≡ length new.shown.items
  pub rest : new ≡ record old { shown = new.shown }

-- how the data that a peer is served for a view is loaded
pub record ShowsServed (old : HeldEngine) (view : ℕ) (r : FlatServed) (new : HeldEngine) : Type 0 where
  pub of_view : r.view ≡ view
  pub served : HasServedOf old.engine.plan.repair.resolver.state view r new.shown.items
  pub rest : new ≡ record old { shown = new.shown }
