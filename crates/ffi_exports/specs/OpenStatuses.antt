-- What C receives for a start, a resume or a restart.
use Rattle.std.specs.Prelude.{◌≡◌, ◌⊎◌, ℕ, List, Option, Some, Result}
use Rattle.std.specs.Option.{IsSomeAnd}
use Rattle.ffi_exports.specs.declared.handles.EngineHandle.{EngineHandle}
use Rattle.ffi_exports.specs.declared.handles.MemberHandle.{MemberHandle}
use Rattle.ffi_exports.specs.declared.handles.ResolverHandle.{ResolverHandle}
use Rattle.ffi_member.specs.declared.flat.FlatSettings.{FlatSettings}
use Rattle.ffi_member.specs.declared.held.Held.{Held}
use Rattle.ffi_member.specs.declared.held.NotStarted.{NotStarted}
use Rattle.ffi_member.specs.declared.resumption.NotResumed.{NotResumed}
use Rattle.ffi_member.specs.declared.resolver_calls.HeldResolver.{HeldResolver}
use Rattle.ffi_member.specs.declared.resolver_calls.NotReplayed.{NotReplayed}
use Rattle.ffi_member.specs.declared.view_types.FlatRestart.{FlatRestart}
use Rattle.ffi_member.specs.declared.view_types.FlatStored.{FlatStored}
use Rattle.ffi_member.specs.Resumption.{IsNotResumedBy, IsRestartedBy, IsResumedBy}
use Rattle.ffi_member.specs.ResolverHandles.{IsReplayedFrom, IsNotReplayedFrom, not_replayed_number}
use Rattle.ffi_member.specs.MemberStart.{IsNotStarted, IsStarted}
use Rattle.ffi_member.specs.Statuses.{not_resumed_number, not_started_number, restart_number}
use Rattle.ffi_engine.specs.declared.begin.EngineNotStarted.{EngineNotStarted}
use Rattle.ffi_engine.specs.declared.held.HeldEngine.{HeldEngine}
use Rattle.ffi_engine.specs.declared.flat.FlatOptions.{FlatOptions}
use Rattle.ffi_engine.specs.EngineStarts.{IsEngineStarted, IsEngineNotStarted, IsEngineNotResumed, IsEngineResumed, engine_not_started_number}

-- the handle of this member was written, or there was no memory for it, and nothing was
abbrev pub IsWritten : Held → ℕ → MemberHandle → MemberHandle → Type 0
IsWritten held status old new = ((status ≡ 0) × (new.held ≡ Some held)) ⊎ ((status ≡ 1) × (new ≡ old))

abbrev pub IsResolverWritten : HeldResolver → ℕ → ResolverHandle → ResolverHandle → Type 0
IsResolverWritten held status old new = ((status ≡ 0) × (new.held ≡ Some held)) ⊎ ((status ≡ 1) × (new ≡ old))

abbrev pub IsEngineWritten : HeldEngine → ℕ → EngineHandle → EngineHandle → Type 0
IsEngineWritten held status old new = ((status ≡ 0) × (new.held ≡ Some held)) ⊎ ((status ≡ 1) × (new ≡ old))

-- the handle of the member that is started was written; or there was no memory for it, or the start is refused, and
-- nothing was
abbrev pub IsStartStatus : FlatSettings → List ℕ → List ℕ → ℕ → ℕ → MemberHandle → MemberHandle → Type 0
IsStartStatus f leaders bytes now status old new =
    ((status ≡ 0) × IsSomeAnd new.held (IsStarted f leaders bytes now))
    ⊎ ((status ≡ 1) × (new ≡ old))
    ⊎ ((e : NotStarted) × IsNotStarted f leaders bytes now e × (status ≡ not_started_number e) × (new ≡ old))

-- the handle of the member that resumes was written; or there was no memory for it, or the resume is refused, and
-- nothing was
abbrev pub IsResumeStatus : FlatSettings → List ℕ → List ℕ → ℕ → FlatStored → List ℕ → ℕ → MemberHandle
    → MemberHandle → Type 0
IsResumeStatus f leaders bytes now beside journal status old new =
    ((status ≡ 0) × IsSomeAnd new.held (IsResumedBy f leaders bytes now beside journal))
    ⊎ ((status ≡ 1) × (new ≡ old))
    ⊎ ((e : NotResumed) × IsNotResumedBy f leaders bytes now beside journal e
    × (status ≡ not_resumed_number e) × (new ≡ old))

-- the member is restarted, or that is refused
abbrev pub IsRestartStatus : Held → FlatRestart → List ℕ → List ℕ → ℕ → Held → Type 0
IsRestartStatus old f leaders bytes status new =
    (result : Result (Unit {0}) NotStarted) × IsRestartedBy old f leaders bytes result new
    × (status ≡ restart_number result)

-- the handle of the resolver was written; or there was no memory for it, or none starts, and nothing was
abbrev pub IsReplayStatus : ℕ → List ℕ → ℕ → ResolverHandle → ResolverHandle → Type 0
IsReplayStatus term_length journal status old new =
    ((status ≡ 0) × IsSomeAnd new.held (IsReplayedFrom term_length journal))
    ⊎ ((status ≡ 1) × (new ≡ old))
    ⊎ ((e : NotReplayed) × IsNotReplayedFrom term_length journal e × (status ≡ not_replayed_number e) × (new ≡ old))

-- the handle of the engine that begins was written; or there was no memory for it, or the start is refused, and nothing
-- was
abbrev pub IsStartedStatus : FlatSettings → List ℕ → List ℕ → FlatOptions → ℕ → ℕ → EngineHandle → EngineHandle → Type 0
IsStartedStatus f leaders bytes options now status old new =
    ((status ≡ 0) × IsSomeAnd new.held (IsEngineStarted f leaders bytes options now))
    ⊎ ((status ≡ 1) × (new ≡ old))
    ⊎ ((e : EngineNotStarted) × IsEngineNotStarted f leaders bytes options now e
    × (status ≡ engine_not_started_number e) × (new ≡ old))

-- the handle of the engine that resumes was written; or there was no memory for it, or the resume is refused, and
-- nothing was
abbrev pub IsResumptionStatus : FlatSettings → List ℕ → List ℕ → FlatOptions → ℕ → FlatStored → List ℕ → ℕ
    → EngineHandle → EngineHandle
    → Type 0
IsResumptionStatus f leaders bytes options now beside journal status old new =
    ((status ≡ 0) × IsSomeAnd new.held (IsEngineResumed f leaders bytes options now beside journal))
    ⊎ ((status ≡ 1) × (new ≡ old))
    ⊎ ((e : EngineNotStarted) × IsEngineNotResumed f leaders bytes options now beside journal e
    × (status ≡ engine_not_started_number e) × (new ≡ old))
