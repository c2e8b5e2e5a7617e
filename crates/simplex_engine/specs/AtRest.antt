-- Nothing is left to be done.
use Rattle.std.specs.Prelude.{◌≡◌, ◌⊎◌, ◌<◌, ℕ, Bool, List, [], ◌∷◌, Option, Some, None, IfOk, IfSome, IsNone, Result, Ok}
use Rattle.simplex_voter.specs.Facts.{Elect}
use Rattle.simplex_member.specs.declared.member.journal.Stored.{Stored}
use Rattle.simplex_engine.specs.declared.engine.Engine.{Engine}
use Rattle.engine_outbox.specs.declared.output.Output.{Output}
use Rattle.engine_outbox.specs.Continuity.{IsWhole}
use Rattle.engine_outbox.specs.RecordReach.{IsShort}
use Rattle.engine_planner.specs.PlanStates.{IsIdle, IsWake}
use Rattle.simplex_engine.specs.Bounds.{HoldsFromKept}
use Rattle.simplex_engine.specs.BuildBounds.{BuildsAhead}
use Rattle.simplex_engine.specs.MissingCertificates.{FetchesItsMissing}
use Rattle.simplex_engine.specs.NothingDue.{HasNothingNew}
use Rattle.simplex_engine.specs.Timeouts.{fetches_of, timeout_of, IsAwaited, WaitsForTimeout}

module _ {S L D K G C : Type 0} where
  -- the engine settled at this moment, and no input came since
  abbrev pub HasSettled : ℕ → Engine S L D K G C → Type 0
  HasSettled now engine = engine.settled_at ≡ Some now

  -- a moment lies before the one that `Engine::wake` returns
  abbrev pub IsBeforeWake : ℕ → Engine S L D K G C → Type 0
  IsBeforeWake now engine =
      (wake : ℕ) × IsWake (fetches_of engine).wanted.items (timeout_of engine) wake × (now < wake)

  -- a rest since one moment lasts at another: it is the same moment, or a later one before the wake
  abbrev pub RestLasts : ℕ → ℕ → Engine S L D K G C → Type 0
  RestLasts since now engine = (now ≡ since) ⊎ ((since < now) × IsBeforeWake now engine)

  -- the engine settled at a moment, no input came since, and the rest since then lasts at this moment
  pub record StaysSettled (now : ℕ) (engine : Engine S L D K G C) : Type 0 where
    pub since : ℕ
    pub settled : HasSettled since engine
    pub lasts : RestLasts since now engine

module _ {S L D K G C : Type 0} (same : D → D → Bool) (elect : Elect L) (bytes_of : C → List ℕ) where
  -- all that was due at this moment was done, except that outputs may be queued: all of the record was returned or is
  -- queued to be stored; the member has nothing new, and the engine waits for its next timeout; no step is planned, and
  -- no fetch is due; each block to build is of the current view and was asked for, or is of a later view; no vote of a
  -- view below the lowest retained one is stored; and exactly the missing certificates are fetched
  pub record IsSettled (now : ℕ) (engine : Engine S L D K G C) : Type 0 where
    pub whole : IsWhole bytes_of engine.core
    pub quiet : HasNothingNew same elect now engine.plan.timeout engine.core.member.facts
    pub timed : WaitsForTimeout same elect now engine
    pub idle : IsIdle now engine.plan
    pub ahead : BuildsAhead engine.core engine.plan
    pub lowest : HoldsFromKept engine.core engine.batcher
    pub missing : FetchesItsMissing engine.core engine.plan.repair

  -- besides, no output is queued
  pub record IsEngineAtRest (now : ℕ) (engine : Engine S L D K G C) : Type 0 where
    pub empty : engine.core.outbox.queue.items ≡ []
    pub settled : IsSettled now engine

  -- at rest since a moment, and that rest lasts at this one: the timeout that the member named then lies after this
  -- moment, no step is planned, and no fetch is due
  pub record IsStillAtRest (now : ℕ) (engine : Engine S L D K G C) : Type 0 where
    pub since : ℕ
    pub rest : IsEngineAtRest since engine
    pub lasts : RestLasts since now engine
    pub awaited : IsAwaited now (timeout_of engine) rest.settled.timed.1.answer
    pub idle : IsIdle now engine.plan

  -- where the engine stores the moment at which it settled, it is settled at that moment, and its record is short
  abbrev pub IsSettledAsStored : Engine S L D K G C → Type 0
  IsSettledAsStored engine =
      IfSome engine.settled_at
      (λ moment. IsSettled moment engine × IsShort engine.plan.options.long_record engine.core.member.facts)

-- an engine that looks for what is due at the next poll, whatever the moment
abbrev pub unsettled : {S L D K G C : Type 0} → Engine S L D K G C → Engine S L D K G C
unsettled engine = record engine { settled_at = None }

abbrev pub IsUnsettled : {S L D K G C : Type 0} → Engine S L D K G C → Type 0
IsUnsettled engine = engine.settled_at ≡ None

module _ {S L D K G C E : Type 0} where
  -- of these outputs the first one is returned, and the others stay queued; nothing else changes. Where there is none
  -- and nothing is returned, none is queued then
  abbrev pub ReturnsFirst : List (Output S D Stored K G C) → Result (Option (Output S D Stored K G C)) E
      → Engine S L D K G C → Engine S L D K G C → Type 0
  ReturnsFirst [] result old new = IfOk result (λ out. IsNone out → new.core.outbox.queue.items ≡ [])
  ReturnsFirst (first ∷ rest) result old new =
      (result ≡ Ok (Some first))
      × (new.core.outbox.queue.items ≡ rest)
      × (new.core.member ≡ old.core.member)
      × (new.batcher ≡ old.batcher)
      × (new.plan ≡ old.plan)
      × (new.settled_at ≡ old.settled_at)

  -- nothing is returned, and nothing changes
  pub record StaysAtRest (result : Result (Option (Output S D Stored K G C)) E) (old new : Engine S L D K G C)
      : Type 0 where
    pub nothing : result ≡ Ok None
    pub queue : new.core.outbox.queue.items ≡ []
    pub member : new.core.member ≡ old.core.member
    pub batcher : new.batcher ≡ old.batcher
    pub plan : new.plan ≡ old.plan
    pub settled_at : new.settled_at ≡ old.settled_at
