-- The calls of a process, with what the engine's contract says of its work and of its rest.
use Rattle.std.specs.Prelude.{◌≡◌, ℕ, Bool, false, List, [], ◌∷◌, ◌++◌}
use Rattle.simplex_types.specs.declared.types.messages.Subject.{Subject}
use Rattle.simplex_voter.specs.Facts.{Elect}
use Rattle.simplex_member.specs.declared.member.journal.Stored.{Stored}
use Rattle.engine_fetches.specs.declared.fetches.FetchKind.{FetchKind}
use Rattle.engine_outbox.specs.declared.output.Output.{Output}
use Rattle.engine_outbox.specs.declared.output.Work.{Work}
use Rattle.engine_outbox.specs.Continuity.{has_failed, IsJournaled, HasReturned}
use Rattle.engine_outbox.specs.Outputs.{work_in}
use Rattle.engine_planner.specs.Causes.{Cause}
use Rattle.engine_planner.specs.PlannedWork.{AreAmong}
use Rattle.simplex_engine.specs.ApplicationWork.{work_ahead, HasReportedAll}
use Rattle.simplex_engine.specs.AtRest.{IsEngineAtRest, IsSettledAsStored, IsUnsettled}
use Rattle.simplex_engine.specs.Provenance.{IsCaused}
use Rattle.simplex_engine.specs.declared.engine.Engine.{Engine}
use Rattle.laws_hosts.specs.EngineCalls.{EngineCall, Handled, Polled}
use Rattle.laws_hosts.specs.Processes.{Process}
use Rattle.laws_rounds.specs.Deliveries.{IsLifetimeCall}

module _ {S D K G C : Type 0} where
  -- the outputs that a call returned
  abbrev pub returned_by : EngineCall S D K G C → List (Output S D Stored K G C)
  returned_by (Handled _) = []
  returned_by (Polled outs) = outs

  -- the work among them
  abbrev pub work_returned : EngineCall S D K G C → List (Work S D K G C)
  work_returned call = work_in (returned_by call)

-- an engine begins, by the clauses `kept`, `due_work` and `begun` of `start` and `resume`: nothing was returned, the
-- application is asked for nothing, and the engine looks for what is due at the first poll
pub record HasBegun {S L D K G C : Type 0} (bytes_of : C → List ℕ) (engine : Engine S L D K G C) : Type 0 where
  pub kept : IsJournaled bytes_of [] engine.core
  pub reported : HasReportedAll [] engine
  pub unsettled : IsUnsettled engine

module _ {S L D K G C : Type 0} (same : D → D → Bool) (elect : Elect L) (bytes : D → List ℕ)
    (bytes_of : C → List ℕ) where
  -- a call that does not fail, by the clauses `provenance`, `due_work` and `works`: the work that the member's replies
  -- ask for was returned or is ahead, and so is what was ahead, and what the application must receive
  pub record DoesItsWork (call : EngineCall S D K G C) (old new : Engine S L D K G C) : Type 0 where
    pub now : ℕ
    pub came : List (Cause S D K G C)
    pub held : FetchKind → ℕ → Bool
    pub caused : IsCaused same elect bytes bytes_of now came (work_returned call) held old new
    pub ahead : AreAmong (work_ahead old) (work_returned call ++ work_ahead new)
    pub reports : (given : List (Output S D Stored K G C)) → HasReportedAll given old
        → HasReportedAll (given ++ returned_by call) new

module _ {S L D K G C : Type 0} (same : D → D → Bool) (elect : Elect L) (bytes_of : C → List ℕ) where
  -- a call that does not fail, by the clauses `to_settle`, `given`, `settled` and `rest`: after a poll that returned
  -- nothing the engine is at rest
  pub record SettlesIfDone (call : EngineCall S D K G C) (old new : Engine S L D K G C) : Type 0 where
    pub journaled : HasReturned bytes_of (returned_by call) old.core new.core
    pub settled : (given : List (Output S D Stored K G C)) → IsJournaled bytes_of given old.core
        → IsSettledAsStored same elect bytes_of old → IsSettledAsStored same elect bytes_of new
    pub rest : IsSettledAsStored same elect bytes_of old → call ≡ Polled []
        → (now : ℕ) × IsEngineAtRest same elect bytes_of now new

module _ {S L D K G C : Type 0} (same : D → D → Bool) (elect : Elect L) (bytes : D → List ℕ) (bytes_of : C → List ℕ)
    (is_signature : K → Subject D → G → Type 0) (keys_of : S → List K) where
  -- an engine before and after a call, whatever that returned; besides, what these clauses say, unless it has failed
  pub record IsWorkingCall (call : EngineCall S D K G C) (old new : Engine S L D K G C) : Type 0 where
    pub lifetime : IsLifetimeCall same elect bytes_of is_signature keys_of call old new
    pub works : has_failed new.core ≡ false → DoesItsWork same elect bytes bytes_of call old new
    pub settles : has_failed new.core ≡ false → SettlesIfDone same elect bytes_of call old new

  -- the same for these calls, one after another
  abbrev pub AreWorkingCalls : List (EngineCall S D K G C) → Engine S L D K G C → Engine S L D K G C → Type 0
  AreWorkingCalls [] first last = last ≡ first
  AreWorkingCalls (call ∷ rest) first last =
      (next : Engine S L D K G C) × IsWorkingCall call first next × AreWorkingCalls rest next last

  -- a process whose engine has begun and made these calls
  pub record IsEngineRun (process : Process S L D K G C) : Type 0 where
    pub begun : HasBegun bytes_of process.first
    pub calls : AreWorkingCalls process.calls process.first process.last
