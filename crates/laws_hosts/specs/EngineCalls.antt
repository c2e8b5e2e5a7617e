-- The calls that a host makes of an engine, as the engine's contract describes them.
use Rattle.std.specs.Prelude.{◌≡◌, ℕ, Bool, List, [], ◌∷◌, ◌++◌, length, None}
use Rattle.simplex_types.specs.declared.types.messages.Subject.{Subject}
use Rattle.simplex_voter.specs.Facts.{Elect}
use Rattle.simplex_member.specs.declared.member.journal.Stored.{Stored}
use Rattle.engine_outbox.specs.declared.output.Output.{Output}
use Rattle.engine_outbox.specs.Continuity.{Continues, EmitsOn}
use Rattle.simplex_engine.specs.declared.engine.Engine.{Engine}
use Rattle.simplex_engine.specs.declared.input.Input.{Input}
use Rattle.simplex_engine.specs.Inputs.{subject_in}
use Rattle.simplex_engine.specs.CertificateVotes.{votes_of_input, TakesVotes, TakesNone, IsBackedInput}

-- a call of an engine: an input was passed, or the engine was polled and returned these outputs, at most one
pub data EngineCall (S D K G C : Type 0) : Type 0 where
  Handled : Input S D K G C → EngineCall S D K G C
  Polled : List (Output S D Stored K G C) → EngineCall S D K G C

-- the outputs that calls returned, in order
abbrev pub outputs_of : {S D K G C : Type 0} → List (EngineCall S D K G C) → List (Output S D Stored K G C)
outputs_of [] = []
outputs_of (Handled _ ∷ rest) = outputs_of rest
outputs_of (Polled outs ∷ rest) = outs ++ outputs_of rest

module _ {S L D K G C : Type 0} (same : D → D → Bool) (elect : Elect L) (bytes_of : C → List ℕ)
    (is_signature : K → Subject D → G → Type 0) (keys_of : S → List K) where
  -- an engine before and after `handle`: its clauses `continues`, `votes` and `backed`
  pub record IsHandled (passed : Input S D K G C) (old new : Engine S L D K G C) : Type 0 where
    pub continues : Continues same elect bytes_of is_signature (subject_in bytes_of passed) old.core new.core
    pub votes : TakesVotes (votes_of_input passed) old.batcher new.batcher
    pub backed : IsBackedInput same elect bytes_of is_signature (length (keys_of old.batcher.scheme)) passed old.batcher
        old.core new.core

  -- an engine before and after `poll`: its clauses `traced` and `votes`
  pub record IsPolled (outs : List (Output S D Stored K G C)) (old new : Engine S L D K G C) : Type 0 where
    pub traced : EmitsOn same elect bytes_of is_signature None outs old.core new.core
    pub votes : TakesNone old.batcher new.batcher

  -- an engine before and after a call, whatever the call returned
  abbrev pub IsEngineCall : EngineCall S D K G C → Engine S L D K G C → Engine S L D K G C → Type 0
  IsEngineCall (Handled passed) old new = IsHandled passed old new
  IsEngineCall (Polled outs) old new = IsPolled outs old new

  -- an engine before and after these calls, one after another
  abbrev pub AreEngineCalls : List (EngineCall S D K G C) → Engine S L D K G C → Engine S L D K G C → Type 0
  AreEngineCalls [] first last = last ≡ first
  AreEngineCalls (call ∷ rest) first last =
      (next : Engine S L D K G C) × IsEngineCall call first next × AreEngineCalls rest next last
