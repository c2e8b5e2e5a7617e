-- The effect of an input.
use Rattle.std.specs.Prelude.{◌≡◌, ℕ, Bool, List, length, Result, IfOk, OnOk, IsTrue, IsFalse, if◌then◌else◌}
use Rattle.simplex_types.specs.declared.types.messages.Subject.{Subject}
use Rattle.simplex_voter.specs.Facts.{Elect}
use Rattle.simplex_engine.specs.declared.engine.Engine.{Engine}
use Rattle.simplex_engine.specs.declared.input.Input.{Input}
use Rattle.simplex_engine.specs.InputEffects.{IsActedOn}
use Rattle.simplex_engine.specs.Admission.{is_input_admitted, IsTurnedAway}
use Rattle.simplex_engine.specs.CertificateVotes.{votes_of_input, KeepsVotes, TakesVotes, IsBackedInput}
use Rattle.simplex_engine.specs.Bounds.{StaysBounded}
use Rattle.simplex_engine.specs.Provenance.{input_causes, IsCausedWith}
use Rattle.simplex_engine.specs.DroppedInputs.{IsDropped}
use Rattle.simplex_engine.specs.ApplicationWork.{KeepsReports}
use Rattle.engine_outbox.specs.Continuity.{Continues}
use Rattle.simplex_engine.specs.Inputs.{subject_in}

-- what `Engine::handle` says of an engine before and after, by its result; an input that is not admitted leaves it as
-- `passed`
pub record IsInputTaken {S L D K G C E : Type 0} (same : D → D → Bool) (elect : Elect L) (bytes : D → List ℕ)
    (bytes_of : C → List ℕ)
    (is_signature : K → Subject D → G → Type 0) (IsMadeOf : S → Subject D → List (ℕ × G) → C → Type 0)
    (keys_of : S → List K) (now : ℕ) (what : Input S D K G C)
    (old passed new : Engine S L D K G C) (answer : Result Bool E) : Type 0 where
  pub continues : Continues same elect bytes_of is_signature (subject_in bytes_of what) old.core new.core
  pub votes : TakesVotes (votes_of_input what) old.batcher new.batcher
  pub held : KeepsVotes what old.batcher new.batcher
  pub backed : IsBackedInput same elect bytes_of is_signature (length (keys_of old.batcher.scheme)) what old.batcher
      old.core new.core
  pub dropped : IfOk answer (λ is_of_use. IsFalse is_of_use → IsDropped now what old new)
  pub unadmitted : IsFalse (is_input_admitted bytes_of old.core.member.facts what)
      → IfOk answer (λ is_of_use. IsFalse is_of_use × IsTurnedAway what passed new)
  pub bounded : StaysBounded keys_of old.core old.batcher new.core new.batcher
  pub acted : IsTrue (is_input_admitted bytes_of old.core.member.facts what)
      → IfOk answer (IsActedOn same elect bytes_of IsMadeOf keys_of now what old new.core.member.facts new.batcher
      new.plan.steps.items)
  pub due_work : OnOk answer (KeepsReports old new)
  pub ignored : IfOk answer
      (λ is_of_use. new.plan.ignored ≡ (if is_of_use then old.plan.ignored else passed.plan.ignored))
  pub provenance : OnOk answer
      (IsCausedWith same elect bytes bytes_of now (input_causes bytes_of old.batcher what) old new)
