-- What an engine does with an input that is delivered to it, and the calls of a process in which one is.
use Rattle.std.specs.Prelude.{◌≡◌, ◌⊎◌, ◌<◌, ℕ, is_some, Bool, true, false, List, [], ◌∷◌, ◌++◌}
use Rattle.simplex_types.specs.Certificates.{certificate_facts}
use Rattle.simplex_types.specs.declared.types.messages.Subject.{Subject}
use Rattle.simplex_voter.specs.Facts.{StateFacts, Elect}
use Rattle.simplex_voter.specs.StateAnswers.{notarization_of}
use Rattle.simplex_voter.specs.Windows.{min_active}
use Rattle.simplex_member.specs.Calls.{ReplyFacts, Refused, NotAllowed}
use Rattle.laws_safety.specs.LifetimeLaws.{NeverFalls, WhileAlive}
use Rattle.engine_outbox.specs.CertificateCalls.{certificate_call}
use Rattle.engine_outbox.specs.Continuity.{has_failed}
use Rattle.simplex_engine.specs.Admission.{is_input_admitted}
use Rattle.simplex_engine.specs.InputEffects.{HasAsked}
use Rattle.simplex_engine.specs.declared.engine.Engine.{Engine}
use Rattle.simplex_engine.specs.declared.input.Input.{Input}
use Rattle.simplex_engine.specs.declared.input.Input.TheVariants as input
use Rattle.laws_hosts.specs.EngineCalls.{EngineCall, Handled, IsEngineCall}
use Rattle.laws_hosts.specs.Processes.{Process}

-- the settings and the terms are the same, neither the current view nor the last finalized one falls, and a
-- notarization stays until its view lies below the retained ones
pub record IsLater {K L D : Type 0} (first last : StateFacts K L D) : Type 0 where
  pub settings : last.settings ≡ first.settings
  pub terms : last.terms ≡ first.terms
  pub views : NeverFalls first last
  pub notarized : (v : ℕ) → is_some (notarization_of first v) ≡ true
      → (v < min_active last) ⊎ (is_some (notarization_of last v) ≡ true)

-- the reply refuses the call, for whatever reason
abbrev pub is_declined : {K D : Type 0} → ReplyFacts K D → Bool
is_declined (Refused fault) = true
is_declined NotAllowed = true
is_declined _ = false

module _ {S L D K G C : Type 0} (same : D → D → Bool) (elect : Elect L) (bytes_of : C → List ℕ)
    (is_signature : K → Subject D → G → Type 0) (keys_of : S → List K) where
  -- an engine before and after a call; besides, one that had failed stays as it was, and the member of one that has not
  -- failed is a later one of its lifetime
  pub record IsLifetimeCall (call : EngineCall S D K G C) (old new : Engine S L D K G C) : Type 0 where
    pub made : IsEngineCall same elect bytes_of is_signature keys_of call old new
    pub stays : has_failed old.core ≡ true → new ≡ old
    pub lives : has_failed new.core ≡ false
        → WhileAlive IsLater old.core.member.facts.life new.core.member.facts.life

  -- the same for these calls, one after another
  abbrev pub AreLifetimeCalls : List (EngineCall S D K G C) → Engine S L D K G C → Engine S L D K G C → Type 0
  AreLifetimeCalls [] first last = last ≡ first
  AreLifetimeCalls (call ∷ rest) first last =
      (next : Engine S L D K G C) × IsLifetimeCall call first next × AreLifetimeCalls rest next last

  -- the member of an engine receives a certificate that the engine admits, and takes it or declines it; of another
  -- input nothing is said
  abbrev pub IsAnswered : (is_taken : Bool) → Input S D K G C → Engine S L D K G C → Engine S L D K G C → Type 0
  IsAnswered is_taken (input.Certificate certificate) old new =
      is_input_admitted bytes_of old.core.member.facts (input.Certificate certificate) ≡ true
      → (now : ℕ)
      × HasAsked same elect is_declined (certificate_call (certificate_facts bytes_of certificate) now)
      old.core.member.facts new.core.member.facts is_taken
  IsAnswered is_taken passed old new = Unit {0}

  -- one of the calls of a process passes this input, and its certificate is not declined
  pub record IsDelivered (passed : Input S D K G C) (process : Process S L D K G C) : Type 0 where
    pub before : List (EngineCall S D K G C)
    pub after : List (EngineCall S D K G C)
    pub old : Engine S L D K G C
    pub new : Engine S L D K G C
    pub calls_are : process.calls ≡ before ++ Handled passed ∷ after
    pub earlier : AreLifetimeCalls before process.first old
    pub call : IsLifetimeCall (Handled passed) old new
    pub taken : IsAnswered true passed old new
    pub later : AreLifetimeCalls after new process.last
