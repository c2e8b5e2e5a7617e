-- At rest an engine has returned each certificate that its member tracks, to be broadcast.
use Rattle.std.specs.Prelude.{◌≡◌, ◌≤◌, ℕ, Bool, true, false, List, Contains, Some}
use Rattle.simplex_types.specs.Certificates.{certificate_facts}
use Rattle.simplex_types.specs.declared.types.messages.Certificate.{Certificate}
use Rattle.simplex_types.specs.declared.types.messages.Subject.{Subject}
use Rattle.simplex_types.specs.declared.types.numbers.Round.{Round}
use Rattle.simplex_voter.specs.Facts.{StateFacts, Elect, round_number}
use Rattle.simplex_member.specs.declared.member.journal.Stored.{Stored}
use Rattle.laws_safety.specs.LifetimeLaws.{KindOfCertificate}
use Rattle.engine_outbox.specs.declared.output.Output.{Output}
use Rattle.engine_outbox.specs.declared.output.Output.TheVariants as output
use Rattle.engine_outbox.specs.declared.output.Work.TheVariants as work
use Rattle.engine_outbox.specs.Continuity.{has_failed}
use Rattle.laws_hosts.specs.EngineCalls.{outputs_of}
use Rattle.laws_hosts.specs.Processes.{Process}
use Rattle.laws_rounds.specs.Rounds.{IsAtRest}
use Rattle.laws_meetings.specs.EngineRuns.{IsEngineRun}
use Rattle.laws_meetings.specs.TrackedCertificates.{tracks, has_had, IsOf}

module _ {S D K G C : Type 0} (bytes_of : C → List ℕ) where
  -- among these outputs is the broadcast of a certificate of this kind and round
  pub record IsSent (outs : List (Output S D Stored K G C)) (kind : KindOfCertificate) (round : Round) : Type 0 where
    pub certificate : Certificate S D K G C
    pub is_of : IsOf kind round (certificate_facts bytes_of certificate)
    pub sent : Contains outs (output.Work (work.Broadcast certificate))

module _ {S L D K G C : Type 0} (bytes_of : C → List ℕ) where
  -- of each view from the last finalized one on, each certificate that the state tracks was sent, except what the first
  -- state had
  abbrev pub HasSentAll : List (Output S D Stored K G C) → StateFacts K L D → StateFacts K L D → Type 0
  HasSentAll outs first last =
      (kind : KindOfCertificate) (view : ℕ) → last.finalized ≤ view → tracks kind last view ≡ true
      → has_had kind first view ≡ false → IsSent bytes_of outs kind (round_number last view)

-- these are the states of the member as the process began, and now; the engine has not failed
pub record HasStates {S L D K G C : Type 0} (process : Process S L D K G C) (first last : StateFacts K L D)
    : Type 0 where
  pub began : process.first.core.member.facts.life ≡ Some first
  pub lives : process.last.core.member.facts.life ≡ Some last
  pub alive : has_failed process.last.core ≡ false

module _ {S L D K G C : Type 0} (same : D → D → Bool) (elect : Elect L) (bytes : D → List ℕ) (bytes_of : C → List ℕ)
    (is_signature : K → Subject D → G → Type 0) (keys_of : S → List K) where
  -- a process at rest has done so
  abbrev pub SendsAllAtRest : Type 0
  SendsAllAtRest =
      (process : Process S L D K G C) (first last : StateFacts K L D)
      → IsEngineRun same elect bytes bytes_of is_signature keys_of process → IsAtRest process
      → HasStates process first last → HasSentAll bytes_of (outputs_of process.calls) first last
