-- Rounds of a network: what honest hosts have sent before a round is delivered by its end.
use Rattle.std.specs.Prelude.{◌≡◌, ◌≢◌, ℕ, Bool, List, [], ◌∷◌, ◌++◌, length, slice_get, Contains, Option, Some}
use Rattle.simplex_types.specs.declared.types.messages.Subject.{Subject}
use Rattle.simplex_types.specs.declared.types.window.Terms.{Terms}
use Rattle.simplex_voter.specs.Facts.{Elect}
use Rattle.simplex_member.specs.declared.member.journal.Stored.{Stored}
use Rattle.engine_outbox.specs.declared.output.Output.{Output}
use Rattle.engine_outbox.specs.declared.output.Output.TheVariants as output
use Rattle.engine_outbox.specs.declared.output.Work.TheVariants as work
use Rattle.simplex_engine.specs.declared.input.Input.{Input}
use Rattle.simplex_engine.specs.declared.input.Input.TheVariants as input
use Rattle.laws_hosts.specs.EngineCalls.{EngineCall, Polled, outputs_of}
use Rattle.laws_hosts.specs.HostNetworks.{Host, Honest, IsHostNetwork}
use Rattle.laws_hosts.specs.Processes.{Process, carried_by}
use Rattle.laws_host_steps.specs.HostSteps.{AreNetworkSteps}
use Rattle.laws_rounds.specs.Deliveries.{IsDelivered}

module _ {S L D K G C : Type 0} (hosts : List (Host S L D K G C)) where
  -- the host of member `i` is honest and has carried out this output
  abbrev pub HasCarriedOut : ℕ → Output S D Stored K G C → Type 0
  HasCarriedOut i out =
      (processes : List (Process S L D K G C)) × (slice_get hosts i ≡ Some (Honest processes))
      × Contains (carried_by processes) out

  -- it has sent this input to the host of member `j`: it sends a vote to all members, and a certificate to all others
  abbrev pub HasSent : (i j : ℕ) → Input S D K G C → Type 0
  HasSent i j (input.Vote vote) = HasCarriedOut i (output.Vote vote)
  HasSent i j (input.Certificate certificate) =
      (i ≢ j) × HasCarriedOut i (output.Work (work.Broadcast certificate))
  HasSent i j _ = ⊥

  -- the host of member `i` is honest, and this is its last process
  abbrev pub IsLastProcess : ℕ → Process S L D K G C → Type 0
  IsLastProcess i last =
      (before : List (Process S L D K G C)) × (slice_get hosts i ≡ Some (Honest (before ++ last ∷ [])))

-- the last call of a process is a poll that returned nothing, and its host has carried out all that was returned
pub record IsAtRest {S L D K G C : Type 0} (process : Process S L D K G C) : Type 0 where
  pub before : List (EngineCall S D K G C)
  pub calls_are : process.calls ≡ before ++ Polled [] ∷ []
  pub carried : process.carried ≡ outputs_of process.calls

module _ {S L D K G C : Type 0} (same : D → D → Bool) (elect : Elect L) (bytes_of : C → List ℕ)
    (is_signature : K → Subject D → G → Type 0) (keys_of : S → List K) (me : S → Option ℕ) (terms : L → Terms)
    (term_length : ℕ) where
  -- hosts before and after a round, in which no honest host begins another process: by its end what honest hosts had
  -- sent before it is delivered to the last process of each honest host, and that is at rest
  pub record IsRound (hosts later : List (Host S L D K G C)) : Type 0 where
    pub stages : List (List (Host S L D K G C))
    pub steps : AreNetworkSteps same elect bytes_of is_signature keys_of me terms term_length stages hosts later
    pub none_begun : (i : ℕ) (old new : List (Process S L D K G C)) → slice_get hosts i ≡ Some (Honest old)
        → slice_get later i ≡ Some (Honest new) → length new ≡ length old
    pub delivered : (i j : ℕ) (passed : Input S D K G C) (last : Process S L D K G C) → HasSent hosts i j passed
        → IsLastProcess later j last → IsDelivered same elect bytes_of is_signature keys_of passed last
    pub at_rest : (i : ℕ) (last : Process S L D K G C) → IsLastProcess later i last → IsAtRest last

  -- hosts before and after such rounds, with the hosts after each
  abbrev pub AreRounds : List (List (Host S L D K G C)) → List (Host S L D K G C) → List (Host S L D K G C) → Type 0
  AreRounds [] hosts later = later ≡ hosts
  AreRounds (next ∷ rest) hosts later = IsRound hosts next × AreRounds rest next later

module _ {S L D K G C : Type 0} (same : D → D → Bool) (elect : Elect L) (bytes_of : C → List ℕ)
    (is_signature : K → Subject D → G → Type 0) (keys_of : S → List K) (me : S → Option ℕ) (terms : L → Terms) where
  -- a network is one after rounds
  abbrev pub RoundsKeepNetworks : Type 0
  RoundsKeepNetworks =
      (term_length : ℕ) (rounds : List (List (Host S L D K G C))) (hosts later : List (Host S L D K G C))
      → IsHostNetwork same elect bytes_of is_signature keys_of me terms term_length hosts
      → AreRounds same elect bytes_of is_signature keys_of me terms term_length rounds hosts later
      → IsHostNetwork same elect bytes_of is_signature keys_of me terms term_length later
