-- What a host may do next, and what a network of hosts is after such steps.
use Rattle.std.specs.Prelude.{◌≡◌, ◌⊎◌, ℕ, Bool, false, List, [], ◌∷◌, ◌++◌, length, slice_get, Contains, Option, Some}
use Rattle.simplex_types.specs.Certificates.{certificate_facts}
use Rattle.simplex_types.specs.Encoding.{certificate_subject}
use Rattle.simplex_types.specs.declared.types.messages.Subject.{Subject}
use Rattle.simplex_types.specs.declared.types.window.Terms.{Terms}
use Rattle.simplex_voter.specs.Facts.{Elect}
use Rattle.simplex_member.specs.declared.member.journal.Stored.{Stored}
use Rattle.laws_safety.specs.ObservedTraces.{floor_in, StartsAs}
use Rattle.laws_safety.specs.Traces.{Accepts}
use Rattle.engine_outbox.specs.declared.output.Output.{Output}
use Rattle.engine_outbox.specs.HostStops.{MayBeCarriedOut}
use Rattle.engine_outbox.specs.Journals.{journal_of}
use Rattle.simplex_engine.specs.declared.engine.Engine.{Engine}
use Rattle.simplex_engine.specs.declared.input.Input.TheVariants as input
use Rattle.laws_hosts.specs.EngineCalls.{EngineCall, Handled, outputs_of, IsEngineCall}
use Rattle.laws_hosts.specs.HostInstances.{process_without_calls}
use Rattle.laws_hosts.specs.HostNetworks.{Host, Honest, FewFaultyHosts, MayHaveSent, IsCertifiable, IsHostNetwork}
use Rattle.laws_hosts.specs.Processes.{Process, carried_by, EngineBegins}

module _ {S L D K G C : Type 0} where
  -- a process that has made one more call, after which its engine is this one
  abbrev pub with_call : Process S L D K G C → EngineCall S D K G C → Engine S L D K G C → Process S L D K G C
  with_call process call next = record process { calls = process.calls ++ call ∷ []; last = next }

  -- a process whose host has carried these outputs out
  abbrev pub with_carried : Process S L D K G C → List (Output S D Stored K G C) → Process S L D K G C
  with_carried process carried = record process { carried = carried }

  -- a host carries out more of what the engine has returned
  pub record CarriesOut (old new : Process S L D K G C) : Type 0 where
    pub more : List (Output S D Stored K G C)
    pub may : MayBeCarriedOut (outputs_of old.calls) (old.carried ++ more)
    pub new_is : new ≡ with_carried old (old.carried ++ more)

module _ {S L D K G C : Type 0} (bytes_of : C → List ℕ) (hosts : List (Host S L D K G C)) where
  -- a vote may be passed if its signer's host is faulty or carried it out, and a certificate if it may exist
  abbrev pub MayBePassed : EngineCall S D K G C → Type 0
  MayBePassed (Handled (input.Vote vote)) =
      (host : Host S L D K G C) → slice_get hosts vote.signer ≡ Some host → MayHaveSent vote.subject vote.signer host
  MayBePassed (Handled (input.Certificate certificate)) =
      IsCertifiable hosts (certificate_subject (certificate_facts bytes_of certificate))
  MayBePassed _ = Unit {0}

module _ {S L D K G C : Type 0} (same : D → D → Bool) (elect : Elect L) (bytes_of : C → List ℕ)
    (is_signature : K → Subject D → G → Type 0) (keys_of : S → List K) (me : S → Option ℕ) (terms : L → Terms) where
  -- a host makes a call of its last process
  pub record MakesCall (hosts : List (Host S L D K G C)) (old new : Process S L D K G C) : Type 0 where
    pub call : EngineCall S D K G C
    pub next : Engine S L D K G C
    pub made : IsEngineCall same elect bytes_of is_signature keys_of call old.last next
    pub may : MayBePassed bytes_of hosts call
    pub alive : next.core.failed ≡ false
    pub new_is : new ≡ with_call old call next

  -- the host of member `i`, which has run these processes, begins another one from the journal that they have written;
  -- the engine's floor is backed
  pub record BeginsProcess (term_length i : ℕ) (hosts : List (Host S L D K G C))
      (processes : List (Process S L D K G C)) (new : Process S L D K G C) : Type 0 where
    pub starts : StartsAs me terms term_length i new.start
    pub members_are : length (keys_of new.start.settings.scheme) ≡ length hosts
    pub begins : EngineBegins same elect bytes_of keys_of me terms (journal_of (carried_by processes)) new.start
        new.first
    pub floor : (subject : Subject D) → Contains (floor_in new.start.floor) (Accepts subject)
        → IsCertifiable hosts subject
    pub alive : new.first.core.failed ≡ false
    pub new_is : new ≡ process_without_calls new.start new.first

  -- the last process of a host changes
  pub record ChangesLast (hosts : List (Host S L D K G C)) (old new : List (Process S L D K G C)) : Type 0 where
    pub before : List (Process S L D K G C)
    pub last : Process S L D K G C
    pub next : Process S L D K G C
    pub old_is : old ≡ before ++ last ∷ []
    pub new_is : new ≡ before ++ next ∷ []
    pub changes : MakesCall hosts last next ⊎ CarriesOut last next

  -- the processes of the host of member `i` before and after a step
  abbrev pub IsHostStep : ℕ → ℕ → List (Host S L D K G C) → List (Process S L D K G C) → List (Process S L D K G C)
      → Type 0
  IsHostStep term_length i hosts old new =
      ChangesLast hosts old new
      ⊎ ((process : Process S L D K G C)
      × (new ≡ old ++ process ∷ [])
      × BeginsProcess term_length i hosts old process)

  -- hosts before and after a step of one of them, which is honest; the others stay
  pub record IsNetworkStep (term_length : ℕ) (hosts later : List (Host S L D K G C)) : Type 0 where
    pub i : ℕ
    pub old : List (Process S L D K G C)
    pub new : List (Process S L D K G C)
    pub old_at : slice_get hosts i ≡ Some (Honest old)
    pub new_at : slice_get later i ≡ Some (Honest new)
    pub step : IsHostStep term_length i hosts old new
    pub as_many : length later ≡ length hosts
    pub others : (j : ℕ) → (j ≡ i → ⊥) → slice_get later j ≡ slice_get hosts j

  -- hosts before and after such steps, with the hosts after each
  abbrev pub AreNetworkSteps : ℕ → List (List (Host S L D K G C)) → List (Host S L D K G C)
      → List (Host S L D K G C) → Type 0
  AreNetworkSteps term_length [] hosts later = later ≡ hosts
  AreNetworkSteps term_length (next ∷ rest) hosts later =
      IsNetworkStep term_length hosts next × AreNetworkSteps term_length rest next later

  -- a network is one after steps
  abbrev pub StepsKeepNetworks : Type 0
  StepsKeepNetworks =
      (term_length : ℕ) (stages : List (List (Host S L D K G C))) (hosts later : List (Host S L D K G C))
      → IsHostNetwork same elect bytes_of is_signature keys_of me terms term_length hosts
      → AreNetworkSteps term_length stages hosts later
      → IsHostNetwork same elect bytes_of is_signature keys_of me terms term_length later

  -- few of these hosts are faulty, and each honest one has begun its first process
  pub record HaveBegun (term_length : ℕ) (hosts : List (Host S L D K G C)) : Type 0 where
    pub few_faulty : FewFaultyHosts hosts
    pub honest : (i : ℕ) (processes : List (Process S L D K G C)) → slice_get hosts i ≡ Some (Honest processes)
        → (process : Process S L D K G C)
        × (processes ≡ process ∷ [])
        × BeginsProcess term_length i hosts [] process

  -- such hosts are a network
  abbrev pub BegunHostsAreNetworks : Type 0
  BegunHostsAreNetworks =
      (term_length : ℕ) (hosts : List (Host S L D K G C)) → HaveBegun term_length hosts
      → IsHostNetwork same elect bytes_of is_signature keys_of me terms term_length hosts
