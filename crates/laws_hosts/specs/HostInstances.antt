-- A network of one host, which has started an engine and made no call.
use Rattle.std.specs.Prelude.{◌≡◌, ℕ, Bool, false, List, [], ◌∷◌, Option}
use Rattle.simplex_types.specs.declared.types.messages.Subject.{Subject}
use Rattle.simplex_types.specs.declared.types.window.Terms.{Terms}
use Rattle.simplex_voter.specs.Facts.{Elect}
use Rattle.simplex_record.specs.declared.record.start.Start.{Start}
use Rattle.laws_safety.specs.ObservedTraces.{StartsAs}
use Rattle.engine_outbox.specs.Continuity.{has_failed}
use Rattle.simplex_engine.specs.declared.engine.Engine.{Engine}
use Rattle.laws_hosts.specs.Processes.{Process}
use Rattle.laws_hosts.specs.HostNetworks.{Host, Honest, IsHostNetwork}

module _ {S L D K G C : Type 0} where
  -- a process that made no call
  abbrev pub process_without_calls : Start S L D K G C → Engine S L D K G C → Process S L D K G C
  process_without_calls start engine = record { start = start; first = engine; calls = []; last = engine; carried = [] }

  -- a host that has run one such process, by itself
  abbrev pub lone_host : Start S L D K G C → Engine S L D K G C → List (Host S L D K G C)
  lone_host start engine = Honest (process_without_calls start engine ∷ []) ∷ []

module _ {S L D K G C : Type 0} (same : D → D → Bool) (elect : Elect L) (bytes_of : C → List ℕ)
    (is_signature : K → Subject D → G → Type 0) (keys_of : S → List K) (me : S → Option ℕ) (terms : L → Terms) where
  -- this host is a network, in terms of any length with which the start agrees, unless the engine has failed
  abbrev pub IsLoneNetwork : Start S L D K G C → Engine S L D K G C → Type 0
  IsLoneNetwork start engine =
      (term_length : ℕ) → StartsAs me terms term_length 0 start → has_failed engine.core ≡ false
      → IsHostNetwork same elect bytes_of is_signature keys_of me terms term_length (lone_host start engine)
