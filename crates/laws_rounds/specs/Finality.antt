-- What each honest host knows after a round by a certificate that another one had sent.
use Rattle.std.specs.Prelude.{◌≡◌, ◌⊎◌, ◌<◌, ◌≤◌, ℕ, is_some, true, Bool, false, List, ◌∷◌, Option, IfSome}
use Rattle.simplex_types.specs.Certificates.{CertificateFacts, Notarized, Nullified, Finalized, certificate_facts}
use Rattle.simplex_types.specs.Terms.{next_term_start}
use Rattle.simplex_types.specs.declared.types.messages.Certificate.{Certificate}
use Rattle.simplex_types.specs.declared.types.messages.Subject.{Subject}
use Rattle.simplex_types.specs.declared.types.window.Terms.{Terms}
use Rattle.simplex_voter.specs.Facts.{StateFacts, Elect}
use Rattle.simplex_voter.specs.StateAnswers.{notarization_of}
use Rattle.simplex_voter.specs.Windows.{min_active}
use Rattle.engine_outbox.specs.Continuity.{has_failed}
use Rattle.simplex_engine.specs.declared.engine.Engine.{Engine}
use Rattle.simplex_engine.specs.declared.input.Input.TheVariants as input
use Rattle.laws_hosts.specs.HostNetworks.{Host, IsHostNetwork}
use Rattle.laws_hosts.specs.Processes.{Process}
use Rattle.laws_rounds.specs.Rounds.{HasSent, IsLastProcess, AreRounds}

module _ {K L D : Type 0} where
  -- in the epoch of a finalization, the last finalized view is its view or a higher one
  abbrev pub HasFinalized : CertificateFacts D → StateFacts K L D → Type 0
  HasFinalized (Finalized c) x = c.proposal.round.epoch ≡ x.settings.epoch → c.proposal.round.view ≤ x.finalized
  HasFinalized _ x = Unit {0}

  -- in the epoch of a nullification, the current view lies above its view, and above its term unless its view or a
  -- higher one is final
  abbrev pub HasLeft : CertificateFacts D → StateFacts K L D → Type 0
  HasLeft (Nullified c) x =
      c.round.epoch ≡ x.settings.epoch
      → (c.round.view < x.current)
      × ((c.round.view ≤ x.finalized) ⊎ (next_term_start x.terms.term_length c.round.view ≤ x.current))
  HasLeft _ x = Unit {0}

  -- in the epoch of a notarization, one of its view is tracked, unless that is genesis or lies below the retained views
  abbrev pub HasNotarization : CertificateFacts D → StateFacts K L D → Type 0
  HasNotarization (Notarized c) x =
      c.proposal.round.epoch ≡ x.settings.epoch → 1 ≤ c.proposal.round.view
      → (c.proposal.round.view < min_active x) ⊎ (is_some (notarization_of x c.proposal.round.view) ≡ true)
  HasNotarization _ x = Unit {0}

-- this is true of the state of an engine's member, unless the engine has failed
abbrev pub IsShownTo : {S L D K G C : Type 0} → (StateFacts K L D → Type 0) → Engine S L D K G C → Type 0
IsShownTo Shown engine = has_failed engine.core ≡ false → IfSome engine.core.member.facts.life Shown

module _ {S L D K G C : Type 0} (same : D → D → Bool) (elect : Elect L) (bytes_of : C → List ℕ)
    (is_signature : K → Subject D → G → Type 0) (keys_of : S → List K) (me : S → Option ℕ) (terms : L → Terms) where
  -- where an honest host has sent a certificate, what that shows is true of the last engine of each other honest host
  -- after a round, and after any number of rounds more
  abbrev pub SpreadsInRounds : (CertificateFacts D → StateFacts K L D → Type 0) → Type 0
  SpreadsInRounds Shows =
      (term_length : ℕ) (hosts next later : List (Host S L D K G C)) (rest : List (List (Host S L D K G C)))
      → IsHostNetwork same elect bytes_of is_signature keys_of me terms term_length hosts
      → AreRounds same elect bytes_of is_signature keys_of me terms term_length (next ∷ rest) hosts later
      → (i j : ℕ) (certificate : Certificate S D K G C) (last : Process S L D K G C)
      → HasSent hosts i j (input.Certificate certificate) → IsLastProcess later j last
      → IsShownTo (Shows (certificate_facts bytes_of certificate)) last.last
