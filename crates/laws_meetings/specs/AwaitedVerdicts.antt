-- What a member at rest waits for, above its last finalized view, where it has no true verdict.
use Rattle.std.specs.Prelude.{◌≡◌, ◌<◌, ℕ, Bool, true, false, List, Contains, Option, Some}
use Rattle.simplex_types.specs.declared.types.messages.Proposal.{Proposal}
use Rattle.simplex_types.specs.declared.types.messages.Subject.{Subject}
use Rattle.simplex_types.specs.declared.types.window.Terms.{Terms}
use Rattle.simplex_round.specs.Round.{is_judged}
use Rattle.simplex_voter.specs.Facts.{StateFacts, Elect, round_of}
use Rattle.simplex_voter.specs.Parents.{has_valid_parent_span}
use Rattle.simplex_voter.specs.Rules.{required_certification_parent}
use Rattle.simplex_member.specs.OutstandingWork.{OutstandingWork, is_offered}
use Rattle.simplex_member.specs.declared.member.journal.Stored.{Stored}
use Rattle.laws_safety.specs.LifetimeLaws.{Notarization}
use Rattle.engine_outbox.specs.declared.output.Output.{Output}
use Rattle.engine_outbox.specs.declared.output.Output.TheVariants as output
use Rattle.engine_outbox.specs.declared.output.Work.TheVariants as work
use Rattle.laws_hosts.specs.HostNetworks.{Host, IsHostNetwork}
use Rattle.laws_hosts.specs.Processes.{Process}
use Rattle.laws_rounds.specs.Rounds.{IsLastProcess, IsAtRest}
use Rattle.laws_meetings.specs.Broadcasts.{HasStates}
use Rattle.laws_meetings.specs.EngineRuns.{IsEngineRun}
use Rattle.laws_meetings.specs.TrackedCertificates.{tracks, has_certified}

-- these outputs ask the application for a verdict on a proposal of the view, and it has given none since
pub record IsAsked {S K D G C : Type 0} (outs : List (Output S D Stored K G C)) (waiting : OutstandingWork K D)
    (view : ℕ) : Type 0 where
  pub proposal : Proposal D
  pub of_view : proposal.round.view ≡ view
  pub asked : Contains outs (output.Work (work.Certify proposal))
  pub no_verdict : is_offered waiting view ≡ true

module _ {K L D : Type 0} (elect : Elect L) (asked : ℕ → Type 0) (x : StateFacts K L D) where
  -- why a state has no true verdict on a view, where the application was asked for verdicts on these views
  pub data LacksVerdict : ℕ → Type 0 where
    -- its application was asked
    Asked : (view : ℕ) → asked view → LacksVerdict view
    -- the verdict is false
    Refused : (view : ℕ) → is_judged false (round_of x view).certification ≡ true → LacksVerdict view
    -- it tracks no notarization of the view
    NotNotarized : (view : ℕ) → tracks Notarization x view ≡ false → LacksVerdict view
    -- the view's proposal requires that a view is certified first, and that one lacks its verdict
    AwaitsParent : (view parent : ℕ) (p : Proposal D) → (round_of x view).slot.held ≡ Some p
        → required_certification_parent elect x view p ≡ Some parent → LacksVerdict parent → LacksVerdict view
    -- no proposal of the view may have this parent
    WrongParent : (view : ℕ) (p : Proposal D) → (round_of x view).slot.held ≡ Some p
        → has_valid_parent_span x view p.parent ≡ false → LacksVerdict view

-- the same of this state of the member of a process, by what its host has carried out
abbrev pub AwaitsVerdictOn : {S L D K G C : Type 0} → Elect L → Process S L D K G C → StateFacts K L D → ℕ → Type 0
AwaitsVerdictOn elect process x view =
    LacksVerdict elect (IsAsked process.carried process.last.core.member.facts.outstanding_work) x view

module _ {S L D K G C : Type 0} (same : D → D → Bool) (elect : Elect L) (bytes : D → List ℕ) (bytes_of : C → List ℕ)
    (is_signature : K → Subject D → G → Type 0) (keys_of : S → List K) (me : S → Option ℕ) (terms : L → Terms) where
  -- so it is of the last process of each honest host that is at rest, of each view above the last finalized one that
  -- has no true verdict
  abbrev pub VerdictsAreAwaited : Type 0
  VerdictsAreAwaited =
      (term_length : ℕ) (hosts : List (Host S L D K G C))
      → IsHostNetwork same elect bytes_of is_signature keys_of me terms term_length hosts
      → (i : ℕ) (process : Process S L D K G C) (first last : StateFacts K L D) → IsLastProcess hosts i process
      → IsEngineRun same elect bytes bytes_of is_signature keys_of process → IsAtRest process
      → HasStates process first last → (view : ℕ) → last.finalized < view → has_certified last view ≡ false
      → AwaitsVerdictOn elect process last view
