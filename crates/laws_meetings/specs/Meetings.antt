-- Whether the honest members of a network come to one view.
use Rattle.std.specs.Prelude.{◌≡◌, ◌≢◌, ◌⊎◌, ◌<◌, ◌≤◌, ℕ, ◌+◌, Bool, true, false, List, slice_get, Option, Some}
use Rattle.simplex_types.specs.Terms.{next_term_start}
use Rattle.simplex_types.specs.declared.types.messages.Subject.{Subject}
use Rattle.simplex_types.specs.declared.types.numbers.Round.{Round}
use Rattle.simplex_types.specs.declared.types.window.Terms.{Terms}
use Rattle.simplex_voter.specs.Facts.{StateFacts, Elect, round_number}
use Rattle.laws_safety.specs.LifetimeLaws.{KindOfCertificate, Notarization, Nullification}
use Rattle.laws_hosts.specs.HostNetworks.{Host, Honest, IsHostNetwork}
use Rattle.laws_hosts.specs.Processes.{Process, carried_by}
use Rattle.laws_rounds.specs.Rounds.{IsLastProcess, IsRound}
use Rattle.laws_meetings.specs.AwaitedVerdicts.{AwaitsVerdictOn}
use Rattle.laws_meetings.specs.Broadcasts.{IsSent, HasStates}
use Rattle.laws_meetings.specs.EngineRuns.{IsEngineRun}
use Rattle.laws_meetings.specs.TrackedCertificates.{tracks, has_had, has_certified}

module _ {K L D : Type 0} where
  -- the view that a certificate of this kind and view leads to
  abbrev pub next_view : KindOfCertificate → StateFacts K L D → ℕ → ℕ
  next_view Nullification x view = next_term_start x.terms.term_length view
  next_view kind x view = view + 1

  -- the current view of `state` is not below that of `last`, or what is in the way. These are states of two members.
  -- The process of `last` began with the state `first`, and its host has sent certificates of these kinds and views;
  -- the member of `state` awaits verdicts on these views
  pub data Follows (sent : KindOfCertificate → ℕ → Type 0) (awaits : ℕ → Type 0) (first last state : StateFacts K L D)
      : Type 0 where
    Reaches : last.current ≤ state.current → Follows sent awaits first last state
    -- the process of `last` began with the certificate that led to its view, which its host has not sent
    BeganWith : (kind : KindOfCertificate) (view : ℕ) → last.current ≡ next_view kind last view → last.finalized ≤ view
        → tracks kind last view ≡ true → has_had kind first view ≡ true → (sent kind view → ⊥)
        → Follows sent awaits first last state
    -- `last` has certified the view below, of which `state` tracks a notarization, and awaits a true verdict
    AwaitsVerdict : (view : ℕ) → last.current ≡ view + 1 → has_certified last view ≡ true
        → tracks Notarization state view ≡ true → has_certified state view ≡ false → awaits view
        → Follows sent awaits first last state

  -- a process begins at view 1, with no certificate and no verdict
  pub record IsFresh (begun : StateFacts K L D) : Type 0 where
    pub first_view : begun.current ≡ 1
    pub none_had : (kind : KindOfCertificate) (view : ℕ) → has_had kind begun view ≡ false
    pub none_certified : (view : ℕ) → has_certified begun view ≡ false

  -- `state` has certified each view that `last` has certified, if it tracks a notarization of it
  abbrev pub CertifiesAlike : StateFacts K L D → StateFacts K L D → Type 0
  CertifiesAlike last state =
      (view : ℕ) → has_certified last view ≡ true → tracks Notarization state view ≡ true
      → has_certified state view ≡ true

-- the host of member `i` is honest and has sent a certificate of this kind and round
abbrev pub HasSentCertificate : {S L D K G C : Type 0} → (C → List ℕ) → List (Host S L D K G C) → ℕ
    → KindOfCertificate → Round → Type 0
HasSentCertificate {S} {L} {D} {K} {G} {C} bytes_of hosts i kind round =
    (processes : List (Process S L D K G C)) × (slice_get hosts i ≡ Some (Honest processes))
    × IsSent bytes_of (carried_by processes) kind round

module _ {S L D K G C : Type 0} (same : D → D → Bool) (elect : Elect L) (bytes : D → List ℕ) (bytes_of : C → List ℕ)
    (is_signature : K → Subject D → G → Type 0) (keys_of : S → List K) where
  -- the host of member `i` is honest, and its last process, which has not failed, has come from this state to that
  pub record IsStateOf (hosts : List (Host S L D K G C)) (i : ℕ) (first last : StateFacts K L D) : Type 0 where
    pub process : Process S L D K G C
    pub is_last : IsLastProcess hosts i process
    pub runs : IsEngineRun same elect bytes bytes_of is_signature keys_of process
    pub states : HasStates process first last

  -- a member before and after a round; of each view from the last finalized one on, its host has sent each certificate
  -- that the process began with
  pub record IsSeen (hosts later : List (Host S L D K G C)) (i : ℕ) (earlier now : StateFacts K L D) : Type 0 where
    pub first : StateFacts K L D
    pub begun : StateFacts K L D
    pub was : IsStateOf hosts i first earlier
    pub is : IsStateOf later i begun now
    pub sent : (kind : KindOfCertificate) (view : ℕ) → earlier.finalized ≤ view → has_had kind first view ≡ true
        → HasSentCertificate bytes_of hosts i kind (round_number earlier view)

  module _ (me : S → Option ℕ) (terms : L → Terms) where
    -- within two rounds an honest member follows each other one: what one has come to after the first, the other has
    -- after the second
    abbrev pub ViewsAreFollowed : Type 0
    ViewsAreFollowed =
        (term_length : ℕ) (hosts next later : List (Host S L D K G C))
        → IsHostNetwork same elect bytes_of is_signature keys_of me terms term_length hosts
        → IsRound same elect bytes_of is_signature keys_of me terms term_length hosts next
        → IsRound same elect bytes_of is_signature keys_of me terms term_length next later
        → (i j : ℕ) (first last begun state : StateFacts K L D) → i ≢ j → IsStateOf next i first last
        → (at : IsStateOf later j begun state) → last.settings.epoch ≡ state.settings.epoch
        → Follows (λ kind view. HasSentCertificate bytes_of next i kind (round_number last view))
        (AwaitsVerdictOn elect at.process state) first last state

    -- two honest members of one epoch, whose verdicts agree, are in one view after two rounds, unless one of them has
    -- entered a view in the second
    abbrev pub ViewsMeet : Type 0
    ViewsMeet =
        (term_length : ℕ) (hosts next later : List (Host S L D K G C))
        → IsHostNetwork same elect bytes_of is_signature keys_of me terms term_length hosts
        → IsRound same elect bytes_of is_signature keys_of me terms term_length hosts next
        → IsRound same elect bytes_of is_signature keys_of me terms term_length next later
        → (i j : ℕ) (x x_now y y_now : StateFacts K L D) → i ≢ j → IsSeen next later i x x_now
        → IsSeen next later j y y_now → x.settings.epoch ≡ y_now.settings.epoch
        → y.settings.epoch ≡ x_now.settings.epoch → CertifiesAlike x y_now → CertifiesAlike y x_now
        → (x.current < x_now.current) ⊎ (y.current < y_now.current) ⊎ (x_now.current ≡ y_now.current)
