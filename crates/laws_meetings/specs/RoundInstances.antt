-- Rounds that are possible: of one host by itself, and of two, in which a vote is delivered.
use Rattle.std.specs.Prelude.{◌≡◌, ℕ, Bool, true, false, List, [], ◌∷◌, ◌++◌, Contains, Option}
use Rattle.simplex_types.specs.declared.types.messages.Certificate.{Certificate}
use Rattle.simplex_types.specs.declared.types.messages.Subject.{Subject}
use Rattle.simplex_types.specs.declared.types.window.Terms.{Terms}
use Rattle.simplex_voter.specs.Facts.{Elect}
use Rattle.simplex_record.specs.declared.record.start.Start.{Start}
use Rattle.simplex_member.specs.declared.member.journal.Stored.{Stored}
use Rattle.engine_votes.specs.declared.votes.Vote.{Vote}
use Rattle.engine_outbox.specs.Continuity.{has_failed}
use Rattle.engine_outbox.specs.declared.output.Output.{Output}
use Rattle.engine_outbox.specs.declared.output.Output.TheVariants as output
use Rattle.engine_outbox.specs.declared.output.Work.TheVariants as work
use Rattle.simplex_engine.specs.declared.engine.Engine.{Engine}
use Rattle.simplex_engine.specs.declared.input.Input.{Input}
use Rattle.simplex_engine.specs.declared.input.Input.TheVariants as input
use Rattle.laws_hosts.specs.EngineCalls.{EngineCall, Handled, Polled, outputs_of}
use Rattle.laws_hosts.specs.HostInstances.{lone_host}
use Rattle.laws_hosts.specs.HostNetworks.{Host, Honest}
use Rattle.laws_hosts.specs.Processes.{Process}
use Rattle.laws_rounds.specs.Deliveries.{IsLifetimeCall, AreLifetimeCalls}
use Rattle.laws_rounds.specs.Rounds.{IsRound}

-- each of these calls is a poll
abbrev pub ArePolls : {S D K G C : Type 0} → List (EngineCall S D K G C) → Type 0
ArePolls [] = Unit {0}
ArePolls (Handled passed ∷ rest) = ⊥
ArePolls (Polled outs ∷ rest) = ArePolls rest

module _ {S L D K G C : Type 0} where
  -- a process that made these calls, and whose host has carried out all that they returned
  abbrev pub process_with_calls : Start S L D K G C → (calls : List (EngineCall S D K G C))
      → (first last : Engine S L D K G C) → Process S L D K G C
  process_with_calls start calls first last =
      record { start = start; first = first; calls = calls; last = last; carried = outputs_of calls }

module _ {S L D K G C : Type 0} (same : D → D → Bool) (elect : Elect L) (bytes_of : C → List ℕ)
    (is_signature : K → Subject D → G → Type 0) (keys_of : S → List K) where
  -- the engine was polled once, and returned nothing if it is done
  abbrev pub IsPolledOnce : (is_done : Bool) → Engine S L D K G C → Engine S L D K G C → Type 0
  IsPolledOnce true old new = IsLifetimeCall same elect bytes_of is_signature keys_of (Polled []) old new
  IsPolledOnce false old new =
      (out : Output S D Stored K G C)
      × IsLifetimeCall same elect bytes_of is_signature keys_of (Polled (out ∷ [])) old new

module _ {S L D K G C : Type 0} (same : D → D → Bool) (elect : Elect L) (bytes_of : C → List ℕ)
    (is_signature : K → Subject D → G → Type 0) (keys_of : S → List K) (me : S → Option ℕ) (terms : L → Terms) where
  -- a lone host that had begun the engine `old` and made no call has made a round, after which its engine is `new`,
  -- unless that has failed
  abbrev pub MakesLoneRound : Engine S L D K G C → Engine S L D K G C → Type 0
  MakesLoneRound old new =
      (term_length : ℕ) (start : Start S L D K G C) → has_failed new.core ≡ false
      → (calls : List (EngineCall S D K G C))
      × IsRound same elect bytes_of is_signature keys_of me terms term_length (lone_host start old)
      (Honest (process_with_calls start calls old new ∷ []) ∷ [])

module _ {S L D K G C : Type 0} (same : D → D → Bool) (elect : Elect L) (bytes_of : C → List ℕ)
    (is_signature : K → Subject D → G → Type 0) (keys_of : S → List K) where
  -- the engine was polled until it returned nothing
  abbrev pub IsPolledToEnd : Engine S L D K G C → Engine S L D K G C → Type 0
  IsPolledToEnd old new =
      (polls : List (EngineCall S D K G C)) × ArePolls polls
      × AreLifetimeCalls same elect bytes_of is_signature keys_of (polls ++ Polled [] ∷ []) old new

  -- besides, this input was passed to it before
  pub record IsSettledAfter (passed : Input S D K G C) (old new : Engine S L D K G C) : Type 0 where
    pub between : Engine S L D K G C
    pub call : IsLifetimeCall same elect bytes_of is_signature keys_of (Handled passed) old between
    pub polls : IsPolledToEnd between new

-- of these outputs, this vote alone is sent to others
pub record SendsOnly {S D K G C : Type 0} (vote : Vote D G) (outs : List (Output S D Stored K G C)) : Type 0 where
  pub sent : Contains outs (output.Vote vote)
  pub only : (other : Vote D G) → Contains outs (output.Vote other) → other ≡ vote
  pub no_certificate : (certificate : Certificate S D K G C)
      → Contains outs (output.Work (work.Broadcast certificate)) → ⊥

-- two honest hosts, each of which has run one process
abbrev pub two_hosts : {S L D K G C : Type 0} → Process S L D K G C → Process S L D K G C → List (Host S L D K G C)
two_hosts first second = Honest (first ∷ []) ∷ Honest (second ∷ []) ∷ []

module _ {S L D K G C : Type 0} (same : D → D → Bool) (elect : Elect L) (bytes_of : C → List ℕ)
    (is_signature : K → Subject D → G → Type 0) (keys_of : S → List K) (me : S → Option ℕ) (terms : L → Terms) where
  -- the first of two hosts had made calls, and carried out what they returned: a vote of member 0, and nothing else for
  -- others. The second one had begun an engine. They have made a round, in which the vote was delivered to both, unless
  -- one of the engines has failed
  abbrev pub MakesRoundOfTwo : (to_first to_second : Input S D K G C)
      → (first second first_new second_new : Engine S L D K G C) → Type 0
  MakesRoundOfTwo to_first to_second first second first_new second_new =
      (term_length : ℕ) (vote : Vote D G) (start other : Start S L D K G C) (begun : Engine S L D K G C)
      (calls : List (EngineCall S D K G C))
      → AreLifetimeCalls same elect bytes_of is_signature keys_of calls begun first → SendsOnly vote (outputs_of calls)
      → vote.signer ≡ 0 → to_first ≡ input.Vote vote → to_second ≡ input.Vote vote
      → has_failed first_new.core ≡ false → has_failed second_new.core ≡ false
      → (more theirs : List (EngineCall S D K G C))
      × IsRound same elect bytes_of is_signature keys_of me terms term_length
      (two_hosts (process_with_calls start calls begun first) (process_with_calls other [] second second))
      (two_hosts (process_with_calls start (calls ++ more) begun first_new)
      (process_with_calls other theirs second second_new))
