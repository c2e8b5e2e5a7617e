-- A process at rest: its engine is at rest, so nothing is ahead, and each certificate counts as broadcast.
use Rattle.std.proofs.Common.{◌≡◌, refl, ap, sym, ◌∙◌, subst, ℕ, ◌≤◌, Bool, true, false, ◌||◌, List, [], ◌∷◌, ◌++◌, append-nil, Option, Some, None, is_some}
use Rattle.std.specs.Prelude.{option_map}
use Rattle.std.proofs.lemmas.Bool.{false≢true, true≢false}
use Rattle.simplex_types.specs.declared.types.messages.Subject.{Subject}
use Rattle.simplex_round.specs.Round.{RoundFacts, once, has_unsent_certificate}
use Rattle.simplex_voter.specs.DueVotes.{is_due}
use Rattle.simplex_voter.specs.Facts.{StateFacts, Elect, round_of, round_number}
use Rattle.simplex_voter.specs.Rules.{may_notarize, may_finalize}
use Rattle.simplex_member.specs.declared.member.journal.Stored.{Stored}
use Rattle.laws_safety.specs.LifetimeLaws.{KindOfCertificate, Notarization, Nullification, Finalization}
use Rattle.laws_safety.proofs.frames.RunsKeep.{HoldsIn}
use Rattle.engine_outbox.specs.Continuity.{has_failed, IsJournaled}
use Rattle.engine_outbox.specs.Outputs.{work_in}
use Rattle.engine_outbox.specs.declared.output.Output.{Output}
use Rattle.engine_planner.specs.PlannedWork.{work_planned}
use Rattle.simplex_engine.specs.ApplicationWork.{work_ahead}
use Rattle.simplex_engine.specs.AtRest.{IsEngineAtRest, IsSettledAsStored, IsUnsettled}
use Rattle.simplex_engine.specs.declared.engine.Engine.{Engine}
use Rattle.laws_hosts.specs.EngineCalls.{EngineCall, Polled, outputs_of}
use Rattle.laws_hosts.specs.Processes.{Process}
use Rattle.laws_rounds.specs.Rounds.{IsAtRest}
use Rattle.laws_meetings.specs.Broadcasts.{IsSent, HasSentAll, HasStates, SendsAllAtRest}
use Rattle.laws_meetings.specs.EngineRuns.{returned_by, AreWorkingCalls, IsEngineRun}
use Rattle.laws_meetings.specs.TrackedCertificates.{certificate_of, is_broadcast}
use Rattle.laws_meetings.proofs.BroadcastWork.{sent_among}
use Rattle.laws_meetings.proofs.EventCertificates.{round_in}
use Rattle.laws_meetings.proofs.RunCertificates.{HasBroadcast, first_broadcast, alive_before, calls_broadcast}

-- ---- a round with no unsent certificate

neither : (b c : Bool) → (b || c) ≡ false → (b ≡ false) × (c ≡ false)
neither true c is = absurd (true≢false is)
neither false c is = (refl, is)

-- a certificate that is there and not left to be returned counts as returned
counted : {A : Type 0} (flag : Bool) (certificate : Option A) → is_some (once flag certificate) ≡ false
    → is_some certificate ≡ true → flag ≡ true
counted true certificate none there = refl
counted false certificate none there = absurd (true≢false (sym there ∙ none))

unmapped : {A B : Type 0} (f : A → B) (o : Option A) → is_some (option_map f o) ≡ true → is_some o ≡ true
unmapped f None is = absurd (false≢true is)
unmapped f (Some a) is = refl

module _ {K D : Type 0} (r : RoundFacts K D) (none : has_unsent_certificate r ≡ false) where
  all_counted : (kind : KindOfCertificate) → is_some (certificate_of kind r) ≡ true → is_broadcast kind r ≡ true
  all_counted kind there = by_kind kind there
    where
      first : Bool
      first = is_some (once r.notarization_broadcast r.notarization)

      second : Bool
      second = is_some (once r.nullification_broadcast r.nullification)

      parts : ((first || second) ≡ false) × (is_some (once r.finalization_broadcast r.finalization) ≡ false)
      parts = neither (first || second) _ none

      by_kind : (k : KindOfCertificate) → is_some (certificate_of k r) ≡ true → is_broadcast k r ≡ true
      by_kind Notarization has =
          counted r.notarization_broadcast r.notarization (neither first second parts.0).0 (unmapped _ _ has)
      by_kind Nullification has =
          counted r.nullification_broadcast r.nullification (neither first second parts.0).1 (unmapped _ _ has)
      by_kind Finalization has = counted r.finalization_broadcast r.finalization parts.1 (unmapped _ _ has)

-- ---- the last call

module _ {S L D K G C : Type 0} (same : D → D → Bool) (elect : Elect L) (bytes : D → List ℕ) (bytes_of : C → List ℕ)
    (is_signature : K → Subject D → G → Type 0) (keys_of : S → List K) where
  -- before calls that leave an engine alive, it was
  abbrev AliveBefore : Type 0
  AliveBefore =
      (calls : List (EngineCall S D K G C)) (begun last : Engine S L D K G C)
      → AreWorkingCalls same elect bytes bytes_of is_signature keys_of calls begun last → has_failed last.core ≡ false
      → has_failed begun.core ≡ false

  -- after a poll that returned nothing, the engine is at rest
  rests : AliveBefore → (before : List (EngineCall S D K G C)) (given : List (Output S D Stored K G C))
      (begun last : Engine S L D K G C)
      → AreWorkingCalls same elect bytes bytes_of is_signature keys_of (before ++ Polled [] ∷ []) begun last
      → has_failed last.core ≡ false → IsJournaled bytes_of given begun.core
      → IsSettledAsStored same elect bytes_of begun
      → (now : ℕ) × IsEngineAtRest same elect bytes_of now last
  rests was [] given begun last (next, is, are) alive kept settled =
      let lives = subst (λ (e : Engine S L D K G C). has_failed e.core ≡ false) are alive in
      let at = (is.settles lives).rest settled refl in
      (at.0, subst (IsEngineAtRest same elect bytes_of at.0) (sym are) at.1)
  rests was (call ∷ before) given begun last (next, is, are) alive kept settled =
      let settles = is.settles (was (before ++ Polled [] ∷ []) next last are alive) in
      rests was before (given ++ returned_by call) next last are alive (settles.journaled given kept)
      (settles.settled given kept settled)

-- nothing is ahead of an engine with no output queued and no step planned
pub none_ahead : {S L D K G C : Type 0} (engine : Engine S L D K G C) → engine.core.outbox.queue.items ≡ []
    → engine.plan.steps.items ≡ [] → work_ahead engine ≡ []
none_ahead engine queue steps = λ i. work_in (queue i) ++ work_planned (steps i)

-- an engine that looks for what is due stores no moment
pub unsettled_so : {S L D K G C : Type 0} (same : D → D → Bool) (elect : Elect L) (bytes_of : C → List ℕ)
    (engine : Engine S L D K G C) → IsUnsettled engine → IsSettledAsStored same elect bytes_of engine
unsettled_so same elect bytes_of engine unsettled = rw unsettled tt

module _ {S L D K G C : Type 0} (same : D → D → Bool) (decides : (d e : D) → same d e ≡ true → d ≡ e)
    (elect : Elect L) (bytes : D → List ℕ) (bytes_of : C → List ℕ) (is_signature : K → Subject D → G → Type 0)
    (keys_of : S → List K) where
  module _ (process : Process S L D K G C) (first last : StateFacts K L D)
      (run : IsEngineRun same elect bytes bytes_of is_signature keys_of process) (at_rest : IsAtRest process)
      (states : HasStates process first last) where
    pub engine_rests : (now : ℕ) × IsEngineAtRest same elect bytes_of now process.last
    engine_rests =
        rests same elect bytes bytes_of is_signature keys_of
        (alive_before same decides elect bytes bytes_of is_signature keys_of first) at_rest.before []
        process.first process.last
        (subst (λ calls. AreWorkingCalls same elect bytes bytes_of is_signature keys_of calls process.first
        process.last) at_rest.calls_are run.calls)
        states.alive run.begun.kept
        (unsettled_so same elect bytes_of process.first run.begun.unsettled)

    -- what was broadcast is among what was returned
    returned : HasBroadcast bytes_of first (work_in (outputs_of process.calls)) last
    returned =
        let out = work_in (outputs_of process.calls) in
        let settled = engine_rests.1.settled in
        let known = calls_broadcast same decides elect bytes bytes_of is_signature keys_of first process.calls []
        process.first process.last run.calls states.alive
        (subst (λ life. HoldsIn (HasBroadcast bytes_of first (work_ahead process.first)) life) (sym states.began)
        (first_broadcast bytes_of first (work_ahead process.first))) in
        let here = subst (HoldsIn (HasBroadcast bytes_of first (out ++ work_ahead process.last))) states.lives known in
        subst (λ works. HasBroadcast bytes_of first works last)
        (ap (λ works. out ++ works) (none_ahead process.last engine_rests.1.empty settled.idle.steps)
        ∙ append-nil out) here

    -- each certificate from the last finalized view on counts as broadcast
    none_unsent : (view : ℕ) → last.finalized ≤ view → has_unsent_certificate (round_of last view) ≡ false
    none_unsent view above =
        let own = engine_rests.1.settled.quiet.own in
        let one : own.state ≡ last = cc (own.alive, states.lives) in
        let nothing = subst (λ (x : StateFacts K L D). (v : ℕ) → x.finalized ≤ v → is_due same elect x v ≡ false) one
        own.nothing_due in
        (neither (may_notarize same elect last view || may_finalize elect last view) _ (nothing view above)).1

    pub sends_all : HasSentAll bytes_of (outputs_of process.calls) first last
    sends_all kind view above there none =
        let flagged = all_counted (round_of last view) (none_unsent view above) kind there in
        let round = ap (λ s. round_in s view) (sym returned.settings) in
        subst (IsSent bytes_of (outputs_of process.calls) kind) round
        (sent_among bytes_of kind (round_number first view) (outputs_of process.calls)
        (returned.sent kind view flagged none))

  pub all_send : SendsAllAtRest same elect bytes bytes_of is_signature keys_of
  all_send process first last run at_rest states = sends_all process first last run at_rest states
