-- Over the calls of a process: the certificates that count as broadcast were returned, or are ahead.
use Rattle.std.proofs.Common.{◌≡◌, refl, ap, sym, ◌∙◌, subst, ℕ, ◌⊎◌, inl, inr, Bool, true, false, List, [], ◌∷◌, ◌++◌, append_assoc, append-nil, Option, Some, None, is_some}
use Rattle.std.specs.List.{list_any}
use Rattle.std.proofs.lemmas.Bool.{true≢false, or_left, or_right}
use Rattle.simplex_types.specs.Certificates.{CertificateFacts}
use Rattle.simplex_types.specs.declared.types.messages.Subject.{Subject}
use Rattle.simplex_voter.specs.Facts.{StateFacts, Elect, round_of, round_number}
use Rattle.simplex_member.specs.Calls.{CallFacts, reply_facts}
use Rattle.simplex_member.specs.MemberFacts.{MemberFacts, IsCall}
use Rattle.simplex_member.specs.Runs.{StepFacts, Calls, Prunes, Restarts}
use Rattle.simplex_member.specs.declared.member.calls.Reply.{Reply}
use Rattle.laws_safety.specs.LifetimeLaws.{KindOfCertificate}
use Rattle.laws_safety.proofs.frames.RunsKeep.{HoldsIn}
use Rattle.engine_fetches.specs.declared.fetches.FetchKind.{FetchKind}
use Rattle.engine_planner.specs.Causes.{Cause}
use Rattle.engine_outbox.specs.Continuity.{has_failed}
use Rattle.engine_outbox.specs.Outputs.{work_in}
use Rattle.engine_outbox.specs.declared.output.Work.{Work}
use Rattle.engine_outbox.proofs.QueuedOutputs.{work_in-append}
use Rattle.simplex_engine.specs.ApplicationWork.{work_ahead}
use Rattle.simplex_engine.specs.Provenance.{IsCausedBy, work_by_reply, work_by_steps}
use Rattle.simplex_engine.specs.declared.engine.Engine.{Engine}
use Rattle.laws_hosts.specs.EngineCalls.{EngineCall, Handled, Polled, outputs_of}
use Rattle.laws_rounds.specs.Deliveries.{AreLifetimeCalls}
use Rattle.laws_rounds.proofs.LifetimeCalls.{calls_live}
use Rattle.laws_meetings.specs.EngineRuns.{work_returned, IsWorkingCall, AreWorkingCalls}
use Rattle.laws_meetings.specs.TrackedCertificates.{certificate_of, is_broadcast, tracks, has_had}
use Rattle.laws_meetings.proofs.BroadcastWork.{any_cases, any_left, any_right, broadcasts, broadcast_by}
use Rattle.laws_meetings.proofs.CallCertificates.{IsReturned, KeepsCertificates, call_keeps}
use Rattle.laws_meetings.proofs.EventCertificates.{IsHere, round_in}

module _ {S L D K G C : Type 0} (bytes_of : C → List ℕ) (first : StateFacts K L D) where
  -- beside the certificates that the first state had, each that a state has is of its own view and the epoch, and each
  -- that counts as broadcast is broadcast by this work
  pub record HasBroadcast (works : List (Work S D K G C)) (x : StateFacts K L D) : Type 0 where
    pub settings : x.settings ≡ first.settings
    pub held : (kind : KindOfCertificate) (v : ℕ) (c : CertificateFacts D)
        → certificate_of kind (round_of x v) ≡ Some c → has_had kind first v ≡ false → IsHere first kind v c
    pub sent : (kind : KindOfCertificate) (v : ℕ) → is_broadcast kind (round_of x v) ≡ true
        → has_had kind first v ≡ false
        → list_any (broadcasts bytes_of kind (round_number first v)) works ≡ true

  pub first_broadcast : (works : List (Work S D K G C)) → HasBroadcast works first
  first_broadcast works = record {
    settings = refl;
    held = λ kind v c is none. absurd (true≢false (sym (or_left (tracks kind first v)
        (is_broadcast kind (round_of first v)) (ap is_some is)) ∙ none));
    sent = λ kind v is none. absurd (true≢false (sym (or_right (tracks kind first v)
        (is_broadcast kind (round_of first v)) is) ∙ none));
  }

  -- the same by more work
  more_work : (works others : List (Work S D K G C)) (x : StateFacts K L D)
      → ((test : Work S D K G C → Bool) → list_any test works ≡ true → list_any test others ≡ true)
      → HasBroadcast works x → HasBroadcast others x
  more_work works others x found has = record {
    settings = has.settings;
    held = has.held;
    sent = λ kind v is none. found (broadcasts bytes_of kind (round_number first v)) (has.sent kind v is none);
  }

  module _ (works : List (Work S D K G C)) (x y : StateFacts K L D) (replied : Reply S D K G C) (call : CallFacts D)
      (keeps : KeepsCertificates (reply_facts bytes_of replied) x y) (has : HasBroadcast works x) where
    still_here : (kind : KindOfCertificate) (v : ℕ) (c : CertificateFacts D) → IsHere x kind v c → IsHere first kind v c
    still_here kind v c is = (is.0, is.1 ∙ ap (λ s. round_in s v) has.settings)

    -- after a call, with the work that its reply asks for
    call_broadcast : HasBroadcast (works ++ work_by_reply replied call) y
    call_broadcast = record {
      settings = keeps.settings ∙ has.settings;
      held = λ kind v c is none. elim (keeps.held kind v c is)
          [ inl before ↦ has.held kind v c before none | inr here ↦ still_here kind v c here ];
      sent = λ kind v is none. by_reply kind v none (keeps.sent kind v is);
    }
      where
        by_reply : (kind : KindOfCertificate) (v : ℕ) → has_had kind first v ≡ false
            → (is_broadcast kind (round_of x v) ≡ true) ⊎ IsReturned x kind v (reply_facts bytes_of replied)
            → list_any (broadcasts bytes_of kind (round_number first v)) (works ++ work_by_reply replied call) ≡ true
        by_reply kind v none (inl before) =
            any_left (broadcasts bytes_of kind (round_number first v)) works (work_by_reply replied call)
            (has.sent kind v before none)
        by_reply kind v none (inr (c, there, tells)) =
            any_right (broadcasts bytes_of kind (round_number first v)) works (work_by_reply replied call)
            (broadcast_by bytes_of kind (round_number first v) replied call c tells (has.held kind v c there none))

module _ {S L D K G C : Type 0} (same : D → D → Bool) (decides : (d e : D) → same d e ≡ true → d ≡ e)
    (elect : Elect L) (bytes_of : C → List ℕ) (first : StateFacts K L D) where
  -- so it is in this member, unless it has failed
  abbrev pub BroadcastIn : List (Work S D K G C) → MemberFacts K L D → Type 0
  BroadcastIn works m = HoldsIn (HasBroadcast bytes_of first works) m.life

  member_call : (works : List (Work S D K G C)) (m left : MemberFacts K L D) (replied : Reply S D K G C)
      (call : CallFacts D) → IsCall same elect m call (reply_facts bytes_of replied) left
      → BroadcastIn works m → BroadcastIn (works ++ work_by_reply replied call) left
  member_call works m left replied call is has =
      let more = works ++ work_by_reply replied call in
      elim (call_keeps same decides elect m call (reply_facts bytes_of replied) left is) [
        | inl (fault, tells, dies) ↦ subst (HoldsIn (HasBroadcast bytes_of first more)) (sym dies) tt
        | inr (x, y, alive, lives, keeps) ↦ subst (HoldsIn (HasBroadcast bytes_of first more)) (sym lives)
            (call_broadcast bytes_of first works x y replied call keeps
            (subst (HoldsIn (HasBroadcast bytes_of first works)) alive has))
      ]

  module _ (now : ℕ) (asks_now is_over : FetchKind → ℕ → Bool) where
    -- over the steps of a call
    steps_broadcast : (steps : List (StepFacts K L D × Reply S D K G C)) (causes : List (Cause S D K G C))
        (asked : FetchKind → ℕ → Bool) (m : MemberFacts K L D) (left : List (Cause S D K G C)) (end : MemberFacts K L D)
        (works : List (Work S D K G C))
        → IsCausedBy same elect bytes_of now asks_now is_over steps causes asked m left end
        → BroadcastIn works m → BroadcastIn (works ++ work_by_steps steps) end
    steps_broadcast [] causes asked m left end works is has =
        subst (λ n. BroadcastIn (works ++ []) n) (sym is.1)
        (subst (λ ws. BroadcastIn ws m) (sym (append-nil works)) has)
    steps_broadcast ((Calls call, reply) ∷ rest) causes asked m left end works is has =
        let by = work_by_reply reply call in
        subst (λ ws. BroadcastIn ws end) (append_assoc works by (work_by_steps rest))
        (steps_broadcast rest _ _ is.1 left end (works ++ by) is.3 (member_call works m is.1 reply call is.2 has))
    steps_broadcast ((Prunes, reply) ∷ rest) causes asked m left end works is has =
        steps_broadcast rest _ _ is.1 left end works is.3 (subst (λ n. BroadcastIn works n) (sym is.2.1) has)
    steps_broadcast ((Restarts restart, reply) ∷ rest) causes asked m left end works is has = absurd is.0

module _ {S L D K G C : Type 0} (same : D → D → Bool) (decides : (d e : D) → same d e ≡ true → d ≡ e)
    (elect : Elect L) (bytes : D → List ℕ) (bytes_of : C → List ℕ) (is_signature : K → Subject D → G → Type 0)
    (keys_of : S → List K) (first : StateFacts K L D) where
  -- by what was returned, and what is queued or planned
  abbrev pub BroadcastBy : List (Work S D K G C) → Engine S L D K G C → Type 0
  BroadcastBy given engine =
      HoldsIn (HasBroadcast bytes_of first (given ++ work_ahead engine)) engine.core.member.facts.life

  call_step : (given : List (Work S D K G C)) (call : EngineCall S D K G C) (old new : Engine S L D K G C)
      → IsWorkingCall same elect bytes bytes_of is_signature keys_of call old new → has_failed new.core ≡ false
      → BroadcastBy given old → BroadcastBy (given ++ work_returned call) new
  call_step given call old new is alive has =
      let does = is.works alive in
      let ahead = work_ahead old in
      let by = work_by_steps does.caused.steps in
      let out = work_returned call in
      in_life new.core.member.facts.life ((given ++ ahead) ++ by) ((given ++ out) ++ work_ahead new)
      (λ test any. elim (any_cases test (given ++ ahead) by any) [
        | inl old_any ↦ elim (any_cases test given ahead old_any) [
          | inl returned ↦ any_left test (given ++ out) (work_ahead new) (any_left test given out returned)
          | inr was_ahead ↦ after test given out (work_ahead new) (does.ahead.found test was_ahead)
        ]
        | inr asked ↦ after test given out (work_ahead new) (does.caused.works.found test asked)
      ])
      (steps_broadcast same decides elect bytes_of first does.now _ _ does.caused.steps _ _
      old.core.member.facts _ new.core.member.facts (given ++ ahead) does.caused.by_steps has)
    where
      after : (test : Work S D K G C → Bool) (xs ys zs : List (Work S D K G C)) → list_any test (ys ++ zs) ≡ true
          → list_any test ((xs ++ ys) ++ zs) ≡ true
      after test xs ys zs any =
          ap (list_any test) (append_assoc xs ys zs) ∙ any_right test xs (ys ++ zs) any

      in_life : (life : Option (StateFacts K L D)) (works others : List (Work S D K G C))
          → ((test : Work S D K G C → Bool) → list_any test works ≡ true → list_any test others ≡ true)
          → HoldsIn (HasBroadcast bytes_of first works) life → HoldsIn (HasBroadcast bytes_of first others) life
      in_life None works others found has_then = tt
      in_life (Some x) works others found has_then = more_work bytes_of first works others x found has_then

  lifetime_calls : (calls : List (EngineCall S D K G C)) (begun last : Engine S L D K G C)
      → AreWorkingCalls same elect bytes bytes_of is_signature keys_of calls begun last
      → AreLifetimeCalls same elect bytes_of is_signature keys_of calls begun last
  lifetime_calls [] begun last are = are
  lifetime_calls (call ∷ rest) begun last (next, is, are) = (next, is.lifetime, lifetime_calls rest next last are)

  -- before calls that leave an engine alive, it was
  pub alive_before : (calls : List (EngineCall S D K G C)) (begun last : Engine S L D K G C)
      → AreWorkingCalls same elect bytes bytes_of is_signature keys_of calls begun last → has_failed last.core ≡ false
      → has_failed begun.core ≡ false
  alive_before calls begun last are alive =
      (calls_live same elect bytes_of is_signature keys_of calls begun last (lifetime_calls calls begun last are)
      alive).0

  work_of_calls : (call : EngineCall S D K G C) (rest : List (EngineCall S D K G C))
      → work_in (outputs_of (call ∷ rest)) ≡ work_returned call ++ work_in (outputs_of rest)
  work_of_calls (Handled passed) rest = refl
  work_of_calls (Polled outs) rest = work_in-append outs (outputs_of rest)

  -- over the calls of a process
  pub calls_broadcast : (calls : List (EngineCall S D K G C)) (given : List (Work S D K G C))
      (begun last : Engine S L D K G C)
      → AreWorkingCalls same elect bytes bytes_of is_signature keys_of calls begun last → has_failed last.core ≡ false
      → BroadcastBy given begun → BroadcastBy (given ++ work_in (outputs_of calls)) last
  calls_broadcast [] given begun last are alive has =
      subst (λ engine. BroadcastBy (given ++ []) engine) (sym are)
      (subst (λ works. BroadcastBy works begun) (sym (append-nil given)) has)
  calls_broadcast (call ∷ rest) given begun last (next, is, are) alive has =
      let out = work_returned call in
      subst (λ works. BroadcastBy works last)
      (append_assoc given out (work_in (outputs_of rest))
      ∙ ap (λ works. given ++ works) (sym (work_of_calls call rest)))
      (calls_broadcast rest (given ++ out) next last are alive
      (call_step given call begun next is (alive_before rest next last are alive) has))
