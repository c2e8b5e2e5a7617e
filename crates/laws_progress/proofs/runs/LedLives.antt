-- Over a member's lifetimes: while it has not failed, its current view was led to, and so was each view that it voted
-- to nullify.
use Rattle.std.proofs.Common.{◌≡◌, refl, ap, sym, ◌∙◌, subst, inl, inr, ℕ, zero, suc, ◌-◌, ◌<◌, Bool, true, false, ◌&&◌, if◌then◌else◌, nat_lt, List, [], ◌∷◌, ◌++◌, append_assoc, length, take, drop, map, Contains, Option, Some, None, Result, Ok, Err, is_some, unwrap_or, arith}
use Rattle.std.specs.Prelude.{MatchOption, ◌==◌}
use Rattle.std.proofs.lemmas.Bool.{false≢true, eqb-true}
use Rattle.std.proofs.lemmas.List.{append-nil, take-append-drop}
use Rattle.std.proofs.lemmas.List.Elements.{Contains-append_left, Contains-append_cases}
use Rattle.simplex_types.specs.Certificates.{ArtifactFacts, CertificateFacts, NotarizeVote, NullifyVote, FinalizeVote, Verdict, Accepted, Notarized, Nullified, Finalized}
use Rattle.simplex_types.specs.Config.{FloorFacts, Genesis, Finalized as FinalizedFloor}
use Rattle.simplex_types.specs.declared.types.fault.Fault.{Fault}
use Rattle.simplex_types.specs.declared.types.messages.Proposal.{Proposal}
use Rattle.simplex_types.specs.declared.types.messages.Subject.TheVariants as subject
use Rattle.simplex_types.specs.declared.types.numbers.Round.{Round}
use Rattle.simplex_types.specs.Encoding.{certificate_subject}
use Rattle.simplex_voter.specs.Acceptance.{after_set_floor}
use Rattle.simplex_voter.specs.Facts.{StateFacts, Elect, is_tracked}
use Rattle.simplex_voter.specs.Windows.{min_active}
use Rattle.simplex_record.specs.declared.record.error.RecoverError.{RecoverError}
use Rattle.simplex_record.specs.Check.{stands, first_error, recovery_floor_rules, first_broken_after, first_recover_error}
use Rattle.simplex_record.specs.Cuts.{may_drop, without_last, pruned_entries}
use Rattle.simplex_record.specs.Entries.{entry_round, entry_view}
use Rattle.simplex_record.specs.Recovery.{as_artifact, after_replaying, after_entry, after_kept_entry, after_entries, recovered_state, recover_error, with_floor, is_finalization_entry, TakesEntry, TakesEntries}
use Rattle.simplex_record.specs.Start.{StartFacts, new_state}
use Rattle.simplex_record.proofs.AllowedRecords.{new_bears}
use Rattle.simplex_record.proofs.HeldEntries.{BearsAll}
use Rattle.simplex_record.proofs.Recoveries.{set_takes}
use Rattle.simplex_record.proofs.Start.{good_floor}
use Rattle.simplex_member.specs.CallConditions.{is_allowed, fault_of}
use Rattle.simplex_member.specs.Calls.{CallFacts, ReplyFacts}
use Rattle.simplex_member.specs.MemberFacts.{MemberFacts, AnswersAlive, IsCall, reply_of, left_of, without_lifetime}
use Rattle.simplex_member.specs.CallSemantics.{answer, recorded_by}
use Rattle.simplex_member.specs.Restarts.{RestartFacts, cut_member, new_lifetime, retention_grows, RecoversByView, IsRestart, IsRestartWhere}
use Rattle.simplex_member.specs.Runs.{StepFacts, Calls, Prunes, Restarts, restart_reply, IsRun, IsRunFrom}
use Rattle.simplex_member.specs.PrunedRecord.{stays_within, pruned_member}
use Rattle.laws_safety.specs.Traces.{TraceEvent, Accepts, of_floor, trace_of_call, trace_at, trace_of_steps}
use Rattle.simplex_record.specs.Events as event
use Rattle.simplex_record.specs.Events.{Event, after_event}
use Rattle.laws_safety.specs.Lawful.{HasSigned}
use Rattle.laws_safety.specs.Executions.{new_member, Execution, trace_of, IsExecution}
use Rattle.laws_safety.specs.TermLengths.{HasTerms, KeepTerms}
use Rattle.laws_safety.proofs.frames.NoLowerViews.{event_goes}
use Rattle.laws_safety.proofs.frames.RunsKeep.{HoldsIn}
use Rattle.laws_safety.proofs.lists.Filters.{Contains-filtered, same_entries}
use Rattle.laws_safety.proofs.lists.Signed.{signed_none, signed_cases, only_signed}
use Rattle.laws_safety.proofs.lists.Splits.{Contains-cons_rest, only_one}
use Rattle.laws_safety.proofs.records.Lifetimes.{Between}
use Rattle.laws_safety.proofs.records.NewLives.{all_of_epoch, first_none}
use Rattle.laws_safety.proofs.records.RunsLawful.{MemberLives, between_of, cut_between, call_lives_on, prune_lives_on, restart_lives_on, start_lives}
use Rattle.laws_progress.specs.NetworkStates.{RunsWith}
use Rattle.laws_progress.specs.ViewCauses.{HasJudged, IsLedTo, judged_by, judged_in, judged_of}
use Rattle.laws_progress.proofs.runs.Brought.{BringsAccepted, brings_nothing}
use Rattle.laws_progress.proofs.runs.Ends.{terms_kept}
use Rattle.laws_progress.proofs.runs.Led.{Led, event_led, led_more, judged_more, floor_led}
use Rattle.laws_progress.proofs.runs.LedCalls.{call_led, recorded_verdict, answered_vote, judged_notarized}
use Rattle.laws_history.proofs.Lives.{entry_back, entries_back, view_back}

-- what a record has was accepted or certified
module _ {D : Type 0} (trace : List (TraceEvent D)) (verdicts : List (Bool × Proposal D)) where
  pub record RecordLed (entries : List (ArtifactFacts D)) : Type 0 where
    pub accepted : (c : CertificateFacts D) → Contains entries (Accepted c)
        → Contains trace (Accepts (certificate_subject c))
    pub judged : (success : Bool) (round : Round) → Contains entries (Verdict round success)
        → HasJudged success round.epoch verdicts round.view

  within_led : (entries fewer : List (ArtifactFacts D))
      → ((e : ArtifactFacts D) → Contains fewer e → Contains entries e) → RecordLed entries → RecordLed fewer
  within_led entries fewer within led = record {
    accepted = λ c h. led.accepted c (within (Accepted c) h);
    judged = λ success round h. led.judged success round (within (Verdict round success) h);
  }

-- the entries that a restart leaves, and takes again

module _ {D : Type 0} where
  left_within : (closed n : ℕ) (entries : List (ArtifactFacts D)) (e : ArtifactFacts D)
      → Contains (without_last closed n entries) e → Contains entries e
  left_within closed zero entries e h = h
  left_within closed (suc n) entries e h = by_test (λ k. left_within closed n (take (length entries - 1) entries) e k)
      (may_drop closed entries) h
    where
      shorter : List (ArtifactFacts D)
      shorter = take (length entries - 1) entries

      by_test : (Contains (without_last closed n shorter) e → Contains shorter e) → (b : Bool)
          → Contains (if b then without_last closed n shorter else entries) e → Contains entries e
      by_test behind true kept = subst (λ es. Contains es e) (take-append-drop (length entries - 1) entries)
          (Contains-append_left shorter (drop (length entries - 1) entries) e (behind kept))
      by_test behind false kept = kept

  pruned_within : (retention : ℕ) (entries : List (ArtifactFacts D)) (e : ArtifactFacts D)
      → Contains (pruned_entries retention entries) e → Contains entries e
  unfolding pruned_entries
  pruned_within retention entries e h = Contains-filtered _ entries e h

  -- the floor's finalization is the only entry that a floor adds
  floor_verdict : (entries : List (ArtifactFacts D)) (floor : FloorFacts D) (success : Bool) (round : Round)
      → Contains (with_floor entries floor) (Verdict round success) → Contains entries (Verdict round success)
  floor_verdict entries (Genesis payload) success round h = h
  floor_verdict entries (FinalizedFloor c) success round h =
      by_record (stands c.proposal.round.view is_finalization_entry entries) h
    where
      by_record : (b : Bool) → Contains (if b then entries else entries ++ Accepted (Finalized c) ∷ [])
          (Verdict round success) → Contains entries (Verdict round success)
      by_record true there = there
      by_record false there = elim (Contains-append_cases entries (Accepted (Finalized c) ∷ []) (Verdict round success)
          there) [ inl old ↦ old | inr new ↦ absurd (let e = only_one _ _ new in cc) ]

cut_within : {K L D : Type 0} (m : MemberFacts K L D) (drop : ℕ) (prune : Bool) (e : ArtifactFacts D)
    → Contains (cut_member m drop prune).entries e → Contains m.entries e
cut_within m drop true e h = left_within m.closed drop m.entries e
    (pruned_within m.retention (without_last m.closed drop m.entries) e h)
cut_within m drop false e h = left_within m.closed drop m.entries e h

-- a new lifetime

-- an entry's verdict, given or replayed
module _ {D : Type 0} (epoch : ℕ) (verdicts : List (Bool × Proposal D)) where
  reply_causes : (v w : ℕ) (success replied b : Bool) → HasJudged success epoch verdicts v → (a : Bool) → (w == v) ≡ a
      → (if a && b then Some success else None) ≡ Some replied → HasJudged replied epoch verdicts w
  reply_causes v w success replied true known true at is =
      subst (λ s. HasJudged s epoch verdicts w) (ap (λ f. unwrap_or f replied) is)
      (subst (HasJudged success epoch verdicts) (sym (eqb-true w v at)) known)
  reply_causes v w success replied false known true at is = absurd (false≢true (ap is_some is))
  reply_causes v w success replied b known false at is = absurd (false≢true (ap is_some is))

  replayed_by : (v w : ℕ) (success replied : Bool) → HasJudged success epoch verdicts v → (a : Bool) → (w == v) ≡ a
      → (if a then Some success else None) ≡ Some replied → HasJudged replied epoch verdicts w
  replayed_by v w success replied known true at is =
      subst (λ s. HasJudged s epoch verdicts w) (ap (λ f. unwrap_or f replied) is)
      (subst (HasJudged success epoch verdicts) (sym (eqb-true w v at)) known)
  replayed_by v w success replied known false at is = absurd (false≢true (ap is_some is))

-- what is known of an entry
abbrev IsKnown : {D : Type 0} → ℕ → List (TraceEvent D) → List (Bool × Proposal D) → ArtifactFacts D → Type 0
IsKnown epoch trace verdicts (Accepted c) = Contains trace (Accepts (certificate_subject c))
IsKnown epoch trace verdicts (Verdict round success) = HasJudged success epoch verdicts round.view
IsKnown epoch trace verdicts _ = Unit {0}

module _ {K L D : Type 0} (same : D → D → Bool) (decides : (d e : D) → same d e ≡ true → d ≡ e) (elect : Elect L)
    (term_length epoch : ℕ) (trace : List (TraceEvent D)) (verdicts : List (Bool × Proposal D)) (now : ℕ) where
  abbrev IsLed : StateFacts K L D → Type 0
  IsLed x = Led term_length trace verdicts x × (x.settings.epoch ≡ epoch)

  -- an event that brings nothing
  quietly : (x : StateFacts K L D) (e : Event K D) → event.IsEvent x e → BringsAccepted epoch trace verdicts x e
      → IsLed x → IsLed (after_event same elect x e)
  quietly x e allowed brings (led, is) = (
    event_led same decides elect term_length trace verdicts x e allowed
        (subst (λ n. BringsAccepted n trace verdicts x e) (sym is) brings) led,
    ap (λ s. s.epoch) (event_goes same elect x e).settings ∙ is,
  )

  given_verdict : (x : StateFacts K L D) (round : Round) (success : Bool) → HasJudged success epoch verdicts round.view
      → BringsAccepted epoch trace verdicts x (event.Certified round.view success now)
  given_verdict x round success known = record {
    notarized = λ d is. absurd (cc);
    nullified = λ d is. absurd (cc);
    finalized = λ d is. absurd (cc);
    judged = λ w replied is. reply_causes epoch verdicts round.view w success replied (is_tracked x round.view) known
        (w == round.view) refl is;
  }

  replayed_verdict : (x : StateFacts K L D) (round : Round) (success : Bool)
      → HasJudged success epoch verdicts round.view
      → BringsAccepted epoch trace verdicts x (event.Replay (Verdict round success))
  replayed_verdict x round success known = record {
    notarized = λ d is. absurd (cc);
    nullified = λ d is. absurd (cc);
    finalized = λ d is. absurd (cc);
    judged = λ w replied is. replayed_by epoch verdicts round.view w success replied known (w == round.view) refl is;
  }

  replayed_certificate : (x : StateFacts K L D) (c : CertificateFacts D)
      → BringsAccepted epoch trace verdicts x (event.Replay (Accepted c))
  replayed_certificate x (Notarized c) = brings_nothing epoch trace verdicts x (event.Replay (Accepted (Notarized c)))
      refl refl refl (λ v. refl)
  replayed_certificate x (Nullified c) = brings_nothing epoch trace verdicts x (event.Replay (Accepted (Nullified c)))
      refl refl refl (λ v. refl)
  replayed_certificate x (Finalized c) = brings_nothing epoch trace verdicts x (event.Replay (Accepted (Finalized c)))
      refl refl refl (λ v. refl)

  retaken_led : (x : StateFacts K L D) (e : ArtifactFacts D) → IsKnown epoch trace verdicts e
      → TakesEntry (λ b. b) same elect x now (as_artifact {K = K} e) → IsLed x → IsLed (after_entry same elect x now e)
  retaken_led x (NotarizeVote p signer) known takes led =
      quietly x (event.Replay (NotarizeVote p signer)) takes.replays
      (brings_nothing epoch trace verdicts x (event.Replay (NotarizeVote p signer)) refl refl refl (λ v. refl)) led
  retaken_led x (NullifyVote round signer) known takes led =
      quietly x (event.Replay (NullifyVote round signer)) takes.replays
      (brings_nothing epoch trace verdicts x (event.Replay (NullifyVote round signer)) refl refl refl (λ v. refl)) led
  retaken_led x (FinalizeVote p signer) known takes led =
      quietly x (event.Replay (FinalizeVote p signer)) takes.replays
      (brings_nothing epoch trace verdicts x (event.Replay (FinalizeVote p signer)) refl refl refl (λ v. refl)) led
  retaken_led x (Verdict round success) known takes led =
      let y : StateFacts K L D = after_replaying same elect x (Verdict round success) in
      quietly y (event.Certified round.view success now) takes.gives (given_verdict y round success known)
      (quietly x (event.Replay (Verdict round success)) takes.replays (replayed_verdict x round success known) led)
  retaken_led x (Accepted (Notarized c)) known takes led =
      let y : StateFacts K L D = after_event same elect x (event.AddNotarization c) in
      let brings : BringsAccepted epoch trace verdicts x (event.AddNotarization c) =
      record {
        notarized = λ d is. (let one : c ≡ d = cc in
            subst (λ f. Contains trace (Accepts (subject.Notarize f.proposal))) one known);
        nullified = λ d is. absurd (cc);
        finalized = λ d is. absurd (cc);
        judged = λ v replied is. absurd (cc);
      } in
      quietly y (event.Replay (Accepted (Notarized c))) takes.replays (replayed_certificate y (Notarized c))
      (quietly x (event.AddNotarization c) takes.kept brings led)
  retaken_led x (Accepted (Nullified c)) known takes led =
      let y : StateFacts K L D = after_event same elect x (event.AddNullification c now) in
      let brings : BringsAccepted epoch trace verdicts x (event.AddNullification c now) =
      record {
        notarized = λ d is. absurd (cc);
        nullified = λ d is. (let one : c ≡ d = cc in
            subst (λ f. Contains trace (Accepts (subject.Nullify f.round))) one known);
        finalized = λ d is. absurd (cc);
        judged = λ v replied is. absurd (cc);
      } in
      quietly y (event.Replay (Accepted (Nullified c))) takes.replays (replayed_certificate y (Nullified c))
      (quietly x (event.AddNullification c now) takes.kept brings led)
  retaken_led x (Accepted (Finalized c)) known takes led =
      let y : StateFacts K L D = after_event same elect x (event.AddFinalization c now) in
      let brings : BringsAccepted epoch trace verdicts x (event.AddFinalization c now) =
      record {
        notarized = λ d is. absurd (cc);
        nullified = λ d is. absurd (cc);
        finalized = λ d is. (let one : c ≡ d = cc in
            subst (λ f. Contains trace (Accepts (subject.Finalize f.proposal))) one known);
        judged = λ v replied is. absurd (cc);
      } in
      quietly y (event.Replay (Accepted (Finalized c))) takes.replays (replayed_certificate y (Finalized c))
      (quietly x (event.AddFinalization c now) takes.kept brings led)

  taken_led : (x : StateFacts K L D) (e : ArtifactFacts D) → IsKnown epoch trace verdicts e
      → (nat_lt (entry_view e) (min_active x) ≡ false → TakesEntry (λ b. b) same elect x now (as_artifact {K = K} e))
      → IsLed x → IsLed (after_kept_entry same elect x now e)
  unfolding after_kept_entry
  taken_led x e known takes led = by_view (nat_lt (entry_view e) (min_active x)) refl
    where
      by_view : (b : Bool) → nat_lt (entry_view e) (min_active x) ≡ b
          → IsLed (if b then x else after_entry same elect x now e)
      by_view true below = led
      by_view false above = retaken_led x e known (takes above) led

  entries_led : (entries : List (ArtifactFacts D)) (x : StateFacts K L D)
      → ((e : ArtifactFacts D) → Contains entries e → IsKnown epoch trace verdicts e)
      → TakesEntries (λ b. b) same elect x now (map (as_artifact {K = K}) entries) → IsLed x
      → IsLed (after_entries same elect x now entries)
  entries_led [] x known takes led = led
  entries_led (e ∷ rest) x known takes led =
      let next = taken_led x e (known e (0, omega arith, refl))
      (λ above. takes.0.taken (ap (λ v. nat_lt v (min_active x)) (view_back K e) ∙ above)) led in
      entries_led rest (after_kept_entry same elect x now e) (λ f h. known f (Contains-cons_rest e rest f h))
      (subst (λ a. TakesEntries (λ b. b) same elect (after_kept_entry same elect x now a) now
      (map (as_artifact {K = K}) rest)) (entry_back K e) takes.1) next

module _ {K L D : Type 0} (same : D → D → Bool) (decides : (d e : D) → same d e ≡ true → d ≡ e) (elect : Elect L)
    (trace : List (TraceEvent D)) (verdicts : List (Bool × Proposal D)) (start : StartFacts K L D) where
  -- an entry of the record is known, in its epoch
  entry_known : (entries : List (ArtifactFacts D)) → RecordLed trace verdicts entries
      → ((e : ArtifactFacts D) → Contains entries e → (entry_round e).epoch ≡ start.setup.settings.epoch)
      → (e : ArtifactFacts D) → Contains entries e
      → IsKnown start.setup.settings.epoch (trace ++ of_floor start.floor) verdicts e
  entry_known entries led epochs (Accepted c) h = Contains-append_left trace (of_floor start.floor) _ (led.accepted c h)
  entry_known entries led epochs (Verdict round success) h =
      subst (λ n. HasJudged success n verdicts round.view) (epochs (Verdict round success) h)
      (led.judged success round h)
  entry_known entries led epochs (NotarizeVote p m) h = tt
  entry_known entries led epochs (NullifyVote r m) h = tt
  entry_known entries led epochs (FinalizeVote p m) h = tt

  pub recovered_led : (entries : List (ArtifactFacts D))
      → first_recover_error same start.setup.settings.epoch start.setup.me start.floor entries ≡ None
      → RecordLed trace verdicts entries → Led start.setup.terms.term_length (trace ++ of_floor start.floor) verdicts
      (recovered_state same elect (new_state start.setup) start.floor start.now entries)
  unfolding recovered_state first_recover_error
  recovered_led entries none led =
      let x : StateFacts K L D = new_state start.setup in
      let y : StateFacts K L D = after_set_floor same elect x start.floor start.now in
      let parts = first_none (first_error (recovery_floor_rules x.settings.epoch start.floor))
      (first_broken_after same x.settings.epoch x.me [] entries) none in
      let bears : BearsAll [] x = new_bears x.settings x.me x.members x.elector x.terms x.elects_early in
      let going : x.failed ≡ false = refl in
      let takes : TakesEntries (λ b. b) same elect y start.now (map (as_artifact {K = K}) entries) =
      set_takes same elect x start.floor start.now (λ b. b) (map (as_artifact {K = K}) entries) going bears
      (subst (λ es. first_recover_error same x.settings.epoch x.me start.floor es ≡ None)
      (sym (entries_back K entries)) none) in
      let begun = floor_led same decides elect trace verdicts x.settings x.me x.members x.elector x.terms x.elects_early
      start.floor start.now (good_floor x refl start.floor parts.0) in
      let epochs = all_of_epoch same x.settings.epoch x.me [] entries parts.1 in
      (entries_led same decides elect x.terms.term_length x.settings.epoch (trace ++ of_floor start.floor) verdicts
      start.now entries y (entry_known entries led epochs) takes
      (begun, ap (λ s. s.epoch) (event_goes same elect x (event.SetFloor start.floor start.now)).settings)).0

-- a member

pub record MemberLed {K L D : Type 0} (term_length : ℕ) (trace : List (TraceEvent D))
    (verdicts : List (Bool × Proposal D)) (m : MemberFacts K L D) : Type 0 where
  pub life : HoldsIn (Led term_length trace verdicts) m.life
  pub judged : (success : Bool) (round : Round) → Contains m.entries (Verdict round success)
      → HasJudged success round.epoch verdicts round.view
  pub signed : (round : Round) → HasSigned trace (subject.Nullify round)
      → IsLedTo term_length round.epoch trace verdicts round.view
  pub notarized : (success : Bool) (p : Proposal D) → Contains verdicts (success, p)
      → Contains trace (Accepts (subject.Notarize p))

module _ {K L D : Type 0} (same : D → D → Bool) (decides : (d e : D) → same d e ≡ true → d ≡ e) (elect : Elect L)
    (term_length : ℕ) (trace : List (TraceEvent D)) (verdicts : List (Bool × Proposal D)) (m : MemberFacts K L D) where
  -- where nothing is done
  still_led : MemberLed term_length trace verdicts m → MemberLed term_length (trace ++ []) (verdicts ++ []) m
  still_led led = subst (λ ds. MemberLed term_length ds (verdicts ++ []) m) (sym (append-nil trace))
      (subst (λ ps. MemberLed term_length trace ps m) (sym (append-nil verdicts)) led)

  dead_led : MemberLed term_length trace verdicts m → MemberLed term_length trace verdicts (without_lifetime m)
  dead_led led = record { life = tt; judged = led.judged; signed = led.signed; notarized = led.notarized }

  -- a call

  answered_led : (call : CallFacts D) (x : StateFacts K L D) → m.life ≡ Some x → MemberLed term_length trace verdicts m
      → MemberLed term_length (trace ++ trace_of_call call (reply_of same elect x m.outstanding_work call))
      (verdicts ++ judged_by (reply_of same elect x m.outstanding_work call)) (left_of same elect x m call)
  answered_led call x alive led = by_allowed (is_allowed x m.outstanding_work call) refl
    where
      replied : ReplyFacts K D
      replied = answer same elect x m.outstanding_work call

      here : Led term_length trace verdicts x
      here = subst (HoldsIn (Led term_length trace verdicts)) alive led.life

      by_fault : (o : Option Fault) → fault_of x call ≡ o → is_allowed x m.outstanding_work call ≡ true
          → MemberLed term_length (trace ++ trace_of_call call (reply_of same elect x m.outstanding_work call))
          (verdicts ++ judged_by (reply_of same elect x m.outstanding_work call)) (left_of same elect x m call)
      by_fault None no_fault allowed = rw (allowed, no_fault) (record {
        life = call_led same decides elect term_length trace verdicts x here m.outstanding_work call allowed;
        judged = λ success round h.
            elim (Contains-append_cases m.entries (recorded_by same elect x call) (Verdict round success) h) [
              | inl old ↦ judged_more trace (trace_of_call call (answer same elect x m.outstanding_work call)) verdicts
                  (judged_by (answer same elect x m.outstanding_work call)) success round.epoch round.view
                  (led.judged success round old)
              | inr new ↦ recorded_verdict same decides elect term_length trace verdicts x here m.outstanding_work call
                  allowed success round new
            ];
        signed = λ round h. led_more trace (trace_of_call call (answer same elect x m.outstanding_work call)) verdicts
            (judged_by (answer same elect x m.outstanding_work call)) term_length round.epoch round.view
            (elim (signed_cases trace (trace_of_call call (answer same elect x m.outstanding_work call))
            (subject.Nullify round) h) [
              | inl old ↦ led.signed round old
              | inr new ↦ answered_vote same decides elect term_length trace verdicts x here m.outstanding_work call
                  round
                  new
            ]);
        notarized = λ success p h. Contains-append_left trace
            (trace_of_call call (answer same elect x m.outstanding_work call)) _
            (elim
            (Contains-append_cases verdicts (judged_by (answer same elect x m.outstanding_work call)) (success, p) h) [
              | inl old ↦ led.notarized success p old
              | inr new ↦ judged_notarized same decides elect term_length trace verdicts x here m.outstanding_work call
                  success p new
            ]);
      })
      by_fault (Some f) refused allowed = rw (allowed, refused) (still_led led)

      by_allowed : (b : Bool) → is_allowed x m.outstanding_work call ≡ b
          → MemberLed term_length (trace ++ trace_of_call call (reply_of same elect x m.outstanding_work call))
          (verdicts ++ judged_by (reply_of same elect x m.outstanding_work call)) (left_of same elect x m call)
      by_allowed true allowed = by_fault (fault_of x call) refl allowed
      by_allowed false not_allowed = rw not_allowed (still_led led)

  pub replied_led : (call : CallFacts D) (replied : ReplyFacts K D) (left : MemberFacts K L D)
      → MemberLed term_length trace verdicts m → IsCall same elect m call replied left
      → MemberLed term_length (trace ++ trace_of_call call replied) (verdicts ++ judged_by replied) left
  unfolding IsCall
  replied_led call replied left led is_call = by_life m.life refl is_call
    where
      by_life : (o : Option (StateFacts K L D)) → m.life ≡ o → AnswersAlive same elect o m call replied left
          → MemberLed term_length (trace ++ trace_of_call call replied) (verdicts ++ judged_by replied) left
      by_life None dead (tells, leaves) = rw (tells, leaves) (still_led led)
      by_life (Some x) alive (inl (tells, leaves)) = rw (tells, leaves) (answered_led call x alive led)
      by_life (Some x) alive (inr (_, tells, inl (_, leaves))) = rw (tells, leaves) (still_led led)
      by_life (Some x) alive (inr (_, tells, inr (_, _, leaves))) = rw (tells, leaves) (still_dead led)
        where
          still_dead : MemberLed term_length trace verdicts m
              → MemberLed term_length (trace ++ []) (verdicts ++ []) (without_lifetime m)
          still_dead led = subst (λ ds. MemberLed term_length ds (verdicts ++ []) (without_lifetime m))
              (sym (append-nil trace)) (subst (λ ps. MemberLed term_length trace ps (without_lifetime m))
              (sym (append-nil verdicts)) (dead_led led))

-- a restart

pub floor_signs_none : {D : Type 0} (floor : FloorFacts D) (round : Round)
    → HasSigned (of_floor floor) (subject.Nullify round) → ⊥
floor_signs_none (Genesis payload) round h = signed_none (subject.Nullify round) h
floor_signs_none (FinalizedFloor c) round h = let e =
    only_signed (Accepts (subject.Finalize c.proposal)) (subject.Nullify round) h in cc

module _ {K L D : Type 0} (same : D → D → Bool) (decides : (d e : D) → same d e ≡ true → d ≡ e) (elect : Elect L)
    (term_length : ℕ) (trace : List (TraceEvent D)) (verdicts : List (Bool × Proposal D)) where
  -- a lifetime from a copy of a record whose entries were accepted or certified
  from_copy : (n : MemberFacts K L D) (start : StartFacts K L D) (copy : List (ArtifactFacts D))
      → HasTerms term_length start.setup → RecordLed trace verdicts n.entries
      → ((round : Round) → HasSigned trace (subject.Nullify round)
      → IsLedTo term_length round.epoch trace verdicts round.view)
      → ((success : Bool) (p : Proposal D) → Contains verdicts (success, p)
      → Contains trace (Accepts (subject.Notarize p)))
      → ((e : ArtifactFacts D) → Contains copy e → Contains n.entries e)
      → first_recover_error same start.setup.settings.epoch start.setup.me start.floor copy ≡ None
      → MemberLed term_length (trace ++ of_floor start.floor) verdicts (new_lifetime same elect n start copy)
  from_copy n start copy fresh kept signed notarized within none = record {
    life = subst (λ t. Led t (trace ++ of_floor start.floor) verdicts
        (recovered_state same elect (new_state start.setup) start.floor start.now copy)) fresh.terms
        (recovered_led same decides elect trace verdicts start copy none
        (within_led trace verdicts n.entries copy within kept));
    judged = λ success round h. kept.judged success round (floor_verdict n.entries start.floor success round h);
    signed = λ round h. elim (signed_cases trace (of_floor start.floor) (subject.Nullify round) h) [
      | inl old ↦ subst (λ ps. IsLedTo term_length round.epoch (trace ++ of_floor start.floor) ps round.view)
          (append-nil verdicts)
          (led_more trace (of_floor start.floor) verdicts [] term_length round.epoch round.view (signed round old))
      | inr new ↦ absurd (floor_signs_none start.floor round new)
    ];
    notarized = λ success p h. Contains-append_left trace (of_floor start.floor) _ (notarized success p h);
  }

  module _ (m : MemberFacts K L D) (lives : MemberLives term_length trace m)
      (led : MemberLed term_length trace verdicts m) where
    record_of : (n : MemberFacts K L D) (kept : ℕ) → Between term_length trace n.closed kept n.entries
        → ((e : ArtifactFacts D) → Contains n.entries e → Contains m.entries e) → RecordLed trace verdicts n.entries
    record_of n kept between within = record {
      accepted = between.remembers.accepted;
      judged = λ success round h. led.judged success round (within (Verdict round success) h);
    }

    ended : (n : MemberFacts K L D) → ((e : ArtifactFacts D) → Contains n.entries e → Contains m.entries e)
        → MemberLed term_length (trace ++ []) (verdicts ++ []) (without_lifetime n)
    ended n within = still_led same decides elect term_length trace verdicts (without_lifetime n)
        (record {
          life = tt;
          judged = λ success round h. led.judged success round (within (Verdict round success) h);
          signed = led.signed;
          notarized = led.notarized;
        })

    continues : (n : MemberFacts K L D) (r : RestartFacts K L D) (result : Result (Unit {0}) RecoverError)
        (left : MemberFacts K L D) (kept : ℕ) → HasTerms term_length r.start.setup
        → Between term_length trace n.closed kept n.entries
        → ((e : ArtifactFacts D) → Contains n.entries e → Contains m.entries e)
        → RecoversByView same elect n r.start result left
        → MemberLed term_length (trace ++ trace_at (Restarts r) (restart_reply {K = K} {D = D} result))
        (verdicts ++ judged_by (restart_reply {K = K} {D = D} result)) left
    continues n r result left kept fresh between within (inl (is, leaves)) = rw (is, leaves) (ended n within)
    continues n r result left kept fresh between within (inr (copy, by_view, goes)) =
        by_error (recover_error same (new_state r.start.setup) r.start.floor r.start.now copy) refl goes
      where
        by_error : (o : Option RecoverError) → recover_error same (new_state r.start.setup) r.start.floor r.start.now
            copy ≡ o → MatchOption o ((result ≡ Ok tt) × (left ≡ new_lifetime same elect n r.start copy))
            (λ e. (result ≡ Err e) × (left ≡ without_lifetime n))
            → MemberLed term_length (trace ++ trace_at (Restarts r) (restart_reply {K = K} {D = D} result))
            (verdicts ++ judged_by (restart_reply {K = K} {D = D} result)) left
        by_error None none (is, leaves) =
            let begun = from_copy n r.start copy fresh (record_of n kept between within) led.signed led.notarized
            (same_entries copy n.entries by_view.of_each_view)
            (first_none (first_recover_error same r.start.setup.settings.epoch r.start.setup.me r.start.floor copy)
            _ none).0 in
            rw (is, leaves)
            (subst (λ more. MemberLed term_length (trace ++ more) (verdicts ++ [])
            (new_lifetime same elect n r.start copy)) (sym (append-nil (of_floor r.start.floor)))
            (subst (λ ps. MemberLed term_length (trace ++ of_floor r.start.floor) ps
            (new_lifetime same elect n r.start copy)) (sym (append-nil verdicts)) begun))
        by_error (Some e) due (is, leaves) = rw (is, leaves) (ended n within)

    pub restarted_led : (r : RestartFacts K L D) (result : Result (Unit {0}) RecoverError) (left : MemberFacts K L D)
        → HasTerms term_length r.start.setup → IsRestart same elect m r result left
        → MemberLed term_length (trace ++ trace_at (Restarts r) (restart_reply {K = K} {D = D} result))
        (verdicts ++ judged_by (restart_reply {K = K} {D = D} result)) left
    unfolding IsRestart
    restarted_led r result left fresh restarts =
        by_test (retention_grows m r.prune r.start.setup.settings.view_retention) restarts
      where
        by_test : (b : Bool) → IsRestartWhere same elect b m r result left
            → MemberLed term_length (trace ++ trace_at (Restarts r) (restart_reply {K = K} {D = D} result))
            (verdicts ++ judged_by (restart_reply {K = K} {D = D} result)) left
        by_test true (is, leaves) = rw (is, leaves) (still_led same decides elect term_length trace verdicts m led)
        by_test false goes =
            let between = cut_between term_length trace m r.drop lives.0 r.prune
            (between_of term_length trace m.closed lives.0 m.entries m.outstanding_work m.life lives.1) in
            continues (cut_member m r.drop r.prune) r result left between.0 fresh between.1
            (cut_within m r.drop r.prune) goes

    -- a pruning within the lifetime
    pub pruned_led : MemberLed term_length (trace ++ []) (verdicts ++ []) (pruned_member m)
    pruned_led = still_led same decides elect term_length trace verdicts (pruned_member m) (record {
      life = led.life;
      judged = λ success round h. led.judged success round
          (Contains-filtered (λ e. stays_within m (entry_view e)) m.entries (Verdict round success) h);
      signed = led.signed;
      notarized = led.notarized;
    })

-- a run

module _ {K L D : Type 0} (same : D → D → Bool) (decides : (d e : D) → same d e ≡ true → d ≡ e) (elect : Elect L)
    (term_length : ℕ) (some : 0 < term_length) where
  end_led : (steps : List (StepFacts K L D)) (replies : List (ReplyFacts K D)) (trace : List (TraceEvent D))
      (verdicts : List (Bool × Proposal D)) (m end : MemberFacts K L D) → KeepTerms term_length steps
      → MemberLives term_length trace m → MemberLed term_length trace verdicts m → IsRun same elect m steps replies end
      → MemberLed term_length (trace ++ trace_of_steps steps replies) (verdicts ++ judged_in replies) end
  end_led [] [] trace verdicts m end fresh lives led run =
      subst (MemberLed term_length (trace ++ []) (verdicts ++ [])) run
      (still_led same decides elect term_length trace verdicts m led)
  end_led [] (replied ∷ replies) trace verdicts m end fresh lives led run = absurd run
  end_led (step ∷ steps) [] trace verdicts m end fresh lives led run = absurd run
  end_led (Calls call ∷ steps) (replied ∷ replies) trace verdicts m end fresh lives led (next, is_step, rest) =
      let kept = call_lives_on same decides elect term_length some trace m call replied next lives is_step in
      let then_led = replied_led same decides elect term_length trace verdicts m call replied next led is_step in
      let last = end_led steps replies (trace ++ trace_of_call call replied)
      (verdicts ++ judged_by replied) next end fresh
      kept then_led rest in
      subst (λ ds. MemberLed term_length ds (verdicts ++ (judged_by replied ++ judged_in replies)) end)
      (append_assoc trace (trace_of_call call replied) (trace_of_steps steps replies))
      (subst (λ ps. MemberLed term_length
      ((trace ++ trace_of_call call replied) ++ trace_of_steps steps replies) ps end)
      (append_assoc verdicts (judged_by replied) (judged_in replies)) last)
  end_led (Prunes ∷ steps) (replied ∷ replies) trace verdicts m end fresh lives led (next, (tells, leaves), rest) =
      let kept : MemberLives term_length (trace ++ []) next = rw leaves (prune_lives_on term_length trace m lives) in
      let then_led : MemberLed term_length (trace ++ []) (verdicts ++ []) next =
      rw leaves (pruned_led same decides elect term_length trace verdicts m lives led) in
      let last = end_led steps replies (trace ++ []) (verdicts ++ []) next end fresh kept then_led rest in
      rw tells (subst (λ ds. MemberLed term_length ds (verdicts ++ ([] ++ judged_in replies)) end)
      (append_assoc trace [] (trace_of_steps steps replies))
      (subst (λ ps. MemberLed term_length ((trace ++ []) ++ trace_of_steps steps replies) ps end)
      (append_assoc verdicts [] (judged_in replies)) last))
  end_led (Restarts r ∷ steps) (replied ∷ replies) trace verdicts m end fresh lives led (next, is_step, rest) =
      let kept : MemberLives term_length (trace ++ trace_at (Restarts r) replied) next =
      rw is_step.2
      (restart_lives_on same decides elect term_length some trace m r is_step.0 next fresh.0 lives is_step.1) in
      let then_led : MemberLed term_length (trace ++ trace_at (Restarts r) replied)
      (verdicts ++ judged_by replied) next =
      rw is_step.2 (restarted_led same decides elect term_length trace verdicts m lives led r is_step.0 next fresh.0
      is_step.1) in
      let last = end_led steps replies (trace ++ trace_at (Restarts r) replied) (verdicts ++ judged_by replied) next end
      fresh.1 kept then_led rest in
      subst (λ ds. MemberLed term_length ds (verdicts ++ (judged_by replied ++ judged_in replies)) end)
      (append_assoc trace (trace_at (Restarts r) replied) (trace_of_steps steps replies))
      (subst (λ ps. MemberLed term_length ((trace ++ trace_at (Restarts r) replied) ++ trace_of_steps steps replies) ps
      end) (append_assoc verdicts (judged_by replied) (judged_in replies)) last)

module _ {K L D : Type 0} (same : D → D → Bool) (decides : (d e : D) → same d e ≡ true → d ≡ e) (elect : Elect L)
    (term_length i : ℕ) (s : Execution K L D) (ran : IsExecution same elect term_length i s) where
  start_led : recover_error same (new_state s.start.setup) s.start.floor s.start.now [] ≡ None
      → MemberLed term_length (of_floor s.start.floor) [] (new_member same elect s.start)
  unfolding recovered_state
  start_led none = record {
    life = subst (λ t. Led t (of_floor s.start.floor) []
        (recovered_state same elect (new_state s.start.setup) s.start.floor s.start.now [])) ran.lives.first.terms.terms
        (recovered_led same decides elect [] [] s.start []
        (first_none (first_recover_error same s.start.setup.settings.epoch s.start.setup.me s.start.floor []) _ none).0
        nothing);
    judged =
        λ success round h. absurd (let none = floor_verdict [] s.start.floor success round h in omega (arith, none.1));
    signed = λ round h. absurd (floor_signs_none s.start.floor round h);
    notarized = λ success p h. absurd (omega (arith, h.1));
  }
    where
      nothing : RecordLed {D = D} [] [] []
      nothing = record {
        accepted = λ c h. absurd (omega (arith, h.1));
        judged = λ success round h. absurd (omega (arith, h.1));
      }

  -- a run shows it of its end
  pub member_led : (end : MemberFacts K L D) → IsRun same elect (new_member same elect s.start) s.steps s.replies end
      → MemberLed term_length (trace_of s) (judged_of s) end
  unfolding IsRunFrom
  member_led end run =
      end_led same decides elect term_length ran.lives.first.terms.some s.steps s.replies (of_floor s.start.floor) []
      (new_member same elect s.start) end (terms_kept term_length i s.steps ran.lives.later)
      (start_lives same decides elect term_length s.start ran.lives.first.terms) (start_led ran.run.0) run

  pub state_led : (x : StateFacts K L D) → RunsWith same elect s x → Led term_length (trace_of s) (judged_of s) x
  state_led x (end, run, alive) = subst (HoldsIn (Led term_length (trace_of s) (judged_of s))) alive
      (member_led end run).life

  -- each vote to nullify is of a view that was led to
  pub nullified_led : (round : Round) → HasSigned (trace_of s) (subject.Nullify round)
      → IsLedTo term_length round.epoch (trace_of s) (judged_of s) round.view
  unfolding IsRunFrom
  nullified_led round h = (member_led ran.run.1 ran.run.2).signed round h

  -- each proposal that it received a verdict on has a notarization that it accepted
  pub judged_are_notarized : (success : Bool) (p : Proposal D) → Contains (judged_of s) (success, p)
      → Contains (trace_of s) (Accepts (subject.Notarize p))
  unfolding IsRunFrom
  judged_are_notarized success p h = (member_led ran.run.1 ran.run.2).notarized success p h
