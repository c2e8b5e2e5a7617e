-- Over all lifetimes of a member, each notarized view without a verdict waits to be offered, is offered, or is not
-- ready.
use Rattle.std.proofs.Common.{◌≡◌, refl, ap, sym, ◌∙◌, subst, ℕ, ◌+◌, ◌<◌, ◌≤◌, ◌⊎◌, inl, inr, Bool, true, false, ◌&&◌, if◌then◌else◌, nat_lt, map, List, [], ◌∷◌, Option, Some, None, is_some, unwrap_or, Result, Ok, Err, arith}
use Rattle.std.specs.Prelude.{MatchOption, ◌==◌}
use Rattle.std.proofs.lemmas.Bool.{false≢true, true≢false, eq-eqb, ne_eqb, leb-true, cases_eq}
use Rattle.simplex_types.specs.Certificates.{ProposalFacts, ArtifactFacts, NotarizeVote, NullifyVote, FinalizeVote, Verdict, Accepted, Notarized, Nullified, Finalized}
use Rattle.simplex_types.specs.Config.{FloorFacts, Genesis, Finalized as FinalizedFloor}
use Rattle.simplex_types.specs.declared.types.fault.Fault.{Fault}
use Rattle.simplex_types.specs.declared.types.numbers.Round.{Round}
use Rattle.simplex_round.specs.declared.round.Certification.TheVariants as certification
use Rattle.simplex_round.specs.Round.{certified_round, new_round, token_of}
use Rattle.simplex_voter.specs.Acceptance.{takes_floor, after_set_floor}
use Rattle.simplex_voter.specs.Facts.{StateFacts, Elect, round_at, round_of, round_number, is_tracked}
use Rattle.simplex_voter.specs.Refusals.{is_started}
use Rattle.simplex_voter.specs.Rules.{required_certification_parent}
use Rattle.simplex_voter.specs.Windows.{min_active}
use Rattle.simplex_voter.proofs.Gaps.{and_parts, and_both}
use Rattle.simplex_record.specs.declared.record.error.RecoverError.{RecoverError}
use Rattle.simplex_record.specs.Check.{first_error, recovery_floor_rules, first_broken_after, first_recover_error}
use Rattle.simplex_record.specs.Entries.{entry_view}
use Rattle.simplex_record.specs.Events as event
use Rattle.simplex_record.specs.Events.{Event, IsEvent, after_event}
use Rattle.simplex_record.specs.Recovery.{as_artifact, after_entry, after_kept_entry, after_entries, recovered_state, recover_error, TakesEntry, TakesEntries}
use Rattle.simplex_record.specs.Start.{Setup, StartFacts, new_state}
use Rattle.simplex_record.proofs.AllowedRecords.{new_bears}
use Rattle.simplex_record.proofs.HeldEntries.{BearsAll}
use Rattle.simplex_record.proofs.Recoveries.{set_takes}
use Rattle.simplex_record.proofs.Start.{good_floor}
use Rattle.simplex_member.specs.CallConditions.{is_allowed, fault_of}
use Rattle.simplex_member.specs.Calls.{CallFacts, ReplyFacts}
use Rattle.simplex_member.specs.MemberFacts.{MemberFacts, IsCall, AnswersAlive, unless_retained, with_call, without_lifetime}
use Rattle.simplex_member.specs.OutstandingWork.{no_outstanding_work, is_among, is_offered}
use Rattle.simplex_member.specs.Restarts.{RestartFacts, cut_member, new_lifetime, retention_grows, RecoversByView, IsRestart, IsRestartWhere}
use Rattle.simplex_member.specs.Runs.{StepFacts, Calls, Prunes, Restarts, IsStep, IsRun}
use Rattle.laws_safety.specs.Executions.{new_member}
use Rattle.laws_safety.specs.MemberHistory.{HasHistory}
use Rattle.laws_safety.specs.Traces.{TraceEvent}
use Rattle.laws_safety.proofs.frames.RunsKeep.{HoldsIn}
use Rattle.laws_safety.proofs.records.NewLives.{first_none}
use Rattle.laws_history.specs.HistoryFacts.{verdict_of}
use Rattle.laws_history.specs.HistoryFolds.{or_new, verdict_of_event}
use Rattle.laws_history.specs.WorkRequests.{names}
use Rattle.laws_history.proofs.EventFacts.{left_from}
use Rattle.laws_history.proofs.Lives.{entry_back, entries_back, view_back}
use Rattle.laws_history.proofs.Worked.{is_tracked-put}
use Rattle.laws_meetings.proofs.LedViews.{taken_parts}
use Rattle.laws_meetings.proofs.CandidateViews.{none_before, some_so, IsConsistent, IsNotarizedIfJudged, IsBased, IsUnready, replays_verdict, clears, named_still, under_way, waits_so, wakes_so, old, kept, below, goes, works, verdict_is, notarization_is, certification_is, still_notarized, consistent_after, notarized_if_judged_after, raised_based, based_after, unready_after}
use Rattle.laws_meetings.proofs.CandidateOffers.{Waits, OffersAll, is_handle, event_offers, call_offers}

-- ---- a lifetime that begins with a floor and a record

-- a state of a lifetime in which nothing was offered
abbrev pub OffersNone : {K L D : Type 0} → Elect L → StateFacts K L D → Type 0
OffersNone elect x = OffersAll elect no_outstanding_work x

module _ {K L D : Type 0} (same : D → D → Bool) (decides : (d e : D) → same d e ≡ true → d ≡ e) (elect : Elect L)
  where
    plain_event : (x : StateFacts K L D) (e : Event K D) → IsEvent x e → replays_verdict e ≡ false
        → clears e ≡ false → is_handle e ≡ false → OffersNone elect x
        → OffersNone elect (after_event same elect x e)
    plain_event x e takes plain stays no_handle was =
        event_offers same decides elect x e takes no_outstanding_work no_outstanding_work plain (λ v is. inl is)
        (λ v token is. absurd (true≢false (sym (ap is_handle is) ∙ no_handle))) was stays

    -- a verdict is replayed, and then given
    module _ (x : StateFacts K L D) (round : Round) (success : Bool) (now : ℕ)
        (replays : IsEvent {K = K} x (event.Replay (Verdict round success)))
        (gives : IsEvent {K = K} (after_event same elect x (event.Replay (Verdict round success)))
        (event.Certified round.view success now))
        (was : OffersNone elect x) where
      abbrev w : ℕ
      w = round.view

      abbrev first : Event K D
      first = event.Replay (Verdict round success)

      abbrev second : Event K D
      second = event.Certified round.view success now

      abbrev y : StateFacts K L D
      y = after_event same elect x first

      abbrev z : StateFacts K L D
      z = after_event same elect y second

      tracked : is_tracked y w ≡ true
      tracked = is_tracked-put x w w (certified_round (round_of x w) success) ∙ rw (eq-eqb w w refl) refl

      module _ (v : ℕ) (above : z.finalized < v) where
        over : y.finalized < v
        over = old same decides elect y second gives v above

        up : x.finalized < v
        up = old same decides elect x first replays v over

        kept_first : left_from x first ≤ v
        kept_first = kept same decides elect x first replays v over

        kept_second : left_from y second ≤ v
        kept_second = kept same decides elect y second gives v above

        verdict_first : verdict_of (round_of y v).certification
            ≡ or_new (verdict_of (round_of x v).certification) (if v == w then Some success else None)
        verdict_first = verdict_is same decides elect x first replays v kept_first

        judged_after : IsNotarizedIfJudged z v
        judged_after = by_view (cases_eq v w)
          where
            by_view : ((v ≡ w) ⊎ (v ≡ w → ⊥)) → IsNotarizedIfJudged z v
            by_view (inl here) is =
                still_notarized same decides elect y second gives v kept_second
                (subst (λ u. is_some (round_of y u).notarization ≡ true) (sym here)
                (taken_parts success (new_round y.me y.members (round_number y w)) (round_at y w) tracked
                (and_parts (is_started y) _ gives).1).0)
            by_view (inr other) is =
                notarized_if_judged_after same decides elect y second gives v above refl
                (λ judged. still_notarized same decides elect x first replays v kept_first
                (was.judged v up (sym (ap is_some (verdict_first ∙ unsaid other)) ∙ judged))) is
              where
                unsaid : (v ≡ w → ⊥)
                    → or_new (verdict_of (round_of x v).certification) (if v == w then Some success else None)
                    ≡ verdict_of (round_of x v).certification
                unsaid apart = rw (ne_eqb v w apart) refl

        offered_after : is_some (token_of (round_of z v).certification) ≡ true
            → is_offered {K = K} {D = D} no_outstanding_work v ≡ true
        offered_after there =
            elim (under_way y v second (round_of y v).certification
            (sym (ap (λ c. is_some (token_of c)) (certification_is same decides elect y second gives v kept_second))
            ∙ there)) [
              | inl before ↦ elim (under_way x v first (round_of x v).certification
                  (sym (ap (λ c. is_some (token_of c))
                  (certification_is same decides elect x first replays v kept_first)) ∙ before)) [
                    | inl at_first ↦ was.offered v up at_first
                    | inr (token, is) ↦ absurd (false≢true (ap is_handle is))
                  ]
              | inr (token, is) ↦ absurd (false≢true (ap is_handle is))
            ]

        module _ (c : ProposalFacts D) (noted : (round_of x v).notarization ≡ Some c)
            (noted_first : (round_of y v).notarization ≡ Some c) where
          named_after : is_among v y.named ≡ true → is_among v z.named ≡ true
          named_after named =
              (works same decides elect y second gives).named v
              ∙ ap (unwrap_or (names elect v y second)) named
              ∙ named_still elect y v second refl (below same decides elect y second gives v above)

          consistent_first : IsConsistent v (round_of y v)
          consistent_first = consistent_after same decides elect x first replays v over (was.consistent v up)

          -- what required the verdict is named by it
          woken : success ≡ true → v ≡ w + 1 → required_certification_parent elect y v c.proposal ≡ Some w
              → is_among v z.named ≡ true
          woken good next required =
              (works same decides elect y second gives).named v
              ∙ ap (λ s. unwrap_or (names elect v y (event.Certified w s now)) (is_among v y.named)) good
              ∙ ap (λ b. unwrap_or (if b then Some true else None) (is_among v y.named))
              (and_both (is_tracked y w) _ tracked
              (wakes_so elect y v y.finalized w next over
              (waits_so elect y v c.proposal w (ap is_some noted_first)
              (consistent_first.notarized c noted_first).0 next required)))

          waits_again : IsUnready elect y v → Waits elect no_outstanding_work z v
          waits_again unready =
              elim (unready_after same decides elect y second gives v above c noted_first consistent_first
              (λ q higher. (consistent_after same decides elect x first replays q higher
              (was.consistent q (old same decides elect x first replays q higher))).unfinalized) unready) [
                | inl still ↦ inr (inr still)
                | inr (inl named) ↦ inl named
                | inr (inr replayed) ↦ absurd (false≢true (ap replays_verdict replayed.replays))
              ]

          waits_unready : IsUnready elect x v → Waits elect no_outstanding_work z v
          waits_unready unready =
              elim (unready_after same decides elect x first replays v over c noted (was.consistent v up)
              (λ q higher. (was.consistent q higher).unfinalized) unready) [
                | inl still ↦ waits_again still
                | inr (inl named) ↦ inl (named_after named)
                | inr (inr replayed) ↦
                    (let is : first ≡ event.Replay (Verdict replayed.round true) = replayed.replays in
                    let one : round ≡ replayed.round = cc in
                    let good : success ≡ true = cc in
                    inl (woken good (subst (λ (r : Round). v ≡ r.view + 1) (sym one) replayed.next)
                    (subst (λ (r : Round). required_certification_parent elect y v c.proposal ≡ Some r.view) (sym one)
                    replayed.required)))
              ]

        waits_after : is_some (round_of z v).notarization ≡ true → verdict_of (round_of z v).certification ≡ None
            → Waits elect no_outstanding_work z v
        waits_after notarized unjudged =
            let found = some_so (round_of z v).notarization notarized in
            let noted_first : (round_of y v).notarization ≡ Some found.0 =
            sym (notarization_is same decides elect y second gives v kept_second) ∙ found.1 in
            let noted : (round_of x v).notarization ≡ Some found.0 =
            sym (notarization_is same decides elect x first replays v kept_first) ∙ noted_first in
            let unjudged_first = (none_before (verdict_of (round_of y v).certification)
            (verdict_of_event (is_tracked y) v second)
            (sym (verdict_is same decides elect y second gives v kept_second) ∙ unjudged)).0 in
            let unjudged_then = (none_before (verdict_of (round_of x v).certification)
            (if v == w then Some success else None) (sym verdict_first ∙ unjudged_first)).0 in
            elim (was.waits v up (ap is_some noted) unjudged_then) [
              | inl named ↦ inl (named_after found.0 noted noted_first
                  ((works same decides elect x first replays).named v ∙ named))
              | inr (inl opened) ↦ absurd (false≢true opened)
              | inr (inr unready) ↦ waits_unready found.0 noted noted_first unready
            ]

      verdict_offers : OffersNone elect z
      verdict_offers = record {
        based = based_after same decides elect y second gives
            (λ (raises : y.finalized < 0). absurd (omega (arith, raises)))
            (based_after same decides elect x first replays
            (λ (raises : x.finalized < 0). absurd (omega (arith, raises))) was.based);
        consistent = λ v above. consistent_after same decides elect y second gives v above
            (consistent_after same decides elect x first replays v (over v above) (was.consistent v (up v above)));
        judged = judged_after;
        offered = offered_after;
        waits = waits_after;
      }

    module _ (now : ℕ) where
      retaken_offers : (x : StateFacts K L D) (e : ArtifactFacts D)
          → TakesEntry (λ b. b) same elect x now (as_artifact {K = K} e) → OffersNone elect x
          → OffersNone elect (after_entry same elect x now e)
      retaken_offers x (NotarizeVote p signer) takes was =
          plain_event x (event.Replay (NotarizeVote p signer)) takes.replays refl refl refl was
      retaken_offers x (NullifyVote round signer) takes was =
          plain_event x (event.Replay (NullifyVote round signer)) takes.replays refl refl refl was
      retaken_offers x (FinalizeVote p signer) takes was =
          plain_event x (event.Replay (FinalizeVote p signer)) takes.replays refl refl refl was
      retaken_offers x (Verdict round success) takes was =
          verdict_offers x round success now takes.replays takes.gives was
      retaken_offers x (Accepted (Notarized c)) takes was =
          plain_event (after_event same elect x (event.AddNotarization c)) (event.Replay (Accepted (Notarized c)))
          takes.replays refl refl refl (plain_event x (event.AddNotarization c) takes.kept refl refl refl was)
      retaken_offers x (Accepted (Nullified c)) takes was =
          plain_event (after_event same elect x (event.AddNullification c now)) (event.Replay (Accepted (Nullified c)))
          takes.replays refl refl refl (plain_event x (event.AddNullification c now) takes.kept refl refl refl was)
      retaken_offers x (Accepted (Finalized c)) takes was =
          plain_event (after_event same elect x (event.AddFinalization c now)) (event.Replay (Accepted (Finalized c)))
          takes.replays refl refl refl (plain_event x (event.AddFinalization c now) takes.kept refl refl refl was)

      taken_offers : (x : StateFacts K L D) (e : ArtifactFacts D)
          → (nat_lt (entry_view e) (min_active x) ≡ false
          → TakesEntry (λ b. b) same elect x now (as_artifact {K = K} e))
          → OffersNone elect x → OffersNone elect (after_kept_entry same elect x now e)
      unfolding after_kept_entry
      taken_offers x e takes was = by_view (nat_lt (entry_view e) (min_active x)) refl
        where
          by_view : (b : Bool) → nat_lt (entry_view e) (min_active x) ≡ b
              → OffersNone elect (if b then x else after_entry same elect x now e)
          by_view true under = was
          by_view false above = retaken_offers x e (takes above) was

      entries_offer : (entries : List (ArtifactFacts D)) (x : StateFacts K L D)
          → TakesEntries (λ b. b) same elect x now (map (as_artifact {K = K}) entries) → OffersNone elect x
          → OffersNone elect (after_entries same elect x now entries)
      entries_offer [] x takes was = was
      entries_offer (e ∷ rest) x takes was =
          let next = taken_offers x e
          (λ above. takes.0.taken (ap (λ v. nat_lt v (min_active x)) (view_back K e) ∙ above)) was in
          entries_offer rest (after_kept_entry same elect x now e)
          (subst (λ a. TakesEntries (λ b. b) same elect (after_kept_entry same elect x now a) now
          (map (as_artifact {K = K}) rest)) (entry_back K e) takes.1) next

    -- ---- the floor

    module _ (setup : Setup K L) (floor : FloorFacts D) (now : ℕ)
        (takes : takes_floor {K = K} {L = L} (new_state setup) floor ≡ true) where
      abbrev new : StateFacts K L D
      new = new_state setup

      abbrev set : Event K D
      set = event.SetFloor floor now

      abbrev begun : StateFacts K L D
      begun = after_event same elect new set

      new_consistent : (v : ℕ) → IsConsistent v (round_of new v)
      new_consistent v = record {
        notarized = λ c is. absurd (false≢true (ap is_some is));
        unfinalized = refl;
        unaborted = refl;
      }

      floor_based : IsBased begun
      floor_based = by_floor floor takes
        where
          by_floor : (f : FloorFacts D) → takes_floor new f ≡ true
              → IsBased (after_event same elect new (event.SetFloor f now))
          by_floor (Genesis payload) good =
              let is = goes same decides elect new (event.SetFloor (Genesis payload) now) good in
              inl (is.finalized, ap is_some is.genesis)
          by_floor (FinalizedFloor c) good =
              let some : 1 ≤ c.proposal.round.view = leb-true 1 c.proposal.round.view
              (and_parts ((new.current == 0) && (c.proposal.round.epoch == setup.settings.epoch)) _ good).1 in
              let above : 0 < c.proposal.round.view = omega (arith, some) in
              raised_based same decides elect new (event.SetFloor (FinalizedFloor c) now) good above
              (new_consistent c.proposal.round.view)

      none_noted : (v : ℕ) → begun.finalized < v → is_some (round_of begun v).notarization ≡ false
      none_noted v above = by_floor floor takes (kept same decides elect new set takes v above)
        where
          by_floor : (f : FloorFacts D) → takes_floor new f ≡ true → 0 ≤ v
              → is_some (round_of (after_event same elect new (event.SetFloor f now)) v).notarization ≡ false
          by_floor (Genesis payload) good low =
              ap is_some (notarization_is same decides elect new (event.SetFloor (Genesis payload) now) good v low)
          by_floor (FinalizedFloor c) good low =
              ap is_some (notarization_is same decides elect new (event.SetFloor (FinalizedFloor c) now) good v low)

      pub floor_offers : OffersNone elect begun
      floor_offers = record {
        based = floor_based;
        consistent = λ v above. consistent_after same decides elect new set takes v above (new_consistent v);
        judged = λ v above. notarized_if_judged_after same decides elect new set takes v above refl
            (λ is. absurd (false≢true is));
        offered = λ v above there. elim (under_way new v set certification.Ready
            (sym (ap (λ c. is_some (token_of c)) (certification_is same decides elect new set takes v
            (kept same decides elect new set takes v above))) ∙ there)) [
              | inl before ↦ absurd (false≢true before)
              | inr (token, is) ↦ absurd (false≢true (ap is_handle is))
            ];
        waits = λ v above notarized unjudged. absurd (true≢false (sym notarized ∙ none_noted v above));
      }

    recovered_offers : (start : StartFacts K L D) (entries : List (ArtifactFacts D))
        → recover_error same (new_state start.setup) start.floor start.now entries ≡ None
        → OffersNone elect (recovered_state same elect (new_state start.setup) start.floor start.now entries)
    unfolding recovered_state first_recover_error
    recovered_offers start entries accepted =
        let x : StateFacts K L D = new_state start.setup in
        let none = (first_none (first_recover_error same x.settings.epoch x.me start.floor entries) _ accepted).0 in
        let good = good_floor x refl start.floor (first_none (first_error (recovery_floor_rules x.settings.epoch
        start.floor)) (first_broken_after same x.settings.epoch x.me [] entries) none).0 in
        let bears : BearsAll [] x = new_bears x.settings x.me x.members x.elector x.terms x.elects_early in
        let going : x.failed ≡ false = refl in
        entries_offer start.now entries (after_set_floor same elect x start.floor start.now)
        (set_takes same elect x start.floor start.now (λ b. b) (map (as_artifact {K = K}) entries) going bears
        (subst (λ es. first_recover_error same x.settings.epoch x.me start.floor es ≡ None)
        (sym (entries_back K entries)) none))
        (floor_offers start.setup start.floor start.now good)

-- ---- the steps of a member

-- so it is of a member that has not failed, by what it has offered
abbrev pub OffersIn : {K L D : Type 0} → Elect L → MemberFacts K L D → Type 0
OffersIn elect m = HoldsIn (OffersAll elect m.outstanding_work) m.life

module _ {K L D : Type 0} (same : D → D → Bool) (decides : (d e : D) → same d e ≡ true → d ≡ e)
    (itself : (d : D) → same d d ≡ true) (elect : Elect L) where
  called_offers : (m left : MemberFacts K L D) (call : CallFacts D) (replied : ReplyFacts K D)
      → IsCall same elect m call replied left → OffersIn elect m → OffersIn elect left
  unfolding IsCall
  called_offers m left call replied is was = by_life m.life refl is
    where
      by_test : (x : StateFacts K L D) → m.life ≡ Some x → (b : Bool) → is_allowed x m.outstanding_work call ≡ b
          → (due : Option Fault)
          → OffersIn elect (if b then unless_retained due m (with_call same elect x m call) else m)
      by_test x alive false allowed due = was
      by_test x alive true allowed (Some fault) = was
      by_test x alive true allowed None =
          call_offers same decides itself elect x m.outstanding_work call allowed
          (subst (HoldsIn (OffersAll elect m.outstanding_work)) alive was)

      by_life : (o : Option (StateFacts K L D)) → m.life ≡ o → AnswersAlive same elect o m call replied left
          → OffersIn elect left
      by_life None dead (tells, leaves) = subst (OffersIn elect) (sym leaves) was
      by_life (Some x) alive (inl (tells, leaves)) =
          subst (OffersIn elect) (sym leaves)
          (by_test x alive (is_allowed x m.outstanding_work call) refl (fault_of x call))
      by_life (Some x) alive (inr (allowed, tells, inl (room, leaves))) = subst (OffersIn elect) (sym leaves) was
      by_life (Some x) alive (inr (allowed, tells, inr (fault, falls, leaves))) =
          subst (OffersIn elect) (sym leaves) tt

  from_copy : (n left : MemberFacts K L D) (start : StartFacts K L D) (result : Result (Unit {0}) RecoverError)
      → RecoversByView same elect n start result left → OffersIn elect left
  from_copy n left start result (inl (is, leaves)) = subst (OffersIn elect) (sym leaves) tt
  from_copy n left start result (inr (copy, by_view, goes)) =
      by_error (recover_error same (new_state start.setup) start.floor start.now copy) refl goes
    where
      by_error : (o : Option RecoverError) → recover_error same (new_state start.setup) start.floor start.now copy ≡ o
          → MatchOption o ((result ≡ Ok tt) × (left ≡ new_lifetime same elect n start copy))
          (λ e. (result ≡ Err e) × (left ≡ without_lifetime n)) → OffersIn elect left
      by_error None none (_, leaves) =
          subst (OffersIn elect) (sym leaves) (recovered_offers same decides elect start copy none)
      by_error (Some e) due (_, leaves) = subst (OffersIn elect) (sym leaves) tt

  restarted_offers : (m left : MemberFacts K L D) (r : RestartFacts K L D) (result : Result (Unit {0}) RecoverError)
      → OffersIn elect m → IsRestart same elect m r result left → OffersIn elect left
  unfolding IsRestart
  restarted_offers m left r result was restarts =
      by_test (retention_grows m r.prune r.start.setup.settings.view_retention) restarts
    where
      by_test : (b : Bool) → IsRestartWhere same elect b m r result left → OffersIn elect left
      by_test true (_, leaves) = subst (OffersIn elect) (sym leaves) was
      by_test false restarts_so = from_copy (cut_member m r.drop r.prune) left r.start result restarts_so

  stepped_offers : (m next : MemberFacts K L D) (step : StepFacts K L D) (replied : ReplyFacts K D)
      → IsStep same elect m step replied next → OffersIn elect m → OffersIn elect next
  stepped_offers m next (Calls call) replied is was = called_offers m next call replied is was
  stepped_offers m next Prunes replied is was = subst (OffersIn elect) (sym is.1) was
  stepped_offers m next (Restarts r) replied is was = restarted_offers m next r is.0 was is.1

  run_offers : (steps : List (StepFacts K L D)) (replies : List (ReplyFacts K D)) (m end : MemberFacts K L D)
      → IsRun same elect m steps replies end → OffersIn elect m → OffersIn elect end
  run_offers [] [] m end run was = subst (OffersIn elect) run was
  run_offers [] (replied ∷ replies) m end run was = absurd run
  run_offers (step ∷ steps) [] m end run was = absurd run
  run_offers (step ∷ steps) (replied ∷ replies) m end (next, is_step, rest) was =
      run_offers steps replies next end rest (stepped_offers m next step replied is_step was)

  execution_offers : (start : StartFacts K L D) (steps : List (StepFacts K L D)) (replies : List (ReplyFacts K D))
      (end : MemberFacts K L D) → recover_error same (new_state start.setup) start.floor start.now [] ≡ None
      → IsRun same elect (new_member same elect start) steps replies end → OffersIn elect end
  unfolding recovered_state
  execution_offers start steps replies end accepted run =
      run_offers steps replies (new_member same elect start) end run
      (recovered_offers same decides elect start [] accepted)

  -- a member with a history
  pub history_offers : (term_length i : ℕ) (trace : List (TraceEvent D)) (m : MemberFacts K L D)
      → HasHistory same elect term_length i trace m → OffersIn elect m
  history_offers term_length i trace m has =
      let s = has.execution in
      execution_offers s.start s.steps s.replies m has.executed.accepted has.executed.run
