-- What led a member to its current view: certificates that its state tracks.
use Rattle.std.proofs.Common.{◌≡◌, refl, ap, sym, ◌∙◌, subst, ℕ, ◌+◌, ◌<◌, ◌≤◌, max, inl, inr, Bool, true, false, not, ◌&&◌, ◌||◌, if◌then◌else◌, nat_le, Option, Some, None, is_some, unwrap_or, arith}
use Rattle.std.specs.Prelude.{◌==◌, option_map}
use Rattle.std.specs.Option.{option_map_or, option_or}
use Rattle.std.proofs.lemmas.Bool.{false≢true, true≢false, eq-eqb, leb-true, cases_lt}
use Rattle.simplex_types.specs.Certificates.{ProposalFacts, NullificationFacts, CertificateFacts, Notarized, Nullified, Finalized}
use Rattle.simplex_types.specs.Config.{FloorFacts, Genesis, Finalized as FinalizedFloor}
use Rattle.simplex_types.specs.Terms.{next_term_start}
use Rattle.simplex_round.specs.declared.round.Certification.{Certification}
use Rattle.simplex_round.specs.declared.round.Certification.TheVariants as certification
use Rattle.simplex_round.specs.Round.{RoundFacts, new_round, is_certified, is_judged}
use Rattle.simplex_voter.specs.Acceptance.{takes_floor}
use Rattle.simplex_voter.specs.Facts.{StateFacts, Elect, round_at, round_of, round_number, is_tracked}
use Rattle.simplex_voter.specs.Refusals.{is_started}
use Rattle.simplex_voter.specs.Windows.{min_active}
use Rattle.simplex_voter.proofs.Gaps.{and_parts, and_both, or_right}
use Rattle.simplex_record.specs.Events as event
use Rattle.simplex_record.specs.Events.{Event, IsEvent, after_event, covers_from, finalized_by_event, is_prune}
use Rattle.simplex_member.specs.OutstandingWork.{is_among}
use Rattle.laws_safety.specs.LifetimeLaws.{KindOfCertificate, Notarization, Nullification, Finalization}
use Rattle.laws_safety.proofs.frames.CallsMake.{is_floor}
use Rattle.laws_safety.proofs.frames.Sound.{event_ahead}
use Rattle.laws_history.specs.HistoryFacts.{verdict_of}
use Rattle.laws_history.specs.HistoryFolds.{or_new, entered_by, verdict_of_event, brings_notarization, brings_nullification, brings_finalization}
use Rattle.laws_history.proofs.EventFacts.{FollowsEvent, left_from}
use Rattle.laws_history.proofs.UnchangedHistories.{Known}
use Rattle.laws_progress.proofs.runs.Brought.{some_still, some_brought}
use Rattle.laws_meetings.specs.Meetings.{next_view}
use Rattle.laws_meetings.specs.TrackedCertificates.{tracks, has_certified}
use Rattle.laws_meetings.proofs.EventCertificates.{follows}

-- the current view is the first one, or one to which a certificate leads that the state tracks
pub data IsLed {K L D : Type 0} (x : StateFacts K L D) : Type 0 where
  IsFirst : x.current ≡ 1 → IsLed x
  PastFinalized : x.current ≡ x.finalized + 1 → tracks Finalization x x.finalized ≡ true → IsLed x
  PastCertified : (v : ℕ) → x.current ≡ v + 1 → tracks Notarization x v ≡ true → has_certified x v ≡ true → IsLed x
  PastNullified : (v : ℕ) → 1 ≤ v → x.current ≡ next_view Nullification x v → tracks Nullification x v ≡ true
      → is_among v x.nullified ≡ true → IsLed x

-- besides, it lies above the last finalized view
pub record IsLedAhead {K L D : Type 0} (x : StateFacts K L D) : Type 0 where
  pub ahead : x.finalized < x.current
  pub led : IsLed x

-- no nullification that `x` knows covers the last finalized view of `y`
abbrev pub IsUncovered : {K L D : Type 0} → StateFacts K L D → StateFacts K L D → Type 0
IsUncovered x y =
    (v : ℕ) → is_among v x.nullified ≡ true → 1 ≤ v → v ≤ y.finalized → next_view Nullification x v ≤ y.finalized

-- ---- verdicts

pub certified_so : (c : Certification) → verdict_of c ≡ Some true → is_certified c ≡ true
certified_so certification.Ready is = absurd (false≢true (ap is_some is))
certified_so (certification.Outstanding token) is = absurd (false≢true (ap is_some is))
certified_so (certification.Judged true) is = refl
certified_so (certification.Judged false) is = absurd (false≢true (ap (λ o. unwrap_or o true) is))
certified_so certification.Aborted is = absurd (false≢true (ap is_some is))

pub verdict_so : (c : Certification) → is_certified c ≡ true → verdict_of c ≡ Some true
verdict_so certification.Ready is = absurd (false≢true is)
verdict_so (certification.Outstanding token) is = absurd (false≢true is)
verdict_so (certification.Judged true) is = refl
verdict_so (certification.Judged false) is = absurd (false≢true is)
verdict_so certification.Aborted is = absurd (false≢true is)

-- a true verdict, where there is no false one
judged_so : (c : Certification) → not (is_judged false c) ≡ true → option_or (verdict_of c) (Some true) ≡ Some true
judged_so certification.Ready is = refl
judged_so (certification.Outstanding token) is = refl
judged_so (certification.Judged true) is = refl
judged_so (certification.Judged false) is = absurd (false≢true is)
judged_so certification.Aborted is = refl

-- what is there stays
pub kept_so : {A : Type 0} (old new : Option A) (a : A) → old ≡ Some a → or_new old new ≡ Some a
kept_so old None a is = is
kept_so None (Some b) a is = absurd (false≢true (ap is_some is))
kept_so (Some c) (Some b) a is = is

pub unmapped : {A B : Type 0} (f : A → B) (o : Option A) → is_some (option_map f o) ≡ is_some o
unmapped f None = refl
unmapped f (Some a) = refl

-- ---- an event

module _ {K L D : Type 0} (same : D → D → Bool) (decides : (d e : D) → same d e ≡ true → d ≡ e) (elect : Elect L)
    (x : StateFacts K L D) (e : Event K D) (takes : IsEvent x e) where
  abbrev after : StateFacts K L D
  after = after_event same elect x e

  goes : FollowsEvent same elect e x after
  goes = follows same decides elect x e takes

  low : left_from x e ≤ x.finalized
  low = by_prune (is_prune e)
    where
      by_prune : (b : Bool) → (if b then min_active x else 0) ≤ x.finalized
      by_prune true = omega arith
      by_prune false = omega arith

  -- a tracked certificate stays
  tracked_still : (kind : KindOfCertificate) (v : ℕ) → left_from x e ≤ v → tracks kind x v ≡ true
      → tracks kind after v ≡ true
  tracked_still Notarization v kept is =
      ap (λ (k : Known D). is_some (option_map Notarized k.notarization)) (goes.rounds v kept)
      ∙ unmapped Notarized (or_new (round_of x v).notarization (brings_notarization v e))
      ∙ some_still (round_of x v).notarization _ (sym (unmapped Notarized (round_of x v).notarization) ∙ is)
  tracked_still Nullification v kept is =
      ap (λ (k : Known D). is_some (option_map {U = CertificateFacts D} Nullified k.nullification)) (goes.rounds v kept)
      ∙ unmapped {B = CertificateFacts D} Nullified (or_new (round_of x v).nullification (brings_nullification v e))
      ∙ some_still (round_of x v).nullification _
      (sym (unmapped {B = CertificateFacts D} Nullified (round_of x v).nullification) ∙ is)
  tracked_still Finalization v kept is =
      ap (λ (k : Known D). is_some (option_map Finalized k.finalization)) (goes.rounds v kept)
      ∙ unmapped Finalized (or_new (round_of x v).finalization (brings_finalization v e))
      ∙ some_still (round_of x v).finalization _ (sym (unmapped Finalized (round_of x v).finalization) ∙ is)

  -- and so does a true verdict
  certified_still : (v : ℕ) → left_from x e ≤ v → has_certified x v ≡ true → has_certified after v ≡ true
  certified_still v kept is =
      certified_so (round_of after v).certification
      (ap (λ (k : Known D). k.verdict) (goes.rounds v kept)
      ∙ kept_so (verdict_of (round_of x v).certification) (verdict_of_event (is_tracked x) v e) true
      (verdict_so (round_of x v).certification is))

  -- and a nullified view
  nullified_still : (v : ℕ) → left_from x e ≤ v → is_among v x.nullified ≡ true → is_among v after.nullified ≡ true
  nullified_still v kept is = goes.nullified v kept ∙ or_right (covers_from v e) (is_among v x.nullified) is

  next_still : (v : ℕ) → next_view Nullification after v ≡ next_view Nullification x v
  next_still v = ap (λ t. next_term_start t.term_length v) goes.terms

  module _ (since : IsLedAhead x) (uncovered : is_prune e ≡ true → IsUncovered x x) where
    ahead_still : after.finalized < after.current
    ahead_still = event_ahead same elect x e (inl since.ahead)

    rises : x.finalized ≤ after.finalized
    rises = let is = goes.finalized in omega (arith, is)

    -- a nullification that is dropped led to no view above the last finalized one
    left_behind : (v : ℕ) → v < left_from x e → is_among v x.nullified ≡ true → 1 ≤ v
        → next_view Nullification x v ≤ x.finalized
    left_behind v below known some = by_prune (is_prune e) refl below
      where
        by_prune : (b : Bool) → is_prune e ≡ b → v < (if b then min_active x else 0)
            → next_view Nullification x v ≤ x.finalized
        by_prune true prunes under = uncovered prunes v known some (omega (arith, under))
        by_prune false none under = absurd (omega (arith, under))

    -- where no view is entered
    still_led : after.current ≡ x.current → IsLed after
    still_led stays = by_led since.led
      where
        by_led : IsLed x → IsLed after
        by_led (IsFirst is) = IsFirst (stays ∙ is)
        by_led (PastFinalized is there) =
            let ahead = ahead_still in
            let up = rises in
            let one : after.finalized ≡ x.finalized = omega (arith, ahead, up, stays, is) in
            PastFinalized (stays ∙ is ∙ ap (λ v. v + 1) (sym one))
            (subst (λ v. tracks Finalization after v ≡ true) (sym one)
            (tracked_still Finalization x.finalized low there))
        by_led (PastCertified v is there judged) =
            let ahead = since.ahead in
            let down = low in
            let kept : left_from x e ≤ v = omega (arith, ahead, is, down) in
            PastCertified v (stays ∙ is) (tracked_still Notarization v kept there) (certified_still v kept judged)
        by_led (PastNullified v some is there known) = elim (cases_lt v (left_from x e)) [
          | inl below ↦
              (let ahead = since.ahead in
              let behind = left_behind v below known some in
              absurd (omega (arith, ahead, behind, is)))
          | inr kept ↦ PastNullified v some (stays ∙ is ∙ sym (next_still v))
              (tracked_still Nullification v kept there) (nullified_still v kept known)
        ]

higher : (a b : ℕ) → a < b → max a b ≡ b
higher a b above = omega arith

-- a tracked view that takes a verdict has its notarization, and no other verdict
pub taken_parts : {K D : Type 0} (success : Bool) (d : RoundFacts K D) (o : Option (RoundFacts K D)) → is_some o ≡ true
    → option_map_or (λ (r : RoundFacts K D). is_some r.notarization && not (is_judged (not success) r.certification)) o
    true ≡ true
    → (is_some (unwrap_or o d).notarization ≡ true)
    × (not (is_judged (not success) (unwrap_or o d).certification) ≡ true)
taken_parts success d None there is = absurd (false≢true there)
taken_parts success d (Some r) there is = and_parts (is_some r.notarization) _ is

module _ {K L D : Type 0} (same : D → D → Bool) (decides : (d e : D) → same d e ≡ true → d ≡ e) (elect : Elect L)
    (x : StateFacts K L D) where
  abbrev enters : Event K D → ℕ
  enters e = entered_by x.terms.term_length (is_tracked x) e

  nullified : (c : NullificationFacts) (now : ℕ) → IsEvent {K = K} x (event.AddNullification c now)
      → x.current < next_term_start x.terms.term_length c.round.view
      → IsLed (after_event same elect x (event.AddNullification c now))
  nullified c now takes above =
      let e : Event K D = event.AddNullification c now in
      let v = c.round.view in
      let y = after_event same elect x e in
      let goes = follows same decides elect x e takes in
      let current = goes.current in
      let entered : y.current ≡ next_term_start x.terms.term_length v =
      current ∙ higher x.current (next_term_start x.terms.term_length v) above in
      let admitted = (and_parts (is_started x && (c.round.epoch == x.settings.epoch)) _ takes).1 in
      PastNullified v (leb-true 1 v (and_parts (nat_le 1 v) _ admitted).0)
      (entered ∙ sym (next_still same decides elect x e takes v))
      (ap (λ (k : Known D). is_some (option_map {U = CertificateFacts D} Nullified k.nullification))
      (goes.rounds v (omega arith))
      ∙ unmapped {B = CertificateFacts D} Nullified (or_new (round_of x v).nullification (brings_nullification v e))
      ∙ ap (λ b. is_some (or_new (round_of x v).nullification (if b then Some c else None))) (eq-eqb v v refl)
      ∙ some_brought (round_of x v).nullification c)
      (goes.nullified v (omega arith) ∙ ap (λ b. b || is_among v x.nullified) (eq-eqb v v refl))

  -- a finalization that an event brings enters the view above, and is tracked
  finalized : (e : Event K D) (takes : IsEvent x e) (c : ProposalFacts D) → is_prune e ≡ false
      → enters e ≡ c.proposal.round.view + 1 → finalized_by_event e ≡ c.proposal.round.view
      → brings_finalization c.proposal.round.view e ≡ Some c → x.current < c.proposal.round.view + 1
      → x.finalized ≤ x.current → IsLed (after_event same elect x e)
  finalized e takes c no_prune enters_next raises brings above low_enough =
      let v = c.proposal.round.view in
      let y = after_event same elect x e in
      let goes = follows same decides elect x e takes in
      let current = goes.current in
      let final = goes.finalized in
      let kept : left_from x e ≤ v = subst (λ b. (if b then min_active x else 0) ≤ v) (sym no_prune) (omega arith) in
      let entered : y.current ≡ v + 1 = omega (arith, current, enters_next, above) in
      let raised : y.finalized ≡ v = omega (arith, final, raises, above, low_enough) in
      PastFinalized (entered ∙ ap (λ w. w + 1) (sym raised))
      (subst (λ w. tracks Finalization y w ≡ true) (sym raised)
      (ap (λ (k : Known D). is_some (option_map Finalized k.finalization)) (goes.rounds v kept)
      ∙ unmapped Finalized (or_new (round_of x v).finalization (brings_finalization v e))
      ∙ ap (λ o. is_some (or_new (round_of x v).finalization o)) brings
      ∙ some_brought (round_of x v).finalization c))

  brought_there : (c : ProposalFacts D)
      → (if c.proposal.round.view == c.proposal.round.view then Some c else None) ≡ Some c
  brought_there c =
      ap (λ b. if b then Some c else None) (eq-eqb c.proposal.round.view c.proposal.round.view refl)

  judged : (v now : ℕ) → IsEvent {K = K} x (event.Certified v true now) → is_tracked x v ≡ true → x.current < v + 1
      → IsLed (after_event same elect x (event.Certified v true now))
  judged v now takes tracked above =
      let e : Event K D = event.Certified v true now in
      let y = after_event same elect x e in
      let goes = follows same decides elect x e takes in
      let current = goes.current in
      let entered : y.current ≡ v + 1 =
      current ∙ ap (λ b. max x.current (if b then v + 1 else 0)) tracked ∙ higher x.current (v + 1) above in
      let parts = taken_parts true (new_round x.me x.members (round_number x v)) (round_at x v) tracked
      (and_parts (is_started x) _ takes).1 in
      PastCertified v entered
      (tracked_still same decides elect x e takes Notarization v (omega arith)
      (unmapped Notarized (round_of x v).notarization ∙ parts.0))
      (certified_so (round_of y v).certification
      (ap (λ (k : Known D). k.verdict) (goes.rounds v (omega arith))
      ∙ ap (λ b. or_new (verdict_of (round_of x v).certification) (if b then Some true else None))
      (and_both (v == v) (is_tracked x v) (eq-eqb v v refl) tracked)
      ∙ judged_so (round_of x v).certification parts.1))

  -- a view that an event enters
  entered_led : (e : Event K D) → IsEvent x e → is_floor e ≡ false → x.finalized ≤ x.current → x.current < enters e
      → IsLed (after_event same elect x e)
  entered_led (event.AddNullification c now) takes no_floor low_enough above = nullified c now takes above
  entered_led (event.AddFinalization c now) takes no_floor low_enough above =
      finalized (event.AddFinalization c now) takes c refl refl refl (brought_there c) above low_enough
  entered_led (event.Certified v true now) takes no_floor low_enough above = by_tracked (is_tracked x v) refl above
    where
      by_tracked : (b : Bool) → is_tracked x v ≡ b → x.current < (if b then v + 1 else 0)
          → IsLed (after_event same elect x (event.Certified v true now))
      by_tracked true tracked over = judged v now takes tracked over
      by_tracked false untracked over = absurd (omega (arith, over))
  entered_led (event.Certified v false now) takes no_floor low_enough above = absurd (omega (arith, above))
  entered_led (event.SetFloor floor now) takes no_floor low_enough above = absurd (true≢false no_floor)
  entered_led _ takes no_floor low_enough above = absurd (omega (arith, above))

  -- each event, where a prune finds no nullification of the last finalized view
  pub event_led : (e : Event K D) → IsEvent x e → is_floor e ≡ false → IsLedAhead x
      → (is_prune e ≡ true → IsUncovered x x) → IsLedAhead (after_event same elect x e)
  event_led e takes no_floor since uncovered =
      let current = (follows same decides elect x e takes).current in
      let ahead = since.ahead in
      record {
        ahead = event_ahead same elect x e (inl since.ahead);
        led = elim (cases_lt x.current (enters e)) [
          | inl above ↦ entered_led e takes no_floor (omega (arith, ahead)) above
          | inr stays ↦ still_led same decides elect x e takes since uncovered (omega (arith, current, stays))
        ];
      }

  -- a floor that a new state sets
  pub floor_led : (floor : FloorFacts D) (now : ℕ) → takes_floor x floor ≡ true → x.current ≡ 0 → x.finalized ≡ 0
      → IsLedAhead (after_event same elect x (event.SetFloor floor now))
  floor_led floor now takes new_current new_finalized = record {
    ahead = event_ahead same elect x (event.SetFloor floor now) (inr (new_finalized, refl));
    led = by_floor floor takes;
  }
    where
      by_floor : (f : FloorFacts D) → takes_floor x f ≡ true → IsLed (after_event same elect x (event.SetFloor f now))
      by_floor (Genesis payload) good =
          let current = (follows same decides elect x (event.SetFloor (Genesis payload) now) good).current in
          IsFirst (omega (arith, current, new_current))
      by_floor (FinalizedFloor c) good =
          finalized (event.SetFloor (FinalizedFloor c) now) good c refl refl refl (brought_there c)
          (omega (arith, new_current)) (omega (arith, new_current, new_finalized))
