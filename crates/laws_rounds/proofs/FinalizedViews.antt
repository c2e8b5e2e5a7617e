-- Of a state of a run: no view with a finalization lies above the last finalized one, and a finalization that is added
-- raises that.
use Rattle.std.proofs.Common.{◌≡◌, refl, ap, sym, ◌∙◌, subst, ℕ, ◌<◌, ◌≤◌, ◌⊎◌, inl, inr, Bool, false, List, Option, Some, None, is_some, unwrap_or, arith}
use Rattle.std.specs.Prelude.{is_none, option_and_then}
use Rattle.std.proofs.lemmas.Bool.{false≢true, true≢false}
use Rattle.simplex_types.specs.Certificates.{ProposalFacts, CertificateFacts, Notarized, Nullified, Finalized}
use Rattle.simplex_types.specs.Config.{FloorFacts, Finalized as FinalizedFloor}
use Rattle.simplex_types.specs.declared.types.window.Terms.{Terms}
use Rattle.simplex_round.specs.Round.{RoundFacts, new_round}
use Rattle.simplex_voter.specs.Acceptance.{after_add_finalization, after_set_floor}
use Rattle.simplex_voter.specs.Facts.{Settings, StateFacts, Elect, new_facts, round_at, round_of, round_number}
use Rattle.simplex_voter.specs.Refusals.{takes_round}
use Rattle.simplex_voter.specs.StateAnswers.{finalization_of}
use Rattle.simplex_record.specs.Events as event
use Rattle.simplex_record.specs.Events.{Event, after_event}
use Rattle.simplex_record.proofs.Paths.{event_path, asked_of_all}
use Rattle.simplex_record.proofs.Steps as step
use Rattle.simplex_record.proofs.Steps.{RoundStep, finalization_by}
use Rattle.simplex_member.specs.Calls.{CallFacts, AddFinalization, ReplyFacts}
use Rattle.simplex_member.specs.CallSemantics.{after_call}
use Rattle.simplex_member.specs.MemberFacts.{MemberFacts, IsCall}
use Rattle.laws_safety.specs.LifetimeLaws.{WhileAlive}
use Rattle.laws_safety.specs.MemberHistory.{HasHistory}
use Rattle.laws_safety.specs.Traces.{TraceEvent}
use Rattle.laws_safety.proofs.frames.EachRound.{IsGone, rounds_or_gone}
use Rattle.laws_safety.proofs.frames.Fresh.{IsNewState}
use Rattle.laws_safety.proofs.frames.NoLowerViews.{event_goes, finalization_passes}
use Rattle.laws_safety.proofs.frames.RunsKeep.{HoldsIn, run_induction}
use Rattle.laws_safety.proofs.frames.Sound.{event_ahead}
use Rattle.laws_safety.proofs.lives.WithinLives.{each_call}
use Rattle.laws_safety.proofs.records.RunsLawful.{keep_terms}
use Rattle.simplex_engine.specs.Admission.{admits}
use Rattle.engine_outbox.specs.CertificateCalls.{certificate_call}
use Rattle.laws_rounds.specs.Deliveries.{IsLater, is_declined}
use Rattle.laws_rounds.specs.Finality.{HasFinalized}
use Rattle.laws_rounds.proofs.LifetimeCalls.{alive_anyway, call_lives}
use Rattle.laws_rounds.proofs.Spread.{IsShownByAll}
use Rattle.laws_rounds.proofs.TurnedAway.{and_false, untaken}

-- away view with a finalization lies above the last finalized one
abbrev pub FinalsReached : {K L D : Type 0} → StateFacts K L D → Type 0
FinalsReached {K} {L} {D} x = (v : ℕ) (c : ProposalFacts D) → (round_of x v).finalization ≡ Some c → v ≤ x.finalized

-- besides, the current view lies above it
pub record IsReached {K L D : Type 0} (x : StateFacts K L D) : Type 0 where
  pub ahead : x.finalized < x.current
  pub finals : FinalsReached x

-- ---- an event

module _ {K L D : Type 0} (same : D → D → Bool) (elect : Elect L) (x : StateFacts K L D) where
  raises : (e : Event K D) (c : ProposalFacts D) → finalization_by e ≡ Some c
      → c.proposal.round.view ≤ (after_event same elect x e).finalized
  raises (event.AddFinalization f now) c is =
      let one : f ≡ c = cc in
      subst (λ (g : ProposalFacts D). g.proposal.round.view ≤ (after_add_finalization same elect x f now).finalized) one
      (finalization_passes same elect x now f)
  raises (event.SetFloor (FinalizedFloor f) now) c is =
      let one : f ≡ c = cc in
      subst (λ (g : ProposalFacts D). g.proposal.round.view ≤ (after_add_finalization same elect x f now).finalized) one
      (finalization_passes same elect x now f)
  raises _ c is = absurd (false≢true (ap is_some is))

module _ {K L D : Type 0} (same : D → D → Bool) (elect : Elect L) (x : StateFacts K L D) (e : Event K D) where
  abbrev after : StateFacts K L D
  after = after_event same elect x e

  -- the finalization of a view is as before, or the view is away higher than the last finalized one
  abbrev StaysOrReached : ℕ → RoundFacts K D → RoundFacts K D → Type 0
  StaysOrReached v r s = (s.finalization ≡ r.finalization) ⊎ (v ≤ after.finalized)

  stays_on : (v : ℕ) (r s t : RoundFacts K D) → StaysOrReached v r s → StaysOrReached v s t → StaysOrReached v r t
  stays_on v r s t (inl p) (inl q) = inl (q ∙ p)
  stays_on v r s t (inr reached) q = inr reached
  stays_on v r s t p (inr reached) = inr reached

  change_reached : (y : StateFacts K L D) (v : ℕ) (r s : RoundFacts K D) → RoundStep same elect x e y v r s
      → StaysOrReached v r s
  change_reached y v r s (step.Finalized c says at none) =
      inr (subst (λ u. u ≤ after.finalized) at (raises same elect x e c says))
  change_reached y v r s _ = inl refl

  none_there : (v : ℕ) → IsGone x after v → (round_of after v).finalization ≡ None
  none_there v gone =
      ap (λ o. (unwrap_or o (new_round after.me after.members (round_number after v))).finalization) gone.untracked

  finals_after : FinalsReached x → FinalsReached after
  finals_after finals v c is =
      elim (rounds_or_gone same elect x e 0 StaysOrReached stays_on change_reached
      (event_path same elect 0 x e (omega arith) (asked_of_all x e)) v) [
        | inl (inl stays) ↦
            let below = finals v c (sym stays ∙ is) in
            let goes = (event_goes same elect x e).finalized in
            omega (arith, below, goes)
        | inl (inr reached) ↦ reached
        | inr gone ↦ absurd (false≢true (ap is_some (sym (none_there v gone.1) ∙ is)))
      ]

module _ {K L D : Type 0} (same : D → D → Bool) (elect : Elect L) where
  event_reached : (x : StateFacts K L D) (e : Event K D) → IsReached x → IsReached (after_event same elect x e)
  event_reached x e is = record {
    ahead = event_ahead same elect x e (inl is.ahead);
    finals = finals_after same elect x e is.finals;
  }

  new_reached : (settings : Settings) (me : Option ℕ) (members : List K) (elector : L) (terms : Terms) (early : Bool)
      (floor : FloorFacts D) (now : ℕ)
      → IsReached (after_set_floor same elect (new_facts settings me members elector terms early) floor now)
  new_reached settings me members elector terms early floor now =
      let x : StateFacts K L D = new_facts settings me members elector terms early in
      let e : Event K D = event.SetFloor floor now in
      record {
        ahead = event_ahead same elect x e (inr (refl, refl));
        finals = finals_after same elect x e (λ v c is. absurd (false≢true (ap is_some is)));
      }

  floor_reached : (term_length : ℕ) (x : StateFacts K L D) (floor : FloorFacts D) (now : ℕ)
      → IsNewState term_length x → IsReached (after_set_floor same elect x floor now)
  floor_reached term_length x floor now fresh =
      subst (λ y. IsReached (after_set_floor same elect y floor now)) (sym fresh.fresh)
      (new_reached x.settings x.me x.members x.elector x.terms x.elects_early floor now)

  -- so is each state of a member's history
  pub history_reached : (term_length i : ℕ) (all : List (TraceEvent D)) (m : MemberFacts K L D)
      → HasHistory same elect term_length i all m → HoldsIn IsReached m.life
  history_reached term_length i all m done =
      let s = done.execution in
      run_induction same elect term_length IsReached (floor_reached term_length) event_reached s.start s.steps s.replies
      m done.executed.lives.first.terms (keep_terms term_length i s.steps done.executed.lives.later) done.executed.run

-- ---- a finalization that is passed in

module _ {K L D : Type 0} (same : D → D → Bool) (elect : Elect L) (c : ProposalFacts D) where
  -- if the call adds it, and is not declined
  abbrev RaisesBy : CallFacts D → ReplyFacts K D → StateFacts K L D → StateFacts K L D → Type 0
  RaisesBy call replied x y =
      (now : ℕ) → call ≡ AddFinalization c now → is_declined replied ≡ false → c.proposal.round.view ≤ y.finalized

  added_raises : (now : ℕ) (m left : MemberFacts K L D) (replied : ReplyFacts K D)
      → IsCall same elect m (AddFinalization c now) replied left
      → WhileAlive (RaisesBy (AddFinalization c now) replied) m.life left.life
  added_raises now m left replied is_call =
      each_call same elect RaisesBy
      (λ call fault x at is taken. absurd (true≢false taken))
      (λ call x at is taken. absurd (true≢false taken))
      (λ call x o allowed at is taken. subst (λ k. c.proposal.round.view ≤ (after_call same elect x o k).finalized)
      (sym is) (finalization_passes same elect x at c))
      m (AddFinalization c now) replied left is_call

-- one that is not admitted, of the state's epoch, is of away higher view
module _ {K L D : Type 0} (x : StateFacts K L D) (c : ProposalFacts D) (reached : IsReached x)
    (of_epoch : c.proposal.round.epoch ≡ x.settings.epoch) where
  abbrev view : ℕ
  view = c.proposal.round.view

  known : is_none (finalization_of x view) ≡ false → view ≤ x.finalized
  known has = by_round (round_at x view) refl has
    where
      by_final : (r : RoundFacts K D) → round_at x view ≡ Some r → (f : Option (ProposalFacts D))
          → r.finalization ≡ f → is_none f ≡ false → view ≤ x.finalized
      by_final r at None is has = absurd (true≢false has)
      by_final r at (Some f) is has = reached.finals view f
          (ap (λ o. (unwrap_or o (new_round x.me x.members (round_number x view))).finalization) at ∙ is)

      by_round : (o : Option (RoundFacts K D)) → round_at x view ≡ o
          → is_none (option_and_then (λ (r : RoundFacts K D). r.finalization) o) ≡ false → view ≤ x.finalized
      by_round None at has = absurd (true≢false has)
      by_round (Some r) at has = by_final r at r.finalization refl has

  untaken_low : takes_round x c.proposal.round ≡ false → view ≤ x.finalized
  untaken_low away =
      let ahead = reached.ahead in
      elim (untaken x c.proposal.round (omega (arith, ahead)) of_epoch away)
      [ inl none ↦ omega (arith, none) | inr low ↦ omega (arith, low) ]

  turned_away : admits x (Finalized c) ≡ false → view ≤ x.finalized
  turned_away away = elim (and_false (takes_round x c.proposal.round) (is_none (finalization_of x view)) away)
      [ inl first ↦ untaken_low first | inr second ↦ known second ]

-- ---- what a finalization shows

module _ {K L D : Type 0} (same : D → D → Bool) (elect : Elect L) where
  added_shows : (c : CertificateFacts D) (now : ℕ) (m left : MemberFacts K L D) (replied : ReplyFacts K D)
      → HoldsIn IsReached m.life → IsCall same elect m (certificate_call c now) replied left
      → is_declined replied ≡ false → WhileAlive (λ x. HasFinalized c) m.life left.life
  added_shows (Notarized c) now m left replied reached is_call taken =
      alive_anyway m.life left.life (call_lives same elect m _ replied left is_call) (λ x y goes. tt)
  added_shows (Nullified c) now m left replied reached is_call taken =
      alive_anyway m.life left.life (call_lives same elect m _ replied left is_call) (λ x y goes. tt)
  added_shows (Finalized c) now m left replied reached is_call taken =
      alive_anyway m.life left.life (added_raises same elect c now m left replied is_call)
      (λ x y raises_it epoch. raises_it now refl taken)

  away_shows : (c : CertificateFacts D) (x : StateFacts K L D) → IsReached x → admits x c ≡ false → HasFinalized c x
  away_shows (Notarized c) x reached away = tt
  away_shows (Nullified c) x reached away = tt
  away_shows (Finalized c) x reached away = λ epoch. turned_away x c reached epoch away

  lasts_shows : (c : CertificateFacts D) (x y : StateFacts K L D) → IsLater x y → HasFinalized c x → HasFinalized c y
  lasts_shows (Notarized c) x y goes has = tt
  lasts_shows (Nullified c) x y goes has = tt
  lasts_shows (Finalized c) x y goes has = λ epoch. (
      let low = has (epoch ∙ ap (λ s. s.epoch) goes.settings) in
      let rises = goes.views.finalized in
      omega (arith, low, rises))

  pub finalizations_show : IsShownByAll {K = K} same elect HasFinalized IsReached
  finalizations_show = record {
    at_all = history_reached same elect;
    added = added_shows;
    turned_away = away_shows;
    lasts = lasts_shows;
  }
