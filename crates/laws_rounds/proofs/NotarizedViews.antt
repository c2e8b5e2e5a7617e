-- What a notarization shows: its view's is tracked, or the view lies below the retained ones.
use Rattle.std.proofs.Common.{◌≡◌, refl, ap, sym, ◌∙◌, subst, ℕ, inl, inr, Bool, true, false, Option, Some, None, is_some, arith}
use Rattle.std.specs.Prelude.{is_none}
use Rattle.std.proofs.lemmas.Bool.{true≢false}
use Rattle.simplex_types.specs.Certificates.{ProposalFacts, CertificateFacts, Notarized, Nullified, Finalized}
use Rattle.simplex_voter.specs.Facts.{StateFacts, Elect}
use Rattle.simplex_voter.specs.Refusals.{takes_round}
use Rattle.simplex_voter.specs.StateAnswers.{notarization_of}
use Rattle.simplex_member.specs.Calls.{CallFacts, AddNotarization, ReplyFacts}
use Rattle.simplex_member.specs.CallSemantics.{after_call}
use Rattle.simplex_member.specs.MemberFacts.{MemberFacts, IsCall}
use Rattle.laws_safety.specs.LifetimeLaws.{WhileAlive}
use Rattle.laws_safety.proofs.frames.RunsKeep.{HoldsIn}
use Rattle.laws_safety.proofs.lives.WithinLives.{each_call}
use Rattle.engine_outbox.specs.CertificateCalls.{certificate_call}
use Rattle.simplex_engine.specs.Admission.{admits}
use Rattle.laws_rounds.specs.Deliveries.{IsLater, is_declined}
use Rattle.laws_rounds.specs.Finality.{HasNotarization}
use Rattle.laws_rounds.proofs.FinalizedViews.{IsReached, history_reached}
use Rattle.laws_rounds.proofs.LifetimeCalls.{alive_anyway, call_lives}
use Rattle.laws_rounds.proofs.Spread.{IsShownByAll}
use Rattle.laws_rounds.proofs.TrackedViews.{Tracks, added_tracked}
use Rattle.laws_rounds.proofs.TurnedAway.{and_false, untaken}

-- there is some
some_there : {A : Type 0} (o : Option A) → is_none o ≡ false → is_some o ≡ true
some_there None is = absurd (true≢false is)
some_there (Some a) is = refl

module _ {K L D : Type 0} (same : D → D → Bool) (elect : Elect L) (c : ProposalFacts D) where
  -- if the call adds it, and is not declined
  abbrev TracksBy : CallFacts D → ReplyFacts K D → StateFacts K L D → StateFacts K L D → Type 0
  TracksBy call replied x y = call ≡ AddNotarization c → is_declined replied ≡ false → Tracks y c.proposal.round.view

  added_tracks : (m left : MemberFacts K L D) (replied : ReplyFacts K D)
      → IsCall same elect m (AddNotarization c) replied left
      → WhileAlive (TracksBy (AddNotarization c) replied) m.life left.life
  added_tracks m left replied is_call =
      each_call same elect TracksBy
      (λ call fault x is taken. absurd (true≢false taken))
      (λ call x is taken. absurd (true≢false taken))
      (λ call x o allowed is taken. subst (λ k. Tracks (after_call same elect x o k) c.proposal.round.view) (sym is)
      (added_tracked same elect x c))
      m (AddNotarization c) replied left is_call

module _ {K L D : Type 0} (same : D → D → Bool) (elect : Elect L) where
  added_shows : (c : CertificateFacts D) (now : ℕ) (m left : MemberFacts K L D) (replied : ReplyFacts K D)
      → HoldsIn IsReached m.life → IsCall same elect m (certificate_call c now) replied left
      → is_declined replied ≡ false → WhileAlive (λ x. HasNotarization c) m.life left.life
  added_shows (Finalized c) now m left replied reached is_call taken =
      alive_anyway m.life left.life (call_lives same elect m _ replied left is_call) (λ x y later. tt)
  added_shows (Nullified c) now m left replied reached is_call taken =
      alive_anyway m.life left.life (call_lives same elect m _ replied left is_call) (λ x y later. tt)
  added_shows (Notarized c) now m left replied reached is_call taken =
      alive_anyway m.life left.life (added_tracks same elect c m left replied is_call)
      (λ x y tracks epoch some. inr (tracks refl taken))

  away_shows : (c : CertificateFacts D) (x : StateFacts K L D) → IsReached x → admits x c ≡ false
      → HasNotarization c x
  away_shows (Finalized c) x reached away = tt
  away_shows (Nullified c) x reached away = tt
  away_shows (Notarized c) x reached away = λ epoch some. (
      let ahead = reached.ahead in
      elim (and_false (takes_round x c.proposal.round) (is_none (notarization_of x c.proposal.round.view)) away) [
        | inl first ↦ elim (untaken x c.proposal.round (omega (arith, ahead)) epoch first)
            [ inl none ↦ absurd (omega (arith, none, some)) | inr low ↦ inl low ]
        | inr has ↦ inr (some_there (notarization_of x c.proposal.round.view) has)
      ])

  lasts_shows : (c : CertificateFacts D) (x y : StateFacts K L D) → IsLater x y → HasNotarization c x
      → HasNotarization c y
  lasts_shows (Finalized c) x y later has = tt
  lasts_shows (Nullified c) x y later has = tt
  lasts_shows (Notarized c) x y later has = λ epoch some. (
      let retention = ap (λ s. s.view_retention) later.settings in
      let rises = later.views.finalized in
      elim (has (epoch ∙ ap (λ s. s.epoch) later.settings) some) [
        | inl low ↦ inl (omega (arith, low, retention, rises))
        | inr tracked ↦ later.notarized c.proposal.round.view tracked
      ])

  pub notarizations_show : IsShownByAll {K = K} same elect HasNotarization IsReached
  notarizations_show = record {
    at_all = history_reached same elect;
    added = added_shows;
    turned_away = away_shows;
    lasts = lasts_shows;
  }
