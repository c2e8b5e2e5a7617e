-- The invariant of each state of a lifetime: its terms, the current view above the last finalized one, each certificate
-- at its view, and
-- the tracked views in order.
use Rattle.std.proofs.Common.{◌≡◌, refl, ap, sym, ◌∙◌, subst, ℕ, ◌+◌, ◌<◌, ◌≤◌, ◌⊎◌, inl, inr, Bool, true, false, List, Option, Some, None, unwrap_or, nat_lt, arith}
use Rattle.std.proofs.lemmas.Bool.{true≢false}
use Rattle.std.proofs.lemmas.Bool.Decides.{nat_tests}
use Rattle.simplex_types.specs.Certificates.{ProposalFacts}
use Rattle.simplex_types.specs.Config.{FloorFacts, Genesis, Finalized as FinalizedFloor}
use Rattle.simplex_round.specs.Round.{new_round}
use Rattle.simplex_types.specs.declared.types.numbers.Round.{Round}
use Rattle.simplex_types.specs.declared.types.window.Terms.{Terms}
use Rattle.simplex_voter.specs.Facts.{Settings, StateFacts, Elect, new_facts, round_at, round_of, round_number}
use Rattle.simplex_voter.specs.ViewEntry.{at_moment, with_view_entered}
use Rattle.simplex_voter.specs.Certification.{with_finalized_view}
use Rattle.simplex_voter.specs.Acceptance.{after_add_finalization, after_set_floor}
use Rattle.simplex_record.specs.Events as event
use Rattle.simplex_record.specs.Events.{Event, after_event, finalized_by_event, is_prune}
use Rattle.laws_safety.specs.LifetimeLaws.{KindOfCertificate, Notarization, Nullification, Finalization}
use Rattle.laws_safety.proofs.frames.Fresh.{IsNewState}
use Rattle.laws_safety.proofs.frames.CallsMake.{is_floor}
use Rattle.laws_safety.proofs.frames.EachRound.{IsGone}
use Rattle.simplex_record.proofs.Paths.{from_entry, from_first_entry}
use Rattle.simplex_record.proofs.Steps.{Still, finalization_by}
use Rattle.laws_safety.proofs.lives.RunOrder.{RoundLasts, standing_view, certificates, brings_any, event_lasts}
use Rattle.laws_safety.proofs.frames.NoLowerViews.{event_goes, goes_along, event_finalizes}

-- the current view lies above the last finalized one
abbrev pub IsAhead : {K L D : Type 0} → StateFacts K L D → Type 0
IsAhead x = x.finalized < x.current

-- each certificate is at its own view
pub record IsPlaced {K L D : Type 0} (x : StateFacts K L D) : Type 0 where
  pub views : (kind : KindOfCertificate) (v u : ℕ) → standing_view kind (round_of x v) ≡ Some u → u ≡ v

pub record IsSound {K L D : Type 0} (term_length : ℕ) (x : StateFacts K L D) : Type 0 where
  pub terms : x.terms.term_length ≡ term_length
  pub ahead : IsAhead x
  pub placed : IsPlaced x

pub entered_reaches : {K L D : Type 0} (x : StateFacts K L D) (v now : ℕ) → v ≤ (with_view_entered x v now).current
entered_reaches x v now = enters (nat_lt x.current v) refl
  where
    enters : (b : Bool) → nat_lt x.current v ≡ b → v ≤ (with_view_entered x v now).current
    enters true is = rw is (omega arith)
    enters false is = rw is (grind (arith, nat_tests))

module _ {K L D : Type 0} (same : D → D → Bool) (elect : Elect L) (x : StateFacts K L D) where
  finalization_passes : (c : ProposalFacts D) (now : ℕ) (e : Event K D) → finalization_by e ≡ Some c
      → c.proposal.round.view < (after_add_finalization same elect x c now).current
  finalization_passes c now e says = omega (
    arith,
    (goes_along same elect x e 0 _ _ (from_entry c now says (omega arith) Still)).current,
    entered_reaches (with_finalized_view (at_moment x now) c.proposal.round.view) (c.proposal.round.view + 1) now,
  )

  -- a floor and a finalization enter a view above
  pub event_passes : (e : Event K D) → ((is_floor e ≡ false) × (finalized_by_event e ≡ 0))
      ⊎ (finalized_by_event e < (after_event same elect x e).current)
  event_passes (event.AddFinalization c now) = inr (finalization_passes c now (event.AddFinalization c now) refl)
  event_passes (event.SetFloor (FinalizedFloor c) now) =
      inr (finalization_passes c now (event.SetFloor (FinalizedFloor c) now) refl)
  event_passes (event.SetFloor (Genesis payload) now) =
      inr (omega (
        arith,
        (goes_along same elect x (event.SetFloor (Genesis payload) now) 0 _ _
            (from_first_entry payload now (omega arith) Still)).current,
        entered_reaches (record (at_moment x now) { genesis = Some payload }) 1 now,
      ))
  event_passes _ = inl (refl, refl)

  pub event_ahead : (e : Event K D) → IsAhead x ⊎ ((x.finalized ≡ 0) × (is_floor e ≡ true))
      → IsAhead (after_event same elect x e)
  event_ahead e (inl ahead) =
      let goes = event_goes same elect x e in
      let finalizes = event_finalizes same elect x e in
      elim (event_passes e) [
        | inl none ↦ omega (arith, finalizes, goes.current, none.1)
        | inr passed ↦
            omega (arith, finalizes, goes.current, passed)
      ]
  event_ahead e (inr (new, floor)) =
      let finalizes = event_finalizes same elect x e in
      elim (event_passes e)
      [ inl none ↦ absurd (true≢false (sym floor ∙ none.0)) | inr passed ↦ omega (arith, finalizes, passed) ]

-- certificates

none_at_first : {K : Type 0} (D : Type 0) (kind : KindOfCertificate) (me : Option ℕ) (members : List K) (round : Round)
    → standing_view kind (new_round {D = D} me members round) ≡ None
none_at_first D Notarization me members round = refl
none_at_first D Nullification me members round = refl
none_at_first D Finalization me members round = refl

module _ {K L D : Type 0} where
  -- there is no certificate if the view isn't tracked
  pub nothing_stands : (y : StateFacts K L D) (v : ℕ) → round_at y v ≡ None → (kind : KindOfCertificate)
      → standing_view kind (round_of y v) ≡ None
  nothing_stands y v untracked kind = ap (λ o.
      standing_view kind (unwrap_or o (new_round y.me y.members (round_number y v)))) untracked
      ∙ none_at_first D kind y.me y.members (round_number y v)

module _ {K L D : Type 0} (same : D → D → Bool) (elect : Elect L) (x : StateFacts K L D) where
  event_placed : (e : Event K D) → IsPlaced x → IsPlaced (after_event same elect x e)
  event_placed e placed =
      record { views = λ kind v u is. stood kind v u is (event_lasts same elect x e 0 (brings_any e) v) }
    where
      y : StateFacts K L D
      y = after_event same elect x e

      stood : (kind : KindOfCertificate) (v u : ℕ) → standing_view kind (round_of y v) ≡ Some u
          → RoundLasts 0 v (round_of x v) (round_of y v) ⊎ ((is_prune e ≡ true) × IsGone x y v) → u ≡ v
      stood kind v u is (inl lasts) = elim (certificates 0 v (round_of x v) (round_of y v) lasts kind) [
        | inl stays ↦ placed.views kind v u (sym stays ∙ is)
        | inr comes ↦ ap (λ o. unwrap_or o u) (sym is ∙ comes.1)
      ]
      stood kind v u is (inr gone) = absurd (let clash = sym (nothing_stands y v gone.1.untracked kind) ∙ is in cc)

-- soundness

module _ {K L D : Type 0} (same : D → D → Bool) (elect : Elect L) (term_length : ℕ) where
  pub event_sound : (x : StateFacts K L D) (e : Event K D) → IsSound term_length x
      → IsSound term_length (after_event same elect x e)
  event_sound x e sound = record {
    terms = ap (λ t. t.term_length) (event_goes same elect x e).terms ∙ sound.terms;
    ahead = event_ahead same elect x e (inl sound.ahead);
    placed = event_placed same elect x e sound.placed;
  }

module _ {K L D : Type 0} (same : D → D → Bool) (elect : Elect L) (term_length : ℕ) where
  new_sound : (settings : Settings) (me : Option ℕ) (members : List K) (elector : L) (terms : Terms) (early : Bool)
      (floor : FloorFacts D) (now : ℕ) → terms.term_length ≡ term_length
      → IsSound term_length (after_set_floor same elect (new_facts settings me members elector terms early) floor now)
  new_sound settings me members elector terms early floor now length =
      let x : StateFacts K L D = new_facts settings me members elector terms early in
      let e : Event K D = event.SetFloor floor now in
      record {
        terms = ap (λ t. t.term_length) (event_goes same elect x e).terms ∙ length;
        ahead = event_ahead same elect x e (inr (refl, refl));
        placed = event_placed same elect x e
            (record { views = λ kind v u is. absurd (let clash = sym (nothing_stands x v refl kind) ∙ is in cc) });
      }

  -- a new state sets a floor
  pub floor_sound : (x : StateFacts K L D) (floor : FloorFacts D) (now : ℕ) → IsNewState term_length x
      → IsSound term_length (after_set_floor same elect x floor now)
  floor_sound x floor now fresh = subst (λ y. IsSound term_length (after_set_floor same elect y floor now))
      (sym fresh.fresh) (new_sound x.settings x.me x.members x.elector x.terms x.elects_early floor now fresh.terms)
