-- A state at its floor shows its trace, with no event but the floor's.
use Rattle.std.proofs.Common.{◌≡◌, refl, ℕ, inl, inr, Bool, true, List, Option, arith}
use Rattle.std.proofs.lemmas.Bool.{false≢true}
use Rattle.simplex_types.specs.Config.{FloorFacts, Genesis, Finalized}
use Rattle.simplex_types.specs.declared.types.messages.Subject.{Subject}
use Rattle.simplex_types.specs.declared.types.messages.Subject.TheVariants as subject
use Rattle.simplex_types.specs.declared.types.window.Terms.{Terms}
use Rattle.simplex_round.specs.Round.{new_round}
use Rattle.simplex_voter.specs.Facts.{Settings, StateFacts, Elect, new_facts}
use Rattle.simplex_voter.specs.Acceptance.{after_set_floor}
use Rattle.laws_safety.specs.Traces.{Accepts, of_floor}
use Rattle.simplex_record.specs.Events as event
use Rattle.simplex_record.specs.Events.{Event, finalized_by_event}
use Rattle.laws_safety.specs.Lawful.{HasSigned}
use Rattle.laws_safety.proofs.lists.Signed.{signed_none, only_signed}
use Rattle.laws_safety.proofs.votes.ShownVotes.{RoundShowsVotes, ShowsVotes, HasFinal, ShowsVotesInLife}
use Rattle.laws_safety.proofs.votes.ShownVotesBySteps.{Suits, event_stays}

-- a floor is no vote
pub floor_unsigned : {D : Type 0} (floor : FloorFacts D) (vote : Subject D) → HasSigned (of_floor floor) vote → ⊥
floor_unsigned (Genesis _) vote h = absurd (signed_none vote h)
floor_unsigned (Finalized c) vote h = absurd (let e = only_signed (Accepts (subject.Finalize c.proposal)) vote h in cc)

module _ {K L D : Type 0} (same : D → D → Bool) (decides : (d e : D) → same d e ≡ true → d ≡ e) (elect : Elect L)
    (settings : Settings) (me : Option ℕ) (members : List K) (elector : L) (terms : Terms) (early : Bool)
    (floor : FloorFacts D) where
  -- before the floor is set
  unvoted : (reached v : ℕ) → RoundShowsVotes {K = K} (of_floor floor) reached 0 v
      (new_round me members (record { epoch = settings.epoch; view = v }))
  unvoted reached v = record {
    notarized = λ c is. absurd (cc);
    held = λ c is. absurd (cc);
    entered = λ is. absurd (false≢true is);
    left = λ is. absurd (false≢true is);
    nullify_decided = λ round h at. absurd (floor_unsigned floor (subject.Nullify round) h);
    finalize_decided = λ p h at. absurd (floor_unsigned floor (subject.Finalize p) h);
  }

  new_stands : (reached : ℕ) → ShowsVotes terms.term_length (of_floor floor) reached
      (new_facts settings me members elector terms early)
  new_stands reached = record {
    terms = refl;
    rounds = λ v. unvoted reached v;
    passed = λ p h. absurd (floor_unsigned floor (subject.Finalize p) h);
    noted = λ round h. absurd (floor_unsigned floor (subject.Nullify round) h);
  }

  floor_final : (now : ℕ) → HasFinal (of_floor floor) (finalized_by_event {K = K} {D = D} (event.SetFloor floor now))
  floor_final now = by_floor floor
    where
      by_floor : (f : FloorFacts D) → HasFinal (of_floor f) (finalized_by_event {K = K} {D = D} (event.SetFloor f now))
      by_floor (Genesis payload) = inl refl
      by_floor (Finalized c) = inr (c.proposal, (0, omega arith, refl), refl)

  pub start_stays : (now : ℕ) → ShowsVotesInLife terms.term_length (of_floor floor)
      (after_set_floor same elect (new_facts settings me members elector terms early) floor now)
  start_stays now =
      let x : StateFacts K L D = new_facts settings me members elector terms early in
      let e : Event K D = event.SetFloor floor now in
      let y = after_set_floor same elect x floor now in
      let suits : Suits (of_floor floor) y.current x e = record {
        notarized = λ c says. absurd (cc);
        finalized = floor_final now;
        enters = λ v says. absurd (cc);
        leaves = λ v says. absurd (cc);
        nullifies = λ v says. absurd (cc);
        finalizes = λ v says. absurd (cc);
      } in
      event_stays same decides elect terms.term_length (of_floor floor) x e suits (inr (refl, refl))
      (new_stands y.current) (inl refl)
