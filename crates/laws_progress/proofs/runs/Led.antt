-- What a state knows was led to: as it begins with a floor, and with each event that brings what was accepted or
-- certified.
use Rattle.std.proofs.Common.{◌≡◌, refl, ap, sym, ◌∙◌, subst, ◌⊎◌, inl, inr, ℕ, ◌<◌, ◌≤◌, Bool, true, ◌&&◌, List, [], ◌∷◌, ◌++◌, Contains, Option, is_some, arith}
use Rattle.std.specs.Prelude.{◌==◌}
use Rattle.std.proofs.lemmas.Bool.{false≢true, leb-true}
use Rattle.std.proofs.lemmas.List.Elements.{Contains-append_left, Contains-append_right}
use Rattle.simplex_types.specs.Certificates.{ProposalFacts}
use Rattle.simplex_types.specs.Config.{FloorFacts, Genesis, Finalized}
use Rattle.simplex_types.specs.declared.types.messages.Proposal.{Proposal}
use Rattle.simplex_types.specs.declared.types.messages.Subject.TheVariants as subject
use Rattle.simplex_types.specs.declared.types.window.Terms.{Terms}
use Rattle.simplex_voter.specs.Acceptance.{takes_floor, after_set_floor}
use Rattle.simplex_voter.specs.Facts.{Settings, StateFacts, Elect, new_facts, round_of}
use Rattle.simplex_voter.proofs.Gaps.{and_parts}
use Rattle.laws_safety.specs.Traces.{TraceEvent, Accepts, of_floor}
use Rattle.simplex_record.specs.Events as event
use Rattle.simplex_record.specs.Events.{Event, IsEvent, after_event}
use Rattle.laws_safety.proofs.frames.NoLowerViews.{event_goes}
use Rattle.laws_safety.proofs.frames.Sound.{event_ahead}
use Rattle.laws_history.proofs.ReplayEvents.{event_follows}
use Rattle.laws_progress.specs.ViewCauses.{HasJudged, IsLedTo, First, PastFinalized, PastCertified, PastNullified}
use Rattle.laws_progress.proofs.runs.Brought.{BringsAccepted, RoundsLed, brings_nothing, rounds_led, final_after, genesis_still, reached_after}

-- what was done and certified stays so

module _ {D : Type 0} (trace more : List (TraceEvent D)) (verdicts others : List (Bool × Proposal D)) where
  pub judged_more : (success : Bool) (epoch v : ℕ) → HasJudged success epoch verdicts v
      → HasJudged success epoch (verdicts ++ others) v
  judged_more success epoch v (p, there, is_in) = (p, Contains-append_left verdicts others (success, p) there, is_in)

  pub led_more : (term_length epoch v : ℕ) → IsLedTo term_length epoch trace verdicts v
      → IsLedTo term_length epoch (trace ++ more) (verdicts ++ others) v
  led_more term_length epoch v (First is) = First is
  led_more term_length epoch v (PastFinalized below (p, h, at) is) =
      PastFinalized below (p, Contains-append_left trace more _ h, at) is
  led_more term_length epoch v (PastCertified below h is) = PastCertified below (judged_more true epoch below h) is
  led_more term_length epoch v (PastNullified below (r, h, at) is) =
      PastNullified below (r, Contains-append_left trace more _ h, at) is

  rounds_more : {K L : Type 0} (epoch : ℕ) (x : StateFacts K L D) → RoundsLed epoch trace verdicts x
      → RoundsLed epoch (trace ++ more) (verdicts ++ others) x
  rounds_more epoch x led = record {
    notarized = λ v c is. (let h = led.notarized v c is in (h.0, Contains-append_left trace more _ h.1));
    finalized = λ v c is. (let h = led.finalized v c is in (h.0, Contains-append_left trace more _ h.1));
    judged = λ v success is. judged_more success epoch v (led.judged v success is);
    held = led.held;
  }

-- what a state knows is led to
pub record Led {K L D : Type 0} (term_length : ℕ) (trace : List (TraceEvent D)) (verdicts : List (Bool × Proposal D))
    (x : StateFacts K L D) : Type 0 where
  pub terms : x.terms.term_length ≡ term_length
  pub rounds : RoundsLed x.settings.epoch trace verdicts x
  pub reached : IsLedTo term_length x.settings.epoch trace verdicts x.current
  -- genesis is known, or a view is finalized, and its round holds the finalization
  pub based : (is_some x.genesis ≡ true) ⊎ (0 < x.finalized)
  pub final : (x.finalized ≡ 0) ⊎ (is_some (round_of x x.finalized).finalization ≡ true)

module _ {K L D : Type 0} (trace more : List (TraceEvent D)) (verdicts others : List (Bool × Proposal D)) where
  pub state_more : (term_length : ℕ) (x : StateFacts K L D) → Led term_length trace verdicts x
      → Led term_length (trace ++ more) (verdicts ++ others) x
  state_more term_length x led = record {
    terms = led.terms;
    rounds = rounds_more trace more verdicts others x.settings.epoch x led.rounds;
    reached = led_more trace more verdicts others term_length x.settings.epoch x.current led.reached;
    based = led.based;
    final = led.final;
  }

-- an event

module _ {K L D : Type 0} (same : D → D → Bool) (decides : (d e : D) → same d e ≡ true → d ≡ e) (elect : Elect L)
    (term_length : ℕ) (trace : List (TraceEvent D)) (verdicts : List (Bool × Proposal D)) (x : StateFacts K L D)
    (e : Event K D) (allowed : IsEvent x e) (brings : BringsAccepted x.settings.epoch trace verdicts x e) where
  abbrev after : StateFacts K L D
  after = after_event same elect x e

  based_still : (is_some x.genesis ≡ true) ⊎ (0 < x.finalized) → (is_some after.genesis ≡ true) ⊎ (0 < after.finalized)
  based_still (inl genesis) = inl (genesis_still same decides elect trace verdicts x e allowed brings genesis)
  based_still (inr some) = inr (let goes = (event_goes same elect x e).finalized in omega (arith, goes, some))

  pub event_led : Led term_length trace verdicts x → Led term_length trace verdicts after
  event_led led =
      let goes = event_goes same elect x e in
      record {
        terms = ap (λ t. t.term_length) goes.terms ∙ led.terms;
        rounds = subst (λ s. RoundsLed s.epoch trace verdicts after) (sym goes.settings)
            (rounds_led same decides elect trace verdicts x e allowed brings led.rounds);
        reached = subst (λ s. IsLedTo term_length s.epoch trace verdicts after.current) (sym goes.settings)
            (reached_after same decides elect trace verdicts x e allowed brings term_length led.terms
            (inr led.reached));
        based = based_still led.based;
        final = final_after same decides elect trace verdicts x e allowed brings led.final;
      }

-- a new state that sets a floor

module _ {K L D : Type 0} (same : D → D → Bool) (decides : (d e : D) → same d e ≡ true → d ≡ e) (elect : Elect L)
    (trace : List (TraceEvent D)) (verdicts : List (Bool × Proposal D)) (settings : Settings) (me : Option ℕ)
    (members : List K) (elector : L) (terms : Terms) (early : Bool) where
  abbrev new : StateFacts K L D
  new = new_facts settings me members elector terms early

  floor_brings : (floor : FloorFacts D) (now : ℕ)
      → BringsAccepted settings.epoch (trace ++ of_floor floor) verdicts new (event.SetFloor floor now)
  floor_brings (Genesis payload) now = brings_nothing settings.epoch (trace ++ []) verdicts new
      (event.SetFloor (Genesis payload) now) refl refl refl (λ v. refl)
  floor_brings (Finalized c) now = record {
    notarized = λ d is. absurd (cc);
    nullified = λ d is. absurd (cc);
    finalized = λ d is. (let one : c ≡ d = cc in
        subst (λ (f : ProposalFacts D). Contains (trace ++ Accepts (subject.Finalize c.proposal) ∷ [])
        (Accepts (subject.Finalize f.proposal))) one
        (Contains-append_right trace (Accepts (subject.Finalize c.proposal) ∷ [])
        (Accepts (subject.Finalize c.proposal)) (0, omega arith, refl)));
    judged = λ v success is. absurd (cc);
  }

  nothing_led : (all : List (TraceEvent D)) → RoundsLed settings.epoch all verdicts new
  nothing_led all = record {
    notarized = λ v c is. absurd (false≢true (ap is_some is));
    finalized = λ v c is. absurd (false≢true (ap is_some is));
    judged = λ v success is. absurd (false≢true (ap is_some is));
    held = λ v is. absurd (false≢true is);
  }

  based_there : (floor : FloorFacts D) (now : ℕ) → takes_floor new floor ≡ true
      → (is_some (after_set_floor same elect new floor now).genesis ≡ true)
      ⊎ (0 < (after_set_floor same elect new floor now).finalized)
  based_there (Genesis payload) now takes =
      inl (ap is_some (event_follows same decides elect new (event.SetFloor (Genesis payload) now) takes).genesis)
  based_there (Finalized c) now takes = inr (
      let some : 1 ≤ c.proposal.round.view = leb-true 1 c.proposal.round.view
      (and_parts ((new.current == 0) && (c.proposal.round.epoch == settings.epoch)) _ takes).1 in
      omega (arith, (event_follows same decides elect new (event.SetFloor (Finalized c) now) takes).finalized, some))

  pub floor_led : (floor : FloorFacts D) (now : ℕ) → takes_floor new floor ≡ true
      → Led terms.term_length (trace ++ of_floor floor) verdicts (after_set_floor same elect new floor now)
  floor_led floor now takes =
      let e : Event K D = event.SetFloor floor now in
      let all = trace ++ of_floor floor in
      let y : StateFacts K L D = after_set_floor same elect new floor now in
      let brings = floor_brings floor now in
      let goes = event_goes same elect new e in
      let ahead : y.finalized < y.current = event_ahead same elect new e (inr (refl, refl)) in
      record {
        terms = ap (λ t. t.term_length) goes.terms;
        rounds = subst (λ s. RoundsLed s.epoch all verdicts y) (sym goes.settings)
            (rounds_led same decides elect all verdicts new e takes brings (nothing_led all));
        reached = subst (λ s. IsLedTo terms.term_length s.epoch all verdicts y.current) (sym goes.settings)
            (reached_after same decides elect all verdicts new e takes brings terms.term_length refl
            (inl (omega (arith, ahead))));
        based = based_there floor now takes;
        final = final_after same decides elect all verdicts new e takes brings (inl refl);
      }
