-- The words of the voter in a state that is at an untouched term start.
use Rattle.std.proofs.Common.{◌≡◌, refl, ap, sym, ℕ, ◌+◌, ◌<◌, ◌≤◌, Bool, true, false, ◌&&◌, ◌||◌, nat_le, if◌then◌else◌, Option, Some, None, is_some, unwrap_or, arith}
use Rattle.std.specs.Prelude.{◌==◌, is_none}
use Rattle.std.proofs.lemmas.Bool.{eq-eqb, lt-ltb, le-leb, false≢true}
use Rattle.std.proofs.lemmas.Bool.Decides.{nat_tests}
use Rattle.simplex_types.specs.Terms.{term_start}
use Rattle.simplex_types.specs.Proposal.{same_proposal}
use Rattle.simplex_types.specs.declared.types.messages.Proposal.{Proposal}
use Rattle.simplex_round.specs.Round.{RoundFacts, new_round}
use Rattle.simplex_voter.specs.Facts.{StateFacts, Elect, round_of, round_number, is_tracked}
use Rattle.simplex_voter.specs.Windows.{is_term_start, is_admitted, is_open, in_issuance_window, admits_certificate, min_active}
use Rattle.simplex_voter.specs.Gaps.{first_unnullified_view}
use Rattle.simplex_voter.specs.Parents.{has_valid_parent_span, ancestry_payload_for_child, parent_payload_for, verification_matches}
use Rattle.simplex_voter.specs.Refusals.{is_too_large, names_too_large, takes_round, is_started}
use Rattle.simplex_voter.proofs.Gaps.{and_both}
use Rattle.laws_progress.proofs.states.AtTermStart.{StandingMember, StandsAtView}

-- the proposal of the view on the parent
abbrev pub built_on : {D : Type 0} → StandingMember D → D → Proposal D
built_on l payload = record { round = record { epoch = l.epoch; view = l.view }; parent = l.parent; payload = payload }

no_floor : (a b c : Bool) (n : ℕ) → b ≡ true → (if a || b || c then None else Some n) ≡ None
no_floor true b c n is = refl
no_floor false b c n is = rw is refl

absent : (o : Option ℕ) → is_none o ≡ true → o ≡ None
absent None is = refl
absent (Some n) is = absurd (false≢true is)

admitted_now : (a b c : Bool) → a ≡ true → (a || b || c) ≡ true
admitted_now a b c is = rw is refl

or_so : (a b : Bool) → b ≡ true → (a || b) ≡ true
or_so true b is = refl
or_so false b is = is

small_below : (p v : ℕ) → p < v → is_too_large v ≡ false → is_too_large p ≡ false
small_below p v low small = grind (arith, nat_tests)

module _ {K L D : Type 0} (l : StandingMember D) (r : RoundFacts K D) (c : ℕ) (x : StateFacts K L D)
    (s : StandsAtView l r c x) where
  pub round_is : round_of x l.view ≡ r
  round_is = ap (λ found. unwrap_or found (new_round x.me x.members (round_number x l.view))) s.here

  pub tracked_is : is_tracked x l.view ≡ true
  tracked_is = ap is_some s.here

  pub starts : is_term_start x l.view ≡ true
  starts = eq-eqb l.view (term_start x.terms.term_length l.view) s.start

  pub no_window : in_issuance_window x l.view ≡ false
  unfolding in_issuance_window
  no_window = ap (is_open x l.view) (no_floor (l.view == 0) (l.view == term_start x.terms.term_length l.view)
      (x.terms.optimistic_views == 0) _ starts)

  pub no_gap : first_unnullified_view x l.parent l.view ≡ None
  no_gap = absent (first_unnullified_view x l.parent l.view) s.gapless

  pub spans_it : has_valid_parent_span x l.view l.parent ≡ true
  unfolding has_valid_parent_span
  spans_it = and_both _ _ (and_both _ _ (lt-ltb l.parent l.view s.below) (le-leb x.finalized l.parent s.above))
      (or_so (l.parent + 1 == l.view) (is_term_start x l.view) starts)

  pub admitted : l.view ≤ c → is_admitted x l.view ≡ true
  unfolding is_admitted
  admitted low = admitted_now _ _ _ (and_both _ _ (le-leb 1 l.view (omega (arith, s.below)))
      (le-leb l.view x.current (omega (arith, low, s.current))))

  pub takes : l.view ≤ c → takes_round x (record { epoch = l.epoch; view = l.view }) ≡ true
  takes low =
      and_both (is_started x && (l.epoch == x.settings.epoch)) (admits_certificate x l.view)
      (and_both (is_started x) (l.epoch == x.settings.epoch)
      (lt-ltb 0 x.current (omega (arith, s.below, low, s.current))) (eq-eqb l.epoch x.settings.epoch (sym s.epoch)))
      (and_both (nat_le 1 l.view) (nat_le (min_active x) l.view) (le-leb 1 l.view (omega (arith, s.below)))
      (le-leb (min_active x) l.view (omega (arith, s.above, s.below))))

  pub names_small : (q : D) → names_too_large (built_on l q) ≡ false
  names_small q = rw (s.small, small_below l.parent l.view s.below s.small) refl

pub same_self : {D : Type 0} (same : D → D → Bool) (reflexive : (d : D) → same d d ≡ true) (l : StandingMember D)
    (q : D) → same_proposal same (built_on l q) (built_on l q) ≡ true
same_self same reflexive l q =
    rw (eq-eqb l.epoch l.epoch refl, eq-eqb l.view l.view refl, eq-eqb l.parent l.parent refl, reflexive q) refl

module _ {K L D : Type 0} (same : D → D → Bool) (elect : Elect L) (reflexive : (d : D) → same d d ≡ true)
    (l : StandingMember D) where
  module _ (r : RoundFacts K D) (c : ℕ) (x : StateFacts K L D) (s : StandsAtView l r c x) where
    pub payload_is : ancestry_payload_for_child same elect x l.view l.parent ≡ Some l.payload
    unfolding ancestry_payload_for_child
    payload_is = rw (no_window l r c x s) s.explicit

    pub allowed_parent : parent_payload_for same elect x l.view l.parent ≡ Some l.payload
    unfolding parent_payload_for
    allowed_parent = rw (spans_it l r c x s, no_gap l r c x s) payload_is

    pub binding_holds : (q : D) → r.slot.held ≡ Some (built_on l q) → r.binding ≡ Some (built_on l q, l.payload)
        → verification_matches same elect x l.view ≡ true
    unfolding verification_matches
    binding_holds q held bound =
        rw (s.here, bound, held, same_self same reflexive l q, allowed_parent, reflexive l.payload) refl
