-- How a view is entered: above a finalized one, and above the term of a nullified one.
use Rattle.std.proofs.Common.{◌≡◌, ℕ, ◌+◌, ◌<◌, ◌≤◌, ◌^◌, ltb, leb, true, false, cond, List, filter, Option, Some, None, Result, Ok, Err, OnOk, refl, ap, sym, ◌∙◌, arith}
use Rattle.std.specs.Prelude.{map as map_list}
use Rattle.simplex_types.specs.Terms.{IsVotable, next_term_start}
use Rattle.simplex_types.specs.Certificates.{NullificationFacts}
use Rattle.simplex_round.specs.Round.{RoundFacts}
use Rattle.simplex_voter.specs.declared.voter.rounds.Deadlines.{Deadlines}
use Rattle.simplex_voter.specs.Facts.{StateFacts, Elect, round_number}
use Rattle.simplex_voter.specs.Setup.{HasSameSetup, deadlines_at}
use Rattle.simplex_voter.specs.ViewEntry.{at_moment, with_view_entered}
use Rattle.simplex_voter.specs.Leaders.{with_leader_at, with_elected_leader}
use Rattle.simplex_voter.specs.Acceptance.{nullified_also, with_nullification_at, after_add_nullification, after_set_genesis}
use Rattle.simplex_voter.specs.Rounds.{largest_tracked}
use Rattle.simplex_voter.specs.Certification.{with_finalized_view, without_token}

module _ {K L D : Type 0} where
  -- what doesn't read the fields that change
  stays_raised : {A : Type 0} (f : StateFacts K L D → A) (x : StateFacts K L D) (v : ℕ)
      → ((named : List ℕ) (rounds : List (ℕ × RoundFacts K D))
      → f (record x { finalized = v; named = named; rounds = rounds }) ≡ f x) → f (with_finalized_view x v) ≡ f x
  stays_raised f x v same = elim (ltb x.finalized v) as (λ b. f (cond b (record x {
    finalized = v;
    named = filter (λ w. ltb v w) x.named;
    rounds = map_list (λ e. (e.0, cond (leb e.0 v) (without_token e.1) e.1)) x.rounds;
  }) x) ≡ f x) [
    | true ↦ same _ _
    | false ↦ refl
  ]

  module _ (x m a : StateFacts K L D) (v now : ℕ) (noted : m ≡ at_moment x now)
      (raises : a ≡ with_finalized_view m v) where
    raised_then : a ≡ with_finalized_view (at_moment x now) v
    raised_then = raises ∙ ap (λ w. with_finalized_view w v) noted

    stays : {A : Type 0} (f : StateFacts K L D → A)
        → ((named : List ℕ) (rounds : List (ℕ × RoundFacts K D))
        → f (record (at_moment x now) { finalized = v; named = named; rounds = rounds }) ≡ f (at_moment x now))
        → f a ≡ f (at_moment x now)
    stays f same = ap f raised_then ∙ stays_raised f (at_moment x now) v same

    pub setup_raised : HasSameSetup x a
    setup_raised = record {
      failed = stays (λ z. z.failed) (λ named rounds. refl);
      settings = stays (λ z. z.settings) (λ named rounds. refl);
      me = stays (λ z. z.me) (λ named rounds. refl);
      members = stays (λ z. z.members) (λ named rounds. refl);
      elector = stays (λ z. z.elector) (λ named rounds. refl);
      terms = stays (λ z. z.terms) (λ named rounds. refl);
      elects_early = stays (λ z. z.elects_early) (λ named rounds. refl);
    }

    -- the deadlines of the next view are those of before
    pub deadlines_raised : (next : ℕ) (d : Deadlines) → next ≡ v + 1
        → (ltb x.current (v + 1) ≡ true → d ≡ deadlines_at x now) → ltb a.current next ≡ true → d ≡ deadlines_at a now
    deadlines_raised next d is before ahead =
        before
        (sym (ap (λ w. ltb w next) (stays (λ z. z.current) (λ named rounds. refl)) ∙ ap (ltb x.current) is) ∙ ahead)
        ∙ sym (stays (λ z. deadlines_at z now) (λ named rounds. refl))

    -- the next view is entered, and led, above the raised one
    pub passed : {A E : Type 0} (r : Result A E) (elect : Elect L) (seed : Option (List ℕ)) (y : StateFacts K L D)
        (next : ℕ) → next ≡ v + 1 → OnOk r (y ≡ with_elected_leader elect (with_view_entered a next now) next seed)
        → OnOk r (y ≡ with_elected_leader elect
        (with_view_entered (with_finalized_view (at_moment x now) v) (v + 1) now) (v + 1) seed)
    passed (Ok t) elect seed y next is led =
        led ∙ ap (λ w. with_elected_leader elect (with_view_entered w next now) next seed) raised_then
        ∙ ap (λ n. with_elected_leader elect (with_view_entered (with_finalized_view (at_moment x now) v) n now) n seed)
        is
    passed (Err e) elect seed y next is led = led

-- the deadlines stay at the moment
pub deadlines_noted : {K L D : Type 0} (x m : StateFacts K L D) (v now : ℕ) (d : Deadlines) → m ≡ at_moment x now
    → (ltb x.current v ≡ true → d ≡ deadlines_at x now) → ltb m.current v ≡ true → d ≡ deadlines_at m now
deadlines_noted x m v now d noted before ahead =
    before (sym (ap (λ w. ltb w.current v) noted) ∙ ahead) ∙ sym (ap (λ w. deadlines_at w now) noted)

-- x is what was known, m at the moment, b with the next term's start entered and led, k with the nullification stored
module _ {K L D : Type 0} (elect : Elect L) (x m b k y : StateFacts K L D) (c : NullificationFacts)
    (v next now : ℕ) where
  pub nullification_accepted : {A E : Type 0} (r : Result A E) → v ≡ c.round.view
      → next ≡ next_term_start x.terms.term_length c.round.view → m ≡ at_moment x now
      → b ≡ with_elected_leader elect (with_view_entered m next now) next (Some c.bytes) → k ≡ with_nullification_at b c
      → OnOk r (y ≡ nullified_also k v) → OnOk r (y ≡ after_add_nullification elect x c now)
  nullification_accepted (Ok t) at is noted led kept nullifies =
      let entered_then = led ∙ ap (λ w. with_elected_leader elect (with_view_entered w next now) next (Some c.bytes))
      noted ∙ ap (λ n. with_elected_leader elect (with_view_entered (at_moment x now) n now) n (Some c.bytes)) is in
      nullifies ∙ ap (nullified_also k) at ∙ ap (λ w. nullified_also w c.round.view)
      (kept ∙ ap (λ w. with_nullification_at w c) entered_then)
  nullification_accepted (Err e) at is noted led kept nullifies = nullifies

-- a view that may be voted for may be tracked
pub votable_tracked : (v w : ℕ) → v ≡ w → IsVotable w → v ≤ largest_tracked
votable_tracked v w is votable = let below : w < 2 ^ 63 = votable.1 in omega (arith, is, below)

-- genesis: m at the moment, k with the payload, e with the first view entered
module _ {K L D : Type 0} (x m k : StateFacts K L D) (payload : D) (now : ℕ) (noted : m ≡ at_moment x now)
    (known : k ≡ record m { genesis = Some payload }) where
  genesis_known : k ≡ record (at_moment x now) { genesis = Some payload }
  genesis_known = known ∙ ap (λ (w : StateFacts K L D). record w { genesis = Some payload }) noted

  pub genesis_setup : HasSameSetup x k
  genesis_setup = record {
    failed = ap (λ z. z.failed) genesis_known;
    settings = ap (λ z. z.settings) genesis_known;
    me = ap (λ z. z.me) genesis_known;
    members = ap (λ z. z.members) genesis_known;
    elector = ap (λ z. z.elector) genesis_known;
    terms = ap (λ z. z.terms) genesis_known;
    elects_early = ap (λ z. z.elects_early) genesis_known;
  }

  pub genesis_deadlines : (d : Deadlines) → d ≡ deadlines_at x now → d ≡ deadlines_at k now
  genesis_deadlines d is = is ∙ sym (ap (λ z. deadlines_at z now) genesis_known)

  pub genesis_started : {A E : Type 0} (r : Result A E) (elect : Elect L) (e y : StateFacts K L D) (first leader : ℕ)
      → first ≡ 1 → e ≡ with_view_entered k first now → leader ≡ elect e.elector (round_number e first) None
      → OnOk r (y ≡ with_leader_at e first leader) → OnOk r (y ≡ after_set_genesis elect x payload now)
  genesis_started (Ok t) elect e y first leader is enters leads sets =
      sets ∙ ap (with_leader_at e first) leads
      ∙ ap (λ w. with_elected_leader elect w first None)
      (enters ∙ ap (λ w. with_view_entered w first now) genesis_known)
      ∙ ap (λ v. with_elected_leader elect
      (with_view_entered (record (at_moment x now) { genesis = Some payload }) v now) v None) is
  genesis_started (Err f) elect e y first leader is enters leads sets = sets
