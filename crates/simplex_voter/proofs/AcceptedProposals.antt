-- The effect of a proposal's certificate, step by step.
use Rattle.std.proofs.Common.{◌≡◌, ℕ, ◌+◌, Bool, true, false, cond, not, ltb, leb, filter, Option, Some, None, is_some, unwrap_or, refl, ap, sym, ◌∙◌}
use Rattle.std.specs.Prelude.{option_map, map as map_list}
use Rattle.std.proofs.lemmas.Bool.{false≢true}
use Rattle.simplex_types.specs.Certificates.{ProposalFacts}
use Rattle.simplex_round.specs.Round.{RoundFacts, new_round, token_of, after_abort}
use Rattle.simplex_voter.specs.Facts.{StateFacts, Elect, round_of, round_number}
use Rattle.simplex_voter.specs.ViewEntry.{at_moment, with_view_entered}
use Rattle.simplex_voter.specs.Leaders.{with_elected_leader, with_window_leaders}
use Rattle.simplex_voter.specs.Certification.{named_also, with_finalized_view, without_token, with_waiting_candidate}
use Rattle.simplex_voter.specs.Acceptance.{added_answer, notarization_added, with_notarization_at, after_add_notarization, finalization_added, with_finalization_at, after_add_finalization}
use Rattle.simplex_voter.proofs.Elsewhere.{round_of-elected, round_of-entered, not_next, first_added}
use Rattle.simplex_voter.proofs.Walked.{find-changed}

not_true : (b c : Bool) → c ≡ not b → c ≡ false → b ≡ true
not_true true c is none = refl
not_true false c is none = absurd (false≢true (sym none ∙ is))

not_false : (b c : Bool) → c ≡ not b → c ≡ true → b ≡ false
not_false true c is some = absurd (false≢true (sym is ∙ some))
not_false false c is some = refl

-- x is what was known, y after the election for the next view, z after the notarization is stored
module _ {K L D : Type 0} (same : D → D → Bool) (elect : Elect L) (x y z : StateFacts K L D) (c : ProposalFacts D)
    (v next : ℕ) (at : v ≡ c.proposal.round.view) (after : next ≡ v + 1)
    (is : y ≡ with_elected_leader elect x next (Some c.bytes)) where
  abbrev view : ℕ
  view = c.proposal.round.view

  after_election : y ≡ with_elected_leader elect x (view + 1) (Some c.bytes)
  after_election = is ∙ ap (λ n. with_elected_leader elect x n (Some c.bytes)) (after ∙ ap (λ n. n + 1) at)

  pub notarization_stays_added : notarization_added same elect y c ≡ notarization_added same elect x c
  notarization_stays_added =
      ap (λ r. added_answer same r.notarization r c.proposal)
      (ap (λ w. round_of w view) after_election
      ∙ round_of-elected x view (view + 1) (not_next view) elect (Some c.bytes))

  module _ (added : Bool × Option K) (answer : added ≡ notarization_added same elect y c)
      (kept : z ≡ with_notarization_at same elect y c) where
    shows : added.0 ≡ not (is_some (round_of x view).notarization)
    shows = ap (λ a. a.0) (answer ∙ notarization_stays_added)
        ∙ first_added same (round_of x view).notarization (round_of x view) c

    kept_there : z ≡ with_notarization_at same elect (with_elected_leader elect x (view + 1) (Some c.bytes)) c
    kept_there = kept ∙ ap (λ w. with_notarization_at same elect w c) after_election

    pub notarized_again : added.0 ≡ false → z ≡ after_add_notarization same elect x c
    notarized_again again = rw (not_true _ _ shows again) kept_there

    pub notarized_first : added.0 ≡ true → (s n : StateFacts K L D) → n ≡ named_also z v → s ≡ with_window_leaders n v
        → s ≡ after_add_notarization same elect x c
    notarized_first first s n named slides =
        rw (not_false _ _ shows first) (
        slides ∙ ap (λ w. with_window_leaders w v) (named ∙ ap (λ w. named_also w v) kept_there)
        ∙ ap (λ u. with_window_leaders (named_also
        (with_notarization_at same elect (with_elected_leader elect x (view + 1) (Some c.bytes)) c) u) u) at)

-- the answer of a finalization, by the round of its view: the end of a certification makes no difference
module _ {K D : Type 0} (same : D → D → Bool) (c : ProposalFacts D) where
  abbrev added_by : RoundFacts K D → Bool × Option K
  added_by r = added_answer same r.finalization r c.proposal

  added_ended : (b : Bool) (r : RoundFacts K D) → added_by (cond b (without_token r) r) ≡ added_by r
  added_ended true r = elim (is_some (token_of r.certification)) as
      (λ b. added_by (cond b (record r { certification = after_abort r.certification }) r) ≡ added_by r) [
        | true ↦ refl
        | false ↦ refl
      ]
  added_ended false r = refl

  added_found : (b : Bool) (found : Option (RoundFacts K D)) (fresh : RoundFacts K D)
      → added_by (unwrap_or (option_map (λ r. cond b (without_token r) r) found) fresh) ≡ added_by
      (unwrap_or found fresh)
  added_found b None fresh = refl
  added_found b (Some r) fresh = added_ended b r

  added_raised : {L : Type 0} (x : StateFacts K L D) (v : ℕ)
      → added_by (round_of (with_finalized_view x v) v) ≡ added_by (round_of x v)
  added_raised x v =
      let fresh : RoundFacts K D = new_round x.me x.members (round_number x v) in
      elim (ltb x.finalized v) as (λ b. added_by (round_of (cond b (record x {
        finalized = v;
        named = filter (λ w. ltb v w) x.named;
        rounds = map_list (λ e. (e.0, cond (leb e.0 v) (without_token e.1) e.1)) x.rounds;
      }) x) v) ≡ added_by (round_of x v)) [
        | true ↦ ap (λ found. added_by (unwrap_or found fresh))
            (find-changed (λ u (r : RoundFacts K D). cond (leb u v) (without_token r) r) v x.rounds)
            ∙ added_found (leb v v) _ fresh
        | false ↦ refl
      ]

-- x is what was known, y after the next view is entered and led, z after the finalization is stored
module _ {K L D : Type 0} (same : D → D → Bool) (elect : Elect L) (x y z : StateFacts K L D) (c : ProposalFacts D)
    (v now : ℕ) (at : v ≡ c.proposal.round.view)
    (passes : y ≡ with_elected_leader elect (with_view_entered (with_finalized_view (at_moment x now) v) (v + 1) now)
    (v + 1) (Some c.bytes)) where
  abbrev finalized_view : ℕ
  finalized_view = c.proposal.round.view

  abbrev entered_there : StateFacts K L D
  entered_there = with_view_entered (with_finalized_view (at_moment x now) finalized_view) (finalized_view + 1) now

  after_choice : y ≡ with_elected_leader elect entered_there (finalized_view + 1) (Some c.bytes)
  after_choice = passes ∙ ap (λ u. with_elected_leader elect
      (with_view_entered (with_finalized_view (at_moment x now) u) (u + 1) now) (u + 1) (Some c.bytes)) at

  pub finalization_stays_added : finalization_added same elect y c ≡ finalization_added same elect x c
  finalization_stays_added =
      let apart = not_next finalized_view in
      ap (λ r. added_by same c r)
      (ap (λ w. round_of w finalized_view) after_choice
      ∙ round_of-elected entered_there finalized_view (finalized_view + 1) apart elect (Some c.bytes)
      ∙ round_of-entered (with_finalized_view (at_moment x now) finalized_view) finalized_view (finalized_view + 1)
      apart now)
      ∙ added_raised same c (at_moment x now) finalized_view

  module _ (added : Bool × Option K) (answer : added ≡ finalization_added same elect y c)
      (kept : z ≡ with_finalization_at same elect y c) where
    shows_finalized : added.0 ≡ not (is_some (round_of x finalized_view).finalization)
    shows_finalized = ap (λ a. a.0) (answer ∙ finalization_stays_added)
        ∙ first_added same (round_of x finalized_view).finalization (round_of x finalized_view) c

    abbrev kept_finalization : StateFacts K L D
    kept_finalization = with_finalization_at same elect
        (with_elected_leader elect entered_there (finalized_view + 1) (Some c.bytes)) c

    finalization_kept : z ≡ kept_finalization
    finalization_kept = kept ∙ ap (λ w. with_finalization_at same elect w c) after_choice

    pub finalized_again : added.0 ≡ false → z ≡ after_add_finalization same elect x c now
    finalized_again again = rw (not_true _ _ shows_finalized again) finalization_kept

    pub finalized_first : added.0 ≡ true → (s : StateFacts K L D)
        → s ≡ with_window_leaders (with_waiting_candidate elect z v) v → s ≡ after_add_finalization same elect x c now
    finalized_first first s opens =
        rw (not_false _ _ shows_finalized first) (
        opens ∙ ap (λ w. with_window_leaders (with_waiting_candidate elect w v) v) finalization_kept
        ∙ ap (λ u. with_window_leaders (with_waiting_candidate elect kept_finalization u) u) at)
