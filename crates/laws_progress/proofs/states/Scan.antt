-- The call for work to verify, in a state that is at an untouched term start and has received its proposal.
use Rattle.std.proofs.Common.{◌≡◌, refl, ap, sym, ◌∙◌, subst, ℕ, ◌<◌, Bool, true, false, ◌&&◌, not, nat_le, ltb, ltb-true, Option, Some, None, is_some, arith}
use Rattle.std.specs.Prelude.{T, map as map_list, option_map}
use Rattle.std.specs.Option.{option_map_or}
use Rattle.std.specs.List.{list_any}
use Rattle.std.specs.Ordering.{nat_cmp}
use Rattle.std.specs.FinMap.Entries.{find, is_sorted}
use Rattle.std.proofs.lemmas.Bool.{le-leb, false≢true}
use Rattle.std.proofs.lemmas.Bool.Decides.{nat_tests}
use Rattle.simplex_types.specs.Terms.{next_term_start}
use Rattle.simplex_types.specs.declared.types.messages.Proposal.{Proposal}
use Rattle.simplex_view_maps.proofs.RisingEntries.{Rises, rises}
use Rattle.simplex_round.specs.declared.round.Leader.{Leader}
use Rattle.simplex_round.specs.Round.{RoundFacts, is_pending, signs_as, pending_proposal}
use Rattle.simplex_voter.specs.declared.voter.verify.Standing.TheVariants.{Ready}
use Rattle.simplex_voter.specs.declared.voter.verify.Verify.TheVariants as verify
use Rattle.simplex_voter.specs.Facts.{StateFacts, Elect, round_at}
use Rattle.simplex_voter.specs.ProposalRequests.{views_ahead}
use Rattle.simplex_voter.specs.Verification.{is_answered, answer_in, standing, verify_answer, verify_context, was_scanned, scan_left, after_try_verify}
use Rattle.simplex_voter.proofs.Found.{found_each, rises-filtered, find-filtered, any_nowhere, first_given, any-through}
use Rattle.simplex_voter.proofs.Gaps.{and_both}
use Rattle.simplex_voter.proofs.Walked.{find-changed, sorted-changed}
use Rattle.simplex_member.specs.Calls.{TryVerify}
use Rattle.simplex_member.specs.OutstandingWork.{OutstandingWork}
use Rattle.laws_history.proofs.UnchangedHistories.{from_T}
use Rattle.laws_progress.proofs.states.AtTermStart.{StandingMember, StandsAtView, remade}
use Rattle.laws_progress.proofs.states.Words.{built_on, spans_it, no_gap, admitted, payload_is}
use Rattle.laws_progress.proofs.states.Calls.{with_work, received, being_verified, Makes}
use Rattle.laws_safety.proofs.lives.Progress.{no_fault_due}
use Rattle.laws_safety.proofs.votes.ShownVotesByVotes.{not_nullified}

below_span : (low high v : ℕ) → v < low → (nat_le low v && nat_le v high) ≡ false
below_span low high v less = grind (arith, nat_tests)

-- from the current view on: the first of them is the view itself
module _ {K L D : Type 0} (l : StandingMember D) (r : RoundFacts K D) (x : StateFacts K L D)
    (s : StandsAtView l r l.view x) where
  abbrev reach : ℕ → Bool
  reach v = nat_le x.current v && nat_le v (next_term_start x.terms.term_length x.current)

  pub ahead_rises : Rises (views_ahead x)
  ahead_rises = rises-filtered _ x.rounds (rises x.rounds (from_T (is_sorted nat_cmp x.rounds) s.ordered))

  reached : reach l.view ≡ true
  reached =
      let next : next_term_start x.terms.term_length x.current ≡ next_term_start x.terms.term_length l.view =
      ap (next_term_start x.terms.term_length) s.current in
      and_both _ _ (le-leb x.current l.view (omega (arith, s.current))) (le-leb l.view _ (omega (arith, next, s.start)))

  pub ahead_here : find nat_cmp l.view (views_ahead x) ≡ Some r
  ahead_here = find-filtered reach l.view x.rounds ∙ rw (reached, s.here) refl

  unreached : (v : ℕ) → v < l.view → reach v ≡ false
  unreached v less = below_span x.current (next_term_start x.terms.term_length x.current) v
      (omega (arith, less, s.current))

  pub ahead_below : (v : ℕ) → v < l.view → find nat_cmp v (views_ahead x) ≡ None
  ahead_below v less = find-filtered reach v x.rounds ∙ rw (unreached v less) refl

module _ {K L D : Type 0} (same : D → D → Bool) (elect : Elect L) (reflexive : (d : D) → same d d ≡ true)
    (l : StandingMember D) (q : D) (r : RoundFacts K D) (pending : is_pending r.decision ≡ true)
    (lead : Leader K) (leads : r.leader ≡ Some lead) (other : signs_as r.me lead.idx ≡ false)
    (x : StateFacts K L D) (s : StandsAtView l (with_work r (received (built_on l q))) l.view x) where
  abbrev p : Proposal D
  p = built_on l q

  abbrev here : RoundFacts K D
  here = with_work r (received p)

  waiting : pending_proposal here ≡ Some (lead, p)
  waiting = rw (leads, other, not_nullified r.decision pending) refl

  stands_ready : standing same elect x (l.view, here) ≡ Ready l.payload
  unfolding standing
  stands_ready = rw (
    admitted l here l.view x s (omega arith),
    waiting,
    spans_it l here l.view x s,
    no_gap l here l.view x s,
    payload_is same elect reflexive l here l.view x s,
  ) refl

  answers_it : answer_in same elect x (l.view, here) ≡ Some (verify.Ready (verify_context (lead, p) l.payload) p)
  answers_it = rw (waiting, stands_ready) refl

  pub verify_replied : verify_answer same elect x ≡ verify.Ready (verify_context (lead, p) l.payload) p
  verify_replied = ap (λ o. option_map_or (λ found. found) o verify.Wait)
      (first_given (answer_in same elect x) (views_ahead x) l.view here (ahead_rises l here x s) (ahead_here l here x s)
      (ap is_some answers_it) nothing ∙ answers_it)
    where
      nothing : (v : ℕ) (u : RoundFacts K D) → v < l.view → find nat_cmp v (views_ahead x) ≡ Some u
          → answer_in same elect x (v, u) ≡ None
      nothing v u less at = absurd (false≢true (ap is_some (sym (ahead_below l here x s v less) ∙ at)))

  abbrev answered_below : ℕ → ℕ × RoundFacts K D → Bool
  answered_below v d = ltb d.0 v && is_answered (standing same elect x d)

  scanned_is : (v : ℕ) → was_scanned same elect x
      v ≡ (is_some (find nat_cmp v (views_ahead x)) && not (list_any (answered_below v) (views_ahead x)))
  scanned_is v = any-through (λ e. is_answered (standing same elect x e)) v (views_ahead x) (ahead_rises l here x s)

  scanned_here : was_scanned same elect x l.view ≡ true
  scanned_here =
      let none : list_any (answered_below l.view) (views_ahead x) ≡ false =
      any_nowhere (answered_below l.view) (views_ahead x) (views_ahead x)
      (found_each (views_ahead x) (ahead_rises l here x s)) each in
      scanned_is l.view ∙ (λ i. is_some (ahead_here l here x s i) && not (none i))
    where
      each : (v : ℕ) (u : RoundFacts K D) → find nat_cmp v (views_ahead x) ≡ Some u
          → answered_below l.view (v, u) ≡ false
      each v u at = by_test (ltb v l.view) refl
        where
          by_test : (b : Bool) → ltb v l.view ≡ b → (b && is_answered (standing same elect x (v, u))) ≡ false
          by_test false is = refl
          by_test true is =
              absurd (false≢true (ap is_some (sym (ahead_below l here x s v (ltb-true v l.view is)) ∙ at)))

  scanned_below : (v : ℕ) → v < l.view → was_scanned same elect x v ≡ false
  scanned_below v less = scanned_is v ∙ ap (λ o. is_some o && not (list_any (answered_below v) (views_ahead x)))
      (ahead_below l here x s v less)

  pub tries_verify : (o : OutstandingWork K D)
      → Makes same elect l (with_work r (being_verified p l.payload)) l.view x o TryVerify
  tries_verify o = record {
    allowed = refl;
    no_fault = no_fault_due x.failed false false s.alive refl refl;
    leaves = subst (λ n. StandsAtView l (with_work r (being_verified p l.payload)) n (after_try_verify same elect x))
        s.current
        (remade l here (with_work r (being_verified p l.payload)) l.view x.current x
        (map_list (λ e. (e.0, scan_left same elect x e.0 e.1)) x.rounds) x.named x.moment s at_view sorted
        at_parent);
  }
    where
      at_view : find nat_cmp l.view (map_list (λ e. (e.0, scan_left same elect x e.0 e.1)) x.rounds) ≡ Some
          (with_work r (being_verified p l.payload))
      at_view = find-changed (scan_left same elect x) l.view x.rounds ∙ rw (s.here, scanned_here, stands_ready) refl

      sorted : T (is_sorted nat_cmp (map_list (λ e. (e.0, scan_left same elect x e.0 e.1)) x.rounds))
      sorted = subst T (sym (sorted-changed (scan_left same elect x) x.rounds)) s.ordered

      at_parent : find nat_cmp l.parent (map_list (λ e. (e.0, scan_left same elect x e.0 e.1)) x.rounds) ≡ round_at x
          l.parent
      at_parent = find-changed (scan_left same elect x) l.parent x.rounds ∙ by_found (round_at x l.parent)
        where
          by_found : (f : Option (RoundFacts K D)) → option_map (scan_left same elect x l.parent) f ≡ f
          by_found None = refl
          by_found (Some u) = rw (scanned_below l.parent s.below) refl
