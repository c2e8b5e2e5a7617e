-- The leader's two calls, in a state that is at an untouched term start.
use Rattle.std.proofs.Common.{◌≡◌, refl, ap, sym, ◌∙◌, ℕ, ◌<◌, Bool, true, false, cond, Some, None, is_some, arith}
use Rattle.std.specs.Ordering.{nat_cmp}
use Rattle.std.specs.Cmp.{nat_cmp_total}
use Rattle.std.specs.FinMap.Entries.{find, find-put}
use Rattle.std.proofs.lemmas.Bool.{eq-eqb, false≢true}
use Rattle.std.proofs.Math.Bool.{or-true}
use Rattle.simplex_types.specs.declared.types.messages.Context.{Context}
use Rattle.simplex_types.specs.declared.types.messages.Proposal.{Proposal}
use Rattle.simplex_view_maps.proofs.Maps.{is_eq-nat_cmp}
use Rattle.simplex_round.specs.declared.round.Leader.{Leader}
use Rattle.simplex_round.specs.Round.{RoundFacts, is_pending, signs_as}
use Rattle.simplex_voter.specs.declared.voter.propose.ProposalRequest.TheVariants.{Propose}
use Rattle.simplex_voter.specs.Facts.{StateFacts, Elect}
use Rattle.simplex_voter.specs.ViewEntry.{at_moment}
use Rattle.simplex_voter.specs.Parents.{highest_explicit, find_parent, captured_parent_valid}
use Rattle.simplex_voter.specs.ProposalRequests.{views_ahead, request_in, propose_answer, proposed_answer}
use Rattle.simplex_voter.proofs.Found.{first_given}
use Rattle.simplex_member.specs.Calls.{TryPropose, Proposed}
use Rattle.simplex_member.specs.CallSemantics.{outstanding_work_after}
use Rattle.simplex_member.specs.OutstandingWork.{OutstandingWork, context_at}
use Rattle.laws_progress.proofs.states.AtTermStart.{StandingMember, StandsAtView, put_here, at_another}
use Rattle.laws_progress.proofs.states.Words.{built_on, round_is, tracked_is, starts, admitted, allowed_parent}
use Rattle.laws_progress.proofs.states.Calls.{Work, with_work, nothing_done, verified, Makes}
use Rattle.laws_progress.proofs.states.Scan.{ahead_rises, ahead_here, ahead_below}
use Rattle.laws_safety.proofs.lives.Progress.{no_fault_due}
use Rattle.laws_safety.proofs.votes.ShownVotesByVotes.{not_nullified}

-- a block was asked for
abbrev pub asked_for : {D : Type 0} → Work D
asked_for = record nothing_done {
  slot =
      record { held = None; conflict = false; verified = false; build_requested = true; verify_requested = false };
}

-- what the leader is asked to build on
abbrev pub build_context : {K D : Type 0} → StandingMember D → Leader K → Context D K
build_context l lead =
    record { round = record { epoch = l.epoch; view = l.view }; leader = lead.key; parent = (l.parent, l.payload) }

-- the own proposal was built at this moment
abbrev pub built_at : {K D : Type 0} → RoundFacts K D → ℕ → RoundFacts K D
built_at r now = record r { proposed_at = Some now }

module _ {K L D : Type 0} (same : D → D → Bool) (elect : Elect L) (reflexive : (d : D) → same d d ≡ true)
    (l : StandingMember D) (q : D) (r : RoundFacts K D) (pending : is_pending r.decision ≡ true)
    (lead : Leader K) (leads : r.leader ≡ Some lead) (own : signs_as r.me lead.idx ≡ true)
    (x : StateFacts K L D) where
  abbrev p : Proposal D
  p = built_on l q

  module _ (s : StandsAtView l (with_work r nothing_done) l.view x)
      (builds : highest_explicit x l.view ≡ Some (l.parent, l.payload)) where
    abbrev here : RoundFacts K D
    here = with_work r nothing_done

    preferred : find_parent same elect x l.view ≡ Some (l.parent, l.payload)
    unfolding find_parent
    preferred = rw (starts l here l.view x s, builds, s.gapless) refl

    requests : request_in same elect x (l.view, here) ≡ Some (Propose (build_context l lead))
    requests = rw (
      admitted l here l.view x s (omega arith),
      leads,
      own,
      not_nullified r.decision pending,
      preferred,
      starts l here l.view x s,
      s.explicit,
      reflexive l.payload,
    )
        (ap (λ (e : ℕ). Some (Propose (record
        { round = record { epoch = e; view = l.view }; leader = lead.key; parent = (l.parent, l.payload) }))) s.epoch)

    pub propose_replied : propose_answer same elect x ≡ Some (Propose (build_context l lead))
    unfolding propose_answer
    propose_replied = first_given (request_in same elect x) (views_ahead x) l.view here (ahead_rises l here x s)
        (ahead_here l here x s) (ap is_some requests) nothing ∙ requests
      where
        nothing : (v : ℕ) (u : RoundFacts K D) → v < l.view → find nat_cmp v (views_ahead x) ≡ Some u
            → request_in same elect x (v, u) ≡ None
        nothing v u less at = absurd (false≢true (ap is_some (sym (ahead_below l here x s v less) ∙ at)))

    pub tries_propose : (o : OutstandingWork K D) → Makes same elect l (with_work r asked_for) l.view x o TryPropose
    tries_propose o = record {
      allowed = refl;
      no_fault = no_fault_due x.failed false false s.alive refl refl;
      leaves = rw (propose_replied, tracked_is l here l.view x s, round_is l here l.view x s)
          (put_here l here (with_work r asked_for) l.view x s);
    }

    pub opens : (o : OutstandingWork K D) → context_at (outstanding_work_after same elect x o TryPropose) l.view ≡ Some
        (build_context l lead)
    opens o = rw propose_replied (find-put nat_cmp nat_cmp_total l.view l.view (build_context l lead) o.contexts
        ∙ ap (λ b. cond b (Some (build_context l lead)) (find nat_cmp l.view o.contexts))
        (is_eq-nat_cmp l.view l.view ∙ eq-eqb l.view l.view refl))

  module _ (s : StandsAtView l (with_work r asked_for) l.view x) (o : OutstandingWork K D)
      (open_now : context_at o l.view ≡ Some (build_context l lead)) where
    stands_still : captured_parent_valid same elect x l.view l.parent l.payload ≡ true
    unfolding captured_parent_valid
    stands_still = rw (allowed_parent same elect reflexive l _ l.view x s, reflexive l.payload) (or-true _)

    taken : proposed_answer same elect x (build_context l lead) q ≡ true
    unfolding proposed_answer
    taken = rw (stands_still, s.here, not_nullified r.decision pending) refl

    pub builds_it : Makes same elect l (with_work (built_at r 0) (verified true p l.payload)) l.view x o
        (Proposed l.view q 0)
    builds_it = record {
      allowed = rw open_now refl;
      no_fault = no_fault_due x.failed false false s.alive refl refl;
      leaves = rw (open_now, taken, round_is l _ l.view x s)
          (put_here l _ (with_work (built_at r 0) (verified true p l.payload)) l.view (at_moment x 0)
          (at_another l _ l.view x x.named 0 s));
    }
