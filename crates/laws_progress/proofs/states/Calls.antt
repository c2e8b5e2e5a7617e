-- What each call makes of a state that is at an untouched term start.
use Rattle.std.proofs.Common.{◌≡◌, refl, ap, sym, ◌∙◌, subst, ℕ, ◌+◌, Bool, true, false, ◌&&◌, nat_lt, if◌then◌else◌, List, Option, Some, None, is_some, arith}
use Rattle.std.specs.Option.{option_map_or}
use Rattle.std.proofs.Math.Bool.{and-false}
use Rattle.std.proofs.lemmas.Bool.{eq-eqb, lt-ltb, le-ltb, false≢true}
use Rattle.simplex_types.specs.Certificates.{ProposalFacts, NotarizeVote, FinalizeVote}
use Rattle.simplex_types.specs.declared.types.messages.Proposal.{Proposal}
use Rattle.simplex_round.specs.declared.round.Decision.TheVariants as decision
use Rattle.simplex_round.specs.declared.round.Certification.{Certification}
use Rattle.simplex_round.specs.declared.round.Certification.TheVariants.{Ready, Judged}
use Rattle.simplex_round.specs.Slot.{SlotFacts, empty_slot}
use Rattle.simplex_round.specs.Round.{RoundFacts, is_pending}
use Rattle.simplex_voter.specs.Facts.{StateFacts, Elect, round_of, round_number, is_tracked}
use Rattle.simplex_voter.specs.Acceptance.{with_notarization_at}
use Rattle.simplex_voter.specs.Certification.{with_verdict}
use Rattle.simplex_voter.specs.ViewEntry.{at_moment}
use Rattle.simplex_voter.specs.Leaders.{with_elected_leader, with_next_view_ready}
use Rattle.simplex_voter.specs.Refusals.{names_too_large, is_started, enters_late, has_late_deadline}
use Rattle.simplex_voter.specs.Payloads.{explicit_ancestry_payload}
use Rattle.simplex_voter.specs.Rules.{may_notarize, may_finalize, required_certification_parent, explicit_parent_ready}
use Rattle.simplex_voter.specs.Verification.{with_proposal}
use Rattle.simplex_voter.proofs.Gaps.{and_both}
use Rattle.simplex_voter.proofs.Rules.{notarize_whole, finalize_whole}
use Rattle.simplex_member.specs.CallConditions.{is_allowed, fault_of}
use Rattle.simplex_member.specs.Calls.{CallFacts, Added, Notarize, Finalize, SetProposal, Verified, ConstructNotarize, AddNotarization, Certified, ConstructFinalize, AddFinalization}
use Rattle.simplex_member.specs.CallSemantics.{answer, after_call}
use Rattle.simplex_member.specs.OutstandingWork.{OutstandingWork, is_verifying}
use Rattle.laws_progress.proofs.states.AtTermStart.{StandingMember, StandsAtView, put_here, at_another, next_ready, waits, woken, next_entered, leader_above, window_led}
use Rattle.laws_progress.proofs.states.Words.{built_on, same_self, round_is, tracked_is, starts, no_window, admitted, takes, names_small, binding_holds}
use Rattle.laws_safety.proofs.lives.Progress.{no_fault_due}
use Rattle.laws_safety.proofs.votes.ShownVotesByVotes.{not_nullified}

-- what was done so far in the view: nothing else of its round matters
pub record Work (D : Type 0) : Type 0 where
  pub slot : SlotFacts D
  pub decided : Bool
  pub notarization : Option (ProposalFacts D)
  pub certification : Certification
  pub binding : Option (Proposal D × D)

-- the round with this work done
abbrev pub with_work : {K D : Type 0} → RoundFacts K D → Work D → RoundFacts K D
with_work r w = record r {
  slot = w.slot;
  notarize_decided = w.decided;
  notarization = w.notarization;
  certification = w.certification;
  binding = w.binding;
}

module _ {D : Type 0} where
  abbrev pub nothing_done : Work D
  nothing_done =
      record { slot = empty_slot; decided = false; notarization = None; certification = Ready; binding = None }

  -- the proposal is stored
  abbrev pub received : Proposal D → Work D
  received p = record nothing_done {
    slot =
        record { held = Some p; conflict = false; verified = false; build_requested = false; verify_requested = false };
  }

  -- it was returned to be verified on its parent's payload
  abbrev pub being_verified : Proposal D → D → Work D
  being_verified p d = record nothing_done {
    slot =
        record { held = Some p; conflict = false; verified = false; build_requested = false; verify_requested = true };
    binding = Some (p, d);
  }

  -- it was verified, or built
  abbrev pub verified : Bool → Proposal D → D → Work D
  verified built p d = record nothing_done {
    slot =
        record { held = Some p; conflict = false; verified = true; build_requested = built; verify_requested = true };
    binding = Some (p, d);
  }

  -- voted for
  abbrev pub voted : Bool → Proposal D → D → Work D
  voted built p d = record (verified built p d) { decided = true }

  -- notarized, by this certificate
  abbrev pub notarized : Bool → Proposal D → D → ProposalFacts D → Work D
  notarized built p d c = record (voted built p d) { notarization = Some c }

  -- certified
  abbrev pub certified : Bool → Proposal D → D → ProposalFacts D → Work D
  certified built p d c = record (notarized built p d c) { certification = Judged true }

module _ {K L D : Type 0} (elect : Elect L) (l : StandingMember D) (r : RoundFacts K D) (c : ℕ) (x : StateFacts K L D)
    (s : StandsAtView l r c x) where
  -- what the proposal requires, if anything, is its parent
  parent_ready : (q : D) → explicit_parent_ready elect x l.view (built_on l q) ≡ true
  unfolding required_certification_parent
  parent_ready q = rw (starts l r c x s) (by_test _)
    where
      by_test : (b : Bool) → option_map_or (λ u. is_some (explicit_ancestry_payload x u))
          (if b then Some l.parent else None) true ≡ true
      by_test true = rw s.explicit refl
      by_test false = refl

module _ {K L D : Type 0} (same : D → D → Bool) (elect : Elect L) where
  -- the call is made, and leaves the view's round like this
  pub record Makes (l : StandingMember D) (q : RoundFacts K D) (c : ℕ) (x : StateFacts K L D) (o : OutstandingWork K D)
      (call : CallFacts D) : Type 0 where
    pub allowed : is_allowed x o call ≡ true
    pub no_fault : fault_of x call ≡ None
    pub leaves : StandsAtView l q c (after_call same elect x o call)

module _ {K L D : Type 0} (same : D → D → Bool) (elect : Elect L) (reflexive : (d : D) → same d d ≡ true)
    (l : StandingMember D) (q : D) (r : RoundFacts K D) (pending : is_pending r.decision ≡ true)
    (x : StateFacts K L D) (o : OutstandingWork K D) where
  abbrev p : Proposal D
  p = built_on l q

  -- 1: the proposal is passed in
  pub sets_proposal : StandsAtView l (with_work r nothing_done) l.view x
      → Makes same elect l (with_work r (received p)) l.view x o (SetProposal l.view p)
  sets_proposal s =
      let ready = next_ready l elect (with_work r nothing_done) l.view x s in
      let put = put_here l _ (with_proposal same (round_of (with_next_view_ready elect x l.view) l.view) p) l.view
      (with_next_view_ready elect x l.view) ready in
      let round = round_is l (with_work r nothing_done) l.view (with_next_view_ready elect x l.view) ready in
      record {
        allowed = and_both _ _ (takes l _ l.view x s (omega arith)) (eq-eqb l.view l.view refl);
        no_fault = no_fault_due x.failed (names_too_large p) false s.alive (names_small l _ l.view x s q) refl;
        leaves = subst (λ z. StandsAtView l z l.view (after_call same elect x o (SetProposal l.view p)))
            (ap (λ z. with_proposal same z p) round ∙ rw (not_nullified r.decision pending) refl) put;
      }

  -- 3: it was found valid
  pub is_verified : is_verifying o l.view ≡ true → StandsAtView l (with_work r (being_verified p l.payload)) l.view x
      → Makes same elect l (with_work r (verified false p l.payload)) l.view x o (Verified l.view)
  is_verified opened s =
      let holds = binding_holds same elect reflexive l _ l.view x s q refl refl in
      let tracked = tracked_is l _ l.view x s in
      let round = round_is l _ l.view x s in
      record {
        allowed = opened;
        no_fault = no_fault_due x.failed false false s.alive refl refl;
        leaves = rw (holds, tracked, round, not_nullified r.decision pending)
            (put_here l _ (with_work r (verified false p l.payload)) l.view x s);
      }

  -- 4: it is voted for
  pub may_vote : (built : Bool) → StandsAtView l (with_work r (verified built p l.payload)) l.view x
      → may_notarize same elect x l.view ≡ true
  may_vote built s =
      let round = round_is l _ l.view x s in
      notarize_whole same elect x l.view (record {
        admitted = admitted l _ l.view x s (omega arith);
        first_vote = rw round refl;
        no_nullify = rw round (not_nullified r.decision pending);
        verified = rw round refl;
        ancestry = λ inside. absurd (false≢true (sym (no_window l _ l.view x s) ∙ inside));
        bound = binding_holds same elect reflexive l _ l.view x s q refl refl;
      })

  pub votes : (built : Bool) → StandsAtView l (with_work r (verified built p l.payload)) l.view x
      → Makes same elect l (with_work r (voted built p l.payload)) l.view x o (ConstructNotarize l.view)
  votes built s =
      let round = round_is l _ l.view x s in
      let cast = put_here l _ (with_work r (voted built p l.payload)) l.view x s in
      record {
        allowed = refl;
        no_fault = no_fault_due x.failed false false s.alive refl refl;
        leaves = rw (may_vote built s, round) (next_ready l elect _ l.view _ cast);
      }

  pub vote_replied : (built : Bool) → StandsAtView l (with_work r (verified built p l.payload)) l.view x
      → answer same elect x o (ConstructNotarize l.view) ≡ Notarize (Some (NotarizeVote p l.me))
  vote_replied built s = rw (may_vote built s, round_is l _ l.view x s, s.me) refl

  -- 5: its notarization comes
  abbrev certificate : List ℕ → ProposalFacts D
  certificate bytes = record { proposal = p; bytes = bytes }

  pub is_notarized : (built : Bool) (bytes : List ℕ) → StandsAtView l (with_work r (voted built p l.payload)) l.view x
      → Makes same elect l (with_work r (notarized built p l.payload (certificate bytes))) l.view x o
      (AddNotarization (certificate bytes))
  is_notarized built bytes s =
      let round = round_is l _ l.view x s in
      let led = leader_above l _ l.view (l.view + 1) (elect x.elector (round_number x (l.view + 1)) (Some bytes)) x
      (omega arith) s in
      let y : StateFacts K L D = with_elected_leader elect x (l.view + 1) (Some bytes) in
      let kept : StandsAtView l (with_work r (notarized built p l.payload (certificate bytes))) l.view
      (with_notarization_at same elect y (certificate bytes)) =
      rw (round_is l _ l.view y led, same_self same reflexive l q)
      (put_here l _ (with_work r (notarized built p l.payload (certificate bytes))) l.view y led) in
      record {
        allowed = takes l _ l.view x s (omega arith);
        no_fault = no_fault_due x.failed (names_too_large p) false s.alive (names_small l _ l.view x s q) refl;
        leaves = rw round (window_led l _ l.view _ (waits l _ l.view l.view _ kept));
      }

  pub notarization_replied : (bytes : List ℕ) → (b : Bool) × (k : Option K)
      × (answer same elect x o (AddNotarization (certificate bytes)) ≡ Added b k)
  notarization_replied bytes = (_, _, refl)

  -- 6: the application finds it good
  pub is_certified : (built : Bool) (c : ProposalFacts D)
      → StandsAtView l (with_work r (notarized built p l.payload c)) l.view x
      → Makes same elect l (with_work r (certified built p l.payload c)) (l.view + 1) x o (Certified l.view true 0)
  is_certified built c s =
      let tracked = tracked_is l _ l.view x s in
      let y : StateFacts K L D = at_moment x 0 in
      let noted : StandsAtView l (with_work r (notarized built p l.payload c)) l.view y =
      at_another l _ l.view x x.named 0 s in
      let judged : StandsAtView l (with_work r (certified built p l.payload c)) l.view (with_verdict y l.view true) =
      rw (round_is l _ l.view y noted) (put_here l _ (with_work r (certified built p l.payload c)) l.view y noted)
      in
      let entered = next_entered l _ 0 (with_verdict y l.view true) judged in
      record {
        allowed = and_both (is_started x) _ (lt-ltb 0 x.current (omega (arith, s.below, s.current))) (rw s.here refl);
        no_fault = no_fault_due x.failed false (is_tracked x l.view
            && (nat_lt x.current (l.view + 1) && has_late_deadline x 0)) s.alive refl
            (rw (tracked, s.on_time) (and-false (nat_lt x.current (l.view + 1))));
        leaves = rw tracked (woken l elect _ (l.view + 1) l.view _ entered);
      }

  -- 7: it is voted to be finalized, which leaves what a finalization needs
  pub may_end : (built : Bool) (c : ProposalFacts D) → r.finalization ≡ None
      → StandsAtView l (with_work r (certified built p l.payload c)) (l.view + 1) x → may_finalize elect x l.view ≡ true
  may_end built c none s =
      let round = round_is l _ (l.view + 1) x s in
      finalize_whole elect x l.view (record {
        above_finalized = omega (arith, s.above, s.below);
        admitted = admitted l _ (l.view + 1) x s (omega arith);
        not_gated = s.ungated;
        parent = rw round (parent_ready elect l _ (l.view + 1) x s q);
        undecided = rw round pending;
        unequivocated = rw round refl;
        notarized = rw round refl;
        certified = rw round refl;
      })

  pub ends : (built : Bool) (c : ProposalFacts D) → r.finalization ≡ None
      → StandsAtView l (with_work r (certified built p l.payload c)) (l.view + 1) x
      → Makes same elect l (record (with_work r (certified built p l.payload c)) { decision = decision.Finalize })
      (l.view + 1) x o (ConstructFinalize l.view)
  ends built c none s =
      record {
        allowed = refl;
        no_fault = no_fault_due x.failed false false s.alive refl refl;
        leaves = rw (may_end built c none s, round_is l _ (l.view + 1) x s)
            (put_here l _ (record (with_work r (certified built p l.payload c)) { decision = decision.Finalize })
            (l.view + 1) x s);
      }

  pub end_replied : (built : Bool) (c : ProposalFacts D) → r.finalization ≡ None
      → StandsAtView l (with_work r (certified built p l.payload c)) (l.view + 1) x
      → answer same elect x o (ConstructFinalize l.view) ≡ Finalize (Some (FinalizeVote p l.me))
  end_replied built c none s = rw (may_end built c none s, round_is l _ (l.view + 1) x s, s.me) refl

  -- 8: its finalization comes; of what that leaves nothing is said
  pub takes_finalization : (z : RoundFacts K D) (bytes : List ℕ) → StandsAtView l z (l.view + 1) x
      → (is_allowed x o (AddFinalization (certificate bytes) 0) ≡ true)
      × (fault_of x (AddFinalization (certificate bytes) 0) ≡ None)
  takes_finalization z bytes s = (
    takes l _ (l.view + 1) x s (omega arith),
    no_fault_due x.failed (names_too_large p) (enters_late x (l.view + 1) 0) s.alive
        (names_small l _ (l.view + 1) x s q)
        (ap (λ b. b && has_late_deadline x 0) (le-ltb x.current (l.view + 1) (omega (arith, s.current)))),
  )

  pub finalization_replied : (bytes : List ℕ) → (b : Bool) × (k : Option K)
      × (answer same elect x o (AddFinalization (certificate bytes) 0) ≡ Added b k)
  finalization_replied bytes = (_, _, refl)
