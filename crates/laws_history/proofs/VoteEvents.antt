-- What votes, proposals and broadcasts say, and what a prune leaves.
use Rattle.std.proofs.Common.{◌≡◌, refl, ap, sym, ◌∙◌, ℕ, ◌≤◌, Bool, true, false, ◌&&◌, ◌||◌, not, cond, eqb, if◌then◌else◌, nat_le, List, filter, Option, Some, None, is_some, unwrap_or, arith}
use Rattle.std.specs.Option.{option_map_or}
use Rattle.std.specs.Ordering.{nat_cmp}
use Rattle.std.specs.BTreeSet.{insert_key}
use Rattle.std.specs.FinMap.Entries.{find, find-where_key}
use Rattle.std.proofs.lemmas.Bool.{eqb-true, eq-eqb, true≢false}
use Rattle.std.proofs.lemmas.Bool.Decides.{nat_tests}
use Rattle.std.proofs.lemmas.Map.Views.{any-filter_same}
use Rattle.simplex_types.specs.Proposal.{same_proposal}
use Rattle.simplex_types.specs.declared.types.messages.Context.{Context}
use Rattle.simplex_types.specs.declared.types.messages.Proposal.{Proposal}
use Rattle.simplex_round.specs.declared.round.Decision.{Decision}
use Rattle.simplex_round.specs.declared.round.Decision.TheVariants as decision
use Rattle.simplex_round.specs.Slot.{SlotFacts, after_own, after_vote, holds_or_empty}
use Rattle.simplex_round.specs.Round.{RoundFacts, new_round, after_nullify, is_pending, is_nullify, is_finalize}
use Rattle.simplex_voter.specs.Facts.{StateFacts, Elect, round_of, round_number, with_round}
use Rattle.simplex_voter.specs.Windows.{min_active}
use Rattle.simplex_voter.specs.ViewEntry.{at_moment}
use Rattle.simplex_voter.specs.Leaders.{with_next_view_ready}
use Rattle.simplex_voter.specs.Rules.{may_notarize, may_nullify, may_finalize}
use Rattle.simplex_voter.specs.Votes.{nullify_cast, finalize_cast, after_construct_notarize, after_construct_nullify, after_construct_finalize}
use Rattle.simplex_voter.specs.ProposalRequests.{proposal_of, proposed_round, proposed_answer, after_proposed}
use Rattle.simplex_voter.specs.Verification.{with_proposal, after_set_proposal}
use Rattle.simplex_voter.specs.StateAnswers.{after_broadcast_notarization, after_broadcast_nullification, after_broadcast_finalization, after_prune}
use Rattle.simplex_voter.proofs.Rules.{nullify_parts, finalize_parts}
use Rattle.simplex_member.specs.OutstandingWork.{is_among}
use Rattle.simplex_record.specs.Events.{ConstructNotarize, ConstructNullify, ConstructFinalize, SetProposal, Proposed, BroadcastNotarization, BroadcastNullification, BroadcastFinalization, Prune}
use Rattle.laws_history.specs.OwnWork.{contradicts}
use Rattle.laws_safety.proofs.votes.NullifyVotes.{tied}
use Rattle.laws_history.proofs.UnchangedHistories.{known_of_round, UnchangedHistory, quiet, moment_leaves, prepared_quiet}
use Rattle.laws_history.proofs.EventFacts.{adds, FollowsEvent, put_alone, put_follows, round_follows, silent_follows, handed_follows}
use Rattle.laws_safety.proofs.votes.OutstandingWork.{among_noted}
use Rattle.laws_safety.proofs.votes.HeldProposals.{received_held, own_held}
use Rattle.std.proofs.Math.Bool.{and-false}

pending_nullify : (d : Decision) → is_pending d ≡ true → false ≡ is_nullify d
pending_nullify (decision.Pending _ _ _) is = refl
pending_nullify (decision.Nullify _) is = absurd (true≢false (sym is))
pending_nullify decision.Finalize is = absurd (true≢false (sym is))

or_swap : (a b : Bool) → (a || b) ≡ (b || a)
or_swap true true = refl
or_swap true false = refl
or_swap false true = refl
or_swap false false = refl

module _ {D : Type 0} (same : D → D → Bool) (s : SlotFacts D) (p : Proposal D) where
  pub own_conflict : (after_own (same_proposal same) s p).conflict ≡ s.conflict
  own_conflict = by_test (holds_or_empty (same_proposal same) s p)
    where
      by_test : (b : Bool) → (if b then record {
        held = Some p;
        conflict = s.conflict;
        verified = not s.conflict;
        build_requested = true;
        verify_requested = true;
      } else s).conflict ≡ s.conflict
      by_test true = refl
      by_test false = refl

  -- one that is heard of contradicts another

  pub received_conflict : (after_vote (same_proposal same) s p).conflict
      ≡ (contradicts same s.held (Some p) || s.conflict)
  received_conflict = by_held s.held
    where
      by_held : (o : Option (Proposal D)) → (option_map_or
          (λ h. record s {
            conflict = s.conflict || not (same_proposal same h p);
            verified = s.verified && same_proposal same h p;
          }) o (record s { held = Some p })).conflict
          ≡ (contradicts same o (Some p) || s.conflict)
      by_held None = refl
      by_held (Some h) = or_swap s.conflict (not (same_proposal same h p))

module _ {K L D : Type 0} (x : StateFacts K L D) where
  -- a view that a prune leaves has its round

  left_by_prune : (v : ℕ) → min_active x ≤ v → round_of (after_prune x) v ≡ round_of x v
  left_by_prune v left =
      let test : nat_le (min_active x) v ≡ true = grind (arith, nat_tests) in
      ap (λ found. unwrap_or found (new_round x.me x.members (round_number x v)))
      (find-where_key nat_cmp (λ u. nat_le (min_active x) u) v
      (λ u alike. ap (nat_le (min_active x)) (sym (tied v u alike))) x.rounds
      ∙ ap (λ b. cond b (find nat_cmp v x.rounds) None) test)

  among_left : (views : List ℕ) (v : ℕ) → min_active x ≤ v
      → is_among v (filter (λ u. nat_le (min_active x) u) views) ≡ is_among v views
  among_left views v left = any-filter_same (λ u. eqb v u) (λ u. nat_le (min_active x) u) true
      (λ u here. ap (nat_le (min_active x)) (sym (eqb-true v u here)) ∙ test) views
    where
      test : nat_le (min_active x) v ≡ true
      test = grind (arith, nat_tests)

module _ {K L D : Type 0} (same : D → D → Bool) (elect : Elect L) (x : StateFacts K L D) where
  -- votes

  pub nullify_follows : (v : ℕ) → FollowsEvent same elect (ConstructNullify v) x (after_construct_nullify x v)
  nullify_follows v = by_rule (may_nullify x v) refl
    where
      r : RoundFacts K D
      r = round_of x v

      z : StateFacts K L D
      z = with_round x v (after_nullify r)

      decided : may_nullify x v ≡ true → known_of_round (after_nullify r) ≡ adds same elect x (ConstructNullify v) v
          (known_of_round r)
      decided may =
          let open_vote : is_finalize r.decision ≡ false = (nullify_parts x v may).no_finalize in
          rw (may, open_vote, eq-eqb v v refl)
          (λ i. record (known_of_round r) { nullify_decided = true; finalize_decided = false })

      noted : (b : Bool) → is_some x.me ≡ b → may_nullify x v ≡ true → (w : ℕ)
          → is_among w (if b then insert_key nat_cmp x.nullify_votes v else x.nullify_votes)
          ≡ ((may_nullify x v && is_some x.me && eqb w v) || is_among w x.nullify_votes)
      noted true keyed may w = rw (may, keyed) (among_noted v w x.nullify_votes)
      noted false keyless may w = rw (may, keyless) refl

      voted : (b : Bool) → is_some x.me ≡ b → may_nullify x v ≡ true
          → FollowsEvent same elect (ConstructNullify v) x
          (if b then record z { nullify_votes = insert_key nat_cmp x.nullify_votes v } else z)
      voted true keyed may = record {
        settings = refl;
        terms = refl;
        genesis = refl;
        moment = refl;
        current = omega arith;
        finalized = omega arith;
        nullified = λ w _. refl;
        nullify_votes = λ w _. noted true keyed may w;
        rounds = λ w _. put_alone same elect x (ConstructNullify v) v (after_nullify r) (decided may)
            (λ u apart k. rw apart refl) w;
      }
      voted false keyless may = record {
        settings = refl;
        terms = refl;
        genesis = refl;
        moment = refl;
        current = omega arith;
        finalized = omega arith;
        nullified = λ w _. refl;
        nullify_votes = λ w _. noted false keyless may w;
        rounds = λ w _. put_alone same elect x (ConstructNullify v) v (after_nullify r) (decided may)
            (λ u apart k. rw apart refl) w;
      }

      by_rule : (b : Bool) → may_nullify x v ≡ b
          → FollowsEvent same elect (ConstructNullify v) x (if b then nullify_cast z v else x)
      by_rule true may = voted (is_some x.me) refl may
      by_rule false barred = silent_follows same elect x (ConstructNullify v) (rw barred refl) x
          (λ w k. rw (barred, and-false (eqb w v)) refl) (quiet x)

  pub finalize_follows : (v : ℕ) → FollowsEvent same elect (ConstructFinalize v) x (after_construct_finalize elect x v)
  finalize_follows v = by_rule (may_finalize elect x v) refl
    where
      r : RoundFacts K D
      r = round_of x v

      decided : may_finalize elect x v ≡ true
          → known_of_round (record r { decision = decision.Finalize }) ≡ adds same elect x (ConstructFinalize v) v
          (known_of_round r)
      decided may = rw (may, eq-eqb v v refl)
          (λ i. record (known_of_round r) {
            nullify_decided =
                pending_nullify r.decision (finalize_parts elect x v may).undecided i;
            finalize_decided = true;
          })

      by_rule : (b : Bool) → may_finalize elect x v ≡ b
          → FollowsEvent same elect (ConstructFinalize v) x (if b then finalize_cast x v else x)
      by_rule true may = round_follows same elect x (ConstructFinalize v) refl v
          (record r { decision = decision.Finalize }) refl (decided may) (λ u apart k. rw apart refl)
      by_rule false barred = silent_follows same elect x (ConstructFinalize v) refl x
          (λ w k. rw (barred, and-false (eqb w v)) refl) (quiet x)

  pub notarize_follows : (v : ℕ) → FollowsEvent same elect (ConstructNotarize v) x
      (after_construct_notarize same elect x v)
  notarize_follows v = by_rule (may_notarize same elect x v) refl
    where
      r : RoundFacts K D
      r = record (round_of x v) { notarize_decided = true }

      z : StateFacts K L D
      z = with_round x v r

      decided : may_notarize same elect x v ≡ true
          → known_of_round r ≡ adds same elect x (ConstructNotarize v) v (known_of_round (round_of x v))
      decided may = rw (may, eq-eqb v v refl) refl

      by_rule : (b : Bool) → may_notarize same elect x v ≡ b
          → FollowsEvent same elect (ConstructNotarize v) x (if b then with_next_view_ready elect z v else x)
      by_rule true may = put_follows same elect x (ConstructNotarize v) refl x (with_next_view_ready elect z v) v r
          (quiet x) (decided may) (λ u apart k. rw apart refl) (prepared_quiet elect z v)
      by_rule false barred = silent_follows same elect x (ConstructNotarize v) refl x
          (λ w k. rw (barred, and-false (eqb w v)) refl) (quiet x)

  -- proposals

  pub proposal_follows : (v : ℕ) (p : Proposal D)
      → FollowsEvent same elect (SetProposal v p) x (after_set_proposal same elect x v p)
  proposal_follows v p = put_follows same elect x (SetProposal v p) refl y (with_round y v (with_proposal same r p)) v
      (with_proposal same r p) before (received (is_nullify r.decision) refl) (λ u apart k. rw apart refl)
      (quiet (with_round y v (with_proposal same r p)))
    where
      y : StateFacts K L D
      y = with_next_view_ready elect x v

      before : UnchangedHistory x y
      before = prepared_quiet elect x v

      r : RoundFacts K D
      r = round_of y v

      received : (b : Bool) → is_nullify r.decision ≡ b
          → known_of_round (if b then r else record r { slot = after_vote (same_proposal same) r.slot p }) ≡ adds same
          elect x (SetProposal v p) v (known_of_round r)
      received true is =
          let voted : is_nullify (round_of x v).decision ≡ true = sym (ap (λ k. k.nullify_decided) (before.rounds v))
          ∙ is in
          rw (voted, eq-eqb v v refl) refl
      received false is =
          let not_voted : is_nullify (round_of x v).decision ≡ false =
          sym (ap (λ k. k.nullify_decided) (before.rounds v)) ∙ is in
          rw (not_voted, eq-eqb v v refl) (λ i. record (known_of_round r)
          { held = received_held same r.slot p i; conflict = received_conflict same r.slot p i })

  pub proposed_follows : ((d e : D) → same d e ≡ true → d ≡ e) → (context : Context D K) (payload : D) (now : ℕ)
      → FollowsEvent same elect (Proposed context payload now) x (after_proposed same elect x context payload now)
  proposed_follows decides context payload now = by_answer (proposed_answer same elect x context payload) refl
    where
      a : StateFacts K L D
      a = at_moment x now

      v : ℕ
      v = context.round.view

      r : RoundFacts K D
      r = round_of x v

      p : Proposal D
      p = proposal_of context payload

      built : proposed_answer same elect x context payload ≡ true
          → known_of_round (proposed_round same r context payload now) ≡ adds same elect x
          (Proposed context payload now) v (known_of_round r)
      built taken = rw (taken, eq-eqb v v refl)
          (λ i. record (known_of_round r)
          { held = own_held same r.slot p decides i; conflict = own_conflict same r.slot p i })

      by_answer : (b : Bool) → proposed_answer same elect x context payload ≡ b
          → FollowsEvent same elect (Proposed context payload now) x
          (if b then with_round a v (proposed_round same r context payload now) else a)
      by_answer true taken = put_follows same elect x (Proposed context payload now) refl a
          (with_round a v (proposed_round same r context payload now)) v (proposed_round same r context payload now)
          (moment_leaves x now) (built taken) (λ u apart k. rw apart refl)
          (quiet (with_round a v (proposed_round same r context payload now)))
      by_answer false dropped = silent_follows same elect x (Proposed context payload now) refl a
          (λ w k. rw (dropped, and-false (eqb w v)) refl) (moment_leaves x now)

  -- broadcasts

  pub broadcast_notarization_follows : (v : ℕ)
      → FollowsEvent same elect (BroadcastNotarization v) x (after_broadcast_notarization x v)
  broadcast_notarization_follows v =
      let r = round_of x v in
      handed_follows same elect x (BroadcastNotarization v) refl v
      (record r { notarization_broadcast = r.notarization_broadcast || is_some r.notarization }) refl
      (rw (eq-eqb v v refl) (λ i. record (known_of_round r)
      { notarization_broadcast = or_swap r.notarization_broadcast (is_some r.notarization) i }))
      (λ u apart k. rw apart refl)
      (λ untracked w k. rw (ap (λ (s : RoundFacts K D). is_some s.notarization) untracked, and-false (eqb w v)) refl)

  pub broadcast_nullification_follows : (v : ℕ)
      → FollowsEvent same elect (BroadcastNullification v) x (after_broadcast_nullification x v)
  broadcast_nullification_follows v =
      let r = round_of x v in
      handed_follows same elect x (BroadcastNullification v) refl v
      (record r { nullification_broadcast = r.nullification_broadcast || is_some r.nullification }) refl
      (rw (eq-eqb v v refl) (λ i. record (known_of_round r)
      { nullification_broadcast = or_swap r.nullification_broadcast (is_some r.nullification) i }))
      (λ u apart k. rw apart refl)
      (λ untracked w k. rw (ap (λ (s : RoundFacts K D). is_some s.nullification) untracked, and-false (eqb w v)) refl)

  pub broadcast_finalization_follows : (v : ℕ)
      → FollowsEvent same elect (BroadcastFinalization v) x (after_broadcast_finalization x v)
  broadcast_finalization_follows v =
      let r = round_of x v in
      handed_follows same elect x (BroadcastFinalization v) refl v
      (record r { finalization_broadcast = r.finalization_broadcast || is_some r.finalization }) refl
      (rw (eq-eqb v v refl) (λ i. record (known_of_round r)
      { finalization_broadcast = or_swap r.finalization_broadcast (is_some r.finalization) i }))
      (λ u apart k. rw apart refl)
      (λ untracked w k. rw (ap (λ (s : RoundFacts K D). is_some s.finalization) untracked, and-false (eqb w v)) refl)

  pub prune_follows : FollowsEvent same elect Prune x (after_prune x)
  prune_follows = record {
    settings = refl;
    terms = refl;
    genesis = refl;
    moment = refl;
    current = omega arith;
    finalized = omega arith;
    nullified = λ v left. among_left x x.nullified v left;
    nullify_votes = λ v left. among_left x x.nullify_votes v left;
    rounds = λ v left. ap known_of_round (left_by_prune x v left);
  }
