-- Each call on the work of a view keeps what the facts show of the votes to notarize.
use Rattle.std.proofs.Common.{◌≡◌, ◌≢◌, refl, ap, sym, ◌∙◌, subst, ℕ, ◌≤◌, ◌⊎◌, inl, inr, Bool, true, false, ◌&&◌, ◌==◌, not, if◌then◌else◌, nat_le, List, Contains, Option, Some, None, is_some, is_none, slice_get, unwrap_or, arith}
use Rattle.std.specs.Prelude.{option_map, option_and_then}
use Rattle.std.specs.List.{filter_map}
use Rattle.std.specs.Option.{option_map_or}
use Rattle.std.proofs.lemmas.Bool.{false≢true, cases_eq, eqb-true, eq-eqb}
use Rattle.std.proofs.lemmas.Bool.Decides.{nat_tests}
use Rattle.simplex_types.specs.Proposal.{same_proposal}
use Rattle.simplex_types.proofs.Proposal.{same_proposal-true}
use Rattle.simplex_types.specs.declared.types.messages.Context.{Context}
use Rattle.simplex_types.specs.declared.types.messages.Proposal.{Proposal}
use Rattle.simplex_types.specs.declared.reasons.TimeoutReason.{TimeoutReason}
use Rattle.simplex_round.specs.declared.round.Leader.{Leader}
use Rattle.simplex_round.specs.Slot.{SlotFacts, after_mark, holds_or_empty}
use Rattle.simplex_round.specs.Round.{RoundFacts, new_round, is_nullify, signs_as, should_verify, should_propose, pending_proposal}
use Rattle.simplex_voter.specs.Facts.{StateFacts, Elect, round_at, round_of, round_number, is_tracked, with_round, with_tracked}
use Rattle.simplex_voter.specs.Windows.{min_active, is_admitted}
use Rattle.simplex_voter.specs.Refusals.{is_started, takes_round}
use Rattle.simplex_voter.specs.ViewEntry.{at_moment}
use Rattle.simplex_voter.specs.Leaders.{with_next_view_ready}
use Rattle.simplex_voter.specs.Parents.{verification_matches}
use Rattle.simplex_voter.specs.Rules.{may_notarize}
use Rattle.simplex_voter.specs.declared.voter.propose.ProposalRequest.{ProposalRequest}
use Rattle.simplex_voter.specs.declared.voter.verify.Standing.{Standing}
use Rattle.simplex_voter.specs.declared.voter.verify.Standing.TheVariants.{NothingToDo, Invalid, Lacks, Ready}
use Rattle.simplex_voter.specs.declared.voter.verify.Verify.{Verify}
use Rattle.simplex_voter.specs.declared.voter.verify.Verify.TheVariants as verify
use Rattle.simplex_voter.specs.ProposalRequests.{request_context, request_in, propose_answer, proposed_answer, supersede_answer, context_stands, with_build, proposed_round, proposal_of, views_ahead, after_proposed, after_supersede, after_release}
use Rattle.simplex_voter.specs.Verification.{standing, parent_standing, is_answered, through, answer_at, answer_in, verify_answer, verifying_round, round_left, was_scanned, scan_left, with_mark, without_binding, takes_proposal, after_set_proposal, after_try_verify, after_verified, after_verification_failed}
use Rattle.simplex_voter.specs.Timeouts.{with_timeout}
use Rattle.simplex_voter.specs.Certification.{after_candidates}
use Rattle.simplex_voter.proofs.Elsewhere.{round_of-with_round}
use Rattle.simplex_voter.proofs.Gaps.{and_parts, not_true}
use Rattle.simplex_member.specs.OutstandingWork.{OutstandingWork, context_at, without_context, with_context, with_open_request, is_verifying, without_verification, with_verification}
use Rattle.simplex_member.specs.CallConditions.{is_allowed}
use Rattle.simplex_member.specs.Calls.{CallFacts, SetProposal, TryPropose, Proposed, SupersedeProposalRequest, PendingHandoffAbandonment, ReleaseProposalRequest, TryVerify, Verified, VerificationFailed, CertifyCandidates, SetCertifyHandle, TriggerTimeout, NextTimeout}
use Rattle.simplex_member.specs.CallSemantics.{after_call, outstanding_work_after}
use Rattle.laws_safety.specs.Traces.{TraceEvent}
use Rattle.laws_safety.specs.ProposalStandings.{is_given_out}
use Rattle.simplex_record.proofs.Rounds.{round_put}
use Rattle.laws_safety.proofs.votes.UnchangedRounds.{leads_round, Grown, UnchangedProposal, calm, calm_alike}
use Rattle.laws_safety.proofs.votes.UnchangedProposals.{UnchangedProposalsFrom, IsNoProposalWork, above_put, calm_along, leaves}
use Rattle.simplex_record.specs.Events as event
use Rattle.simplex_record.specs.Events.{Event, covers_from}
use Rattle.simplex_record.proofs.Steps as step
use Rattle.simplex_record.proofs.Steps.{Path, Still, Then, Moves, Unnames}
use Rattle.simplex_record.proofs.Paths.{either, put, to_prepared, to_triggered, build_path, proposal_path, handle_path, polled_path}
use Rattle.laws_safety.proofs.frames.CallsOnWork.{is_silent}
use Rattle.laws_safety.proofs.votes.Proposals.{Tidy, contrary, opposite, answered, returned_outputs, proposes, reopened, tidy_calm}
use Rattle.laws_safety.proofs.votes.NotarizeVotesShown.{NotesStand, notes_calm}
use Rattle.laws_safety.proofs.votes.OutstandingWork.{among_others, now_among, got_others, still_open, now_open, some_still, still_placed, NoMoreContexts}
use Rattle.laws_safety.proofs.frames.InOrder.{InOrder}
use Rattle.laws_safety.proofs.lists.Filters.{Contains-filtered}
use Rattle.laws_safety.proofs.lists.Ordered.{found_in_order}
use Rattle.laws_safety.proofs.votes.Requests.{ahead_now, request_parts}
use Rattle.laws_safety.proofs.votes.Scanned.{among_through, any_there, first_through, tracked_scanned, round_scanned}

module _ {K L D : Type 0} where
  -- an entry of the tracked views is the round of its view
  round_in_order : (x : StateFacts K L D) (e : ℕ × RoundFacts K D) → InOrder x → Contains x.rounds e
      → round_of x e.0 ≡ e.1
  round_in_order x e ordered h = ap (λ o. unwrap_or o (new_round x.me x.members (round_number x e.0)))
      (found_in_order x.rounds e ordered h)

-- one round changes, and all else is left as it was
module _ {K L D : Type 0} (base low : ℕ) (trace : List (TraceEvent D)) (o o' : OutstandingWork K D)
    (x : StateFacts K L D) (v : ℕ) (r : RoundFacts K D) (notes : NotesStand base low trace o x) where
  notes_put : is_tracked x v ≡ true
      → Grown v (round_of x v) r
      → Tidy (is_verifying o' v) (is_some (context_at o' v)) r
      → (r.slot.verified ≡ true → r.notarize_decided ≡ false → low ≤ v)
      → ((w : ℕ) → is_verifying o' w ≡ true → (w ≡ v) ⊎ (is_verifying o w ≡ true))
      → NoMoreContexts o o'
      → ((is_verifying o' v ≡ true) → low ≤ v)
      → NotesStand base low trace o' (with_round x v r)
  notes_put tracked grown tidy worked verifying opened verifying_low = record {
    above = above_put base x v r (notes.above v tracked) notes.above;
    active = notes.active;
    reached = notes.reached;
    tidy = λ w over. elim (cases_eq w v) [
      | inl at ↦ subst (λ u. Tidy (is_verifying o' u) (is_some (context_at o' u)) (round_of (with_round x v r) u))
          (sym at) (subst (λ s. Tidy (is_verifying o' v) (is_some (context_at o' v)) s) (sym (round_put x v r)) tidy)
      | inr apart ↦ subst (λ s. Tidy (is_verifying o' w) (is_some (context_at o' w)) s)
          (sym (round_of-with_round x w v apart r))
          (tidy_calm w (is_verifying o w) (is_some (context_at o w)) (is_verifying o' w) (is_some (context_at o' w))
          (round_of x w) (round_of x w) (calm w (round_of x w)) (elsewhere w apart (verifying w))
          (some_still (context_at o' w) (context_at o w) (opened w)) (notes.tidy w over))
    ];
    placed = λ w p is. elim (cases_eq w v) [
      | inl at ↦ (let here = subst (λ (s : RoundFacts K D). s.slot.held ≡ Some p) (round_put x v r)
          (subst (λ u. (round_of (with_round x v r) u).slot.held ≡ Some p) at is) in
          elim (grown.placed p here) [ inl before ↦ notes.placed v p before ∙ sym at | inr now ↦ now ∙ sym at ])
      | inr apart ↦
          notes.placed w p (subst (λ (s : RoundFacts K D). s.slot.held ≡ Some p) (round_of-with_round x w v apart r) is)
    ];
    worked = λ w is un. elim (cases_eq w v) [
      | inl at ↦ subst (λ u. low ≤ u) (sym at)
          (worked (subst (λ (s : RoundFacts K D). s.slot.verified ≡ true) (round_put x v r)
          (subst (λ u. (round_of (with_round x v r) u).slot.verified ≡ true) at is))
          (subst (λ (s : RoundFacts K D). s.notarize_decided ≡ false) (round_put x v r)
          (subst (λ u. (round_of (with_round x v r) u).notarize_decided ≡ false) at un)))
      | inr apart ↦ notes.worked w (subst (λ (s : RoundFacts K D). s.slot.verified ≡ true)
          (round_of-with_round x w v apart r) is)
          (subst (λ (s : RoundFacts K D). s.notarize_decided ≡ false) (round_of-with_round x w v apart r) un)
    ];
    verifying_low = λ w is. elim (verifying w is) [
      | inl at ↦ subst (λ u. low ≤ u) (sym at) (verifying_low (subst (λ u. is_verifying o' u ≡ true) at is))
      | inr before ↦ notes.verifying_low w before
    ];
    context_low = λ w is. notes.context_low w (some_still (context_at o' w) (context_at o w) (opened w) is);
    contexts_placed = λ w c is. notes.contexts_placed w c (opened w c is);
    voted = λ p h above over. elim (cases_eq p.round.view v) [
      | inl at ↦ subst (λ u. (round_of (with_round x v r) u).notarize_decided ≡ true) (sym at)
          (subst (λ (s : RoundFacts K D). s.notarize_decided ≡ true) (sym (round_put x v r))
          (grown.decided (subst (λ u. (round_of x u).notarize_decided ≡ true) at (notes.voted p h above over))))
      | inr apart ↦ subst (λ (s : RoundFacts K D). s.notarize_decided ≡ true)
          (sym (round_of-with_round x p.round.view v apart r)) (notes.voted p h above over)
    ];
    covered = notes.covered;
  }
    where
      elsewhere : {A B : Type 0} (w : ℕ) → w ≢ v → (A → (w ≡ v) ⊎ B) → A → B
      elsewhere w apart says a = elim (says a) [ inl at ↦ absurd (apart at) | inr b ↦ b ]

-- rounds

module _ {K D : Type 0} (v : ℕ) where
  mark_grown : (r : RoundFacts K D) → Grown v r (with_mark r)
  mark_grown r = elim (is_nullify r.decision) as
      (λ b. Grown v r (if b then r else record r { slot = after_mark r.slot })) [
        | true ↦ (calm v r).grown
        | false ↦ record {
          me = refl;
          holding = λ p is clear. is;
          empty = λ is. is;
          placed = λ p is. inl is;
          clear = λ is. is;
          decided = λ is. is;
          requested = λ is. is;
          leader = λ is. refl;
        }
      ]

  mark_bound : (r : RoundFacts K D) → (with_mark r).binding ≡ r.binding
  mark_bound r = elim (is_nullify r.decision) as
      (λ b. (if b then r else record r { slot = after_mark r.slot }).binding ≡ r.binding) [ true ↦ refl | false ↦ refl ]

  unbound_grown : (r : RoundFacts K D) → Grown v r (record r { binding = None })
  unbound_grown r = record {
    me = refl;
    holding = λ p is clear. is;
    empty = λ is. is;
    placed = λ p is. inl is;
    clear = λ is. is;
    decided = λ is. is;
    requested = λ is. is;
    leader = λ is. refl;
  }

  given_grown : (r : RoundFacts K D) (d : D) → Grown v r (verifying_round r d)
  given_grown r d = record {
    me = refl;
    holding = λ p is clear. is;
    empty = λ is. is;
    placed = λ p is. inl is;
    clear = λ is. is;
    decided = λ is. is;
    requested = λ is. refl;
    leader = λ is. refl;
  }

module _ {K D : Type 0} (r : RoundFacts K D) where
  -- a round that may be proposed for is led by this member
  proposer_leads : should_propose r ≡ true → leads_round r ≡ true
  proposer_leads is = by_leader r.leader is
    where
      by_leader : (o : Option (Leader K)) → option_map_or
          (λ l. signs_as r.me l.idx && not (is_nullify r.decision)
          && (not r.slot.build_requested && is_none r.slot.held)) o false ≡ true
          → option_map_or (λ l. signs_as r.me l.idx) o false ≡ true
      by_leader None is = absurd (false≢true is)
      by_leader (Some l) is =
          let first = (and_parts (signs_as r.me l.idx && not (is_nullify r.decision)) _ is).0 in
          (and_parts (signs_as r.me l.idx) (not (is_nullify r.decision)) first).0

  -- one that may be verified is led by another, and holds the proposal, which was not asked for
  pending_parts : (found : Leader K × Proposal D) → pending_proposal r ≡ Some found
      → (leads_round r ≡ false) × (is_some r.leader ≡ true) × (r.slot.verify_requested ≡ false)
      × (r.slot.held ≡ Some found.1)
  pending_parts found is = by_test (should_verify r) refl is
    where
      other : (o : Option (Leader K)) → option_map_or
          (λ l. not (signs_as r.me l.idx) && not (is_nullify r.decision) && not r.slot.verify_requested) o false ≡ true
          → (option_map_or (λ l. signs_as r.me l.idx) o false ≡ false) × (is_some o ≡ true)
          × (r.slot.verify_requested ≡ false)
      other None is = absurd (false≢true is)
      other (Some l) is =
          let a = and_parts (not (signs_as r.me l.idx) && not (is_nullify r.decision)) (not r.slot.verify_requested) is
          in
          (not_true _ (and_parts (not (signs_as r.me l.idx)) (not (is_nullify r.decision)) a.0).0, refl, not_true _ a.1)

      held_one : (l : Option (Leader K)) (h : Option (Proposal D))
          → option_and_then (λ k. option_map (λ p. (k, p)) h) l ≡ Some found → h ≡ Some found.1
      held_one None h is = absurd (false≢true (ap is_some is))
      held_one (Some l) None is = absurd (false≢true (ap is_some is))
      held_one (Some l) (Some p) is = (let one : ◌≡◌ {A = Leader K × Proposal D} (l, p) found =
          ap (λ o. unwrap_or o found) is in ap (λ (q : Leader K × Proposal D). Some q.1) one)

      by_test : (b : Bool) → should_verify r ≡ b
          → (if b then option_and_then (λ l. option_map (λ p. (l, p)) r.slot.held) r.leader else None) ≡ Some found
          → (leads_round r ≡ false) × (is_some r.leader ≡ true) × (r.slot.verify_requested ≡ false)
          × (r.slot.held ≡ Some found.1)
      by_test false other is = absurd (false≢true (ap is_some is))
      by_test true so is =
          (let parts = other r.leader so in (parts.0, parts.1, parts.2, held_one r.leader r.slot.held is))

module _ {K L D : Type 0} (same : D → D → Bool) (decides : (d e : D) → same d e ≡ true → d ≡ e) (elect : Elect L)
    (base low : ℕ) (trace : List (TraceEvent D)) (o : OutstandingWork K D) (x : StateFacts K L D)
    (notes : NotesStand base low trace o x) where
  -- with nothing more open

  left_notes : (e : Event K D) (y : StateFacts K L D) → ((u : ℕ) → covers_from u e ≡ false)
      → UnchangedProposalsFrom base e x y → NotesStand base low trace o y
  left_notes e y none left = notes_calm base low trace e o o x y left (λ u is. absurd (false≢true (sym (none u) ∙ is)))
      (λ v is. is) (λ v c is. is) notes

  closed_notes : (v : ℕ) (e : Event K D) (y : StateFacts K L D) → ((u : ℕ) → covers_from u e ≡ false)
      → UnchangedProposalsFrom base e x y → NotesStand base low trace (without_context o v) y
  closed_notes v e y none left = notes_calm base low trace e o (without_context o v) x y left
      (λ u is. absurd (false≢true (sym (none u) ∙ is))) (λ w is. is) (λ w c is. got_others o.contexts v w c is) notes

  answered_notes : (v : ℕ) (e : Event K D) (y : StateFacts K L D) → ((u : ℕ) → covers_from u e ≡ false)
      → UnchangedProposalsFrom base e x y → NotesStand base low trace (without_verification o v) y
  answered_notes v e y none left = notes_calm base low trace e o (without_verification o v) x y left
      (λ u is. absurd (false≢true (sym (none u) ∙ is))) (λ w is. (among_others v w o.verifying is).0) (λ w c is. is)
      notes

  -- a path of an event that keeps the work on each view
  calm_by : (e : Event K D) → IsNoProposalWork e → (y : StateFacts K L D) → Path same elect x e base x y
      → UnchangedProposalsFrom base e x y
  calm_by e leaves y path = calm_along same elect x e base leaves x y path

  moment_calm : (now : ℕ) → UnchangedProposalsFrom base event.CertifyCandidates x (at_moment x now)
  moment_calm now = calm_by event.CertifyCandidates (leaves refl) _ (Then Still (Moves now))

  still_calm : UnchangedProposalsFrom base event.CertifyCandidates x x
  still_calm = calm_by event.CertifyCandidates (leaves refl) x Still

  kept_view : (v : ℕ) → min_active x ≤ v → base ≤ v
  kept_view v over = omega (arith, over, notes.active)

  -- a proposal of the view
  proposal_notes : (v : ℕ) (p : Proposal D) → takes_proposal x v p ≡ true
      → NotesStand base low trace o (after_set_proposal same elect x v p)
  proposal_notes v p takes =
      let parts = and_parts (takes_round x p.round) (p.round.view == v) takes in
      let at : p.round.view ≡ v = eqb-true p.round.view v parts.1 in
      let active = (and_parts (nat_le 1 p.round.view) (nat_le (min_active x) p.round.view)
      (and_parts (is_started x && p.round.epoch == x.settings.epoch) _ parts.0).1).1 in
      let over : base ≤ v = kept_view v (grind (arith, nat_tests, active, at)) in
      let e : Event K D = event.SetProposal v p in
      left_notes e (after_set_proposal same elect x v p) (λ u. refl)
      (calm_by e (record {
        note = refl;
        answer = refl;
        other = refl;
        prune = refl;
        placed = λ w q is. placed_here w q is at;
      }) _ (proposal_path same elect base x v p over))
    where
      placed_here : (w : ℕ) (q : Proposal D) → ◌≡◌ {A = Option (ℕ × Proposal D)} (Some (v, p)) (Some (w, q))
          → p.round.view ≡ v → q.round.view ≡ w
      placed_here w q is at = let pair : (v, p) ≡ (w, q) = cc in
          ap (λ (t : ℕ × Proposal D). t.1.round.view) (sym pair) ∙ at ∙ ap (λ (t : ℕ × Proposal D). t.0) pair

  build_calm : (v : ℕ) (requested : Bool) → UnchangedProposalsFrom base (event.Release v) x (with_build x v requested)
  build_calm v requested = calm_by (event.Release v) (leaves refl) _
      (build_path same elect base x (event.Release v) v requested)

  -- a context is opened of a view that this member leads
  opened_notes : (context : Context D K) → leads_round (round_of x context.round.view) ≡ true → low ≤ context.round.view
      → NotesStand base low trace (with_context o context) x
  opened_notes context leads over = record {
    above = notes.above;
    active = notes.active;
    reached = notes.reached;
    tidy = λ v kept. reopened (is_verifying o v) (is_some (context_at o v))
        (is_some (context_at (with_context o context) v)) (round_of x v)
        (λ is. elim (now_open o context v is) [
          | inl at ↦ subst (λ u. leads_round (round_of x u) ≡ true) (sym at) leads
          | inr before ↦ (notes.tidy v kept).opened_led before
        ]) (notes.tidy v kept);
    placed = notes.placed;
    worked = notes.worked;
    verifying_low = notes.verifying_low;
    context_low = λ v is. elim (now_open o context v is)
        [ inl at ↦ subst (λ u. low ≤ u) (sym at) over | inr before ↦ notes.context_low v before ];
    contexts_placed = still_placed o context notes.contexts_placed;
    voted = notes.voted;
    covered = notes.covered;
  }

  requested_notes : InOrder x → (request : Option (ProposalRequest D K)) → propose_answer same elect x ≡ request
      → NotesStand base low trace (with_open_request o request)
      (option_map_or (λ r. with_build x (request_context r).round.view true) request x)
  unfolding propose_answer
  requested_notes ordered None is = notes
  requested_notes ordered (Some r) is =
      let found = first_through (request_in same elect x) (λ e. is_some (request_in same elect x e)) (λ e. refl)
      (views_ahead x) r is in
      let e = found.0 in
      let among = among_through (λ e. is_some (request_in same elect x e)) (views_ahead x) e found.1 in
      let parts = request_parts x same elect e r found.2 in
      let context = request_context r in
      let there : round_of x e.0 ≡ e.1 = round_in_order x e ordered (Contains-filtered _ x.rounds e among) in
      let leads : leads_round (round_of x context.round.view) ≡ true =
      subst (λ v. leads_round (round_of x v) ≡ true) (sym parts.1)
      (ap leads_round there ∙ proposer_leads e.1 parts.0) in
      let over : low ≤ context.round.view =
      (let ahead = (ahead_now x e among).0 in omega (arith, notes.reached, ahead, parts.1)) in
      notes_calm base low trace (event.Release context.round.view) (with_context o context) (with_context o context) x
      (with_build x context.round.view true) (build_calm context.round.view true) (λ u is'. absurd (false≢true is'))
      (λ v is'. is') (λ v c is'. is') (opened_notes context leads over)

  -- an own proposal

  own_held : (s : SlotFacts D) (p : Proposal D) → holds_or_empty (same_proposal same) s p ≡ true → (q : Proposal D)
      → s.held ≡ Some q → Some p ≡ Some q
  own_held s p fits q is = ap Some (sym (same_proposal-true same decides q p
      (ap (λ h. option_map_or (λ k. same_proposal same k p) h true) (sym is) ∙ fits)))

  proposed_notes : (v : ℕ) (context : Option (Context D K)) (payload : D) (now : ℕ) → context_at o v ≡ context
      → NotesStand base low trace (without_context o v)
      (option_map_or (λ c. after_proposed same elect x c payload now) context x)
  unfolding proposed_answer
  proposed_notes v None payload now is = closed_notes v event.CertifyCandidates x (λ u. refl) still_calm
  proposed_notes v (Some c) payload now is = by_answer (proposed_answer same elect x c payload) refl
    where
      at : c.round.view ≡ v
      at = notes.contexts_placed v c is

      built : Proposal D
      built = proposal_of c payload

      m : StateFacts K L D
      m = at_moment x now

      r : RoundFacts K D
      r = round_of x v

      found : (q : Option (RoundFacts K D)) → round_at x c.round.view ≡ q
          → option_map_or (λ s. not (is_nullify s.decision) && holds_or_empty (same_proposal same) s.slot built) q
          false ≡ true → (is_tracked x v ≡ true) × (holds_or_empty (same_proposal same) r.slot built ≡ true)
      found None none answer = absurd (false≢true answer)
      found (Some s) some answer =
          let fits = (and_parts (not (is_nullify s.decision)) _ answer).1 in
          let there : round_at x v ≡ Some s = subst (λ u. round_at x u ≡ Some s) at some in (
            ap is_some there,
            ap (λ f. holds_or_empty (same_proposal same)
                (unwrap_or f (new_round x.me x.members (round_number x v))).slot built) there ∙ fits,
          )

      recorded : is_tracked x v ≡ true → holds_or_empty (same_proposal same) r.slot built ≡ true
          → NotesStand base low trace (without_context o v) (with_round m v (proposed_round same r c payload now))
      recorded tracked fits =
          let s = proposed_round same r c payload now in
          let slot : s.slot ≡ record {
            held = Some built;
            conflict = r.slot.conflict;
            verified = not r.slot.conflict;
            build_requested = true;
            verify_requested = true;
          } = rw fits refl in
          let grown : Grown v r s = record {
            me = refl;
            holding = λ q h clear. ap (λ (t : SlotFacts D). t.held) slot ∙ own_held r.slot built fits q h;
            empty = λ none. absurd (let e = sym (ap (λ (t : SlotFacts D). t.held) slot) ∙ none in cc);
            placed = λ q h. inr (let e : built ≡ q = (let f = sym (ap (λ (t : SlotFacts D). t.held) slot) ∙ h in cc) in
                subst (λ (k : Proposal D). k.round.view ≡ v) e at);
            clear = λ clear. sym (ap (λ (t : SlotFacts D). t.conflict) slot) ∙ clear;
            decided = λ d. d;
            requested = λ q. ap (λ (t : SlotFacts D). t.verify_requested) slot;
            leader = λ l. refl;
          } in
          let opened : is_some (context_at o v) ≡ true = ap is_some is in
          let old = left_notes event.CertifyCandidates m (λ u. refl) (moment_calm now) in
          notes_put base low trace o (without_context o v) m v s old tracked grown
          (proposes v (is_verifying o v) (is_some (context_at o v)) (is_verifying o v)
          (is_some (context_at (without_context o v) v)) r s grown (λ q. still_open o v v q)
          (notes.tidy v (notes.above v tracked)) built c.parent.1 refl (ap (λ (t : SlotFacts D). t.held) slot)
          (ap (λ (t : SlotFacts D). t.verify_requested) slot) opened (λ q. q))
          (λ q un. notes.context_low v opened)
          (λ w q. inr q)
          (λ w k q. got_others o.contexts v w k q)
          (λ q. notes.context_low v opened)

      by_answer : (b : Bool) → proposed_answer same elect x c payload ≡ b
          → NotesStand base low trace (without_context o v)
          (if b then with_round m c.round.view (proposed_round same (round_of x c.round.view) c payload now) else m)
      by_answer false refused = closed_notes v event.CertifyCandidates m (λ u. refl) (moment_calm now)
      by_answer true answer =
          let parts = and_parts (context_stands same elect x c) _ answer in
          let there = found (round_at x c.round.view) refl parts.1 in
          subst (λ u. NotesStand base low trace (without_context o v)
          (with_round m u (proposed_round same (round_of x u) c payload now))) (sym at) (recorded there.0 there.1)

  -- answers to a verification

  unbound_notes : (now : ℕ) (v : ℕ) → is_verifying o v ≡ true → (m : StateFacts K L D)
      → UnchangedProposalsFrom base event.CertifyCandidates x m
      → NotesStand base low trace (without_verification o v) (without_binding m v)
  unbound_notes now v open_now m left = by_tracked (is_tracked m v) refl
    where
      old : NotesStand base low trace o m
      old = left_notes event.CertifyCandidates m (λ u. refl) left

      r : RoundFacts K D
      r = round_of m v

      by_tracked : (b : Bool) → is_tracked m v ≡ b
          → NotesStand base low trace (without_verification o v)
          (if b then with_round m v (record r { binding = None }) else m)
      by_tracked false is = answered_notes v event.CertifyCandidates m (λ u. refl) left
      by_tracked true is =
          let s : RoundFacts K D = record r { binding = None } in
          let tidy = old.tidy v (old.above v is) in
          notes_put base low trace o (without_verification o v) m v s old is (unbound_grown v r)
          (answered v (is_verifying o v) (is_some (context_at o v)) (is_verifying (without_verification o v) v)
          (is_some (context_at o v)) r s (unbound_grown v r) (λ q. q) tidy
          (λ q un. absurd (opposite r.slot.verified q (tidy.verifying_unmarked open_now un))) open_now (not_open v))
          (λ q un. old.worked v q un)
          (λ w q. inr (among_others v w o.verifying q).0)
          (λ w k q. q)
          (λ q. old.verifying_low v open_now)
        where
          not_open : (u : ℕ) → is_verifying (without_verification o u) u ≡ false
          not_open u = by_flag (is_verifying (without_verification o u) u) refl
            where
              by_flag : (b : Bool) → is_verifying (without_verification o u) u ≡ b → b ≡ false
              by_flag false flag = refl
              by_flag true flag = absurd ((among_others u u o.verifying flag).1 refl)

  verified_notes : (v : ℕ) → is_verifying o v ≡ true
      → NotesStand base low trace (without_verification o v) (after_verified same elect x v)
  verified_notes v open_now = elim (verification_matches same elect x v) as
      (λ b. NotesStand base low trace (without_verification o v)
      (if b then with_tracked x v (with_mark (round_of x v)) else without_binding x v)) [
        | true ↦ by_tracked (is_tracked x v) refl
        | false ↦ unbound_notes 0 v open_now x still_calm
      ]
    where
      r : RoundFacts K D
      r = round_of x v

      not_open : (b : Bool) → is_verifying (without_verification o v) v ≡ b → b ≡ false
      not_open false flag = refl
      not_open true flag = absurd ((among_others v v o.verifying flag).1 refl)

      by_tracked : (b : Bool) → is_tracked x v ≡ b
          → NotesStand base low trace (without_verification o v) (if b then with_round x v (with_mark r) else x)
      by_tracked false is = answered_notes v event.CertifyCandidates x (λ u. refl) still_calm
      by_tracked true is =
          notes_put base low trace o (without_verification o v) x v (with_mark r) notes is (mark_grown v r)
          (answered v (is_verifying o v) (is_some (context_at o v)) (is_verifying (without_verification o v) v)
          (is_some (context_at o v)) r (with_mark r) (mark_grown v r) (λ q. q) (notes.tidy v (notes.above v is))
          (λ q un. mark_bound v r) open_now (not_open (is_verifying (without_verification o v) v) refl))
          (λ q un. notes.verifying_low v open_now)
          (λ w q. inr (among_others v w o.verifying q).0)
          (λ w k q. q)
          (λ q. notes.verifying_low v open_now)

  failed_notes : (v : ℕ) (reason : TimeoutReason) (now : ℕ) → is_verifying o v ≡ true
      → NotesStand base low trace (without_verification o v) (after_verification_failed same elect x v reason now)
  failed_notes v reason now open_now =
      let m = at_moment x now in
      elim (verification_matches same elect x v) as
      (λ b. NotesStand base low trace (without_verification o v)
      (if b then with_timeout m v reason now else without_binding m v)) [
        | true ↦ answered_notes v (event.TriggerTimeout v reason now) (with_timeout m v reason now) (λ u. refl)
            (calm_by (event.TriggerTimeout v reason now) (leaves refl) _
            (to_triggered v reason now (Then Still (Moves now))))
        | false ↦ unbound_notes now v open_now m (moment_calm now)
      ]

-- the scan for a proposal to verify

-- the proposal that a result returns for verification
abbrev given_in : {K D : Type 0} → Option (Verify D K) → Option (Proposal D)
given_in (Some (verify.Ready context p)) = Some p
given_in _ = None

module _ {K D : Type 0} (v : ℕ) where
  -- a result that returns a proposal is for a view that is ready, and returns the pending one
  given_ready : (s : Standing D) (o : Option (Leader K × Proposal D)) (p : Proposal D)
      → given_in (option_and_then (answer_at v s) o) ≡ Some p
      → (is_given_out s ≡ true) × ((found : Leader K × Proposal D) × (o ≡ Some found) × (found.1 ≡ p))
  given_ready (Ready d) (Some found) p is = (refl, (found, refl, ap (λ o. unwrap_or o p) is))
  given_ready NothingToDo (Some found) p is = absurd (false≢true (ap is_some is))
  given_ready Invalid (Some found) p is = absurd (false≢true (ap is_some is))
  given_ready (Lacks w kind) (Some found) p is = absurd (false≢true (ap is_some is))
  given_ready s None p is = absurd (false≢true (ap is_some is))

  -- a round whose proposal is returned keeps it, and any other what its proposal's work depends on
  left_calm : (r : RoundFacts K D) (now : ℕ) (s : Standing D) → is_given_out s ≡ false
      → UnchangedProposal v r (round_left r now s)
  left_calm r now NothingToDo none = calm v r
  left_calm r now Invalid none = calm_alike v r _ refl refl refl refl refl
  left_calm r now (Lacks w kind) none = calm_alike v r _ refl refl refl refl refl
  left_calm r now (Ready d) none = absurd (false≢true (sym none))

module _ {K L D : Type 0} (same : D → D → Bool) (elect : Elect L) (x : StateFacts K L D) where
  -- a view of which anything is to be said has a pending proposal
  standing_pending : (e : ℕ × RoundFacts K D)
      → (standing same elect x e ≡ NothingToDo)
      ⊎ ((found : Leader K × Proposal D) × (pending_proposal e.1 ≡ Some found))
  unfolding standing
  standing_pending e = by_admitted (is_admitted x e.0) (pending_proposal e.1) refl
    where
      by_admitted : (b : Bool) (o : Option (Leader K × Proposal D)) → pending_proposal e.1 ≡ o
          → ((if b then option_map_or (λ found. parent_standing same elect x e.0 e.1 found.1.parent) o NothingToDo
          else NothingToDo) ≡ NothingToDo) ⊎ ((found : Leader K × Proposal D) × (pending_proposal e.1 ≡ Some found))
      by_admitted false o is = inl refl
      by_admitted true None is = inl refl
      by_admitted true (Some found) is = inr (found, is)

  -- a view has a result exactly if its standing has one
  answered_there : (e : ℕ × RoundFacts K D) → is_answered (standing same elect x e) ≡ is_some (answer_in same elect x e)
  answered_there e = by_standing (standing same elect x e) (pending_proposal e.1) (standing_pending e)
    where
      by_standing : (s : Standing D) (o : Option (Leader K × Proposal D))
          → (s ≡ NothingToDo) ⊎ ((found : Leader K × Proposal D) × (o ≡ Some found))
          → is_answered s ≡ is_some (option_and_then (answer_at e.0 s) o)
      by_standing NothingToDo None pending = refl
      by_standing NothingToDo (Some found) pending = refl
      by_standing Invalid None pending = refl
      by_standing Invalid (Some found) pending = refl
      by_standing (Lacks w kind) (Some found) pending = refl
      by_standing (Ready d) (Some found) pending = refl
      by_standing s None (inl passed) = ap is_answered passed
      by_standing s None (inr found) = absurd (false≢true (ap is_some found.1))

-- a view whose proposal a scan returns for verification
record ScanGivesOut {K L D : Type 0} (same : D → D → Bool) (elect : Elect L) (x : StateFacts K L D) (v : ℕ) : Type
    0 where
  pub ahead : x.current ≤ v
  pub scanned : was_scanned same elect x v ≡ true
  pub ready : is_given_out (standing same elect x (v, round_of x v)) ≡ true

module _ {K L D : Type 0} (same : D → D → Bool) (elect : Elect L) (base low : ℕ) (trace : List (TraceEvent D))
    (o : OutstandingWork K D) (x : StateFacts K L D) (ordered : InOrder x) (notes : NotesStand base low trace o x) where
  -- what is now being verified was so before, or is returned for verification
  now_given : (answer : Option (Verify D K))
      → slice_get (filter_map (answer_in same elect x) (views_ahead x)) 0 ≡ answer → (w : ℕ)
      → is_verifying (with_verification o (option_map_or (λ found. found) answer verify.Wait)) w ≡ true
      → ScanGivesOut same elect x w ⊎ (is_verifying o w ≡ true)
  now_given (Some (verify.Ready context p)) first w is =
      elim (now_among p.round.view w o.verifying is)
      [ inr before ↦ inr before | inl at ↦ inl (subst (ScanGivesOut same elect x) (here ∙ sym at) given) ]
    where
      found : (e : ℕ × RoundFacts K D) × Contains (through (λ f. is_answered (standing same elect x f)) (views_ahead x))
          e × (answer_in same elect x e ≡ Some (verify.Ready context p))
      found = first_through (answer_in same elect x) (λ f. is_answered (standing same elect x f))
          (answered_there same elect x) (views_ahead x) (verify.Ready context p) first

      e : ℕ × RoundFacts K D
      e = found.0

      among : Contains (views_ahead x) e
      among = among_through (λ f. is_answered (standing same elect x f)) (views_ahead x) e found.1

      there : round_of x e.0 ≡ e.1
      there = round_in_order x e ordered (Contains-filtered _ x.rounds e among)

      ready : (is_given_out (standing same elect x e) ≡ true)
          × ((pending : Leader K × Proposal D) × (pending_proposal e.1 ≡ Some pending) × (pending.1 ≡ p))
      ready = given_ready e.0 (standing same elect x e) (pending_proposal e.1) p (ap given_in found.2)

      here : e.0 ≡ p.round.view
      here = sym (notes.placed e.0 p (ap (λ (r : RoundFacts K D). r.slot.held) there
          ∙ (pending_parts e.1 ready.1.0 ready.1.1).3 ∙ ap Some ready.1.2))

      given : ScanGivesOut same elect x e.0
      given = record {
        ahead = (ahead_now x e among).0;
        scanned = any_there (λ f. e.0 == f.0) (through (λ f. is_answered (standing same elect x f)) (views_ahead x)) e
            found.1 (eq-eqb e.0 e.0 refl);
        ready = ap (λ r. is_given_out (standing same elect x (e.0, r))) there ∙ ready.0;
      }
  now_given (Some (verify.Resolve proposal view kind target)) first w is = inr is
  now_given (Some verify.Wait) first w is = inr is
  now_given None first w is = inr is

  abbrev opened : OutstandingWork K D
  opened = with_verification o (verify_answer same elect x)

  now_verifying : (w : ℕ) → is_verifying opened w ≡ true → ScanGivesOut same elect x w ⊎ (is_verifying o w ≡ true)
  now_verifying w is = now_given (slice_get (filter_map (answer_in same elect x) (views_ahead x)) 0) refl w is

  context_kept : NoMoreContexts o opened
  context_kept w c is = sym (by_answer (verify_answer same elect x)) ∙ is
    where
      by_answer : (answer : Verify D K) → context_at (with_verification o answer) w ≡ context_at o w
      by_answer (verify.Ready context p) = refl
      by_answer (verify.Resolve proposal view kind target) = refl
      by_answer verify.Wait = refl

  context_still : (w : ℕ) → is_some (context_at opened w) ≡ true → is_some (context_at o w) ≡ true
  context_still w is = some_still (context_at opened w) (context_at o w) (context_kept w) is

  abbrev IsLeft : ℕ → RoundFacts K D → Type 0
  IsLeft w s = Grown w (round_of x w) s × (s.slot.verified ≡ true → (round_of x w).slot.verified ≡ true)
      × (base ≤ w → Tidy (is_verifying opened w) (is_some (context_at opened w)) s)

  left_so : (w : ℕ) → IsLeft w (scan_left same elect x w (round_of x w))
  left_so w = by_standing (was_scanned same elect x w) (standing same elect x (w, r)) refl refl
    where
      r : RoundFacts K D
      r = round_of x w

      calm_kept : (s : RoundFacts K D) → UnchangedProposal w r s → (ScanGivesOut same elect x w → ⊥) → IsLeft w s
      calm_kept s same_work silent = (
        same_work.grown,
        same_work.verified,
        λ over. tidy_calm w (is_verifying o w) (is_some (context_at o w)) (is_verifying opened w)
            (is_some (context_at opened w)) r s same_work
            (λ is. elim (now_verifying w is) [ inl given ↦ absurd (silent given) | inr before ↦ before ])
            (context_still w) (notes.tidy w over),
      )

      pending_there : (d : D) → standing same elect x (w, r) ≡ Ready d
          → (found : Leader K × Proposal D) × (pending_proposal r ≡ Some found)
      pending_there d stands = elim (standing_pending same elect x (w, r))
          [ inl passed ↦ absurd (false≢true (ap is_given_out (sym passed ∙ stands))) | inr found ↦ found ]

      by_standing : (b : Bool) (s : Standing D) → was_scanned same elect x w ≡ b → standing same elect x (w, r) ≡ s
          → IsLeft w (if b then round_left r x.moment s else r)
      by_standing false s scanned stands = calm_kept r (calm w r) (λ given. false≢true (sym scanned ∙ given.scanned))
      by_standing true (Ready d) scanned stands =
          let found = pending_there d stands in
          let parts = pending_parts r found.0 found.1 in
          let bound : (verifying_round r d).binding ≡ Some (found.0.1, d) = ap (option_map (λ p. (p, d))) parts.3 in (
            given_grown w r d,
            λ is. is,
            λ over. returned_outputs w (is_verifying o w) (is_some (context_at o w)) (is_verifying opened w)
                (is_some (context_at opened w)) r (verifying_round r d) (given_grown w r d) (context_still w)
                (notes.tidy w over) found.0.1 d (λ is. is) bound parts.3 parts.2 refl parts.0 parts.1,
          )
      by_standing true s scanned stands = calm_kept (round_left r x.moment s) (left_calm w r x.moment s refl)
          (λ given. false≢true (ap is_given_out (sym stands) ∙ given.ready))

  left_there : (w : ℕ) → IsLeft w (round_of (after_try_verify same elect x) w)
  left_there w = subst (IsLeft w) (sym (round_scanned same elect x w)) (left_so w)

  pub try_verify_notes : NotesStand base low trace opened (after_try_verify same elect x)
  try_verify_notes = record {
    above = λ w tracked. notes.above w (sym (tracked_scanned same elect x w) ∙ tracked);
    active = notes.active;
    reached = notes.reached;
    tidy = λ w over. (left_there w).2 over;
    placed = λ w p is. elim ((left_there w).0.placed p is) [ inl before ↦ notes.placed w p before | inr here ↦ here ];
    worked = λ w is un. notes.worked w ((left_there w).1 is)
        (contrary (round_of (after_try_verify same elect x) w).notarize_decided (round_of x w).notarize_decided
        (left_there w).0.decided un);
    verifying_low = λ w is. elim (now_verifying w is) [
      | inl given ↦ (let ahead = given.ahead in omega (arith, ahead, notes.reached))
      | inr before ↦
          notes.verifying_low w before
    ];
    context_low = λ w is. notes.context_low w (context_still w is);
    contexts_placed = λ w c is. notes.contexts_placed w c (context_kept w c is);
    voted = λ p h above over. (left_there p.round.view).0.decided (notes.voted p h above over);
    covered = notes.covered;
  }

-- all calls on the work of a view but a vote to notarize
module _ {K L D : Type 0} (same : D → D → Bool) (decides : (d e : D) → same d e ≡ true → d ≡ e) (elect : Elect L)
    (base low : ℕ) (trace : List (TraceEvent D)) (o : OutstandingWork K D) (x : StateFacts K L D)
    (notes : NotesStand base low trace o x) where
  pub decided_notes : (v : ℕ) → may_notarize same elect x v ≡ true → is_tracked x v ≡ true
      → NotesStand base low trace o
      (with_next_view_ready elect (with_round x v (record (round_of x v) { notarize_decided = true })) v)
  decided_notes v may tracked =
      left_notes same decides elect base low trace o x notes (event.ConstructNotarize v) _ (λ u. refl)
      (calm_by same decides elect base low trace o x notes (event.ConstructNotarize v) (leaves refl) _
      (to_prepared v (notes.above v tracked) (put v _ (inr tracked) (step.NotarizeDecided refl may) Still)))

  superseded_notes : (v : ℕ) (context : Option (Context D K)) (b : Bool)
      → NotesStand base low trace (if b then without_context o v else o)
      (option_map_or (λ c. after_supersede same elect x c) context x)
  superseded_notes v None true = closed_notes same decides elect base low trace o x notes v event.CertifyCandidates x
      (λ u. refl) (still_calm same decides elect base low trace o x notes)
  superseded_notes v None false = notes
  superseded_notes v (Some c) b = closes b (calm_by same decides elect base low trace o x notes (event.Supersede c)
      (leaves refl) _ (either (supersede_answer same elect x c) _ x
      (λ other. build_path same elect base x (event.Supersede c) c.round.view false) (λ stands. Still)))
    where
      closes : (b : Bool) → UnchangedProposalsFrom base (event.Supersede c) x (after_supersede same elect x c)
          → NotesStand base low trace (if b then without_context o v else o) (after_supersede same elect x c)
      closes true left = closed_notes same decides elect base low trace o x notes v (event.Supersede c)
          (after_supersede same elect x c) (λ u. refl) left
      closes false left = left_notes same decides elect base low trace o x notes (event.Supersede c)
          (after_supersede same elect x c) (λ u. refl) left

  pub work_notes : (call : CallFacts D) → InOrder x → is_allowed x o call ≡ true → is_silent call ≡ true
      → NotesStand base low trace (outstanding_work_after same elect x o call) (after_call same elect x o call)
  work_notes (SetProposal v p) ordered allowed silent =
      proposal_notes same decides elect base low trace o x notes v p allowed
  work_notes TryPropose ordered allowed silent =
      requested_notes same decides elect base low trace o x notes ordered (propose_answer same elect x) refl
  work_notes (Proposed v payload now) ordered allowed silent =
      proposed_notes same decides elect base low trace o x notes v (context_at o v) payload now refl
  work_notes (SupersedeProposalRequest v) ordered allowed silent =
      superseded_notes v (context_at o v) (option_map_or (λ c. supersede_answer same elect x c) (context_at o v) false)
  work_notes (PendingHandoffAbandonment v) ordered allowed silent = notes
  work_notes (ReleaseProposalRequest v) ordered allowed silent =
      closed_notes same decides elect base low trace o x notes v (event.Release v) (after_release x v) (λ u. refl)
      (build_calm same decides elect base low trace o x notes v false)
  work_notes TryVerify ordered allowed silent = try_verify_notes same elect base low trace o x ordered notes
  work_notes (Verified v) ordered allowed silent = verified_notes same decides elect base low trace o x notes v allowed
  work_notes (VerificationFailed v reason now) ordered allowed silent =
      failed_notes same decides elect base low trace o x notes v reason now allowed
  work_notes CertifyCandidates ordered allowed silent =
      notes_calm base low trace event.CertifyCandidates o (outstanding_work_after same elect x o CertifyCandidates) x
      (after_candidates x) (calm_by same decides elect base low trace o x notes event.CertifyCandidates (leaves refl) _
      (Then Still Unnames)) (λ u is. absurd (false≢true is)) (λ v is. is) (λ v c is. is) notes
  work_notes (SetCertifyHandle v token) ordered allowed silent =
      left_notes same decides elect base low trace o x notes (event.SetCertifyHandle v token) _ (λ u. refl)
      (calm_by same decides elect base low trace o x notes (event.SetCertifyHandle v token) (leaves refl) _
      (handle_path same elect base x v token))
  work_notes (TriggerTimeout v reason now) ordered allowed silent =
      left_notes same decides elect base low trace o x notes (event.TriggerTimeout v reason now) _ (λ u. refl)
      (calm_by same decides elect base low trace o x notes (event.TriggerTimeout v reason now) (leaves refl) _
      (to_triggered v reason now (Then Still (Moves now))))
  work_notes (NextTimeout now) ordered allowed silent =
      left_notes same decides elect base low trace o x notes (event.NextTimeout now) _ (λ u. refl)
      (calm_by same decides elect base low trace o x notes (event.NextTimeout now) (leaves refl) _
      (polled_path same elect base x now))
  work_notes _ ordered allowed silent = absurd (false≢true silent)
