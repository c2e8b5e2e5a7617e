-- What the events say that hand something in: certificates, verdicts and the floor.
use Rattle.std.proofs.Common.{◌≡◌, ◌⊎◌, inl, inr, refl, ap, sym, ◌∙◌, subst, ℕ, ◌+◌, max, Bool, true, false, ◌&&◌, ◌||◌, not, eqb, if◌then◌else◌, Option, Some, None, is_some, arith}
use Rattle.std.specs.Prelude.{is_none}
use Rattle.std.specs.Option.{option_or, option_map_or}
use Rattle.std.proofs.Math.Bool.{and-false}
use Rattle.std.proofs.lemmas.Bool.{cases_eq, eq-eqb, ne_eqb, true≢false}
use Rattle.simplex_types.specs.Terms.{next_term_start}
use Rattle.simplex_types.specs.Proposal.{same_proposal}
use Rattle.simplex_types.specs.Certificates.{ProposalFacts, NullificationFacts}
use Rattle.simplex_types.specs.Config.{Genesis, Finalized}
use Rattle.simplex_types.specs.declared.types.messages.Proposal.{Proposal}
use Rattle.simplex_types.specs.declared.reasons.TimeoutReason.TheVariants.{FailedCertification}
use Rattle.simplex_round.specs.declared.round.Certification.{Certification}
use Rattle.simplex_round.specs.declared.round.Certification.TheVariants as certification
use Rattle.simplex_round.specs.Slot.{SlotFacts, after_certificate}
use Rattle.simplex_round.specs.Round.{RoundFacts, with_notarization, with_nullification, with_finalization, certified_round, is_judged}
use Rattle.simplex_voter.specs.Facts.{StateFacts, Elect, round_at, round_of, is_tracked, with_round}
use Rattle.simplex_voter.specs.ViewEntry.{at_moment, with_view_entered}
use Rattle.simplex_voter.specs.Leaders.{with_elected_leader, with_window_leaders}
use Rattle.simplex_voter.specs.Timeouts.{with_timeout}
use Rattle.simplex_voter.specs.Certification.{named_also, with_finalized_view, with_waiting_candidate, with_verdict, takes_verdict, verdict_taken, after_certified}
use Rattle.simplex_voter.specs.Acceptance.{with_notarization_at, with_nullification_at, with_finalization_at, after_add_notarization, after_add_nullification, after_add_finalization, after_set_floor}
use Rattle.simplex_voter.proofs.Elsewhere.{round_of-with_round}
use Rattle.simplex_voter.proofs.Gaps.{and_parts}
use Rattle.simplex_member.specs.OutstandingWork.{is_among}
use Rattle.simplex_record.specs.Events.{SetFloor, AddNotarization, AddNullification, AddFinalization, Certified}
use Rattle.laws_history.specs.HistoryFolds.{entered_by}
use Rattle.laws_history.specs.OwnWork.{contradicts}
use Rattle.laws_history.specs.HistoryFacts.{verdict_of}
use Rattle.simplex_record.proofs.RoundChanges.{round_of-same}
use Rattle.laws_history.proofs.UnchangedHistories.{Known, known_of_round, UnchangedKnown, UnchangedButNumbers, UnchangedHistory, quiet, then_quiet, both_quiet, leaves_joined, quiet_where, moment_leaves, entered_leaves, raised_leaves, named_quiet, slid_quiet, triggered_quiet, elected_quiet, woken_quiet}
use Rattle.laws_history.proofs.EventFacts.{adds, FollowsEvent, nothing_added, put_between, put_follows}
use Rattle.laws_safety.proofs.votes.OutstandingWork.{among_noted}
use Rattle.laws_safety.proofs.votes.HeldProposals.{settled_held}

-- a certificate settles its view's proposal

module _ {D : Type 0} (same : D → D → Bool) (decides : (d e : D) → same d e ≡ true → d ≡ e) (s : SlotFacts D)
    (p : Proposal D) where
  pub settled_conflict : (after_certificate (same_proposal same) s p).conflict
      ≡ (contradicts same s.held (Some p) || s.conflict)
  settled_conflict = by_held s.held
    where
      by_same : (b : Bool) → (if b then s else record {
        held = Some p;
        conflict = true;
        verified = false;
        build_requested = true;
        verify_requested = true;
      }).conflict ≡ (not b || s.conflict)
      by_same true = refl
      by_same false = refl

      by_held : (o : Option (Proposal D)) → (option_map_or
          (λ h. if same_proposal same h p then s
          else record {
            held = Some p;
            conflict = true;
            verified = false;
            build_requested = true;
            verify_requested = true;
          }) o (record s { held = Some p })).conflict
          ≡ (contradicts same o (Some p) || s.conflict)
      by_held None = refl
      by_held (Some h) = by_same (same_proposal same h p)

-- the first of its kind is stored

module _ {K L D : Type 0} (same : D → D → Bool) (decides : (d e : D) → same d e ≡ true → d ≡ e) (elect : Elect L)
    (x : StateFacts K L D) (c : ProposalFacts D) (r : RoundFacts K D) where
  notarization_added : r.notarization ≡ (round_of x c.proposal.round.view).notarization
      → known_of_round (with_notarization (same_proposal same) r c) ≡ adds same elect x (AddNotarization c)
      c.proposal.round.view (known_of_round r)
  notarization_added stands = first r.notarization refl
    where
      v : ℕ
      v = c.proposal.round.view

      first : (o : Option (ProposalFacts D)) → r.notarization ≡ o
          → known_of_round (with_notarization (same_proposal same) r c) ≡ adds same elect x (AddNotarization c) v
          (known_of_round r)
      first None is =
          let none : is_none (round_of x v).notarization ≡ true = ap is_none (sym stands ∙ is) in
          rw (is, none, eq-eqb v v refl) (λ i. record (known_of_round r) {
            notarization = Some c;
            held = settled_held same decides r.slot c.proposal i;
            conflict = settled_conflict same decides r.slot c.proposal i;
          })
      first (Some d) is =
          let some : is_none (round_of x v).notarization ≡ false = ap is_none (sym stands ∙ is) in
          rw (is, some, eq-eqb v v refl) refl

  finalization_added : (now : ℕ) → r.finalization ≡ (round_of x c.proposal.round.view).finalization
      → known_of_round (with_finalization (same_proposal same) r c) ≡ adds same elect x (AddFinalization c now)
      c.proposal.round.view (known_of_round r)
  finalization_added now stands = first r.finalization refl
    where
      v : ℕ
      v = c.proposal.round.view

      first : (o : Option (ProposalFacts D)) → r.finalization ≡ o
          → known_of_round (with_finalization (same_proposal same) r c) ≡ adds same elect x (AddFinalization c now) v
          (known_of_round r)
      first None is =
          let none : is_none (round_of x v).finalization ≡ true = ap is_none (sym stands ∙ is) in
          rw (is, none, eq-eqb v v refl) (λ i. record (known_of_round r) {
            finalization = Some c;
            held = settled_held same decides r.slot c.proposal i;
            conflict = settled_conflict same decides r.slot c.proposal i;
          })
      first (Some d) is =
          let some : is_none (round_of x v).finalization ≡ false = ap is_none (sym stands ∙ is) in
          rw (is, some, eq-eqb v v refl) refl

module _ {K L D : Type 0} (same : D → D → Bool) (elect : Elect L) (x : StateFacts K L D) (c : NullificationFacts)
    (now : ℕ) (r : RoundFacts K D) where
  nullification_added : known_of_round (with_nullification r c) ≡ adds same elect x (AddNullification c now)
      c.round.view (known_of_round r)
  nullification_added = first r.nullification refl
    where
      first : (o : Option NullificationFacts) → r.nullification ≡ o
          → known_of_round (with_nullification r c) ≡ adds same elect x (AddNullification c now) c.round.view
          (known_of_round r)
      first None is = rw (is, eq-eqb c.round.view c.round.view refl) refl
      first (Some d) is = rw (is, eq-eqb c.round.view c.round.view refl) refl

-- proposal certificates

module _ {K L D : Type 0} (same : D → D → Bool) (decides : (d e : D) → same d e ≡ true → d ≡ e) (elect : Elect L)
    (x : StateFacts K L D) (c : ProposalFacts D) where
  pub notarization_follows : FollowsEvent same elect (AddNotarization c) x (after_add_notarization same elect x c)
  notarization_follows =
      let v = c.proposal.round.view in
      let d = with_elected_leader elect x (v + 1) (Some c.bytes) in
      let z = with_notarization_at same elect d c in
      let y = if is_some (round_of x v).notarization then z else with_window_leaders (named_also z v) v in
      let before : UnchangedHistory x d = elected_quiet elect x (v + 1) (Some c.bytes) in
      let after : UnchangedHistory z y = quiet_where z (is_some (round_of x v).notarization) z
      (with_window_leaders (named_also z v) v) (quiet z)
      (both_quiet z (named_also z v) (with_window_leaders (named_also z v) v) (named_quiet z v)
      (slid_quiet (named_also z v) v)) in
      put_follows same elect x (AddNotarization c) refl d y v (with_notarization (same_proposal same) (round_of d v) c)
      before (notarization_added same decides elect x c (round_of d v) (ap (λ k. k.notarization) (before.rounds v)))
      (λ u apart k. rw apart refl) after

  pub finalization_follows : (now : ℕ) → FollowsEvent same elect (AddFinalization c now) x
      (after_add_finalization same elect x c now)
  finalization_follows now =
      let v = c.proposal.round.view in
      let a = at_moment x now in
      let b = with_finalized_view a v in
      let e = with_view_entered b (v + 1) now in
      let d = with_elected_leader elect e (v + 1) (Some c.bytes) in
      let z = with_finalization_at same elect d c in
      let y = if is_some (round_of x v).finalization then z else with_window_leaders (with_waiting_candidate elect z v)
      v in
      let entering : UnchangedButNumbers b.moment (max b.current (v + 1)) b.finalized b e =
      entered_leaves b (v + 1) now in
      let raising : UnchangedButNumbers now x.current (max x.finalized v) x b =
      leaves_joined now x.current x.finalized now x.current (max x.finalized v) x a b (moment_leaves x now)
      (raised_leaves a v) in
      let before = then_quiet b.moment (max b.current (v + 1)) b.finalized x e d
      (leaves_joined now x.current (max x.finalized v) b.moment (max b.current (v + 1)) b.finalized x b e raising
      entering) (elected_quiet elect e (v + 1) (Some c.bytes)) in
      let after : UnchangedHistory z y = quiet_where z (is_some (round_of x v).finalization) z
      (with_window_leaders (with_waiting_candidate elect z v) v) (quiet z)
      (both_quiet z (with_waiting_candidate elect z v) (with_window_leaders (with_waiting_candidate elect z v) v)
      (woken_quiet elect z v) (slid_quiet (with_waiting_candidate elect z v) v)) in
      record {
        settings = after.settings ∙ before.settings;
        terms = after.terms ∙ before.terms;
        genesis = after.genesis ∙ before.genesis;
        moment = after.moment_is ∙ before.moment_is ∙ raising.moment_is;
        current = after.current_is ∙ before.current_is ∙ ap (λ n. max n (v + 1)) raising.current_is;
        finalized = after.finalized_is ∙ before.finalized_is ∙ raising.finalized_is;
        nullified = λ w _. ap (λ views. is_among w views) (after.nullified ∙ before.nullified);
        nullify_votes = λ w _. ap (λ views. is_among w views) (after.nullify_votes ∙ before.nullify_votes);
        rounds = λ w _. put_between same elect x (AddFinalization c now) d y v
            (with_finalization (same_proposal same) (round_of d v) c) before.rounds
            (finalization_added same decides elect x c (round_of d v) now (ap (λ k. k.finalization) (before.rounds v)))
            (λ u apart k. rw apart refl) after.rounds w;
      }

  -- the floor's finalization says what a finalization says, and is returned
  pub floor_finalization_follows : (now : ℕ)
      → FollowsEvent same elect (SetFloor (Finalized c) now) x (after_set_floor same elect x (Finalized c) now)
  floor_finalization_follows now =
      let f = finalization_follows now in
      record {
        settings = f.settings;
        terms = f.terms;
        genesis = f.genesis;
        moment = f.moment;
        current = f.current;
        finalized = f.finalized;
        nullified = f.nullified;
        nullify_votes = f.nullify_votes;
        rounds = λ w left. handed w (cases_eq w c.proposal.round.view);
      }
    where
      z : StateFacts K L D
      z = after_add_finalization same elect x c now

      v : ℕ
      v = c.proposal.round.view

      r : RoundFacts K D
      r = record (round_of z v) { finalization_broadcast = true }

      handed : (w : ℕ) → ((w ≡ v) ⊎ (w ≡ v → ⊥))
          → known_of_round (round_of (with_round z v r) w) ≡ adds same elect x (SetFloor (Finalized c) now) w
          (known_of_round (round_of x w))
      handed w (inl here) =
          let f : FollowsEvent same elect (AddFinalization c now) x z = finalization_follows now in
          let k : Known D = known_of_round (round_of x v) in
          let said : (record (adds same elect x (AddFinalization c now) v k) { finalization_broadcast = true }) ≡ adds
          same elect x (SetFloor (Finalized c) now) v k = rw (eq-eqb v v refl) refl in
          rw (here, round_of-same z v r)
          (ap (λ (k : Known D). record k { finalization_broadcast = true }) (f.rounds v (omega arith)) ∙ said)
      handed w (inr apart) =
          let f : FollowsEvent same elect (AddFinalization c now) x z = finalization_follows now in
          let k : Known D = known_of_round (round_of x w) in
          let said : adds same elect x (AddFinalization c now) w k ≡ adds same elect x (SetFloor (Finalized c) now) w
          k = rw (ne_eqb w v apart) refl in
          ap known_of_round (round_of-with_round z w v apart r) ∙ f.rounds w (omega arith) ∙ said

-- nullifications, and the floor at genesis

module _ {K L D : Type 0} (same : D → D → Bool) (elect : Elect L) (x : StateFacts K L D) where
  pub nullification_follows : (c : NullificationFacts) (now : ℕ)
      → FollowsEvent same elect (AddNullification c now) x (after_add_nullification elect x c now)
  nullification_follows c now =
      let u = c.round.view in
      let next = next_term_start x.terms.term_length u in
      let a = at_moment x now in
      let e = with_view_entered a next now in
      let d = with_elected_leader elect e next (Some c.bytes) in
      let z = with_nullification_at d c in
      let entering : UnchangedButNumbers now (max x.current next) x.finalized x e =
      leaves_joined now x.current x.finalized now (max x.current next) x.finalized x a e (moment_leaves x now)
      (entered_leaves a next now) in
      let before = then_quiet now (max x.current next) x.finalized x e d entering
      (elected_quiet elect e next (Some c.bytes)) in
      record {
        settings = before.settings;
        terms = before.terms;
        genesis = before.genesis;
        moment = before.moment_is;
        current = before.current_is;
        finalized = omega (arith, before.finalized_is);
        nullified = λ w _. among_noted u w d.nullified ∙ ap (λ views. eqb w u || is_among w views) before.nullified;
        nullify_votes = λ w _. ap (λ views. is_among w views) before.nullify_votes;
        rounds = λ w _. put_between same elect x (AddNullification c now) d z u (with_nullification (round_of d u) c)
            before.rounds (nullification_added same elect x c now (round_of d u)) (λ s apart k. rw apart refl)
            (λ s. refl) w;
      }

  pub genesis_follows : (payload : D) (now : ℕ)
      → FollowsEvent same elect (SetFloor (Genesis payload) now) x (after_set_floor same elect x (Genesis payload) now)
  genesis_follows payload now =
      let a : StateFacts K L D = record (at_moment x now) { genesis = Some payload } in
      let e = with_view_entered a 1 now in
      let y = with_elected_leader elect e 1 None in
      let q = then_quiet now (max x.current 1) x.finalized a e y (entered_leaves a 1 now) (elected_quiet elect e 1 None)
      in
      record {
        settings = q.settings;
        terms = q.terms;
        genesis = q.genesis;
        moment = q.moment_is;
        current = q.current_is;
        finalized = omega (arith, q.finalized_is);
        nullified = λ w _. ap (λ views. is_among w views) q.nullified;
        nullify_votes = λ w _. ap (λ views. is_among w views) q.nullify_votes;
        rounds = λ w _. q.rounds w;
      }

-- verdicts

-- a verdict that contradicts no stored one
pub verdict_first : (c : Certification) (success : Bool) → is_judged (not success) c ≡ false
    → Some success ≡ option_or (verdict_of c) (Some success)
verdict_first certification.Ready success none = refl
verdict_first (certification.Outstanding _) success none = refl
verdict_first (certification.Judged true) true none = refl
verdict_first (certification.Judged false) false none = refl
verdict_first (certification.Judged true) false none = absurd (true≢false none)
verdict_first (certification.Judged false) true none = absurd (true≢false none)
verdict_first certification.Aborted success none = refl

module _ {K L D : Type 0} (x : StateFacts K L D) where
  uncontradicted : (v : ℕ) (success : Bool) → takes_verdict x v success ≡ true → is_tracked x v ≡ true
      → is_judged (not success) (round_of x v).certification ≡ false
  uncontradicted v success takes here = by_round (round_at x v) refl
    where
      not_true : (b : Bool) → not b ≡ true → b ≡ false
      not_true true is = absurd (true≢false (sym is))
      not_true false is = refl

      by_round : (o : Option (RoundFacts K D)) → round_at x v ≡ o
          → is_judged (not success) (round_of x v).certification ≡ false
      by_round None none = absurd (true≢false (sym here ∙ ap is_some none))
      by_round (Some r) found =
          let test : (is_some r.notarization && not (is_judged (not success) r.certification)) ≡ true =
          sym (ap (λ o. option_map_or (λ s. is_some s.notarization && not (is_judged (not success) s.certification))
          o true) found) ∙ (and_parts _ _ takes).1 in
          rw found (not_true _ (and_parts (is_some r.notarization) _ test).1)

module _ {K L D : Type 0} (same : D → D → Bool) (elect : Elect L) (x : StateFacts K L D) (v now : ℕ) where
  judged_rounds : (success : Bool) (y : StateFacts K L D) → takes_verdict x v success ≡ true → is_tracked x v ≡ true
      → ((w : ℕ) → UnchangedKnown (round_of (with_verdict x v success) w) (round_of y w)) → (w : ℕ)
      → known_of_round (round_of y w) ≡ adds same elect x (Certified v success now) w (known_of_round (round_of x w))
  judged_rounds success y takes here after w =
      put_between same elect x (Certified v success now) x y v (certified_round (round_of x v) success) (λ s. refl)
      (rw (eq-eqb v v refl, here) (λ i. record (known_of_round (round_of x v))
      { verdict = verdict_first (round_of x v).certification success (uncontradicted x v success takes here) i }))
      (λ u apart k. rw apart refl) after w

module _ {K L D : Type 0} (same : D → D → Bool) (elect : Elect L) (x : StateFacts K L D) (v now : ℕ) where
  pub verdict_follows : (success : Bool) → takes_verdict x v success ≡ true
      → FollowsEvent same elect (Certified v success now) x (after_certified elect x v success now)
  verdict_follows success takes = by_tracked (is_tracked x v) refl success takes
    where
      a : StateFacts K L D
      a = at_moment x now

      by_tracked : (b : Bool) → is_tracked x v ≡ b → (s : Bool) → takes_verdict x v s ≡ true
          → FollowsEvent same elect (Certified v s now) x (if is_tracked x v then verdict_taken elect a v s now else a)
      by_tracked true here true taken =
          let j = with_verdict a v true in
          let e = with_view_entered j (v + 1) now in
          let y = with_waiting_candidate elect e v in
          let after = then_quiet now (max x.current (v + 1)) x.finalized j e y (entered_leaves j (v + 1) now)
          (woken_quiet elect e v) in
          subst (λ b. FollowsEvent same elect (Certified v true now) x (if b then y else a)) (sym here)
          (record {
            settings = after.settings;
            terms = after.terms;
            genesis = after.genesis;
            moment = after.moment_is;
            current = after.current_is ∙ ap (λ b. max x.current (if b then v + 1 else 0)) (sym here);
            finalized = omega (arith, after.finalized_is);
            nullified = λ w _. ap (λ views. is_among w views) after.nullified;
            nullify_votes = λ w _. ap (λ views. is_among w views) after.nullify_votes;
            rounds = λ w _. judged_rounds same elect x v now true y taken here after.rounds w;
          })
      by_tracked true here false taken =
          let j = with_verdict a v false in
          let y = with_timeout j v FailedCertification now in
          let after = triggered_quiet j v FailedCertification now in
          subst (λ b. FollowsEvent same elect (Certified v false now) x (if b then y else a)) (sym here)
          (record {
            settings = after.settings;
            terms = after.terms;
            genesis = after.genesis;
            moment = after.moment_is;
            current = omega (arith, after.current_is);
            finalized = omega (arith, after.finalized_is);
            nullified = λ w _. ap (λ views. is_among w views) after.nullified;
            nullify_votes = λ w _. ap (λ views. is_among w views) after.nullify_votes;
            rounds = λ w _. judged_rounds same elect x v now false y taken here after.rounds w;
          })
      by_tracked false gone s taken =
          subst (λ b. FollowsEvent same elect (Certified v s now) x (if b then verdict_taken elect a v s now else a))
          (sym gone)
          (record {
            settings = refl;
            terms = refl;
            genesis = refl;
            moment = refl;
            current = nowhere s;
            finalized = omega arith;
            nullified = λ w _. refl;
            nullify_votes = λ w _. refl;
            rounds = λ w _. nothing_added same elect x (Certified v s now) w (λ k. rw (gone, and-false (eqb w v)) refl)
                (round_of x w) (round_of x w) refl;
          })
        where
          nowhere : (t : Bool) → x.current ≡ max x.current
              (entered_by {K = K} {D = D} x.terms.term_length (is_tracked x) (Certified v t now))
          nowhere true = rw gone (omega arith)
          nowhere false = omega arith
