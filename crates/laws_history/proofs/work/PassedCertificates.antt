-- What the certificates and the floor that are passed in say of the work on a view.
use Rattle.std.proofs.Common.{◌≡◌, ◌⊎◌, inl, inr, refl, ap, sym, ◌∙◌, ℕ, ◌+◌, Bool, true, false, ◌&&◌, ◌||◌, eqb, nat_lt, nat_le, max, if◌then◌else◌, Option, Some, None, is_some, unwrap_or, arith}
use Rattle.std.specs.Prelude.{is_none}
use Rattle.std.proofs.Math.Bool.{and-true, or-true, or-false, and-false}
use Rattle.std.proofs.lemmas.Bool.{cases_eq, eq-eqb, ne_eqb}
use Rattle.simplex_types.specs.Terms.{next_term_start}
use Rattle.simplex_types.specs.Proposal.{same_proposal}
use Rattle.simplex_types.specs.Config.{Genesis, Finalized}
use Rattle.simplex_types.specs.Certificates.{ProposalFacts, NullificationFacts}
use Rattle.simplex_round.specs.Round.{RoundFacts, with_finalization}
use Rattle.simplex_voter.specs.Facts.{StateFacts, Elect, round_of, is_tracked, with_round}
use Rattle.simplex_voter.specs.Leaders.{with_elected_leader, with_window_leaders}
use Rattle.simplex_voter.specs.ViewEntry.{at_moment, with_view_entered}
use Rattle.simplex_voter.specs.Certification.{named_also, with_finalized_view, with_waiting_candidate}
use Rattle.simplex_voter.specs.Acceptance.{with_notarization_at, with_finalization_at, after_add_notarization, after_add_nullification, after_add_finalization, after_set_floor}
use Rattle.simplex_voter.proofs.Elsewhere.{round_of-with_round}
use Rattle.simplex_member.specs.OutstandingWork.{is_among}
use Rattle.simplex_record.specs.Events.{SetFloor, AddNotarization, AddNullification, AddFinalization}
use Rattle.laws_history.specs.LeaderHistory.{elected_leader}
use Rattle.laws_history.specs.OwnWork.{contradicts}
use Rattle.laws_history.specs.WorkRequests.{names, ends_certification, wakes}
use Rattle.laws_history.proofs.UnchangedHistories.{known_of_round, UnchangedKnown, UnchangedButNumbers, UnchangedHistory, leaves_joined, then_quiet, moment_leaves, entered_leaves, raised_leaves, elected_quiet}
use Rattle.simplex_record.proofs.CheckState.{option_or_none}
use Rattle.laws_history.proofs.work.Certificates.{with_settled, with_certification, settled_by, notarized_work, nullified_work, finalized_work, raised_work, raised_among}
use Rattle.laws_history.proofs.work.Elections.{without_entry, named_work, woken_work, entered_said, entered_named, proposal_said, proposal_work, entry_said, entry_work}
use Rattle.laws_history.proofs.work.Windows.{slid_only}
use Rattle.laws_history.proofs.work.CertificateSaid.{Says, said_follows}
use Rattle.laws_history.proofs.work.SetUp.{UnchangedSetUp, steady_where, entered_steady, elected_steady, raised_steady, named_steady, woken_steady, slid_steady, wakings_steady}
use Rattle.laws_history.proofs.work.Leaders.{OnlyRounds, work_entered_at, entry_at, elected_only}
use Rattle.laws_history.proofs.work.Wakings.{named_among, waits_alike, woken_among}
use Rattle.laws_history.proofs.Worked.{Worked, work_of, work_put, work_elsewhere, WorkFollows}

-- a certificate without a moment enters no view
no_entry : (b : Bool) → if◌then◌else◌ {A = Option ℕ} b None None ≡ None
no_entry true = refl
no_entry false = refl

module _ {K L D : Type 0} (same : D → D → Bool) (elect : Elect L) (x : StateFacts K L D) (c : ProposalFacts D) where
  notarization_says : (v : ℕ) → Says same elect x (AddNotarization c) v
      (proposal_said same elect x c (is_none (round_of x c.proposal.round.view).notarization) None None v)
  notarization_says v =
      let settled = settled_by c (is_none (round_of x c.proposal.round.view).notarization) v in
      record {
        entered = no_entry (eqb v 0 && nat_lt x.current v);
        tracked = refl;
        led = refl;
        verified = rw (option_or_none settled) refl;
        build = rw (or-false (contradicts same (round_of x v).slot.held settled)) refl;
        verify = or-false (contradicts same (round_of x v).slot.held settled || false)
            ∙ or-false (contradicts same (round_of x v).slot.held settled);
        certified = refl;
        proposed = refl;
        latched = refl;
        retried = refl;
        no_finalize = refl;
        no_nullify = refl;
        asked = refl;
        bound = refl;
      }

  pub notarization_works : WorkFollows same elect (AddNotarization c) x (after_add_notarization same elect x c)
  notarization_works =
      said_follows same elect x (AddNotarization c) (after_add_notarization same elect x c)
      (proposal_said same elect x c (is_none standing) None None) steady waiting notarization_says
      (λ v. proposal_work same elect x c x (λ w. None) (λ w. None) refl (λ w. without_entry x (work_of x w)) standing z
      (named_also z u) (named_steady z u ∙ kept) settled (λ w. named_work z u w) v)
    where
      u : ℕ
      u = c.proposal.round.view

      standing : Option (ProposalFacts D)
      standing = (round_of x u).notarization

      d : StateFacts K L D
      d = with_elected_leader elect x (u + 1) (Some c.bytes)

      z : StateFacts K L D
      z = with_notarization_at same elect d c

      kept : UnchangedSetUp x z
      kept = elected_steady elect x (u + 1) (Some c.bytes)

      steady : UnchangedSetUp x (after_add_notarization same elect x c)
      steady = steady_where x (is_some standing) z (with_window_leaders (named_also z u) u) kept
          (slid_steady (named_also z u) u ∙ named_steady z u ∙ kept)

      settled : (v : ℕ) → work_of z v ≡ with_settled (eqb v u)
          (contradicts same (round_of x v).slot.held (settled_by c (is_none standing) v)) (work_of d v)
      settled v =
          let alike : UnchangedHistory x d = elected_quiet elect x (u + 1) (Some c.bytes) in
          notarized_work same elect d c v ∙ (λ i.
          with_settled (eqb v u) (contradicts same (alike.rounds v i).held
          (settled_by c (is_none (alike.rounds u i).notarization) v)) (work_of d v))

      only : OnlyRounds x d
      only = elected_only elect x (u + 1) (Some c.bytes)

      waiting : (v : ℕ) → is_among v (after_add_notarization same elect x c).named ≡ unwrap_or
          (names elect v x (AddNotarization c)) (is_among v x.named)
      waiting v = first standing
        where
          first : (o : Option (ProposalFacts D))
              → is_among v (if is_some o then z else with_window_leaders (named_also z u) u).named ≡ unwrap_or
              (if eqb v u && is_none o && nat_lt x.finalized u then Some true else None) (is_among v x.named)
          first None =
              ap (λ (a : StateFacts K L D). is_among v a.named) (slid_only (named_also z u) u) ∙ named_among z u v
              ∙ (λ i. unwrap_or (if sym (and-true (eqb v u)) i && nat_lt (only i).finalized u then Some true else None)
              (is_among v (only i).named))
          first (Some s) = rw (and-false (eqb v u)) (ap (λ (a : StateFacts K L D). is_among v a.named) only)

-- nullifications, and the floor at genesis

module _ {K L D : Type 0} (same : D → D → Bool) (elect : Elect L) (x : StateFacts K L D) where
  pub nullification_works : (c : NullificationFacts) (now : ℕ)
      → WorkFollows same elect (AddNullification c now) x (after_add_nullification elect x c now)
  nullification_works c now =
      said_follows same elect x (AddNullification c now) (after_add_nullification elect x c now)
      (λ v. entry_said elect x (eqb v u) next now (Some c.bytes) v) steady
      (λ v. ap (λ (a : StateFacts K L D). is_among v a.named) (elected_only elect e next (Some c.bytes))
      ∙ ap (λ views. is_among v views) (entered_named (at_moment x now) next now))
      says
      (λ v. nullified_work (with_elected_leader elect e next (Some c.bytes)) c v
      ∙ ap (with_settled (eqb v u) false)
      (entry_work elect x (at_moment x now) next now (Some c.bytes) v refl refl refl))
    where
      u : ℕ
      u = c.round.view

      next : ℕ
      next = next_term_start x.terms.term_length u

      e : StateFacts K L D
      e = with_view_entered (at_moment x now) next now

      steady : UnchangedSetUp x (after_add_nullification elect x c now)
      steady = elected_steady elect e next (Some c.bytes) ∙ entered_steady (at_moment x now) next now

      says : (v : ℕ) → Says same elect x (AddNullification c now) v
          (entry_said elect x (eqb v u) next now (Some c.bytes) v)
      says v = record {
        entered = refl;
        tracked = sym (or-false (eqb v u || eqb v next));
        led = sym (option_or_none (elected_leader elect x v next (Some c.bytes)));
        verified = refl;
        build = refl;
        verify = refl;
        certified = refl;
        proposed = refl;
        latched = refl;
        retried = refl;
        no_finalize = refl;
        no_nullify = refl;
        asked = refl;
        bound = refl;
      }

  pub genesis_works : (payload : D) (now : ℕ)
      → WorkFollows same elect (SetFloor (Genesis payload) now) x (after_set_floor same elect x (Genesis payload) now)
  genesis_works payload now =
      said_follows same elect x (SetFloor (Genesis payload) now) (after_set_floor same elect x (Genesis payload) now)
      (entry_said elect x false 1 now None) steady
      (λ v. ap (λ (y : StateFacts K L D). is_among v y.named) (elected_only elect e 1 None)
      ∙ ap (λ views. is_among v views) (entered_named a 1 now))
      says
      (λ v. entry_work elect x a 1 now None v refl refl refl)
    where
      a : StateFacts K L D
      a = record (at_moment x now) { genesis = Some payload }

      e : StateFacts K L D
      e = with_view_entered a 1 now

      steady : UnchangedSetUp x (after_set_floor same elect x (Genesis payload) now)
      steady = elected_steady elect e 1 None ∙ entered_steady a 1 now

      says : (v : ℕ) → Says same elect x (SetFloor (Genesis payload) now) v (entry_said elect x false 1 now None v)
      says v = record {
        entered = refl;
        tracked = sym (or-false (eqb v 1));
        led = sym (option_or_none (elected_leader elect x v 1 None));
        verified = refl;
        build = refl;
        verify = refl;
        certified = refl;
        proposed = refl;
        latched = refl;
        retried = refl;
        no_finalize = refl;
        no_nullify = refl;
        asked = refl;
        bound = refl;
      }

-- finalizations

-- a view that is named after others were dropped
named_later : (wakes : Bool) (dropped : Option Bool) (old : Bool)
    → unwrap_or (if wakes then Some true else None) (unwrap_or dropped old) ≡ unwrap_or
    (if wakes then Some true else dropped) old
named_later true dropped old = refl
named_later false dropped old = refl

module _ {K L D : Type 0} (same : D → D → Bool) (elect : Elect L) (x : StateFacts K L D) (c : ProposalFacts D)
    (now : ℕ) where
  finalization_says : (v : ℕ) → Says same elect x (AddFinalization c now) v
      (proposal_said same elect x c (is_none (round_of x c.proposal.round.view).finalization)
      (entry_at x (c.proposal.round.view + 1) now v) (ends_certification v x c.proposal.round.view) v)
  finalization_says v =
      let settled = settled_by c (is_none (round_of x c.proposal.round.view).finalization) v in
      record {
        entered = refl;
        tracked = refl;
        led = refl;
        verified = rw (option_or_none settled) refl;
        build = rw (or-false (contradicts same (round_of x v).slot.held settled)) refl;
        verify = or-false (contradicts same (round_of x v).slot.held settled || false)
            ∙ or-false (contradicts same (round_of x v).slot.held settled);
        certified = refl;
        proposed = refl;
        latched = refl;
        retried = refl;
        no_finalize = refl;
        no_nullify = refl;
        asked = refl;
        bound = refl;
      }

  pub finalization_works : WorkFollows same elect (AddFinalization c now) x (after_add_finalization same elect x c now)
  finalization_works =
      said_follows same elect x (AddFinalization c now) (after_add_finalization same elect x c now)
      (λ v. proposal_said same elect x c (is_none standing) (entry_at x (u + 1) now v) (ends_certification v x u) v)
      steady waiting finalization_says
      (λ v. proposal_work same elect x c e (entry_at x (u + 1) now) (λ w. ends_certification w x u) entering before
      standing z (with_waiting_candidate elect z u) (woken_steady elect z u ∙ kept) settled
      (λ w. woken_work elect z u w) v)
    where
      u : ℕ
      u = c.proposal.round.view

      standing : Option (ProposalFacts D)
      standing = (round_of x u).finalization

      a : StateFacts K L D
      a = at_moment x now

      b : StateFacts K L D
      b = with_finalized_view a u

      e : StateFacts K L D
      e = with_view_entered b (u + 1) now

      d : StateFacts K L D
      d = with_elected_leader elect e (u + 1) (Some c.bytes)

      z : StateFacts K L D
      z = with_finalization_at same elect d c

      entering : UnchangedSetUp x e
      entering = entered_steady b (u + 1) now ∙ raised_steady a u

      kept : UnchangedSetUp x z
      kept = elected_steady elect e (u + 1) (Some c.bytes) ∙ entering

      steady : UnchangedSetUp x (after_add_finalization same elect x c now)
      steady = steady_where x (is_some standing) z (with_window_leaders (with_waiting_candidate elect z u) u) kept
          (slid_steady (with_waiting_candidate elect z u) u ∙ woken_steady elect z u ∙ kept)

      raising : UnchangedButNumbers now x.current (max x.finalized u) x b
      raising = leaves_joined now x.current x.finalized now x.current (max x.finalized u) x a b (moment_leaves x now)
          (raised_leaves a u)

      known : UnchangedButNumbers b.moment (max b.current (u + 1)) b.finalized x d
      known = then_quiet b.moment (max b.current (u + 1)) b.finalized x e d
          (leaves_joined now x.current (max x.finalized u) b.moment (max b.current (u + 1)) b.finalized x b e raising
          (entered_leaves b (u + 1) now))
          (elected_quiet elect e (u + 1) (Some c.bytes))

      before : (v : ℕ) → work_of e v ≡ work_entered_at x (entry_at x (u + 1) now v)
          (with_certification (ends_certification v x u) (work_of x v))
      before v = entered_said x b (u + 1) now v (raised_steady a u) raising.current_is
          ∙ ap (work_entered_at x (entry_at x (u + 1) now v)) (raised_work a u v)

      settled : (v : ℕ) → work_of z v ≡ with_settled (eqb v u)
          (contradicts same (round_of x v).slot.held (settled_by c (is_none standing) v)) (work_of d v)
      settled v =
          finalized_work same elect d c v ∙ (λ i.
          with_settled (eqb v u) (contradicts same (known.rounds v i).held
          (settled_by c (is_none (known.rounds u i).finalization) v)) (work_of d v))

      dropped : (v : ℕ) → is_among v z.named ≡ unwrap_or
          (if nat_lt x.finalized u && nat_le v u then Some false else None) (is_among v x.named)
      dropped v = ap (λ (y : StateFacts K L D). is_among v y.named) (elected_only elect e (u + 1) (Some c.bytes))
          ∙ ap (λ views. is_among v views) (entered_named b (u + 1) now) ∙ raised_among a u v

      -- the view above waits after the finalization as it did before
      above : (v : ℕ) → wakes elect z z.finalized u v ≡ wakes elect x (max x.finalized u) u v
      above v = by_view (cases_eq v (u + 1))
        where
          finalized : z.finalized ≡ max x.finalized u
          finalized = known.finalized_is ∙ raising.finalized_is

          untouched : UnchangedKnown (round_of x (u + 1)) (round_of z (u + 1))
          untouched = ap known_of_round (round_of-with_round d (u + 1) u (λ same_view. omega (arith, same_view))
              (with_finalization (same_proposal same) (round_of d u) c)) ∙ known.rounds (u + 1)

          by_view : ((v ≡ u + 1) ⊎ (v ≡ u + 1 → ⊥))
              → wakes elect z z.finalized u v ≡ wakes elect x (max x.finalized u) u v
          by_view (inl here) = rw here (λ i. eqb (u + 1) (u + 1) && nat_lt (finalized i) (u + 1) && waits_alike elect x
              z u (wakings_steady x z kept) untouched i)
          by_view (inr apart) = rw (ne_eqb v (u + 1) apart) refl

      waiting : (v : ℕ) → is_among v (after_add_finalization same elect x c now).named ≡ unwrap_or
          (names elect v x (AddFinalization c now)) (is_among v x.named)
      waiting v = first standing
        where
          gone : Option Bool
          gone = if nat_lt x.finalized u && nat_le v u then Some false else None

          first : (o : Option (ProposalFacts D))
              → is_among v (if is_some o then z else with_window_leaders (with_waiting_candidate elect z u) u).named
              ≡ unwrap_or (if is_none o && wakes elect x (max x.finalized u) u v then Some true else gone)
              (is_among v x.named)
          first None =
              ap (λ (y : StateFacts K L D). is_among v y.named) (slid_only (with_waiting_candidate elect z u) u)
              ∙ woken_among elect z u v
              ∙ (λ i. unwrap_or (if above v i then Some true else None) (dropped v i))
              ∙ named_later (wakes elect x (max x.finalized u) u v) gone (is_among v x.named)
          first (Some s) = dropped v

  -- the floor's finalization says what a finalization says, and is returned
  pub floor_finalization_works : WorkFollows same elect (SetFloor (Finalized c) now) x
      (after_set_floor same elect x (Finalized c) now)
  floor_finalization_works = record {
    me = f.me;
    members = f.members;
    elector = f.elector;
    elects_early = f.elects_early;
    failed = f.failed;
    named = f.named;
    work = λ v left. handed v (cases_eq v u) ∙ f.work v left;
  }
    where
      f : WorkFollows same elect (AddFinalization c now) x (after_add_finalization same elect x c now)
      f = finalization_works

      u : ℕ
      u = c.proposal.round.view

      y : StateFacts K L D
      y = after_add_finalization same elect x c now

      r : RoundFacts K D
      r = record (round_of y u) { finalization_broadcast = true }

      tracked : is_tracked y u ≡ true
      tracked = ap (λ (k : Worked K D). k.tracked) (f.work u (omega arith))
          ∙ rw (eq-eqb u u refl) (or-true (is_some (entry_at x (u + 1) now u)))

      handed : (v : ℕ) → ((v ≡ u) ⊎ (v ≡ u → ⊥)) → work_of (with_round y u r) v ≡ work_of y v
      handed v (inl here) = rw here (work_put y u r ∙ (λ i. record (work_of y u) { tracked = sym tracked i }))
      handed v (inr apart) = work_elsewhere y u v r (ne_eqb v u apart)
