-- What votes and proposals that are heard of add to the work on a view.
use Rattle.std.proofs.Common.{◌≡◌, ◌⊎◌, refl, ap, sym, ◌∙◌, ℕ, Bool, true, false, ◌&&◌, ◌||◌, not, eqb, if◌then◌else◌, Option, Some, None, is_some, unwrap_or, inl, inr}
use Rattle.std.specs.Option.{option_map_or}
use Rattle.std.specs.Ordering.{nat_cmp}
use Rattle.std.specs.BTreeSet.{insert_key}
use Rattle.std.proofs.Math.Bool.{and-true, or-true, and-false}
use Rattle.std.proofs.lemmas.Bool.{cases_eq, eq-eqb, ne_eqb}
use Rattle.simplex_types.specs.Proposal.{same_proposal}
use Rattle.simplex_types.specs.declared.types.messages.Proposal.{Proposal}
use Rattle.simplex_round.specs.declared.round.Decision.TheVariants.{Finalize}
use Rattle.simplex_round.specs.declared.round.Leader.{Leader}
use Rattle.simplex_round.specs.Slot.{SlotFacts, after_vote}
use Rattle.simplex_round.specs.Round.{RoundFacts, after_nullify, is_nullify, is_finalize}
use Rattle.simplex_voter.specs.Facts.{StateFacts, Elect, round_of, with_round}
use Rattle.simplex_voter.specs.Leaders.{with_next_view_ready}
use Rattle.simplex_voter.specs.Rules.{may_notarize, may_nullify, may_finalize}
use Rattle.simplex_voter.specs.Verification.{with_proposal, after_set_proposal}
use Rattle.simplex_voter.specs.Votes.{nullify_cast, finalize_cast, after_construct_notarize, after_construct_nullify, after_construct_finalize}
use Rattle.simplex_voter.proofs.Rules.{nullify_parts}
use Rattle.simplex_member.specs.OutstandingWork.{is_among}
use Rattle.simplex_record.specs.Events.{ConstructNotarize, ConstructNullify, ConstructFinalize, SetProposal}
use Rattle.laws_history.specs.LeaderHistory.{leads_after, tracks_after}
use Rattle.laws_history.specs.OwnWork.{contradicts}
use Rattle.laws_history.specs.HistoryFolds.{or_new}
use Rattle.laws_history.proofs.Worked.{Worked, work_in, work_of, adds_work, WorkFollows, work_put, work_elsewhere}
use Rattle.laws_history.proofs.work.Leaders.{OnlyRounds, with_leader}
use Rattle.laws_history.proofs.work.NextView.{prepared_only, prepared_work, prepared_leaders, readied_work}
use Rattle.laws_history.proofs.work.WithoutMoment.{IsUnmoved, adds_unmoved, unmoved_adds, put_work}

module _ {D : Type 0} (same : D → D → Bool) (s : SlotFacts D) (p : Proposal D) where
  -- the slot after a proposal was received, where this is stored
  abbrev received_by : Option (Proposal D) → SlotFacts D
  received_by held =
      option_map_or
      (λ h. record s
      { conflict = s.conflict || not (same_proposal same h p); verified = s.verified && same_proposal same h p })
      held
      (record s { held = Some p })

  -- another one than the stored one is not verified, and none is asked for
  received_verified : (held : Option (Proposal D))
      → (received_by held).verified ≡ unwrap_or (if contradicts same held (Some p) then Some false else None) s.verified
  received_verified None = refl
  received_verified (Some h) = by_same (same_proposal same h p)
    where
      by_same : (b : Bool) → (s.verified && b) ≡ unwrap_or (if not b then Some false else None) s.verified
      by_same true = and-true s.verified
      by_same false = and-false s.verified

  received_build : (held : Option (Proposal D)) → (received_by held).build_requested ≡ s.build_requested
  received_build None = refl
  received_build (Some h) = refl

  received_verify : (held : Option (Proposal D)) → (received_by held).verify_requested ≡ s.verify_requested
  received_verify None = refl
  received_verify (Some h) = refl

module _ {K L D : Type 0} (same : D → D → Bool) (elect : Elect L) (x : StateFacts K L D) (v : ℕ) where
  pub nullify_works : WorkFollows same elect (ConstructNullify v) x (after_construct_nullify x v)
  nullify_works = by_rule (may_nullify x v) refl
    where
      r : RoundFacts K D
      r = round_of x v

      z : StateFacts K L D
      z = with_round x v (after_nullify r)

      unmoved : IsUnmoved same elect x (ConstructNullify v)
      unmoved =
          record { moment = refl; proposed = λ _. refl; latched = λ _. refl; repeated = λ _. refl; asked = λ _. refl }

      decided : may_nullify x v ≡ true → work_in true (after_nullify r) ≡ adds_unmoved same elect x (ConstructNullify v)
          v (work_of x v)
      decided may =
          let open_vote : is_finalize r.decision ≡ false = (nullify_parts x v may).no_finalize in
          rw (may, open_vote, eq-eqb v v refl) refl

      voted : may_nullify x v ≡ true → (w : ℕ)
          → work_of z w ≡ adds_work same elect x (ConstructNullify v) w (work_of x w)
      voted may = put_work same elect x (ConstructNullify v) unmoved v (after_nullify r) (decided may)
          (λ u apart. rw apart refl)

      cast : (b : Bool) → may_nullify x v ≡ true
          → WorkFollows same elect (ConstructNullify v) x
          (if b then record z { nullify_votes = insert_key nat_cmp x.nullify_votes v } else z)
      cast true may = record {
        me = refl;
        members = refl;
        elector = refl;
        elects_early = refl;
        failed = refl;
        named = λ _. refl;
        work = λ w _. voted may w;
      }
      cast false may = record {
        me = refl;
        members = refl;
        elector = refl;
        elects_early = refl;
        failed = refl;
        named = λ _. refl;
        work = λ w _. voted may w;
      }

      by_rule : (b : Bool) → may_nullify x v ≡ b
          → WorkFollows same elect (ConstructNullify v) x (if b then nullify_cast z v else x)
      by_rule true may = cast (is_some x.me) may
      by_rule false barred = record {
        me = refl;
        members = refl;
        elector = refl;
        elects_early = refl;
        failed = refl;
        named = λ _. refl;
        work = λ w _. sym (unmoved_adds same elect x (ConstructNullify v) unmoved w (work_of x w)
            ∙ rw (barred, and-false (eqb w v)) refl);
      }

  pub finalize_works : WorkFollows same elect (ConstructFinalize v) x (after_construct_finalize elect x v)
  finalize_works = by_rule (may_finalize elect x v) refl
    where
      r : RoundFacts K D
      r = record (round_of x v) { decision = Finalize }

      unmoved : IsUnmoved same elect x (ConstructFinalize v)
      unmoved =
          record { moment = refl; proposed = λ _. refl; latched = λ _. refl; repeated = λ _. refl; asked = λ _. refl }

      decided : may_finalize elect x v ≡ true
          → work_in true r ≡ adds_unmoved same elect x (ConstructFinalize v) v (work_of x v)
      decided may = rw (may, eq-eqb v v refl) refl

      by_rule : (b : Bool) → may_finalize elect x v ≡ b
          → WorkFollows same elect (ConstructFinalize v) x (if b then finalize_cast x v else x)
      by_rule true may = record {
        me = refl;
        members = refl;
        elector = refl;
        elects_early = refl;
        failed = refl;
        named = λ _. refl;
        work = λ w _. put_work same elect x (ConstructFinalize v) unmoved v r (decided may)
            (λ u apart. rw apart refl) w;
      }
      by_rule false barred = record {
        me = refl;
        members = refl;
        elector = refl;
        elects_early = refl;
        failed = refl;
        named = λ _. refl;
        work = λ w _. sym (unmoved_adds same elect x (ConstructFinalize v) unmoved w (work_of x w)
            ∙ rw (barred, and-false (eqb w v)) refl);
      }

  pub notarize_works : WorkFollows same elect (ConstructNotarize v) x (after_construct_notarize same elect x v)
  notarize_works = by_rule (may_notarize same elect x v) refl
    where
      r : RoundFacts K D
      r = record (round_of x v) { notarize_decided = true }

      z : StateFacts K L D
      z = with_round x v r

      unmoved : IsUnmoved same elect x (ConstructNotarize v)
      unmoved =
          record { moment = refl; proposed = λ _. refl; latched = λ _. refl; repeated = λ _. refl; asked = λ _. refl }

      -- the vote tracks its view, and readies the one above
      voted : (tracked : Bool) (leader : Option (Leader K)) (w : ℕ) → ((w ≡ v) ⊎ (w ≡ v → ⊥))
          → with_leader tracked leader (work_of z w) ≡ with_leader (eqb w v || tracked) leader (work_of x w)
      voted tracked leader w (inl here) = rw here
          (ap (with_leader tracked leader) (work_put x v r) ∙ rw (eq-eqb v v refl, or-true tracked) refl)
      voted tracked leader w (inr apart) = ap (with_leader tracked leader) (work_elsewhere x v w r (ne_eqb w v apart))
          ∙ rw (ne_eqb w v apart) refl

      readied : may_notarize same elect x v ≡ true → (w : ℕ)
          → work_of (with_next_view_ready elect z v) w ≡ adds_unmoved same elect x (ConstructNotarize v) w (work_of x w)
      readied may w =
          readied_work elect x v r refl refl refl w
          ∙ voted (tracks_after elect x true v w) (leads_after elect x true v w) w (cases_eq w v)
          ∙ rw may refl

      by_rule : (b : Bool) → may_notarize same elect x v ≡ b
          → WorkFollows same elect (ConstructNotarize v) x (if b then with_next_view_ready elect z v else x)
      by_rule true may =
          let only : OnlyRounds z (with_next_view_ready elect z v) = prepared_only elect z v in
          record {
            me = ap (λ y. y.me) only;
            members = ap (λ y. y.members) only;
            elector = ap (λ y. y.elector) only;
            elects_early = ap (λ y. y.elects_early) only;
            failed = ap (λ y. y.failed) only;
            named = λ w. ap (λ y. is_among w y.named) only;
            work = λ w _. readied may w ∙ sym (unmoved_adds same elect x (ConstructNotarize v) unmoved w (work_of x w));
          }
      by_rule false barred = record {
        me = refl;
        members = refl;
        elector = refl;
        elects_early = refl;
        failed = refl;
        named = λ _. refl;
        work = λ w _. sym (unmoved_adds same elect x (ConstructNotarize v) unmoved w (work_of x w) ∙ rw barred refl);
      }

  pub proposal_works : (p : Proposal D) → WorkFollows same elect (SetProposal v p) x
      (after_set_proposal same elect x v p)
  proposal_works p =
      let only : OnlyRounds x y = prepared_only elect x v in
      record {
        me = ap (λ (z : StateFacts K L D). z.me) only;
        members = ap (λ (z : StateFacts K L D). z.members) only;
        elector = ap (λ (z : StateFacts K L D). z.elector) only;
        elects_early = ap (λ (z : StateFacts K L D). z.elects_early) only;
        failed = ap (λ (z : StateFacts K L D). z.failed) only;
        named = λ w. ap (λ (z : StateFacts K L D). is_among w z.named) only;
        work = λ w _. put w (cases_eq w v) ∙ sym (unmoved_adds same elect x (SetProposal v p) unmoved w (work_of x w));
      }
    where
      y : StateFacts K L D
      y = with_next_view_ready elect x v

      r : RoundFacts K D
      r = round_of x v

      unmoved : IsUnmoved same elect x (SetProposal v p)
      unmoved =
          record { moment = refl; proposed = λ _. refl; latched = λ _. refl; repeated = λ _. refl; asked = λ _. refl }

      -- the round is readied first
      readied : RoundFacts K D
      readied = record r { leader = or_new r.leader (leads_after elect x r.notarize_decided v v) }

      readied_is : round_of y v ≡ readied
      readied_is = prepared_leaders elect x v v
          ∙ ap (λ leader. record r { leader = leader }) (ap (λ (k : Worked K D). k.leader) (prepared_work elect x v v))

      received : (b : Bool) → is_nullify r.decision ≡ b
          → work_in true (if b then readied else record readied { slot = after_vote (same_proposal same) r.slot p })
          ≡ adds_unmoved same elect x (SetProposal v p) v (work_of x v)
      received true is = rw (is, eq-eqb v v refl) refl
      received false is = rw (is, eq-eqb v v refl)
          (λ i. record (work_in true readied) {
            verified = received_verified same r.slot p r.slot.held i;
            build_requested = received_build same r.slot p r.slot.held i;
            verify_requested = received_verify same r.slot p r.slot.held i;
          })

      put : (w : ℕ) → ((w ≡ v) ⊎ (w ≡ v → ⊥))
          → work_of (with_round y v (with_proposal same (round_of y v) p)) w ≡ adds_unmoved same elect x
          (SetProposal v p) w (work_of x w)
      put w (inl here) = rw here (work_put y v (with_proposal same (round_of y v) p)
          ∙ ap (λ s. work_in true (with_proposal same s p)) readied_is ∙ received (is_nullify r.decision) refl)
      put w (inr apart) = work_elsewhere y v w (with_proposal same (round_of y v) p) (ne_eqb w v apart)
          ∙ prepared_work elect x v w ∙ rw (ne_eqb w v apart) refl
