-- What replayed artifacts add to the work on a view.
use Rattle.std.proofs.Common.{◌≡◌, ◌⊎◌, refl, ap, sym, ◌∙◌, ℕ, Bool, true, false, eqb, List, Option, Some, None, option_map, unwrap_or, inl, inr}
use Rattle.std.specs.Ordering.{nat_cmp}
use Rattle.std.specs.BTreeSet.{insert_key}
use Rattle.std.proofs.Math.Bool.{or-true}
use Rattle.std.proofs.lemmas.Bool.{cases_eq, eq-eqb, ne_eqb}
use Rattle.simplex_types.specs.Proposal.{same_proposal}
use Rattle.simplex_types.specs.Certificates.{ArtifactFacts, NotarizeVote, NullifyVote, FinalizeVote, Verdict, Accepted, Notarized, Nullified, Finalized}
use Rattle.simplex_types.specs.declared.types.messages.Proposal.{Proposal}
use Rattle.simplex_round.specs.declared.round.Leader.{Leader}
use Rattle.simplex_round.specs.declared.round.Decision.TheVariants.{Nullify, Finalize}
use Rattle.simplex_round.specs.Slot.{after_own, holds_or_empty}
use Rattle.simplex_round.specs.Round.{RoundFacts, certified_round}
use Rattle.simplex_voter.specs.Facts.{StateFacts, Elect, round_of, with_round}
use Rattle.simplex_voter.specs.Leaders.{with_next_view_ready}
use Rattle.simplex_voter.specs.Windows.{is_notarized}
use Rattle.simplex_voter.specs.Replay.{bound_again, restored_binding}
use Rattle.simplex_member.specs.OutstandingWork.{is_among}
use Rattle.simplex_record.specs.Recovery.{after_replaying}
use Rattle.simplex_record.specs.Events.{Replay}
use Rattle.laws_history.specs.LeaderHistory.{leads_after, tracks_after}
use Rattle.laws_history.proofs.Worked.{work_in, work_of, WorkFollows, work_put, work_elsewhere}
use Rattle.laws_history.proofs.work.Leaders.{OnlyRounds, with_leader}
use Rattle.laws_history.proofs.work.NextView.{prepared_only, readied_work}
use Rattle.laws_history.proofs.work.WithoutMoment.{IsUnmoved, adds_unmoved, unmoved_adds, put_work}

-- a binding that is restored is all that changes

module _ {K D : Type 0} (r : RoundFacts K D) where
  bound_work : (binding : Option (Proposal D × D))
      → work_in true (bound_again r binding) ≡ record (work_in true r)
      { binding = unwrap_or (option_map (λ bound. Some bound) binding) r.binding }
  bound_work None = refl
  bound_work (Some bound) = refl

  bound_notarized : (binding : Option (Proposal D × D)) → is_notarized (bound_again r binding) ≡ is_notarized r
  bound_notarized None = refl
  bound_notarized (Some bound) = refl

  bound_leader : (binding : Option (Proposal D × D)) → (bound_again r binding).leader ≡ r.leader
  bound_leader None = refl
  bound_leader (Some bound) = refl

  bound_decided : (binding : Option (Proposal D × D)) → (bound_again r binding).notarize_decided ≡ r.notarize_decided
  bound_decided None = refl
  bound_decided (Some bound) = refl

module _ {K L D : Type 0} (same : D → D → Bool) (elect : Elect L) (x : StateFacts K L D) where
  unmoved : (e : ArtifactFacts D) → IsUnmoved same elect x (Replay e)
  unmoved e =
      record { moment = refl; proposed = λ _. refl; latched = λ _. refl; repeated = λ _. refl; asked = λ _. refl }

  -- a round is put, and views are noted
  put_works : (e : ArtifactFacts D) (v : ℕ) (r : RoundFacts K D) (nullified nullify_votes : List ℕ)
      → work_in true r ≡ adds_unmoved same elect x (Replay e) v (work_of x v)
      → ((u : ℕ) → eqb u v ≡ false → adds_unmoved same elect x (Replay e) u (work_of x u) ≡ work_of x u)
      → WorkFollows same elect (Replay e) x
      (record (with_round x v r) { nullified = nullified; nullify_votes = nullify_votes })
  put_works e v r nullified nullify_votes added elsewhere =
      record {
        me = refl;
        members = refl;
        elector = refl;
        elects_early = refl;
        failed = refl;
        named = λ w. refl;
        work = λ w _. put_work same elect x (Replay e) (unmoved e) v r added elsewhere w;
      }

  replayed_notarize : (p : Proposal D) (signer : ℕ)
      → WorkFollows same elect (Replay (NotarizeVote p signer)) x (after_replaying same elect x (NotarizeVote p signer))
  replayed_notarize p signer =
      let only : OnlyRounds z (with_next_view_ready elect z v) = prepared_only elect z v in
      record {
        me = ap (λ (y : StateFacts K L D). y.me) only;
        members = ap (λ (y : StateFacts K L D). y.members) only;
        elector = ap (λ (y : StateFacts K L D). y.elector) only;
        elects_early = ap (λ (y : StateFacts K L D). y.elects_early) only;
        failed = ap (λ (y : StateFacts K L D). y.failed) only;
        named = λ w. ap (λ (y : StateFacts K L D). is_among w y.named) only;
        work = λ w _. readied w ∙ put w (cases_eq w v)
            ∙ sym (unmoved_adds same elect x (Replay (NotarizeVote p signer)) (unmoved (NotarizeVote p signer)) w
            (work_of x w));
      }
    where
      v : ℕ
      v = p.round.view

      r : RoundFacts K D
      r = round_of x v

      -- the proposal is this member's own, and bound again
      voted : RoundFacts K D
      voted = record r { slot = after_own (same_proposal same) r.slot p; notarize_decided = true }

      bound : RoundFacts K D
      bound = bound_again voted (restored_binding x p)

      z : StateFacts K L D
      z = with_round x v bound

      readied : (w : ℕ) → work_of (with_next_view_ready elect z v) w ≡ with_leader (tracks_after elect x true v w)
          (leads_after elect x true v w) (work_of z w)
      readied = readied_work elect x v bound (bound_notarized voted (restored_binding x p))
          (bound_leader voted (restored_binding x p)) (bound_decided voted (restored_binding x p))

      tracked : Bool
      tracked = tracks_after elect x true v v

      leader : Option (Leader K)
      leader = leads_after elect x true v v

      own : (b : Bool) → holds_or_empty (same_proposal same) r.slot p ≡ b
          → with_leader tracked leader (record (work_in true voted)
          { binding = unwrap_or (option_map (λ bound. Some bound) (restored_binding x p)) r.binding }) ≡ adds_unmoved
          same elect x (Replay (NotarizeVote p signer)) v (work_of x v)
      own true is = rw (eq-eqb v v refl, is, or-true tracked) refl
      own false is = rw (eq-eqb v v refl, is, or-true tracked) refl

      put : (w : ℕ) → ((w ≡ v) ⊎ (w ≡ v → ⊥))
          → with_leader (tracks_after elect x true v w) (leads_after elect x true v w) (work_of z w) ≡ adds_unmoved same
          elect x (Replay (NotarizeVote p signer)) w (work_of x w)
      put w (inl here) = rw here (ap (with_leader tracked leader)
          (work_put x v bound ∙ bound_work voted (restored_binding x p))
          ∙ own (holds_or_empty (same_proposal same) r.slot p) refl)
      put w (inr apart) = ap (with_leader (tracks_after elect x true v w) (leads_after elect x true v w))
          (work_elsewhere x v w bound (ne_eqb w v apart)) ∙ rw (ne_eqb w v apart) refl

  -- each artifact
  pub replay_works : (e : ArtifactFacts D) → WorkFollows same elect (Replay e) x (after_replaying same elect x e)
  replay_works (NotarizeVote p signer) = replayed_notarize p signer
  replay_works (NullifyVote round signer) =
      let v = round.view in
      put_works (NullifyVote round signer) v (record (round_of x v) { decision = Nullify None }) x.nullified
      (insert_key nat_cmp x.nullify_votes v) (rw (eq-eqb v v refl) refl) (λ u apart. rw apart refl)
  replay_works (FinalizeVote p signer) =
      let v = p.round.view in
      put_works (FinalizeVote p signer) v (record (round_of x v) { decision = Finalize }) x.nullified x.nullify_votes
      (rw (eq-eqb v v refl) refl) (λ u apart. rw apart refl)
  replay_works (Verdict round success) =
      let v = round.view in
      put_works (Verdict round success) v (certified_round (round_of x v) success) x.nullified x.nullify_votes
      (rw (eq-eqb v v refl) refl) (λ u apart. rw apart refl)
  replay_works (Accepted (Notarized c)) =
      let v = c.proposal.round.view in
      put_works (Accepted (Notarized c)) v (record (round_of x v) { notarization_broadcast = true }) x.nullified
      x.nullify_votes (rw (eq-eqb v v refl) refl) (λ u apart. rw apart refl)
  replay_works (Accepted (Nullified c)) =
      let v = c.round.view in
      put_works (Accepted (Nullified c)) v (record (round_of x v) { nullification_broadcast = true })
      (insert_key nat_cmp x.nullified v) x.nullify_votes (rw (eq-eqb v v refl) refl) (λ u apart. rw apart refl)
  replay_works (Accepted (Finalized c)) =
      let v = c.proposal.round.view in
      put_works (Accepted (Finalized c)) v (record (round_of x v) { finalization_broadcast = true }) x.nullified
      x.nullify_votes (rw (eq-eqb v v refl) refl) (λ u apart. rw apart refl)
