-- What an event without a moment adds to the work on a view.
use Rattle.std.proofs.Common.{◌≡◌, ◌⊎◌, refl, ap, sym, ◌∙◌, ℕ, Bool, true, false, ◌&&◌, ◌||◌, eqb, nat_lt, if◌then◌else◌, Option, None, unwrap_or, inl, inr}
use Rattle.std.proofs.lemmas.Bool.{cases_eq, ne_eqb}
use Rattle.simplex_round.specs.declared.round.Decision.TheVariants.{Nullify, Finalize}
use Rattle.simplex_round.specs.Round.{RoundFacts}
use Rattle.simplex_voter.specs.Facts.{StateFacts, Elect, is_tracked, with_round}
use Rattle.simplex_record.specs.Events.{Event}
use Rattle.laws_history.specs.LeaderHistory.{leader_by_event, comes_to_track}
use Rattle.laws_history.specs.OwnWork.{decides_nullify, decides_finalize}
use Rattle.laws_history.specs.WorkRequests.{sets_certification, sets_verified, asks_to_build, asks_to_verify, asks_for, binds}
use Rattle.laws_history.specs.HistoryFolds.{or_new, entered_by, moment_by}
use Rattle.laws_history.specs.Moments.{enters, proposes, latches, retries}
use Rattle.laws_history.proofs.Worked.{Worked, work_in, work_of, adds_work, work_put, work_elsewhere, untimed}

module _ {K L D : Type 0} (same : D → D → Bool) (elect : Elect L) (x : StateFacts K L D) (e : Event K D) where
  -- an event carries no moment, triggers no timeout and asks for no certificate
  pub record IsUnmoved : Type 0 where
    pub moment : moment_by e ≡ None
    pub proposed : (v : ℕ) → proposes same elect v x e ≡ None
    pub latched : (v : ℕ) → latches same elect v x e ≡ None
    pub repeated : (v : ℕ) → retries v x e ≡ None
    pub asked : (v : ℕ) → asks_for same elect v x e ≡ None

  -- what it adds then
  abbrev pub adds_unmoved : ℕ → Worked K D → Worked K D
  adds_unmoved v k = record k {
    tracked = comes_to_track same elect v x e || k.tracked;
    leader = or_new k.leader (leader_by_event same elect v x e);
    verified = unwrap_or (sets_verified same elect v x e) k.verified;
    build_requested = unwrap_or (asks_to_build same elect v x e) k.build_requested;
    verify_requested = asks_to_verify same elect v x e || k.verify_requested;
    decision = if decides_finalize same elect v x e then Finalize
        else (if decides_nullify v x e then Nullify None else k.decision);
    certification = unwrap_or (sets_certification v x e) k.certification;
    binding = unwrap_or (binds same elect v x e) k.binding;
  }

  no_entry : IsUnmoved → (v : ℕ) → enters v x e ≡ None
  no_entry unmoved v = ap (λ moment. if entering then moment else None) unmoved.moment ∙ nothing entering
    where
      entering : Bool
      entering = eqb v (entered_by x.terms.term_length (is_tracked x) e) && nat_lt x.current v

      nothing : (b : Bool) → ◌≡◌ {A = Option ℕ} (if b then None else None) None
      nothing true = refl
      nothing false = refl

  pub unmoved_adds : IsUnmoved → (v : ℕ) (k : Worked K D) → adds_work same elect x e v k ≡ adds_unmoved v k
  unmoved_adds unmoved v k = rw (
    no_entry unmoved v,
    unmoved.proposed v,
    unmoved.latched v,
    unmoved.repeated v,
    unmoved.asked v,
    untimed x.settings k.decision,
  ) refl

  -- what is put at the one view of which the event speaks
  pub put_work : IsUnmoved → (v : ℕ) (r : RoundFacts K D) → work_in true r ≡ adds_unmoved v (work_of x v)
      → ((u : ℕ) → eqb u v ≡ false → adds_unmoved u (work_of x u) ≡ work_of x u) → (w : ℕ)
      → work_of (with_round x v r) w ≡ adds_work same elect x e w (work_of x w)
  put_work unmoved v r added elsewhere w = put (cases_eq w v) ∙ sym (unmoved_adds unmoved w (work_of x w))
    where
      put : ((w ≡ v) ⊎ (w ≡ v → ⊥)) → work_of (with_round x v r) w ≡ adds_unmoved w (work_of x w)
      put (inl here) = rw here (work_put x v r ∙ added)
      put (inr apart) = work_elsewhere x v w r (ne_eqb w v apart) ∙ sym (elsewhere w (ne_eqb w v apart))
