-- What each change of a state keeps: its member, of each view's round what the rules of a record are about, and that no
-- dropped view is retained
-- again.
use Rattle.std.proofs.Common.{◌≡◌, refl, ap, sym, ◌∙◌, ℕ, ◌≤◌, Bool, true, false, None, arith}
use Rattle.std.proofs.lemmas.Bool.{false≢true}
use Rattle.simplex_types.specs.Config.{FloorFacts, Genesis, Finalized}
use Rattle.simplex_types.specs.Certificates.{ArtifactFacts, NotarizeVote, NullifyVote, FinalizeVote, Verdict, Accepted, Notarized, Nullified, Finalized as FinalizedView}
use Rattle.simplex_round.specs.Round.{RoundFacts}
use Rattle.simplex_voter.specs.Facts.{StateFacts, Elect, round_of}
use Rattle.simplex_voter.specs.Windows.{min_active}
use Rattle.simplex_voter.specs.Acceptance.{after_set_floor}
use Rattle.simplex_record.specs.Entries.{entry_view}
use Rattle.simplex_record.specs.Recovery.{after_adding}
use Rattle.simplex_record.specs.Events.{Event, SetFloor, AddNotarization, AddNullification, AddFinalization, SetCertifyHandle, TryVerify, Prune, after_event, finalized_by_event, is_prune}
use Rattle.simplex_record.proofs.Steps as step
use Rattle.simplex_record.proofs.Steps.{RoundStep, Step, Path, Puts, Raises, Scans, Prunes, along, verdict_by, nullify_by, finalize_by}
use Rattle.simplex_record.proofs.Paths.{event_path, asked_of_all}
use Rattle.simplex_record.proofs.RoundChanges.{RoundGrows, alike, grown_on, put_grows, ended_grow, ended_grows, entered_grows, latch_grows, retry_grows}

-- the view that a floor finalizes
abbrev pub floor_view : {D : Type 0} → FloorFacts D → ℕ
floor_view (Genesis _) = 0
floor_view (Finalized c) = c.proposal.round.view

-- each view's round grows, and no view above u is finalized
pub record GrowsUpTo {K L D : Type 0} (u : ℕ) (x y : StateFacts K L D) : Type 0 where
  pub me : y.me ≡ x.me
  pub rises : min_active x ≤ min_active y
  pub kept : min_active x ≤ u → min_active y ≤ u
  pub rounds : (v : ℕ) → RoundGrows (round_of x v) (round_of y v)

abbrev is_other : {K D : Type 0} → Event K D → Bool
is_other (SetCertifyHandle _ _) = true
is_other TryVerify = true
is_other Prune = true
is_other _ = false

-- the event gives no verdict and no vote but one to notarize, and it asks for nothing
pub record IsPlain {K D : Type 0} (e : Event K D) : Type 0 where
  pub verdict : verdict_by e ≡ None
  pub nullify : nullify_by e ≡ None
  pub finalize : finalize_by e ≡ None
  pub other : is_other e ≡ false

module _ {K L D : Type 0} (u : ℕ) (same : D → D → Bool) (elect : Elect L) (begun : StateFacts K L D) (e : Event K D)
    (plain : IsPlain e) where
  change_grows : (x : StateFacts K L D) (v : ℕ) (r s : RoundFacts K D) → RoundStep same elect begun e x v r s
      → RoundGrows r s
  change_grows x v r s (step.Entered now) = entered_grows x r now
  change_grows x v r s (step.Latched now reason) = latch_grows r now reason
  change_grows x v r s (step.Notarized c says at none) =
      record { me = refl; notarized = λ h. refl; judged = λ b. refl; nullified = refl; finalized = refl }
  change_grows x v r s (step.Judged success says fits) = absurd (let none = plain.verdict in cc)
  change_grows x v r s (step.Certifying token is fits) = absurd (false≢true (sym plain.other ∙ ap is_other is))
  change_grows x v r s (step.Ended under_way) = ended_grows r
  change_grows x v r s (step.NullifyDecided says fits) = absurd (let none = plain.nullify in cc)
  change_grows x v r s (step.FinalizeDecided says fits) = absurd (let none = plain.finalize in cc)
  change_grows x v r s (step.Retried now interval is awaits) = retry_grows r _ awaits
  change_grows x v r s _ =
      record { me = refl; notarized = λ h. h; judged = λ b. refl; nullified = refl; finalized = refl }

  step_kept : finalized_by_event e ≤ u → (x y z : StateFacts K L D) → Step same elect begun e 0 y z → GrowsUpTo u x y
      → GrowsUpTo u x z
  step_kept low x y z (Puts v r may change) p =
      record {
        me = p.me;
        rises = p.rises;
        kept = p.kept;
        rounds = λ w. grown_on _ _ _ (p.rounds w) (put_grows y v r (change_grows y v _ r change) w);
      }
  step_kept low x y z (Raises v says above) p =
      record {
        me = p.me;
        rises = omega (arith, p.rises);
        kept = λ h. omega (arith, p.kept h, says, low);
        rounds = λ w. grown_on _ _ _ (p.rounds w) (ended_grow y v w);
      }
  step_kept low x y z (Scans is) p = absurd (false≢true (sym plain.other ∙ ap is_other is))
  step_kept low x y z (Prunes is) p = absurd (pruned e plain.other is)
    where
      pruned : (e : Event K D) → is_other e ≡ false → is_prune e ≡ true → ⊥
      pruned Prune plain is = absurd (false≢true (sym plain))
      pruned _ plain is = false≢true is
  step_kept low x y z _ p = record { me = p.me; rises = p.rises; kept = p.kept; rounds = p.rounds }

  -- a path of an event that is plain
  pub kept_along : finalized_by_event e ≤ u → (x y : StateFacts K L D) → Path same elect begun e 0 x y → GrowsUpTo u x y
  kept_along low x y path = along same elect begun e 0 (GrowsUpTo u x) (step_kept low x) x y path
      (record { me = refl; rises = omega arith; kept = λ h. h; rounds = λ v. alike (round_of x v) })

module _ {K L D : Type 0} (same : D → D → Bool) (elect : Elect L) where
  pub event_kept : (u : ℕ) (x : StateFacts K L D) (e : Event K D) → IsPlain e → finalized_by_event e ≤ u
      → GrowsUpTo u x (after_event same elect x e)
  event_kept u x e plain low = kept_along u same elect x e plain low x (after_event same elect x e)
      (event_path same elect 0 x e (omega arith) (asked_of_all x e))

  still_kept : (u : ℕ) (x : StateFacts K L D) → GrowsUpTo u x x
  still_kept u x = record { me = refl; rises = omega arith; kept = λ h. h; rounds = λ v. alike (round_of x v) }

  -- a certificate that is added, and a floor that is set
  pub added_kept : (x : StateFacts K L D) (now : ℕ) (e : ArtifactFacts D)
      → GrowsUpTo (entry_view e) x (after_adding same elect x now e)
  added_kept x now (Accepted (Notarized c)) =
      event_kept c.proposal.round.view x (AddNotarization c)
      (record { verdict = refl; nullify = refl; finalize = refl; other = refl }) (omega arith)
  added_kept x now (Accepted (Nullified c)) =
      event_kept c.round.view x (AddNullification c now)
      (record { verdict = refl; nullify = refl; finalize = refl; other = refl }) (omega arith)
  added_kept x now (Accepted (FinalizedView c)) =
      event_kept c.proposal.round.view x (AddFinalization c now)
      (record { verdict = refl; nullify = refl; finalize = refl; other = refl }) (omega arith)
  added_kept x now (NotarizeVote p _) = still_kept p.round.view x
  added_kept x now (NullifyVote round _) = still_kept round.view x
  added_kept x now (FinalizeVote p _) = still_kept p.round.view x
  added_kept x now (Verdict round _) = still_kept round.view x

  pub floor_kept : (x : StateFacts K L D) (floor : FloorFacts D) (now : ℕ)
      → GrowsUpTo (floor_view floor) x (after_set_floor same elect x floor now)
  floor_kept x (Genesis payload) now = event_kept 0 x (SetFloor (Genesis payload) now)
      (record { verdict = refl; nullify = refl; finalize = refl; other = refl }) (omega arith)
  floor_kept x (Finalized c) now = event_kept c.proposal.round.view x (SetFloor (Finalized c) now)
      (record { verdict = refl; nullify = refl; finalize = refl; other = refl }) (omega arith)
