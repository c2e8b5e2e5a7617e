-- The effect of a path on each round: only changes of the round, unless a prune drops the view.
use Rattle.std.proofs.Common.{◌≡◌, refl, ap, sym, ◌∙◌, subst, ℕ, ◌<◌, ◌⊎◌, inl, inr, Bool, true, false, cond, if◌then◌else◌, nat_le, None, is_some, unwrap_or, arith}
use Rattle.std.specs.Ordering.{nat_cmp}
use Rattle.std.specs.FinMap.Entries.{find-where_key}
use Rattle.std.proofs.lemmas.Bool.{cases_eq, leb-false, true≢false, false≢true}
use Rattle.simplex_round.specs.Round.{RoundFacts, new_round, token_of, after_abort}
use Rattle.simplex_voter.specs.Facts.{StateFacts, Elect, round_at, round_of, round_number, with_round}
use Rattle.simplex_voter.specs.Windows.{min_active}
use Rattle.simplex_voter.specs.Certification.{without_token}
use Rattle.simplex_voter.specs.StateAnswers.{after_prune}
use Rattle.simplex_voter.specs.declared.voter.verify.Standing.{Standing}
use Rattle.simplex_voter.specs.declared.voter.verify.Standing.TheVariants.{NothingToDo, Invalid, Lacks, Ready}
use Rattle.simplex_voter.specs.Verification.{standing, round_left, was_scanned, scan_left}
use Rattle.simplex_types.specs.declared.reasons.TimeoutReason.TheVariants.{InvalidProposal}
use Rattle.simplex_voter.proofs.Elsewhere.{round_of-with_round}
use Rattle.simplex_record.specs.Events.{Event, after_event, TryVerify, Prune, is_prune}
use Rattle.simplex_record.proofs.Rounds.{round_put, round_changed}
use Rattle.laws_safety.proofs.votes.NullifyVotes.{tied}
use Rattle.simplex_record.proofs.Steps as step
use Rattle.simplex_record.proofs.Steps.{RoundStep, Step, Path, Puts, Raises, Scans, Prunes, Still, Then}

-- the view lay below the retained ones, and isn't tracked
pub record IsGone {K L D : Type 0} (x y : StateFacts K L D) (v : ℕ) : Type 0 where
  pub below : v < min_active x
  pub untracked : round_at y v ≡ None

module _ {K L D : Type 0} where
  pub pruned_view : (x : StateFacts K L D) (v : ℕ)
      → round_at (after_prune x) v ≡ cond (nat_le (min_active x) v) (round_at x v) None
  pruned_view x v = find-where_key nat_cmp (λ u. nat_le (min_active x) u) v
      (λ u same. ap (nat_le (min_active x)) (sym (tied v u same))) x.rounds

  -- a prune keeps a round or drops it
  pub pruned_round : (x : StateFacts K L D) (v : ℕ)
      → (round_of (after_prune x) v ≡ round_of x v) ⊎ IsGone x (after_prune x) v
  pruned_round x v = by_kept (nat_le (min_active x) v) refl
    where
      by_kept : (b : Bool) → nat_le (min_active x) v ≡ b
          → (round_of (after_prune x) v ≡ round_of x v) ⊎ IsGone x (after_prune x) v
      by_kept true is = inl (ap (λ o. unwrap_or o (new_round x.me x.members (round_number x v)))
          (pruned_view x v ∙ ap (λ b. cond b (round_at x v) None) is))
      by_kept false is = inr (record {
        below = omega (arith, leb-false (min_active x) v is);
        untracked = pruned_view x v ∙ ap (λ b. cond b (round_at x v) None) is;
      })

module _ {K L D : Type 0} (same : D → D → Bool) (elect : Elect L) (begun : StateFacts K L D) (e : Event K D) where
  ended : (x : StateFacts K L D) (v w : ℕ) (r : RoundFacts K D)
      → RoundStep same elect begun e x w r (if nat_le w v then without_token r else r)
  ended x v w r = ends (nat_le w v) (is_some (token_of r.certification)) refl
    where
      ends : (b c : Bool) → is_some (token_of r.certification) ≡ c
          → RoundStep same elect begun e x w r
          (if b then (if c then record r { certification = after_abort r.certification } else r) else r)
      ends false c is = step.Kept
      ends true true under_way = step.Ended under_way
      ends true false none = step.Kept

  scanned_so : e ≡ TryVerify → (x : StateFacts K L D) (w : ℕ) (r : RoundFacts K D)
      → RoundStep same elect begun e x w r (scan_left same elect begun w r)
  scanned_so is x w r = by_standing (was_scanned same elect begun w) (standing same elect begun (w, r)) refl
    where
      by_standing : (b : Bool) (s : Standing D) → standing same elect begun (w, r) ≡ s
          → RoundStep same elect begun e x w r (if b then round_left r begun.moment s else r)
      by_standing false s stands = step.Kept
      by_standing true NothingToDo stands = step.Kept
      by_standing true Invalid stands = step.Latched begun.moment InvalidProposal
      by_standing true (Lacks u kind) stands = step.Requested u is
      by_standing true (Ready d) stands = step.Verifying d is stands

  pub step_round : (low : ℕ) (x y : StateFacts K L D) → Step same elect begun e low x y → (w : ℕ)
      → RoundStep same elect begun e x w (round_of x w) (round_of y w) ⊎ ((is_prune e ≡ true) × (y ≡ after_prune x))
  step_round low x y (Puts v r may change) w = elim (cases_eq w v) [
    | inl at ↦ inl (subst (λ u. RoundStep same elect begun e x u (round_of x u) (round_of (with_round x v r) u))
        (sym at) (subst (λ s. RoundStep same elect begun e x v (round_of x v) s) (sym (round_put x v r)) change))
    | inr apart ↦ inl (subst (λ s. RoundStep same elect begun e x w (round_of x w) s)
        (sym (round_of-with_round x w v apart r)) step.Kept)
  ]
  step_round low x y (Raises v says above) w =
      inl (round_changed (λ u r. if nat_le u v then without_token r else r) x w (RoundStep same elect begun e x w)
      (λ r. step.Kept) (ended x v w))
  step_round low x y (Scans is) w = inl (round_changed (scan_left same elect begun) x w
      (RoundStep same elect begun e x w) (λ r. step.Kept) (scanned_so is x w))
  step_round low x y (Prunes is) w = inr (is, refl)
  step_round low x y _ w = inl step.Kept

  module _ (low : ℕ) (Q : ℕ → RoundFacts K D → RoundFacts K D → Type 0)
      (on : (v : ℕ) (r s t : RoundFacts K D) → Q v r s → Q v s t → Q v r t)
      (changes : (x : StateFacts K L D) (v : ℕ) (r s : RoundFacts K D) → RoundStep same elect begun e x v r s
      → Q v r s) where
    -- a relation that each change of a round has holds between its first and its last state
    pub rounds_along : is_prune e ≡ false → (x y : StateFacts K L D) → Path same elect begun e low x y → (v : ℕ)
        → Q v (round_of x v) (round_of y v)
    rounds_along no_prune x y Still v = changes x v _ _ step.Kept
    rounds_along no_prune x y (Then {y = w} path s) v = elim (step_round low w y s v) [
      | inl change ↦ on v _ _ _ (rounds_along no_prune x w path v) (changes w v _ _ change)
      | inr prunes ↦ absurd (true≢false (sym prunes.0 ∙ no_prune))
    ]

-- the same with a prune, which drops a round or keeps it

pub prune_alone : {K L D : Type 0} (same : D → D → Bool) (elect : Elect L) (x : StateFacts K L D) (e : Event K D)
    → is_prune e ≡ true → after_event same elect x e ≡ after_prune x
prune_alone same elect x Prune is = refl
prune_alone same elect x _ is = absurd (false≢true is)

module _ {K L D : Type 0} (same : D → D → Bool) (elect : Elect L) (x : StateFacts K L D) (e : Event K D) (low : ℕ)
    (Q : ℕ → RoundFacts K D → RoundFacts K D → Type 0)
    (on : (v : ℕ) (r s t : RoundFacts K D) → Q v r s → Q v s t → Q v r t)
    (changes : (y : StateFacts K L D) (v : ℕ) (r s : RoundFacts K D) → RoundStep same elect x e y v r s → Q v r s) where
  pub rounds_or_gone : Path same elect x e low x (after_event same elect x e) → (v : ℕ)
      → Q v (round_of x v) (round_of (after_event same elect x e) v)
      ⊎ ((is_prune e ≡ true) × IsGone x (after_event same elect x e) v)
  rounds_or_gone path v = by_prune (is_prune e) refl
    where
      by_prune : (b : Bool) → is_prune e ≡ b → Q v (round_of x v) (round_of (after_event same elect x e) v)
          ⊎ ((is_prune e ≡ true) × IsGone x (after_event same elect x e) v)
      by_prune false no_prune =
          inl (rounds_along same elect x e low Q on changes no_prune x (after_event same elect x e) path v)
      by_prune true prunes = subst (λ y. Q v (round_of x v) (round_of y v) ⊎ ((is_prune e ≡ true) × IsGone x y v))
          (sym (prune_alone same elect x e prunes)) (elim (pruned_round x v) [
            | inl kept ↦ inl (subst (Q v (round_of x v)) (sym kept) (changes x v _ _ step.Kept))
            | inr gone ↦ inr (prunes, gone)
          ])
