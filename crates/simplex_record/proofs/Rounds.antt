-- For the laws by steps: the invariants of each event, and those of a run by them.
-- A round that is stored at a view, rounds that are changed by their views, and the decision and verdict after entries,
-- latches, aborts and retries.
use Rattle.std.proofs.Common.{◌≡◌, refl, ap, sym, ◌∙◌, subst, ℕ, true, false, not, cond, Option, Some, None, is_some, unwrap_or}
use Rattle.std.specs.Prelude.{map, option_map}
use Rattle.std.specs.Ordering.{nat_cmp}
use Rattle.std.specs.Cmp.{nat_cmp_total}
use Rattle.std.specs.FinMap.Entries.{find, find-put}
use Rattle.std.proofs.lemmas.Bool.{eq-eqb, false≢true}
use Rattle.simplex_view_maps.proofs.Maps.{is_eq-nat_cmp}
use Rattle.simplex_types.specs.declared.reasons.TimeoutReason.{TimeoutReason}
use Rattle.simplex_round.specs.declared.round.Decision.{Decision}
use Rattle.simplex_round.specs.declared.round.Decision.TheVariants as decision
use Rattle.simplex_round.specs.declared.round.Certification.{Certification}
use Rattle.simplex_round.specs.declared.round.Certification.TheVariants as certification
use Rattle.simplex_round.specs.Round.{RoundFacts, new_round, with_decision_deadlines, with_first_timeout, is_nullify, is_finalize, is_certified, after_abort, has_no_retry, awaits_retry}
use Rattle.simplex_voter.specs.Facts.{StateFacts, round_at, round_of, round_number, is_tracked, with_round}
use Rattle.simplex_voter.proofs.Gaps.{and_parts}
use Rattle.simplex_voter.proofs.Walked.{find-changed}

module _ {K L D : Type 0} where
  -- the round that was stored at a view is there
  pub round_put : (x : StateFacts K L D) (v : ℕ) (r : RoundFacts K D) → round_of (with_round x v r) v ≡ r
  round_put x v r =
      ap (λ found. unwrap_or found (new_round x.me x.members (round_number x v)))
      (find-put nat_cmp nat_cmp_total v v r x.rounds
      ∙ ap (λ b. cond b (Some r) (find nat_cmp v x.rounds)) (is_eq-nat_cmp v v ∙ eq-eqb v v refl))

  pub tracked_put : (x : StateFacts K L D) (v : ℕ) (r : RoundFacts K D) → is_tracked (with_round x v r) v ≡ true
  tracked_put x v r = ap is_some (find-put nat_cmp nat_cmp_total v v r x.rounds
      ∙ ap (λ b. cond b (Some r) (find nat_cmp v x.rounds)) (is_eq-nat_cmp v v ∙ eq-eqb v v refl))

pub armed_nullify : (d : Decision) (a b : ℕ) → is_nullify (with_decision_deadlines d a b) ≡ is_nullify d
armed_nullify (decision.Pending _ _ _) a b = refl
armed_nullify (decision.Nullify _) a b = refl
armed_nullify decision.Finalize a b = refl

pub armed_finalize : (d : Decision) (a b : ℕ) → is_finalize (with_decision_deadlines d a b) ≡ is_finalize d
armed_finalize (decision.Pending _ _ _) a b = refl
armed_finalize (decision.Nullify _) a b = refl
armed_finalize decision.Finalize a b = refl

pub latched_nullify : (d : Decision) (t : ℕ × TimeoutReason) → is_nullify (with_first_timeout d t) ≡ is_nullify d
latched_nullify (decision.Pending _ _ None) t = refl
latched_nullify (decision.Pending _ _ (Some _)) t = refl
latched_nullify (decision.Nullify _) t = refl
latched_nullify decision.Finalize t = refl

pub latched_finalize : (d : Decision) (t : ℕ × TimeoutReason) → is_finalize (with_first_timeout d t) ≡ is_finalize d
latched_finalize (decision.Pending _ _ None) t = refl
latched_finalize (decision.Pending _ _ (Some _)) t = refl
latched_finalize (decision.Nullify _) t = refl
latched_finalize decision.Finalize t = refl

pub aborted_certified : (c : Certification) → is_certified (after_abort c) ≡ is_certified c
aborted_certified certification.Ready = refl
aborted_certified (certification.Outstanding _) = refl
aborted_certified (certification.Judged _) = refl
aborted_certified certification.Aborted = refl

module _ {K D : Type 0} where
  pub awaited_nullify : (r : RoundFacts K D) → awaits_retry r ≡ true
      → (is_nullify r.decision ≡ true) × (is_finalize r.decision ≡ false)
  awaited_nullify r awaits = by_decision r.decision
      (and_parts (not (is_some r.finalization)) (has_no_retry r.decision) awaits).1
    where
      by_decision : (d : Decision) → has_no_retry d ≡ true → (is_nullify d ≡ true) × (is_finalize d ≡ false)
      by_decision (decision.Pending _ _ _) is = absurd (false≢true is)
      by_decision (decision.Nullify _) is = (refl, refl)
      by_decision decision.Finalize is = absurd (false≢true is)

-- each tracked view's round is changed by its view
module _ {K L D : Type 0} (change : ℕ → RoundFacts K D → RoundFacts K D) (x : StateFacts K L D) (v : ℕ) where
  abbrev changed : StateFacts K L D
  changed = record x { rounds = map (λ e. (e.0, change e.0 e.1)) x.rounds }

  pub tracked_changed : is_tracked changed v ≡ is_tracked x v
  tracked_changed = ap is_some (find-changed change v x.rounds) ∙ by_found (round_at x v)
    where
      by_found : (o : Option (RoundFacts K D)) → is_some (option_map (change v) o) ≡ is_some o
      by_found None = refl
      by_found (Some r) = refl

  -- a relation of each round to itself and to its change
  pub round_changed : (P : RoundFacts K D → RoundFacts K D → Type 0) → ((r : RoundFacts K D) → P r r)
      → ((r : RoundFacts K D) → P r (change v r)) → P (round_of x v) (round_of changed v)
  round_changed P same changes = subst (λ o. P (round_of x v) (unwrap_or o fresh))
      (sym (find-changed change v x.rounds)) (by_found (round_at x v))
    where
      fresh : RoundFacts K D
      fresh = new_round x.me x.members (round_number x v)

      by_found : (o : Option (RoundFacts K D)) → P (unwrap_or o fresh) (unwrap_or (option_map (change v) o) fresh)
      by_found None = same fresh
      by_found (Some r) = changes r
