-- The worked networks, which look stuck, keep the premises: what is computed of their members.
use Rattle.std.proofs.Common.{◌≡◌, refl, ap, sym, subst, ◌⊎◌, inl, inr, ℕ, zero, suc, ◌<◌, Bool, true, false, not, nat_lt, ltb-true, List, [], ◌∷◌, Contains, Option, Some, None, is_some, unwrap_or, nat_eq, arith}
use Rattle.std.specs.List.{list_any}
use Rattle.std.specs.Prelude.{◌||◌}
use Rattle.std.proofs.lemmas.Bool.{eqb-true, cases_Bool, false≢true}
use Rattle.simplex_types.specs.declared.types.messages.Proposal.{Proposal}
use Rattle.simplex_round.specs.Round.{is_judged}
use Rattle.simplex_voter.specs.Facts.{StateFacts, round_of, is_tracked}
use Rattle.simplex_record.specs.Start.{new_state}
use Rattle.simplex_member.specs.Runs.{IsRun}
use Rattle.laws_safety.specs.Continuations.{EachHonest}
use Rattle.laws_safety.specs.Replicas.{Replica, Faulty, Honest, IsNetworkOf}
use Rattle.laws_safety.specs.Executions.{new_member, Execution}
use Rattle.laws_safety.specs.ScenarioSteps.{in_turn}
use Rattle.laws_safety.proofs.lists.Splits.{Contains-cases}
use Rattle.laws_safety.proofs.networks.ComputedRuns.{end_from, fits_run}
use Rattle.laws_safety.proofs.networks.ScenarioSteps.{replied_in, FitsIn}
use Rattle.laws_progress.specs.NetworkStates.{IsSetUpAs, RunsWith, EachRuns}
use Rattle.laws_progress.specs.ViewCauses.{HasCertified, judged_of}
use Rattle.laws_progress.proofs.runs.Explicit.{verdict_led}
use Rattle.laws_progress.proofs.runs.LedLives.{state_led}

-- what a member knows at the end of an execution whose replies are computed
abbrev pub state_at_end : Execution ℕ ℕ ℕ → StateFacts ℕ ℕ ℕ
state_at_end s = unwrap_or (end_from nat_eq in_turn (new_member nat_eq in_turn s.start) s.steps).life
    (new_state s.start.setup)

some_is : {A : Type 0} (o : Option A) (a : A) → is_some o ≡ true → o ≡ Some (unwrap_or o a)
some_is None a is = absurd (false≢true is)
some_is (Some b) a is = refl

-- where it has not failed
pub lives_there : (s : Execution ℕ ℕ ℕ) → FitsIn s → replied_in s ≡ s.replies
    → is_some (end_from nat_eq in_turn (new_member nat_eq in_turn s.start) s.steps).life ≡ true
    → RunsWith nat_eq in_turn s (state_at_end s)
lives_there s fits replied alive =
    let m = new_member nat_eq in_turn s.start in (
      end_from nat_eq in_turn m s.steps,
      subst (λ replies. IsRun nat_eq in_turn m s.steps replies (end_from nat_eq in_turn m s.steps)) replied
          (fits_run nat_eq in_turn m s.steps fits),
      some_is (end_from nat_eq in_turn m s.steps).life (new_state s.start.setup) alive,
    )

-- what is computed of a member: it received what its execution says, has not failed at the end, was set up so, and its
-- view lies below the start,
-- which it doesn't know
pub record IsWorked (term_length start i : ℕ) (s : Execution ℕ ℕ ℕ) : Type 0 where
  pub replied : replied_in s ≡ s.replies
  pub alive : is_some (end_from nat_eq in_turn (new_member nat_eq in_turn s.start) s.steps).life ≡ true
  pub set_up : IsSetUpAs 1 4 term_length i (state_at_end s)
  pub unknown : is_tracked (state_at_end s) start ≡ false
  pub below : nat_lt (state_at_end s).current start ≡ true

-- so it has not failed
pub lives_by : (term_length start i : ℕ) (s : Execution ℕ ℕ ℕ) → FitsIn s → IsWorked term_length start i s
    → (x : StateFacts ℕ ℕ ℕ) × RunsWith nat_eq in_turn s x
    × (IsSetUpAs 1 4 term_length i x × (is_tracked x start ≡ false) × (x.current < start))
lives_by term_length start i s fits worked = (
  state_at_end s,
  lives_there s fits worked.replied worked.alive,
  (worked.set_up, worked.unknown, ltb-true (state_at_end s).current start worked.below),
)

-- the same for each honest member, one after another
abbrev pub AllLive : (ℕ → StateFacts ℕ ℕ ℕ → Type 0) → List (Replica ℕ ℕ ℕ) → Type 0
AllLive P [] = Unit {0}
AllLive P (Faulty ∷ network) = AllLive (λ i. P (suc i)) network
AllLive P (Honest s ∷ network) = ((x : StateFacts ℕ ℕ ℕ) × RunsWith nat_eq in_turn s x × P 0 x)
    × AllLive (λ i. P (suc i)) network

pub each_lives_so : (P : ℕ → StateFacts ℕ ℕ ℕ → Type 0) (network : List (Replica ℕ ℕ ℕ)) → AllLive P network
    → EachRuns nat_eq in_turn network P
each_lives_so P [] all i s at = absurd (cc)
each_lives_so P (Faulty ∷ network) all zero s at = absurd (cc)
each_lives_so P (Faulty ∷ network) all (suc i) s at = each_lives_so (λ i. P (suc i)) network all i s at
each_lives_so P (Honest t ∷ network) all zero s at =
    let one : t ≡ s = cc in
    (all.0.0, subst (λ u. RunsWith nat_eq in_turn u all.0.0) one all.0.1, all.0.2)
each_lives_so P (Honest t ∷ network) all (suc i) s at = each_lives_so (λ i. P (suc i)) network all.1 i s at

-- no false verdict was received
abbrev pub refuses : List (Bool × Proposal ℕ) → Bool
refuses verdicts = list_any (λ e. not e.0) verdicts

abbrev pub AllFine : List (Replica ℕ ℕ ℕ) → Type 0
AllFine [] = Unit {0}
AllFine (Faulty ∷ network) = AllFine network
AllFine (Honest s ∷ network) = (refuses (judged_of s) ≡ false) × AllFine network

none_refused : (verdicts : List (Bool × Proposal ℕ)) → refuses verdicts ≡ false → (p : Proposal ℕ)
    → Contains verdicts (false, p) → ⊥
none_refused [] fine p h = omega (arith, h.1)
none_refused ((success, q) ∷ verdicts) fine p h =
    by_verdict success fine (Contains-cases (success, q) verdicts (false, p) h)
    (λ rest later. none_refused verdicts rest p later)
  where
    by_verdict : (b : Bool) → (not b || refuses verdicts) ≡ false
        → (◌≡◌ {A = Bool × Proposal ℕ} (b, q) (false, p)) ⊎ Contains verdicts (false, p)
        → (refuses verdicts ≡ false → Contains verdicts (false, p) → ⊥) → ⊥
    by_verdict true rest (inl here) behind = false≢true (ap (λ (e : Bool × Proposal ℕ). e.0) (sym here))
    by_verdict true rest (inr later) behind = behind rest later
    by_verdict false fine h behind = false≢true (sym fine)

each_fine : (network : List (Replica ℕ ℕ ℕ)) → AllFine network
    → EachHonest network (λ i s. refuses (judged_of s) ≡ false)
each_fine [] all i s at = absurd (cc)
each_fine (Faulty ∷ network) all zero s at = absurd (cc)
each_fine (Faulty ∷ network) all (suc i) s at = each_fine network all i s at
each_fine (Honest t ∷ network) all zero s at = let one : t ≡ s = cc in
    subst (λ u. refuses (judged_of u) ≡ false) one all.0
each_fine (Honest t ∷ network) all (suc i) s at = each_fine network all.1 i s at

-- so none is stored
pub agree : (term_length : ℕ) (network : List (Replica ℕ ℕ ℕ)) → IsNetworkOf nat_eq in_turn term_length network
    → AllFine network → EachHonest network (λ i s.
    EachHonest network (λ j t. (x : StateFacts ℕ ℕ ℕ) (v : ℕ) → HasCertified 1 (judged_of s) v
    → RunsWith nat_eq in_turn t x → x.finalized < v → is_judged false (round_of x v).certification ≡ false))
agree term_length network good all i s at j t from x v certified lives above =
    elim (cases_Bool (is_judged false (round_of x v).certification)) [
      | inr fine ↦ fine
      | inl bad ↦ absurd (
          let replied = verdict_led term_length _ _ x
          (state_led nat_eq eqb-true in_turn term_length j t (good.honest j t from) x lives) v false bad in
          none_refused (judged_of t) (each_fine network all j t from) replied.0 replied.1)
    ]
