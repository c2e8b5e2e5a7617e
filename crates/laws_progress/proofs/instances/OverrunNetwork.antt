-- Five members that have just started, two of which are faulty: three votes are no certificate.
use Rattle.std.proofs.Common.{◌≡◌, refl, sym, subst, ◌<◌, inl, inr, ℕ, zero, suc, false, slice_get, Contains, Some, nat_eq, arith}
use Rattle.simplex_types.specs.Config.{Genesis}
use Rattle.simplex_voter.specs.Acceptance.{after_set_floor}
use Rattle.simplex_voter.specs.Facts.{StateFacts, is_tracked}
use Rattle.simplex_record.specs.Check.{first_recover_error}
use Rattle.simplex_record.specs.Start.{new_state}
use Rattle.laws_safety.specs.Traces.{Accepts}
use Rattle.laws_safety.specs.Replicas.{Honest, IsNetworkOf}
use Rattle.laws_safety.specs.Executions.{Execution, trace_of, IsExecution, BeginsAs}
use Rattle.laws_safety.specs.ScenarioSteps.{in_turn}
use Rattle.laws_safety.proofs.networks.ScenarioSteps.{ran_as_replied}
use Rattle.laws_progress.specs.NetworkStates.{IsSetUpAs, RunsWith, EachRuns}
use Rattle.laws_progress.specs.TooManyFaulty.{idle_of_five, with_two_faulty, MayContinueOtherwise, IsStuck}
use Rattle.laws_progress.proofs.instances.Worked.{agree}
use Rattle.laws_progress.proofs.networks.Continued.{too_many_are_faulty}

begins : (me : ℕ) → BeginsAs 1 me (idle_of_five me).start.setup
begins me = record { terms = record { terms = refl; some = omega arith }; signs_as = inl refl }

idle_ran : (me : ℕ) → IsExecution nat_eq in_turn 1 me (idle_of_five me)
unfolding first_recover_error
idle_ran me = ran_as_replied 1 me (idle_of_five me) (begins me) tt refl tt refl

state : ℕ → StateFacts ℕ ℕ ℕ
state me = after_set_floor nat_eq in_turn (new_state (idle_of_five me).start.setup) (Genesis 0) 0

lives : (me : ℕ) → RunsWith nat_eq in_turn (idle_of_five me) (state me)
unfolding state
lives me = (_, refl, refl)

knows : (me : ℕ) → IsSetUpAs 1 5 1 me (state me) × (is_tracked (state me) 4 ≡ false) × ((state me).current < 4)
unfolding state
knows me =
    (record { signs = refl; of_epoch = refl; elects_by = refl; members = refl; on_time = refl }, refl, omega arith)

each_idle : (i : ℕ) (s : Execution ℕ ℕ ℕ) → slice_get with_two_faulty i ≡ Some (Honest s) → s ≡ idle_of_five i
each_idle zero s at = absurd (cc)
each_idle (suc zero) s at = absurd (cc)
each_idle (suc (suc zero)) s at = cc
each_idle (suc (suc (suc zero))) s at = cc
each_idle (suc (suc (suc (suc zero)))) s at = cc
each_idle (suc (suc (suc (suc (suc i))))) s at = absurd (cc)

pub is_network : IsNetworkOf nat_eq in_turn 1 with_two_faulty
is_network = record {
  few_faulty = inr (omega arith);
  honest = λ i s at. subst (λ t. IsExecution nat_eq in_turn 1 i t) (sym (each_idle i s at)) (idle_ran i);
  backed = λ i s c at h.
      absurd (let none = subst (λ t. Contains (trace_of t) (Accepts c)) (each_idle i s at) h in omega (arith, none.1));
}

each_lives : EachRuns nat_eq in_turn with_two_faulty
    (λ i x. IsSetUpAs 1 5 1 i x × (is_tracked x 4 ≡ false) × (x.current < 4))
each_lives i s at =
    (state i, subst (λ t. RunsWith nat_eq in_turn t (state i)) (sym (each_idle i s at)) (lives i), knows i)

pub may_otherwise : MayContinueOtherwise
may_otherwise = (
  each_lives,
  agree 1 with_two_faulty is_network (refl, (refl, (refl, tt))),
  refl,
  refl,
  λ bytes. refl,
  idle_of_five 2,
  refl,
)

pub is_stuck : IsStuck
is_stuck later final on = too_many_are_faulty ℕ nat_eq in_turn 1 with_two_faulty later final is_network (omega arith) 2
    (idle_of_five 2) refl on
