-- So do the premises of the second one: of four members that have just started, three give view 1 up and finalize view
-- 2.
use Rattle.std.proofs.Common.{◌≡◌, refl, ap, sym, ◌∙◌, subst, ◌<◌, inl, inr, ℕ, zero, suc, cond, slice_get, Contains, Some, None, nat_eq, arith}
use Rattle.std.proofs.lemmas.Bool.{eq-eqb, eqb-true, ne_eqb, cases_eq}
use Rattle.std.specs.Prelude.{option_and_then}
use Rattle.simplex_view_maps.proofs.Maps.{is_eq-nat_cmp}
use Rattle.simplex_round.specs.Round.{RoundFacts}
use Rattle.simplex_voter.specs.Facts.{round_of}
use Rattle.simplex_voter.specs.Gaps.{first_unnullified_view}
use Rattle.simplex_voter.specs.Payloads.{explicit_ancestry_payload, certified_payload}
use Rattle.laws_safety.specs.Traces.{Accepts}
use Rattle.laws_safety.specs.Replicas.{Honest, IsNetworkOf}
use Rattle.laws_safety.specs.Executions.{Execution, trace_of, IsExecution}
use Rattle.laws_safety.specs.ScenarioSteps.{in_turn}
use Rattle.laws_progress.specs.NetworkStates.{RunsWith, EachRuns}
use Rattle.laws_progress.specs.StartedNetworks.{idle, with_second_leader, StandsBeforeSecond, Finalizes}
use Rattle.laws_progress.proofs.instances.FreshNetwork.{state, idle_ran, lives}
use Rattle.laws_progress.proofs.networks.Passed.{together_they_go_on}
use Rattle.laws_progress.proofs.states.BeforeTermStart.{explicit_by}

-- of each view but the first nothing is known
abbrev first : ℕ → RoundFacts ℕ ℕ
first me = round_of (state me) 1

explicit_first : (me v : ℕ) → v ≡ 1 → 0 < v → explicit_ancestry_payload (state me) v ≡ None
explicit_first me v at some = rw at (explicit_by (state me) 1 (omega arith))

tests : (me v : ℕ) → 0 < v → explicit_ancestry_payload (state me) v ≡ None
tests me v some = elim (cases_eq v 1) [
  | inl at ↦ explicit_first me v at some
  | inr apart ↦
      (let not_first = is_eq-nat_cmp v 1 ∙ ne_eqb v 1 apart in
      explicit_by (state me) v some ∙ ap (λ b. option_and_then certified_payload (cond b (Some (first me)) None))
      not_first)
]

knows : (me : ℕ) → StandsBeforeSecond me (state me)
unfolding explicit_ancestry_payload first_unnullified_view
knows me = (
  record { signs = refl; of_epoch = refl; elects_by = refl; members = refl; on_time = refl },
  record {
    current = refl;
    stands = record { below = omega arith; not_passed = omega arith; payload = 0; explicit = refl; gapless = refl };
    untouched = refl;
    highest = λ v some. tests me v some;
  },
)

each_ran : (i : ℕ) (s : Execution ℕ ℕ ℕ) → slice_get with_second_leader i ≡ Some (Honest s) → (i < 4) × (s ≡ idle i)
each_ran zero s at = (omega arith, cc)
each_ran (suc zero) s at = (omega arith, cc)
each_ran (suc (suc zero)) s at = (omega arith, cc)
each_ran (suc (suc (suc zero))) s at = absurd (cc)
each_ran (suc (suc (suc (suc i)))) s at = absurd (cc)

pub each_lives : EachRuns nat_eq in_turn with_second_leader StandsBeforeSecond
each_lives i s at =
    (state i, subst (λ t. RunsWith nat_eq in_turn t (state i)) (sym (each_ran i s at).1) (lives i), knows i)

pub is_network : IsNetworkOf nat_eq in_turn 1 with_second_leader
is_network = record {
  few_faulty = inl (omega arith, omega arith);
  honest = λ i s at. subst (λ t. IsExecution nat_eq in_turn 1 i t) (sym (each_ran i s at).1) (idle_ran i);
  backed = λ i s c at h.
      absurd (let none = subst (λ t. Contains (trace_of t) (Accepts c)) (each_ran i s at).1 h in omega (arith, none.1));
}

pub gives_up_to_finalize : Finalizes with_second_leader 2
gives_up_to_finalize = together_they_go_on ℕ nat_eq eqb-true (λ d. eq-eqb d d refl) in_turn 1 1 0 0 1 2 0 1
    with_second_leader 7 is_network (omega arith) refl refl refl (λ bytes. refl) (idle 0, refl) each_lives
