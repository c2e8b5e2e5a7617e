-- The premises hold of some network: four members in terms of one view, one of which is faulty, which have just
-- started.
use Rattle.std.proofs.Common.{◌≡◌, refl, ap, sym, ◌∙◌, subst, ◌<◌, inl, ℕ, zero, suc, slice_get, Contains, Some, nat_eq, unwrap_or, arith}
use Rattle.std.proofs.lemmas.Bool.{eq-eqb, eqb-true}
use Rattle.simplex_member.specs.MemberFacts.{MemberFacts}
use Rattle.simplex_types.specs.Config.{Genesis}
use Rattle.simplex_voter.specs.Acceptance.{after_set_floor}
use Rattle.simplex_voter.specs.Facts.{StateFacts}
use Rattle.simplex_voter.specs.Gaps.{first_unnullified_view}
use Rattle.simplex_voter.specs.Payloads.{explicit_ancestry_payload}
use Rattle.simplex_record.specs.Check.{first_recover_error}
use Rattle.simplex_record.specs.Start.{new_state}
use Rattle.laws_safety.specs.Replicas.{Honest, IsNetworkOf}
use Rattle.laws_safety.specs.Executions.{Execution, trace_of, IsExecution}
use Rattle.laws_safety.specs.Traces.{Accepts}
use Rattle.laws_safety.specs.ScenarioSteps.{in_turn, begin_at}
use Rattle.laws_safety.proofs.networks.ScenarioSteps.{begins, ran_as_replied}
use Rattle.laws_progress.specs.ViewPositions.{BuildsOn}
use Rattle.laws_progress.specs.NetworkStates.{RunsWith, EachRuns}
use Rattle.laws_progress.specs.StartedNetworks.{idle, with_first_leader, StandsFirst, Finalizes}
use Rattle.laws_progress.proofs.networks.FreshStarts.{fresh_starts_are_finalized}

abbrev pub state : ℕ → StateFacts ℕ ℕ ℕ
state me = after_set_floor nat_eq in_turn (new_state (begin_at 1 me).setup) (Genesis 0) 0

pub idle_ran : (me : ℕ) → IsExecution nat_eq in_turn 1 me (idle me)
unfolding first_recover_error
idle_ran me = ran_as_replied 1 me (idle me) (begins 1 me (omega arith)) tt refl tt refl

pub lives : (me : ℕ) → RunsWith nat_eq in_turn (idle me) (state me)
lives me = (_, refl, refl)

knows : (me : ℕ) → StandsFirst me (state me)
unfolding explicit_ancestry_payload first_unnullified_view
knows me = (
  record { signs = refl; of_epoch = refl; elects_by = refl; members = refl; on_time = refl },
  record {
    current = refl;
    start = refl;
    round = _;
    tracked = refl;
    leads = refl;
    no_proposal = refl;
    pending = refl;
    no_vote = refl;
    no_notarization = refl;
    no_finalization = refl;
    no_verdict = refl;
    unbound = refl;
  },
  record { below = omega arith; not_passed = omega arith; payload = 0; explicit = refl; gapless = refl },
)

builds_on : (me : ℕ) → BuildsOn 0 1 (state me)
unfolding explicit_ancestry_payload
builds_on me = (0, refl)

pub each_lives : EachRuns nat_eq in_turn with_first_leader StandsFirst
each_lives zero s at = absurd (cc)
each_lives (suc zero) s at = let same : idle 1 ≡ s = cc in
    (state 1, subst (λ t. RunsWith nat_eq in_turn t (state 1)) same (lives 1), knows 1)
each_lives (suc (suc zero)) s at = let same : idle 2 ≡ s = cc in
    (state 2, subst (λ t. RunsWith nat_eq in_turn t (state 2)) same (lives 2), knows 2)
each_lives (suc (suc (suc zero))) s at = let same : idle 3 ≡ s = cc in
    (state 3, subst (λ t. RunsWith nat_eq in_turn t (state 3)) same (lives 3), knows 3)
each_lives (suc (suc (suc (suc i)))) s at = absurd (cc)

-- so is the rest except that it is a network, and it can finalize
each_ran : (i : ℕ) (s : Execution ℕ ℕ ℕ) → slice_get with_first_leader i ≡ Some (Honest s) → (i < 4) × (s ≡ idle i)
each_ran zero s at = absurd (cc)
each_ran (suc zero) s at = (omega arith, cc)
each_ran (suc (suc zero)) s at = (omega arith, cc)
each_ran (suc (suc (suc zero))) s at = (omega arith, cc)
each_ran (suc (suc (suc (suc i)))) s at = absurd (cc)

pub is_network : IsNetworkOf nat_eq in_turn 1 with_first_leader
is_network = record {
  few_faulty = inl (omega arith, omega arith);
  honest = λ i s at. subst (λ t. IsExecution nat_eq in_turn 1 i t) (sym (each_ran i s at).1) (idle_ran i);
  backed = λ i s c at h.
      absurd (let none = subst (λ t. Contains (trace_of t) (Accepts c)) (each_ran i s at).1 h in omega (arith, none.1));
}

same_builds : (s : Execution ℕ ℕ ℕ) → slice_get with_first_leader 3 ≡ Some (Honest s) → (x : StateFacts ℕ ℕ ℕ)
    → RunsWith nat_eq in_turn s x → BuildsOn 0 1 x
same_builds s at x alive =
    let there = subst (λ t. RunsWith nat_eq in_turn t x) (each_ran 3 s at).1 alive in
    let same : state 3 ≡ x = ap (λ o. unwrap_or o x) (ap (λ (m : MemberFacts ℕ ℕ ℕ). m.life) there.1 ∙ there.2) in
    subst (BuildsOn 0 1) same (builds_on 3)

pub begins_to_finalize : Finalizes with_first_leader 1
begins_to_finalize = fresh_starts_are_finalized ℕ nat_eq eqb-true (λ d. eq-eqb d d refl) in_turn 1 1 3 0 1 1
    with_first_leader 7 is_network (omega arith) refl (idle 3, refl) each_lives same_builds
