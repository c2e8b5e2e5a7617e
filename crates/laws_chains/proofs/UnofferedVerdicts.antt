-- The network whose members receive verdicts on what none offered: it keeps the premises of agreement, and has no
-- chain.
use Rattle.std.proofs.Common.{◌≡◌, refl, sym, ◌∙◌, ap, ℕ, ◌+◌, inl, inr, Bool, true, false, not, ◌||◌, ◌==◌, List, [], ◌∷◌, Contains, nat_eq, arith}
use Rattle.std.proofs.lemmas.Bool.{eqb-true, eq-eqb, false≢true}
use Rattle.simplex_types.specs.declared.types.messages.Proposal.{Proposal}
use Rattle.simplex_types.specs.declared.types.messages.Subject.TheVariants as subject
use Rattle.simplex_voter.specs.Gaps.{first_unnullified_view}
use Rattle.simplex_voter.specs.Parents.{has_valid_parent_span, ancestry_payload_for_child, parent_payload_for, find_parent, captured_parent_valid, verification_matches}
use Rattle.simplex_voter.specs.Payloads.{explicit_ancestry_payload, optimistic_ancestry_payload, is_handoff_parent, is_voted_ancestor, can_chain_on}
use Rattle.simplex_voter.specs.ProposalRequests.{propose_answer, proposed_answer}
use Rattle.simplex_voter.specs.Rules.{may_notarize, may_nullify, may_finalize, has_conflicting_nullify, required_certification_parent}
use Rattle.simplex_voter.specs.Verification.{standing}
use Rattle.simplex_voter.specs.Windows.{is_admitted, in_issuance_window}
use Rattle.simplex_record.specs.Check.{first_recover_error}
use Rattle.simplex_record.specs.Start.{Setup}
use Rattle.laws_safety.specs.Agreement.{Chain}
use Rattle.laws_safety.specs.AheadNetwork.{three}
use Rattle.laws_safety.specs.Executions.{Execution, trace_of, BeginsAs, IsExecution}
use Rattle.laws_safety.specs.Replicas.{FewFaulty, MayHaveSigned, Backed, IsNetworkOf}
use Rattle.laws_safety.specs.ScenarioSteps.{in_turn, two}
use Rattle.laws_safety.specs.Traces.{TraceEvent, Signs}
use Rattle.laws_safety.proofs.agreement.Claims.{one_proposal}
use Rattle.laws_safety.proofs.networks.Continuations.{AreExecutions, network_of, backed_so, each_one, each_one-true}
use Rattle.laws_safety.proofs.networks.ScenarioSteps.{replied_in, ran_as_replied}
use Rattle.laws_chains.specs.Chains.{lowest_parent}
use Rattle.laws_chains.specs.Parents.{EachLifetime, HandoffsAreWitnessed}
use Rattle.laws_chains.specs.UnofferedVerdicts.{long_start, unoffering, unoffered, NoFirstNotarized, ReachesNoGenesis}
use Rattle.laws_chains.proofs.ViewsAhead.{AllOf, each_of, one_life}
use Rattle.laws_chains.proofs.Quorums.{two_from}

first_replied : replied_in (unoffering 0) ≡ (unoffering 0).replies
unfolding standing propose_answer proposed_answer find_parent captured_parent_valid has_valid_parent_span
    ancestry_payload_for_child first_unnullified_view explicit_ancestry_payload optimistic_ancestry_payload
    is_handoff_parent is_voted_ancestor can_chain_on in_issuance_window is_admitted verification_matches
    parent_payload_for may_notarize may_nullify may_finalize has_conflicting_nullify required_certification_parent
first_replied = refl

second_replied : replied_in (unoffering 1) ≡ (unoffering 1).replies
unfolding standing propose_answer proposed_answer find_parent captured_parent_valid has_valid_parent_span
    ancestry_payload_for_child first_unnullified_view explicit_ancestry_payload optimistic_ancestry_payload
    is_handoff_parent is_voted_ancestor can_chain_on in_issuance_window is_admitted verification_matches
    parent_payload_for may_notarize may_nullify may_finalize has_conflicting_nullify required_certification_parent
second_replied = refl

third_replied : replied_in (unoffering 2) ≡ (unoffering 2).replies
unfolding standing propose_answer proposed_answer find_parent captured_parent_valid has_valid_parent_span
    ancestry_payload_for_child first_unnullified_view explicit_ancestry_payload optimistic_ancestry_payload
    is_handoff_parent is_voted_ancestor can_chain_on in_issuance_window is_admitted verification_matches
    parent_payload_for may_notarize may_nullify may_finalize has_conflicting_nullify required_certification_parent
third_replied = refl

begins : (me : ℕ) → BeginsAs 3 me (long_start me).setup
begins me = record { terms = record { terms = refl; some = omega arith }; signs_as = inl refl }

first_ran : IsExecution nat_eq in_turn 3 0 (unoffering 0)
unfolding first_recover_error
first_ran = ran_as_replied 3 0 (unoffering 0) (begins 0) tt refl tt first_replied

second_ran : IsExecution nat_eq in_turn 3 1 (unoffering 1)
unfolding first_recover_error
second_ran = ran_as_replied 3 1 (unoffering 1) (begins 1) tt refl tt second_replied

third_ran : IsExecution nat_eq in_turn 3 2 (unoffering 2)
unfolding first_recover_error
third_ran = ran_as_replied 3 2 (unoffering 2) (begins 2) tt refl tt third_replied

few : FewFaulty unoffered
few = inl (omega arith, omega arith)

all_ran : AreExecutions in_turn 3 0 unoffered
all_ran = (first_ran, (second_ran, (third_ran, tt)))

pub unoffered_network : IsNetworkOf nat_eq in_turn 3 unoffered
unoffered_network = network_of in_turn 3 unoffered few all_ran refl

pub unoffered_finalized : Backed unoffered (subject.Finalize three)
unoffered_finalized = backed_so unoffered (subject.Finalize three) refl

two_notarized : Backed unoffered (subject.Notarize two)
two_notarized = backed_so unoffered (subject.Notarize two) refl

abbrev SetUpAlike : Setup ℕ ℕ → Type 0
SetUpAlike setup = (setup.elector ≡ 3) × (setup.settings.epoch ≡ 1)

pub unoffered_witnessed : HandoffsAreWitnessed unoffered
unoffered_witnessed = inr (
  (
    3,
    1,
    each_of (EachLifetime SetUpAlike) unoffered (
      one_life SetUpAlike (unoffering 0) tt (refl, refl),
      (one_life SetUpAlike (unoffering 1) tt (refl, refl), (one_life SetUpAlike (unoffering 2) tt (refl, refl), tt)),
    ),
  ),
  omega arith,
)

-- in view 1 a member votes for its own proposal

abbrev is_own : TraceEvent ℕ → Bool
is_own (Signs i (subject.Notarize q)) = not (q.round.view == 1) || (q.payload == 11 + i)
is_own _ = true

abbrev VotesOwn : Execution ℕ ℕ ℕ → Type 0
VotesOwn s = (i : ℕ) (q : Proposal ℕ) → q.round.view ≡ 1 → Contains (trace_of s) (Signs i (subject.Notarize q))
    → q.payload ≡ 11 + i

own_so : (s : Execution ℕ ℕ ℕ) → each_one is_own (trace_of s) ≡ true → VotesOwn s
own_so s all i q first h = eqb-true q.payload (11 + i)
    (by_view (q.round.view == 1) (eq-eqb q.round.view 1 first)
    (each_one-true is_own (trace_of s) all (Signs i (subject.Notarize q)) h))
  where
    by_view : (b : Bool) → b ≡ true → (not b || (q.payload == 11 + i)) ≡ true → (q.payload == 11 + i) ≡ true
    by_view true is holds = holds
    by_view false is holds = absurd (false≢true is)

all_own : AllOf VotesOwn unoffered
all_own = (own_so (unoffering 0) refl, (own_so (unoffering 1) refl, (own_so (unoffering 2) refl, tt)))

pub none_first : NoFirstNotarized
none_first q first notarized =
    let voters = two_from (MayHaveSigned (subject.Notarize q)) 0 3 unoffered notarized (omega arith) in
    let one = each_of VotesOwn unoffered all_own voters.one.place voters.one.s voters.one.at voters.one.index q first
    voters.one.has in
    let other = each_of VotesOwn unoffered all_own voters.two.place voters.two.s voters.two.at voters.two.index q first
    voters.two.has in
    omega (arith, one, other, voters.apart)

pub reaches_no_genesis : ReachesNoGenesis
reaches_no_genesis to_genesis = by_below to_genesis.below to_genesis.chain to_genesis.genesis
  where
    is_two : (q : Proposal ℕ) → 2 ≡ q.round.view → Backed unoffered (subject.Notarize q) → q.parent ≡ 1
    is_two q at notarized = ap (λ (k : Proposal ℕ). k.parent)
        (one_proposal nat_eq eqb-true in_turn 3 unoffered unoffered_network q two (inl notarized) (inl two_notarized)
        (sym at))

    by_rest : (q : Proposal ℕ) (rest : List (Proposal ℕ)) → 2 ≡ q.round.view → Chain unoffered (q ∷ rest)
        → lowest_parent q rest ≡ 0 → ⊥
    by_rest q [] at chain low = (let first = is_two q at chain in omega (arith, first, low))
    by_rest q (r ∷ []) at chain low = none_first r (sym chain.1 ∙ is_two q at chain.0) chain.2
    by_rest q (r ∷ (t ∷ more)) at chain low = none_first r (sym chain.1 ∙ is_two q at chain.0) chain.2.0

    by_below : (below : List (Proposal ℕ)) → Chain unoffered (three ∷ below) → lowest_parent three below ≡ 0 → ⊥
    by_below [] chain low = omega (arith, low)
    by_below (q ∷ rest) chain low = by_rest q rest chain.1 chain.2 low
