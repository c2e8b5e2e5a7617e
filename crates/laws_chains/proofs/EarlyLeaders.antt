-- The network whose members elect apart keeps the premises of agreement, and its finalized proposal has no parent.
use Rattle.std.proofs.Common.{◌≡◌, refl, ℕ, ◌+◌, inl, inr, Bool, true, false, not, ◌||◌, ◌==◌, List, [], ◌∷◌, Contains, nat_eq, arith}
use Rattle.std.proofs.lemmas.Bool.{eqb-true, eq-eqb, false≢true}
use Rattle.simplex_types.specs.Certificates.{Notarized, ArtifactFacts, NotarizeVote, Verdict, Accepted}
use Rattle.simplex_types.specs.declared.types.messages.Proposal.{Proposal}
use Rattle.simplex_types.specs.declared.types.messages.Subject.TheVariants as subject
use Rattle.simplex_voter.specs.Gaps.{first_unnullified_view}
use Rattle.simplex_voter.specs.Parents.{has_valid_parent_span, ancestry_payload_for_child, parent_payload_for, find_parent, captured_parent_valid, verification_matches}
use Rattle.simplex_voter.specs.Payloads.{explicit_ancestry_payload, optimistic_ancestry_payload, is_handoff_parent, is_voted_ancestor, can_chain_on}
use Rattle.simplex_voter.specs.ProposalRequests.{propose_answer, proposed_answer}
use Rattle.simplex_voter.specs.Rules.{may_notarize, may_nullify, may_finalize, has_conflicting_nullify, required_certification_parent}
use Rattle.simplex_voter.specs.Verification.{standing}
use Rattle.simplex_voter.specs.Windows.{is_admitted, in_issuance_window}
use Rattle.simplex_record.specs.Check.{first_recover_error}
use Rattle.simplex_record.specs.Cuts.{may_drop, pruned_entries}
use Rattle.simplex_record.specs.Entries.{entry_view}
use Rattle.simplex_record.specs.Recovery.{recovered_state, after_kept_entry}
use Rattle.laws_safety.specs.AheadNetwork.{three}
use Rattle.laws_safety.specs.Executions.{Execution, trace_of, BeginsAs, IsExecution}
use Rattle.laws_safety.specs.Replicas.{FewFaulty, MayHaveSigned, Backed, IsNetworkOf}
use Rattle.laws_safety.specs.ScenarioSteps.{round, one, certificate, in_turn}
use Rattle.laws_safety.specs.Traces.{TraceEvent, Signs}
use Rattle.laws_safety.proofs.agreement.Claims.{finalized_notarized}
use Rattle.laws_safety.proofs.networks.ComputedRuns.{rises}
use Rattle.laws_safety.proofs.networks.Continuations.{AreExecutions, network_of, backed_so, each_one, each_one-true}
use Rattle.laws_safety.proofs.networks.ScenarioSteps.{replied_in, FitsIn, ran_as_replied}
use Rattle.laws_progress.specs.ViewCauses.{judged_of}
use Rattle.laws_chains.specs.Chains.{WasOffered, VerdictsAreOnOffers}
use Rattle.laws_chains.specs.EarlyLeaders.{elects_by, second_of, leading_early, idle, both_lead_early, HasNoParent}
use Rattle.laws_chains.proofs.ViewsAhead.{AllOf, each_of, each_judged}
use Rattle.laws_chains.proofs.Quorums.{two_from}

first_replied : replied_in (leading_early 2 0) ≡ (leading_early 2 0).replies
unfolding first_recover_error recovered_state after_kept_entry may_drop pruned_entries standing propose_answer
    proposed_answer find_parent captured_parent_valid has_valid_parent_span ancestry_payload_for_child
    first_unnullified_view explicit_ancestry_payload optimistic_ancestry_payload is_handoff_parent is_voted_ancestor
    can_chain_on in_issuance_window is_admitted verification_matches parent_payload_for may_notarize may_nullify
    may_finalize has_conflicting_nullify required_certification_parent
first_replied = refl

second_replied : replied_in (leading_early 1 1) ≡ (leading_early 1 1).replies
unfolding first_recover_error recovered_state after_kept_entry may_drop pruned_entries standing propose_answer
    proposed_answer find_parent captured_parent_valid has_valid_parent_span ancestry_payload_for_child
    first_unnullified_view explicit_ancestry_payload optimistic_ancestry_payload is_handoff_parent is_voted_ancestor
    can_chain_on in_issuance_window is_admitted verification_matches parent_payload_for may_notarize may_nullify
    may_finalize has_conflicting_nullify required_certification_parent
second_replied = refl

-- the record at the restart
abbrev votes_of : ℕ → List (ArtifactFacts ℕ)
votes_of me =
    NotarizeVote one me
    ∷ Accepted (Notarized (certificate one))
    ∷ Verdict (round 1) true
    ∷ NotarizeVote (second_of me) me
    ∷ NotarizeVote three me
    ∷ []

first_fits : FitsIn (leading_early 2 0)
unfolding first_recover_error recovered_state after_kept_entry may_drop pruned_entries standing propose_answer
    proposed_answer find_parent captured_parent_valid has_valid_parent_span ancestry_payload_for_child
    first_unnullified_view explicit_ancestry_payload optimistic_ancestry_payload is_handoff_parent is_voted_ancestor
    can_chain_on in_issuance_window is_admitted verification_matches parent_payload_for may_notarize may_nullify
    may_finalize has_conflicting_nullify required_certification_parent
first_fits = (rises entry_view 0 (votes_of 0) refl, tt)

second_fits : FitsIn (leading_early 1 1)
unfolding first_recover_error recovered_state after_kept_entry may_drop pruned_entries standing propose_answer
    proposed_answer find_parent captured_parent_valid has_valid_parent_span ancestry_payload_for_child
    first_unnullified_view explicit_ancestry_payload optimistic_ancestry_payload is_handoff_parent is_voted_ancestor
    can_chain_on in_issuance_window is_admitted verification_matches parent_payload_for may_notarize may_nullify
    may_finalize has_conflicting_nullify required_certification_parent
second_fits = (rises entry_view 0 (votes_of 1) refl, tt)

begins : (elector me : ℕ) → BeginsAs 2 me (elects_by elector me).setup
begins elector me = record { terms = record { terms = refl; some = omega arith }; signs_as = inl refl }

first_ran : IsExecution nat_eq in_turn 2 0 (leading_early 2 0)
unfolding first_recover_error
first_ran = ran_as_replied 2 0 (leading_early 2 0) (begins 2 0) (begins 7 0, tt) refl first_fits first_replied

second_ran : IsExecution nat_eq in_turn 2 1 (leading_early 1 1)
unfolding first_recover_error
second_ran = ran_as_replied 2 1 (leading_early 1 1) (begins 1 1) (begins 7 1, tt) refl second_fits second_replied

idle_ran : IsExecution nat_eq in_turn 2 2 idle
unfolding first_recover_error
idle_ran = ran_as_replied 2 2 idle (begins 2 2) tt refl tt refl

few : FewFaulty both_lead_early
few = inl (omega arith, omega arith)

all_ran : AreExecutions in_turn 2 0 both_lead_early
all_ran = (first_ran, (second_ran, (idle_ran, tt)))

pub early_network : IsNetworkOf nat_eq in_turn 2 both_lead_early
early_network = network_of in_turn 2 both_lead_early few all_ran refl

pub early_finalized : Backed both_lead_early (subject.Finalize three)
early_finalized = backed_so both_lead_early (subject.Finalize three) refl

abbrev OnOffers : Execution ℕ ℕ ℕ → Type 0
OnOffers s = (q : Proposal ℕ) → Contains (judged_of s) (true, q) → WasOffered q s

offers_three : (elector me : ℕ) → OnOffers (leading_early elector me)
offers_three elector me = each_judged (λ q. WasOffered q (leading_early elector me))
    (judged_of (leading_early elector me)) (
      (one ∷ [], [], (5, omega arith, refl), (0, omega arith, refl)),
      ((three ∷ [], [], (16, omega arith, refl), (0, omega arith, refl)), tt),
    )

pub early_offers : VerdictsAreOnOffers both_lead_early
early_offers = each_of OnOffers both_lead_early
    (offers_three 2 0, (offers_three 1 1, (each_judged (λ q. WasOffered q idle) (judged_of idle) tt, tt)))

-- in view 2 a member votes for its own proposal

abbrev is_own : TraceEvent ℕ → Bool
is_own (Signs i (subject.Notarize q)) = not (q.round.view == 2) || (q.payload == 20 + i)
is_own _ = true

abbrev VotesOwn : Execution ℕ ℕ ℕ → Type 0
VotesOwn s = (i : ℕ) (q : Proposal ℕ) → q.round.view ≡ 2 → Contains (trace_of s) (Signs i (subject.Notarize q))
    → q.payload ≡ 20 + i

own_so : (s : Execution ℕ ℕ ℕ) → each_one is_own (trace_of s) ≡ true → VotesOwn s
own_so s all i q second h = eqb-true q.payload (20 + i)
    (by_view (q.round.view == 2) (eq-eqb q.round.view 2 second)
    (each_one-true is_own (trace_of s) all (Signs i (subject.Notarize q)) h))
  where
    by_view : (b : Bool) → b ≡ true → (not b || (q.payload == 20 + i)) ≡ true → (q.payload == 20 + i) ≡ true
    by_view true is holds = holds
    by_view false is holds = absurd (false≢true is)

all_own : AllOf VotesOwn both_lead_early
all_own = (own_so (leading_early 2 0) refl, (own_so (leading_early 1 1) refl, (own_so idle refl, tt)))

none_second : (q : Proposal ℕ) → q.round.view ≡ 2 → Backed both_lead_early (subject.Notarize q) → ⊥
none_second q second notarized =
    let voters = two_from (MayHaveSigned (subject.Notarize q)) 0 3 both_lead_early notarized (omega arith) in
    let first = each_of VotesOwn both_lead_early all_own voters.one.place voters.one.s voters.one.at voters.one.index q
    second voters.one.has in
    let other = each_of VotesOwn both_lead_early all_own voters.two.place voters.two.s voters.two.at voters.two.index q
    second voters.two.has in
    omega (arith, first, other, voters.apart)

pub no_parent : HasNoParent
no_parent (q, second, inl finalized) = none_second q second
    (finalized_notarized nat_eq eqb-true in_turn 2 both_lead_early early_network q finalized)
no_parent (q, second, inr (notarized, certified)) = none_second q second notarized
