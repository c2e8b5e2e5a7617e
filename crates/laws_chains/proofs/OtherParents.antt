-- The network whose members vote for a proposal on payloads of two parents: it is computed.
use Rattle.std.proofs.Common.{◌≡◌, refl, sym, ◌∙◌, ap, ℕ, inl, inr, ◌==◌, if◌then◌else◌, List, [], ◌∷◌, Contains, nat_eq, arith}
use Rattle.std.proofs.lemmas.Bool.{eqb-true}
use Rattle.simplex_types.specs.declared.types.messages.Proposal.{Proposal}
use Rattle.simplex_types.specs.declared.types.messages.Subject.TheVariants as subject
use Rattle.simplex_voter.specs.Gaps.{first_unnullified_view}
use Rattle.simplex_voter.specs.Parents.{has_valid_parent_span, ancestry_payload_for_child, parent_payload_for, find_parent, captured_parent_valid, verification_matches}
use Rattle.simplex_voter.specs.Payloads.{explicit_ancestry_payload, optimistic_ancestry_payload, is_handoff_parent, is_voted_ancestor, can_chain_on}
use Rattle.simplex_voter.specs.ProposalRequests.{propose_answer, proposed_answer}
use Rattle.simplex_voter.specs.Rules.{may_notarize, may_nullify, may_finalize, has_conflicting_nullify, required_certification_parent}
use Rattle.simplex_voter.specs.Verification.{standing}
use Rattle.simplex_voter.specs.Windows.{is_admitted, in_issuance_window}
use Rattle.simplex_record.specs.Check.{first_recover_error}
use Rattle.laws_safety.specs.Executions.{BeginsAs, IsExecution}
use Rattle.laws_safety.specs.Replicas.{FewFaulty, Backed, IsNetworkOf}
use Rattle.laws_safety.specs.ScenarioSteps.{in_turn, two}
use Rattle.laws_safety.specs.Traces.{Signs}
use Rattle.laws_safety.proofs.agreement.Claims.{one_proposal}
use Rattle.laws_safety.proofs.networks.Continuations.{AreExecutions, network_of, backed_so}
use Rattle.laws_safety.proofs.networks.ScenarioSteps.{replied_in, ran_as_replied}
use Rattle.simplex_voter.specs.declared.voter.verify.Verify.TheVariants.{Ready}
use Rattle.simplex_member.specs.Calls.{ReplyFacts, Standing}
use Rattle.laws_safety.proofs.lists.Splits.{Contains-cases}
use Rattle.laws_safety.proofs.networks.Continuations.{done}
use Rattle.laws_chains.specs.UnofferedVerdicts.{long_start, first_of}
use Rattle.laws_chains.specs.OtherParents.{asked_on, misled, led, verified_apart, ParentIsTwelve, VerifiedOnEleven}

misled_replied : replied_in misled ≡ misled.replies
unfolding standing propose_answer proposed_answer find_parent captured_parent_valid has_valid_parent_span
    ancestry_payload_for_child first_unnullified_view explicit_ancestry_payload optimistic_ancestry_payload
    is_handoff_parent is_voted_ancestor can_chain_on in_issuance_window is_admitted verification_matches
    parent_payload_for may_notarize may_nullify may_finalize has_conflicting_nullify required_certification_parent
misled_replied = refl

one_replied : replied_in (led 1) ≡ (led 1).replies
unfolding standing propose_answer proposed_answer find_parent captured_parent_valid has_valid_parent_span
    ancestry_payload_for_child first_unnullified_view explicit_ancestry_payload optimistic_ancestry_payload
    is_handoff_parent is_voted_ancestor can_chain_on in_issuance_window is_admitted verification_matches
    parent_payload_for may_notarize may_nullify may_finalize has_conflicting_nullify required_certification_parent
one_replied = refl

two_replied : replied_in (led 2) ≡ (led 2).replies
unfolding standing propose_answer proposed_answer find_parent captured_parent_valid has_valid_parent_span
    ancestry_payload_for_child first_unnullified_view explicit_ancestry_payload optimistic_ancestry_payload
    is_handoff_parent is_voted_ancestor can_chain_on in_issuance_window is_admitted verification_matches
    parent_payload_for may_notarize may_nullify may_finalize has_conflicting_nullify required_certification_parent
two_replied = refl

begins : (me : ℕ) → BeginsAs 3 me (long_start me).setup
begins me = record { terms = record { terms = refl; some = omega arith }; signs_as = inl refl }

misled_ran : IsExecution nat_eq in_turn 3 0 misled
unfolding first_recover_error
misled_ran = ran_as_replied 3 0 misled (begins 0) tt refl tt misled_replied

one_ran : IsExecution nat_eq in_turn 3 1 (led 1)
unfolding first_recover_error
one_ran = ran_as_replied 3 1 (led 1) (begins 1) tt refl tt one_replied

two_ran : IsExecution nat_eq in_turn 3 2 (led 2)
unfolding first_recover_error
two_ran = ran_as_replied 3 2 (led 2) (begins 2) tt refl tt two_replied

few : FewFaulty verified_apart
few = inl (omega arith, omega arith)

all_ran : AreExecutions in_turn 3 0 verified_apart
all_ran = (misled_ran, (one_ran, (two_ran, tt)))

pub apart_network : IsNetworkOf nat_eq in_turn 3 verified_apart
apart_network = network_of in_turn 3 verified_apart few all_ran refl

pub apart_finalized : Backed verified_apart (subject.Finalize two)
apart_finalized = backed_so verified_apart (subject.Finalize two) refl

first_notarized : Backed verified_apart (subject.Notarize (first_of 1))
first_notarized = backed_so verified_apart (subject.Notarize (first_of 1)) refl

pub parent_is_twelve : ParentIsTwelve
parent_is_twelve q at notarized = ap (λ (k : Proposal ℕ). k.payload)
    (one_proposal nat_eq eqb-true in_turn 3 verified_apart apart_network q (first_of 1) (inl notarized)
    (inl first_notarized) at)

-- the payload that a reply asks to verify view 2 on
abbrev payload_in : ReplyFacts ℕ ℕ → ℕ
payload_in (Standing (Ready context p)) = if p.round.view == 2 then context.parent.1 else 11
payload_in _ = 11

abbrev AllEleven : List (ReplyFacts ℕ ℕ) → Type 0
AllEleven [] = Unit {0}
AllEleven (replied ∷ replies) = (payload_in replied ≡ 11) × AllEleven replies

each_eleven : (replies : List (ReplyFacts ℕ ℕ)) → AllEleven replies → (replied : ReplyFacts ℕ ℕ)
    → Contains replies replied
    → payload_in replied ≡ 11
each_eleven [] all replied h = absurd (omega (arith, h.1))
each_eleven (first ∷ replies) all replied h = elim (Contains-cases first replies replied h) [
  | inl here ↦ ap payload_in (sym here) ∙ all.0
  | inr later ↦ each_eleven replies all.1 replied later
]

eleven_all : AllEleven misled.replies
eleven_all = (
  refl,
  (refl, (refl, (refl, (refl, (refl, (refl, (refl, (refl, (refl, (refl, (refl, (refl, (refl, (refl, tt)))))))))))))),
)

pub verified_on_eleven : VerifiedOnEleven
verified_on_eleven = (
  done (Signs 0 (subject.Notarize two)) misled refl,
  done (Signs 0 (subject.Finalize two)) misled refl,
  (5, omega arith, refl),
  λ payload h. each_eleven misled.replies eleven_all (Standing (Ready (asked_on payload) two)) h,
)
