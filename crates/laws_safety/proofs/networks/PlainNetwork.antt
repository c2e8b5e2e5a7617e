-- For `plain_members_agree`.
-- The network of plain parts keeps the premises.
use Rattle.std.proofs.Common.{◌≡◌, refl, subst, ℕ, zero, suc, inl, Bool, [], ◌∷◌, slice_get, Contains, Some, None, arith}
use Rattle.std.specs.Str.{bytes_eq}
use Rattle.simplex_types.specs.Plain.{leader_in_turn, members_of}
use Rattle.simplex_types.specs.declared.types.messages.Subject.{Subject}
use Rattle.simplex_types.specs.declared.types.messages.Subject.TheVariants as subject
use Rattle.simplex_types.specs.declared.types.plain.PlainDigest.{PlainDigest}
use Rattle.simplex_types.specs.declared.types.plain.PlainElector.{PlainElector}
use Rattle.simplex_voter.specs.Facts.{Elect}
use Rattle.simplex_voter.specs.Gaps.{first_unnullified_view}
use Rattle.simplex_voter.specs.Parents.{has_valid_parent_span, ancestry_payload_for_child, parent_payload_for, find_parent, captured_parent_valid, verification_matches}
use Rattle.simplex_voter.specs.Payloads.{explicit_ancestry_payload, optimistic_ancestry_payload, is_handoff_parent, is_voted_ancestor, can_chain_on}
use Rattle.simplex_voter.specs.ProposalRequests.{propose_answer, proposed_answer}
use Rattle.simplex_voter.specs.Rules.{may_notarize, may_nullify, may_finalize, has_conflicting_nullify, required_certification_parent}
use Rattle.simplex_voter.specs.Verification.{standing}
use Rattle.simplex_voter.specs.Windows.{is_admitted, in_issuance_window}
use Rattle.simplex_record.specs.Check.{first_recover_error}
use Rattle.laws_safety.specs.Traces.{Accepts}
use Rattle.laws_safety.specs.Replicas.{Honest, Backed, IsNetworkOf}
use Rattle.laws_safety.specs.PlainNetwork.{plain_first, plain_proposer, plain_follower, plain_four, PlainExecution}
use Rattle.laws_safety.specs.Executions.{trace_of, IsExecution}
use Rattle.laws_safety.proofs.networks.ComputedRuns.{fits_run_from, each_begins, replied_from}

-- payloads are the same if their bytes are, and the members lead round-robin
abbrev same : PlainDigest → PlainDigest → Bool
same d e = bytes_eq d.bytes e.bytes

abbrev in_turn : Elect PlainElector
in_turn elector round seed = leader_in_turn elector round.view

-- four members, in terms of five views
pub elector : PlainElector
elector = record {
  count = 4;
  terms = record { term_length = 5; optimistic_views = 0; stall_timeout = None };
  has_members = omega arith;
  in_range = omega arith;
}

pub payload : PlainDigest
payload = record { bytes = 0 ∷ 0 ∷ 0 ∷ 0 ∷ 0 ∷ 0 ∷ 0 ∷ 7 ∷ []; sized = refl }

leader_replied : replied_from same in_turn (plain_proposer elector payload) ≡ (plain_proposer elector payload).replies
unfolding elector payload standing propose_answer proposed_answer find_parent captured_parent_valid
    has_valid_parent_span ancestry_payload_for_child first_unnullified_view explicit_ancestry_payload
    optimistic_ancestry_payload is_handoff_parent is_voted_ancestor can_chain_on in_issuance_window is_admitted
    verification_matches parent_payload_for may_notarize may_nullify may_finalize has_conflicting_nullify
    required_certification_parent
leader_replied = refl

follower_replied_1 : replied_from same in_turn (plain_follower elector payload 1)
    ≡ (plain_follower elector payload 1).replies
unfolding elector payload standing has_valid_parent_span ancestry_payload_for_child first_unnullified_view
    explicit_ancestry_payload optimistic_ancestry_payload is_handoff_parent is_voted_ancestor can_chain_on
    in_issuance_window is_admitted verification_matches parent_payload_for may_notarize may_nullify may_finalize
    has_conflicting_nullify required_certification_parent
follower_replied_1 = refl

follower_replied_2 : replied_from same in_turn (plain_follower elector payload 2)
    ≡ (plain_follower elector payload 2).replies
unfolding elector payload standing has_valid_parent_span ancestry_payload_for_child first_unnullified_view
    explicit_ancestry_payload optimistic_ancestry_payload is_handoff_parent is_voted_ancestor can_chain_on
    in_issuance_window is_admitted verification_matches parent_payload_for may_notarize may_nullify may_finalize
    has_conflicting_nullify required_certification_parent
follower_replied_2 = refl

leader_ran : IsExecution same in_turn 5 0 (plain_proposer elector payload)
unfolding elector payload first_recover_error
leader_ran = record {
  lives = record {
    first = record { terms = record { terms = refl; some = omega arith }; signs_as = inl refl };
    later = each_begins 5 0 (plain_proposer elector payload).steps tt;
  };
  run = fits_run_from same in_turn (plain_proposer elector payload) refl tt leader_replied;
}

follower_ran : (me : ℕ) → replied_from same in_turn
    (plain_follower elector payload me) ≡ (plain_follower elector payload me).replies
    → IsExecution same in_turn 5 me (plain_follower elector payload me)
unfolding elector payload first_recover_error
follower_ran me replied = record {
  lives = record {
    first = record { terms = record { terms = refl; some = omega arith }; signs_as = inl refl };
    later = each_begins 5 me (plain_follower elector payload me).steps tt;
  };
  run = fits_run_from same in_turn (plain_follower elector payload me) refl tt replied;
}

abbrev PlainBack : Subject PlainDigest → Type 0
PlainBack c = Backed (plain_four elector payload) c

notarized : PlainBack (subject.Notarize (plain_first payload))
notarized = inl ((0, omega arith, refl), inl ((0, omega arith, refl), inl ((0, omega arith, refl), tt)))

pub plain_finalized : PlainBack (subject.Finalize (plain_first payload))
plain_finalized = inl ((2, omega arith, refl), inl ((2, omega arith, refl), inl ((2, omega arith, refl), tt)))

-- each honest member accepts the notarization and the finalization of view 1

leader_accepts : (c : Subject PlainDigest) → Contains (trace_of (plain_proposer elector payload)) (Accepts c)
    → PlainBack c
leader_accepts c (zero, less, at) = absurd (cc)
leader_accepts c (suc zero, less, at) =
    (let e : subject.Notarize (plain_first payload) ≡ c = cc in subst PlainBack e notarized)
leader_accepts c (suc (suc zero), less, at) = absurd (cc)
leader_accepts c (suc (suc (suc zero)), less, at) =
    (let e : subject.Finalize (plain_first payload) ≡ c = cc in subst PlainBack e plain_finalized)
leader_accepts c (suc (suc (suc (suc k))), less, at) = absurd (omega arith)

follower_accepts : (me : ℕ) (c : Subject PlainDigest)
    → Contains (trace_of (plain_follower elector payload me)) (Accepts c) → PlainBack c
follower_accepts me c (zero, less, at) = absurd (cc)
follower_accepts me c (suc zero, less, at) =
    (let e : subject.Notarize (plain_first payload) ≡ c = cc in subst PlainBack e notarized)
follower_accepts me c (suc (suc zero), less, at) = absurd (cc)
follower_accepts me c (suc (suc (suc zero)), less, at) =
    (let e : subject.Finalize (plain_first payload) ≡ c = cc in subst PlainBack e plain_finalized)
follower_accepts me c (suc (suc (suc (suc k))), less, at) = absurd (omega arith)

plain_replicas : (P : ℕ → PlainExecution → Type 0) → P 0 (plain_proposer elector payload)
    → P 1 (plain_follower elector payload 1) → P 2 (plain_follower elector payload 2) → (i : ℕ) (s : PlainExecution)
    → slice_get (plain_four elector payload) i ≡ Some (Honest s) → P i s
plain_replicas P a b c zero s is = (let e : plain_proposer elector payload ≡ s = cc in subst (λ t. P 0 t) e a)
plain_replicas P a b c (suc zero) s is = (let e : plain_follower elector payload 1 ≡ s = cc in subst (λ t. P 1 t) e b)
plain_replicas P a b c (suc (suc zero)) s is =
    (let e : plain_follower elector payload 2 ≡ s = cc in subst (λ t. P 2 t) e c)
plain_replicas P a b c (suc (suc (suc zero))) s is = absurd (cc)
plain_replicas P a b c (suc (suc (suc (suc k)))) s is = absurd (cc)

pub plain_network : IsNetworkOf same in_turn 5 (plain_four elector payload)
plain_network = record {
  few_faulty = inl (omega arith, omega arith);
  honest = plain_replicas (λ i s. IsExecution same in_turn 5 i s) leader_ran (follower_ran 1 follower_replied_1)
      (follower_ran 2 follower_replied_2);
  backed = λ i s c at h. plain_replicas (λ j t. (d : Subject PlainDigest) → Contains (trace_of t) (Accepts d)
      → PlainBack d) leader_accepts (follower_accepts 1) (follower_accepts 2) i s at c h;
}

pub four_members : members_of elector ≡ 4
unfolding elector
four_members = refl
