-- For `contradictions_are_answered_for`, `restarts_are_runs`, `skipped_views_are_agreed_on`, `terms_are_agreed_on`.
-- The scripts are runs.
use Rattle.std.proofs.Common.{◌≡◌, refl, subst, ℕ, zero, suc, ◌<◌, inl, inr, true, List, [], ◌∷◌, Contains, Some, slice_get, nat_eq, arith}
use Rattle.simplex_types.specs.Certificates.{ArtifactFacts, NotarizeVote, FinalizeVote, Verdict, Accepted, Notarized, Finalized as CertifiedFinal}
use Rattle.simplex_types.specs.Config.{FloorFacts, Genesis, Finalized}
use Rattle.simplex_types.specs.declared.types.messages.Subject.{Subject}
use Rattle.simplex_types.specs.declared.types.messages.Subject.TheVariants as subject
use Rattle.simplex_voter.specs.Windows.{is_admitted, in_issuance_window}
use Rattle.simplex_voter.specs.Gaps.{first_unnullified_view}
use Rattle.simplex_voter.specs.Payloads.{explicit_ancestry_payload}
use Rattle.simplex_voter.specs.Parents.{has_valid_parent_span, ancestry_payload_for_child, parent_payload_for, verification_matches}
use Rattle.simplex_voter.specs.Rules.{may_notarize, may_nullify, may_finalize, has_conflicting_nullify, required_certification_parent}
use Rattle.simplex_voter.specs.Verification.{standing}
use Rattle.simplex_record.specs.Check.{first_recover_error}
use Rattle.simplex_record.specs.Cuts.{may_drop, pruned_entries}
use Rattle.simplex_record.specs.Entries.{entry_view}
use Rattle.simplex_record.specs.Recovery.{recovered_state, after_kept_entry}
use Rattle.laws_safety.specs.Replicas.{Honest, Backed, IsNetworkOf}
use Rattle.laws_safety.specs.Accountability.{AcceptCertified, MayBeCertified, HasAcceptedNearer, IsBackedNetwork}
use Rattle.laws_safety.specs.Scripts.{leader, start_at, impatient, patient, forgetful, four, overrun, two_faced, known_of_overrun, restarting, skipping, five}
use Rattle.laws_safety.specs.ScenarioSteps.{round, proposal, certificate, one, two}
use Rattle.laws_safety.specs.Traces.{Accepts, Signs}
use Rattle.laws_safety.specs.Executions.{new_member, Execution, trace_of, BeginsAs, IsExecution}
use Rattle.laws_safety.proofs.networks.ComputedRuns.{FindsRisingRecords, fits_run_from, rises, each_begins, replied_from}

pub begins : (term_length me : ℕ) (floor : FloorFacts ℕ) → 0 < term_length
    → BeginsAs term_length me (start_at term_length floor me).setup
begins term_length me floor some = record { terms = record { terms = refl; some = some }; signs_as = inl refl }

module _ where
  impatient_replied : replied_from nat_eq leader impatient ≡ impatient.replies
  unfolding has_valid_parent_span ancestry_payload_for_child first_unnullified_view explicit_ancestry_payload
      in_issuance_window is_admitted verification_matches parent_payload_for may_notarize may_nullify may_finalize
      has_conflicting_nullify required_certification_parent
  impatient_replied = refl

  patient_replied_1 : replied_from nat_eq leader (patient 1) ≡ (patient 1).replies
  unfolding standing has_valid_parent_span ancestry_payload_for_child first_unnullified_view explicit_ancestry_payload
      in_issuance_window is_admitted verification_matches parent_payload_for may_notarize may_nullify may_finalize
      has_conflicting_nullify required_certification_parent
  patient_replied_1 = refl

  -- the record that remains at the restart of the third member
  abbrev kept : List (ArtifactFacts ℕ)
  kept = NotarizeVote one 2 ∷ Accepted (Notarized (certificate one)) ∷ Verdict (round 1) true ∷ FinalizeVote one 2 ∷ []

  forgetful_replied : replied_from nat_eq leader (forgetful) ≡ (forgetful).replies
  unfolding first_recover_error recovered_state after_kept_entry may_drop pruned_entries standing has_valid_parent_span
      ancestry_payload_for_child first_unnullified_view explicit_ancestry_payload in_issuance_window is_admitted
      verification_matches parent_payload_for may_notarize may_nullify may_finalize has_conflicting_nullify
      required_certification_parent
  forgetful_replied = refl

  forgetful_fits : FindsRisingRecords nat_eq leader (new_member nat_eq leader (forgetful).start) (forgetful).steps
  unfolding first_recover_error recovered_state after_kept_entry may_drop pruned_entries standing has_valid_parent_span
      ancestry_payload_for_child first_unnullified_view explicit_ancestry_payload in_issuance_window is_admitted
      verification_matches parent_payload_for may_notarize may_nullify may_finalize has_conflicting_nullify
      required_certification_parent
  forgetful_fits = (rises entry_view 0 kept refl, tt)

  pub forgetful_ran : IsExecution nat_eq leader 5 2 (forgetful)
  unfolding first_recover_error
  forgetful_ran = record {
    lives = record {
      first = begins 5 2 (Genesis 0) (omega arith);
      later = each_begins 5 2 (forgetful).steps (begins 5 2 (Genesis 0) (omega arith), tt);
    };
    run = fits_run_from nat_eq leader (forgetful) refl forgetful_fits forgetful_replied;
  }

  skipping_replied_0 : replied_from nat_eq leader (skipping 0) ≡ (skipping 0).replies
  unfolding standing has_valid_parent_span ancestry_payload_for_child first_unnullified_view explicit_ancestry_payload
      in_issuance_window is_admitted verification_matches parent_payload_for may_notarize may_nullify may_finalize
      has_conflicting_nullify required_certification_parent
  skipping_replied_0 = refl

  skipping_replied_1 : replied_from nat_eq leader (skipping 1) ≡ (skipping 1).replies
  unfolding standing has_valid_parent_span ancestry_payload_for_child first_unnullified_view explicit_ancestry_payload
      in_issuance_window is_admitted verification_matches parent_payload_for may_notarize may_nullify may_finalize
      has_conflicting_nullify required_certification_parent
  skipping_replied_1 = refl

  skipping_replied_2 : replied_from nat_eq leader (skipping 2) ≡ (skipping 2).replies
  unfolding standing has_valid_parent_span ancestry_payload_for_child first_unnullified_view explicit_ancestry_payload
      in_issuance_window is_admitted verification_matches parent_payload_for may_notarize may_nullify may_finalize
      has_conflicting_nullify required_certification_parent
  skipping_replied_2 = refl

  -- the record that remains at the first restart, and at each later one
  abbrev once : List (ArtifactFacts ℕ)
  once = Accepted (Notarized (certificate one)) ∷ Verdict (round 1) true ∷ FinalizeVote one 1 ∷ []

  abbrev twice : List (ArtifactFacts ℕ)
  twice = Accepted (Notarized (certificate two)) ∷ Verdict (round 2) true ∷ FinalizeVote two 1 ∷ Accepted
      (CertifiedFinal (certificate (proposal 3 2))) ∷ []

  restarting_replied : replied_from nat_eq leader restarting ≡ restarting.replies
  unfolding first_recover_error recovered_state after_kept_entry may_drop pruned_entries standing has_valid_parent_span
      ancestry_payload_for_child first_unnullified_view explicit_ancestry_payload in_issuance_window is_admitted
      verification_matches parent_payload_for may_notarize may_nullify may_finalize has_conflicting_nullify
      required_certification_parent
  restarting_replied = refl

  restarting_fits : FindsRisingRecords nat_eq leader (new_member nat_eq leader restarting.start) restarting.steps
  unfolding first_recover_error recovered_state after_kept_entry may_drop pruned_entries standing has_valid_parent_span
      ancestry_payload_for_child first_unnullified_view explicit_ancestry_payload in_issuance_window is_admitted
      verification_matches parent_payload_for may_notarize may_nullify may_finalize has_conflicting_nullify
      required_certification_parent
  restarting_fits = (rises entry_view 0 once refl, (rises entry_view 0 twice refl, (rises entry_view 0 twice refl, tt)))

  pub impatient_ran : IsExecution nat_eq leader 5 0 impatient
  unfolding first_recover_error
  impatient_ran = record {
    lives = record { first = begins 5 0 (Genesis 0) (omega arith); later = each_begins 5 0 impatient.steps tt };
    run = fits_run_from nat_eq leader impatient refl tt impatient_replied;
  }

  pub patient_ran : (me : ℕ) → replied_from nat_eq leader (patient me) ≡ (patient me).replies
      → IsExecution nat_eq leader 5 me (patient me)
  unfolding first_recover_error
  patient_ran me replied = record {
    lives = record { first = begins 5 me (Genesis 0) (omega arith); later = each_begins 5 me (patient me).steps tt };
    run = fits_run_from nat_eq leader (patient me) refl tt replied;
  }

  skipping_ran : (me : ℕ) → replied_from nat_eq leader (skipping me) ≡ (skipping me).replies
      → IsExecution nat_eq leader 1 me (skipping me)
  unfolding first_recover_error
  skipping_ran me replied = record {
    lives = record { first = begins 1 me (Genesis 0) (omega arith); later = each_begins 1 me (skipping me).steps tt };
    run = fits_run_from nat_eq leader (skipping me) refl tt replied;
  }

  pub skipping_ran_1 : IsExecution nat_eq leader 1 1 (skipping 1)
  skipping_ran_1 = skipping_ran 1 skipping_replied_1

  pub restarting_ran : IsExecution nat_eq leader 5 1 restarting
  unfolding first_recover_error
  restarting_ran = record {
    lives = record {
      first = begins 5 1 (Genesis 0) (omega arith);
      later = each_begins 5 1 restarting.steps (
        begins 5 1 (Genesis 0) (omega arith),
        (
          begins 5 1 (Genesis 0) (omega arith),
          (begins 5 1 (Finalized (certificate (proposal 4 3))) (omega arith), tt),
        ),
      );
    };
    run = fits_run_from nat_eq leader restarting refl restarting_fits restarting_replied;
  }

  -- the networks

  notarized_one : Backed four (subject.Notarize one)
  notarized_one = inr (inl ((0, omega arith, refl), inl ((0, omega arith, refl), inl (tt, tt))))

  pub finalized_one : Backed four (subject.Finalize one)
  finalized_one = inr (inl ((2, omega arith, refl), inl ((2, omega arith, refl), inl (tt, tt))))

  notarized_two : Backed four (subject.Notarize two)
  notarized_two = inr (inl ((3, omega arith, refl), inl ((5, omega arith, refl), inl (tt, tt))))

  pub finalized_two : Backed four (subject.Finalize two)
  finalized_two = inl ((4, omega arith, refl), inl ((5, omega arith, refl), inl ((7, omega arith, refl), tt)))

  abbrev FourBack : Subject ℕ → Type 0
  FourBack c = Backed four c

  -- a claim about each certificate that one accepts

  impatient_accepts : (P : Subject ℕ → Type 0) → P (subject.Notarize one) → P (subject.Notarize two)
      → P (subject.Finalize one) → (c : Subject ℕ) → Contains (trace_of impatient) (Accepts c) → P c
  impatient_accepts P n m f c (zero, less, same) = absurd (cc)
  impatient_accepts P n m f c (suc zero, less, same) = (let e : subject.Notarize one ≡ c = cc in subst P e n)
  impatient_accepts P n m f c (suc (suc zero), less, same) = (let e : subject.Notarize two ≡ c = cc in subst P e m)
  impatient_accepts P n m f c (suc (suc (suc zero)), less, same) =
      (let e : subject.Finalize one ≡ c = cc in subst P e f)
  impatient_accepts P n m f c (suc (suc (suc (suc zero))), less, same) = absurd (cc)
  impatient_accepts P n m f c (suc (suc (suc (suc (suc k)))), less, same) = absurd (omega arith)

  patient_accepts : (me : ℕ) (P : Subject ℕ → Type 0) → P (subject.Notarize one) → P (subject.Notarize two)
      → (c : Subject ℕ) → Contains (trace_of (patient me)) (Accepts c) → P c
  patient_accepts me P n m c (zero, less, same) = absurd (cc)
  patient_accepts me P n m c (suc zero, less, same) = (let e : subject.Notarize one ≡ c = cc in subst P e n)
  patient_accepts me P n m c (suc (suc zero), less, same) = absurd (cc)
  patient_accepts me P n m c (suc (suc (suc zero)), less, same) = absurd (cc)
  patient_accepts me P n m c (suc (suc (suc (suc zero))), less, same) =
      (let e : subject.Notarize two ≡ c = cc in subst P e m)
  patient_accepts me P n m c (suc (suc (suc (suc (suc zero)))), less, same) = absurd (cc)
  patient_accepts me P n m c (suc (suc (suc (suc (suc (suc k))))), less, same) = absurd (omega arith)

  forgetful_accepts : (c : Subject ℕ) → Contains (trace_of (forgetful)) (Accepts c) → FourBack c
  forgetful_accepts c (zero, less, same) = absurd (cc)
  forgetful_accepts c (suc zero, less, same) = (let e : subject.Notarize one ≡ c = cc in subst FourBack e notarized_one)
  forgetful_accepts c (suc (suc zero), less, same) = absurd (cc)
  forgetful_accepts c (suc (suc (suc zero)), less, same) =
      (let e : subject.Finalize one ≡ c = cc in subst FourBack e finalized_one)
  forgetful_accepts c (suc (suc (suc (suc zero))), less, same) =
      (let e : subject.Finalize one ≡ c = cc in subst FourBack e finalized_one)
  forgetful_accepts c (suc (suc (suc (suc (suc zero)))), less, same) = absurd (cc)
  forgetful_accepts c (suc (suc (suc (suc (suc (suc zero))))), less, same) =
      (let e : subject.Notarize two ≡ c = cc in subst FourBack e notarized_two)
  forgetful_accepts c (suc (suc (suc (suc (suc (suc (suc zero)))))), less, same) = absurd (cc)
  forgetful_accepts c (suc (suc (suc (suc (suc (suc (suc (suc k))))))), less, same) = absurd (omega arith)

  -- a claim about each honest member is one about its execution
  four_replicas : (P : ℕ → Execution ℕ ℕ ℕ → Type 0) → P 0 impatient → P 1 (patient 1) → P 2 (forgetful)
      → (i : ℕ) (s : Execution ℕ ℕ ℕ) → slice_get four i ≡ Some (Honest s) → P i s
  four_replicas P a b c zero s is = (let e : impatient ≡ s = cc in subst (λ t. P 0 t) e a)
  four_replicas P a b c (suc zero) s is = (let e : patient 1 ≡ s = cc in subst (λ t. P 1 t) e b)
  four_replicas P a b c (suc (suc zero)) s is = (let e : forgetful ≡ s = cc in subst (λ t. P 2 t) e c)
  four_replicas P a b c (suc (suc (suc zero))) s is = absurd (cc)
  four_replicas P a b c (suc (suc (suc (suc k)))) s is = absurd (cc)

  pub four_network : IsNetworkOf nat_eq leader 5 four
  four_network = record {
    few_faulty = inl (omega arith, omega arith);
    honest = four_replicas (λ i s. IsExecution nat_eq leader 5 i s) impatient_ran (patient_ran 1 patient_replied_1)
        forgetful_ran;
    backed = λ i s c at h. four_replicas (λ j t. (d : Subject ℕ) → Contains (trace_of t) (Accepts d) → FourBack d)
        (impatient_accepts FourBack notarized_one notarized_two finalized_one)
        (patient_accepts 1 FourBack notarized_one notarized_two) forgetful_accepts i s at c h;
  }

  -- with two faulty members

  abbrev OverrunBack : Subject ℕ → Type 0
  OverrunBack c = Backed overrun c

  pub overrun_nullified : OverrunBack (subject.Nullify (round 1))
  overrun_nullified = inl ((0, omega arith, refl), inr (inl (tt, inl (tt, tt))))

  pub overrun_finalized : OverrunBack (subject.Finalize two)
  overrun_finalized = inl ((4, omega arith, refl), inl ((5, omega arith, refl), inl (tt, tt)))

  overrun_one : OverrunBack (subject.Notarize one)
  overrun_one = inr (inl ((0, omega arith, refl), inl (tt, inl (tt, tt))))

  overrun_two : OverrunBack (subject.Notarize two)
  overrun_two = inr (inl ((3, omega arith, refl), inl (tt, inl (tt, tt))))

  overrun_final : OverrunBack (subject.Finalize one)
  overrun_final = inr (inl ((2, omega arith, refl), inl (tt, inl (tt, tt))))

  overrun_replicas : (P : ℕ → Execution ℕ ℕ ℕ → Type 0) → P 0 impatient → P 1 (patient 1)
      → (i : ℕ) (s : Execution ℕ ℕ ℕ) → slice_get overrun i ≡ Some (Honest s) → P i s
  overrun_replicas P a b zero s is = (let e : impatient ≡ s = cc in subst (λ t. P 0 t) e a)
  overrun_replicas P a b (suc zero) s is = (let e : patient 1 ≡ s = cc in subst (λ t. P 1 t) e b)
  overrun_replicas P a b (suc (suc zero)) s is = absurd (cc)
  overrun_replicas P a b (suc (suc (suc zero))) s is = absurd (cc)
  overrun_replicas P a b (suc (suc (suc (suc k)))) s is = absurd (cc)

  pub overrun_network : IsBackedNetwork nat_eq leader 5 overrun
  overrun_network = record {
    honest = overrun_replicas (λ i s. IsExecution nat_eq leader 5 i s) impatient_ran (patient_ran 1 patient_replied_1);
    backed = λ i s c at h. overrun_replicas (λ j t. (d : Subject ℕ) → Contains (trace_of t) (Accepts d) → OverrunBack d)
        (impatient_accepts OverrunBack overrun_one overrun_two overrun_final)
        (patient_accepts 1 OverrunBack overrun_one overrun_two) i s at c h;
  }

  -- what is known of them

  abbrev KnownBack : Subject ℕ → Type 0
  KnownBack c = MayBeCertified known_of_overrun c

  pub known_nullified : KnownBack (subject.Nullify (round 1))
  known_nullified = inl ((0, omega arith, refl), inr (inl ((0, omega arith, refl), inl (tt, tt))))

  pub known_finalized : KnownBack (subject.Finalize two)
  known_finalized = inl ((4, omega arith, refl), inl ((5, omega arith, refl), inl ((4, omega arith, refl), tt)))

  known_one : KnownBack (subject.Notarize one)
  known_one = inr (inl ((0, omega arith, refl), inl ((1, omega arith, refl), inl (tt, tt))))

  known_two : KnownBack (subject.Notarize two)
  known_two = inr (inl ((3, omega arith, refl), inl ((3, omega arith, refl), inl (tt, tt))))

  known_final : KnownBack (subject.Finalize one)
  known_final = inr (inl ((2, omega arith, refl), inl ((2, omega arith, refl), inl (tt, tt))))

  two_faced_accepts : (me : ℕ) (c : Subject ℕ) → Contains (two_faced me) (Accepts c) → ⊥
  two_faced_accepts me c (zero, less, same) = cc
  two_faced_accepts me c (suc zero, less, same) = cc
  two_faced_accepts me c (suc (suc zero), less, same) = cc
  two_faced_accepts me c (suc (suc (suc zero)), less, same) = cc
  two_faced_accepts me c (suc (suc (suc (suc zero))), less, same) = cc
  two_faced_accepts me c (suc (suc (suc (suc (suc k)))), less, same) = omega arith

  pub known_accept : AcceptCertified known_of_overrun
  known_accept zero trace c at h = (let e : trace ≡ trace_of impatient = cc in
      impatient_accepts KnownBack known_one known_two known_final c (subst (λ ds. Contains ds (Accepts c)) e h))
  known_accept (suc zero) trace c at h = (let e : trace ≡ trace_of (patient 1) = cc in
      patient_accepts 1 KnownBack known_one known_two c (subst (λ ds. Contains ds (Accepts c)) e h))
  known_accept (suc (suc zero)) trace c at h =
      (let e : trace ≡ two_faced 2 = cc in absurd (two_faced_accepts 2 c (subst (λ ds. Contains ds (Accepts c)) e h)))
  known_accept (suc (suc (suc zero))) trace c at h = absurd (cc)
  known_accept (suc (suc (suc (suc k)))) trace c at h = absurd (cc)

  -- the first member finalized view 2 past its vote to nullify view 1, by the finalization of view 1
  pub misled_by_final : (nearer : HasAcceptedNearer 5 (subject.Nullify (round 1)) (subject.Finalize two)
      (trace_of impatient)) × (nearer.third ≡ subject.Finalize one)
  misled_by_final = (
    record {
      third = subject.Finalize one;
      before = Signs 0 (subject.Nullify (round 1)) ∷ Accepts (subject.Notarize one) ∷ Accepts (subject.Notarize two)
          ∷ Accepts (subject.Finalize one) ∷ [];
      signs = inr (0, [], refl);
      accepted = (3, omega arith, refl);
      nearer = inl (refl, omega arith);
    },
    refl,
  )

  abbrev FiveBack : Subject ℕ → Type 0
  FiveBack c = Backed five c

  pub five_notarize_one : FiveBack (subject.Notarize one)
  five_notarize_one =
      inl ((0, omega arith, refl), inl ((0, omega arith, refl), inl ((0, omega arith, refl), inl (tt, tt))))

  pub five_nullify_two : FiveBack (subject.Nullify (round 2))
  five_nullify_two =
      inl ((2, omega arith, refl), inl ((2, omega arith, refl), inl ((2, omega arith, refl), inl (tt, tt))))

  five_notarize_three : FiveBack (subject.Notarize (proposal 3 1))
  five_notarize_three =
      inl ((4, omega arith, refl), inl ((4, omega arith, refl), inl ((4, omega arith, refl), inl (tt, tt))))

  pub five_finalize_three : FiveBack (subject.Finalize (proposal 3 1))
  five_finalize_three =
      inl ((6, omega arith, refl), inl ((6, omega arith, refl), inl ((6, omega arith, refl), inl (tt, tt))))

  skipping_accepts : (me : ℕ) (c : Subject ℕ) → Contains (trace_of (skipping me)) (Accepts c) → FiveBack c
  skipping_accepts me c (zero, less, same) = absurd (cc)
  skipping_accepts me c (suc zero, less, same) =
      (let e : subject.Notarize one ≡ c = cc in subst FiveBack e five_notarize_one)
  skipping_accepts me c (suc (suc zero), less, same) = absurd (cc)
  skipping_accepts me c (suc (suc (suc zero)), less, same) =
      (let e : subject.Nullify (round 2) ≡ c = cc in subst FiveBack e five_nullify_two)
  skipping_accepts me c (suc (suc (suc (suc zero))), less, same) = absurd (cc)
  skipping_accepts me c (suc (suc (suc (suc (suc zero)))), less, same) =
      (let e : subject.Notarize (proposal 3 1) ≡ c = cc in subst FiveBack e five_notarize_three)
  skipping_accepts me c (suc (suc (suc (suc (suc (suc zero))))), less, same) = absurd (cc)
  skipping_accepts me c (suc (suc (suc (suc (suc (suc (suc k)))))), less, same) = absurd (omega arith)

  five_replicas : (P : ℕ → Execution ℕ ℕ ℕ → Type 0) → P 0 (skipping 0) → P 1 (skipping 1) → P 2 (skipping 2)
      → (i : ℕ) (s : Execution ℕ ℕ ℕ) → slice_get five i ≡ Some (Honest s) → P i s
  five_replicas P a b c zero s is = (let e : skipping 0 ≡ s = cc in subst (λ t. P 0 t) e a)
  five_replicas P a b c (suc zero) s is = (let e : skipping 1 ≡ s = cc in subst (λ t. P 1 t) e b)
  five_replicas P a b c (suc (suc zero)) s is = (let e : skipping 2 ≡ s = cc in subst (λ t. P 2 t) e c)
  five_replicas P a b c (suc (suc (suc zero))) s is = absurd (cc)
  five_replicas P a b c (suc (suc (suc (suc zero)))) s is = absurd (cc)
  five_replicas P a b c (suc (suc (suc (suc (suc k))))) s is = absurd (cc)

  pub five_network : IsNetworkOf nat_eq leader 1 five
  five_network = record {
    few_faulty = inr (omega arith);
    honest = five_replicas (λ i s. IsExecution nat_eq leader 1 i s) (skipping_ran 0 skipping_replied_0) skipping_ran_1
        (skipping_ran 2 skipping_replied_2);
    backed = λ i s c at h. five_replicas (λ j t. (d : Subject ℕ) → Contains (trace_of t) (Accepts d) → FiveBack d)
        (skipping_accepts 0) (skipping_accepts 1) (skipping_accepts 2) i s at c h;
  }
