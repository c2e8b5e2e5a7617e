-- The plan of the honest members: term after term is abandoned, and then the start is built, verified, certified and
-- finalized.
use Rattle.std.proofs.Common.{◌≡◌, refl, ap, sym, ◌∙◌, subst, inl, inr, ℕ, zero, suc, ◌+◌, Bool, true, false, if◌then◌else◌, List, [], ◌∷◌, ◌++◌, Contains, arith}
use Rattle.std.specs.Prelude.{◌==◌}
use Rattle.std.proofs.lemmas.Bool.{cases_eq, eq-eqb, ne_eqb}
use Rattle.std.proofs.lemmas.List.Elements.{Contains-append_left, Contains-append_right}
use Rattle.simplex_types.specs.Terms.{next_term_start}
use Rattle.simplex_types.specs.declared.types.messages.Proposal.{Proposal}
use Rattle.simplex_types.specs.declared.types.messages.Subject.{Subject}
use Rattle.simplex_types.specs.declared.types.messages.Subject.TheVariants.{Notarize, Nullify, Finalize}
use Rattle.simplex_member.specs.Calls.{CallFacts, SetProposal, Proposed}
use Rattle.laws_safety.specs.Traces.{TraceEvent, Accepts, Signs}
use Rattle.laws_safety.proofs.lists.Splits.{Contains-cases, only_one}
use Rattle.laws_progress.proofs.networks.Parts.{Part, at_member, parts_of, PartFits, IsPlan}
use Rattle.laws_progress.specs.ViewPositions.{proposal_in}
use Rattle.laws_progress.proofs.runs.Members.{one_has}
use Rattle.laws_progress.proofs.runs.Starts.{replica_of}
use Rattle.laws_progress.proofs.states.AbandonedTerms.{gives_up_now, skips_now, skip_sequence}
use Rattle.laws_progress.proofs.states.Sequences.{calls_in, whole_trace, trace_done, certifies_now, finalizes_now, verifies_now, builds_now, follower_sequence, leader_sequence}
use Rattle.laws_progress.proofs.states.AtTermStart.{StandingMember}

module _ {D : Type 0} (epoch length leader start parent : ℕ) (payload q : D) where
  abbrev replica : ℕ → StandingMember D
  replica i = replica_of epoch start parent payload i

  -- the leader builds and votes, and the others verify and vote then
  abbrev builds_first : Part D
  builds_first i = if i == leader then builds_now (replica i) q [] [] else []

  abbrev verifies_then : Part D
  verifies_then i = if i == leader then [] else verifies_now (replica i) q [] []

  abbrev certifies_then : Part D
  certifies_then i = certifies_now (replica i) q [] []

  abbrev finalizes_then : Part D
  finalizes_then i = finalizes_now (replica i) q [] []

  abbrev pub last_sequence_of : ℕ → List (CallFacts D × List (TraceEvent D))
  last_sequence_of i = if i == leader then leader_sequence (replica i) q [] [] else follower_sequence (replica i) q []
      []

  -- once a view was voted to be nullified, with this number more to be abandoned
  abbrev pub plan_from : ℕ → ℕ → List (Part D)
  plan_from zero view = (λ i. skips_now epoch length view ∷ builds_first i) ∷ verifies_then ∷ certifies_then
      ∷ finalizes_then ∷ []
  plan_from (suc count) view = (λ i. skips_now epoch length view ∷ gives_up_now epoch length i
      (next_term_start length view) ∷ []) ∷ plan_from count (next_term_start length view)

  -- that is the whole of what it calls
  pub plan_is_whole : (count view i : ℕ) → at_member (plan_from count view) i ≡ skips_now epoch length view
      ∷ skip_sequence epoch length i count (next_term_start length view) (last_sequence_of i)
  plan_is_whole zero view i = by_leader (i == leader)
    where
      by_leader : (b : Bool) → (skips_now epoch length view ∷ (if b then builds_now (replica i) q [] [] else []))
          ++ ((if b then [] else verifies_now (replica i) q [] [])
          ++ (certifies_now (replica i) q [] [] ++ (finalizes_now (replica i) q [] [] ++ []))) ≡ skips_now epoch length
          view ∷ (if b then leader_sequence (replica i) q [] [] else follower_sequence (replica i) q [] [])
      by_leader true = refl
      by_leader false = refl
  plan_is_whole (suc count) view i = ap (λ rest.
      skips_now epoch length view ∷ gives_up_now epoch length i (next_term_start length view) ∷ rest)
      (plan_is_whole count (next_term_start length view) i)

  pub plan_long : (count view : ℕ) → parts_of (plan_from count view) ≡ count + 4
  plan_long zero view = refl
  plan_long (suc count) view = ap suc (plan_long count (next_term_start length view)) ∙ omega arith

  -- it is a plan: each accepts what all have signed, and receives what was built

  abbrev p : Proposal D
  p = proposal_in epoch start parent q

  abbrev gives : ℕ → Subject D
  gives view = Nullify (record { epoch = epoch; view = view })

  abbrev IsOther : ℕ → Proposal D → CallFacts D → Type 0
  IsOther v o call = call ≡ SetProposal v o → ⊥

  accepts_it : (view i j : ℕ) (done : ℕ → List (TraceEvent D)) (more : List (TraceEvent D)) (c : Subject D)
      → Contains (done j) (Signs j (gives view)) → (Contains more (Accepts c) → ⊥)
      → Contains (Accepts (gives view) ∷ more) (Accepts c) → Contains (done j) (Signs j c)
  accepts_it view i j done more c signed none h = elim (Contains-cases (Accepts (gives view)) more (Accepts c) h) [
    | inl here ↦ (let one : gives view ≡ c = cc in subst (λ d. Contains (done j) (Signs j d)) one signed)
    | inr later ↦ absurd (none later)
  ]

  pub only_signs : (i : ℕ) (vote c : Subject D) → Contains (Signs i vote ∷ []) (Accepts c) → ⊥
  only_signs i vote c h = let e = only_one _ _ h in cc

  -- the first part of the last view
  first_fits : (view : ℕ) (done : ℕ → List (TraceEvent D)) (calls : ℕ → List (CallFacts D))
      → ((j : ℕ) → Contains (done j) (Signs j (gives view)))
      → PartFits leader p done calls (λ i. skips_now epoch length view ∷ builds_first i)
  first_fits view done calls signed = record {
    signed = λ i c h j. accepts_it view i j done (whole_trace (builds_first i)) c (signed j) (none_accepted i c) h;
    built = λ i v o h. absurd (none_received i v o h);
  }
    where
      none_accepted : (i : ℕ) (c : Subject D) → Contains (whole_trace (builds_first i)) (Accepts c) → ⊥
      none_accepted i c h = by_leader (i == leader) h
        where
          by_leader : (b : Bool) → Contains (whole_trace (if b then builds_now (replica i) q [] [] else [])) (Accepts c)
              → ⊥
          by_leader true h = only_signs i (Notarize p) c h
          by_leader false h = omega (arith, h.1)

      none_received : (i v : ℕ) (o : Proposal D)
          → Contains (calls_in (skips_now epoch length view ∷ builds_first i)) (SetProposal v o) → ⊥
      none_received i v o h = by_leader (i == leader) h
        where
          by_leader : (b : Bool) → Contains (calls_in
              (skips_now epoch length view ∷ (if b then builds_now (replica i) q [] [] else []))) (SetProposal v o) → ⊥
          by_leader true h = one_has (IsOther v o)
              (calls_in (skips_now epoch length view ∷ builds_now (replica i) q [] [])) (SetProposal v o)
              ((λ e. cc), ((λ e. cc), ((λ e. cc), ((λ e. cc), tt)))) h refl
          by_leader false h = one_has (IsOther v o) (calls_in (skips_now epoch length view ∷ [])) (SetProposal v o)
              ((λ e. cc), tt) h refl

  leader_calls_it : (view : ℕ) → Contains (calls_in (skips_now epoch length view ∷ builds_first leader))
      (Proposed start q 0)
  leader_calls_it view = subst (λ b. Contains
      (calls_in (skips_now epoch length view ∷ (if b then builds_now (replica leader) q [] [] else [])))
      (Proposed start q 0)) (sym (eq-eqb leader leader refl)) (2, omega arith, refl)

  leader_votes : (view j : ℕ) → j ≡ leader → Contains (whole_trace (skips_now epoch length view ∷ builds_first j))
      (Signs j (Notarize p))
  leader_votes view j is = subst (λ b. Contains
      (whole_trace (skips_now epoch length view ∷ (if b then builds_now (replica j) q [] [] else [])))
      (Signs j (Notarize p))) (sym (eq-eqb j leader is)) (1, omega arith, refl)

  follower_votes : (j : ℕ) → (j ≡ leader → ⊥) → Contains (whole_trace (verifies_then j)) (Signs j (Notarize p))
  follower_votes j other = subst (λ b. Contains (whole_trace (if b then [] else verifies_now (replica j) q [] []))
      (Signs j (Notarize p))) (sym (ne_eqb j leader other)) (0, omega arith, refl)

  second_fits : (view : ℕ) (done : ℕ → List (TraceEvent D)) (calls : ℕ → List (CallFacts D))
      → PartFits leader p (λ i. done i ++ whole_trace (skips_now epoch length view ∷ builds_first i))
      (λ i. calls i ++ calls_in (skips_now epoch length view ∷ builds_first i)) verifies_then
  second_fits view done calls = record { signed = λ i c h j. absurd (none_accepted i c h); built = built_before }
    where
      none_accepted : (i : ℕ) (c : Subject D) → Contains (whole_trace (verifies_then i)) (Accepts c) → ⊥
      none_accepted i c h = by_leader (i == leader) h
        where
          by_leader : (b : Bool) → Contains (whole_trace (if b then [] else verifies_now (replica i) q [] []))
              (Accepts c) → ⊥
          by_leader true h = omega (arith, h.1)
          by_leader false h = only_signs i (Notarize p) c h

      is_it : (i v : ℕ) (o : Proposal D) → Contains (calls_in (verifies_then i)) (SetProposal v o) → o ≡ p
      is_it i v o h = by_leader (i == leader) h
        where
          by_leader : (b : Bool) → Contains (calls_in (if b then [] else verifies_now (replica i) q [] []))
              (SetProposal v o) → o ≡ p
          by_leader true h = absurd (omega (arith, h.1))
          by_leader false h = one_has (λ call. call ≡ SetProposal v o → o ≡ p)
              (calls_in (verifies_now (replica i) q [] [])) (SetProposal v o) (
                (λ e. (let one : p ≡ o = cc in sym one)),
                ((λ e. absurd (cc)), ((λ e. absurd (cc)), ((λ e. absurd (cc)), tt))),
              ) h refl

      built_before : (i v : ℕ) (o : Proposal D) → Contains (calls_in (verifies_then i)) (SetProposal v o)
          → (o ≡ p) × Contains (calls leader ++ calls_in (skips_now epoch length view ∷ builds_first leader))
          (Proposed start q 0) × Contains
          (done leader ++ whole_trace (skips_now epoch length view ∷ builds_first leader)) (Signs leader (Notarize p))
      built_before i v o h = (
        is_it i v o h,
        Contains-append_right (calls leader) (calls_in (skips_now epoch length view ∷ builds_first leader))
            (Proposed start q 0) (leader_calls_it view),
        Contains-append_right (done leader) (whole_trace (skips_now epoch length view ∷ builds_first leader))
            (Signs leader (Notarize p)) (leader_votes view leader refl),
      )

  -- whoever leads, each has voted then
  all_voted : (view : ℕ) (done : ℕ → List (TraceEvent D)) (j : ℕ)
      → Contains ((done j ++ whole_trace (skips_now epoch length view ∷ builds_first j)) ++ whole_trace
      (verifies_then j)) (Signs j (Notarize p))
  all_voted view done j = elim (cases_eq j leader) [
    | inl is ↦ Contains-append_left (done j ++ whole_trace (skips_now epoch length view ∷ builds_first j))
        (whole_trace (verifies_then j)) (Signs j (Notarize p))
        (Contains-append_right (done j) (whole_trace (skips_now epoch length view ∷ builds_first j))
        (Signs j (Notarize p)) (leader_votes view j is))
    | inr other ↦ Contains-append_right (done j ++ whole_trace (skips_now epoch length view ∷ builds_first j))
        (whole_trace (verifies_then j)) (Signs j (Notarize p)) (follower_votes j other)
  ]

  third_fits : (done : ℕ → List (TraceEvent D)) (calls : ℕ → List (CallFacts D))
      → ((j : ℕ) → Contains (done j) (Signs j (Notarize p))) → PartFits leader p done calls certifies_then
  third_fits done calls voted = record {
    signed = λ i c h j. elim (Contains-cases (Accepts (Notarize p)) (Signs i (Finalize p) ∷ []) (Accepts c) h) [
      | inl here ↦ (let one : Notarize p ≡ c = cc in subst (λ d. Contains (done j) (Signs j d)) one (voted j))
      | inr later ↦ absurd (only_signs i (Finalize p) c later)
    ];
    built = λ i v o h. absurd (one_has (IsOther v o) (calls_in (certifies_then i)) (SetProposal v o)
        ((λ e. cc), ((λ e. cc), ((λ e. cc), tt))) h refl);
  }

  fourth_fits : (done : ℕ → List (TraceEvent D)) (calls : ℕ → List (CallFacts D))
      → ((j : ℕ) → Contains (done j) (Signs j (Finalize p))) → PartFits leader p done calls finalizes_then
  fourth_fits done calls voted = record {
    signed = λ i c h j. (let e = only_one _ _ h in let one : Finalize p ≡ c = cc in
        subst (λ d. Contains (done j) (Signs j d)) one (voted j));
    built = λ i v o h.
        absurd (one_has (IsOther v o) (calls_in (finalizes_then i)) (SetProposal v o) ((λ e. cc), tt) h refl);
  }

  pub plan_fits : (count view : ℕ) (done : ℕ → List (TraceEvent D)) (calls : ℕ → List (CallFacts D))
      → ((j : ℕ) → Contains (done j) (Signs j (gives view))) → IsPlan leader p done calls (plan_from count view)
  plan_fits zero view done calls signed = (
    first_fits view done calls signed,
    (
      second_fits view done calls,
      (
        third_fits _ _ (all_voted view done),
        (
          fourth_fits _ _ (λ j. Contains-append_right _ (whole_trace (certifies_then j)) (Signs j (Finalize p))
              (1, omega arith, refl)),
          tt,
        ),
      ),
    ),
  )
  plan_fits (suc count) view done calls signed = (
    record {
      signed = λ i c h j. accepts_it view i j done (Signs i (gives (next_term_start length view)) ∷ []) c (signed j)
          (only_signs i (gives (next_term_start length view)) c) h;
      built = λ i v o h. absurd (one_has (IsOther v o)
          (calls_in (skips_now epoch length view ∷ gives_up_now epoch length i (next_term_start length view) ∷ []))
          (SetProposal v o) ((λ e. cc), ((λ e. cc), tt)) h refl);
    },
    plan_fits count (next_term_start length view) _ _
        (λ j. Contains-append_right (done j) (whole_trace
        (skips_now epoch length view ∷ gives_up_now epoch length j (next_term_start length view) ∷ []))
        (Signs j (gives (next_term_start length view))) (1, omega arith, refl)),
  )

  pub last_trace : (i : ℕ) → whole_trace (last_sequence_of i) ≡ trace_done (replica i) q
  last_trace i = by_leader (i == leader)
    where
      by_leader : (b : Bool) → whole_trace (if b then leader_sequence (replica i) q [] [] else follower_sequence
          (replica i) q [] []) ≡ trace_done (replica i) q
      by_leader true = refl
      by_leader false = refl
