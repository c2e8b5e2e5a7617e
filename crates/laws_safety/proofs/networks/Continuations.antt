-- For `conflicts_are_left`, `gaps_are_closed`, `nullified_handoffs_are_left`, `rivals_have_faulty_members`,
-- `skipped_finalizations_have_faulty_members`, `views_ahead_are_agreed_on`.
-- Tests by which it is computed that a network continues as another, and what each of them shows. Payloads are numbers.
use Rattle.std.proofs.Common.{◌≡◌, refl, ap, sym, ◌∙◌, subst, ℕ, zero, suc, ◌+◌, ◌<◌, ◌⊎◌, inl, inr, Bool, true, false, ◌&&◌, ◌||◌, not, if◌then◌else◌, List, [], ◌∷◌, map, length, slice_get, Contains, Some, nat_eq, nat_lt, arith}
use Rattle.std.specs.Prelude.{◌==◌}
use Rattle.std.specs.List.{list_any}
use Rattle.std.proofs.lemmas.Bool.{eqb-true, ltb-true, or_cases, false≢true}
use Rattle.std.proofs.lemmas.List.Elements.{Contains-append_left}
use Rattle.std.proofs.lemmas.Map.Views.{Contains-from_any}
use Rattle.simplex_types.specs.Proposal.{same_proposal, same_round}
use Rattle.simplex_types.specs.declared.types.messages.Proposal.{Proposal}
use Rattle.simplex_types.specs.declared.types.messages.Subject.{Subject}
use Rattle.simplex_types.specs.declared.types.messages.Subject.TheVariants.{Notarize, Nullify, Finalize}
use Rattle.simplex_types.specs.declared.types.numbers.Round.{Round}
use Rattle.simplex_types.proofs.Proposal.{same_proposal-true}
use Rattle.simplex_voter.specs.Facts.{Elect}
use Rattle.simplex_voter.proofs.Gaps.{and_parts}
use Rattle.simplex_member.specs.Calls.{SetProposal, Proposed, ReplyFacts}
use Rattle.simplex_member.specs.Runs.{StepFacts, Calls, Restarts}
use Rattle.laws_safety.specs.Accountability.{IsBackedNetwork}
use Rattle.laws_safety.specs.Continuations.{and_then, ReplicasContinue, EachHonest, SomeHonest, HasSignedAs, HasAccepted, HasReceived, HasBuilt, IsHonestlySigned, HonestlyBacked, ContinuesToFinalize}
use Rattle.laws_safety.specs.Traces.{TraceEvent, Accepts, Signs}
use Rattle.laws_safety.specs.Replicas.{Replica, Faulty, Honest, FewFaulty, AtLeastFrom, quorum, MayHaveSigned, Backed, IsNetworkOf}
use Rattle.laws_safety.specs.Executions.{Execution, trace_of, IsExecution}
use Rattle.laws_safety.proofs.agreement.Quorums.{shared_member}
use Rattle.laws_safety.proofs.lists.Splits.{Contains-cases}
use Rattle.laws_safety.proofs.lives.WithinRuns.{run_from_before}

-- equal votes, events and proposals passed in

abbrev same_subject : Subject ℕ → Subject ℕ → Bool
same_subject (Notarize p) (Notarize q) = same_proposal nat_eq p q
same_subject (Nullify r) (Nullify s) = same_round r s
same_subject (Finalize p) (Finalize q) = same_proposal nat_eq p q
same_subject _ _ = false

abbrev record_of : ℕ → ℕ → Round
record_of epoch view = record { epoch = epoch; view = view }

round_of_parts : (e f v w : ℕ) → e ≡ f → v ≡ w → record_of e v ≡ record_of f w
round_of_parts e f v w epoch view = rw (epoch, view) refl

same_round-true : (r s : Round) → same_round r s ≡ true → r ≡ s
same_round-true r s is =
    let parts = and_parts (r.epoch == s.epoch) (r.view == s.view) is in
    round_of_parts r.epoch s.epoch r.view s.view (eqb-true r.epoch s.epoch parts.0) (eqb-true r.view s.view parts.1)

one_proposal : (p q : Proposal ℕ) → same_proposal nat_eq p q ≡ true → p ≡ q
one_proposal p q is = same_proposal-true nat_eq (λ d e. eqb-true d e) p q is

same_subject-true : (a b : Subject ℕ) → same_subject a b ≡ true → a ≡ b
same_subject-true (Notarize p) (Notarize q) is = ap Notarize (one_proposal p q is)
same_subject-true (Nullify r) (Nullify s) is = ap Nullify (same_round-true r s is)
same_subject-true (Finalize p) (Finalize q) is = ap Finalize (one_proposal p q is)
same_subject-true _ _ is = absurd (false≢true is)

abbrev pub same_trace_event : TraceEvent ℕ → TraceEvent ℕ → Bool
same_trace_event (Accepts c) (Accepts d) = same_subject c d
same_trace_event (Signs i vote) (Signs j other) = i == j && same_subject vote other
same_trace_event _ _ = false

pub same_trace_event-true : (d e : TraceEvent ℕ) → same_trace_event d e ≡ true → d ≡ e
same_trace_event-true (Accepts c) (Accepts d) is = ap Accepts (same_subject-true c d is)
same_trace_event-true (Signs i vote) (Signs j other) is =
    let parts = and_parts (i == j) (same_subject vote other) is in
    let signer : i ≡ j = eqb-true i j parts.0 in
    let about : vote ≡ other = same_subject-true vote other parts.1 in
    cc
same_trace_event-true _ _ is = absurd (false≢true is)

abbrev pub has_done : TraceEvent ℕ → Execution ℕ ℕ ℕ → Bool
has_done d s = list_any (same_trace_event d) (trace_of s)

pub done : (d : TraceEvent ℕ) (s : Execution ℕ ℕ ℕ) → has_done d s ≡ true → Contains (trace_of s) d
done d s is = Contains-from_any same_trace_event-true d (trace_of s) is

-- steps by which a proposal is passed in or built
abbrev same_step : StepFacts ℕ ℕ ℕ → StepFacts ℕ ℕ ℕ → Bool
same_step (Calls (SetProposal v p)) (Calls (SetProposal w q)) = v == w && same_proposal nat_eq p q
same_step (Calls (Proposed v d now)) (Calls (Proposed w e moment)) = v == w && (d == e && now == moment)
same_step _ _ = false

same_step-true : (a b : StepFacts ℕ ℕ ℕ) → same_step a b ≡ true → a ≡ b
same_step-true (Calls (SetProposal v p)) (Calls (SetProposal w q)) is =
    let parts = and_parts (v == w) (same_proposal nat_eq p q) is in
    let at : v ≡ w = eqb-true v w parts.0 in
    let about : p ≡ q = one_proposal p q parts.1 in
    cc
same_step-true (Calls (Proposed v d now)) (Calls (Proposed w e moment)) is =
    let parts = and_parts (v == w) (d == e && now == moment) is in
    let rest = and_parts (d == e) (now == moment) parts.1 in
    let at : v ≡ w = eqb-true v w parts.0 in
    let about : d ≡ e = eqb-true d e rest.0 in
    let when : now ≡ moment = eqb-true now moment rest.1 in
    cc
same_step-true _ _ is = absurd (false≢true is)

abbrev has_step : StepFacts ℕ ℕ ℕ → Execution ℕ ℕ ℕ → Bool
has_step step s = list_any (same_step step) s.steps

stepped : (step : StepFacts ℕ ℕ ℕ) (s : Execution ℕ ℕ ℕ) → has_step step s ≡ true → Contains s.steps step
stepped step s is = Contains-from_any same_step-true step s.steps is

-- tests of items, of counts and of replicas

module _ {X : Type 0} where
  abbrev pub each_one : (X → Bool) → List X → Bool
  each_one test [] = true
  each_one test (x ∷ xs) = test x && each_one test xs

  pub each_one-true : (test : X → Bool) (xs : List X) → each_one test xs ≡ true → (x : X) → Contains xs x
      → test x ≡ true
  each_one-true test [] is x h = absurd (omega (arith, h.1))
  each_one-true test (y ∷ xs) is x h =
      let parts = and_parts (test y) (each_one test xs) is in
      elim (Contains-cases y xs x h)
      [ inl here ↦ subst (λ z. test z ≡ true) here parts.0 | inr later ↦ each_one-true test xs parts.1 x later ]

  abbrev pub enough : ℕ → ℕ → (ℕ → X → Bool) → List X → Bool
  enough i zero test xs = true
  enough i (suc count) test [] = false
  enough i (suc count) test (x ∷ xs) = if test i x then enough (suc i) count test xs else enough (suc i) (suc count)
      test xs

  by_first : (P : ℕ → X → Type 0) (i count : ℕ) (x : X) (xs : List X) (passes fewer more : Bool)
      → (passes ≡ true → P i x) → (fewer ≡ true → AtLeastFrom (suc i) count P xs)
      → (more ≡ true → AtLeastFrom (suc i) (suc count) P xs) → (if passes then fewer else more) ≡ true
      → AtLeastFrom i (suc count) P (x ∷ xs)
  by_first P i count x xs true fewer more here rest none is = inl (here refl, rest is)
  by_first P i count x xs false fewer more here rest none is = inr (none is)

  pub enough-true : (P : ℕ → X → Type 0) (test : ℕ → X → Bool) → ((i : ℕ) (x : X) → test i x ≡ true → P i x)
      → (i count : ℕ) (xs : List X) → enough i count test xs ≡ true → AtLeastFrom i count P xs
  enough-true P test shows i zero xs is = tt
  enough-true P test shows i (suc count) [] is = absurd (false≢true is)
  enough-true P test shows i (suc count) (x ∷ xs) is =
      by_first P i count x xs (test i x) (enough (suc i) count test xs) (enough (suc i) (suc count) test xs) (shows i x)
      (enough-true P test shows (suc i) count xs) (enough-true P test shows (suc i) (suc count) xs) is

-- the first replica is replica j

abbrev each_honest : (ℕ → Execution ℕ ℕ ℕ → Bool) → ℕ → List (Replica ℕ ℕ ℕ) → Bool
each_honest test j [] = true
each_honest test j (Faulty ∷ network) = each_honest test (suc j) network
each_honest test j (Honest s ∷ network) = test j s && each_honest test (suc j) network

each_honest-true : (test : ℕ → Execution ℕ ℕ ℕ → Bool) (j : ℕ) (network : List (Replica ℕ ℕ ℕ))
    → each_honest test j network ≡ true → (i : ℕ) (s : Execution ℕ ℕ ℕ) → slice_get network i ≡ Some (Honest s)
    → test (j + i) s ≡ true
each_honest-true test j [] is i s at = absurd (cc)
each_honest-true test j (Faulty ∷ network) is zero s at = absurd (cc)
each_honest-true test j (Faulty ∷ network) is (suc i) s at =
    subst (λ k. test k s ≡ true) (omega arith) (each_honest-true test (suc j) network is i s at)
each_honest-true test j (Honest t ∷ network) is zero s at =
    let same : t ≡ s = cc in
    let index : j ≡ j + 0 = omega arith in
    subst (λ k. test k s ≡ true) index
    (subst (λ u. test j u ≡ true) same (and_parts (test j t) (each_honest test (suc j) network) is).0)
each_honest-true test j (Honest t ∷ network) is (suc i) s at =
    subst (λ k. test k s ≡ true) (omega arith)
    (each_honest-true test (suc j) network (and_parts (test j t) (each_honest test (suc j) network) is).1 i s at)

abbrev some_honest : (ℕ → Execution ℕ ℕ ℕ → Bool) → ℕ → List (Replica ℕ ℕ ℕ) → Bool
some_honest test j [] = false
some_honest test j (Faulty ∷ network) = some_honest test (suc j) network
some_honest test j (Honest s ∷ network) = test j s || some_honest test (suc j) network

some_honest-true : (test : ℕ → Execution ℕ ℕ ℕ → Bool) (j : ℕ) (network : List (Replica ℕ ℕ ℕ))
    → some_honest test j network ≡ true → (i : ℕ) × (s : Execution ℕ ℕ ℕ) × (slice_get network i ≡ Some (Honest s))
    × (test (j + i) s ≡ true)
some_honest-true test j [] is = absurd (false≢true is)
some_honest-true test j (Faulty ∷ network) is =
    let found = some_honest-true test (suc j) network is in
    (suc found.0, found.1, found.2, subst (λ k. test k found.1 ≡ true) (omega arith) found.3)
some_honest-true test j (Honest s ∷ network) is = elim (or_cases (test j s) (some_honest test (suc j) network) is) [
  | inl here ↦ (0, s, refl, subst (λ k. test k s ≡ true) (omega arith) here)
  | inr later ↦
      (let found = some_honest-true test (suc j) network later in
      (suc found.0, found.1, found.2, subst (λ k. test k found.1 ≡ true) (omega arith) found.3))
]

-- the votes that back a certificate

abbrev may_have_signed : Subject ℕ → ℕ → Replica ℕ ℕ ℕ → Bool
may_have_signed vote i Faulty = true
may_have_signed vote i (Honest s) = has_done (Signs i vote) s

signed_so : (vote : Subject ℕ) (i : ℕ) (p : Replica ℕ ℕ ℕ) → may_have_signed vote i p ≡ true → MayHaveSigned vote i p
signed_so vote i Faulty is = tt
signed_so vote i (Honest s) is = done (Signs i vote) s is

abbrev is_honestly_signed : Subject ℕ → ℕ → Replica ℕ ℕ ℕ → Bool
is_honestly_signed vote i Faulty = false
is_honestly_signed vote i (Honest s) = has_done (Signs i vote) s

honestly_so : (vote : Subject ℕ) (i : ℕ) (p : Replica ℕ ℕ ℕ) → is_honestly_signed vote i p ≡ true
    → IsHonestlySigned vote i p
honestly_so vote i Faulty is = absurd (false≢true is)
honestly_so vote i (Honest s) is = done (Signs i vote) s is

module _ (network : List (Replica ℕ ℕ ℕ)) where
  abbrev pub is_backed : Subject ℕ → Bool
  is_backed vote = enough 0 (quorum (length network)) (may_have_signed vote) network

  pub backed_so : (vote : Subject ℕ) → is_backed vote ≡ true → Backed network vote
  backed_so vote is = enough-true (MayHaveSigned vote) (may_have_signed vote) (signed_so vote) 0
      (quorum (length network)) network is

  abbrev is_honestly_backed : Subject ℕ → Bool
  is_honestly_backed vote = enough 0 (quorum (length network)) (is_honestly_signed vote) network

  honestly_backed_so : (vote : Subject ℕ) → is_honestly_backed vote ≡ true → HonestlyBacked network vote
  honestly_backed_so vote is = enough-true (IsHonestlySigned vote) (is_honestly_signed vote) (honestly_so vote) 0
      (quorum (length network)) network is

-- a certificate is not among those that were accepted

abbrev is_other : Subject ℕ → TraceEvent ℕ → Bool
is_other c (Accepts d) = not (same_subject c d)
is_other c (Signs i vote) = true

pub not_accepted : (c : Subject ℕ) (s : Execution ℕ ℕ ℕ) → same_subject c c ≡ true
    → each_one (is_other c) (trace_of s) ≡ true → Contains (trace_of s) (Accepts c) → ⊥
not_accepted c s itself others h = false≢true
    (sym (ap not itself) ∙ each_one-true (is_other c) (trace_of s) others (Accepts c) h)

-- each certificate that honest members accept passes a test

abbrev pub passes : (Subject ℕ → Bool) → TraceEvent ℕ → Bool
passes test (Accepts c) = test c
passes test (Signs i vote) = true

abbrev pub each_accepted : (Subject ℕ → Bool) → List (Replica ℕ ℕ ℕ) → Bool
each_accepted test network = each_honest (λ i s. each_one (passes test) (trace_of s)) 0 network

pub accepted_so : (test : Subject ℕ → Bool) (network : List (Replica ℕ ℕ ℕ)) → each_accepted test network ≡ true
    → EachHonest network (λ i s. (c : Subject ℕ) → HasAccepted c i s → test c ≡ true)
accepted_so test network is i s at c h =
    each_one-true (passes test) (trace_of s)
    (each_honest-true (λ j t. each_one (passes test) (trace_of t)) 0 network is i s at) (Accepts c) h

-- each proposal that they receive does

abbrev passes_handing : (ℕ → Proposal ℕ → Bool) → StepFacts ℕ ℕ ℕ → Bool
passes_handing test (Calls (SetProposal v p)) = test v p
passes_handing test _ = true

abbrev each_received : (ℕ → Proposal ℕ → Bool) → List (Replica ℕ ℕ ℕ) → Bool
each_received test network = each_honest (λ i s. each_one (passes_handing test) s.steps) 0 network

received_so : (test : ℕ → Proposal ℕ → Bool) (network : List (Replica ℕ ℕ ℕ)) → each_received test network ≡ true
    → EachHonest network (λ i s. (v : ℕ) (p : Proposal ℕ) → HasReceived v p s → test v p ≡ true)
received_so test network is i s at v p h =
    each_one-true (passes_handing test) s.steps
    (each_honest-true (λ j t. each_one (passes_handing test) t.steps) 0 network is i s at) (Calls (SetProposal v p))
    h

-- a vote is of a view below this one

abbrev pub notarizes_below : ℕ → TraceEvent ℕ → Bool
notarizes_below high (Signs i (Notarize p)) = nat_lt p.round.view high
notarizes_below high _ = true

abbrev finalizes_below : ℕ → TraceEvent ℕ → Bool
finalizes_below high (Signs i (Finalize p)) = nat_lt p.round.view high
finalizes_below high _ = true

-- runs

module _ (elect : Elect ℕ) (term_length : ℕ) where
  abbrev pub AreExecutions : ℕ → List (Replica ℕ ℕ ℕ) → Type 0
  AreExecutions j [] = Unit {0}
  AreExecutions j (Faulty ∷ network) = AreExecutions (suc j) network
  AreExecutions j (Honest s ∷ network) = IsExecution nat_eq elect term_length j s × AreExecutions (suc j) network

  each_ran : (j : ℕ) (network : List (Replica ℕ ℕ ℕ)) → AreExecutions j network → (i : ℕ) (s : Execution ℕ ℕ ℕ)
      → slice_get network i ≡ Some (Honest s) → IsExecution nat_eq elect term_length (j + i) s
  each_ran j [] all i s at = absurd (cc)
  each_ran j (Faulty ∷ network) all zero s at = absurd (cc)
  each_ran j (Faulty ∷ network) all (suc i) s at =
      subst (λ k. IsExecution nat_eq elect term_length k s) (omega arith) (each_ran (suc j) network all i s at)
  each_ran j (Honest t ∷ network) all zero s at =
      let same : t ≡ s = cc in
      let index : j ≡ j + 0 = omega arith in
      subst (λ k. IsExecution nat_eq elect term_length k s) index
      (subst (λ u. IsExecution nat_eq elect term_length j u) same all.0)
  each_ran j (Honest t ∷ network) all (suc i) s at =
      subst (λ k. IsExecution nat_eq elect term_length k s) (omega arith) (each_ran (suc j) network all.1 i s at)

  -- a network whose members ran, and whose accepted certificates are backed
  pub network_of : (network : List (Replica ℕ ℕ ℕ)) → FewFaulty network → AreExecutions 0 network
      → each_accepted (is_backed network) network ≡ true → IsNetworkOf nat_eq elect term_length network
  network_of network few all backed = record {
    few_faulty = few;
    honest = λ i s at. subst (λ k. IsExecution nat_eq elect term_length k s) (omega arith)
        (each_ran 0 network all i s at);
    backed = λ i s c at h. backed_so network c (accepted_so (is_backed network) network backed i s at c h);
  }

  -- the same, however many are faulty
  pub backed_network_of : (network : List (Replica ℕ ℕ ℕ)) → AreExecutions 0 network
      → each_accepted (is_backed network) network ≡ true → IsBackedNetwork nat_eq elect term_length network
  backed_network_of network all backed = record {
    honest = λ i s at. subst (λ k. IsExecution nat_eq elect term_length k s) (omega arith)
        (each_ran 0 network all i s at);
    backed = λ i s c at h. backed_so network c (accepted_so (is_backed network) network backed i s at c h);
  }

  -- the beginning of a run is one
  ran_before : (i : ℕ) (s : Execution ℕ ℕ ℕ) (more : List (StepFacts ℕ ℕ ℕ × ReplyFacts ℕ ℕ))
      → length s.steps ≡ length s.replies → IsExecution nat_eq elect term_length i (and_then s more)
      → IsExecution nat_eq elect term_length i s
  ran_before i s more as_many ran = record {
    lives = record {
      first = ran.lives.first;
      later = λ r h. ran.lives.later r (Contains-append_left s.steps (map (λ e. e.0) more) (Restarts r) h);
    };
    run = run_from_before nat_eq elect s.start s.steps (map (λ e. e.0) more) s.replies (map (λ e. e.1) more) as_many
        ran.run;
  }

  abbrev pub have_replies : List (Replica ℕ ℕ ℕ) → Bool
  have_replies [] = true
  have_replies (Faulty ∷ network) = have_replies network
  have_replies (Honest s ∷ network) = length s.steps == length s.replies && have_replies network

  pub all_ran_before : (j : ℕ) (network later : List (Replica ℕ ℕ ℕ)) → have_replies network ≡ true
      → ReplicasContinue network later → AreExecutions j later → AreExecutions j network
  all_ran_before j [] [] full goes all = tt
  all_ran_before j [] (p ∷ later) full goes all = absurd goes
  all_ran_before j (Faulty ∷ network) [] full goes all = absurd goes
  all_ran_before j (Honest s ∷ network) [] full goes all = absurd goes
  all_ran_before j (Faulty ∷ network) (Faulty ∷ later) full goes all =
      all_ran_before (suc j) network later full goes all
  all_ran_before j (Faulty ∷ network) (Honest t ∷ later) full goes all = absurd goes
  all_ran_before j (Honest s ∷ network) (Faulty ∷ later) full goes all = absurd goes
  all_ran_before j (Honest s ∷ network) (Honest t ∷ later) full (execution, goes) all =
      let parts = and_parts (length s.steps == length s.replies) (have_replies network) full in (
        ran_before j s execution.0 (eqb-true (length s.steps) (length s.replies) parts.0)
            (subst (λ u. IsExecution nat_eq elect term_length j u) execution.1 all.0),
        all_ran_before (suc j) network later parts.1 goes all.1,
      )

  -- a network that continues as a later one
  module _ (network later : List (Replica ℕ ℕ ℕ)) (final : Proposal ℕ) where
    abbrev comes_from_honest : Subject ℕ → Bool
    comes_from_honest c = some_honest (λ i s. has_done (Accepts c) s) 0 network || is_honestly_backed later c

    from_honest : (c : Subject ℕ) → comes_from_honest c ≡ true
        → SomeHonest network (HasAccepted c) ⊎ HonestlyBacked later c
    from_honest c is =
        elim (or_cases (some_honest (λ i s. has_done (Accepts c) s) 0 network) (is_honestly_backed later c) is) [
          | inl held ↦ (let found = some_honest-true (λ i s. has_done (Accepts c) s) 0 network held in
              inl (found.0, found.1, found.2, done (Accepts c) found.1 found.3))
          | inr made ↦ inr (honestly_backed_so later c made)
        ]

    abbrev has_built : Proposal ℕ → ℕ → Execution ℕ ℕ ℕ → Bool
    has_built p i s = has_step (Calls (Proposed p.round.view p.payload 0)) s && has_done (Signs i (Notarize p)) s

    built : (p : Proposal ℕ) (i : ℕ) (s : Execution ℕ ℕ ℕ) → has_built p i s ≡ true → HasBuilt p i s
    built p i s is =
        let parts = and_parts (has_step (Calls (Proposed p.round.view p.payload 0)) s)
        (has_done (Signs i (Notarize p)) s) is in
        ((0, stepped (Calls (Proposed p.round.view p.payload 0)) s parts.0), done (Signs i (Notarize p)) s parts.1)

    abbrev is_proposed : ℕ → Proposal ℕ → Bool
    is_proposed v p = some_honest (λ i s. has_step (Calls (SetProposal v p)) s) 0 network || some_honest (has_built p) 0
        later

    proposed_so : (v : ℕ) (p : Proposal ℕ) → is_proposed v p ≡ true
        → SomeHonest network (λ j t. HasReceived v p t) ⊎ SomeHonest later (HasBuilt p)
    proposed_so v p is = elim (or_cases (some_honest (λ i s. has_step (Calls (SetProposal v p)) s) 0 network)
        (some_honest (has_built p) 0 later) is) [
          | inl old ↦
              (let found = some_honest-true (λ i s. has_step (Calls (SetProposal v p)) s) 0 network old in
              inl (found.0, found.1, found.2, stepped (Calls (SetProposal v p)) found.1 found.3))
          | inr new ↦
              (let found = some_honest-true (has_built p) 0 later new in
              let index : 0 + found.0 ≡ found.0 = omega arith in
              inr (
                found.0,
                found.1,
                found.2,
                subst (λ k. HasBuilt p k found.1) index
                    (built p (0 + found.0) found.1 found.3),
              ))
        ]

    abbrev is_finalized : ℕ → Execution ℕ ℕ ℕ → Bool
    is_finalized i s = has_done (Signs i (Finalize final)) s && has_done (Accepts (Finalize final)) s

    finalized_so : each_honest is_finalized 0 later ≡ true
        → EachHonest later (λ i s. HasSignedAs (Finalize final) i s × HasAccepted (Finalize final) i s)
    finalized_so is i s at =
        let index : 0 + i ≡ i = omega arith in
        let here = subst (λ k. is_finalized k s ≡ true) index (each_honest-true is_finalized 0 later is i s at) in
        let parts = and_parts (has_done (Signs i (Finalize final)) s) (has_done (Accepts (Finalize final)) s) here in
        (done (Signs i (Finalize final)) s parts.0, done (Accepts (Finalize final)) s parts.1)

    abbrev are_finalized_below : Bool
    are_finalized_below = each_honest (λ i s. each_one (finalizes_below final.round.view) (trace_of s)) 0 network

    new_so : FewFaulty network → are_finalized_below ≡ true → (p : Proposal ℕ) → Backed network (Finalize p)
        → p.round.view < final.round.view
    new_so few is p backed =
        let found = shared_member network (Finalize p) (Finalize p) few backed backed in
        let below = each_one-true (finalizes_below final.round.view) (trace_of found.1)
        (each_honest-true (λ i s. each_one (finalizes_below final.round.view) (trace_of s)) 0 network is found.0
        found.1 found.2) (Signs found.3.0 (Finalize p)) found.3.1 in
        ltb-true p.round.view final.round.view below

    -- the tests that are computed of it
    pub record PassesTests : Type 0 where
      pub backed : each_accepted (is_backed later) later ≡ true
      pub certificates : each_accepted comes_from_honest later ≡ true
      pub proposals : each_received is_proposed later ≡ true
      pub finalized : each_honest is_finalized 0 later ≡ true
      pub new : are_finalized_below ≡ true

    pub goes_on_so : FewFaulty network → FewFaulty later → ReplicasContinue network later → AreExecutions 0 later
        → PassesTests → ContinuesToFinalize nat_eq elect term_length network later final
    goes_on_so few later_few goes all tests = record {
      continues = goes;
      runs = network_of later later_few all tests.backed;
      certificates = λ i s at c h. from_honest c (accepted_so comes_from_honest later tests.certificates i s at c h);
      proposals = λ i s at v p h. proposed_so v p (received_so is_proposed later tests.proposals i s at v p h);
      finalized = finalized_so tests.finalized;
      new = new_so few tests.new;
    }
