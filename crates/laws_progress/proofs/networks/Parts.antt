-- The honest members of a network do the parts of a plan, one exchange of messages for each.
use Rattle.std.proofs.Common.{◌≡◌, refl, ap, sym, ◌∙◌, subst, inl, inr, ℕ, zero, suc, ◌+◌, ◌≤◌, Bool, List, [], ◌∷◌, ◌++◌, append_assoc, length, map, slice_get, Contains, Some, arith}
use Rattle.std.proofs.lemmas.List.{append-nil}
use Rattle.std.proofs.lemmas.List.Elements.{Contains-append_cases, Contains-append_right}
use Rattle.simplex_types.specs.declared.types.messages.Proposal.{Proposal}
use Rattle.simplex_types.specs.declared.types.messages.Subject.{Subject}
use Rattle.simplex_types.specs.declared.types.messages.Subject.TheVariants.{Notarize}
use Rattle.simplex_voter.specs.Facts.{Elect}
use Rattle.simplex_member.specs.Calls.{CallFacts, SetProposal, Proposed}
use Rattle.simplex_member.specs.MemberFacts.{MemberFacts}
use Rattle.simplex_member.specs.Runs.{StepFacts, Calls, IsRun}
use Rattle.laws_safety.specs.Continuations.{ExecutionContinues, SomeHonest, HasBuilt, IsHonestlySigned, HonestlyBacked}
use Rattle.laws_safety.specs.Traces.{TraceEvent, Accepts, Signs}
use Rattle.laws_safety.specs.Replicas.{Replica, Honest, faults, max_faults, quorum}
use Rattle.laws_safety.specs.Executions.{new_member, Execution, trace_of, IsExecution}
use Rattle.laws_safety.proofs.lists.Splits.{Contains-cases, Contains-cons_rest}
use Rattle.laws_progress.specs.MessageExchanges.{IsExchange, Exchanges}
use Rattle.laws_progress.proofs.networks.Followed.{quorum_fits, honest_enough, ReplicasFollow, follows_so, one_further, replicas_follow, same_many, was_there, is_there}
use Rattle.laws_progress.proofs.networks.Replicas.{map_joined, execution_joined}
use Rattle.laws_progress.proofs.runs.Onward.{and_calls, calls_go_on, calls_run, calls_ran, calls_trace}
use Rattle.laws_progress.proofs.states.Sequences.{Sequence, parted, calls_in, whole_trace, calls_joined, traces_together}

-- calls, as steps

pub called : (K L : Type 0) {D : Type 0} (cs : List (CallFacts D)) (call : CallFacts D)
    → Contains {X = StepFacts K L D} (map Calls cs) (Calls call) → Contains cs call
called K L [] call h = absurd (omega (arith, h.1))
called K L {D} (c ∷ cs) call h = elim (Contains-cases {X = StepFacts K L D} (Calls c) (map Calls cs) (Calls call) h) [
  | inl here ↦ (let one : c ≡ call = cc in (0, omega arith, one))
  | inr later ↦ Contains-cons_rest c cs call (called K L cs call later)
]

pub still_called : (K L : Type 0) {D : Type 0} (cs : List (CallFacts D)) (call : CallFacts D) → Contains cs call
    → Contains {X = StepFacts K L D} (map Calls cs) (Calls call)
still_called K L [] call h = absurd (omega (arith, h.1))
still_called K L {D} (c ∷ cs) call h = elim (Contains-cases c cs call h) [
  | inl here ↦ (0, omega arith, ap (λ (d : CallFacts D). Calls d) here)
  | inr later ↦ Contains-cons_rest {X = StepFacts K L D} (Calls c) (map Calls cs) (Calls call)
      (still_called K L cs call later)
]

-- what each member does in one exchange
abbrev pub Part : Type 0 → Type 0
Part D = ℕ → List (CallFacts D × List (TraceEvent D))

module _ {D : Type 0} where
  -- all parts of a plan, for one member
  abbrev pub at_member : List (Part D) → ℕ → List (CallFacts D × List (TraceEvent D))
  at_member [] i = []
  at_member (part ∷ rest) i = part i ++ at_member rest i

  abbrev pub parts_of : List (Part D) → ℕ
  parts_of [] = zero
  parts_of (part ∷ rest) = suc (parts_of rest)

module _ {D : Type 0} (leader : ℕ) (p : Proposal D) where
  -- what is accepted in a part was signed by each before it, and a proposal that is received was built before
  pub record PartFits (done : ℕ → List (TraceEvent D)) (calls : ℕ → List (CallFacts D)) (part : Part D) : Type 0 where
    pub signed : (i : ℕ) (c : Subject D) → Contains (whole_trace (part i)) (Accepts c) → (j : ℕ)
        → Contains (done j) (Signs j c)
    pub built : (i v : ℕ) (o : Proposal D) → Contains (calls_in (part i)) (SetProposal v o)
        → (o ≡ p) × Contains (calls leader) (Proposed p.round.view p.payload 0)
        × Contains (done leader) (Signs leader (Notarize p))

  abbrev pub IsPlan : (ℕ → List (TraceEvent D)) → (ℕ → List (CallFacts D)) → List (Part D) → Type 0
  IsPlan done calls [] = Unit {0}
  IsPlan done calls (part ∷ rest) = PartFits done calls part
      × IsPlan (λ i. done i ++ whole_trace (part i)) (λ i. calls i ++ calls_in (part i)) rest

module _ {K L D : Type 0} (same : D → D → Bool) (elect : Elect L) (term_length : ℕ) where
  -- a member continued by these calls, with this trace, and may continue by this sequence
  pub record Along (done : ℕ → List (TraceEvent D)) (calls : ℕ → List (CallFacts D))
      (rest : ℕ → List (CallFacts D × List (TraceEvent D))) (i : ℕ) (s t : Execution K L D) : Type 0 where
    pub continues : ExecutionContinues s t
    pub ran : IsExecution same elect term_length i t
    pub steps : t.steps ≡ s.steps ++ map Calls (calls i)
    pub trace : trace_of t ≡ trace_of s ++ done i
    pub member : MemberFacts K L D
    pub run : IsRun same elect (new_member same elect t.start) t.steps t.replies member
    pub ready : Sequence same elect member (rest i)

  -- it does one part more
  pub record Adds (part : Part D) (i : ℕ) (t u : Execution K L D) : Type 0 where
    pub continues : ExecutionContinues t u
    pub steps : u.steps ≡ t.steps ++ map Calls (calls_in (part i))
    pub trace : trace_of u ≡ trace_of t ++ whole_trace (part i)

  pub adds_part : (part : Part D) (rest : ℕ → List (CallFacts D × List (TraceEvent D))) (done : ℕ → List (TraceEvent D))
      (calls : ℕ → List (CallFacts D)) (i : ℕ) (s t : Execution K L D) → Along done calls (λ k. part k ++ rest k) i s t
      → (u : Execution K L D) × Along (λ k. done k ++ whole_trace (part k)) (λ k. calls k ++ calls_in (part k)) rest i s
      u × Adds part i t u
  adds_part part rest done calls i s t along =
      let p = parted same elect (part i) (rest i) along.member along.ready in
      let u = and_calls same elect t (calls_in (part i)) p.replies in
      let on = calls_go_on same elect term_length i t along.member p.end (calls_in (part i)) p.replies along.run p.run
      in
      let more : trace_of u ≡ trace_of t ++ whole_trace (part i) =
      calls_trace same elect term_length i t along.member p.end (calls_in (part i)) p.replies along.run p.run
      ∙ ap (λ ds. trace_of t ++ ds) p.does in (
        u,
        record {
          continues = execution_joined s t u along.continues on;
          ran = calls_ran same elect term_length i t along.member p.end (calls_in (part i)) p.replies along.run p.run
              along.ran;
          steps = ap (λ ss. ss ++ map Calls (calls_in (part i))) along.steps
              ∙ (append_assoc s.steps (map Calls (calls i)) (map Calls (calls_in (part i)))
              ∙ ap (λ ss. s.steps ++ ss) (sym (map_joined Calls (calls i) (calls_in (part i)))));
          trace = more ∙ (ap (λ ds. ds ++ whole_trace (part i)) along.trace
              ∙ append_assoc (trace_of s) (done i) (whole_trace (part i)));
          member = p.end;
          run = calls_run same elect term_length i t along.member p.end (calls_in (part i)) p.replies along.run p.run;
          ready = p.rest;
        },
        record { continues = on; steps = refl; trace = more },
      )

  along_same : (done more : ℕ → List (TraceEvent D)) (calls others : ℕ → List (CallFacts D))
      (rest : ℕ → List (CallFacts D × List (TraceEvent D))) → ((i : ℕ) → done i ≡ more i)
      → ((i : ℕ) → calls i ≡ others i) → (i : ℕ) (s t : Execution K L D) → Along done calls rest i s t
      → Along more others rest i s t
  along_same done more calls others rest d c i s t along = record {
    continues = along.continues;
    ran = along.ran;
    steps = along.steps ∙ ap (λ cs. s.steps ++ map Calls cs) (c i);
    trace = along.trace ∙ ap (λ ds. trace_of s ++ ds) (d i);
    member = along.member;
    run = along.run;
    ready = along.ready;
  }

  module _ (leader : ℕ) (p : Proposal D) (base : List (Replica K L D)) (few : faults base ≤ max_faults (length base))
      (leads : (s : Execution K L D) × (slice_get base leader ≡ Some (Honest s))) where
    one_exchange : (done : ℕ → List (TraceEvent D)) (calls : ℕ → List (CallFacts D))
        (rest : ℕ → List (CallFacts D × List (TraceEvent D))) (part : Part D) (now then_on : List (Replica K L D))
        → ReplicasFollow (Along done calls rest) 0 base now → ReplicasFollow (Adds part) 0 now then_on
        → PartFits leader p done calls part → IsExchange now then_on
    one_exchange done calls rest part now then_on f g fits = record {
      continues = replicas_follow (Adds part) (λ i t u a. a.continues) 0 now then_on g;
      certificates = λ i u at c h.
          (let was = was_there (Adds part) 0 now then_on g i i u at (omega arith) in
          elim (Contains-append_cases (trace_of was.0) (whole_trace (part i)) (Accepts c)
          (subst (λ ds. Contains ds (Accepts c)) was.2.trace h)) [
            | inl old ↦ inl (i, was.0, was.1, old)
            | inr new ↦ inr (all_signed c (fits.signed i c new))
          ]);
      proposals = λ i u at v o h.
          (let was = was_there (Adds part) 0 now then_on g i i u at (omega arith) in
          elim (Contains-append_cases was.0.steps (map Calls (calls_in (part i))) (Calls (SetProposal v o))
          (subst (λ ss. Contains ss (Calls (SetProposal v o))) was.2.steps h)) [
            | inl old ↦ inl (i, was.0, was.1, old)
            | inr new ↦ inr (built (fits.built i v o (called K L (calls_in (part i)) (SetProposal v o) new)))
          ]);
    }
      where
        many : (length now ≡ length base) × (faults now ≡ faults base)
        many = same_many (Along done calls rest) 0 base now f

        all_signed : (c : Subject D) → ((j : ℕ) → Contains (done j) (Signs j c)) → HonestlyBacked now c
        all_signed c signed = honest_enough (IsHonestlySigned c) 0 (quorum (length now)) now each
            (quorum_fits (length now) (faults now) (omega (arith, few, many.0, many.1)))
          where
            each : (i j : ℕ) (t : Execution K L D) → slice_get now i ≡ Some (Honest t) → j ≡ 0 + i
                → IsHonestlySigned c j (Honest t)
            each i j t at is =
                let was = was_there (Along done calls rest) 0 base now f i j t at is in
                subst (λ ds. Contains ds (Signs j c)) (sym was.2.trace)
                (Contains-append_right (trace_of was.0) (done j) (Signs j c) (signed j))

        built : {o : Proposal D} → (o ≡ p) × Contains (calls leader) (Proposed p.round.view p.payload 0)
            × Contains (done leader) (Signs leader (Notarize p)) → SomeHonest now (HasBuilt o)
        built {o} (is, proposed, signed) =
            let there = is_there (Along done calls rest) 0 base now f leader leader leads.0 leads.1 (omega arith) in
            subst (λ z. SomeHonest now (HasBuilt z)) (sym is) (
              leader,
              there.0,
              there.1,
              (
                (
                  0,
                  subst (λ ss. Contains ss (Calls (Proposed p.round.view p.payload 0))) (sym there.2.steps)
                      (Contains-append_right leads.0.steps (map Calls (calls leader))
                      (Calls (Proposed p.round.view p.payload 0))
                      (still_called K L (calls leader) (Proposed p.round.view p.payload 0) proposed)),
                ),
                subst (λ ds. Contains ds (Signs leader (Notarize p))) (sym there.2.trace)
                    (Contains-append_right (trace_of leads.0) (done leader) (Signs leader (Notarize p)) signed),
              ),
            )

    -- all parts, one exchange for each
    pub plan_done : (plan : List (Part D)) (done : ℕ → List (TraceEvent D)) (calls : ℕ → List (CallFacts D))
        → IsPlan leader p done calls plan → (now : List (Replica K L D))
        → ReplicasFollow (Along done calls (at_member plan)) 0 base now
        → (later : List (Replica K L D)) × Exchanges (parts_of plan) now later
        × ReplicasFollow (Along (λ i. done i ++ whole_trace (at_member plan i))
        (λ i. calls i ++ calls_in (at_member plan i)) (λ i. [])) 0 base later
    plan_done [] done calls plan now f = (
      now,
      refl,
      follows_so (Along done calls (λ i. [])) (Along (λ i. done i ++ []) (λ i. calls i ++ []) (λ i. []))
          (along_same done (λ i. done i ++ []) calls (λ i. calls i ++ []) (λ i. []) (λ i. sym (append-nil (done i)))
          (λ i. sym (append-nil (calls i)))) 0 base now f,
    )
    plan_done (part ∷ rest) done calls plan now f =
        let on = one_further (Along done calls (at_member (part ∷ rest)))
        (Along (λ k. done k ++ whole_trace (part k)) (λ k. calls k ++ calls_in (part k)) (at_member rest))
        (Adds part) (λ i s t a. adds_part part (at_member rest) done calls i s t a) 0 base now f in
        let last = plan_done rest (λ i. done i ++ whole_trace (part i)) (λ i. calls i ++ calls_in (part i)) plan.1 on.0
        on.1 in (
          last.0,
          (on.0, one_exchange done calls (at_member (part ∷ rest)) part now on.0 f on.2 plan.0, last.1),
          follows_so _ _ (along_same _ _ _ _ (λ i. [])
              (λ i. append_assoc (done i) (whole_trace (part i)) (whole_trace (at_member rest i))
              ∙ ap (λ ds. done i ++ ds) (sym (traces_together (part i) (at_member rest i))))
              (λ i. append_assoc (calls i) (calls_in (part i)) (calls_in (at_member rest i))
              ∙ ap (λ cs. calls i ++ cs) (sym (calls_joined (part i) (at_member rest i))))) 0 base last.0 last.2,
        )
