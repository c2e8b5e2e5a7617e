-- The honest members of a network all continue, each by a trace of its own that makes their certificates by themselves.
use Rattle.std.proofs.Common.{◌≡◌, refl, sym, subst, ◌⊎◌, inl, inr, ℕ, ◌+◌, ◌≤◌, ◌<◌, Bool, List, ◌++◌, length, slice_get, Contains, Some, arith}
use Rattle.std.proofs.lemmas.List.Elements.{Contains-append_cases, Contains-append_left, Contains-append_right}
use Rattle.simplex_types.specs.declared.types.messages.Proposal.{Proposal}
use Rattle.simplex_types.specs.declared.types.messages.Subject.{Subject}
use Rattle.simplex_types.specs.declared.types.messages.Subject.TheVariants.{Notarize, Finalize}
use Rattle.simplex_voter.specs.Facts.{Elect}
use Rattle.simplex_member.specs.Calls.{Proposed}
use Rattle.simplex_member.specs.Runs.{Calls}
use Rattle.laws_safety.specs.Continuations.{ExecutionContinues, SomeHonest, HasAccepted, HasReceived, HasBuilt, IsHonestlySigned, HonestlyBacked, ContinuesToFinalize}
use Rattle.laws_safety.specs.Traces.{TraceEvent, Accepts, Signs}
use Rattle.laws_safety.specs.Replicas.{Replica as Member, Honest, faults, max_faults, quorum, FewFaulty, AtLeastFrom, MayHaveSigned, Backed, IsNetworkOf}
use Rattle.laws_safety.specs.Executions.{Execution, trace_of, IsExecution}
use Rattle.laws_progress.proofs.networks.Replicas.{alone_backed}
use Rattle.laws_progress.proofs.networks.Followed.{quorum_fits, honest_enough, ReplicasFollow, all_follow, replicas_follow, same_many, was_there, is_there, backed_still}

-- they finalize the proposal, and each of them votes for each certificate that one accepts
pub record AreEnough {D : Type 0} (p : Proposal D) (done : ℕ → List (TraceEvent D)) : Type 0 where
  pub alone : (i : ℕ) (c : Subject D) → Contains (done i) (Accepts c) → (j : ℕ) → Contains (done j) (Signs j c)
  pub notarize : (i : ℕ) → Contains (done i) (Signs i (Notarize p))
  pub finalize : (i : ℕ) → Contains (done i) (Signs i (Finalize p))
  pub accepts : (i : ℕ) → Contains (done i) (Accepts (Finalize p))

module _ {K L D : Type 0} (same : D → D → Bool) (elect : Elect L) (term_length leader : ℕ) (p : Proposal D)
    (done : ℕ → List (TraceEvent D)) where
  -- the member continues by this trace, and receives the proposal or builds it
  pub record ContinuesBy (i : ℕ) (s t : Execution K L D) : Type 0 where
    pub continues : ExecutionContinues s t
    pub ran : IsExecution same elect term_length i t
    pub trace : trace_of t ≡ trace_of s ++ done i
    pub received : (v : ℕ) (o : Proposal D) → HasReceived v o t → HasReceived v o s ⊎ (o ≡ p)
    pub builds : i ≡ leader → Contains t.steps (Calls (Proposed p.round.view p.payload 0))

module _ {K L D : Type 0} (same : D → D → Bool) (elect : Elect L) (term_length leader : ℕ) (p : Proposal D)
    (done : ℕ → List (TraceEvent D))
    (enough : AreEnough p done)
    (network : List (Member K L D))
    (good : IsNetworkOf same elect term_length network)
    (few : faults network ≤ max_faults (length network))
    (leads : (s : Execution K L D) × (slice_get network leader ≡ Some (Honest s)))
    (later : List (Member K L D))
    (following : ReplicasFollow (ContinuesBy same elect term_length leader p done) 0 network later)
    (all_below : (o : Proposal D) → Backed network (Finalize o) → o.round.view < p.round.view) where
  abbrev pub Q : ℕ → Execution K L D → Execution K L D → Type 0
  Q = ContinuesBy same elect term_length leader p done

  many : (length later ≡ length network) × (faults later ≡ faults network)
  many = same_many Q 0 network later following

  still_few : FewFaulty later
  still_few = by_network good.few_faulty
    where
      by_network : FewFaulty network → FewFaulty later
      by_network (inl (some, bound)) = inl (omega (arith, many.0), omega (arith, many.0, many.1))
      by_network (inr fewer) = inr (omega (arith, many.0, many.1))

  before : (i : ℕ) (t : Execution K L D) → slice_get later i ≡ Some (Honest t)
      → (s : Execution K L D) × (slice_get network i ≡ Some (Honest s)) × Q i s t
  before i t at = was_there Q 0 network later following i i t at (omega arith)

  -- each honest member does this in the view
  does : (i : ℕ) (t : Execution K L D) → slice_get later i ≡ Some (Honest t) → (d : TraceEvent D) → Contains (done i) d
      → Contains (trace_of t) d
  does i t at d h =
      let was = before i t at in
      subst (λ ds. Contains ds d) (sym was.2.trace) (Contains-append_right (trace_of was.0) (done i) d h)

  alone : (vote : Subject D) → ((i : ℕ) → Contains (done i) (Signs i vote)) → HonestlyBacked later vote
  alone vote signs = honest_enough (IsHonestlySigned vote) 0 (quorum (length later)) later each_signs
      (quorum_fits (length later) (faults later) (omega (arith, few, many.0, many.1)))
    where
      each_signs : (i j : ℕ) (t : Execution K L D) → slice_get later i ≡ Some (Honest t) → j ≡ 0 + i
          → IsHonestlySigned vote j (Honest t)
      each_signs i j t at is =
          let here : i ≡ j = omega arith in
          does j t (subst (λ n. slice_get later n ≡ Some (Honest t)) here at) (Signs j vote) (signs j)

  -- a certificate that is accepted then was accepted before, or is of the view's proposal
  accepted_before : (i : ℕ) (s t : Execution K L D) → Q i s t → (c : Subject D) → HasAccepted c i t
      → HasAccepted c i s ⊎ HonestlyBacked later c
  accepted_before i s t by c h = elim (Contains-append_cases (trace_of s) (done i) (Accepts c)
      (subst (λ ds. Contains ds (Accepts c)) by.trace h)) [
        | inl old ↦ inl old
        | inr new ↦ inr (alone c (enough.alone i c new))
      ]

  runs_on : IsNetworkOf same elect term_length later
  runs_on = record {
    few_faulty = still_few;
    honest = λ i t at. (before i t at).2.ran;
    backed = λ i t c at h.
        (let was = before i t at in
        elim (accepted_before i was.0 t was.2 c h) [
          | inl old ↦ subst (λ n. AtLeastFrom 0 (quorum n) (MayHaveSigned c) later) (sym many.0)
              (backed_still Q stays c 0 (quorum (length network)) network later following
              (good.backed i was.0 c was.1 old))
          | inr new ↦ alone_backed c later new
        ]);
  }
    where
      stays : (i : ℕ) (s t : Execution K L D) (d : TraceEvent D) → Q i s t → Contains (trace_of s) d
          → Contains (trace_of t) d
      stays i s t d by h = subst (λ ds. Contains ds d) (sym by.trace) (Contains-append_left (trace_of s) (done i) d h)

  pub followed_to_finalize : ContinuesToFinalize same elect term_length network later p
  followed_to_finalize = record {
    continues = replicas_follow Q (λ i s t by. by.continues) 0 network later following;
    runs = runs_on;
    certificates = λ i t at c h.
        (let was = before i t at in
        elim (accepted_before i was.0 t was.2 c h) [ inl old ↦ inl (i, was.0, was.1, old) | inr new ↦ inr new ]);
    proposals = λ i t at v o h.
        (let was = before i t at in
        elim (was.2.received v o h) [
          | inl old ↦ inl (i, was.0, was.1, old)
          | inr new ↦
              inr (subst (λ z. SomeHonest later (HasBuilt z)) (sym new) leader_built)
        ]);
    finalized = λ i t at.
        (does i t at (Signs i (Finalize p)) (enough.finalize i), does i t at (Accepts (Finalize p)) (enough.accepts i));
    new = all_below;
  }
    where
      leader_built : SomeHonest later (HasBuilt p)
      leader_built =
          let on = is_there Q 0 network later following leader leader leads.0 leads.1 (omega arith) in (
            leader,
            on.0,
            on.1,
            ((0, on.2.builds refl), does leader on.0 on.1 (Signs leader (Notarize p)) (enough.notarize leader)),
          )

module _ {K L D : Type 0} (same : D → D → Bool) (elect : Elect L) (term_length leader : ℕ) (p : Proposal D)
    (done : ℕ → List (TraceEvent D))
    (enough : AreEnough p done)
    (network : List (Member K L D))
    (good : IsNetworkOf same elect term_length network)
    (few : faults network ≤ max_faults (length network))
    (leads : (s : Execution K L D) × (slice_get network leader ≡ Some (Honest s)))
    (goes : (i : ℕ) (s : Execution K L D) → slice_get network i ≡ Some (Honest s)
    → (t : Execution K L D) × ContinuesBy same elect term_length leader p done i s t)
    (all_below : (o : Proposal D) → Backed network (Finalize o) → o.round.view < p.round.view) where
  pub all_going : (later : List (Member K L D))
      × ReplicasFollow (ContinuesBy same elect term_length leader p done) 0 network later
  all_going = all_follow (ContinuesBy same elect term_length leader p done) 0 network go
    where
      go : (i j : ℕ) (s : Execution K L D) → slice_get network i ≡ Some (Honest s) → j ≡ 0 + i
          → (t : Execution K L D) × ContinuesBy same elect term_length leader p done j s t
      go i j s at is =
          let here : i ≡ j = omega arith in
          goes j s (subst (λ n. slice_get network n ≡ Some (Honest s)) here at)

  pub goes_on_to_finalize : ContinuesToFinalize same elect term_length network all_going.0 p
  goes_on_to_finalize = followed_to_finalize same elect term_length leader p done enough network good few leads
      all_going.0 all_going.1 all_below
