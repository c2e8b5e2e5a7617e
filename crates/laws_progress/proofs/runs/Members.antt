-- How the execution of each member of a network continues from an untouched term start.
use Rattle.std.proofs.Common.{◌≡◌, refl, ap, sym, ◌∙◌, subst, ◌⊎◌, inl, inr, ℕ, Bool, true, false, List, [], ◌∷◌, ◌++◌, map, Contains, Some, unwrap_or, arith}
use Rattle.std.specs.Prelude.{◌==◌}
use Rattle.std.proofs.lemmas.Bool.{eq-eqb, ne_eqb, cases_eq}
use Rattle.std.proofs.lemmas.List.Elements.{Contains-append_cases, Contains-append_right}
use Rattle.simplex_types.specs.declared.types.messages.Proposal.{Proposal}
use Rattle.simplex_round.specs.declared.round.Leader.{Leader}
use Rattle.simplex_round.specs.Round.{signs_as}
use Rattle.simplex_voter.specs.Facts.{StateFacts, Elect}
use Rattle.simplex_voter.specs.Parents.{highest_explicit}
use Rattle.simplex_voter.specs.Refusals.{is_too_large}
use Rattle.simplex_member.specs.Calls.{CallFacts, SetProposal, TryPropose, Proposed, TryVerify, Verified, ConstructNotarize, AddNotarization, Certified, ConstructFinalize, AddFinalization}
use Rattle.simplex_member.specs.Runs.{StepFacts, Calls}
use Rattle.laws_safety.specs.Continuations.{ExecutionContinues, HasReceived}
use Rattle.laws_safety.specs.Executions.{Execution, trace_of, IsExecution}
use Rattle.laws_safety.proofs.lists.Splits.{Contains-cases}
use Rattle.laws_progress.specs.ViewPositions.{IsFreshStart, CanStandOn, BuildsOn, proposal_in}
use Rattle.laws_progress.specs.NetworkStates.{IsSetUpAs, RunsWith}
use Rattle.laws_progress.proofs.states.AtTermStart.{StandingMember, StandsAtView}
use Rattle.laws_progress.proofs.states.Calls.{with_work, nothing_done}
use Rattle.laws_progress.proofs.runs.Onward.{execution_on}
use Rattle.laws_progress.proofs.runs.Ends.{Shown, end_shown}
use Rattle.laws_progress.proofs.states.Sequences.{does_of, trace_done, follower_sequence, leader_sequence, follower_done, leader_done}
use Rattle.laws_progress.proofs.runs.Starts.{replica_of, stands_there, signs_there, leader_there, highest_is}

module _ {D : Type 0} (p : Proposal D) where
  abbrev pub last_calls : List (CallFacts D)
  last_calls =
      ConstructNotarize p.round.view
      ∷ AddNotarization (record { proposal = p; bytes = [] })
      ∷ Certified p.round.view true 0
      ∷ ConstructFinalize p.round.view
      ∷ AddFinalization (record { proposal = p; bytes = [] }) 0
      ∷ []

  abbrev pub follower_calls : List (CallFacts D)
  follower_calls = SetProposal p.round.view p ∷ TryVerify ∷ Verified p.round.view ∷ last_calls

  abbrev pub leader_calls : List (CallFacts D)
  leader_calls = TryPropose ∷ Proposed p.round.view p.payload 0 ∷ last_calls

-- what holds of each
abbrev pub AllHave : {X : Type 0} → (X → Type 0) → List X → Type 0
AllHave P [] = Unit {0}
AllHave P (x ∷ xs) = P x × AllHave P xs

pub one_has : {X : Type 0} (P : X → Type 0) (xs : List X) (x : X) → AllHave P xs → Contains xs x → P x
one_has P [] x all h = absurd (omega (arith, h.1))
one_has P (y ∷ xs) x all h = elim (Contains-cases y xs x h)
    [ inl here ↦ subst P here all.0 | inr later ↦ one_has P xs x all.1 later ]

module _ {K L D : Type 0} (p : Proposal D) where
  -- no other proposal is received
  abbrev pub HearsOnly : StepFacts K L D → Type 0
  HearsOnly step = (v : ℕ) (o : Proposal D) → step ≡ Calls (SetProposal v o) → o ≡ p

  pub follower_hears : AllHave HearsOnly (map Calls (follower_calls p))
  follower_hears = (
    λ v o e. cc,
    (
      λ v o e. absurd (cc),
      (
        λ v o e. absurd (cc),
        (
          λ v o e. absurd (cc),
          (λ v o e. absurd (cc), (λ v o e. absurd (cc), (λ v o e. absurd (cc), (λ v o e. absurd (cc), tt)))),
        ),
      ),
    ),
  )

  pub leader_hears : AllHave HearsOnly (map Calls (leader_calls p))
  leader_hears = (
    λ v o e. absurd (cc),
    (
      λ v o e. absurd (cc),
      (
        λ v o e. absurd (cc),
        (λ v o e. absurd (cc), (λ v o e. absurd (cc), (λ v o e. absurd (cc), (λ v o e. absurd (cc), tt)))),
      ),
    ),
  )

module _ {K L D : Type 0} (same : D → D → Bool) (elect : Elect L) where
  -- the member continues to finalize the proposal, which it receives or builds
  pub record MemberFinalizes (term_length leader : ℕ) (p : Proposal D) (i : ℕ) (s t : Execution K L D) : Type 0 where
    pub continues : ExecutionContinues s t
    pub ran : IsExecution same elect term_length i t
    pub trace : trace_of t ≡ trace_of s ++ trace_done (replica_of p.round.epoch p.round.view p.parent p.payload i)
        p.payload
    pub received : (v : ℕ) (o : Proposal D) → HasReceived v o t → HasReceived v o s ⊎ (o ≡ p)
    pub builds : i ≡ leader → Contains t.steps (Calls (Proposed p.round.view p.payload 0))

module _ {K L D : Type 0} (same : D → D → Bool) (decides : (d e : D) → same d e ≡ true → d ≡ e)
    (reflexive : (d : D) → same d d ≡ true) (elect : Elect L)
    (term_length epoch count leader start parent i : ℕ) (elector : L) (q : D) (s : Execution K L D)
    (ran : IsExecution same elect term_length i s) (small : is_too_large start ≡ false)
    (x : StateFacts K L D) (lives : RunsWith same elect s x) (set : IsSetUpAs epoch count elector i x)
    (fresh : IsFreshStart leader start x) (can : CanStandOn parent start x)
    (builds : i ≡ leader → BuildsOn parent start x) where
  abbrev p : Proposal D
  p = proposal_in epoch start parent q

  pub member_finalizes : (t : Execution K L D) × MemberFinalizes same elect term_length leader p i s t
  member_finalizes = elim (cases_eq i leader) [ inl same ↦ as_leader same | inr other ↦ as_follower other ]
    where
      l : StandingMember D
      l = replica_of epoch start parent can.payload i

      shown : Shown term_length s lives.0 x
      shown = end_shown same decides elect term_length i s ran x lives

      stands : StandsAtView l (with_work fresh.round nothing_done) start x
      stands = stands_there term_length epoch count leader start parent i elector s lives.0 x shown set fresh can small

      lead : (o : Leader K) × (fresh.round.leader ≡ Some o) × (o.idx ≡ leader)
      lead = leader_there term_length epoch count leader start parent i elector s lives.0 x shown set fresh can

      signs : signs_as fresh.round.me lead.0.idx ≡ (i == leader)
      signs = (λ j. signs_as (signs_there term_length epoch count leader start parent i elector s lives.0 x shown set
          fresh can j) (lead.2 j))

      hears : (calls : List (CallFacts D)) → AllHave (HearsOnly {K = K} {L = L} p) (map Calls calls)
          → (t : Execution K L D) → t.steps ≡ s.steps ++ map Calls calls → (v : ℕ) (o : Proposal D) → HasReceived v o t
          → HasReceived v o s ⊎ (o ≡ p)
      hears calls all t steps v o h = elim (Contains-append_cases s.steps (map Calls calls) (Calls (SetProposal v o))
          (subst (λ ss. Contains ss (Calls (SetProposal v o))) steps h)) [
            | inl old ↦ inl old
            | inr new ↦
                inr (one_has (HearsOnly {K = K} {L = L} p) (map Calls calls) (Calls (SetProposal v o)) all new v o refl)
          ]

      as_follower : (i ≡ leader → ⊥) → (t : Execution K L D) × MemberFinalizes same elect term_length leader p i s t
      as_follower other =
          let does = does_of same elect (follower_sequence l q [] []) lives.0
          (follower_done same elect reflexive l q [] [] fresh.round fresh.pending fresh.no_finalization lead.0
          lead.1 lives.0 x lives.2 stands (signs ∙ ne_eqb i leader other)) in
          let on = execution_on same elect term_length i s lives.0 (follower_calls p) (trace_done l q) ran lives.1 does
          in (
            on.execution,
            record {
              continues = on.continues;
              ran = on.ran;
              trace = on.trace;
              received = hears (follower_calls p) (follower_hears p) on.execution on.steps;
              builds = λ is. absurd (other is);
            },
          )

      as_leader : i ≡ leader → (t : Execution K L D) × MemberFinalizes same elect term_length leader p i s t
      as_leader leads =
          let above = builds leads in
          let same_payload : above.0 ≡ can.payload =
          ap (λ o. unwrap_or o (above.0)) (sym (highest_is x start (parent, above.0) above.1) ∙ can.explicit) in
          let highest : highest_explicit x start ≡ Some (parent, can.payload) = above.1
          ∙ ap (λ d. Some (parent, d)) same_payload in
          let does = does_of same elect (leader_sequence l q [] []) lives.0
          (leader_done same elect reflexive l q [] [] fresh.round fresh.pending fresh.no_finalization lead.0 lead.1
          lives.0 x lives.2 stands (signs ∙ eq-eqb i leader leads) highest) in
          let on = execution_on same elect term_length i s lives.0 (leader_calls p) (trace_done l q) ran lives.1 does in
          let built : Contains on.execution.steps (Calls (Proposed start q 0)) =
          subst (λ ss. Contains ss (Calls (Proposed start q 0))) (sym on.steps)
          (Contains-append_right s.steps (map Calls (leader_calls p)) (Calls (Proposed start q 0))
          (1, omega arith, refl)) in (
            on.execution,
            record {
              continues = on.continues;
              ran = on.ran;
              trace = on.trace;
              received = hears (leader_calls p) (leader_hears p) on.execution on.steps;
              builds = λ is. built;
            },
          )
