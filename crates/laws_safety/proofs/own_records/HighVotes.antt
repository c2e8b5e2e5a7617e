-- A vote to notarize a view that is too large is for a proposal that this member built, in each run whose start is
-- taken.
use Rattle.std.proofs.Common.{◌≡◌, refl, ap, sym, subst, ℕ, ◌<◌, ◌^◌, ◌⊎◌, inl, inr, Bool, true, false, List, [], ◌∷◌, ◌++◌, append_assoc, Contains, Option, Some, None, Result, Ok, Err, arith}
use Rattle.std.specs.Prelude.{MatchOption, option_map}
use Rattle.std.proofs.lemmas.Bool.{le-leb}
use Rattle.std.proofs.lemmas.List.{append-nil}
use Rattle.std.proofs.lemmas.List.Elements.{Contains-append_cases}
use Rattle.simplex_types.specs.Certificates.{ArtifactFacts}
use Rattle.simplex_types.specs.Config.{FloorFacts, Genesis, Finalized as FinalizedFloor}
use Rattle.simplex_types.specs.declared.types.fault.Fault.{Fault}
use Rattle.simplex_types.specs.declared.types.messages.Proposal.{Proposal}
use Rattle.simplex_types.specs.declared.types.messages.Subject.{Subject}
use Rattle.simplex_types.specs.declared.types.messages.Subject.TheVariants as subject
use Rattle.simplex_voter.specs.Facts.{StateFacts, Elect, round_of}
use Rattle.simplex_record.specs.declared.record.error.RecoverError.{RecoverError}
use Rattle.simplex_record.specs.declared.record.error.RecoverError.TheVariants as error
use Rattle.simplex_member.specs.CallConditions.{is_allowed, fault_of}
use Rattle.simplex_member.specs.Calls as calls
use Rattle.simplex_member.specs.Calls.{CallFacts, ReplyFacts, Added, AddedNullification}
use Rattle.simplex_member.specs.MemberFacts.{MemberFacts, IsCall, AnswersAlive, left_of, without_lifetime}
use Rattle.simplex_record.specs.Recovery.{recover_error, recovered_state}
use Rattle.simplex_member.specs.Restarts.{RestartFacts, IsByView, cut_member, new_lifetime, retention_grows, RecoversByView, IsRestart, IsRestartWhere}
use Rattle.simplex_member.specs.Runs.{StepFacts, Calls, Prunes, Restarts, restart_reply, IsRun}
use Rattle.simplex_record.specs.Start.{StartFacts, new_state}
use Rattle.simplex_member.specs.PrunedRecord.{pruned_member}
use Rattle.laws_safety.specs.Executions.{new_member}
use Rattle.laws_safety.specs.Traces.{TraceEvent, Signs, passed_certificates, of_floor, signed_in, accepted_by, trace_of_call, trace_at, trace_of_steps}
use Rattle.laws_safety.specs.ExactVotes.{ExactAt, proposal_at}
use Rattle.laws_safety.specs.Lawful.{HasSigned}
use Rattle.laws_safety.specs.RecordRefusals.{VotedTooHigh, is_floor_too_large}
use Rattle.laws_safety.specs.TermLengths.{HasTerms, KeepTerms}
use Rattle.laws_safety.proofs.own_records.BuiltHigh.{WasBuilt, built_still, call_held, taken_small, recovered_held}
use Rattle.laws_safety.proofs.frames.BuiltProposals.{AllHeld}
use Rattle.laws_safety.proofs.agreement.Exactly.{call_exact}
use Rattle.laws_safety.proofs.own_records.Runs.{LivesAndTells, called, pruned, restarted, run_own, start_own, copy_high}
use Rattle.laws_safety.proofs.records.RunsLawful.{LivesOn}
use Rattle.laws_safety.proofs.lists.Signed.{signed_cases}
use Rattle.laws_safety.proofs.own_records.SmallViews.{small_both, floor_small, steps_small}
use Rattle.laws_safety.proofs.lists.Splits.{only_one}

-- while the member has not failed, what its state holds of such a view was built in these steps
abbrev HoldsBuilt : {K L D : Type 0} → List (StepFacts K L D) → Option (StateFacts K L D) → Type 0
HoldsBuilt past None = Unit {0}
HoldsBuilt past (Some x) = AllHeld (WasBuilt past) x

-- and so was what it voted to notarize
pub record VotesBuilt {K L D : Type 0} (past : List (StepFacts K L D)) (trace : List (TraceEvent D))
    (m : MemberFacts K L D) : Type 0 where
  pub holds : HoldsBuilt past m.life
  pub voted : (p : Proposal D) → HasSigned trace (subject.Notarize p) → WasBuilt past p

-- an accepted certificate is no vote

module _ {D : Type 0} where
  handed_signs_none : (call : CallFacts D) (i : ℕ) (vote : Subject D)
      → Contains (passed_certificates call) (Signs i vote) → ⊥
  handed_signs_none (calls.AddNotarization c) i vote h = (let is = only_one _ (Signs i vote) h in absurd (cc))
  handed_signs_none (calls.AddNullification c now) i vote h = (let is = only_one _ (Signs i vote) h in absurd (cc))
  handed_signs_none (calls.AddFinalization c now) i vote h = (let is = only_one _ (Signs i vote) h in absurd (cc))
  handed_signs_none _ i vote h = absurd (omega (arith, h.1))

  pub floor_signs_none : (floor : FloorFacts D) (i : ℕ) (vote : Subject D) → Contains (of_floor floor) (Signs i vote)
      → ⊥
  floor_signs_none (Genesis payload) i vote h = absurd (omega (arith, h.1))
  floor_signs_none (FinalizedFloor c) i vote h = (let is = only_one _ (Signs i vote) h in absurd (cc))

module _ {K D : Type 0} where
  accepted_signs_none : (call : CallFacts D) (replied : ReplyFacts K D) (i : ℕ) (vote : Subject D)
      → Contains (accepted_by call replied) (Signs i vote) → ⊥
  accepted_signs_none call (Added newly leader) i vote h = handed_signs_none call i vote h
  accepted_signs_none call (AddedNullification newly) i vote h = handed_signs_none call i vote h
  accepted_signs_none call _ i vote h = absurd (omega (arith, h.1))

-- the proposal that is held is the one of the vote
held_voted : {D : Type 0} (o : Option (Proposal D)) (vote : Subject D) (i j : ℕ) (p : Proposal D)
    → option_map subject.Notarize o ≡ Some vote → Signs i (subject.Notarize p) ≡ Signs j vote → o ≡ Some p
held_voted None vote i j p about is = absurd (cc)
held_voted (Some h) vote i j p about is = (let same : h ≡ p = cc in ap Some same)

none_finalized : {D : Type 0} (o : Option (Proposal D)) (vote : Subject D) (i j : ℕ) (p : Proposal D)
    → option_map subject.Finalize o ≡ Some vote → Signs i (subject.Notarize p) ≡ Signs j vote → ⊥
none_finalized None vote i j p about is = absurd (cc)
none_finalized (Some h) vote i j p about is = absurd (cc)

module _ {K L D : Type 0} (same : D → D → Bool) (elect : Elect L) where
  -- a vote to notarize is for the held proposal
  noted_held : (x : StateFacts K L D) (call : CallFacts D) (replied : ReplyFacts K D) (i : ℕ) (p : Proposal D)
      → ExactAt same elect (Some x) (Calls call) replied → Contains (signed_in replied) (Signs i (subject.Notarize p))
      → (v : ℕ) × ((round_of x v).slot.held ≡ Some p)
  noted_held x (calls.ConstructNotarize v) replied i p exact h =
      (let so = (exact.only (Signs i (subject.Notarize p)) h).1 in
      (v, held_voted (proposal_at x v) so.1 i so.0 p so.3 so.4))
  noted_held x (calls.ConstructFinalize v) replied i p exact h =
      (let so = (exact.only (Signs i (subject.Notarize p)) h).1 in
      absurd (none_finalized (proposal_at x v) so.1 i so.0 p so.3 so.4))
  noted_held x (calls.ConstructNullify v) replied i p exact h =
      (let so = (exact.only (Signs i (subject.Notarize p)) h).1 in absurd (cc))
  noted_held x _ replied i p exact h =
      absurd (let none = subst (λ ds. Contains ds (Signs i (subject.Notarize p))) exact h in omega (arith, none.1))

module _ {K L D : Type 0} where
  restart_signs_none : (r : RestartFacts K L D) (result : Result (Unit {0}) RecoverError) (i : ℕ) (vote : Subject D)
      → Contains (trace_at (Restarts r) (restart_reply {K = K} {D = D} result)) (Signs i vote) → ⊥
  restart_signs_none r (Ok done) i vote h =
      elim (Contains-append_cases (of_floor r.start.floor) [] (Signs i vote) h)
      [ inl of_start ↦ floor_signs_none r.start.floor i vote of_start | inr none ↦ absurd (omega (arith, none.1)) ]
  restart_signs_none r (Err e) i vote h = absurd (omega (arith, h.1))

  holds_still : (past more : List (StepFacts K L D)) (life : Option (StateFacts K L D)) → HoldsBuilt past life
      → HoldsBuilt (past ++ more) life
  holds_still past more None holds = tt
  holds_still past more (Some x) holds = λ v p is. built_still past more p (holds v p is)

module _ {K L D : Type 0} (same : D → D → Bool) (decides : (d e : D) → same d e ≡ true → d ≡ e) (elect : Elect L)
    (term_length : ℕ) (past : List (StepFacts K L D)) (trace : List (TraceEvent D)) (m : MemberFacts K L D)
    (own : LivesAndTells term_length trace m) (votes : VotesBuilt past trace m) where
  -- a call

  answered : (call : CallFacts D) (x : StateFacts K L D) → m.life ≡ Some x
      → HoldsBuilt (past ++ Calls call ∷ []) (left_of same elect x m call).life
  answered call x alive = by_allowed (is_allowed x m.outstanding_work call) refl
    where
      as_before : HoldsBuilt (past ++ Calls call ∷ []) m.life
      as_before = holds_still past (Calls call ∷ []) m.life votes.holds

      by_fault : (f : Option Fault) → fault_of x call ≡ f → is_allowed x m.outstanding_work call ≡ true
          → HoldsBuilt (past ++ Calls call ∷ []) (left_of same elect x m call).life
      by_fault (Some f) refused allowed = rw (allowed, refused) as_before
      by_fault None no_fault allowed =
          let living = subst (λ life. LivesOn term_length trace m.closed own.lives.0 m.entries m.outstanding_work life)
          alive own.lives.1 in
          rw (allowed, no_fault) (call_held same decides elect past x m.outstanding_work call
          living.noted.2.contexts_placed allowed no_fault (subst (λ life. HoldsBuilt past life) alive votes.holds))

      by_allowed : (b : Bool) → is_allowed x m.outstanding_work call ≡ b
          → HoldsBuilt (past ++ Calls call ∷ []) (left_of same elect x m call).life
      by_allowed true allowed = by_fault (fault_of x call) refl allowed
      by_allowed false not_allowed = rw not_allowed as_before

  call_holds : (call : CallFacts D) (replied : ReplyFacts K D) (next : MemberFacts K L D)
      → IsCall same elect m call replied next → HoldsBuilt (past ++ Calls call ∷ []) next.life
  unfolding IsCall
  call_holds call replied next is_call = by_life m.life refl is_call
    where
      by_life : (o : Option (StateFacts K L D)) → m.life ≡ o → AnswersAlive same elect o m call replied next
          → HoldsBuilt (past ++ Calls call ∷ []) next.life
      by_life None dead (tells, leaves) = rw leaves (holds_still past (Calls call ∷ []) m.life votes.holds)
      by_life (Some x) alive (inl (tells, leaves)) = rw leaves (answered call x alive)
      by_life (Some x) alive (inr (allowed, tells, inl (_, leaves))) =
          rw leaves (holds_still past (Calls call ∷ []) m.life votes.holds)
      by_life (Some x) alive (inr (allowed, tells, inr (no_fault, falls, leaves))) = rw leaves tt

  new_vote : (call : CallFacts D) (replied : ReplyFacts K D) (i : ℕ) (p : Proposal D) (o : Option (StateFacts K L D))
      → HoldsBuilt past o → ExactAt same elect o (Calls call) replied
      → Contains (signed_in replied) (Signs i (subject.Notarize p)) → WasBuilt past p
  new_vote call replied i p None holds exact h =
      absurd (let none = subst (λ ds. Contains ds (Signs i (subject.Notarize p))) exact h in omega (arith, none.1))
  new_vote call replied i p (Some x) holds exact h = let found = noted_held same elect x call replied i p exact h in
      holds found.0 p found.1

  pub call_builds : (call : CallFacts D) (replied : ReplyFacts K D) (next : MemberFacts K L D)
      → IsCall same elect m call replied next
      → VotesBuilt (past ++ Calls call ∷ []) (trace ++ trace_of_call call replied)
      next
  call_builds call replied next is_call = record {
    holds = call_holds call replied next is_call;
    voted = λ p h. built_still past (Calls call ∷ []) p
        (elim (signed_cases trace (trace_of_call call replied) (subject.Notarize p) h) [
          | inl old ↦ votes.voted p old
          | inr new ↦ elim (Contains-append_cases (accepted_by call replied) (signed_in replied)
              (Signs new.0 (subject.Notarize p)) new.1) [
                | inl accepted ↦ absurd (accepted_signs_none call replied new.0 (subject.Notarize p) accepted)
                | inr signed ↦ new_vote call replied new.0 p m.life votes.holds
                    (call_exact same elect m next call replied is_call)
                    signed
              ]
        ]);
  }

  -- a restart

  goes_on_holds : (n left : MemberFacts K L D) (r : RestartFacts K L D) (result : Result (Unit {0}) RecoverError)
      → RecoversByView same elect n r.start result left → HoldsBuilt (past ++ Restarts r ∷ []) left.life
  goes_on_holds n left r result (inl (is, leaves)) = rw leaves tt
  goes_on_holds n left r result (inr (copy, by_view, goes)) =
      by_error (recover_error same (new_state r.start.setup) r.start.floor r.start.now copy) refl goes
    where
      by_error : (o : Option RecoverError) → recover_error same (new_state r.start.setup) r.start.floor r.start.now
          copy ≡ o → MatchOption o ((result ≡ Ok tt) × (left ≡ new_lifetime same elect n r.start copy))
          (λ e. (result ≡ Err e) × (left ≡ without_lifetime n)) → HoldsBuilt (past ++ Restarts r ∷ []) left.life
      by_error None none (is, leaves) =
          let small = taken_small same (new_state r.start.setup) r.start.floor r.start.now copy none in
          rw leaves (recovered_held same decides elect (past ++ Restarts r ∷ []) r.start.now r.start.setup r.start.floor
          copy small.0 small.1)
      by_error (Some e) due (is, leaves) = rw leaves tt

  restart_holds : (next : MemberFacts K L D) (r : RestartFacts K L D) (result : Result (Unit {0}) RecoverError)
      → IsRestart same elect m r result next → HoldsBuilt (past ++ Restarts r ∷ []) next.life
  unfolding IsRestart
  restart_holds next r result restarts = by_test (retention_grows m r.prune r.start.setup.settings.view_retention)
      restarts
    where
      by_test : (b : Bool) → IsRestartWhere same elect b m r result next
          → HoldsBuilt (past ++ Restarts r ∷ []) next.life
      by_test true (is, leaves) = rw leaves (holds_still past (Restarts r ∷ []) m.life votes.holds)
      by_test false goes = goes_on_holds (cut_member m r.drop r.prune) next r result goes

  pub restart_builds : (next : MemberFacts K L D) (r : RestartFacts K L D) (result : Result (Unit {0}) RecoverError)
      → IsRestart same elect m r result next → VotesBuilt (past ++ Restarts r ∷ [])
      (trace ++ trace_at (Restarts r) (restart_reply {K = K} {D = D} result)) next
  restart_builds next r result restarts = record {
    holds = restart_holds next r result restarts;
    voted = λ p h. built_still past (Restarts r ∷ []) p
        (elim
        (signed_cases trace (trace_at (Restarts r) (restart_reply {K = K} {D = D} result)) (subject.Notarize p) h) [
          | inl old ↦ votes.voted p old
          | inr new ↦ absurd (restart_signs_none r result new.0 (subject.Notarize p) new.1)
        ]);
  }

  -- a pruning within the lifetime
  pub prune_builds : VotesBuilt (past ++ Prunes ∷ []) (trace ++ []) (pruned_member m)
  prune_builds = subst (λ all. VotesBuilt (past ++ Prunes ∷ []) all (pruned_member m)) (sym (append-nil trace))
      (record {
        holds = holds_still past (Prunes ∷ []) m.life votes.holds;
        voted = λ p h. built_still past (Prunes ∷ []) p (votes.voted p h);
      })

-- a run

module _ {K L D : Type 0} (same : D → D → Bool) (decides : (d e : D) → same d e ≡ true → d ≡ e)
    (itself : (d : D) → same d d ≡ true) (elect : Elect L) (term_length : ℕ) (some : 0 < term_length) where
  one_more : (past : List (StepFacts K L D)) (step : StepFacts K L D) (steps : List (StepFacts K L D))
      (trace at rest : List (TraceEvent D)) (end : MemberFacts K L D)
      → VotesBuilt ((past ++ step ∷ []) ++ steps) ((trace ++ at) ++ rest) end
      → VotesBuilt (past ++ step ∷ steps) (trace ++ (at ++ rest)) end
  one_more past step steps trace at rest end votes =
      subst (λ all. VotesBuilt (past ++ step ∷ steps) all end) (append_assoc trace at rest)
      (subst (λ all. VotesBuilt all ((trace ++ at) ++ rest) end) (append_assoc past (step ∷ []) steps) votes)

  run_builds : (steps : List (StepFacts K L D)) (replies : List (ReplyFacts K D)) (past : List (StepFacts K L D))
      (trace : List (TraceEvent D)) (m end : MemberFacts K L D) → KeepTerms term_length steps
      → LivesAndTells term_length trace m → VotesBuilt past trace m → IsRun same elect m steps replies end
      → VotesBuilt (past ++ steps) (trace ++ trace_of_steps steps replies) end
  run_builds [] [] past trace m end fresh own votes run =
      subst (λ all. VotesBuilt all (trace ++ []) end) (sym (append-nil past))
      (subst (λ all. VotesBuilt past all end) (sym (append-nil trace))
      (subst (λ n. VotesBuilt past trace n) run votes))
  run_builds [] (replied ∷ replies) past trace m end fresh own votes run = absurd run
  run_builds (step ∷ steps) [] past trace m end fresh own votes run = absurd run
  run_builds (Calls call ∷ steps) (replied ∷ replies) past trace m end fresh own votes (next, is_step, rest) =
      one_more past (Calls call) steps trace (trace_at {L = L} (Calls call) replied) (trace_of_steps steps replies) end
      (run_builds steps replies (past ++ Calls call ∷ []) (trace ++ trace_of_call call replied) next end fresh
      (called same decides itself elect term_length some trace m next call replied own is_step)
      (call_builds same decides elect term_length past trace m own votes call replied next is_step)
      rest)
  run_builds (Prunes ∷ steps) (replied ∷ replies) past trace m end fresh own votes (next, (tells, leaves), rest) =
      rw tells (one_more past Prunes steps trace [] (trace_of_steps steps replies) end
      (run_builds steps replies (past ++ Prunes ∷ []) (trace ++ []) next end fresh
      (rw leaves (pruned same decides itself elect term_length some trace m own))
      (rw leaves (prune_builds same decides elect term_length past trace m own votes))
      rest))
  run_builds (Restarts r ∷ steps) (replied ∷ replies) past trace m end fresh own votes
      (next, (result, restarts, tells), rest) =
      one_more past (Restarts r) steps trace (trace_at (Restarts r) replied) (trace_of_steps steps replies) end
      (run_builds steps replies (past ++ Restarts r ∷ []) (trace ++ trace_at (Restarts r) replied) next end fresh.1
      (restarted same decides itself elect term_length some trace m next r replied fresh.0 own
      (result, restarts, tells))
      (subst (λ reply. VotesBuilt (past ++ Restarts r ∷ []) (trace ++ trace_at (Restarts r) reply) next) (sym tells)
      (restart_builds same decides elect term_length past trace m own votes next r result restarts))
      rest)

module _ {K L D : Type 0} (same : D → D → Bool) (decides : (d e : D) → same d e ≡ true → d ≡ e)
    (itself : (d : D) → same d d ≡ true) (elect : Elect L) (term_length : ℕ) (start : StartFacts K L D)
    (begins : HasTerms term_length start.setup)
    (accepted : recover_error same (new_state start.setup) start.floor start.now [] ≡ None) where
  start_builds : VotesBuilt [] (of_floor start.floor) (new_member same elect start)
  unfolding recovered_state
  start_builds =
      let small = taken_small same (new_state start.setup) start.floor start.now [] accepted in
      record {
        holds = recovered_held same decides elect [] start.now start.setup start.floor [] small.0 small.1;
        voted = λ p h. absurd (floor_signs_none start.floor h.0 (subject.Notarize p) h.1);
      }

  -- a copy of a member's own record is refused for a view that is too large only where the next floor names one, or the
  -- member
  -- voted in one
  pub own_high_voted : (steps : List (StepFacts K L D)) (replies : List (ReplyFacts K D)) (end : MemberFacts K L D)
      (next : RestartFacts K L D) (copy : List (ArtifactFacts D)) → KeepTerms term_length steps
      → IsRun same elect (new_member same elect start) steps replies end
      → IsByView (cut_member end next.drop next.prune).entries copy
      → recover_error same (new_state next.start.setup) next.start.floor next.start.now copy ≡ Some error.ViewTooLarge
      → (is_floor_too_large next.start.floor ≡ true)
      ⊎ VotedTooHigh steps (of_floor start.floor ++ trace_of_steps steps replies)
  own_high_voted steps replies end next copy fresh run by_view is =
      let trace = of_floor start.floor ++ trace_of_steps steps replies in
      let first = start_own same decides itself elect term_length start begins in
      let own = run_own same decides itself elect term_length begins.some steps replies (of_floor start.floor)
      (new_member same elect start) end fresh first run in
      let small = small_both (of_floor start.floor) (trace_of_steps steps replies)
      (floor_small same (new_state start.setup) start.floor start.now [] accepted)
      (steps_small same elect steps replies (new_member same elect start) end run) in
      let built = run_builds same decides itself elect term_length begins.some steps replies [] (of_floor start.floor)
      (new_member same elect start) end fresh first start_builds run in
      elim (copy_high same decides itself elect term_length begins.some trace end next copy small own by_view is) [
        | inl floor ↦ inl floor
        | inr (inl nullified) ↦ inr (inl nullified)
        | inr (inr (p, signed, high)) ↦
            inr (inr (p, signed, high, built.voted p signed (le-leb (2 ^ 63) p.round.view high)))
      ]
