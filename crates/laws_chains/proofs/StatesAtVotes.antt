-- The state of a member when it signed a vote: the execution up to there, and the rule that was true.
use Rattle.std.proofs.Common.{◌≡◌, refl, ap, sym, ◌∙◌, subst, ℕ, inl, inr, Bool, List, [], ◌∷◌, ◌++◌, Contains, Option, Some, None, is_some, arith}
use Rattle.std.specs.Prelude.{option_map}
use Rattle.std.proofs.lemmas.Bool.{false≢true}
use Rattle.std.proofs.lemmas.List.Elements.{Contains-append_left, Contains-append_right, Contains-append_cases}
use Rattle.simplex_types.specs.Config.{FloorFacts, Genesis, Finalized}
use Rattle.simplex_types.specs.declared.types.messages.Proposal.{Proposal}
use Rattle.simplex_types.specs.declared.types.messages.Subject.{Subject}
use Rattle.simplex_types.specs.declared.types.messages.Subject.TheVariants as subject
use Rattle.simplex_voter.specs.Facts.{StateFacts, Elect, round_number}
use Rattle.simplex_voter.specs.Rules.{NotarizeRule, NullifyRule, FinalizeRule}
use Rattle.simplex_member.specs.Calls.{CallFacts, AddNotarization, AddNullification, AddFinalization, ConstructNotarize, ConstructNullify, ConstructFinalize, ReplyFacts, Added, AddedNullification, Restarted}
use Rattle.simplex_member.specs.MemberFacts.{MemberFacts}
use Rattle.simplex_member.specs.Runs.{StepFacts, Calls, Prunes, Restarts, IsStep, IsRun, IsRunFrom}
use Rattle.laws_safety.specs.Traces.{TraceEvent, Signs, passed_certificates, of_floor, accepted_at, signed_in, trace_at, trace_of_steps}
use Rattle.laws_safety.specs.ExactVotes.{IsExact, proposal_at, ExactAt}
use Rattle.laws_safety.specs.Executions.{new_member, Execution, trace_of, IsExecution}
use Rattle.laws_safety.proofs.agreement.Exactly.{step_exact}
use Rattle.laws_safety.proofs.lists.Splits.{only_one}
use Rattle.laws_progress.specs.NetworkStates.{RunsWith}
use Rattle.laws_progress.specs.ViewCauses.{judged_in, judged_of}
use Rattle.laws_progress.proofs.runs.Onward.{judged_joined, traces_joined}

-- no vote is among what is accepted

module _ {D : Type 0} (i : ℕ) (vote : Subject D) where
  handed_none : (call : CallFacts D) → Contains (passed_certificates call) (Signs i vote) → ⊥
  handed_none (AddNotarization c) h = absurd (let e = only_one _ _ h in cc)
  handed_none (AddNullification c now) h = absurd (let e = only_one _ _ h in cc)
  handed_none (AddFinalization c now) h = absurd (let e = only_one _ _ h in cc)
  handed_none _ h = absurd (omega (arith, h.1))

  floor_none : (floor : FloorFacts D) → Contains (of_floor floor) (Signs i vote) → ⊥
  floor_none (Genesis payload) h = absurd (omega (arith, h.1))
  floor_none (Finalized c) h = absurd (let e = only_one _ _ h in cc)

  called_none : (K L : Type 0) (call : CallFacts D) (replied : ReplyFacts K D)
      → Contains (accepted_at {L = L} (Calls call) replied) (Signs i vote) → ⊥
  called_none K L call (Added b o) h = handed_none call h
  called_none K L call (AddedNullification b) h = handed_none call h
  called_none K L call _ h = absurd (omega (arith, h.1))

  accepted_none : {K L : Type 0} (step : StepFacts K L D) (replied : ReplyFacts K D)
      → Contains (accepted_at step replied) (Signs i vote) → ⊥
  accepted_none {K} {L} (Calls call) replied h = called_none K L call replied h
  accepted_none Prunes replied h = absurd (omega (arith, h.1))
  accepted_none (Restarts r) Restarted h = floor_none r.start.floor h
  accepted_none (Restarts r) _ h = absurd (omega (arith, h.1))

  unsigned : (ds : List (TraceEvent D)) → ds ≡ [] → Contains ds (Signs i vote) → ⊥
  unsigned ds none h = absurd (let g : Contains [] (Signs i vote) =
      subst (λ (es : List (TraceEvent D)). Contains es (Signs i vote)) none h in omega (arith, g.1))

-- the step that signs it

module _ {K L D : Type 0} (same : D → D → Bool) (elect : Elect L) (i : ℕ) (vote : Subject D) where
  record SignedIn (m : MemberFacts K L D) (steps : List (StepFacts K L D)) (replies : List (ReplyFacts K D)) : Type
      0 where
    first : List (StepFacts K L D)
    replied : List (ReplyFacts K D)
    more : List (StepFacts K L D)
    rest : List (ReplyFacts K D)
    steps_are : steps ≡ first ++ more
    replies_are : replies ≡ replied ++ rest
    middle : MemberFacts K L D
    run : IsRun same elect m first replied middle
    step : StepFacts K L D
    reply : ReplyFacts K D
    next : MemberFacts K L D
    is_step : IsStep same elect middle step reply next
    signs : Contains (signed_in reply) (Signs i vote)

  signed_at : (steps : List (StepFacts K L D)) (replies : List (ReplyFacts K D)) (m end : MemberFacts K L D)
      → IsRun same elect m steps replies end → Contains (trace_of_steps steps replies) (Signs i vote)
      → SignedIn m steps replies
  signed_at [] [] m end run h = absurd (omega (arith, h.1))
  signed_at [] (reply ∷ replies) m end run h = absurd run
  signed_at (step ∷ steps) [] m end run h = absurd run
  signed_at (step ∷ steps) (reply ∷ replies) m end (next, is_step, run) h =
      elim (Contains-append_cases (trace_at step reply) (trace_of_steps steps replies) (Signs i vote) h) [
        | inl here ↦ elim (Contains-append_cases (accepted_at step reply) (signed_in reply) (Signs i vote) here) [
          | inl accepted ↦ absurd (accepted_none i vote step reply accepted)
          | inr signs ↦ record {
            first = [];
            replied = [];
            more = step ∷ steps;
            rest = reply ∷ replies;
            steps_are = refl;
            replies_are = refl;
            middle = m;
            run = refl;
            step = step;
            reply = reply;
            next = next;
            is_step = is_step;
            signs = signs;
          }
        ]
        | inr later ↦ (
            let v = signed_at steps replies next end run later in
            record {
              first = step ∷ v.first;
              replied = reply ∷ v.replied;
              more = v.more;
              rest = v.rest;
              steps_are = ap (λ (ss : List (StepFacts K L D)). step ∷ ss) v.steps_are;
              replies_are = ap (λ (rs : List (ReplyFacts K D)). reply ∷ rs) v.replies_are;
              middle = v.middle;
              run = (next, is_step, v.run);
              step = v.step;
              reply = v.reply;
              next = v.next;
              is_step = v.is_step;
              signs = v.signs;
            })
      ]

-- the rule that holds there

module _ {K L D : Type 0} (same : D → D → Bool) (elect : Elect L) where
  -- the rule of a vote for a proposal holds at a view that holds the proposal
  abbrev pub RuleFor : StateFacts K L D → Subject D → Type 0
  RuleFor x (subject.Notarize p) = (v : ℕ) × NotarizeRule same elect x v × (proposal_at x v ≡ Some p)
  RuleFor x (subject.Finalize p) = (v : ℕ) × FinalizeRule elect x v × (proposal_at x v ≡ Some p)
  RuleFor x (subject.Nullify round) = Unit {0}

  module _ (x : StateFacts K L D) (v : ℕ) where
    of_notarize : NotarizeRule same elect x v → (o : Option (Proposal D)) → proposal_at x v ≡ o → (vote : Subject D)
        → option_map subject.Notarize o ≡ Some vote → RuleFor x vote
    of_notarize rule None holds vote is = absurd (false≢true (ap is_some is))
    of_notarize rule (Some p) holds (subject.Notarize q) is =
        (let one : p ≡ q = cc in (v, rule, holds ∙ ap (λ (k : Proposal D). Some k) one))
    of_notarize rule (Some p) holds (subject.Finalize q) is = absurd (cc)
    of_notarize rule (Some p) holds (subject.Nullify round) is = tt

    of_finalize : FinalizeRule elect x v → (o : Option (Proposal D)) → proposal_at x v ≡ o → (vote : Subject D)
        → option_map subject.Finalize o ≡ Some vote → RuleFor x vote
    of_finalize rule None holds vote is = absurd (false≢true (ap is_some is))
    of_finalize rule (Some p) holds (subject.Finalize q) is =
        (let one : p ≡ q = cc in (v, rule, holds ∙ ap (λ (k : Proposal D). Some k) one))
    of_finalize rule (Some p) holds (subject.Notarize q) is = absurd (cc)
    of_finalize rule (Some p) holds (subject.Nullify round) is = tt

    of_nullify : (vote : Subject D) → Some (subject.Nullify (round_number x v)) ≡ Some vote → RuleFor x vote
    of_nullify (subject.Notarize p) is = absurd (cc)
    of_nullify (subject.Finalize p) is = absurd (cc)
    of_nullify (subject.Nullify round) is = tt

  -- it holds of the member that signs
  abbrev pub IsRuled : StateFacts K L D → ℕ → Subject D → Type 0
  IsRuled x i vote = RuleFor x vote × (x.me ≡ Some i)

  module _ (i : ℕ) (vote : Subject D) where
    by_exact : (x : StateFacts K L D) (Rule : Type 0) (about : Option (Subject D)) (replied : ReplyFacts K D)
        → ((given : Subject D) → Rule → about ≡ Some given → RuleFor x given) → IsExact Rule x.me about replied
        → Contains (signed_in replied) (Signs i vote) → IsRuled x i vote
    by_exact x Rule about replied ruled exact signs =
        let found = exact.only (Signs i vote) signs in
        let signed = found.1 in
        let so : Signs i vote ≡ Signs signed.0 signed.1 = signed.4 in
        let who : i ≡ signed.0 = cc in
        let what : vote ≡ signed.1 = cc in
        (subst (RuleFor x) (sym what) (ruled signed.1 found.0 signed.3), signed.2 ∙ ap (λ (k : ℕ). Some k) (sym who))

    call_ruled : (x : StateFacts K L D) (call : CallFacts D) (replied : ReplyFacts K D)
        → ExactAt same elect (Some x) (Calls call) replied → Contains (signed_in replied) (Signs i vote)
        → IsRuled x i vote
    call_ruled x (ConstructNullify v) replied exact signs =
        by_exact x (NullifyRule x v) (Some (subject.Nullify (round_number x v))) replied
        (λ given rule is. of_nullify x v given is) exact signs
    call_ruled x (ConstructFinalize v) replied exact signs =
        by_exact x (FinalizeRule elect x v) (option_map subject.Finalize (proposal_at x v)) replied
        (λ given rule is. of_finalize x v rule (proposal_at x v) refl given is) exact signs
    call_ruled x (ConstructNotarize v) replied exact signs =
        by_exact x (NotarizeRule same elect x v) (option_map subject.Notarize (proposal_at x v)) replied
        (λ given rule is. of_notarize x v rule (proposal_at x v) refl given is) exact signs
    call_ruled x _ replied exact signs = absurd (unsigned i vote (signed_in replied) exact signs)

    step_ruled : (x : StateFacts K L D) (step : StepFacts K L D) (replied : ReplyFacts K D)
        → ExactAt same elect (Some x) step replied → Contains (signed_in replied) (Signs i vote) → IsRuled x i vote
    step_ruled x (Calls call) replied exact signs = call_ruled x call replied exact signs
    step_ruled x Prunes replied exact signs = absurd (unsigned i vote (signed_in replied) exact signs)
    step_ruled x (Restarts r) replied exact signs = absurd (unsigned i vote (signed_in replied) exact signs)

    life_ruled : (life : Option (StateFacts K L D)) (step : StepFacts K L D) (replied : ReplyFacts K D)
        → ExactAt same elect life step replied → Contains (signed_in replied) (Signs i vote)
        → (x : StateFacts K L D) × (life ≡ Some x) × IsRuled x i vote
    life_ruled None step replied exact signs = absurd (unsigned i vote (signed_in replied) exact signs)
    life_ruled (Some x) step replied exact signs = (x, refl, step_ruled x step replied exact signs)

-- the execution up to there

module _ {K L D : Type 0} (same : D → D → Bool) (elect : Elect L) (term_length member : ℕ) (s : Execution K L D) where
  -- a state that the execution has on its way
  pub record StateWhere (Holds : StateFacts K L D → Type 0) : Type 0 where
    pub steps : List (StepFacts K L D)
    pub replies : List (ReplyFacts K D)
    pub ran : IsExecution same elect term_length member (record s { steps = steps; replies = replies })
    pub x : StateFacts K L D
    pub lives : RunsWith same elect (record s { steps = steps; replies = replies }) x
    pub trace_within : (d : TraceEvent D) → Contains (trace_of (record s { steps = steps; replies = replies })) d
        → Contains (trace_of s) d
    pub judged_within : (j : Bool × Proposal D) → Contains (judged_of (record s { steps = steps; replies = replies })) j
        → Contains (judged_of s) j
    pub restarts_within : (r : _) → Contains steps (Restarts r) → Contains s.steps (Restarts r)
    pub holds : Holds x

  abbrev pub StateAtVote : ℕ → Subject D → Type 0
  StateAtVote i vote = StateWhere (λ x. IsRuled same elect x i vote)

  module _ (ran : IsExecution same elect term_length member s) where
    pub state_where : (Holds : StateFacts K L D → Type 0) (first more : List (StepFacts K L D))
        (replied rest : List (ReplyFacts K D)) (middle : MemberFacts K L D) → s.steps ≡ first ++ more
        → s.replies ≡ replied ++ rest → IsRun same elect (new_member same elect s.start) first replied middle
        → (x : StateFacts K L D) → middle.life ≡ Some x → Holds x → StateWhere Holds
    unfolding IsRunFrom
    state_where Holds first more replied rest middle steps_are replies_are run x alive holds =
        record {
          steps = first;
          replies = replied;
          ran = record {
            lives = record {
              first = ran.lives.first;
              later = λ r h. ran.lives.later r (within r h);
            };
            run = (ran.run.0, middle, run);
          };
          x = x;
          lives = (middle, run, alive);
          trace_within = λ d h. (
              let joined = traces_joined same elect first more replied rest
              (new_member same elect s.start) middle run in
              let whole : trace_of
              s ≡ (of_floor s.start.floor ++ (trace_of_steps first replied ++ trace_of_steps more rest)) =
              (λ j. of_floor s.start.floor ++ trace_of_steps (steps_are j) (replies_are j))
              ∙ ap (λ ds. of_floor s.start.floor ++ ds) joined in
              subst (λ ds. Contains ds d) (sym whole)
              (elim (Contains-append_cases (of_floor s.start.floor) (trace_of_steps first replied) d h) [
                | inl begun ↦ Contains-append_left (of_floor s.start.floor) _ d begun
                | inr done ↦ Contains-append_right (of_floor s.start.floor) _ d
                    (Contains-append_left (trace_of_steps first replied) (trace_of_steps more rest) d done)
              ]));
          judged_within = λ j h. subst (λ ps. Contains ps j)
              (sym (ap (λ rs. judged_in rs) replies_are ∙ judged_joined replied rest))
              (Contains-append_left (judged_in replied) (judged_in rest) j h);
          restarts_within = within;
          holds = holds;
        }
      where
        within : (r : _) → Contains first (Restarts r) → Contains s.steps (Restarts r)
        within r h = subst (λ ss. Contains ss (Restarts r)) (sym steps_are)
            (Contains-append_left first more (Restarts r) h)

    from_step : (i : ℕ) (vote : Subject D) → SignedIn same elect i vote (new_member same elect s.start) s.steps
        s.replies → StateAtVote i vote
    from_step i vote v =
        let at = life_ruled same elect i vote v.middle.life v.step v.reply
        (step_exact same elect v.middle v.next v.step v.reply v.is_step) v.signs in
        state_where (λ x. IsRuled same elect x i vote) v.first v.more v.replied v.rest v.middle v.steps_are
        v.replies_are
        v.run at.0 at.1 at.2

    pub state_at_vote : (i : ℕ) (vote : Subject D) → Contains (trace_of s) (Signs i vote) → StateAtVote i vote
    unfolding IsRunFrom
    state_at_vote i vote h =
        elim (Contains-append_cases (of_floor s.start.floor) (trace_of_steps s.steps s.replies) (Signs i vote) h) [
          | inl begun ↦ absurd (floor_none i vote s.start.floor begun)
          | inr done ↦ from_step i vote
              (signed_at same elect i vote s.steps s.replies (new_member same elect s.start) ran.run.1 ran.run.2 done)
        ]
