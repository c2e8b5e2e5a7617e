-- A vote to nullify comes after what led to its view: the execution up to the vote's step is a run itself.
use Rattle.std.proofs.Common.{◌≡◌, refl, ap, sym, ◌∙◌, subst, inl, inr, ℕ, Bool, true, List, [], ◌∷◌, ◌++◌, append_assoc, length, length-append, map, Contains, Some, arith}
use Rattle.std.proofs.lemmas.List.{append-nil}
use Rattle.std.proofs.lemmas.List.Elements.{Contains-append_cases, Contains-append_left}
use Rattle.simplex_types.specs.Certificates.{ArtifactFacts, NotarizeVote, NullifyVote, FinalizeVote}
use Rattle.simplex_types.specs.declared.types.messages.Proposal.{Proposal}
use Rattle.simplex_types.specs.declared.types.messages.Subject.{Subject}
use Rattle.simplex_types.specs.declared.types.messages.Subject.TheVariants as subject
use Rattle.simplex_types.specs.declared.types.numbers.Round.{Round}
use Rattle.simplex_voter.specs.Facts.{Elect}
use Rattle.simplex_member.specs.Calls.{CallFacts, ReplyFacts, Added, AddedNullification, Nullify, Finalize, Notarize, Restarted, AddNotarization, AddNullification, AddFinalization}
use Rattle.simplex_member.specs.MemberFacts.{MemberFacts}
use Rattle.simplex_member.specs.Runs.{StepFacts, Calls, Prunes, Restarts, IsRun, IsRunFrom}
use Rattle.laws_safety.specs.Continuations.{ExecutionContinues}
use Rattle.laws_safety.specs.Traces.{TraceEvent, Accepts, Signs, passed_certificates, of_floor, of_vote, trace_at, trace_of_steps}
use Rattle.laws_safety.specs.Lawful.{SignsAfter}
use Rattle.laws_safety.specs.Executions.{new_member, Execution, trace_of, IsExecution}
use Rattle.laws_safety.proofs.agreement.VoteOrder.{Contains-middle}
use Rattle.laws_safety.proofs.lives.WithinRuns.{run_from_before}
use Rattle.laws_safety.proofs.lists.Splits.{only_one}
use Rattle.laws_safety.proofs.records.RememberedVotes.{append_split, none_split}
use Rattle.laws_progress.specs.ViewCauses.{IsLedTo, First, PastFinalized, PastCertified, PastNullified, judged_by, judged_in, judged_of}
use Rattle.laws_progress.proofs.runs.LedLives.{floor_signs_none, nullified_led}
use Rattle.laws_progress.proofs.runs.Onward.{judged_joined, paired}

single_split : {X : Type 0} (y d : X) (before after : List X) → y ∷ [] ≡ before ++ d ∷ after → (before ≡ []) × (y ≡ d)
single_split y d [] after is = (refl, cc)
single_split y d (b ∷ []) after is = absurd (cc)
single_split y d (b ∷ (c ∷ before)) after is = absurd (cc)

-- a list of the vote alone is split there
module _ {D : Type 0} (signer : ℕ) (round : Round) where
  abbrev vote : TraceEvent D
  vote = Signs signer (subject.Nullify round)

  abbrev IsAlone : List (TraceEvent D) → List (TraceEvent D) → Type 0
  IsAlone trace before = (before ≡ []) × (trace ≡ vote ∷ [])

  one_split : (trace_event : TraceEvent D) (before after : List (TraceEvent D))
      → trace_event ∷ [] ≡ before ++ vote ∷ after → IsAlone (trace_event ∷ []) before
  one_split trace_event before after is =
      (let one = single_split trace_event vote before after is in (one.0, ap (λ (z : TraceEvent D). z ∷ []) one.1))

  entry_split : (entry : ArtifactFacts D) (before after : List (TraceEvent D)) → of_vote entry ≡ before ++ vote ∷ after
      → IsAlone (of_vote entry) before
  entry_split (NotarizeVote p i) before after is = one_split _ before after is
  entry_split (NullifyVote r i) before after is = one_split _ before after is
  entry_split (FinalizeVote p i) before after is = one_split _ before after is
  entry_split _ before after is = absurd (none_split before after vote is)

  -- none is passed in
  no_certificate : (call : CallFacts D) (before after : List (TraceEvent D))
      → passed_certificates call ++ [] ≡ before ++ vote ∷ after → ⊥
  no_certificate (AddNotarization c) before after is = let one = single_split _ vote before after is in
      let apart = one.1 in cc
  no_certificate (AddNullification c now) before after is = let one = single_split _ vote before after is in
      let apart = one.1 in cc
  no_certificate (AddFinalization c now) before after is = let one = single_split _ vote before after is in
      let apart = one.1 in cc
  no_certificate _ before after is = none_split before after vote is

  no_floor : (floor : _) (before after : List (TraceEvent D)) → of_floor floor ≡ before ++ vote ∷ after → ⊥
  no_floor floor before after is = floor_signs_none floor round
      (signer, subst (λ ds. Contains ds vote) (sym is) (Contains-middle before after vote))

  -- the vote is all that its step does, and no verdict is received then
  record IsAll {K L : Type 0} (step : StepFacts K L D) (replied : ReplyFacts K D) (before : List (TraceEvent D)) : Type
      0 where
    alone : IsAlone (trace_at step replied) before
    no_verdict : judged_by replied ≡ []

  call_all : {K L : Type 0} (call : CallFacts D) (replied : ReplyFacts K D) (before after : List (TraceEvent D))
      → trace_at {L = L} (Calls call) replied ≡ before ++ vote ∷ after → IsAll {L = L} (Calls call) replied before
  call_all call (Added b o) before after is = absurd (no_certificate call before after is)
  call_all call (AddedNullification b) before after is = absurd (no_certificate call before after is)
  call_all call (Nullify (Some (retry, entry))) before after is =
      record { alone = entry_split entry before after is; no_verdict = refl }
  call_all call (Finalize (Some entry)) before after is =
      record { alone = entry_split entry before after is; no_verdict = refl }
  call_all call (Notarize (Some entry)) before after is =
      record { alone = entry_split entry before after is; no_verdict = refl }
  call_all call _ before after is = absurd (none_split before after vote is)

  restart_all : {K L : Type 0} (r : _) (replied : ReplyFacts K D) (before after : List (TraceEvent D))
      → trace_at {L = L} (Restarts r) replied ≡ before ++ vote ∷ after → IsAll {L = L} (Restarts r) replied before
  restart_all r (Nullify (Some (retry, entry))) before after is =
      record { alone = entry_split entry before after is; no_verdict = refl }
  restart_all r (Finalize (Some entry)) before after is =
      record { alone = entry_split entry before after is; no_verdict = refl }
  restart_all r (Notarize (Some entry)) before after is =
      record { alone = entry_split entry before after is; no_verdict = refl }
  restart_all r Restarted before after is =
      absurd (no_floor r.start.floor before after (sym (append-nil (of_floor r.start.floor)) ∙ is))
  restart_all r _ before after is = absurd (none_split before after vote is)

  prune_all : {K L : Type 0} (replied : ReplyFacts K D) (before after : List (TraceEvent D))
      → trace_at {L = L} Prunes replied ≡ before ++ vote ∷ after → IsAll {L = L} Prunes replied before
  prune_all (Nullify (Some (retry, entry))) before after is =
      record { alone = entry_split entry before after is; no_verdict = refl }
  prune_all (Finalize (Some entry)) before after is =
      record { alone = entry_split entry before after is; no_verdict = refl }
  prune_all (Notarize (Some entry)) before after is =
      record { alone = entry_split entry before after is; no_verdict = refl }
  prune_all _ before after is = absurd (none_split before after vote is)

  step_all : {K L : Type 0} (step : StepFacts K L D) (replied : ReplyFacts K D) (before after : List (TraceEvent D))
      → trace_at step replied ≡ before ++ vote ∷ after → IsAll step replied before
  step_all (Calls call) replied before after is = call_all call replied before after is
  step_all Prunes replied before after is = prune_all replied before after is
  step_all (Restarts r) replied before after is = restart_all r replied before after is

-- the vote's step, in a run

module _ {K L D : Type 0} (same : D → D → Bool) (elect : Elect L) (signer : ℕ) (round : Round) where
  record VoteAt (steps : List (StepFacts K L D)) (replies : List (ReplyFacts K D)) (before : List (TraceEvent D)) : Type
      0 where
    first : List (StepFacts K L D)
    replied : List (ReplyFacts K D)
    as_many : length first ≡ length replied
    step : StepFacts K L D
    reply : ReplyFacts K D
    more : List (StepFacts K L D × ReplyFacts K D)
    steps_are : steps ≡ first ++ step ∷ map (λ e. e.0) more
    replies_are : replies ≡ replied ++ reply ∷ map (λ e. e.1) more
    done : trace_of_steps first replied ≡ before
    alone : trace_at step reply ≡ vote signer round ∷ []
    no_verdict : judged_by reply ≡ []

  vote_at : (steps : List (StepFacts K L D)) (replies : List (ReplyFacts K D)) (m end : MemberFacts K L D)
      → IsRun same elect m steps replies end → (before after : List (TraceEvent D))
      → trace_of_steps steps replies ≡ before ++ vote signer round ∷ after → VoteAt steps replies before
  vote_at [] [] m end run before after is = absurd (none_split before after (vote signer round) is)
  vote_at [] (reply ∷ replies) m end run before after is = absurd run
  vote_at (step ∷ steps) [] m end run before after is = absurd run
  vote_at (step ∷ steps) (reply ∷ replies) m end (next, is_step, run) before after is =
      elim (append_split (trace_at step reply) (trace_of_steps steps replies) before after (vote signer round) is) [
        | inl (rest, here) ↦ (
            let all = step_all signer round step reply before rest here in
            let pairs = paired same elect steps replies next end run in
            record {
              first = [];
              replied = [];
              as_many = refl;
              step = step;
              reply = reply;
              more = pairs.0;
              steps_are = ap (λ (ss : List (StepFacts K L D)). step ∷ ss) (sym pairs.1);
              replies_are = ap (λ (rs : List (ReplyFacts K D)). reply ∷ rs) (sym pairs.2);
              done = sym all.alone.0;
              alone = all.alone.1;
              no_verdict = all.no_verdict;
            })
        | inr (later, before_is, there) ↦ (
            let v = vote_at steps replies next end run later after there in
            record {
              first = step ∷ v.first;
              replied = reply ∷ v.replied;
              as_many = omega (arith, v.as_many);
              step = v.step;
              reply = v.reply;
              more = v.more;
              steps_are = ap (λ (ss : List (StepFacts K L D)). step ∷ ss) v.steps_are;
              replies_are = ap (λ (rs : List (ReplyFacts K D)). reply ∷ rs) v.replies_are;
              done = ap (λ (ds : List (TraceEvent D)). trace_at step reply ++ ds) v.done ∙ sym before_is;
              alone = v.alone;
              no_verdict = v.no_verdict;
            })
      ]

-- the execution up to the vote's step

trace_pushed : {K L D : Type 0} (steps : List (StepFacts K L D)) (replies : List (ReplyFacts K D))
    (step : StepFacts K L D) (reply : ReplyFacts K D) → length steps ≡ length replies
    → trace_of_steps (steps ++ step ∷ []) (replies ++ reply ∷ []) ≡ trace_of_steps steps replies ++ trace_at step reply
trace_pushed [] [] step reply as_many = append-nil (trace_at step reply)
trace_pushed [] (r ∷ replies) step reply as_many = absurd (omega (arith, as_many))
trace_pushed (s ∷ steps) [] step reply as_many = absurd (omega (arith, as_many))
trace_pushed (s ∷ steps) (r ∷ replies) step reply as_many =
    ap (λ ds. trace_at s r ++ ds) (trace_pushed steps replies step reply (omega (arith, as_many)))
    ∙ sym (append_assoc (trace_at s r) (trace_of_steps steps replies) (trace_at step reply))

-- the vote itself leads to no view
module _ {D : Type 0} (term_length epoch signer : ℕ) (round : Round) (before : List (TraceEvent D))
    (verdicts : List (Bool × Proposal D)) (view : ℕ) where
  accepted_before : (c : Subject D) → Contains (before ++ vote signer round ∷ []) (Accepts c)
      → Contains before (Accepts c)
  accepted_before c h = elim (Contains-append_cases before (vote signer round ∷ []) (Accepts c) h)
      [ inl old ↦ old | inr new ↦ absurd (let e = only_one _ _ new in cc) ]

  led_before : IsLedTo term_length epoch (before ++ vote signer round ∷ []) verdicts view
      → IsLedTo term_length epoch before verdicts view
  led_before (First is) = First is
  led_before (PastFinalized below (p, h, is_in) is) =
      PastFinalized below (p, accepted_before (subject.Finalize p) h, is_in) is
  led_before (PastCertified below h is) = PastCertified below h is
  led_before (PastNullified below (r, h, is_in) is) =
      PastNullified below (r, accepted_before (subject.Nullify r) h, is_in) is

module _ {K L D : Type 0} (same : D → D → Bool) (decides : (d e : D) → same d e ≡ true → d ≡ e) (elect : Elect L)
    (term_length i : ℕ) (s : Execution K L D) (ran : IsExecution same elect term_length i s) (signer : ℕ)
    (round : Round) (before later : List (TraceEvent D))
    (before_is : before ≡ of_floor s.start.floor ++ later)
    (v : VoteAt same elect signer round s.steps s.replies later) where
  abbrev earlier : Execution K L D
  earlier = record s { steps = v.first; replies = v.replied }

  -- with the vote's step
  abbrev until : Execution K L D
  until = record s { steps = v.first ++ v.step ∷ []; replies = v.replied ++ v.reply ∷ [] }

  continues : ExecutionContinues earlier s
  continues = ((v.step, v.reply) ∷ v.more, λ j. record s { steps = v.steps_are j; replies = v.replies_are j })

  trace_is : trace_of earlier ≡ before
  trace_is = ap (λ ds. of_floor s.start.floor ++ ds) v.done ∙ sym before_is

  until_trace : trace_of until ≡ before ++ vote signer round ∷ []
  until_trace =
      ap (λ ds. of_floor s.start.floor ++ ds)
      (trace_pushed v.first v.replied v.step v.reply v.as_many
      ∙ ap (λ ds. trace_of_steps v.first v.replied ++ ds) v.alone)
      ∙ (sym (append_assoc (of_floor s.start.floor) (trace_of_steps v.first v.replied) (vote signer round ∷ []))
      ∙ ap (λ ds. ds ++ vote signer round ∷ []) trace_is)

  until_judged : judged_of until ≡ judged_of earlier
  until_judged = judged_joined v.replied (v.reply ∷ [])
      ∙ (ap (λ ps. judged_in v.replied ++ (ps ++ [])) v.no_verdict ∙ append-nil (judged_in v.replied))

  steps_whole : s.steps ≡ (v.first ++ v.step ∷ []) ++ map (λ e. e.0) v.more
  steps_whole = v.steps_are ∙ sym (append_assoc v.first (v.step ∷ []) (map (λ e. e.0) v.more))

  replies_whole : s.replies ≡ (v.replied ++ v.reply ∷ []) ++ map (λ e. e.1) v.more
  replies_whole = v.replies_are ∙ sym (append_assoc v.replied (v.reply ∷ []) (map (λ e. e.1) v.more))

  until_ran : IsExecution same elect term_length i until
  until_ran = record {
    lives = record {
      first = ran.lives.first;
      later = λ r h. ran.lives.later r (subst (λ ss. Contains ss (Restarts r)) (sym steps_whole)
          (Contains-append_left (v.first ++ v.step ∷ []) (map (λ e. e.0) v.more) (Restarts r) h));
    };
    run = run_from_before same elect s.start (v.first ++ v.step ∷ []) (map (λ e. e.0) v.more)
        (v.replied ++ v.reply ∷ [])
        (map (λ e. e.1) v.more)
        (omega (arith, v.as_many, length-append v.first (v.step ∷ []), length-append v.replied (v.reply ∷ [])))
        (subst (λ ss. IsRunFrom same elect s.start ss ((v.replied ++ v.reply ∷ []) ++ map (λ e. e.1) v.more))
        steps_whole
        (subst (λ rs. IsRunFrom same elect s.start s.steps rs) replies_whole ran.run));
  }

  of_step : (t : Execution K L D) × ExecutionContinues t s × (trace_of t ≡ before)
      × IsLedTo term_length round.epoch before (judged_of t) round.view
  of_step = (
    earlier,
    continues,
    trace_is,
    led_before term_length round.epoch signer round before (judged_of earlier) round.view
        (subst (λ ds. IsLedTo term_length round.epoch ds (judged_of earlier) round.view) until_trace
        (subst (λ ps. IsLedTo term_length round.epoch (trace_of until) ps round.view) until_judged
        (nullified_led same decides elect term_length i until until_ran round (
          signer,
          subst (λ ds. Contains ds (vote signer round)) (sym until_trace)
              (Contains-middle before [] (vote signer round)),
        )))),
  )

pub vote_ordered : {K L D : Type 0} (same : D → D → Bool) (decides : (d e : D) → same d e ≡ true → d ≡ e)
    (elect : Elect L) (term_length i : ℕ) (s : Execution K L D) → IsExecution same elect term_length i s
    → (before : List (TraceEvent D)) (round : Round) → SignsAfter (trace_of s) before (subject.Nullify round)
    → (earlier : Execution K L D) × ExecutionContinues earlier s × (trace_of earlier ≡ before)
    × IsLedTo term_length round.epoch before (judged_of earlier) round.view
unfolding IsRunFrom
vote_ordered same decides elect term_length i s ran before round (signer, after, is) =
    elim (append_split (of_floor s.start.floor) (trace_of_steps s.steps s.replies) before after (vote signer round)
    is) [
      | inl (rest, here) ↦ absurd (no_floor signer round s.start.floor before rest here)
      | inr (later, before_is, there) ↦ of_step same decides elect term_length i s ran signer round before later
          before_is
          (vote_at same elect signer round s.steps s.replies (new_member same elect s.start) ran.run.1 ran.run.2 later
          after there)
    ]
