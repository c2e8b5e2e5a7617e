-- For the code of the engine. What is done is caused by what is at hand, step by step.
use Rattle.std.proofs.Common.{◌≡◌, ◌∙◌, refl, ap, sym, subst, ℕ, Bool, true, false, cond, inl, inr, List, [], ◌∷◌, ◌++◌, append_assoc, append-nil, Option, Some, Result, Ok, Err, ◌⊎◌, ◌≤◌, ◌||◌, arith, None, ◌&&◌, ◌==◌}
use Rattle.std.specs.Prelude.{IfOk, IsErrAnd, OnOk, option_map, option_to_list, nat_le}
use Rattle.std.proofs.lemmas.Bool.{false≢true, or_cases, or_left, or_right}
use Rattle.std.proofs.lemmas.List.{map-append}
use Rattle.std.proofs.lemmas.Result.{err_from_is_err_and}
use Rattle.simplex_types.specs.Certificates.{certificate_facts}
use Rattle.simplex_types.specs.Encoding.{certificate_subject}
use Rattle.simplex_types.specs.MessageViews.{subject_view}
use Rattle.simplex_types.specs.declared.types.messages.Proposal.{Proposal}
use Rattle.simplex_types.specs.declared.types.messages.Subject.{Subject}
use Rattle.simplex_types.specs.declared.types.messages.Subject.TheVariants as subject
use Rattle.simplex_resolver.specs.CallHistory.{LawfulResolverFacts}
use Rattle.simplex_voter.specs.Facts.{Elect, StateFacts}
use Rattle.simplex_member.specs.Calls.{CallFacts, reply_facts}
use Rattle.simplex_member.specs.MemberFacts.{MemberFacts, IsCall}
use Rattle.simplex_member.specs.PrunedRecord.{pruned_member}
use Rattle.simplex_member.specs.Runs.{StepFacts, Calls, Prunes, Restarts}
use Rattle.simplex_member.specs.declared.member.calls.Reply.{Reply}
use Rattle.simplex_member.specs.declared.member.calls.Reply.TheVariants as reply
use Rattle.simplex_member.specs.declared.member.journal.Stored.{Stored}
use Rattle.engine_votes.specs.StoredVotes.{held, kind_of, IsCounted}
use Rattle.engine_votes.specs.VoteCounts.{certificate_of}
use Rattle.engine_votes.specs.Polls.{ballot_of}
use Rattle.engine_votes.specs.declared.batcher.Batcher.{Batcher}
use Rattle.engine_votes.specs.declared.batcher.Counted.{Counted}
use Rattle.engine_votes.specs.declared.batcher.Counted.TheVariants as counted
use Rattle.engine_votes.specs.declared.batcher.poll.Ballot.{Ballot}
use Rattle.engine_votes.specs.declared.votes.Vote.{Vote}
use Rattle.engine_fetches.specs.declared.fetches.FetchKind.{FetchKind}
use Rattle.engine_fetches.specs.Fetches.{is_fetch_open, same_kind}
use Rattle.engine_fetches.specs.OutstandingFetches.{wanting}
use Rattle.engine_fetches.proofs.OpenedFetches.{open_wanting}
use Rattle.engine_outbox.specs.declared.journaled.Journaled.{Journaled}
use Rattle.engine_outbox.specs.declared.output.Output.{Output}
use Rattle.engine_outbox.specs.declared.output.Output.TheVariants as output
use Rattle.engine_outbox.specs.declared.output.Work.{Work}
use Rattle.engine_outbox.specs.declared.output.Work.TheVariants as work
use Rattle.engine_outbox.specs.Journals.{BeginsWith}
use Rattle.engine_outbox.specs.Outputs.{work_in}
use Rattle.engine_outbox.proofs.QueuedOutputs.{work_in-append}
use Rattle.engine_fetches.specs.declared.fetches.Ask.{Ask}
use Rattle.engine_planner.specs.declared.plan.Options.{Options}
use Rattle.engine_planner.specs.declared.plan.Plan.{Plan}
use Rattle.engine_planner.specs.declared.plan.Step.{Step}
use Rattle.engine_planner.specs.declared.plan.Step.TheVariants as step
use Rattle.engine_planner.specs.declared.plan.early.Early.{Early}
use Rattle.engine_planner.specs.declared.task.Task.{Task}
use Rattle.engine_planner.specs.declared.task.Task.TheVariants as task
use Rattle.std.specs.List.{list_any}
use Rattle.std.specs.Option.{option_map_or}
use Rattle.std.proofs.lemmas.Bool.Decides.{nat_tests}
use Rattle.engine_planner.specs.AskedFetches.{AsksWhoseTurn}
use Rattle.engine_planner.proofs.TakenSteps.{any_weaker, other_and, unrequested_all}
use Rattle.simplex_voter.proofs.Between.{any-filter}
use Rattle.simplex_engine.proofs.CausedSteps.{by_more, joined, left_more, sought_by, sought_wider}
use Rattle.engine_planner.proofs.AskedFetches.{asked_none, asked_on, asks_none_still}
use Rattle.engine_planner.specs.FetchRequests.{asks, ended_by, never, received_by, is_missing_certificate, is_resolve, with_missing_certificate, AreMade, KeepsFetching, IsSought, IsNamed, IsWanted, WasAsked}
use Rattle.engine_planner.proofs.AskedSteps.{asks_beside, asks_where_same, ended_on, made_on, AsksOn}
use Rattle.laws_safety.specs.LifetimeLaws.{WhileAlive}
use Rattle.engine_outbox.specs.Continuity.{HasRisen}
use Rattle.engine_outbox.proofs.Continuity.{risen_not}
use Rattle.simplex_member.specs.CallSemantics.{answer}
use Rattle.simplex_resolver.specs.Steps.{Call}
use Rattle.engine_planner.specs.Causes.{Cause, Quorum, WorkItem, Arrival, Message, reply_causes, of_blocks, of_early, of_fetches, of_step, of_steps, of_work, of_works, planned_causes, is_other, is_request, unrequested}
use Rattle.engine_planner.specs.PlannedWork.{AreAmong, work_planned}
use Rattle.engine_planner.specs.Tasks.{call_of}
use Rattle.engine_planner.proofs.Causes.{among_each, among_last, among_none, each_part, fetches_by, in_early, in_steps, still_blocks, still_fetches}
use Rattle.engine_planner.proofs.PlannedWork.{among_all, among_both, among_further, among_more, among_still, planned-append, any_either, any_left, any_right}
use Rattle.simplex_engine.specs.declared.engine.Engine.{Engine}
use Rattle.simplex_engine.specs.declared.input.Input.TheVariants as input
use Rattle.simplex_engine.specs.ApplicationWork.{work_ahead}
use Rattle.simplex_engine.specs.InputEffects.{verification_of}
use Rattle.simplex_engine.specs.Admission.{stores_early, IsStoredEarly}
use Rattle.simplex_engine.specs.EngineStart.{HasStartedWith}
use Rattle.simplex_engine.proofs.Tests.{not_or, or_none, or_nothing}
use Rattle.simplex_engine.specs.Provenance.{pending_causes, input_causes, evidence, received_in, of_counted, evidence_against, IsCallCaused, IsOnOffer, IsCaused, IsCausedBy, IsCausedWith, is_final, IsCausedWithoutInput, HasNoMissingCertificate, work_by_reply, work_by_steps}

-- three reasons, the first two apart
regrouped : (a b c : Bool) → (a || (b || c)) ≡ false → ((a || b) || c) ≡ false
regrouped true b c is = is
regrouped false b c is = is

-- what is final stays so
final_further : {K L D : Type 0} (before after : MemberFacts K L D) → WhileAlive HasRisen before.life after.life
    → (view : ℕ) → is_final after view ≡ false → is_final before view ≡ false
final_further {K = K} {L = L} {D = D} before after risen view un = by_life before.life after.life risen un
  where
    higher : (v low high : ℕ) → low ≤ high → nat_le v high ≡ false → nat_le v low ≡ false
    higher v low high up above = grind (arith, nat_tests, up, above)

    by_life : (old new : Option (StateFacts K L D)) → WhileAlive HasRisen old new
        → option_map_or (λ x. nat_le view x.finalized) new true ≡ false
        → option_map_or (λ x. nat_le view x.finalized) old true ≡ false
    by_life old None risen un = absurd (false≢true (sym un))
    by_life None (Some y) risen un = absurd risen
    by_life (Some x) (Some y) risen un = higher view x.finalized y.finalized risen.views.finalized un

pub risen_facts : {K L D : Type 0} {before after : MemberFacts K L D} → after ≡ before
    → WhileAlive HasRisen before.life after.life
risen_facts {K = K} {L = L} {D = D} {before = before} is =
    subst (λ (m : MemberFacts K L D). WhileAlive HasRisen before.life m.life) (sym is) (risen_not before)

-- the resolver receives the replies one after the other
received_further : {S L D K G C : Type 0} (bytes : D → List ℕ) (bytes_of : C → List ℕ)
    (steps more : List (StepFacts K L D × Reply S D K G C))
    → received_in bytes bytes_of (steps ++ more) ≡ received_in bytes bytes_of steps ++ received_in bytes bytes_of more
received_further bytes bytes_of [] more = refl
received_further bytes bytes_of ((Calls call, reply) ∷ rest) more =
    ap (λ calls. received_by bytes bytes_of reply call ++ calls) (received_further bytes bytes_of rest more)
    ∙ sym (append_assoc (received_by bytes bytes_of reply call) (received_in bytes bytes_of rest)
    (received_in bytes bytes_of more))
received_further bytes bytes_of ((Prunes, reply) ∷ rest) more = received_further bytes bytes_of rest more
received_further bytes bytes_of ((Restarts restart, reply) ∷ rest) more = received_further bytes bytes_of rest more

-- why a certificate is no longer asked for, after some steps
abbrev over_since : {S L D K G C : Type 0} → (D → List ℕ) → (C → List ℕ) → (FetchKind → ℕ → Bool) → Engine S L D K G C
    → Plan S D K G C → List (StepFacts K L D × Reply S D K G C) → FetchKind → ℕ → Bool
over_since bytes bytes_of held end plan steps kind view =
    held kind view || (is_final end.core.member.facts view || ended_by plan.repair.resolver.state
    (received_in bytes bytes_of steps) kind view)

-- the work that they ask for
works_further : {S L D K G C : Type 0} (steps more : List (StepFacts K L D × Reply S D K G C))
    → work_by_steps (steps ++ more) ≡ work_by_steps steps ++ work_by_steps more
works_further [] more = refl
works_further ((Calls call, reply) ∷ rest) more =
    ap (λ works. work_by_reply reply call ++ works) (works_further rest more)
    ∙ sym (append_assoc (work_by_reply reply call) (work_by_steps rest) (work_by_steps more))
works_further ((Prunes, reply) ∷ rest) more = works_further rest more
works_further ((Restarts restart, reply) ∷ rest) more = works_further rest more

module _ {S L D K G C : Type 0} {same : D → D → Bool} {elect : Elect L} {bytes : D → List ℕ} {bytes_of : C → List ℕ}
    {now : ℕ} where
  -- steps after others, which begin with what these leave
  comes_joined : {came : List (Cause S D K G C)} {out : List (Work S D K G C)} {held holds : FetchKind → ℕ → Bool}
      {a c : Engine S L D K G C} (b : Engine S L D K G C) (mid : List (Cause S D K G C))
      (steps more : List (StepFacts K L D × Reply S D K G C))
      → AreMade a.plan.repair.resolver (received_in bytes bytes_of steps) b.plan.repair.resolver
      → IsCausedBy same elect bytes_of now (asks b.plan) (over_since bytes bytes_of held b a.plan steps) steps
      (came ++ pending_causes a) (with_missing_certificate (asks a.plan) came) a.core.member.facts mid
      b.core.member.facts
      → ((kind : FetchKind) (view : ℕ) → holds kind view ≡ false → held kind view ≡ false)
      → WhileAlive HasRisen b.core.member.facts.life c.core.member.facts.life
      → AreMade b.plan.repair.resolver (received_in bytes bytes_of more) c.plan.repair.resolver
      → IsCausedBy same elect bytes_of now (asks c.plan) (over_since bytes bytes_of holds c b.plan more) more mid
      (λ kind view. asks b.plan kind view || false) b.core.member.facts (of_works out ++ pending_causes c)
      c.core.member.facts
      → AreAmong (work_by_steps steps) (work_ahead b) → AreAmong (work_ahead b) (out ++ work_ahead c)
      → AreAmong (work_by_steps more) (out ++ work_ahead c)
      → AsksWhoseTurn now (over_since bytes bytes_of held b a.plan steps) (work_ahead b) a.plan.repair.fetches
      b.plan.repair.fetches
      → AsksWhoseTurn now (over_since bytes bytes_of holds c b.plan more) (out ++ work_ahead c) b.plan.repair.fetches
      c.plan.repair.fetches
      → IsCaused same elect bytes bytes_of now came out holds a c
  comes_joined {came = came} {out = out} {held = held} {holds = holds} {a = a} {c = c} b mid steps more first_received
      first within risen second_received second first_works works second_works first_asked second_asked = record {
        steps = steps ++ more;
        received = both.1;
        by_steps = both.0;
        asked = both.2;
        works = among_further (among_all (works_further steps more))
            (among_each (among_further first_works works) second_works);
      }
    where
      received : List (StepFacts K L D × Reply S D K G C) → List Call
      received = received_in bytes bytes_of

      ends : Plan S D K G C → List Call → FetchKind → ℕ → Bool
      ends plan calls kind view = ended_by plan.repair.resolver.state calls kind view

      none_of : (x y z : Bool) → x ≡ false → y ≡ false → z ≡ false → (x || (y || z)) ≡ false
      none_of true y z p q r = p
      none_of false true z p q r = q
      none_of false false z p q r = r

      wider : FetchKind → ℕ → Bool
      wider kind view = holds kind view
          || (is_final c.core.member.facts view || ends a.plan (received steps ++ received more) kind view)

      over_first : (kind : FetchKind) (view : ℕ) → wider kind view ≡ false
          → over_since bytes bytes_of held b a.plan steps kind view ≡ false
      over_first kind view un =
          let parts = not_or (holds kind view) _ un in
          let rest = not_or (is_final c.core.member.facts view) _ parts.1 in
          none_of (held kind view) (is_final b.core.member.facts view) _ (within kind view parts.0)
          (final_further b.core.member.facts c.core.member.facts risen view rest.0)
          (ended_on a.plan.repair.resolver b.plan.repair.resolver (received steps)
          (received more) first_received kind view
          rest.1).0

      over_second : (kind : FetchKind) (view : ℕ) → wider kind view ≡ false
          → over_since bytes bytes_of holds c b.plan more kind view ≡ false
      over_second kind view un =
          let parts = not_or (holds kind view) _ un in
          let rest = not_or (is_final c.core.member.facts view) _ parts.1 in
          none_of (holds kind view) (is_final c.core.member.facts view) _ parts.0 rest.0
          (ended_on a.plan.repair.resolver b.plan.repair.resolver (received steps)
          (received more) first_received kind view
          rest.1).1

      both : IsCausedBy same elect bytes_of now (asks c.plan)
          (λ kind view.
          holds kind view || (is_final c.core.member.facts view || ends a.plan (received (steps ++ more)) kind view))
          (steps ++ more) (came ++ pending_causes a) (with_missing_certificate (asks a.plan) came) a.core.member.facts
          (of_works out ++ pending_causes c) c.core.member.facts
          × AreMade a.plan.repair.resolver (received (steps ++ more)) c.plan.repair.resolver
          × AsksWhoseTurn now (λ kind view.
          holds kind view || (is_final c.core.member.facts view || ends a.plan (received (steps ++ more)) kind view))
          (out ++ work_ahead c) a.plan.repair.fetches c.plan.repair.fetches
      both =
          subst (λ calls. IsCausedBy same elect bytes_of now (asks c.plan)
          (λ kind view. holds kind view || (is_final c.core.member.facts view || ends a.plan calls kind view))
          (steps ++ more) (came ++ pending_causes a) (with_missing_certificate (asks a.plan) came) a.core.member.facts
          (of_works out ++ pending_causes c) c.core.member.facts
          × AreMade a.plan.repair.resolver calls c.plan.repair.resolver
          × AsksWhoseTurn now
          (λ kind view. holds kind view || (is_final c.core.member.facts view || ends a.plan calls kind view))
          (out ++ work_ahead c) a.plan.repair.fetches c.plan.repair.fetches)
          (sym (received_further bytes bytes_of steps more)) (
            joined same elect bytes_of now (asks b.plan) (asks c.plan) (over_since bytes bytes_of held b a.plan steps)
                (over_since bytes bytes_of holds c b.plan more) wider over_first over_second
                steps more (came ++ pending_causes a) mid (of_works out ++ pending_causes c)
                (with_missing_certificate (asks a.plan) came) a.core.member.facts b.core.member.facts
                c.core.member.facts first second,
            made_on a.plan.repair.resolver b.plan.repair.resolver c.plan.repair.resolver (received steps)
                (received more)
                first_received second_received,
            asked_on over_first over_second works first_asked second_asked,
          )

  pub comes_then : {came : List (Cause S D K G C)} {out : List (Work S D K G C)} {held holds : FetchKind → ℕ → Bool}
      {a b c : Engine S L D K G C}
      → IsCaused same elect bytes bytes_of now came [] held a b
      → ((kind : FetchKind) (view : ℕ) → holds kind view ≡ false → held kind view ≡ false)
      → WhileAlive HasRisen b.core.member.facts.life c.core.member.facts.life
      → AreAmong (work_ahead b) (out ++ work_ahead c)
      → IsCaused same elect bytes bytes_of now [] out holds b c
      → IsCaused same elect bytes bytes_of now came out holds a c
  comes_then {held = held} {holds = holds} {b = b} first within risen works second =
      comes_joined {held = held} {holds = holds} b (pending_causes b) first.steps second.steps first.received
      first.by_steps within risen second.received second.by_steps first.works works second.works first.asked
      second.asked

  pub comes_on : {came : List (Cause S D K G C)} {out : List (Work S D K G C)} {holds : FetchKind → ℕ → Bool}
      {a b c : Engine S L D K G C}
      → IsCausedWith same elect bytes bytes_of now came a b
      → WhileAlive HasRisen b.core.member.facts.life c.core.member.facts.life
      → AreAmong (work_ahead b) (out ++ work_ahead c)
      → IsCaused same elect bytes bytes_of now [] out holds b c
      → IsCaused same elect bytes bytes_of now came out holds a c
  comes_on first risen works second = comes_then first (λ kind view un. refl) risen works second

  -- the member is the same, and no peer is asked but for what is sought
  pub comes_seeking : {came : List (Cause S D K G C)} {out : List (Work S D K G C)} {held : FetchKind → ℕ → Bool}
      {a b : Engine S L D K G C} → b.core.member.facts ≡ a.core.member.facts
      → AreAmong (unrequested (of_works out ++ pending_causes b)) (came ++ pending_causes a)
      → ((ask : Ask) → list_any (is_request ask) (of_works out ++ pending_causes b) ≡ true
      → IsSought (came ++ pending_causes a) (asks b.plan) never ask)
      → KeepsFetching came (λ kind view. held kind view || is_final b.core.member.facts view) [] a.plan b.plan
      → IsCaused same elect bytes bytes_of now came out held a b
  comes_seeking {held = held} {a = a} {b = b} is among sought keeps = record {
    steps = [];
    received = keeps.received;
    by_steps = (
      among,
      is,
      λ kind view it un. keeps.still kind view it (apart kind view un),
      λ ask it. sought_wider (λ kind view un. refl) (sought ask it),
    );
    works = among_none _;
    asked = asked_none apart keeps.unasked;
  }
    where
      apart : (kind : FetchKind) (view : ℕ)
          → (held kind view || (is_final b.core.member.facts view
          || ended_by a.plan.repair.resolver.state [] kind view)) ≡ false
          → ((held kind view || is_final b.core.member.facts view)
          || ended_by a.plan.repair.resolver.state [] kind view) ≡ false
      apart kind view un = regrouped (held kind view) (is_final b.core.member.facts view)
          (ended_by a.plan.repair.resolver.state [] kind view) un

  -- or none
  pub comes_same : {came : List (Cause S D K G C)} {out : List (Work S D K G C)} {held : FetchKind → ℕ → Bool}
      {a b : Engine S L D K G C} → b.core.member.facts ≡ a.core.member.facts
      → AreAmong (of_works out ++ pending_causes b) (came ++ pending_causes a)
      → KeepsFetching came (λ kind view. held kind view || is_final b.core.member.facts view) [] a.plan b.plan
      → IsCaused same elect bytes bytes_of now came out held a b
  comes_same is among keeps =
      comes_seeking is (unrequested_all among) (λ ask it. WasAsked (among.found (is_request ask) it)) keeps

  -- and the plan
  pub comes_still : {came : List (Cause S D K G C)} {out : List (Work S D K G C)} {held : FetchKind → ℕ → Bool}
      {a b : Engine S L D K G C} → b.core.member.facts ≡ a.core.member.facts → b.plan ≡ a.plan
      → HasNoMissingCertificate came → AreAmong (of_works out ++ pending_causes b) (came ++ pending_causes a)
      → IsCaused same elect bytes bytes_of now came out held a b
  comes_still {came = came} {held = held} {b = b} is plan none among =
      comes_same is among
      (asks_beside came none (asks_where_same (λ kind view. held kind view || is_final b.core.member.facts view) plan))

  -- a call is made
  pub comes_called : {came : List (Cause S D K G C)} {a b : Engine S L D K G C} (asked : CallFacts D)
      (answer : Reply S D K G C) → HasNoMissingCertificate came
      → IsCallCaused now (came ++ pending_causes a) a.core.member.facts asked
      → IsCall same elect a.core.member.facts asked (reply_facts bytes_of answer) b.core.member.facts
      → AreAmong (pending_causes b) ((came ++ pending_causes a) ++ reply_causes now answer asked)
      → KeepsFetching (reply_causes now answer asked) (λ kind view. is_final b.core.member.facts view)
      (received_by bytes bytes_of answer asked) a.plan b.plan
      → AreAmong (work_by_reply answer asked) (work_ahead b) → IsCausedWith same elect bytes bytes_of now came a b
  comes_called {came = came} {a = a} {b = b} asked answer none meant called among keeps works = record {
    steps = (Calls asked, answer) ∷ [];
    received = alone.received;
    by_steps = (
      meant,
      b.core.member.facts,
      called,
      (
        unrequested_all among,
        refl,
        λ kind view it un. alone.still kind view (without kind view it) un,
        λ ask it. WasAsked (among.found (is_request ask) it),
      ),
    );
    works = among_each works (among_none (work_ahead b));
    asked = asked_none (λ kind view un. un) alone.unasked;
  }
    where
      -- nothing else is received
      alone : KeepsFetching (reply_causes now answer asked) (λ kind view. is_final b.core.member.facts view)
          (received_by bytes bytes_of answer asked ++ []) a.plan b.plan
      alone =
          subst (λ calls. KeepsFetching (reply_causes now answer asked) (λ kind view. is_final b.core.member.facts view)
          calls a.plan b.plan)
          (sym (append-nil (received_by bytes bytes_of answer asked))) keeps

      without : (kind : FetchKind) (view : ℕ)
          → with_missing_certificate (with_missing_certificate (asks a.plan) came) (reply_causes now answer asked) kind
          view ≡ true
          → with_missing_certificate (asks a.plan) (reply_causes now answer asked) kind view ≡ true
      without kind view it = sym (ap (λ t. t || list_any (is_missing_certificate kind view)
          (reply_causes now answer asked))
          (ap (λ t. asks a.plan kind view || t) (none kind view) ∙ or_none (asks a.plan kind view))) ∙ it

  -- the record is pruned
  pub comes_pruned : {a b : Engine S L D K G C} → b.core.member.facts ≡ pruned_member a.core.member.facts
      → b.plan ≡ a.plan → AreAmong (pending_causes b) (pending_causes a)
      → IsCausedWithoutInput same elect bytes bytes_of now a b
  comes_pruned {a = a} {b = b} is plan among = record {
    steps = (Prunes, reply.Unit) ∷ [];
    received = ap (λ (p : Plan S D K G C). p.repair.resolver) plan;
    by_steps = (
      tt,
      b.core.member.facts,
      (refl, is),
      (
        unrequested_all (among_further among (among_more (pending_causes a) [])),
        refl,
        λ kind view it un. ap (λ (p : Plan S D K G C). asks p kind view) plan
            ∙ or_nothing (asks a.plan kind view) (or_nothing (asks a.plan kind view || false) it),
        λ ask it. WasAsked ((among_more (pending_causes a) []).found (is_request ask)
            (among.found (is_request ask) it)),
      ),
    );
    works = among_none _;
    asked = asked_none {over = never} (λ kind view un. refl)
        (asks_none_still (ap (λ (p : Plan S D K G C). p.repair.fetches) plan));
  }

  -- of more
  pub comes_wider : {came more : List (Cause S D K G C)} {a b : Engine S L D K G C} → AreAmong came more
      → HasNoMissingCertificate more → IsCausedWith same elect bytes bytes_of now came a b
      → IsCausedWith same elect bytes bytes_of now more a b
  comes_wider {came = came} {more = more} {a = a} {b = b} among none is = record {
    steps = is.steps;
    received = is.received;
    by_steps = by_more same elect bytes_of now (asks b.plan) is.steps (over_by (received_in bytes bytes_of is.steps))
        (over_by (received_in bytes bytes_of is.steps)) (came ++ pending_causes a) (more ++ pending_causes a)
        (pending_causes b) (with_missing_certificate (asks a.plan) came)
        (with_missing_certificate (asks a.plan) more) a.core.member.facts b.core.member.facts
        (unrequested_all (among_both among (among_still (pending_causes a))))
        (λ ask it. WasAsked ((among_both among (among_still (pending_causes a))).found (is_request ask) it))
        (λ kind view it un. or_left (asks a.plan kind view) (list_any (is_missing_certificate kind view) came)
        (or_nothing (asks a.plan kind view) (sym (ap (λ t. asks a.plan kind view || t) (none kind view)) ∙ it)))
        (λ kind view un. un) is.by_steps;
    works = is.works;
    asked = is.asked;
  }
    where
      over_by : List Call → FetchKind → ℕ → Bool
      over_by calls kind view = is_final b.core.member.facts view || ended_by a.plan.repair.resolver.state calls kind
          view

  -- what comes in between is as if it had come in before
  pub comes_later : {came : List (Cause S D K G C)} {out : List (Work S D K G C)} {holds : FetchKind → ℕ → Bool}
      {a b c : Engine S L D K G C} → HasNoMissingCertificate came
      → IsCausedWithoutInput same elect bytes bytes_of now a b
      → WhileAlive HasRisen b.core.member.facts.life c.core.member.facts.life
      → AreAmong (work_ahead b) (out ++ work_ahead c)
      → IsCaused same elect bytes bytes_of now came out holds b c
      → IsCaused same elect bytes bytes_of now came out holds a c
  comes_later {came = came} {out = out} {holds = holds} {a = a} {b = b} {c = c} none first risen works second =
      let wider = comes_wider (among_none came) none first in
      comes_joined {held = λ kind view. false} {holds = holds} b (came ++ pending_causes b) wider.steps second.steps
      wider.received
      (left_more same elect bytes_of now (asks b.plan) wider.steps
      (over_since bytes bytes_of (λ kind view. false) b a.plan wider.steps) (came ++ pending_causes a) came
      (pending_causes b) (with_missing_certificate (asks a.plan) came) a.core.member.facts b.core.member.facts
      (among_more came (pending_causes a)) wider.by_steps) (λ kind view un. refl) risen second.received
      (by_more same elect bytes_of now (asks c.plan) second.steps
      (over_since bytes bytes_of holds c b.plan second.steps)
      (over_since bytes bytes_of holds c b.plan second.steps) (came ++ pending_causes b) (came ++ pending_causes b)
      (of_works out ++ pending_causes c)
      (with_missing_certificate (asks b.plan) came) (λ kind view. asks b.plan kind view || false) b.core.member.facts
      c.core.member.facts (unrequested_all (among_still (came ++ pending_causes b))) (λ ask it. WasAsked it)
      (λ kind view it un. or_left (asks b.plan kind view) (list_any (is_missing_certificate kind view) came)
      (or_nothing (asks b.plan kind view) it)) (λ kind view un. un) second.by_steps)
      wider.works works second.works wider.asked second.asked

  -- before it nothing was done
  pub comes_before : {came : List (Cause S D K G C)} {out : List (Work S D K G C)} {held : FetchKind → ℕ → Bool}
      {a mid b : Engine S L D K G C} → mid.core.member.facts ≡ a.core.member.facts → mid.plan ≡ a.plan
      → AreAmong (pending_causes mid) (pending_causes a) → IsCaused same elect bytes bytes_of now came out held mid b
      → IsCaused same elect bytes bytes_of now came out held a b
  comes_before {came = came} {out = out} {held = held} {a = a} {mid = mid} {b = b} facts plan among is = record {
    steps = is.steps;
    received = subst (λ (p : Plan S D K G C). AreMade p.repair.resolver (received_in bytes bytes_of is.steps)
        b.plan.repair.resolver) plan is.received;
    by_steps = subst (λ (m : MemberFacts K L D).
        IsCausedBy same elect bytes_of now (asks b.plan) (over_by a.plan) is.steps (came ++ pending_causes a)
        (with_missing_certificate (asks a.plan) came) m (of_works out ++ pending_causes b)
        b.core.member.facts) facts
        (by_more same elect bytes_of now (asks b.plan) is.steps (over_by mid.plan) (over_by a.plan)
        (came ++ pending_causes mid) (came ++ pending_causes a) (of_works out ++ pending_causes b)
        (with_missing_certificate (asks mid.plan) came)
        (with_missing_certificate (asks a.plan) came) mid.core.member.facts b.core.member.facts
        (unrequested_all (among_both (among_still came) among))
        (λ ask it. WasAsked ((among_both (among_still came) among).found (is_request ask) it))
        (λ kind view it un. ap (λ (p : Plan S D K G C). with_missing_certificate (asks p) came kind view) plan ∙ it)
        (λ kind view un. ap (λ (p : Plan S D K G C). over_by p kind view) plan ∙ un) is.by_steps);
    works = is.works;
    asked = subst (λ (p : Plan S D K G C). AsksWhoseTurn now (over_by p) (out ++ work_ahead b) p.repair.fetches
        b.plan.repair.fetches) plan is.asked;
  }
    where
      over_by : Plan S D K G C → FetchKind → ℕ → Bool
      over_by p kind view = held kind view ||
          (is_final b.core.member.facts view || ended_by p.repair.resolver.state (received_in bytes bytes_of is.steps)
          kind view)

  -- the step in front is taken
  pub comes_taken : (front : Step S D K G C) {a mid b : Engine S L D K G C} → mid.core ≡ a.core
      → AreAmong (unrequested (of_step front ++ pending_causes mid)) (pending_causes a)
      → ((ask : Ask) → list_any (is_request ask) (of_step front ++ pending_causes mid) ≡ true
      → IsSought (pending_causes a) (asks mid.plan) never ask)
      → AsksOn (front ∷ []) a.plan mid.plan
      → AsksWhoseTurn now never (work_planned (front ∷ mid.plan.steps.items)) a.plan.repair.fetches
      mid.plan.repair.fetches
      → AreAmong (work_planned (front ∷ []) ++ work_ahead mid) (work_ahead b)
      → IsCausedWith same elect bytes bytes_of now (of_step front) mid b
      → IsCausedWithoutInput same elect bytes bytes_of now a b
  comes_taken front {a = a} {mid = mid} {b = b} core among sought asks_as asked ahead is = record {
    steps = is.steps;
    received = subst (λ (r : LawfulResolverFacts). AreMade r
        (received_in bytes bytes_of is.steps) b.plan.repair.resolver)
        asks_as.0 is.received;
    by_steps = subst (λ (it : Journaled S L D K G C).
        IsCausedBy same elect bytes_of now (asks b.plan) (over_by a.plan.repair.resolver) is.steps (pending_causes a)
        (λ kind view. asks a.plan kind view || false) it.member.facts (pending_causes b)
        b.core.member.facts) core
        (by_more same elect bytes_of now (asks b.plan) is.steps (over_by mid.plan.repair.resolver)
        (over_by a.plan.repair.resolver) (of_step front ++ pending_causes mid) (pending_causes a) (pending_causes b)
        (with_missing_certificate (asks mid.plan) (of_step front)) (λ kind view. asks a.plan kind view || false)
        mid.core.member.facts b.core.member.facts among
        (λ ask it. sought_by (λ kind view before. or_left (asks mid.plan kind view)
        (list_any (is_missing_certificate kind view) (of_step front)) before)
        (sought_wider (λ kind view un. refl) (sought ask it)))
        (λ kind view it un. from_step kind view front
        (or_cases (list_any (is_resolve kind view) (front ∷ [])) (asks mid.plan kind view)
        (asks_as.1 kind view (or_nothing (asks a.plan kind view) it))))
        (λ kind view un. ap (λ (r : LawfulResolverFacts).
        is_final b.core.member.facts view || ended_by r.state (received_in bytes bytes_of is.steps) kind view)
        asks_as.0 ∙ un) is.by_steps);
    works = is.works;
    asked = asked_on (λ kind view un. refl)
        (λ kind view un. ap (λ (r : LawfulResolverFacts). over_by r kind view) asks_as.0 ∙ un)
        (among_further (among_all (planned-append (front ∷ []) mid.plan.steps.items))
        (among_further (among_both (among_still (work_planned (front ∷ [])))
        (among_last (work_in mid.core.outbox.queue.items) (work_planned mid.plan.steps.items))) ahead)) asked is.asked;
  }
    where
      over_by : LawfulResolverFacts → FetchKind → ℕ → Bool
      over_by r kind view = is_final b.core.member.facts view || ended_by r.state (received_in bytes bytes_of is.steps)
          kind view

      from_step : (kind : FetchKind) (view : ℕ) (it : Step S D K G C)
          → (list_any (is_resolve kind view) (it ∷ []) ≡ true) ⊎ (asks mid.plan kind view ≡ true)
          → with_missing_certificate (asks mid.plan) (of_step it) kind view ≡ true
      from_step kind view it (inr before) = or_left (asks mid.plan kind view)
          (list_any (is_missing_certificate kind view) (of_step it)) before
      from_step kind view (step.Resolve k v proposal) (inl this) =
          or_right (asks mid.plan kind view) ((same_kind k kind && v == view) || false) this
      from_step kind view (step.Ask asked) (inl this) = absurd (false≢true this)
      from_step kind view (step.Offer from proposal) (inl this) = absurd (false≢true this)
      from_step kind view (step.Repeat v) (inl this) = absurd (false≢true this)
      from_step kind view (step.Push it) (inl this) = absurd (false≢true this)

-- an answer that is none
pub fails : {T E : Type 0} (Q : E → Type 0) (P : Type 0) (r : Result T E) → IsErrAnd r Q → OnOk r P
fails Q P r is = subst (λ it. OnOk it P) (sym (err_from_is_err_and r is).1) tt

-- what holds of an answer for two reasons
pub both_ok : {X E : Type 0} (r : Result X E) {P Q R : X → Type 0} → IfOk r P → IfOk r Q → ((x : X) → P x → Q x → R x)
    → IfOk r R
both_ok (Ok x) one other holds = holds x one other
both_ok (Err e) one other holds = tt

-- ---- what an engine has at hand

module _ {S D K G C : Type 0} where
  pub of_works-append : (works more : List (Work S D K G C))
      → of_works (works ++ more) ≡ of_works works ++ of_works more
  of_works-append [] more = refl
  of_works-append (it ∷ works) more = ap (λ rest. of_work it ++ rest) (of_works-append works more)
      ∙ sym (append_assoc (of_work it) (of_works works) (of_works more))

  swapped : (these those : List (Cause S D K G C)) → AreAmong (these ++ those) (those ++ these)
  swapped these those = among_each (among_last those these) (among_more those these)

  -- what is empty but for some is no more
  only : (left : List (Cause S D K G C)) → AreAmong left [] → left ≡ []
  only [] none = refl
  only (it ∷ left) none = absurd (false≢true (none.found (λ _. true) refl))

module _ {S L D K G C : Type 0} where
  abbrev queued : Engine S L D K G C → List (Cause S D K G C)
  queued engine = of_works (work_in engine.core.outbox.queue.items)

  module _ (a b : Engine S L D K G C) where
    -- the same work is queued, and more causes what is planned besides
    pub hand_by : (more : List (Cause S D K G C))
        → work_in b.core.outbox.queue.items ≡ work_in a.core.outbox.queue.items
        → AreAmong (planned_causes b.plan) (planned_causes a.plan ++ more)
        → AreAmong (pending_causes b) (pending_causes a ++ more)
    hand_by more same planned =
        let before = among_more (pending_causes a) more in
        among_each (among_further (among_all (ap of_works same))
        (among_further (among_more (queued a) (planned_causes a.plan)) before))
        (among_further planned (among_each (among_further (among_last (queued a) (planned_causes a.plan)) before)
        (among_last (pending_causes a) more)))

    pub hand_with : (came : List (Cause S D K G C))
        → work_in b.core.outbox.queue.items ≡ work_in a.core.outbox.queue.items
        → AreAmong (planned_causes b.plan) (planned_causes a.plan ++ came)
        → AreAmong (pending_causes b) (came ++ pending_causes a)
    hand_with came same planned = among_further (hand_by came same planned) (swapped (pending_causes a) came)

    pub hand_alone : work_in b.core.outbox.queue.items ≡ work_in a.core.outbox.queue.items
        → AreAmong (planned_causes b.plan) (planned_causes a.plan) → AreAmong (pending_causes b) (pending_causes a)
    hand_alone same planned = among_further (hand_by [] same
        (among_further planned (among_more (planned_causes a.plan) []))) (among_all (append-nil (pending_causes a)))

    -- after what came in, where a call returned
    pub hand_asked : (came given : List (Cause S D K G C))
        → work_in b.core.outbox.queue.items ≡ work_in a.core.outbox.queue.items
        → AreAmong (planned_causes b.plan) (planned_causes a.plan ++ given)
        → AreAmong (pending_causes b) ((came ++ pending_causes a) ++ given)
    hand_asked came given same planned =
        among_further (hand_by given same planned)
        (among_each (among_further (among_last came (pending_causes a))
        (among_more (came ++ pending_causes a) given)) (among_last (came ++ pending_causes a) given))

    -- work is queued
    pub hand_pushed : (it : Work S D K G C) → b.core.outbox.queue.items ≡ a.core.outbox.queue.items ++ output.Work it
        ∷ [] → b.plan ≡ a.plan → AreAmong (pending_causes b) (of_work it ++ pending_causes a)
    hand_pushed it more same_plans =
        among_each
        (among_further (among_all (ap of_works (ap work_in more
        ∙ work_in-append a.core.outbox.queue.items (output.Work it ∷ []))
        ∙ of_works-append (work_in a.core.outbox.queue.items) (it ∷ [])))
        (among_each
        (among_further (among_more (queued a) (planned_causes a.plan)) (among_last (of_work it) (pending_causes a)))
        (among_further (among_all (append-nil (of_work it))) (among_more (of_work it) (pending_causes a)))))
        (among_further (among_all (ap planned_causes same_plans))
        (among_further (among_last (queued a) (planned_causes a.plan))
        (among_last (of_work it) (pending_causes a))))

    -- outputs are returned
    pub hand_given : (out : List (Output S D Stored K G C))
        → a.core.outbox.queue.items ≡ out ++ b.core.outbox.queue.items → b.plan ≡ a.plan
        → AreAmong (of_works (work_in out) ++ pending_causes b) (pending_causes a)
    hand_given out front same_plans =
        among_further (among_all (sym (append_assoc (of_works (work_in out)) (queued b) (planned_causes b.plan))))
        (among_both (among_all (sym (ap of_works (ap work_in front ∙ work_in-append out b.core.outbox.queue.items)
        ∙ of_works-append (work_in out) (work_in b.core.outbox.queue.items))))
        (among_all (ap planned_causes same_plans)))

    -- the step in front is taken
    pub taken_hand_of : (taken : List (Cause S D K G C)) → b.core ≡ a.core
        → AreAmong (unrequested (taken ++ planned_causes b.plan)) (planned_causes a.plan)
        → AreAmong (unrequested (taken ++ pending_causes b)) (pending_causes a)
    taken_hand_of taken same among = record { found = at_hand }
      where
        of_planned : (test : Cause S D K G C → Bool)
            → list_any (other_and test) (taken ++ planned_causes b.plan) ≡ true
            → list_any test (pending_causes a) ≡ true
        of_planned test it = any_right test (queued a) (planned_causes a.plan)
            (among.found test (any-filter is_other test (taken ++ planned_causes b.plan) ∙ it))

        at_hand : (test : Cause S D K G C → Bool) → list_any test (unrequested (taken ++ pending_causes b)) ≡ true
            → list_any test (pending_causes a) ≡ true
        at_hand test some = elim (any_either (other_and test) taken (pending_causes b)
            (sym (any-filter is_other test (taken ++ pending_causes b)) ∙ some)) [
              | inl this ↦ of_planned test (any_left (other_and test) taken (planned_causes b.plan) this)
              | inr rest ↦ (elim (any_either (other_and test) (queued b) (planned_causes b.plan) rest) [
                | inl before ↦ any_left test (queued a) (planned_causes a.plan) (any_weaker test (queued a)
                    (ap (λ (core : Journaled S L D K G C).
                    list_any (other_and test) (of_works (work_in core.outbox.queue.items))) (sym same) ∙ before))
                | inr planned ↦ of_planned test (any_right (other_and test) taken (planned_causes b.plan) planned)
              ])
            ]

    abbrev outstanding : FetchKind → ℕ → Bool
    outstanding kind view = is_fetch_open kind view b.plan.repair.fetches.wanted.items

    -- what it asks of a peer is sought
    pub taken_sought_of : (taken : List (Cause S D K G C)) → b.core ≡ a.core
        → ((ask : Ask) → list_any (is_request ask) (taken ++ planned_causes b.plan) ≡ true
        → IsSought (planned_causes a.plan) outstanding never ask)
        → (ask : Ask) → list_any (is_request ask) (taken ++ pending_causes b) ≡ true
        → IsSought (pending_causes a) (asks b.plan) never ask
    taken_sought_of taken same sought ask some =
        elim (any_either (is_request ask) taken (pending_causes b) some) [
          | inl this ↦ ahead (sought ask (any_left (is_request ask) taken (planned_causes b.plan) this))
          | inr rest ↦ (elim (any_either (is_request ask) (queued b) (planned_causes b.plan) rest) [
            | inl before ↦ WasAsked (any_left (is_request ask) (queued a) (planned_causes a.plan)
                (ap (λ (core : Journaled S L D K G C).
                list_any (is_request ask) (of_works (work_in core.outbox.queue.items))) (sym same) ∙ before))
            | inr planned ↦ ahead (sought ask (any_right (is_request ask) taken (planned_causes b.plan) planned))
          ])
        ]
      where
        ahead : IsSought (planned_causes a.plan) outstanding never ask
            → IsSought (pending_causes a) (asks b.plan) never ask
        ahead (WasAsked it) = WasAsked (any_right (is_request ask) (queued a) (planned_causes a.plan) it)
        ahead (IsNamed it) = IsNamed (any_right (is_missing_certificate ask.kind ask.view) (queued a)
            (planned_causes a.plan) it)
        ahead (IsWanted kind opens) = IsWanted kind (λ un. or_left
            (is_fetch_open ask.kind ask.view b.plan.repair.fetches.wanted.items)
            (list_any (is_resolve ask.kind ask.view) b.plan.steps.items) (opens un))

  pub taken_hand : (step : Step S D K G C) (a b : Engine S L D K G C) → b.core ≡ a.core
      → AreAmong (unrequested (of_steps (step ∷ []) ++ planned_causes b.plan)) (planned_causes a.plan)
      → AreAmong (unrequested (of_step step ++ pending_causes b)) (pending_causes a)
  taken_hand step a b same among = taken_hand_of a b (of_step step) same
      (subst (λ front. AreAmong (unrequested (front ++ planned_causes b.plan)) (planned_causes a.plan))
      (append-nil (of_step step)) among)

  pub hand_sought : (step : Step S D K G C) (a b : Engine S L D K G C) → b.core ≡ a.core
      → ((ask : Ask) → list_any (is_request ask) (of_steps (step ∷ []) ++ planned_causes b.plan) ≡ true
      → IsSought (planned_causes a.plan) (λ kind view. is_fetch_open kind view b.plan.repair.fetches.wanted.items)
      never ask)
      → (ask : Ask) → list_any (is_request ask) (of_step step ++ pending_causes b) ≡ true
      → IsSought (pending_causes a) (asks b.plan) never ask
  hand_sought step a b same sought = taken_sought_of a b (of_step step) same
      (subst (λ front. (ask : Ask) → list_any (is_request ask) (front ++ planned_causes b.plan) ≡ true
      → IsSought (planned_causes a.plan) (λ kind view. is_fetch_open kind view b.plan.repair.fetches.wanted.items)
      never ask) (append-nil (of_step step)) sought)

  -- an early proposal is stored, or is not
  pub kept_early : (from : ℕ) (proposal : Proposal D) (a b : Engine S L D K G C) → IsStoredEarly from proposal a b
      → AreAmong (planned_causes b.plan) (planned_causes a.plan ++ Arrival from proposal ∷ [])
  kept_early from proposal a b is =
      let old = a.plan.early.proposals.items in
      let more : List (Cause S D K G C) = Arrival from proposal ∷ [] in
      let before = among_more (planned_causes a.plan) more in
      each_part b.plan (among_further (among_all (ap (λ (p : Plan S D K G C). of_steps p.steps.items) plan_is))
      (among_further (in_steps a.plan) before))
      (among_further (still_blocks a.plan b.plan (ap (λ (p : Plan S D K G C). p.builds) plan_is)) before)
      (among_further (among_all (ap of_early is.kept)) (by_test (stores_early a proposal)))
      (among_further (still_fetches a.plan b.plan (ap (λ (p : Plan S D K G C). p.repair) plan_is)) before)
    where
      plan_is : b.plan ≡ record (a.plan) { early = b.plan.early }
      plan_is = ap (λ (e : Engine S L D K G C). e.plan) is.same

      it : Early D
      it = record { from = from; view = proposal.round.view; proposal = proposal }

      by_test : (t : Bool) → AreAmong (of_early
          (cond t (a.plan.early.proposals.items ++ it ∷ []) a.plan.early.proposals.items))
          (planned_causes a.plan ++ Arrival from proposal ∷ [])
      by_test true = among_further
          (among_all (map-append (λ (e : Early D). Arrival e.from e.proposal) a.plan.early.proposals.items (it ∷ [])))
          (among_both (in_early a.plan) (among_still (Arrival from proposal ∷ [])))
      by_test false = among_further (in_early a.plan) (among_more (planned_causes a.plan) (Arrival from proposal ∷ []))

module _ {S L D K G C : Type 0} (same : D → D → Bool) (elect : Elect L) (bytes : D → List ℕ) (bytes_of : C → List ℕ)
    (now : ℕ) where
  -- whether the application found a proposal valid was received
  pub replied_verified : {X E : Type 0} (is_valid : Bool) (view : ℕ) (a b : Engine S L D K G C) {asked : Task D}
      (r : Result X E) → asked ≡ verification_of is_valid view
      → OnOk r ((came : List (Cause S D K G C)) → HasNoMissingCertificate came
      → IsCallCaused now (came ++ pending_causes a) a.core.member.facts (call_of asked now)
      → IsCausedWith same elect bytes bytes_of now came a b)
      → OnOk r (IsCausedWith same elect bytes bytes_of now (Message (verification_of is_valid view) ∷ []) a b)
  replied_verified is_valid view a b (Err e) is provenance = tt
  replied_verified is_valid view a b {asked} (Ok x) is provenance = by_test is_valid is
    where
      by_test : (t : Bool) → asked ≡ verification_of t view
          → IsCausedWith same elect bytes bytes_of now (Message (verification_of t view) ∷ []) a b
      by_test true is_it =
          provenance (Message (task.Verified view) ∷ []) (λ kind v. refl)
          (inl (
            task.Verified view,
            ap (λ it. call_of it now) is_it,
            among_more (Message (task.Verified view) ∷ []) (pending_causes a),
            subst (λ it. IsOnOffer a.core.member.facts (call_of it now)) (sym is_it) tt,
          ))
      by_test false is_it =
          provenance (Message (task.VerificationFailed view) ∷ []) (λ kind v. refl)
          (inl (
            task.VerificationFailed view,
            ap (λ it. call_of it now) is_it,
            among_more (Message (task.VerificationFailed view) ∷ []) (pending_causes a),
            subst (λ it. IsOnOffer a.core.member.facts (call_of it now)) (sym is_it) tt,
          ))

-- ---- a vote

is_made_on : (S K G : Type 0) {D C : Type 0} (bytes_of : C → List ℕ) (on : Subject D) (c : C)
    → certificate_subject (certificate_facts bytes_of (certificate_of {S = S} {K = K} {G = G} on c)) ≡ on
is_made_on S K G bytes_of (subject.Notarize p) c = refl
is_made_on S K G bytes_of (subject.Nullify round) c = refl
is_made_on S K G bytes_of (subject.Finalize p) c = refl

module _ {S D K G C : Type 0} (same : D → D → Bool) (IsMadeOf : Subject D → List (ℕ × G) → C → Type 0)
    (bytes_of : C → List ℕ) (members : ℕ) where
  -- the result of counting a vote is caused by the vote, and by the stored one of its signer
  pub counted_of : (old new : Batcher S D K G C) (vote : Vote D G) (what : Counted S D K G C)
      → IsCounted same IsMadeOf members true old vote new what
      → AreAmong (of_counted bytes_of what) (input_causes bytes_of old (input.Vote vote))
  counted_of old new vote counted.Taken is = among_none (input_causes bytes_of old (input.Vote vote))
  counted_of old new vote counted.Known is = among_none (input_causes bytes_of old (input.Vote vote))
  counted_of old new vote counted.Refused is = among_none (input_causes bytes_of old (input.Vote vote))
  counted_of old new vote (counted.Certified made) is =
      among_further (among_all (ap (λ it. Quorum it ∷ [])
      (ap (λ it. certificate_subject (certificate_facts bytes_of it)) is.counted.2.1
      ∙ is_made_on S K G bytes_of vote.subject is.counted.2.0)))
      (among_more (Quorum vote.subject ∷ []) (evidence old vote))
  counted_of old new vote (counted.Equivocated first second) is =
      let both = is.counted.0 in
      among_further (among_all (ap (λ it. WorkItem (work.Equivocated first it) ∷ []) both.3 ∙ shown both.0 both.1))
      (among_last (Quorum vote.subject ∷ []) (evidence old vote))
    where
      slots : List (Option (Ballot D G))
      slots = held old (kind_of vote.subject) (subject_view vote.subject)

      shown : ballot_of slots first.signer ≡ Some
          (record { subject = first.subject; signature = first.signature; is_contradicted = false })
          → first.signer ≡ vote.signer
          → WorkItem (work.Equivocated first vote) ∷ [] ≡ evidence old vote
      shown is_held signed =
          ap (λ (it : Vote D G). WorkItem (work.Equivocated it vote) ∷ [])
          (ap (λ signer. record { subject = first.subject; signer = signer; signature = first.signature }) signed)
          ∙ sym (ap (λ it. option_to_list (option_map (evidence_against vote) it))
          (ap (ballot_of slots) (sym signed) ∙ is_held))

-- ---- the begin

module _ {S L D K G C : Type 0} (bytes : D → List ℕ) (bytes_of : C → List ℕ) where
  -- nothing is at hand
  pub nothing_held : (keys_of : S → List K) (keys : List K) (me : Option ℕ) (term_length : ℕ) (options : Options)
      (engine : Engine S L D K G C)
      → BeginsWith bytes_of engine.core.member engine.core.outbox.queue.items
      → HasStartedWith bytes keys_of keys me term_length options engine → pending_causes engine ≡ []
  nothing_held keys_of keys me term_length options engine begins begun =
      let nothing = begun.plan.nothing in
      only (pending_causes engine)
      (among_each (among_all (ap (λ outs. of_works (work_in outs)) begins.outs_are))
      (each_part engine.plan (among_all (ap of_steps nothing.0)) (among_all (ap of_blocks nothing.1))
      (among_all (ap of_early nothing.2))
      (among_further (among_all (ap (of_fetches open_views) begun.plan.repair.fetched))
      (fetches_by open_views (wanting open_views []) []
      (λ kind view is unwanted. elim (open_wanting kind view open_views [] is) [
        | inl before ↦ absurd (false≢true before)
        | inr wanted ↦ absurd (false≢true (sym unwanted ∙ wanted))
      ])))))
    where
      open_views : List ℕ
      open_views = engine.plan.repair.resolver.open_fetches
