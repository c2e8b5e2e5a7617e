-- For the code of the engine. What the application must receive is not lost, step by step.
use Rattle.std.proofs.Common.{◌≡◌, ◌==◌, ◌∙◌, refl, ap, sym, subst, ℕ, Bool, List, [], ◌∷◌, ◌++◌, append_assoc, append-nil, Option, Some, None, Result, Ok, Err, inl, inr, true, false}
use Rattle.std.specs.Prelude.{IsOk, OnOk, IsNone, MatchOption, option_to_list}
use Rattle.std.specs.List.{list_any}
use Rattle.std.proofs.lemmas.Bool.{false≢true, or_left, or_right}
use Rattle.simplex_types.specs.declared.types.messages.Subject.{Subject}
use Rattle.simplex_types.specs.Certificates.{ArtifactFacts, CertificateFacts, Notarized, Nullified, Finalized}
use Rattle.simplex_voter.specs.Facts.{StateFacts, Elect}
use Rattle.simplex_record.specs.declared.record.error.RecoverError.{RecoverError}
use Rattle.simplex_record.specs.Recovery.{recover_error}
use Rattle.simplex_record.specs.Start.{new_state}
use Rattle.simplex_member.specs.Calls.{ReplyFacts}
use Rattle.simplex_member.specs.CallSemantics.{outstanding_work_after}
use Rattle.simplex_member.specs.MemberFacts.{MemberFacts, IsCall, SignedMember, without_lifetime}
use Rattle.simplex_member.specs.Restarts.{RestartFacts, cut_member, new_lifetime, retention_grows, RecoversByView, IsRestart, IsRestartWhere}
use Rattle.simplex_member.specs.OutstandingWork.{OutstandingWork, no_outstanding_work}
use Rattle.simplex_member.specs.declared.member.journal.Stored.{Stored}
use Rattle.simplex_engine.specs.declared.engine.Engine.{Engine}
use Rattle.engine_planner.specs.declared.plan.Plan.{Plan}
use Rattle.engine_planner.specs.declared.plan.Step.{Step}
use Rattle.engine_outbox.specs.declared.journaled.Journaled.{Journaled}
use Rattle.engine_outbox.specs.declared.output.Output.{Output}
use Rattle.engine_outbox.specs.declared.output.Output.TheVariants as output
use Rattle.engine_outbox.specs.declared.output.Work.{Work}
use Rattle.engine_outbox.specs.CertificateCalls.{certificate_call}
use Rattle.engine_outbox.specs.Continuity.{Continues, HasRisen}
use Rattle.engine_outbox.proofs.Continuity.{risen_not}
use Rattle.laws_safety.specs.LifetimeLaws.{WhileAlive}
use Rattle.simplex_engine.specs.MemberViews.{TracksViews}
use Rattle.engine_outbox.specs.Outputs.{work_in}
use Rattle.engine_outbox.proofs.QueuedOutputs.{work_in-append}
use Rattle.simplex_engine.specs.ApplicationWork.{work_ahead, IsReportedIn, KeepsApplicationWork, KeepsTaken, HasReportedAll, AllIsReturned}
use Rattle.engine_planner.specs.declared.task.Task.{Task}
use Rattle.engine_planner.specs.Tasks.{call_of}
use Rattle.engine_planner.specs.PlannedWork.{AreAmong, awaits, beside_of, constants_of, is_build_of, views_requested, work_planned, work_of, IsPlanned, KeepsPlanned, KeepsPlannedThen, PlansAnswerThen}
use Rattle.engine_outbox.specs.Outboxes.{QueuesMore}
use Rattle.simplex_engine.proofs.BuildBounds.{come_beside, come_same, early_anyway, early_further, early_planned, near_by_views, near_kept, near_same, risen_on, risen_same}
use Rattle.simplex_engine.proofs.ApplicationWork.{IsWorkIn, among_behind, among_swapped, block_further, replied_among, replied_by, replied_none, waits_as_before, work_among, work_by_call}
use Rattle.simplex_engine.proofs.Requests.{near_by_call, open_by_call}
use Rattle.engine_planner.proofs.PlannedWork.{among_all, among_both, among_further, among_more, among_still, has_further, keeps_own, plans_same, planned-append}

module _ {S D K G C : Type 0} where
  -- the same work in another order
  among_moved : (a b c d : List (Work S D K G C)) → AreAmong ((a ++ b) ++ (c ++ d)) (a ++ ((c ++ b) ++ d))
  among_moved a b c d =
      among_further (among_all (append_assoc a b (c ++ d)))
      (among_both (among_still a) (among_further (among_swapped b (c ++ d))
      (among_further (among_all (append_assoc c d b))
      (among_further (among_both (among_still c) (among_swapped d b))
      (among_all (sym (append_assoc c b d)))))))

  among_back : (a b c d : List (Work S D K G C)) → AreAmong (a ++ (c ++ (b ++ d))) ((a ++ b) ++ (c ++ d))
  among_back a b c d =
      among_further (among_both (among_still a)
      (among_further (among_all (sym (append_assoc c b d)))
      (among_further (among_both (among_swapped c b) (among_still d)) (among_all (append_assoc b c d)))))
      (among_all (sym (append_assoc a b (c ++ d))))

module _ {S L D K G C : Type 0} where
  pub tells_still : (a : Engine S L D K G C) → KeepsApplicationWork a a
  tells_still a = record {
    stays = λ work replied. replied;
    works = among_still (work_ahead a);
    near = λ near. near;
    seen = λ come. come;
    early = λ come. early_anyway a a (among_still a.plan.early.proposals.items);
    constants = refl;
    risen = risen_not a.core.member.facts;
    ignored = refl;
  }

  pub tells_further : {a b c : Engine S L D K G C} → KeepsApplicationWork a b → KeepsApplicationWork b c
      → KeepsApplicationWork a c
  tells_further {a = a} {b = b} {c = c} first second = record {
    early = λ come. early_further a.plan.early.proposals.items b.plan.early.proposals.items c.plan.early.proposals.items
        b.core.member.facts.life c.core.member.facts.life second.risen
        (first.early come) (second.early (first.seen come));
    risen = risen_on a.core.member.facts.life b.core.member.facts.life c.core.member.facts.life first.risen
        second.risen;
    stays = λ work replied. second.stays work (first.stays work replied);
    works = among_further first.works second.works;
    near = λ near. second.near (first.near near);
    seen = λ come. second.seen (first.seen come);
    constants = second.constants ∙ first.constants;
    ignored = second.ignored ∙ first.ignored;
  }

  -- what was queued is queued still
  queued_still : (a b : Engine S L D K G C) → QueuesMore a.core.outbox b.core.outbox
      → AreAmong (work_in a.core.outbox.queue.items) (work_in b.core.outbox.queue.items)
  queued_still a b more =
      among_further (among_more (work_in a.core.outbox.queue.items) (work_in more.more))
      (among_all (sym (ap work_in more.queue_is ∙ work_in-append a.core.outbox.queue.items more.more)))

  -- what is planned is after all that was returned and is queued
  planned_last : (work : List (Work S D K G C)) (b : Engine S L D K G C)
      → AreAmong (work_planned b.plan.steps.items) (work ++ work_ahead b)
  planned_last work b =
      among_further (among_behind (work_in b.core.outbox.queue.items) (work_planned b.plan.steps.items))
      (among_behind work (work_ahead b))

  -- the member waits for the same
  pub tells_same : {same : D → D → Bool} {elect : Elect L} {bytes_of : C → List ℕ}
      {is_signature : K → Subject D → G → Type 0} {taken : Option (Subject D)} (a b : Engine S L D K G C)
      → b.core.member.facts.outstanding_work ≡ a.core.member.facts.outstanding_work
      → Continues same elect bytes_of is_signature taken a.core b.core
      → (TracksViews a.core.member.facts a.plan → TracksViews b.core.member.facts b.plan)
      → KeepsPlannedThen a.plan b.plan → KeepsApplicationWork a b
  tells_same a b waits goes come plans = record {
    stays = λ work replied.
        subst (IsReportedIn (work ++ work_ahead b) (beside_of b.plan)) (sym waits)
        (replied_by (among_both (among_still work) (among_both (queued_still a b goes.queued) plans.found))
        (planned_last work b) (λ view left. plans.building view left refl) replied);
    works = among_both (queued_still a b goes.queued) plans.found;
    near = near_kept a b goes.risen plans.views;
    seen = come;
    early = λ before. early_planned a b (come before) plans.early;
    risen = goes.risen;
    constants = plans.constants;
    ignored = plans.ignored;
  }

  -- besides, its state and the plan are the same
  pub tells_beside : {same : D → D → Bool} {elect : Elect L} {bytes_of : C → List ℕ}
      {is_signature : K → Subject D → G → Type 0} {taken : Option (Subject D)} (a b : Engine S L D K G C)
      → b.core.member.facts.outstanding_work ≡ a.core.member.facts.outstanding_work
      → b.core.member.facts.life ≡ a.core.member.facts.life
      → Continues same elect bytes_of is_signature taken a.core b.core → b.plan ≡ a.plan → KeepsApplicationWork a b
  tells_beside a b waits life goes plan =
      tells_same a b waits goes (come_same a b life (ap (λ (p : Plan S D K G C). p.views) plan))
      (keeps_own a.plan b.plan (plans_same a.plan b.plan plan))

  -- nothing of the member or of the outbox has changed
  pub tells_planned : (a b : Engine S L D K G C) → b.core ≡ a.core → KeepsPlanned a.plan b.plan
      → KeepsApplicationWork a b
  tells_planned a b is plans = record {
    stays = λ work replied.
        subst (λ (core : Journaled S L D K G C).
        IsReportedIn (work ++ (work_in core.outbox.queue.items ++ work_planned b.plan.steps.items))
        (beside_of b.plan) core.member.facts.outstanding_work) (sym is)
        (replied_by (among_both (among_still work) (among_both (among_still queue) plans.found))
        (among_further (among_behind queue (work_planned b.plan.steps.items))
        (among_behind work (queue ++ work_planned b.plan.steps.items))) (λ view left. plans.building view left refl)
        replied);
    works = subst (λ (core : Journaled S L D K G C).
        AreAmong (work_ahead a) (work_in core.outbox.queue.items ++ work_planned b.plan.steps.items)) (sym is)
        (among_both (among_still queue) plans.found);
    near = near_kept a b (risen_same a b (ap (λ (core : Journaled S L D K G C). core.member) is)) plans.views;
    seen = come_same a b (ap (λ (core : Journaled S L D K G C). core.member.facts.life) is) plans.reached;
    early = λ come. early_planned a b (come_same a b (ap (λ (core : Journaled S L D K G C). core.member.facts.life) is)
        plans.reached come) plans.early;
    risen = risen_same a b (ap (λ (core : Journaled S L D K G C). core.member) is);
    constants = plans.constants;
    ignored = plans.ignored;
  }
    where
      queue : List (Work S D K G C)
      queue = work_in a.core.outbox.queue.items

  -- a task was asked of the member, and what its answer asks of the application is planned
  pub tells_called : {same : D → D → Bool} {elect : Elect L} {bytes_of : C → List ℕ}
      {is_signature : K → Subject D → G → Type 0} {taken : Option (Subject D)} (a b : Engine S L D K G C)
      (asked : Task D) (now : ℕ) (replied : ReplyFacts K D)
      → IsCall same elect a.core.member.facts (call_of asked now) replied b.core.member.facts
      → Continues same elect bytes_of is_signature taken a.core b.core → TracksViews b.core.member.facts b.plan
      → PlansAnswerThen asked replied a.plan b.plan → KeepsApplicationWork a b
  tells_called {same = same} {elect = elect} a b asked now replied called goes come plans = record {
    stays = λ work is.
        let ahead = work_ahead a in
        let more : List (Work S D K G C) = work_of replied in
        let worked : IsWorkIn ((work ++ ahead) ++ more) b.core.member.facts.outstanding_work =
        work_by_call same elect (work ++ ahead) a.core.member.facts b.core.member.facts
        (call_of asked now) replied called
        (is.verified, is.certified) in
        let among : AreAmong ((work ++ ahead) ++ more) (work ++ work_ahead b) =
        among_further (among_all (append_assoc work ahead more))
        (among_both (among_still work) (among_further
        (among_all (append_assoc (work_in a.core.outbox.queue.items) (work_planned a.plan.steps.items) more))
        (among_both (queued_still a b goes.queued) plans.found))) in
        let those = work_among b.core.member.facts.outstanding_work among worked in
        record {
          verified = those.0;
          certified = those.1;
          built = λ view opens. let opened = open_by_call same elect a.core.member.facts b.core.member.facts asked now
              replied called view opens in elim opened.0 [
                | inl requested ↦ has_further (beside_of b.plan) (beside_of b.plan) view (planned_last work b)
                    (or_right (list_any (is_build_of view) (work ++ work_ahead b)) (awaits (beside_of b.plan) view))
                    (plans.building view (or_left (list_any (λ v. v == view) (views_requested replied))
                    (awaits (beside_of a.plan) view) requested) opened.1)
                | inr before ↦ block_further (beside_of a.plan) (beside_of b.plan) view
                    (among_further (among_more (work ++ ahead) more) among) (planned_last work b)
                    (λ waits. plans.building view (or_right (list_any (λ v. v == view) (views_requested replied))
                    (awaits (beside_of a.plan) view) waits) opened.1) (is.built view before)
              ];
        };
    works = among_both (queued_still a b goes.queued)
        (among_further (among_more (work_planned a.plan.steps.items) (work_of replied)) plans.found);
    near = near_by_views (views_requested replied) a.plan.builds.buildings.items b.plan.builds.buildings.items
        a.core.member.facts.life b.core.member.facts.life goes.risen plans.views
        (near_by_call same elect a.core.member.facts b.core.member.facts asked now replied called);
    seen = λ before. come;
    early = λ before. early_planned a b come plans.early;
    risen = goes.risen;
    constants = plans.constants;
    ignored = plans.ignored;
  }

  -- a certificate was passed in
  pub tells_handed : {same : D → D → Bool} {elect : Elect L} {bytes_of : C → List ℕ}
      {is_signature : K → Subject D → G → Type 0} {taken : Option (Subject D)} (a b : Engine S L D K G C)
      (certificate : CertificateFacts D) (now : ℕ) (replied : ReplyFacts K D)
      → IsCall same elect a.core.member.facts (certificate_call certificate now) replied b.core.member.facts
      → Continues same elect bytes_of is_signature taken a.core b.core → TracksViews b.core.member.facts b.plan
      → KeepsPlannedThen a.plan b.plan → KeepsApplicationWork a b
  tells_handed {same = same} {elect = elect} a b certificate now replied called goes come plans =
      elim (waits_as_before same elect a.core.member.facts b.core.member.facts
      (certificate_call certificate now) replied
      (plain certificate) called) [
        | inl waits ↦ tells_same a b waits goes (λ before. come) plans
        | inr none ↦ record {
          stays = λ work is. subst (IsReportedIn (work ++ work_ahead b) (beside_of b.plan)) (sym none)
              (replied_none (work ++ work_ahead b) (beside_of b.plan));
          works = among_both (queued_still a b goes.queued) plans.found;
          near = near_kept a b goes.risen plans.views;
          seen = λ before. come;
          early = λ before. early_planned a b come plans.early;
          risen = goes.risen;
          constants = plans.constants;
          ignored = plans.ignored;
        }
      ]
    where
      plain : (c : CertificateFacts D) (x : StateFacts K L D) (o : OutstandingWork K D)
          → outstanding_work_after same elect x o (certificate_call c now) ≡ o
      plain (Notarized _) x o = refl
      plain (Nullified _) x o = refl
      plain (Finalized _) x o = refl

  -- a copy of it was passed in, and nothing of the member has changed since
  pub handed_as : (same : D → D → Bool) (elect : Elect L) (m : MemberFacts K L D) (replied : ReplyFacts K D) (now : ℕ)
      {copy certificate : CertificateFacts D} {left core : Journaled S L D K G C}
      → copy ≡ certificate → core ≡ left → IsCall same elect m (certificate_call copy now) replied left.member.facts
      → IsCall same elect m (certificate_call certificate now) replied core.member.facts
  handed_as same elect m replied now {copy} {certificate} {left} {core} is_copy stays called =
      subst (λ facts. IsCall same elect m (certificate_call facts now) replied core.member.facts) is_copy
      (subst (λ (it : Journaled S L D K G C). IsCall same elect m (certificate_call copy now) replied it.member.facts)
      (sym stays) called)

  -- a step that queues no work
  pub tells_other : (a b : Engine S L D K G C) (step this : Step S D K G C) → step ≡ this
      → work_planned (this ∷ []) ≡ [] → KeepsApplicationWork a b → KeepsTaken (work_planned (step ∷ [])) a b
  tells_other a b step this is none keeps =
      subst (λ taken. KeepsTaken taken a b) (sym (ap (λ s. work_planned (s ∷ [])) is ∙ none)) keeps

  -- work is queued
  pub tells_pushed : (a b : Engine S L D K G C) (it : Work S D K G C) → b.core.member ≡ a.core.member → b.plan ≡ a.plan
      → b.core.outbox.queue.items ≡ a.core.outbox.queue.items ++ output.Work it ∷ [] → KeepsTaken (it ∷ []) a b
  tells_pushed a b it same_member same_plan queued = record {
    stays = λ work replied.
        subst (λ (m : SignedMember K L D G). IsReportedIn (work ++ work_ahead b) (beside_of b.plan)
        m.facts.outstanding_work) (sym same_member)
        (subst (λ (plan : Plan S D K G C). IsReportedIn (work ++ work_ahead b) (beside_of plan)
        a.core.member.facts.outstanding_work) (sym same_plan)
        (replied_among (among_further (among_both (among_swapped (it ∷ []) work) (among_still (queue ++ planned)))
        (among_further (among_moved work (it ∷ []) queue planned) (among_all (ap (λ ahead. work ++ ahead) (sym now)))))
        replied));
    works = among_further (among_moved [] (it ∷ []) queue planned) (among_all (sym now));
    near = near_same a b same_member same_plan;
    seen = come_beside a b same_member same_plan;
    early = λ come.
        early_anyway a b (among_all (ap (λ (plan : Plan S D K G C). plan.early.proposals.items) (sym same_plan)));
    risen = risen_same a b same_member;
    constants = ap constants_of same_plan;
    ignored = ap (λ (plan : Plan S D K G C). plan.ignored) same_plan;
  }
    where
      queue : List (Work S D K G C)
      queue = work_in a.core.outbox.queue.items

      planned : List (Work S D K G C)
      planned = work_planned a.plan.steps.items

      now : work_ahead b ≡ (queue ++ it ∷ []) ++ planned
      now =
          ap (λ (plan : Plan S D K G C). work_in b.core.outbox.queue.items ++ work_planned plan.steps.items) same_plan
          ∙ ap (λ items. items ++ planned)
          (ap work_in queued ∙ work_in-append a.core.outbox.queue.items (output.Work it ∷ []))

  -- the step in front is taken
  pub tells_taken : {X E : Type 0} (r : Result X E) (step : Step S D K G C) (a mid b : Engine S L D K G C)
      → mid.core ≡ a.core
      → IsPlanned [] (λ view. false) (work_planned a.plan.steps.items) (beside_of a.plan)
      (work_planned (step ∷ mid.plan.steps.items)) (beside_of mid.plan)
      → OnOk r (KeepsTaken (work_planned (step ∷ [])) mid b) → OnOk r (KeepsApplicationWork a b)
  tells_taken (Err e) step a mid b same plans takes = tt
  tells_taken (Ok x) step a mid b same plans takes = record {
    stays = λ work replied.
        takes.stays work
        (subst (λ (core : Journaled S L D K G C).
        IsReportedIn ((taken ++ work) ++ (work_in core.outbox.queue.items ++ left)) (beside_of mid.plan)
        core.member.facts.outstanding_work) (sym same)
        (replied_by (among_further (among_further (among_both (among_still work) (among_both (among_still queue) split))
        (among_back work taken queue left))
        (among_both (among_swapped work taken) (among_still (queue ++ left))))
        (among_further (among_all front) (among_both (among_more taken work) (among_behind queue left)))
        (λ view waits. plans.building view waits refl) replied));
    works = among_further (subst (λ (core : Journaled S L D K G C).
        AreAmong (work_ahead a) (taken ++ (work_in core.outbox.queue.items ++ left))) (sym same)
        (among_further (among_both (among_still queue) split) (among_back [] taken queue left))) takes.works;
    near = λ near.
        takes.near (near_by_views [] a.plan.builds.buildings.items mid.plan.builds.buildings.items
        a.core.member.facts.life mid.core.member.facts.life
        (risen_same a mid (ap (λ (core : Journaled S L D K G C). core.member) same)) plans.views (λ x is w up. refl)
        near);
    seen = λ come. takes.seen
        (come_same a mid (ap (λ (core : Journaled S L D K G C). core.member.facts.life) same) plans.reached come);
    early = λ come.
        let now = come_same a mid (ap (λ (core : Journaled S L D K G C). core.member.facts.life) same) plans.reached
        come in
        early_further a.plan.early.proposals.items mid.plan.early.proposals.items b.plan.early.proposals.items
        mid.core.member.facts.life b.core.member.facts.life takes.risen
        (early_planned a mid now plans.early) (takes.early now);
    risen = subst (λ (core : Journaled S L D K G C).
        WhileAlive HasRisen core.member.facts.life b.core.member.facts.life) same takes.risen;
    constants = takes.constants ∙ plans.constants;
    ignored = takes.ignored ∙ plans.ignored;
  }
    where
      queue : List (Work S D K G C)
      queue = work_in a.core.outbox.queue.items

      taken : List (Work S D K G C)
      taken = work_planned (step ∷ [])

      left : List (Work S D K G C)
      left = work_planned mid.plan.steps.items

      front : work_planned (step ∷ mid.plan.steps.items) ≡ taken ++ left
      front = planned-append (step ∷ []) mid.plan.steps.items

      split : AreAmong (work_planned a.plan.steps.items) (taken ++ left)
      split = among_further plans.found (among_all front)

  -- what is returned
  pub tells_given : (a b : Engine S L D K G C) (out : List (Output S D Stored K G C)) → b.core.member ≡ a.core.member
      → b.plan ≡ a.plan
      → a.core.outbox.queue.items ≡ out ++ b.core.outbox.queue.items → (given : List (Output S D Stored K G C))
      → HasReportedAll given a → HasReportedAll (given ++ out) b
  tells_given a b out same_member same_plan front given replied =
      let left = work_in b.core.outbox.queue.items in
      let planned = work_planned a.plan.steps.items in
      let now : work_in (given ++ out) ++ work_ahead b ≡ work_in given ++ work_ahead a =
      ap (λ (plan : Plan S D K G C). work_in (given ++ out) ++ (left ++ work_planned plan.steps.items)) same_plan
      ∙ ap (λ items. items ++ (left ++ planned)) (work_in-append given out)
      ∙ append_assoc (work_in given) (work_in out) (left ++ planned)
      ∙ ap (λ items. work_in given ++ items) (sym (append_assoc (work_in out) left planned))
      ∙ ap (λ items. work_in given ++ (items ++ planned))
      (sym (ap work_in front ∙ work_in-append out b.core.outbox.queue.items)) in
      subst (λ (plan : Plan S D K G C). IsReportedIn (work_in (given ++ out) ++ work_ahead b) (beside_of plan)
      b.core.member.facts.outstanding_work) (sym same_plan)
      (subst (λ (m : SignedMember K L D G). IsReportedIn (work_in (given ++ out) ++ work_ahead b) (beside_of a.plan)
      m.facts.outstanding_work) (sym same_member)
      (subst (λ items. IsReportedIn items (beside_of a.plan) a.core.member.facts.outstanding_work) (sym now) replied))

  -- and the work in it is no longer ahead
  pub works_given : (a b : Engine S L D K G C) (out : List (Output S D Stored K G C)) → b.plan ≡ a.plan
      → a.core.outbox.queue.items ≡ out ++ b.core.outbox.queue.items
      → AreAmong (work_ahead a) (work_in out ++ work_ahead b)
  works_given a b out same_plan front =
      let left = work_in b.core.outbox.queue.items in
      among_all (ap (λ items. items ++ work_planned a.plan.steps.items)
      (ap work_in front ∙ work_in-append out b.core.outbox.queue.items)
      ∙ append_assoc (work_in out) left (work_planned a.plan.steps.items)
      ∙ ap (λ (plan : Plan S D K G C). work_in out ++ (left ++ work_planned plan.steps.items)) (sym same_plan))

  -- nothing was
  pub still_replied : (a : Engine S L D K G C) (core : Journaled S L D K G C) → core.member ≡ a.core.member
      → a.core.outbox.queue.items ≡ core.outbox.queue.items
      → (given : List (Output S D Stored K G C)) → HasReportedAll given a
      → HasReportedAll given (record a { core = core })
  still_replied a core same_member front given replied =
      subst (λ outs. HasReportedAll outs (record a { core = core })) (append-nil given)
      (tells_given a (record a { core = core }) [] same_member refl front given replied)

  -- where nothing is queued and nothing planned, all was
  pub all_given : (a : Engine S L D K G C) → a.core.outbox.queue.items ≡ [] → a.plan.steps.items ≡ []
      → (given : List (Output S D Stored K G C)) → HasReportedAll given a → AllIsReturned given a
  all_given a queue steps given replied =
      subst (λ items. IsReportedIn items (beside_of a.plan) a.core.member.facts.outstanding_work)
      (append-nil (work_in given))
      (subst (λ ahead. IsReportedIn (work_in given ++ ahead) (beside_of a.plan) a.core.member.facts.outstanding_work)
      (ap (λ items. work_in items ++ work_planned a.plan.steps.items) queue ∙ ap work_planned steps) replied)

  pub all_left : (a b : Engine S L D K G C) (out : Option (Output S D Stored K G C)) → IsNone out
      → b.core.member ≡ a.core.member → b.core.outbox.queue.items ≡ [] → b.plan.steps.items ≡ []
      → b.plan ≡ a.plan → a.core.outbox.queue.items ≡ option_to_list out ++ b.core.outbox.queue.items
      → (given : List (Output S D Stored K G C)) → HasReportedAll given a → AllIsReturned given b
  all_left a b (Some out) none same_member queue steps same_plan front given replied = absurd (false≢true (sym none))
  all_left a b None none same_member queue steps same_plan front given replied =
      all_given b queue steps given (subst (λ outs. HasReportedAll outs b) (append-nil given)
      (tells_given a b [] same_member same_plan front given replied))

  -- a member that waits for nothing
  pub tells_none : (a : Engine S L D K G C) → a.core.member.facts.outstanding_work ≡ no_outstanding_work
      → HasReportedAll [] a
  tells_none a none = subst (IsReportedIn (work_ahead a) (beside_of a.plan)) (sym none)
      (replied_none (work_ahead a) (beside_of a.plan))

pub restart_waits : {K L D : Type 0} (same : D → D → Bool) (elect : Elect L) (m : MemberFacts K L D)
    (r : RestartFacts K L D) (result : Result (Unit {0}) RecoverError) (left : MemberFacts K L D)
    → result ≡ Ok tt → IsRestart same elect m r result left → left.outstanding_work ≡ no_outstanding_work
unfolding IsRestart
restart_waits {K} {L} {D} same elect m r result left goes is_restart =
    by_test (retention_grows m r.prune r.start.setup.settings.view_retention) is_restart
  where
    cut : MemberFacts K L D
    cut = cut_member m r.drop r.prune

    waits : (next : MemberFacts K L D) → next.outstanding_work ≡ no_outstanding_work → left ≡ next
        → left.outstanding_work ≡ no_outstanding_work
    waits next none leaves = ap (λ (n : MemberFacts K L D). n.outstanding_work) leaves ∙ none

    by_error : (copy : List (ArtifactFacts D)) (due : Option RecoverError)
        → MatchOption due ((result ≡ Ok tt) × (left ≡ new_lifetime same elect cut r.start copy))
        (λ e. (result ≡ Err e) × (left ≡ without_lifetime cut)) → left.outstanding_work ≡ no_outstanding_work
    by_error copy None (_, leaves) = waits (new_lifetime same elect cut r.start copy) refl leaves
    by_error copy (Some e) (_, leaves) = waits (without_lifetime cut) refl leaves

    by_view : RecoversByView same elect cut r.start result left → left.outstanding_work ≡ no_outstanding_work
    by_view (inl (_, leaves)) = waits (without_lifetime cut) refl leaves
    by_view (inr (copy, _, recovers)) = by_error copy
        (recover_error same (new_state r.start.setup) r.start.floor r.start.now copy) recovers

    by_test : (b : Bool) → IsRestartWhere same elect b m r result left → left.outstanding_work ≡ no_outstanding_work
    by_test true (refused, _) = cc
    by_test false continues = by_view continues

-- what is so anyway, whatever the answer
pub on_any : {X E : Type 0} (r : Result X E) {P : Type 0} → P → OnOk r P
on_any (Ok x) holds = holds
on_any (Err e) holds = tt

-- an answer that is passed on
pub passed_on : {X Y E F : Type 0} (P : Type 0) (r : Result X E) (s : Result Y F) → (IsOk s → IsOk r) → OnOk r P
    → OnOk s P
passed_on P r (Err e) ok holds = tt
passed_on P (Ok x) (Ok y) ok holds = holds
passed_on P (Err e) (Ok y) ok holds = absurd (false≢true (ok refl))
