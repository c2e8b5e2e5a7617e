-- What an engine does for a step that is next.
use Rattle.std.specs.Prelude.{◌≡◌, ℕ, ◌+◌, ◌-◌, ◌^◌, min, Bool, true, false, List, [], ◌∷◌, ◌++◌, Option, Some, None}
use Rattle.simplex_types.specs.declared.types.messages.Proposal.{Proposal}
use Rattle.simplex_voter.specs.Facts.{Elect}
use Rattle.simplex_member.specs.Calls.{reply_facts}
use Rattle.simplex_member.specs.MemberFacts.{IsCall}
use Rattle.simplex_member.specs.declared.member.calls.Reply.{Reply}
use Rattle.engine_fetches.specs.declared.fetches.FetchKind.{FetchKind}
use Rattle.engine_fetches.specs.Fetches.{opened}
use Rattle.engine_outbox.specs.Outboxes.{IsRepeated}
use Rattle.engine_outbox.specs.declared.output.Output.TheVariants as output
use Rattle.engine_planner.specs.declared.plan.Plan.{Plan}
use Rattle.engine_planner.specs.declared.plan.Step.{Step}
use Rattle.engine_planner.specs.declared.plan.Step.TheVariants.{Ask, Offer, Resolve, Repeat, Push}
use Rattle.engine_planner.specs.declared.plan.Views.{Views}
use Rattle.engine_planner.specs.declared.task.Task.{Task}
use Rattle.engine_planner.specs.declared.task.Task.TheVariants.{SetProposal}
use Rattle.engine_planner.specs.ViewChanges.{HasSeen}
use Rattle.engine_planner.specs.StepSelection.{HasTaken}
use Rattle.engine_planner.specs.Consequences.{IsFollowed}
use Rattle.engine_planner.specs.Tasks.{call_of}
use Rattle.simplex_engine.specs.declared.engine.Engine.{Engine}
use Rattle.simplex_engine.specs.Admission.{admits_proposal, is_so, IsStoredEarly}
use Rattle.simplex_engine.specs.Provenance.{is_verdict}

-- the member has come to some views
abbrev pub HasSeenViews : {S D K G C : Type 0} → Plan S D K G C → Plan S D K G C → Type 0
HasSeenViews old new = (views : Views) × HasSeen views old new

-- a certificate is fetched, first once it may no longer be on its way; one that is fetched already stays so
abbrev pub IsFetched : {S D K G C : Type 0} → ℕ → FetchKind → ℕ → Plan S D K G C → Plan S D K G C → Type 0
IsFetched now kind view old new =
    (first : ℕ) × (new.repair.fetches.wanted.items
    ≡ opened kind view first (min (now + old.options.on_its_way) (2 ^ 64 - 1)) old.repair.fetches.wanted.items)

-- the plan sees the member's views, and then follows the reply to a task just as `Plan::follow` says: so all work of a
-- reply is planned
pub record IsReplyFollowed {S D K G C : Type 0} (bytes : D → List ℕ) (bytes_of : C → List ℕ) (now : ℕ) (asked : Task D)
    (reply : Reply S D K G C)
    (old new : Plan S D K G C) : Type 0 where
  pub seen : Plan S D K G C
  pub sees : HasSeenViews old seen
  pub followed : IsFollowed bytes bytes_of now asked reply seen new

module _ {S L D K G C : Type 0} (same : D → D → Bool) (elect : Elect L) (bytes : D → List ℕ)
    (bytes_of : C → List ℕ) (now : ℕ) where
  -- the member is asked this, and its reply is followed
  pub record IsTaskDone (asked : Task D) (old new : Engine S L D K G C) : Type 0 where
    pub reply : Reply S D K G C
    pub answered : IsCall same elect old.core.member.facts (call_of asked now) (reply_facts bytes_of reply)
        new.core.member.facts
    pub followed : IsReplyFollowed bytes bytes_of now asked reply old.plan new.plan

  -- so is a task that is planned; but no verdict is passed to the member
  abbrev pub IsTaskTaken : (is_verdict : Bool) → Task D → Engine S L D K G C → Engine S L D K G C → Type 0
  IsTaskTaken true asked old new = new ≡ old
  IsTaskTaken false asked old new = IsTaskDone asked old new

  -- a proposal that came early is passed to the member, where that admits it, and else stored where it is early still
  abbrev pub IsOffered : (is_admitted : Bool) → ℕ → Proposal D → Engine S L D K G C → Engine S L D K G C → Type 0
  IsOffered true from proposal old new = IsTaskDone (SetProposal proposal.round.view proposal) old new
  IsOffered false from proposal old new = IsStoredEarly from proposal old new

  -- a step is taken: a task is done; an early proposal is offered; a certificate is fetched; the newest vote to nullify
  -- is queued once more, where it is one of the view; work is queued
  abbrev pub IsStepTaken : Step S D K G C → Engine S L D K G C → Engine S L D K G C → Type 0
  IsStepTaken (Ask asked) old new = IsTaskTaken (is_verdict asked) asked old new
  IsStepTaken (Offer from proposal) old new =
      IsOffered (is_so (λ x. admits_proposal x from proposal.round) old.core.member.facts) from proposal old new
  IsStepTaken (Resolve kind view proposal) old new = IsFetched now kind view old.plan new.plan
  IsStepTaken (Repeat view) old new =
      (sent : Bool) × IsRepeated view old.core.outbox.repeat sent old.core.outbox new.core.outbox
  IsStepTaken (Push work) old new = new.core.outbox.queue.items ≡ old.core.outbox.queue.items ++ output.Work work ∷ []

  -- of an engine whose plan has become this
  abbrev pub IsTakenWhere : Option (Step S D K G C) → Engine S L D K G C → Engine S L D K G C → Type 0
  IsTakenWhere None old new = new ≡ old
  IsTakenWhere (Some step) old new = IsStepTaken step old new

  -- the step that the plan has next is taken, where it has one
  pub record IsNextTaken (old new : Engine S L D K G C) : Type 0 where
    pub next : Option (Step S D K G C)
    pub left : Plan S D K G C
    pub is_next : HasTaken now next old.plan left
    pub taken : IsTakenWhere next (record old { plan = left }) new
