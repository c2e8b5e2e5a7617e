-- Planned work, and what a reply of the member asks for.
use Rattle.std.specs.Prelude.{◌≡◌, ℕ, Bool, true, false, ◌&&◌, ◌||◌, ◌==◌, List, [], ◌∷◌, ◌++◌, map, filter, nat_lt, Some, is_some}
use Rattle.std.specs.List.{list_any}
use Rattle.simplex_voter.specs.ProposalRequests.{request_context}
use Rattle.simplex_voter.specs.declared.voter.verify.Verify.TheVariants.{Ready}
use Rattle.simplex_member.specs.Calls.{ReplyFacts, Answered, Triggered, Released, Abandoned, NotAllowed, Standing, Requested, Candidates}
use Rattle.engine_fetches.specs.declared.fetches.Peers.{Peers}
use Rattle.engine_outbox.specs.declared.output.Work.{Work}
use Rattle.engine_outbox.specs.declared.output.Work.TheVariants.{Verify, Certify, Build}
use Rattle.engine_planner.specs.declared.plan.Options.{Options}
use Rattle.engine_planner.specs.declared.plan.Plan.{Plan}
use Rattle.engine_planner.specs.declared.plan.Step.{Step}
use Rattle.engine_planner.specs.declared.plan.Step.TheVariants.{Push}
use Rattle.engine_planner.specs.declared.plan.Views.{Views}
use Rattle.engine_planner.specs.declared.plan.early.Early.{Early}
use Rattle.engine_planner.specs.declared.plan.builds.PendingBuild.{PendingBuild}
use Rattle.engine_planner.specs.declared.task.Task.{Task}
use Rattle.engine_planner.specs.Blocks.{views_built, waits_for}
use Rattle.engine_planner.specs.Consequences.{Consequence, Nothing, Built, Stopped, Ended, after_flag, after_watch, after_refusal}

-- whether there is no other member, the options, the peers to ask, and the interval between askings, in milliseconds
pub record Constants : Type 0 where
  pub is_alone : Bool
  pub options : Options
  pub peers : Peers
  pub retry : ℕ

-- each test that some of these pass, some of those pass
pub record AreAmong {A : Type 0} (these those : List A) : Type 0 where
  pub found : (test : A → Bool) → list_any test these ≡ true → list_any test those ≡ true

-- nothing is built any more in the view that a reply is about
abbrev pub ended_in : {D : Type 0} → Consequence D → ℕ → Bool
ended_in (Built view) other = view == other
ended_in (Stopped view) other = view == other
ended_in (Ended view) other = view == other
ended_in _ other = false

module _ {K D : Type 0} where
  -- what follows from a reply that says only yes, no, why, or that the call is not allowed
  abbrev pub consequence_of : Task D → ReplyFacts K D → Consequence D
  consequence_of asked (Answered is_taken) = after_flag asked is_taken
  consequence_of asked (Triggered is_taken) = after_flag asked is_taken
  consequence_of asked (Released is_taken) = after_flag asked is_taken
  consequence_of asked (Abandoned reason) = after_watch asked (is_some reason)
  consequence_of asked NotAllowed = after_refusal asked
  consequence_of asked _ = Nothing

  -- so nothing is built in this view any more
  abbrev pub ends : Task D → ReplyFacts K D → ℕ → Bool
  ends asked replied = ended_in (consequence_of asked replied)

  -- the view of the block that a reply requests
  abbrev pub views_requested : ReplyFacts K D → List ℕ
  views_requested (Requested (Some request)) = (request_context request).round.view ∷ []
  views_requested _ = []

module _ {S D K G C : Type 0} where
  -- the application is to build a block in the view
  abbrev pub is_build_of : ℕ → Work S D K G C → Bool
  is_build_of view (Build context) = context.round.view == view
  is_build_of view _ = false

  -- the work that steps queue, in order
  abbrev pub work_planned : List (Step S D K G C) → List (Work S D K G C)
  work_planned [] = []
  work_planned (Push work ∷ rest) = work ∷ work_planned rest
  work_planned (_ ∷ rest) = work_planned rest

  -- what a reply of the member asks of the application about proposals
  abbrev pub work_of : ReplyFacts K D → List (Work S D K G C)
  work_of (Standing (Ready context proposal)) = Verify context proposal ∷ []
  work_of (Candidates proposals _) = map Certify proposals
  work_of _ = []

  -- the constants of a plan for a lifetime
  abbrev pub constants_of : Plan S D K G C → Constants
  constants_of plan = record {
    is_alone = plan.is_alone;
    options = plan.options;
    peers = plan.repair.fetches.peers;
    retry = plan.repair.fetches.retry;
  }

-- what a plan stores beside its steps: its views, the blocks to build, the early proposals, the constants of a
-- lifetime, and how many inputs were ignored
pub record Beside (K D : Type 0) : Type 0 where
  pub reached : Views
  pub blocks : List (PendingBuild D K)
  pub early : List (Early D)
  pub constants : Constants
  pub ignored : ℕ

-- of a plan
abbrev pub beside_of : {S D K G C : Type 0} → Plan S D K G C → Beside K D
beside_of plan = record {
  reached = plan.views;
  blocks = plan.builds.buildings.items;
  early = plan.early.proposals.items;
  constants = constants_of plan;
  ignored = plan.ignored;
}

-- a proposal is early, if this view is the current one
abbrev pub is_early : {D : Type 0} → ℕ → Early D → Bool
is_early current early = nat_lt current early.view

-- the application of a lone member was not asked for this view's block yet
abbrev pub awaits : {K D : Type 0} → Beside K D → ℕ → Bool
awaits beside view = beside.constants.is_alone && list_any (waits_for view) beside.blocks

module _ {S D K G C : Type 0} where
  -- the view's block is among this work, or it waits
  abbrev pub has_block : List (Work S D K G C) → Beside K D → ℕ → Bool
  has_block work beside view = list_any (is_build_of view) work || awaits beside view

  -- this work is planned; of each view that was requested, or whose block waited, a block is planned or still waits,
  -- unless it is ended; no other block is to be built; each proposal that was early, and still is, stays stored; the
  -- views and the constants are the same, and no input was counted as ignored
  pub record IsPlanned (requested : List ℕ) (ended : ℕ → Bool) (work : List (Work S D K G C)) (was : Beside K D)
      (planned : List (Work S D K G C))
      (is : Beside K D) : Type 0 where
    pub found : AreAmong work planned
    pub building : (view : ℕ) → (list_any (λ v. v == view) requested || awaits was view) ≡ true → ended view ≡ false
        → has_block planned is view ≡ true
    pub views : AreAmong (views_built is.blocks) (requested ++ views_built was.blocks)
    pub early : AreAmong (filter (is_early is.reached.current) was.early) is.early
    pub reached : is.reached ≡ was.reached
    pub constants : is.constants ≡ was.constants
    pub ignored : is.ignored ≡ was.ignored

  -- planned work stays planned, and waiting blocks continue to wait, if none is ended
  abbrev pub KeepsPlanned : Plan S D K G C → Plan S D K G C → Type 0
  KeepsPlanned old new =
      IsPlanned [] (λ view. false) (work_planned old.steps.items) (beside_of old)
      (work_planned new.steps.items) (beside_of new)

  -- the same after the views changed
  abbrev pub KeepsPlannedThen : Plan S D K G C → Plan S D K G C → Type 0
  KeepsPlannedThen old new = KeepsPlanned (record old { views = new.views }) new

  -- what the reply to a task asks for is planned too
  abbrev pub PlansAnswer : Task D → ReplyFacts K D → Plan S D K G C → Plan S D K G C → Type 0
  PlansAnswer asked replied old new =
      IsPlanned (views_requested replied) (ends asked replied) (work_planned old.steps.items ++ work_of replied)
      (beside_of old)
      (work_planned new.steps.items)
      (beside_of new)

  -- the same after the views changed
  abbrev pub PlansAnswerThen : Task D → ReplyFacts K D → Plan S D K G C → Plan S D K G C → Type 0
  PlansAnswerThen asked replied old new = PlansAnswer asked replied (record old { views = new.views }) new
