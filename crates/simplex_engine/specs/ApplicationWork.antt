-- The application receives each proposal to verify, each proposal to certify, and each block to build.
use Rattle.std.specs.Prelude.{◌≡◌, ℕ, Bool, true, false, ◌==◌, List, [], ◌++◌, is_some}
use Rattle.std.specs.List.{list_any}
use Rattle.simplex_member.specs.declared.member.journal.Stored.{Stored}
use Rattle.simplex_member.specs.OutstandingWork.{OutstandingWork, context_at, is_verifying, is_offered}
use Rattle.simplex_engine.specs.declared.engine.Engine.{Engine}
use Rattle.engine_planner.specs.PlannedWork.{AreAmong, Beside, beside_of, constants_of, has_block, work_planned}
use Rattle.simplex_engine.specs.BuildBounds.{BuildsNear}
use Rattle.simplex_engine.specs.MemberViews.{TracksViews, StaysStoredEarly}
use Rattle.laws_safety.specs.LifetimeLaws.{WhileAlive}
use Rattle.engine_outbox.specs.Continuity.{HasRisen}
use Rattle.engine_outbox.specs.Outputs.{work_in}
use Rattle.engine_outbox.specs.declared.output.Output.{Output}
use Rattle.engine_outbox.specs.declared.output.Work.{Work}
use Rattle.engine_outbox.specs.declared.output.Work.TheVariants.{Verify, Certify}

module _ {S D K G C : Type 0} where
  -- the application is to verify the view's proposal
  abbrev pub is_verify_of : ℕ → Work S D K G C → Bool
  is_verify_of view (Verify _ proposal) = proposal.round.view == view
  is_verify_of view _ = false

  -- the application is to give a verdict on the view's proposal
  abbrev pub is_certify_of : ℕ → Work S D K G C → Bool
  is_certify_of view (Certify proposal) = proposal.round.view == view
  is_certify_of view _ = false

  -- among this work is each proposal that is being verified; each that was offered for certification and has no
  -- verdict; and the block of each view whose request to build is open, except where a lone member waits until it
  -- enters the view
  pub record IsReportedIn (work : List (Work S D K G C)) (beside : Beside K D)
      (waiting : OutstandingWork K D) : Type 0 where
    pub verified : (view : ℕ) → is_verifying waiting view ≡ true → list_any (is_verify_of view) work ≡ true
    pub certified : (view : ℕ) → is_offered waiting view ≡ true → list_any (is_certify_of view) work ≡ true
    pub built : (view : ℕ) → is_some (context_at waiting view) ≡ true → has_block work beside view ≡ true

module _ {S L D K G C : Type 0} where
  -- the queued work, and after it what is planned
  abbrev pub work_ahead : Engine S L D K G C → List (Work S D K G C)
  work_ahead engine = work_in engine.core.outbox.queue.items ++ work_planned engine.plan.steps.items

  -- if this work was returned, each proposal and block that the application must receive was returned, is queued, or is
  -- planned
  abbrev pub ReportsAfter : List (Work S D K G C) → Engine S L D K G C → Type 0
  ReportsAfter work engine =
      IsReportedIn (work ++ work_ahead engine) (beside_of engine.plan) engine.core.member.facts.outstanding_work

  -- this is preserved after any work; no queued or planned work is lost; no block is added above the first view of the
  -- next term; the plan's views stay the member's, and no proposal is lost that is early by them; and the options stay,
  -- and whether there are other members
  pub record KeepsReports (old new : Engine S L D K G C) : Type 0 where
    pub stays : (work : List (Work S D K G C)) → ReportsAfter work old → ReportsAfter work new
    pub works : AreAmong (work_ahead old) (work_ahead new)
    pub near : BuildsNear old.core old.plan → BuildsNear new.core new.plan
    pub seen : TracksViews old.core.member.facts old.plan → TracksViews new.core.member.facts new.plan
    pub early : TracksViews old.core.member.facts old.plan → StaysStoredEarly old.plan new.core.member.facts new.plan
    pub constants : constants_of new.plan ≡ constants_of old.plan

  -- the same where this work was taken from what was planned; the member's views do not fall, and no input is counted
  -- as ignored
  pub record KeepsTaken (taken : List (Work S D K G C)) (old new : Engine S L D K G C) : Type 0 where
    pub stays : (work : List (Work S D K G C)) → ReportsAfter (taken ++ work) old → ReportsAfter work new
    pub works : AreAmong (taken ++ work_ahead old) (work_ahead new)
    pub near : BuildsNear old.core old.plan → BuildsNear new.core new.plan
    pub seen : TracksViews old.core.member.facts old.plan → TracksViews new.core.member.facts new.plan
    pub early : TracksViews old.core.member.facts old.plan → StaysStoredEarly old.plan new.core.member.facts new.plan
    pub constants : constants_of new.plan ≡ constants_of old.plan
    pub risen : WhileAlive HasRisen old.core.member.facts.life new.core.member.facts.life
    pub ignored : new.plan.ignored ≡ old.plan.ignored

  -- the same where none was taken
  abbrev pub KeepsApplicationWork : Engine S L D K G C → Engine S L D K G C → Type 0
  KeepsApplicationWork old new = KeepsTaken [] old new

  -- the same where these outputs were returned
  abbrev pub HasReportedAll : List (Output S D Stored K G C) → Engine S L D K G C → Type 0
  HasReportedAll given engine = ReportsAfter (work_in given) engine

  -- each of them is among these outputs
  abbrev pub AllIsReturned : List (Output S D Stored K G C) → Engine S L D K G C → Type 0
  AllIsReturned given engine =
      IsReportedIn (work_in given) (beside_of engine.plan) engine.core.member.facts.outstanding_work
