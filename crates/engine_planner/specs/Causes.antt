-- The causes of work, calls and fetches: what a plan has at hand, and what a reply of the member brings.
use Rattle.std.specs.Prelude.{ℕ, nat_le, Bool, true, false, List, [], ◌∷◌, ◌++◌, map, filter, Some, if◌then◌else◌}
use Rattle.simplex_types.specs.declared.types.messages.Context.{Context}
use Rattle.simplex_types.specs.declared.types.messages.Proposal.{Proposal}
use Rattle.simplex_types.specs.declared.types.messages.Subject.{Subject}
use Rattle.simplex_voter.specs.ProposalRequests.{request_context}
use Rattle.simplex_voter.specs.declared.voter.candidates.CertificateFetch.{CertificateFetch}
use Rattle.simplex_voter.specs.declared.voter.verify.Verify.TheVariants as verify
use Rattle.simplex_member.specs.Calls.{CallFacts, AddNotarization, AddNullification, AddFinalization}
use Rattle.simplex_member.specs.declared.member.calls.Reply.{Reply}
use Rattle.simplex_member.specs.declared.member.calls.Reply.TheVariants as reply
use Rattle.engine_fetches.specs.declared.fetches.Ask.{Ask}
use Rattle.engine_fetches.specs.declared.fetches.Fetch.{Fetch}
use Rattle.engine_fetches.specs.declared.fetches.FetchKind.{FetchKind}
use Rattle.engine_fetches.specs.declared.fetches.FetchKind.TheVariants.{Notarization}
use Rattle.engine_fetches.specs.declared.repair.Repair.{Repair}
use Rattle.engine_fetches.specs.Fetches.{fetch_kind}
use Rattle.engine_fetches.specs.OutstandingFetches.{wants}
use Rattle.engine_outbox.specs.declared.output.Work.{Work}
use Rattle.engine_outbox.specs.declared.output.Work.TheVariants.{Broadcast, Verify, Build, StopBuilding, Certify, Fetch as AskPeer, ProposedTwice}
use Rattle.engine_planner.specs.AskedFetches.{same_ask}
use Rattle.engine_planner.specs.declared.plan.builds.PendingBuild.{PendingBuild}
use Rattle.engine_planner.specs.declared.plan.early.Early.{Early}
use Rattle.engine_planner.specs.declared.plan.Plan.{Plan}
use Rattle.engine_planner.specs.declared.plan.Step.{Step}
use Rattle.engine_planner.specs.declared.plan.Step.TheVariants as step
use Rattle.engine_planner.specs.declared.task.Task.{Task}
use Rattle.engine_planner.specs.declared.task.Task.TheVariants as task

-- a cause
pub data Cause (S D K G C : Type 0) : Type 0 where
  -- work that the host is to do
  WorkItem : Work S D K G C → Cause S D K G C
  -- a certificate of this view is missing
  MissingCertificate : FetchKind → ℕ → Cause S D K G C
  -- a peer is to be asked for a certificate
  Request : Ask → Cause S D K G C
  -- a proposal that this member made
  Arrival : ℕ → Proposal D → Cause S D K G C
  -- a certificate on this subject
  Quorum : Subject D → Cause S D K G C
  -- what the host must pass to the member
  Message : Task D → Cause S D K G C
  -- the moment of the current view's timeout has come
  Expiry : Cause S D K G C

module _ {S D K G C : Type 0} where
  -- work is its own cause
  abbrev pub of_work : Work S D K G C → List (Cause S D K G C)
  of_work (AskPeer ask) = Request ask ∷ []
  of_work work = WorkItem work ∷ []

  -- each item of a list of work is its own cause
  abbrev pub of_works : List (Work S D K G C) → List (Cause S D K G C)
  of_works [] = []
  of_works (work ∷ rest) = of_work work ++ of_works rest

  -- a block is asked for in the context, or is no longer needed
  abbrev pub of_block : Context D K → List (Cause S D K G C)
  of_block context = WorkItem (Build context) ∷ WorkItem (StopBuilding context.round.view) ∷ []

  abbrev pub of_blocks : List (PendingBuild D K) → List (Cause S D K G C)
  of_blocks [] = []
  of_blocks (building ∷ rest) = of_block building.context ++ of_blocks rest

  -- a call is caused by the passed input, unless the engine makes it without one
  abbrev pub of_task : Task D → List (Cause S D K G C)
  of_task (task.SetProposal view proposal) = Message (task.SetProposal view proposal) ∷ []
  of_task (task.Proposed view payload) = Message (task.Proposed view payload) ∷ []
  of_task (task.Verified view) = Message (task.Verified view) ∷ []
  of_task (task.VerificationFailed view) = Message (task.VerificationFailed view) ∷ []
  of_task (task.Certified view is_success) = Message (task.Certified view is_success) ∷ []
  of_task (task.TriggerTimeout view reason) = Message (task.TriggerTimeout view reason) ∷ []
  of_task (task.ConstructNullify view reason) = Expiry ∷ []
  of_task _ = []

  -- what causes a step
  abbrev pub of_step : Step S D K G C → List (Cause S D K G C)
  of_step (step.Ask asked) = of_task asked
  of_step (step.Offer from proposal) = Arrival from proposal ∷ []
  of_step (step.Resolve kind view proposal) = MissingCertificate kind view ∷ []
  of_step (step.Repeat view) = []
  of_step (step.Push work) = of_work work

  abbrev pub of_steps : List (Step S D K G C) → List (Cause S D K G C)
  of_steps [] = []
  of_steps (step ∷ rest) = of_step step ++ of_steps rest

  -- a fetch is caused by what the resolver has open, or by a missing certificate
  abbrev pub of_fetch : List ℕ → Fetch → List (Cause S D K G C)
  of_fetch wanted fetch = if wants wanted fetch.kind fetch.view then []
      else MissingCertificate fetch.kind fetch.view ∷ []

  abbrev pub of_fetches : List ℕ → List Fetch → List (Cause S D K G C)
  of_fetches wanted [] = []
  of_fetches wanted (fetch ∷ rest) = of_fetch wanted fetch ++ of_fetches wanted rest

  abbrev pub of_repair : Repair → List (Cause S D K G C)
  of_repair repair = of_fetches repair.resolver.open_fetches repair.fetches.wanted.items

  -- early proposals
  abbrev pub of_early : List (Early D) → List (Cause S D K G C)
  of_early early = map (λ (it : Early D). Arrival it.from it.proposal) early

  -- this peer is to be asked for this certificate
  abbrev pub is_request : Ask → Cause S D K G C → Bool
  is_request ask (Request it) = same_ask it ask
  is_request ask _ = false

  -- a cause that is not a request to a peer
  abbrev pub is_other : Cause S D K G C → Bool
  is_other (Request _) = false
  is_other _ = true

  -- the causes that are not requests to peers
  abbrev pub unrequested : List (Cause S D K G C) → List (Cause S D K G C)
  unrequested causes = filter is_other causes

  -- what a plan has at hand
  abbrev pub planned_causes : Plan S D K G C → List (Cause S D K G C)
  planned_causes plan =
      of_steps plan.steps.items
      ++ (of_blocks plan.builds.buildings.items ++ (of_early plan.early.proposals.items ++ of_repair plan.repair))

  -- a leader signed two proposals of the view of the passed certificate
  abbrev pub shown_by : CallFacts D → K → List (Cause S D K G C)
  shown_by (AddNotarization c) leader = WorkItem (ProposedTwice c.proposal.round.view leader) ∷ []
  shown_by (AddNullification c _) leader = WorkItem (ProposedTwice c.round.view leader) ∷ []
  shown_by (AddFinalization c _) leader = WorkItem (ProposedTwice c.proposal.round.view leader) ∷ []
  shown_by _ leader = []

  -- what the reply to a call brings, at a moment
  abbrev pub reply_causes : ℕ → Reply S D K G C → CallFacts D → List (Cause S D K G C)
  reply_causes now (reply.Work (verify.Ready context proposal)) asked = WorkItem (Verify context proposal) ∷ []
  reply_causes now (reply.Work (verify.Resolve _ view kind _)) asked = MissingCertificate (fetch_kind kind) view ∷ []
  reply_causes now (reply.Request (Some request)) asked = of_block (request_context request)
  reply_causes now (reply.Candidates proposals wanted) asked =
      map (λ proposal. WorkItem (Certify proposal)) proposals.items
      ++ map (λ (it : CertificateFetch). MissingCertificate Notarization it.view) wanted.items
  reply_causes now (reply.Certificate (Some certificate)) asked = WorkItem (Broadcast certificate) ∷ []
  reply_causes now (reply.Added _ (Some leader)) asked = shown_by asked leader
  reply_causes now (reply.Timeout moment reason) asked = if nat_le moment now then Expiry ∷ [] else []
  reply_causes now _ asked = []
