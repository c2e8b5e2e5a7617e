-- Provenance: every call, output and stored item of an engine is caused by an input or by a reply of its member.
use Rattle.std.specs.Prelude.{◌≡◌, ◌⊎◌, ℕ, nat_le, Bool, true, false, ◌||◌, List, [], ◌∷◌, ◌++◌, option_map, option_to_list, map, Some}
use Rattle.std.specs.List.{list_any}
use Rattle.std.specs.Option.{option_map_or}
use Rattle.simplex_types.specs.Certificates.{CertificateFacts, certificate_facts}
use Rattle.simplex_types.specs.Encoding.{certificate_subject}
use Rattle.simplex_types.specs.MessageViews.{subject_view}
use Rattle.simplex_types.specs.declared.types.messages.Proposal.{Proposal}
use Rattle.simplex_resolver.specs.Steps.{Call}
use Rattle.simplex_voter.specs.Facts.{Elect}
use Rattle.simplex_voter.specs.Windows.{min_active}
use Rattle.simplex_member.specs.Calls.{CallFacts, AddNotarization, AddNullification, AddFinalization, Certified, SetProposal, reply_facts}
use Rattle.simplex_member.specs.MemberFacts.{MemberFacts}
use Rattle.simplex_member.specs.OutstandingWork.{is_offered}
use Rattle.simplex_member.specs.Runs.{StepFacts, Calls, Prunes, Restarts, IsStep}
use Rattle.simplex_member.specs.declared.member.calls.Reply.{Reply}
use Rattle.simplex_member.specs.declared.member.calls.Reply.TheVariants as reply
use Rattle.simplex_voter.specs.declared.voter.verify.Verify.TheVariants as verify
use Rattle.engine_votes.specs.StoredVotes.{held, kind_of}
use Rattle.engine_votes.specs.Polls.{ballot_of}
use Rattle.engine_votes.specs.declared.batcher.Batcher.{Batcher}
use Rattle.engine_votes.specs.declared.batcher.Counted.{Counted}
use Rattle.engine_votes.specs.declared.batcher.Counted.TheVariants as counted
use Rattle.engine_votes.specs.declared.batcher.poll.Ballot.{Ballot}
use Rattle.engine_votes.specs.declared.votes.Vote.{Vote}
use Rattle.engine_fetches.specs.declared.fetches.Ask.{Ask}
use Rattle.engine_fetches.specs.declared.fetches.FetchKind.{FetchKind}
use Rattle.engine_fetches.specs.OutstandingFetches.{holds}
use Rattle.simplex_engine.specs.declared.engine.Engine.{Engine}
use Rattle.simplex_engine.specs.declared.input.Input.{Input}
use Rattle.simplex_engine.specs.declared.input.Input.TheVariants as input
use Rattle.engine_outbox.specs.CertificateCalls.{certificate_call}
use Rattle.engine_outbox.specs.Outputs.{work_in}
use Rattle.engine_outbox.specs.declared.output.Work.{Work}
use Rattle.engine_outbox.specs.declared.output.Work.TheVariants.{Equivocated, Forget}
use Rattle.engine_outbox.specs.declared.output.Work.TheVariants as work
use Rattle.engine_planner.specs.declared.task.Task.{Task}
use Rattle.engine_planner.specs.declared.task.Task.TheVariants as task
use Rattle.engine_planner.specs.Causes.{Cause, WorkItem, Arrival, Quorum, Message, reply_causes, of_task, of_works, planned_causes, is_request, unrequested}
use Rattle.engine_planner.specs.AskedFetches.{AsksWhoseTurn}
use Rattle.engine_planner.specs.FetchRequests.{asks, ended_by, received_by, is_missing_certificate, with_missing_certificate, AreMade, IsStill, IsSought}
use Rattle.engine_planner.specs.PlannedWork.{AreAmong}
use Rattle.engine_planner.specs.Tasks.{call_of}
use Rattle.simplex_engine.specs.ApplicationWork.{work_ahead}
use Rattle.simplex_engine.specs.InputEffects.{verification_of}
use Rattle.simplex_engine.specs.Admission.{admits_proposal, is_so}

module _ {S L D K G C : Type 0} where
  -- what an engine has at hand: the queued work, and what is planned
  abbrev pub pending_causes : Engine S L D K G C → List (Cause S D K G C)
  pending_causes engine = of_works (work_in engine.core.outbox.queue.items) ++ planned_causes engine.plan

module _ {S D K G C : Type 0} where
  -- a cause is among others
  abbrev pub IsIn : Cause S D K G C → List (Cause S D K G C) → Type 0
  IsIn the_cause causes = AreAmong (the_cause ∷ []) causes

  -- none is a missing certificate
  abbrev pub HasNoMissingCertificate : List (Cause S D K G C) → Type 0
  HasNoMissingCertificate causes =
      (kind : FetchKind) (view : ℕ) → list_any (is_missing_certificate kind view) causes ≡ false

  -- a member contradicts itself, if this ballot of it is stored, of the same kind and view as this vote
  abbrev pub evidence_against : Vote D G → Ballot D G → Cause S D K G C
  evidence_against vote ballot =
      WorkItem (Equivocated (record { subject = ballot.subject; signer = vote.signer; signature = ballot.signature })
      vote)

  -- the evidence in a vote
  abbrev pub evidence : Batcher S D K G C → Vote D G → List (Cause S D K G C)
  evidence batcher vote =
      option_to_list (option_map (evidence_against vote)
      (ballot_of (held batcher (kind_of vote.subject) (subject_view vote.subject)) vote.signer))

  -- the result of counting a vote
  abbrev pub of_counted : (C → List ℕ) → Counted S D K G C → List (Cause S D K G C)
  of_counted bytes_of (counted.Certified made) = Quorum (certificate_subject (certificate_facts bytes_of made)) ∷ []
  of_counted bytes_of (counted.Equivocated first second) = WorkItem (Equivocated first second) ∷ []
  of_counted bytes_of _ = []

  -- what an input brings, with these stored votes
  abbrev pub input_causes : (C → List ℕ) → Batcher S D K G C → Input S D K G C → List (Cause S D K G C)
  input_causes bytes_of batcher (input.Proposal from proposal) = Arrival from proposal ∷ []
  input_causes bytes_of batcher (input.Vote vote) = Quorum vote.subject ∷ evidence batcher vote
  input_causes bytes_of batcher (input.Certificate certificate) =
      Quorum (certificate_subject (certificate_facts bytes_of certificate)) ∷ []
  input_causes bytes_of batcher (input.Verified view is_valid) = Message (verification_of is_valid view) ∷ []
  input_causes bytes_of batcher (input.Built context payload) = Message (task.Proposed context.round.view payload) ∷ []
  input_causes bytes_of batcher (input.Certified view is_success) = Message (task.Certified view is_success) ∷ []
  input_causes bytes_of batcher (input.GivenUp view reason) = Message (task.TriggerTimeout view reason) ∷ []

module _ {S L D K G C : Type 0} where
  -- what an engine may report without a cause: that the views below the lowest one which its member retains may be
  -- forgotten
  abbrev pub forgettable : MemberFacts K L D → List (Cause S D K G C)
  forgettable m = option_map_or (λ x. WorkItem (Forget (min_active x)) ∷ []) m.life []

-- the task passes a verdict on a proposal
abbrev pub is_verdict : {D : Type 0} → Task D → Bool
is_verdict (task.Certified _ _) = true
is_verdict _ = false

-- a verdict is on a proposal that the member offered and that has none; any other call may be made
abbrev pub IsOnOffer : {K L D : Type 0} → MemberFacts K L D → CallFacts D → Type 0
IsOnOffer m (Certified view _ _) = is_offered m.outstanding_work view ≡ true
IsOnOffer m _ = Unit {0}

module _ {S L D K G C : Type 0} (now : ℕ) where
  -- a call is caused by what is at hand: by a task, with a verdict only on an offer; by a proposal of its view's leader
  -- that the member admits; or by a certificate
  abbrev pub IsCallCaused : List (Cause S D K G C) → MemberFacts K L D → CallFacts D → Type 0
  IsCallCaused causes m call =
      ((asked : Task D) × (call ≡ call_of asked now) × AreAmong (of_task asked) causes × IsOnOffer m call)
      ⊎ ((from : ℕ) × (proposal : Proposal D) × (call ≡ SetProposal proposal.round.view proposal)
      × IsIn (Arrival from proposal) causes
      × (is_so (λ x. admits_proposal x from proposal.round) m ≡ true))
      ⊎ ((certificate : CertificateFacts D) × (call ≡ certificate_call certificate now)
      × IsIn (Quorum (certificate_subject certificate)) causes)

  -- the same for a step of the member; its record may be pruned
  abbrev pub IsStepCaused : List (Cause S D K G C) → MemberFacts K L D → StepFacts K L D → Type 0
  IsStepCaused causes m (Calls call) = IsCallCaused causes m call
  IsStepCaused causes m Prunes = Unit {0}
  IsStepCaused causes m (Restarts restart) = ⊥

  -- what a step brings by its reply
  abbrev pub step_causes : StepFacts K L D → Reply S D K G C → List (Cause S D K G C)
  step_causes (Calls call) reply = reply_causes now reply call
  step_causes _ reply = []

-- the view is final, as far as the member is known
abbrev pub is_final : {K L D : Type 0} → MemberFacts K L D → ℕ → Bool
is_final m view = option_map_or (λ x. nat_le view x.finalized) m.life true

-- what a resolver receives by steps, one after the other
abbrev pub received_in : {S L D K G C : Type 0} → (D → List ℕ) → (C → List ℕ)
    → List (StepFacts K L D × Reply S D K G C) → List Call
received_in bytes bytes_of [] = []
received_in bytes bytes_of ((Calls call, reply) ∷ rest) =
    received_by bytes bytes_of reply call ++ received_in bytes bytes_of rest
received_in bytes bytes_of (_ ∷ rest) = received_in bytes bytes_of rest

module _ {S D K G C : Type 0} where
  -- evidence that the leader signed two proposals, where it came up by this certificate
  abbrev pub evidence_in : CallFacts D → K → List (Work S D K G C)
  evidence_in (AddNotarization c) leader = work.ProposedTwice c.proposal.round.view leader ∷ []
  evidence_in (AddNullification c _) leader = work.ProposedTwice c.round.view leader ∷ []
  evidence_in (AddFinalization c _) leader = work.ProposedTwice c.proposal.round.view leader ∷ []
  evidence_in _ leader = []

  -- the work that a reply asks the host for: to verify or certify proposals, to send a certificate to all, to store
  -- evidence
  abbrev pub work_by_reply : Reply S D K G C → CallFacts D → List (Work S D K G C)
  work_by_reply (reply.Work (verify.Ready context proposal)) asked = work.Verify context proposal ∷ []
  work_by_reply (reply.Candidates proposals _) asked = map work.Certify proposals.items
  work_by_reply (reply.Certificate (Some certificate)) asked = work.Broadcast certificate ∷ []
  work_by_reply (reply.Added _ (Some leader)) asked = evidence_in asked leader
  work_by_reply _ asked = []

-- the work that the replies to steps ask for, in order
abbrev pub work_by_steps : {S L D K G C : Type 0} → List (StepFacts K L D × Reply S D K G C) → List (Work S D K G C)
work_by_steps [] = []
work_by_steps ((Calls call, reply) ∷ rest) = work_by_reply reply call ++ work_by_steps rest
work_by_steps (_ ∷ rest) = work_by_steps rest

module _ {S L D K G C : Type 0} (same : D → D → Bool) (elect : Elect L) (bytes_of : C → List ℕ) (now : ℕ) where
  -- from a member with this at hand to another with that, by these steps and their replies, in order. What is at hand,
  -- with what the replies before it bring, causes each step, and also what is pending at the end. Each certificate that
  -- was asked for, or that a reply names as missing, is asked for in the end, unless that is over. A peer is asked only
  -- for what is sought
  abbrev pub IsCausedBy : (asks_now is_over : FetchKind → ℕ → Bool) → List (StepFacts K L D × Reply S D K G C)
      → List (Cause S D K G C)
      → (FetchKind → ℕ → Bool) → MemberFacts K L D → List (Cause S D K G C) → MemberFacts K L D → Type 0
  IsCausedBy asks_now is_over [] causes asked m left end =
      AreAmong (unrequested left) causes × (end ≡ m) × IsStill asked is_over asks_now
      × ((ask : Ask) → list_any (is_request ask) left ≡ true → IsSought causes asks_now is_over ask)
  IsCausedBy asks_now is_over ((step, reply) ∷ rest) causes asked m left end =
      let given = step_causes {L = L} now step reply in
      IsStepCaused now causes m step
      × (next : MemberFacts K L D)
      × IsStep same elect m step (reply_facts bytes_of reply) next
      × IsCausedBy asks_now is_over rest (causes ++ given) (with_missing_certificate asked given) next left end

module _ {S L D K G C : Type 0} (same : D → D → Bool) (elect : Elect L) (bytes : D → List ℕ)
    (bytes_of : C → List ℕ) (now : ℕ) where
  -- the same for an engine, where this came in besides, this work was returned, and these certificates need not be
  -- asked for: those of views up to the last finalized one, and those that the resolver ends by what it receives, which
  -- is what the replies say. All work that the replies ask for is returned, queued or planned. So is the output that
  -- asks a peer for each fetch that counts as asked since, and that was due at this moment
  pub record IsCaused (came : List (Cause S D K G C)) (out : List (Work S D K G C)) (held : FetchKind → ℕ → Bool)
      (old new : Engine S L D K G C)
      : Type 0 where
    pub steps : List (StepFacts K L D × Reply S D K G C)
    pub received : AreMade old.plan.repair.resolver (received_in bytes bytes_of steps) new.plan.repair.resolver
    pub by_steps : IsCausedBy same elect bytes_of now (asks new.plan)
        (λ kind view. held kind view
        || (is_final new.core.member.facts view
        || ended_by old.plan.repair.resolver.state (received_in bytes bytes_of steps) kind view))
        steps (came ++ pending_causes old) (with_missing_certificate (asks old.plan) came) old.core.member.facts
        (of_works out ++ pending_causes new) new.core.member.facts
    pub works : AreAmong (work_by_steps steps) (out ++ work_ahead new)
    pub asked : AsksWhoseTurn now
        (λ kind view. held kind view
        || (is_final new.core.member.facts view
        || ended_by old.plan.repair.resolver.state (received_in bytes bytes_of steps) kind view))
        (out ++ work_ahead new) old.plan.repair.fetches new.plan.repair.fetches

  -- the same where nothing is returned, and each certificate is to be asked for
  abbrev pub IsCausedWith : List (Cause S D K G C) → Engine S L D K G C → Engine S L D K G C → Type 0
  IsCausedWith came old new = IsCaused came [] (λ kind view. false) old new

  -- and where nothing came in
  abbrev pub IsCausedWithoutInput : Engine S L D K G C → Engine S L D K G C → Type 0
  IsCausedWithoutInput old new = IsCausedWith [] old new

-- the certificates that the member's state has, except nullifications that the resolver has open
abbrev pub held_by : {S L D K G C : Type 0} → Engine S L D K G C → FetchKind → ℕ → Bool
held_by engine kind view =
    option_map_or (λ x. holds engine.plan.repair.resolver.open_fetches x kind view) engine.core.member.facts.life true

-- an engine that drops what is not retained: views may be forgotten besides, and what the state has need not be asked
-- for
abbrev pub IsCausedWithPruning : {S L D K G C : Type 0} → (D → D → Bool) → Elect L → (D → List ℕ) → (C → List ℕ) → ℕ
    → Engine S L D K G C → Engine S L D K G C → Type 0
IsCausedWithPruning same elect bytes bytes_of now old new =
    IsCaused same elect bytes bytes_of now (forgettable new.core.member.facts) [] (held_by new) old new
