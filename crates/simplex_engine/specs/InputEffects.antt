-- What an engine does with an input that it admits.
use Rattle.std.specs.Prelude.{◌≡◌, ℕ, Bool, true, false, not, List, [], ◌∷◌, ◌++◌, length}
use Rattle.std.specs.List.{list_any}
use Rattle.simplex_types.specs.Certificates.{certificate_facts}
use Rattle.simplex_types.specs.declared.types.messages.Certificate.{Certificate}
use Rattle.simplex_types.specs.declared.types.messages.Subject.{Subject}
use Rattle.simplex_voter.specs.Facts.{Elect}
use Rattle.simplex_member.specs.Calls.{CallFacts, ReplyFacts}
use Rattle.simplex_member.specs.MemberFacts.{MemberFacts, IsCall}
use Rattle.engine_votes.specs.declared.batcher.Batcher.{Batcher}
use Rattle.engine_votes.specs.declared.batcher.Counted.{Counted}
use Rattle.engine_votes.specs.declared.batcher.Counted.TheVariants.{Taken, Certified, Equivocated}
use Rattle.simplex_engine.specs.declared.engine.Engine.{Engine}
use Rattle.engine_planner.specs.declared.plan.Step.{Step}
use Rattle.engine_planner.specs.declared.plan.Step.TheVariants.{Push}
use Rattle.engine_planner.specs.declared.task.Task.{Task}
use Rattle.engine_planner.specs.declared.task.Task.TheVariants as task
use Rattle.simplex_engine.specs.declared.input.Input.{Input}
use Rattle.simplex_engine.specs.declared.input.Input.TheVariants as input
use Rattle.engine_outbox.specs.declared.output.Work.TheVariants as work
use Rattle.engine_votes.specs.declared.votes.Vote.{Vote}
use Rattle.simplex_engine.specs.Admission.{admits, is_so}
use Rattle.engine_votes.specs.StoredVotes.{IsCounted}
use Rattle.engine_planner.specs.Blocks.{is_asked_in}
use Rattle.engine_outbox.specs.CertificateCalls.{certificate_call}
use Rattle.engine_outbox.specs.Refusals.{is_refused, says_nothing}
use Rattle.engine_planner.specs.Tasks.{call_of}

-- the task for the application's verification of the view's proposal
abbrev pub verification_of : {D : Type 0} → Bool → ℕ → Task D
verification_of true view = task.Verified view
verification_of false view = task.VerificationFailed view

module _ {K L D : Type 0} (same : D → D → Bool) (elect : Elect L) where
  -- the member received this call, and ignored it if the reply says nothing
  pub record HasAsked (has_nothing : ReplyFacts K D → Bool) (call : CallFacts D) (m left : MemberFacts K L D)
      (is_of_use : Bool) : Type 0 where
    pub answer : ReplyFacts K D
    pub answered : IsCall same elect m call answer left
    pub useful : is_of_use ≡ not (has_nothing answer)

  -- the same for the call of a task, at a moment
  abbrev pub HasDoneTask : Task D → ℕ → MemberFacts K L D → MemberFacts K L D → Bool → Type 0
  HasDoneTask asked now = HasAsked says_nothing (call_of asked now)

  -- a block is passed in that the application was asked for; any other is ignored
  abbrev pub IsBlockTaken : (is_asked : Bool) → ℕ → D → ℕ → MemberFacts K L D → MemberFacts K L D → Bool → Type 0
  IsBlockTaken true view payload now m left is_of_use = HasDoneTask (task.Proposed view payload) now m left is_of_use
  IsBlockTaken false view payload now m left is_of_use = (is_of_use ≡ false) × (left ≡ m)

module _ {S L D K G C : Type 0} (same : D → D → Bool) (elect : Elect L) (bytes_of : C → List ℕ) (now : ℕ) where
  -- a certificate is passed in
  abbrev pub IsSubmitted : Certificate S D K G C → MemberFacts K L D → MemberFacts K L D → Bool → Type 0
  IsSubmitted certificate =
      HasAsked same elect is_refused (certificate_call (certificate_facts bytes_of certificate) now)

  -- the result of counting a vote: the certificate that it completes is passed in, if it is admitted; a pair of
  -- contradicting votes is reported; a vote that is counted already, or that may not count, is ignored
  abbrev pub IsCountFollowed : Counted S D K G C → List (Step S D K G C) → MemberFacts K L D → List (Step S D K G C)
      → MemberFacts K L D
      → Bool → Type 0
  IsCountFollowed (Certified made) queued m steps left is_of_use =
      (is_of_use ≡ true)
      × (is_so (λ x. admits x (certificate_facts bytes_of made)) m ≡ true → (is_taken : Bool)
      × IsSubmitted made m left is_taken)
  IsCountFollowed (Equivocated first second) queued m steps left is_of_use =
      (is_of_use ≡ true) × (left ≡ m) × (steps ≡ queued ++ Push (work.Equivocated first second) ∷ [])
  IsCountFollowed Taken queued m steps left is_of_use = (is_of_use ≡ true) × (left ≡ m)
  IsCountFollowed counted queued m steps left is_of_use = (is_of_use ≡ false) × (left ≡ m)

module _ {S L D K G C : Type 0} (same : D → D → Bool) (elect : Elect L) (bytes_of : C → List ℕ)
    (IsMadeOf : S → Subject D → List (ℕ × G) → C → Type 0) (keys_of : S → List K) (now : ℕ) where
  -- a vote is counted, and its result is followed
  pub record IsVoteCounted (vote : Vote D G) (old : Engine S L D K G C) (left : MemberFacts K L D)
      (held : Batcher S D K G C)
      (steps : List (Step S D K G C)) (is_of_use : Bool) : Type 0 where
    pub counted : Counted S D K G C
    pub counts : IsCounted same (IsMadeOf old.batcher.scheme) (length (keys_of old.batcher.scheme)) true old.batcher
        vote held counted
    pub followed : IsCountFollowed same elect bytes_of now counted old.plan.steps.items old.core.member.facts
        steps left is_of_use

  -- the member, the stored votes and the queued steps after an admitted input, and whether it was ignored: the member
  -- receives the input's call
  abbrev pub IsActedOn : Input S D K G C → Engine S L D K G C → MemberFacts K L D → Batcher S D K G C
      → List (Step S D K G C) → Bool → Type 0
  IsActedOn (input.Proposal from proposal) old left held steps =
      HasDoneTask same elect (task.SetProposal proposal.round.view proposal) now old.core.member.facts left
  IsActedOn (input.Vote vote) old left held steps = IsVoteCounted vote old left held steps
  IsActedOn (input.Certificate certificate) old left held steps =
      IsSubmitted same elect bytes_of now certificate old.core.member.facts left
  IsActedOn (input.Verified view is_valid) old left held steps =
      HasDoneTask same elect (verification_of is_valid view) now old.core.member.facts left
  IsActedOn (input.Built context payload) old left held steps =
      IsBlockTaken same elect (list_any (is_asked_in same context) old.plan.builds.buildings.items) context.round.view
      payload now old.core.member.facts left
  IsActedOn (input.Certified view success) old left held steps =
      HasDoneTask same elect (task.Certified view success) now old.core.member.facts left
  IsActedOn (input.GivenUp view reason) old left held steps =
      HasDoneTask same elect (task.TriggerTimeout view reason) now old.core.member.facts left
