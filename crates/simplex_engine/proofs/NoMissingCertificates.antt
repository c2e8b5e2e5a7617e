-- Causes among which no missing certificate is, and the reply to a certificate.
use Rattle.std.proofs.Common.{◌≡◌, ◌∙◌, refl, ap, sym, ℕ, Bool, true, false, cond, inl, inr, List, [], ◌∷◌, Option, Some, None, unwrap_or}
use Rattle.std.specs.Prelude.{option_map, option_to_list}
use Rattle.std.proofs.lemmas.Bool.{false≢true}
use Rattle.simplex_types.specs.Certificates.{CertificateFacts, Notarized, Nullified, Finalized}
use Rattle.simplex_types.specs.MessageViews.{subject_view}
use Rattle.simplex_types.specs.declared.types.fault.Fault.{Fault}
use Rattle.simplex_voter.specs.Facts.{Elect, StateFacts}
use Rattle.simplex_voter.specs.Windows.{min_active}
use Rattle.simplex_member.specs.Calls as call
use Rattle.simplex_member.specs.Calls.{reply_facts, ReplyFacts}
use Rattle.simplex_member.specs.MemberFacts.{MemberFacts, IsCall, AnswersAlive, unless_refused}
use Rattle.simplex_member.specs.declared.member.calls.Reply.{Reply}
use Rattle.simplex_member.specs.declared.member.calls.Reply.TheVariants as reply
use Rattle.engine_votes.specs.StoredVotes.{held, kind_of}
use Rattle.engine_votes.specs.Polls.{ballot_of}
use Rattle.engine_votes.specs.declared.batcher.Batcher.{Batcher}
use Rattle.engine_votes.specs.declared.batcher.Counted.{Counted}
use Rattle.engine_votes.specs.declared.batcher.Counted.TheVariants as counted
use Rattle.engine_votes.specs.declared.batcher.poll.Ballot.{Ballot}
use Rattle.engine_votes.specs.declared.votes.Vote.{Vote}
use Rattle.engine_outbox.specs.declared.output.Work.{Work}
use Rattle.engine_outbox.specs.declared.output.Work.TheVariants as work
use Rattle.engine_planner.specs.declared.task.Task.{Task}
use Rattle.engine_planner.specs.declared.task.Task.TheVariants as task
use Rattle.std.specs.Option.{option_map_or}
use Rattle.engine_planner.specs.FetchRequests.{is_plain}
use Rattle.simplex_member.specs.CallConditions.{is_allowed, fault_of}
use Rattle.simplex_member.specs.CallSemantics.{answer}
use Rattle.simplex_member.specs.OutstandingWork.{OutstandingWork}
use Rattle.engine_outbox.specs.CertificateCalls.{certificate_call}
use Rattle.engine_planner.specs.Causes.{Cause, WorkItem, of_work, of_task}
use Rattle.engine_planner.specs.Tasks.{call_of}
use Rattle.simplex_engine.specs.declared.input.Input.{Input}
use Rattle.simplex_engine.specs.declared.input.Input.TheVariants as input
use Rattle.simplex_engine.specs.Provenance.{forgettable, input_causes, of_counted, evidence_against, is_verdict, IsOnOffer, HasNoMissingCertificate}

module _ (S K G C : Type 0) {D : Type 0} where
  pub task_lacks_none : (asked : Task D) → HasNoMissingCertificate
      (of_task {S = S} {D = D} {K = K} {G = G} {C = C} asked)
  task_lacks_none (task.SetProposal v p) kind view = refl
  task_lacks_none task.TryPropose kind view = refl
  task_lacks_none (task.Proposed v payload) kind view = refl
  task_lacks_none (task.SupersedeProposalRequest v) kind view = refl
  task_lacks_none (task.PendingHandoffAbandonment v) kind view = refl
  task_lacks_none (task.ReleaseProposalRequest v) kind view = refl
  task_lacks_none task.TryVerify kind view = refl
  task_lacks_none (task.Verified v) kind view = refl
  task_lacks_none (task.VerificationFailed v) kind view = refl
  task_lacks_none task.CertifyCandidates kind view = refl
  task_lacks_none (task.SetCertifyHandle v) kind view = refl
  task_lacks_none (task.Certified v is_success) kind view = refl
  task_lacks_none (task.ConstructNotarize v) kind view = refl
  task_lacks_none (task.ConstructFinalize v) kind view = refl
  task_lacks_none (task.ConstructNullify v reason) kind view = refl
  task_lacks_none (task.BroadcastNotarization v) kind view = refl
  task_lacks_none (task.BroadcastNullification v) kind view = refl
  task_lacks_none (task.BroadcastFinalization v) kind view = refl
  task_lacks_none task.GetBestCertificate kind view = refl
  task_lacks_none (task.TriggerTimeout v reason) kind view = refl
  task_lacks_none task.NextTimeout kind view = refl
  task_lacks_none task.Prune kind view = refl

-- a task that passes no verdict needs no offer
pub needs_no_offer : {K L D : Type 0} (m : MemberFacts K L D) (now : ℕ) (asked : Task D) → is_verdict asked ≡ false
    → IsOnOffer m (call_of asked now)
needs_no_offer m now (task.Certified view is_success) is = absurd (false≢true (sym is))
needs_no_offer m now asked is = tt

module _ (S K C : Type 0) {D G : Type 0} where
  evidence_lacks_none : (vote : Vote D G) (ballot : Option (Ballot D G))
      → HasNoMissingCertificate (option_to_list (option_map (evidence_against {S = S} {K = K} {C = C} vote) ballot))
  evidence_lacks_none vote None kind view = refl
  evidence_lacks_none vote (Some ballot) kind view = refl

pub forgets_no_lack : (S G C : Type 0) {K L D : Type 0} (m : MemberFacts K L D)
    → HasNoMissingCertificate (forgettable {S = S} {G = G} {C = C} m)
forgets_no_lack S G C {K = K} {L = L} {D = D} m = by_life m.life
  where
    by_life : (life : Option (StateFacts K L D))
        → HasNoMissingCertificate {S = S} {D = D} {K = K} {G = G} {C = C}
        (option_map_or (λ x. WorkItem (work.Forget (min_active x)) ∷ []) life [])
    by_life None kind view = refl
    by_life (Some x) kind view = refl

-- a living member's lowest view
pub forgets_lowest : {S L D K G C : Type 0} (m : MemberFacts K L D) (lowest : ℕ)
    → option_map min_active m.life ≡ Some lowest → of_work {S = S} {G = G} {C = C} (work.Forget lowest) ≡ forgettable m
forgets_lowest {S = S} {L = L} {D = D} {K = K} {G = G} {C = C} m lowest is = by_life m.life is
  where
    by_life : (life : Option (StateFacts K L D)) → option_map min_active life ≡ Some lowest
        → ◌≡◌ {A = List (Cause S D K G C)} (WorkItem (work.Forget lowest) ∷ [])
        (option_map_or (λ x. WorkItem (work.Forget (min_active x)) ∷ []) life [])
    by_life None is = absurd (cc)
    by_life (Some x) is = ap (λ o. WorkItem (work.Forget (unwrap_or o 0)) ∷ []) (sym is)

pub vote_lacks_none : {S D K G C : Type 0} (bytes_of : C → List ℕ) (batcher : Batcher S D K G C) (vote : Vote D G)
    → HasNoMissingCertificate (input_causes bytes_of batcher (input.Vote vote))
vote_lacks_none {S = S} {K = K} {C = C} bytes_of batcher vote =
    evidence_lacks_none S K C vote
    (ballot_of (held batcher (kind_of vote.subject) (subject_view vote.subject)) vote.signer)

pub input_lacks_none : {S D K G C : Type 0} (bytes_of : C → List ℕ) (batcher : Batcher S D K G C)
    (what : Input S D K G C) → HasNoMissingCertificate (input_causes bytes_of batcher what)
input_lacks_none bytes_of batcher (input.Proposal from proposal) kind view = refl
input_lacks_none bytes_of batcher (input.Vote vote) kind view = vote_lacks_none bytes_of batcher vote kind view
input_lacks_none bytes_of batcher (input.Certificate certificate) kind view = refl
input_lacks_none bytes_of batcher (input.Verified v is_valid) kind view = refl
input_lacks_none bytes_of batcher (input.Built context payload) kind view = refl
input_lacks_none bytes_of batcher (input.Certified v success) kind view = refl
input_lacks_none bytes_of batcher (input.GivenUp v reason) kind view = refl

pub counted_lacks_none : {S D K G C : Type 0} (bytes_of : C → List ℕ) (what : Counted S D K G C)
    → HasNoMissingCertificate (of_counted bytes_of what)
counted_lacks_none bytes_of (counted.Certified made) kind view = refl
counted_lacks_none bytes_of (counted.Equivocated first second) kind view = refl
counted_lacks_none bytes_of counted.Taken kind view = refl
counted_lacks_none bytes_of counted.Known kind view = refl
counted_lacks_none bytes_of counted.Refused kind view = refl

pub work_lacks_none : {S D K G C : Type 0} (it : Work S D K G C) → HasNoMissingCertificate (of_work it)
work_lacks_none (work.Broadcast certificate) kind view = refl
work_lacks_none (work.Verify context proposal) kind view = refl
work_lacks_none (work.Build context) kind view = refl
work_lacks_none (work.StopBuilding v) kind view = refl
work_lacks_none (work.Certify proposal) kind view = refl
work_lacks_none (work.Fetch ask) kind view = refl
work_lacks_none (work.Equivocated first second) kind view = refl
work_lacks_none (work.ProposedTwice v leader) kind view = refl
work_lacks_none (work.Forget v) kind view = refl

-- ---- the answer to a certificate

module _ {K D : Type 0} where
  abbrev tells_plain : ReplyFacts K D → Bool
  tells_plain (call.Standing _) = false
  tells_plain (call.Requested _) = false
  tells_plain (call.Candidates _ _) = false
  tells_plain (call.Returned _) = false
  tells_plain (call.TimesOut _) = false
  tells_plain (call.Judged _ _) = false
  tells_plain _ = true

module _ {K L D : Type 0} (same : D → D → Bool) (elect : Elect L) (m left : MemberFacts K L D) (now : ℕ)
    (tells : ReplyFacts K D) where
  handed_tells : (certificate : CertificateFacts D) → IsCall same elect m (certificate_call certificate now) tells left
      → tells_plain tells ≡ true
  unfolding IsCall
  handed_tells certificate is_call = by_life m.life is_call
    where
      by_answer : (x : StateFacts K L D) (o : OutstandingWork K D) (c : CertificateFacts D)
          → tells_plain (answer same elect x o (certificate_call c now)) ≡ true
      by_answer x o (Notarized c) = refl
      by_answer x o (Nullified c) = refl
      by_answer x o (Finalized c) = refl

      by_test : (x : StateFacts K L D) (b : Bool) (due : Option Fault)
          → tells ≡ cond b (unless_refused due
          (answer same elect x m.outstanding_work (certificate_call certificate now))) call.NotAllowed
          → tells_plain tells ≡ true
      by_test x false due is = ap tells_plain is
      by_test x true (Some fault) is = ap tells_plain is
      by_test x true None is = ap tells_plain is ∙ by_answer x m.outstanding_work certificate

      by_life : (life : Option (StateFacts K L D))
          → AnswersAlive same elect life m (certificate_call certificate now) tells left → tells_plain tells ≡ true
      by_life None (is, leaves) = ap tells_plain is
      by_life (Some x) (inl (is, leaves)) = by_test x
          (is_allowed x m.outstanding_work (certificate_call certificate now))
          (fault_of x (certificate_call certificate now)) is
      by_life (Some x) (inr (allowed, is, leaves)) = ap tells_plain is

plain_as : {S D K G C : Type 0} (bytes_of : C → List ℕ) (it : Reply S D K G C)
    → is_plain it ≡ tells_plain (reply_facts bytes_of it)
plain_as bytes_of reply.Unit = refl
plain_as bytes_of (reply.Flag taken) = refl
plain_as bytes_of (reply.Added newly leader) = refl
plain_as bytes_of (reply.AddedNullification newly) = refl
plain_as bytes_of (reply.Request request) = refl
plain_as bytes_of (reply.Work verify) = refl
plain_as bytes_of (reply.Candidates proposals fetches) = refl
plain_as bytes_of (reply.Certified success notarization) = refl
plain_as bytes_of (reply.Notarize vote) = refl
plain_as bytes_of (reply.Nullify vote) = refl
plain_as bytes_of (reply.Finalize vote) = refl
plain_as bytes_of (reply.Certificate certificate) = refl
plain_as bytes_of (reply.Timeout at reason) = refl
plain_as bytes_of (reply.Views views) = refl
plain_as bytes_of (reply.Released was_open) = refl
plain_as bytes_of (reply.Triggered latched) = refl
plain_as bytes_of (reply.Abandoned reason) = refl
plain_as bytes_of reply.Restarted = refl
plain_as bytes_of (reply.Fault fault) = refl
plain_as bytes_of reply.NotAllowed = refl

pub handed_plain : {S K L D G C : Type 0} (same : D → D → Bool) (elect : Elect L) (bytes_of : C → List ℕ)
    (m left : MemberFacts K L D) (now : ℕ) (certificate : CertificateFacts D) (it : Reply S D K G C)
    → IsCall same elect m (certificate_call certificate now) (reply_facts bytes_of it) left → is_plain it ≡ true
handed_plain same elect bytes_of m left now certificate it called = plain_as bytes_of it
    ∙ handed_tells same elect m left now (reply_facts bytes_of it) certificate called
