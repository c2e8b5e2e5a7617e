-- What is planned for a reply of the member.
use Rattle.std.specs.Prelude.{◌≡◌, ℕ, ◌+◌, ◌-◌, ◌^◌, min, Bool, true, false, not, ◌&&◌, ◌==◌, nat_le, nat_lt, List, [], ◌∷◌, ◌++◌, Option, Some, None, is_some, if◌then◌else◌}
use Rattle.simplex_types.specs.Certificates.{certificate_facts, notarization_facts}
use Rattle.simplex_types.specs.MessageViews.{certificate_view}
use Rattle.simplex_types.specs.declared.reasons.TimeoutReason.{TimeoutReason}
use Rattle.simplex_types.specs.declared.types.fault.Fault.{Fault}
use Rattle.simplex_types.specs.declared.types.fault.Fault.TheVariants.{OutOfMemory}
use Rattle.simplex_types.specs.declared.types.messages.Certificate.{Certificate}
use Rattle.simplex_types.specs.declared.types.messages.Certificate.TheVariants as certificate
use Rattle.simplex_types.specs.declared.types.messages.Context.{Context}
use Rattle.simplex_types.specs.declared.types.messages.Notarization.{Notarization}
use Rattle.simplex_types.specs.declared.types.messages.Nullify.{Nullify}
use Rattle.simplex_types.specs.declared.types.messages.Proposal.{Proposal}
use Rattle.simplex_resolver.specs.declared.resolver.effect.Effect.{Effect}
use Rattle.simplex_resolver.specs.Steps.{effects, highest_named, update, verdict}
use Rattle.simplex_resolver.specs.CallHistory.{IsMade}
use Rattle.simplex_voter.specs.declared.voter.candidates.CertificateFetch.{CertificateFetch}
use Rattle.simplex_voter.specs.declared.voter.propose.ProposalRequest.{ProposalRequest}
use Rattle.simplex_voter.specs.declared.voter.propose.ProposalRequest.TheVariants.{Prepare, Propose}
use Rattle.simplex_voter.specs.declared.voter.verify.Verify.{Verify}
use Rattle.simplex_voter.specs.declared.voter.verify.Verify.TheVariants as verify
use Rattle.simplex_member.specs.declared.member.calls.Reply.{Reply}
use Rattle.simplex_member.specs.declared.member.calls.Reply.TheVariants as reply
use Rattle.engine_planner.specs.declared.plan.Plan.{Plan}
use Rattle.engine_planner.specs.declared.plan.Step.{Step}
use Rattle.engine_planner.specs.declared.plan.Step.TheVariants.{Ask, Resolve, Repeat, Push}
use Rattle.engine_planner.specs.declared.task.Task.{Task}
use Rattle.engine_planner.specs.declared.task.Task.TheVariants as task
use Rattle.engine_fetches.specs.declared.fetches.Fetch.{Fetch}
use Rattle.engine_fetches.specs.declared.fetches.FetchKind.{FetchKind}
use Rattle.engine_outbox.specs.declared.output.Work.TheVariants as work
use Rattle.engine_planner.specs.Blocks.{all_but_at, in_place}
use Rattle.engine_planner.specs.BuildPlans.{asking_for, HasBuilds, IsEnded, IsStopped}
use Rattle.engine_fetches.specs.declared.fetches.FetchKind.TheVariants as fetch
use Rattle.engine_fetches.specs.declared.repair.Repair.{Repair}
use Rattle.engine_fetches.specs.Fetches.{fetch_kind, is_fetch_open, closed}
use Rattle.engine_planner.specs.PlanStates.{HasPlanned, touching, watching}
use Rattle.engine_fetches.specs.Repairs.{HasFetches, IsRepaired, IsUnrepaired}
use Rattle.engine_fetches.specs.OutstandingFetches.{after_effects, fetching}

-- what may follow for a view, and for a block that is built in it
pub data Consequence (D : Type 0) : Type 0 where
  Nothing : Consequence D
  -- something of the view has changed
  Touched : ℕ → Consequence D
  -- the same, since the block was built
  Built : ℕ → Consequence D
  -- the block is no longer needed, and the application must stop, or need not
  Stopped : ℕ → Consequence D
  Ended : ℕ → Consequence D
  -- the member is asked for more
  Asked : Task D → Consequence D

module _ {D : Type 0} where
  -- a call was not allowed: a block that it was about is no longer needed
  abbrev pub after_refusal : Task D → Consequence D
  after_refusal (task.PendingHandoffAbandonment view) = Stopped view
  after_refusal (task.SupersedeProposalRequest view) = Stopped view
  after_refusal (task.ReleaseProposalRequest view) = Stopped view
  after_refusal (task.Proposed view _) = Ended view
  after_refusal _ = Nothing

  -- whether what was passed in was taken
  abbrev pub after_flag : Task D → Bool → Consequence D
  after_flag (task.Proposed view _) is_taken = Built view
  after_flag (task.SetProposal view _) is_taken = if is_taken then Touched view else Nothing
  after_flag (task.Verified view) is_taken = if is_taken then Touched view else Nothing
  after_flag (task.TriggerTimeout view _) is_taken = if is_taken then Touched view else Nothing
  after_flag (task.ReleaseProposalRequest view) is_taken = Stopped view
  after_flag (task.SupersedeProposalRequest view) is_taken = if is_taken then Stopped view else Nothing
  after_flag _ is_taken = Nothing

  -- whether a block is abandoned; else another may replace it
  abbrev pub after_watch : Task D → Bool → Consequence D
  after_watch (task.PendingHandoffAbandonment view) is_abandoned =
      Asked (if is_abandoned then task.ReleaseProposalRequest view else task.SupersedeProposalRequest view)
  after_watch _ is_abandoned = Nothing

-- a lone member builds no block on a parent that is not certified before it enters the view
abbrev pub waits : {K D : Type 0} → Bool → ℕ → Context D K → Bool
waits is_alone current context = is_alone && nat_lt current context.round.view

module _ {S D K G C : Type 0} where
  -- what follows from a reply that says only yes, no, or that the call is refused
  abbrev pub IsConsequence : Consequence D → Plan S D K G C → Plan S D K G C → Type 0
  IsConsequence Nothing old new = new ≡ old
  IsConsequence (Touched view) old new = HasPlanned (touching view) (watching old) new
  IsConsequence (Built view) old new =
      HasBuilds (touching view) (all_but_at view old.builds.buildings.items) (watching old) new
  IsConsequence (Stopped view) old new = IsStopped view old new
  IsConsequence (Ended view) old new = IsEnded view old new
  IsConsequence (Asked call) old new = HasPlanned (Ask call ∷ []) old new

  -- a certificate is missing for a proposal, and is asked for unless it is already
  abbrev pub lacking : FetchKind → ℕ → ℕ → List Fetch → List (Step S D K G C)
  lacking kind view proposal wanted = if is_fetch_open kind view wanted then [] else Resolve kind view proposal ∷ []

  -- a proposal is to be verified, or a certificate is missing for one
  abbrev pub IsVerifyFollowed : Verify D K → Plan S D K G C → Plan S D K G C → Type 0
  IsVerifyFollowed (verify.Ready context proposal) old new =
      HasPlanned (Push (work.Verify context proposal) ∷ []) old new
  IsVerifyFollowed (verify.Resolve proposal view kind _) old new =
      HasPlanned (lacking (fetch_kind kind) view proposal old.repair.fetches.wanted.items) old new
  IsVerifyFollowed verify.Wait old new = new ≡ old

  -- a block is to be built, in place of one of its view: now, or once its view is entered
  abbrev pub IsBuilt : Bool → Context D K → Plan S D K G C → Plan S D K G C → Type 0
  IsBuilt is_reported context old new =
      HasBuilds (asking_for context is_reported)
      (in_place (record { context = context; is_reported = is_reported }) old.builds.buildings.items) old new

  abbrev pub IsRequestFollowed : Option (ProposalRequest D K) → Plan S D K G C → Plan S D K G C → Type 0
  IsRequestFollowed (Some (Prepare context)) old new =
      IsBuilt (not (waits old.is_alone old.views.current context)) context old new
  IsRequestFollowed (Some (Propose context)) old new = IsBuilt true context old new
  IsRequestFollowed None old new = new ≡ old

  -- a certificate is sent to all others, if there is one
  abbrev pub IsBroadcastFollowed : Option (Certificate S D K G C) → Plan S D K G C → Plan S D K G C → Type 0
  IsBroadcastFollowed (Some certificate) old new = HasPlanned (Push (work.Broadcast certificate) ∷ []) old new
  IsBroadcastFollowed None old new = new ≡ old

  -- the vote to nullify the view is sent once more, and with it the best certificate
  abbrev pub repeating : ℕ → List (Step S D K G C)
  repeating view = Repeat view ∷ Ask task.GetBestCertificate ∷ Ask task.NextTimeout ∷ []

  -- a vote to nullify was cast, or the previous one is sent once more; if none is allowed, the member is asked again
  -- after the retry interval
  abbrev pub IsNullifyFollowed : ℕ → Option (Bool × Nullify S K G C) → Plan S D K G C → Plan S D K G C → Type 0
  IsNullifyFollowed now (Some (true, vote)) old new = HasPlanned (repeating vote.round.view) old new
  IsNullifyFollowed now (Some (false, _)) old new = HasPlanned (Ask task.NextTimeout ∷ []) old new
  IsNullifyFollowed now None old new = new ≡ record old { timeout = min (now + old.options.retry) (2 ^ 64 - 1) }

  -- the current view times out, if its moment has come
  abbrev pub IsTimeoutFollowed : ℕ → ℕ → TimeoutReason → Plan S D K G C → Plan S D K G C → Type 0
  IsTimeoutFollowed now moment reason old new =
      HasPlanned (if nat_le moment now then Ask (task.ConstructNullify old.views.current reason) ∷ [] else [])
      (record old { timeout = moment }) new

  -- a leader is reported to have signed two proposals of the view, if one did
  abbrev pub showing : ℕ → Option K → List (Step S D K G C)
  showing view None = []
  showing view (Some leader) = Push (work.ProposedTwice view leader) ∷ []

  -- proposals are passed on for certification, one after the other
  abbrev pub certifying : List (Proposal D) → List (Step S D K G C)
  certifying [] = []
  certifying (proposal ∷ rest) =
      Push (work.Certify proposal) ∷ Ask (task.SetCertifyHandle proposal.round.view) ∷ certifying rest

  -- the same, and the notarizations that others wait for are asked for
  pub record AreCertified (now : ℕ) (proposals : List (Proposal D)) (wanted : List CertificateFetch)
      (old new : Plan S D K G C) : Type 0 where
    pub steps : new.steps.items ≡ old.steps.items ++ certifying proposals
    pub fetched : HasFetches (fetching now wanted old.repair.fetches.wanted.items) old.repair new.repair
    pub same : new ≡ record old { steps = new.steps; repair = new.repair }

  -- a notarization that arrived is no longer asked for
  abbrev pub without : Certificate S D K G C → List Fetch → List Fetch
  without (certificate.Notarization n) fetches = closed fetch.Notarization n.proposal.round.view fetches
  without _ fetches = fetches

module _ {S D K G C : Type 0} (bytes : D → List ℕ) (bytes_of : C → List ℕ) (now : ℕ) where
  -- the moment from which on a missing certificate is asked for: until then it may be on its way
  abbrev pub later : Plan S D K G C → ℕ
  later plan = min (now + plan.options.on_its_way) (2 ^ 64 - 1)

  -- the resolver receives a verdict, and something of the view has changed
  pub record IsVerdictReported (is_success : Bool) (notarization : Notarization S D K G C)
      (old new : Plan S D K G C) : Type 0 where
    pub repaired : IsRepaired (later old) (verdict bytes (notarization_facts bytes_of notarization) is_success)
        old.repair new.repair
    pub planned : HasPlanned (touching notarization.proposal.round.view)
        (watching (record old { repair = new.repair })) new

  -- the same if it is not on genesis
  abbrev pub IsVerdictReportedAbove : Bool → Bool → Notarization S D K G C → Plan S D K G C → Plan S D K G C → Type 0
  IsVerdictReportedAbove true is_success notarization old new = new ≡ old
  IsVerdictReportedAbove false is_success notarization old new = IsVerdictReported is_success notarization old new

  -- a verdict was passed, if the view is notarized
  abbrev pub IsVerdictFollowed : Bool → Option (Notarization S D K G C) → Plan S D K G C → Plan S D K G C → Type 0
  IsVerdictFollowed is_success None old new = new ≡ old
  IsVerdictFollowed is_success (Some notarization) old new =
      IsVerdictReportedAbove (notarization.proposal.round.view == 0) is_success notarization old new

  -- the resolver's effects for a certificate
  abbrev pub effects_due : Certificate S D K G C → Plan S D K G C → List Effect
  effects_due replied old = effects old.repair.resolver.state (update bytes (certificate_facts bytes_of replied))

  -- the resolver receives a certificate
  pub record IsResolverNotified (replied : Certificate S D K G C) (old : Plan S D K G C)
      (repair : Repair) : Type 0 where
    pub made : IsMade (update bytes (certificate_facts bytes_of replied)) old.repair.resolver
        (effects_due replied old) repair.resolver
    pub fetched : repair.fetches.wanted.items ≡ without replied
        (after_effects (later old) (effects_due replied old) old.repair.fetches.wanted.items)
    pub peers : repair.fetches.peers ≡ old.repair.fetches.peers
    pub retry : repair.fetches.retry ≡ old.repair.fetches.retry

  -- a new certificate: the resolver receives it, and something of the view has changed
  pub record IsTakenIn (accepted : Certificate S D K G C) (old new : Plan S D K G C) : Type 0 where
    pub notified : IsResolverNotified accepted old new.repair
    pub planned : HasPlanned (touching (certificate_view accepted)) (watching (record old { repair = new.repair })) new

  -- the same if it is not of genesis
  abbrev pub IsTakenInAbove : Bool → Certificate S D K G C → Plan S D K G C → Plan S D K G C → Type 0
  IsTakenInAbove true accepted old new = new ≡ old
  IsTakenInAbove false accepted old new = IsTakenIn accepted old new

  -- the same if it is new
  abbrev pub IsNewFollowed : Bool → Certificate S D K G C → Plan S D K G C → Plan S D K G C → Type 0
  IsNewFollowed true taken old new = IsTakenInAbove (certificate_view taken == 0) taken old new
  IsNewFollowed false taken old new = new ≡ old

  -- a notarization or a finalization was passed in: first it is reported that a leader signed two proposals, if one did
  pub record IsAddedFollowed (added : Certificate S D K G C) (is_new : Bool) (equivocator : Option K)
      (old new : Plan S D K G C) : Type 0 where
    pub shown : Plan S D K G C
    pub is_shown : HasPlanned (showing (certificate_view added) equivocator) old shown
    pub followed : IsNewFollowed is_new added shown new

  -- what is planned for the reply to a certificate
  abbrev pub IsCertificateFollowed : Certificate S D K G C → Reply S D K G C → Plan S D K G C → Plan S D K G C → Type 0
  IsCertificateFollowed handed (reply.Added is_new equivocator) old new =
      IsAddedFollowed handed is_new equivocator old new
  IsCertificateFollowed handed (reply.AddedNullification is_new) old new = IsNewFollowed is_new handed old new
  IsCertificateFollowed handed _ old new = new ≡ old

  -- what is planned for the reply to a task
  abbrev pub IsFollowed : Task D → Reply S D K G C → Plan S D K G C → Plan S D K G C → Type 0
  IsFollowed asked (reply.Flag is_taken) old new = IsConsequence (after_flag asked is_taken) old new
  IsFollowed asked (reply.Triggered is_latched) old new = IsConsequence (after_flag asked is_latched) old new
  IsFollowed asked (reply.Released was_open) old new = IsConsequence (after_flag asked was_open) old new
  IsFollowed asked (reply.Abandoned reason) old new = IsConsequence (after_watch asked (is_some reason)) old new
  IsFollowed asked (reply.Work verify) old new = IsVerifyFollowed verify old new
  IsFollowed asked (reply.Request request) old new = IsRequestFollowed request old new
  IsFollowed asked (reply.Candidates proposals wanted) old new = AreCertified now proposals.items wanted.items old new
  IsFollowed asked (reply.Certified is_success notarization) old new = IsVerdictFollowed is_success notarization old new
  IsFollowed asked (reply.Nullify answer) old new = IsNullifyFollowed now answer old new
  IsFollowed asked (reply.Certificate certificate) old new = IsBroadcastFollowed certificate old new
  IsFollowed asked (reply.Timeout moment reason) old new = IsTimeoutFollowed now moment reason old new
  IsFollowed asked reply.NotAllowed old new = IsConsequence (after_refusal asked) old new
  IsFollowed asked _ old new = new ≡ old

module _ {S D K G C : Type 0} where
  -- the resolver could not receive a verdict: because memory ran out, or it refuses the notarization
  abbrev pub IsUnjudged : Fault → Option (Notarization S D K G C) → Repair → Repair → Type 0
  IsUnjudged OutOfMemory _ old new = Unit {0}
  IsUnjudged fault (Some notarization) old new = IsUnrepaired (highest_named notarization.proposal) fault old new
  IsUnjudged fault None old new = ⊥

  -- a reply could not be followed: because memory ran out, or the resolver could not receive a verdict
  abbrev pub IsUnfollowed : Fault → Reply S D K G C → Plan S D K G C → Plan S D K G C → Type 0
  IsUnfollowed OutOfMemory _ old new = Unit {0}
  IsUnfollowed fault (reply.Certified _ notarization) old new = IsUnjudged fault notarization old.repair new.repair
  IsUnfollowed fault _ old new = ⊥
