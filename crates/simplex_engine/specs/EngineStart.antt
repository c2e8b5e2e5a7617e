-- The state in which an engine begins, and why none begins.
use Rattle.std.specs.Prelude.{◌≡◌, ◌⊎◌, ℕ, ◌-◌, ◌^◌, ◌==◌, min, max, Bool, true, false, List, [], ◌∷◌, length, reverse, Option, None}
use Rattle.simplex_types.specs.Certificates.{ArtifactFacts}
use Rattle.simplex_resolver.specs.RecordCalls.{calls_of}
use Rattle.simplex_resolver.specs.RecordRules.{record_error}
use Rattle.simplex_resolver.specs.ReplayErrors.{IsDue}
use Rattle.simplex_resolver.specs.Steps.{Replayed}
use Rattle.simplex_resolver.specs.CallHistory.{HasReceivedCalls}
use Rattle.simplex_record.specs.Start.{IsErrorDue}
use Rattle.simplex_record.specs.declared.record.error.RecoverError.{RecoverError}
use Rattle.simplex_record.specs.declared.record.error.RecoverError.TheVariants.{OutOfMemory}
use Rattle.simplex_member.specs.MemberFacts.{MemberFacts}
use Rattle.simplex_member.specs.declared.member.resume.ResumeError.{ResumeError}
use Rattle.simplex_member.specs.declared.member.resume.ResumeError.TheVariants.{Recover}
use Rattle.engine_votes.specs.StoredVotes.{AreGiven}
use Rattle.engine_fetches.specs.declared.fetches.Peers.{Peers}
use Rattle.engine_fetches.specs.declared.repair.Repair.{Repair}
use Rattle.engine_fetches.specs.Fetches.{peers_of}
use Rattle.engine_fetches.specs.OutstandingFetches.{wanting}
use Rattle.engine_planner.specs.declared.plan.Options.{Options}
use Rattle.engine_planner.specs.declared.plan.Plan.{Plan}
use Rattle.simplex_engine.specs.declared.engine.Engine.{Engine}
use Rattle.simplex_engine.specs.MemberViews.{TracksViews}
use Rattle.simplex_engine.specs.declared.engine.begin.Company.{Company}
use Rattle.simplex_engine.specs.declared.engine.begin.StartError.{StartError}
use Rattle.simplex_engine.specs.declared.engine.begin.StartError.TheVariants.{RetryZero, Resume, Replay}

-- ---- with what it begins

-- these options, with a fetch asked again after a millisecond at least
abbrev pub with_a_retry : Options → Options
with_a_retry options = record options { retry = max options.retry 1 }

-- all members but this one are asked for missing certificates: at most 2^32 - 1 of them
abbrev pub others_of : {K : Type 0} → List K → Option ℕ → Peers
others_of keys me = peers_of (min (length keys) (2 ^ 32 - 1)) me

-- the resolver received the entries of a record, oldest first, and the fetches that it has open are due at once, of
-- these peers
pub record IsRepairOf {D : Type 0} (bytes : D → List ℕ) (term_length : ℕ) (entries : List (ArtifactFacts D))
    (peers : Peers) (retry : ℕ) (repair : Repair)
    : Type 0 where
  pub received : HasReceivedCalls term_length (Replayed ∷ calls_of bytes (reverse entries)) repair.resolver
  pub fetched : repair.fetches.wanted.items ≡ wanting repair.resolver.open_fetches []
  pub peers_now : repair.fetches.peers ≡ peers
  pub retry_now : repair.fetches.retry ≡ retry
  pub behind : repair.is_behind ≡ false

-- the plan of a member that has begun: its resolver received the record; no step is planned, no block is to be built,
-- no proposal is stored, no input was ignored, and everything is due
pub record IsPlanOf {S L D K G C : Type 0} (bytes : D → List ℕ) (term_length : ℕ) (peers : Peers) (is_alone : Bool)
    (options : Options)
    (member : MemberFacts K L D) (plan : Plan S D K G C) : Type 0 where
  pub options_now : plan.options ≡ options
  pub alone : plan.is_alone ≡ is_alone
  pub views : TracksViews member plan
  pub repair : IsRepairOf bytes term_length member.entries peers options.retry plan.repair
  pub nothing : (plan.steps.items ≡ []) × (plan.builds.buildings.items ≡ []) × (plan.early.proposals.items ≡ [])
      × (plan.ignored ≡ 0)
  pub due : (plan.is_watch_due ≡ true) × (plan.is_timeout_due ≡ true) × (plan.is_prune_due ≡ true) × (plan.timeout ≡ 0)

-- the parts of an engine beside its member, by the members' keys
pub record IsCompanyOf {S D K G C : Type 0} (keys_of : S → List K) (keys : List K) (me : Option ℕ) (term_length : ℕ)
    (company : Company S D K G C)
    : Type 0 where
  pub votes : AreGiven [] company.batcher
  pub keys_now : keys_of company.batcher.scheme ≡ keys
  pub peers : company.peers ≡ others_of keys me
  pub term : company.term_length ≡ term_length
  pub alone : company.is_alone ≡ (length keys == 1)

-- an engine begins with these options, of a member among others with these keys: its batcher makes certificates by
-- their number; in this lifetime no view was forgotten, and the engine has never settled
pub record HasStartedWith {S L D K G C : Type 0} (bytes : D → List ℕ) (keys_of : S → List K) (keys : List K)
    (me : Option ℕ) (term_length : ℕ)
    (options : Options) (engine : Engine S L D K G C) : Type 0 where
  pub votes : AreGiven [] engine.batcher
  pub keys_now : keys_of engine.batcher.scheme ≡ keys
  pub plan : IsPlanOf bytes term_length (others_of keys me) (length keys == 1) options
      engine.core.member.facts engine.plan
  pub forgotten : engine.forgotten ≡ 0
  pub settled_at : engine.settled_at ≡ None

-- ---- why none begins

-- the member is refused for the error that is due; if none is due, it is out of memory
abbrev pub IsMemberError : Option RecoverError → ResumeError → Type 0
IsMemberError due e = (error : RecoverError) × (e ≡ Recover error) × IsErrorDue due error

-- the resolver refuses a record of these entries, oldest first, or is out of memory
abbrev pub IsNotReplayed : {D : Type 0} → List (ArtifactFacts D) → StartError → Type 0
IsNotReplayed entries RetryZero = ⊥
IsNotReplayed entries (Replay e) = IsDue (record_error (reverse entries)) e
IsNotReplayed entries (Resume e) = e ≡ Recover OutOfMemory

module _ {K L D : Type 0} where
  -- a vote to nullify would be sent again after no time, or the engine is out of memory, or the member is refused, or
  -- the resolver refuses the record of the member that begins
  abbrev pub IsStartRefusal : ℕ → (ResumeError → Type 0) → (MemberFacts K L D → Type 0) → StartError → Type 0
  IsStartRefusal timeout_retry IsRefused Begins RetryZero = timeout_retry ≡ 0
  IsStartRefusal timeout_retry IsRefused Begins (Resume e) = (e ≡ Recover OutOfMemory) ⊎ IsRefused e
  IsStartRefusal timeout_retry IsRefused Begins (Replay e) =
      (m : MemberFacts K L D) × Begins m × IsNotReplayed m.entries (Replay e)
