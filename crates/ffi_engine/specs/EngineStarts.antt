-- How an engine behind a handle begins.
use Rattle.std.specs.Prelude.{◌≡◌, ◌≢◌, ◌⊎◌, ◌≤◌, ℕ, List, [], length}
use Rattle.ffi_scheme.specs.HostLeaders.{host_terms}
use Rattle.simplex_codec.specs.Digests.{bytes_in_digest}
use Rattle.ffi_scheme.specs.Host.{certificate_bytes, host_keys, host_signer, IsOrder}
use Rattle.simplex_record.specs.Entries.{entries_of}
use Rattle.simplex_record.specs.Votes.{votes_of}
use Rattle.simplex_member.specs.Journal.{IsNotResumed, IsResumed}
use Rattle.simplex_member.specs.declared.member.journal.Stored.{Stored}
use Rattle.simplex_member.specs.declared.member.resume.ResumeError.TheVariants as resume
use Rattle.laws_safety.specs.MemberHistory.{HasStarted, HasContinued}
use Rattle.simplex_engine.specs.EngineStart.{with_a_retry, HasStartedWith, IsMemberError, IsStartRefusal}
use Rattle.simplex_engine.specs.Provenance.{pending_causes}
use Rattle.simplex_engine.specs.FetchHeights.{FetchesTheReported}
use Rattle.simplex_engine.specs.ApplicationWork.{HasReportedAll}
use Rattle.simplex_engine.specs.declared.engine.begin.StartError.{StartError}
use Rattle.simplex_engine.specs.declared.engine.begin.StartError.TheVariants as start_error
use Rattle.simplex_record.specs.declared.record.settings.StartError.TheVariants as record_error
use Rattle.simplex_types.specs.declared.config.ConfigError.TheVariants as config_error
use Rattle.ffi_member.specs.declared.settings.SettingsError.TheVariants as settings_error
use Rattle.engine_planner.specs.declared.plan.Options.{Options}
use Rattle.simplex_engine.specs.Bounds.{HoldsNoneAhead}
use Rattle.engine_outbox.specs.Continuity.{BeginsTraced, IsWhole, ReportsNothing}
use Rattle.engine_outbox.specs.Signatures.{BeginsSigned}
use Rattle.engine_outbox.specs.Journals.{BeginsWith}
use Rattle.ffi_member.specs.declared.flat.FlatSettings.{FlatSettings}
use Rattle.ffi_member.specs.declared.resumption.NotResumed.TheVariants as not_resumed
use Rattle.ffi_member.specs.declared.resolver_calls.NotReplayed.TheVariants as not_replayed
use Rattle.ffi_member.specs.declared.view_types.FlatStored.{FlatStored}
use Rattle.ffi_member.specs.Journals.{HostArtifact}
use Rattle.ffi_member.specs.Resumption.{IsResumption, IsNotResumedBy, host_start}
use Rattle.ffi_member.specs.ResolverHandles.{not_replayed_number}
use Rattle.ffi_member.specs.MemberHandles.{host_leader, same_host_payload}
use Rattle.ffi_member.specs.Settings.{HostStart, IsNoStart, IsStart}
use Rattle.ffi_member.specs.MemberStart.{begin_error, begun}
use Rattle.ffi_member.specs.Statuses.{not_resumed_number}
use Rattle.ffi_engine.specs.declared.begin.EngineNotStarted.{EngineNotStarted}
use Rattle.ffi_engine.specs.declared.begin.EngineNotStarted.TheVariants as engine_not_started
use Rattle.ffi_engine.specs.declared.held.HeldEngine.{HeldEngine}
use Rattle.ffi_engine.specs.declared.flat.FlatOptions.{FlatOptions}
use Rattle.ffi_engine.specs.EngineHandles.{IsAllReturned, HasShownNothing}

-- the options of a flat struct
abbrev pub options_of : FlatOptions → Options
options_of f = record { retry = f.retry; on_its_way = f.on_its_way; long_record = f.long_record }

-- nothing was returned, so what the member has done before traces it; the whole record is to be stored in place of all
-- that is stored and nothing else is queued, no proposal is to be reported as final, nothing is at hand, the member
-- waits for nothing, the namespace and the way to draw leaders are as set; and no certificate is asked for of a view
-- above those that the member has heard of
pub record HasReturnedNothing (f : FlatSettings) (held : HeldEngine) : Type 0 where
  pub kept : IsAllReturned [] held
  pub traced : BeginsTraced same_host_payload host_leader certificate_bytes held.engine.core.member held.engine.core
  pub signed : BeginsSigned (IsOrder bytes_in_digest) held.engine.core.member held.engine.core
  pub whole : IsWhole certificate_bytes held.engine.core
  pub queued : BeginsWith certificate_bytes held.engine.core.member held.engine.core.outbox.queue.items
  pub reported : ReportsNothing held.engine.core
  pub bounded : HoldsNoneAhead host_keys held.engine.core held.engine.batcher
  pub due_work : HasReportedAll [] held.engine
  pub none_at_hand : pending_causes held.engine ≡ []
  pub fetch_heights : FetchesTheReported held.engine
  pub namespace : held.namespace ≡ f.namespace
  pub draws : held.draws ≡ f.draws
  pub fresh : HasShownNothing held

-- an engine begins as its member does, with these options
abbrev pub HasStartedBy : HostStart → FlatOptions → HeldEngine → Type 0
HasStartedBy start options held =
    HasStartedWith bytes_in_digest host_keys (host_keys start.settings.scheme) (host_signer start.settings.scheme)
    (host_terms start.settings.elector).term_length (with_a_retry (options_of options)) held.engine

-- an engine begins with these settings, this table, floor and moment: its member is the one that they begin, and a
-- fetch is asked again after a millisecond at least
pub record IsEngineStarted (f : FlatSettings) (leaders bytes : List ℕ) (options : FlatOptions) (now : ℕ)
    (held : HeldEngine) : Type 0 where
  pub retry : options.retry ≢ 0
  pub start : HostStart
  pub by : IsStart f leaders bytes now start
  pub facts : held.engine.core.member.facts ≡ begun start
  pub votes : held.engine.core.member.votes ≡ []
  pub begun_by : HasStartedBy start options held
  pub begins : HasStarted same_host_payload host_leader host_signer host_terms start held.engine.core.member.facts
  pub nothing : HasReturnedNothing f held

-- the error of an engine, from the member's and the resolver's
abbrev pub engine_not_started_of : StartError → EngineNotStarted
engine_not_started_of start_error.RetryZero =
    engine_not_started.Member
    (not_resumed.Settings (settings_error.Refused (record_error.Config config_error.RetryZero)))
engine_not_started_of (start_error.Resume resume.EntriesLost) = engine_not_started.Member not_resumed.EntriesLost
engine_not_started_of (start_error.Resume (resume.Recover e)) = engine_not_started.Member (not_resumed.Recover e)
engine_not_started_of (start_error.Replay e) = engine_not_started.Resolver e

-- no engine begins, for the error of its member that is due, that of its resolver, or because memory ran out
pub record IsStartRefused (f : FlatSettings) (leaders bytes : List ℕ) (now : ℕ) (e : EngineNotStarted) : Type 0 where
  pub start : HostStart
  pub by : IsStart f leaders bytes now start
  pub error : StartError
  pub is_of : e ≡ engine_not_started_of error
  pub refused : IsStartRefusal start.settings.timeout_retry (IsMemberError (begin_error start))
      (λ m. m ≡ begun start) error

-- why none begins: for its options or settings; or for what they begin, or out of memory
abbrev pub IsEngineNotStarted : FlatSettings → List ℕ → List ℕ → FlatOptions → ℕ → EngineNotStarted → Type 0
IsEngineNotStarted f leaders bytes options now engine_not_started.FetchRetryZero = options.retry ≡ 0
IsEngineNotStarted f leaders bytes options now (engine_not_started.Member (not_resumed.Settings e)) =
    IsNoStart f leaders bytes e
IsEngineNotStarted f leaders bytes options now e = IsStartRefused f leaders bytes now e

-- an engine resumes from the bytes of a journal, which has all entries that were counted, and a fetch is asked again
-- after a millisecond at least
pub record IsEngineResumed (f : FlatSettings) (leaders bytes : List ℕ) (options : FlatOptions) (now : ℕ)
    (beside : FlatStored) (journal : List ℕ)
    (held : HeldEngine) : Type 0 where
  pub retry : options.retry ≢ 0
  pub start : HostStart
  pub stored : Stored
  pub entries : List HostArtifact
  pub from : IsResumption f leaders bytes now beside journal start stored entries
  pub whole : beside.entries ≤ length entries
  pub resumed : IsResumed same_host_payload host_leader stored (entries_of certificate_bytes entries) (host_start start)
      held.engine.core.member.facts
  pub continues : HasContinued same_host_payload host_leader host_signer host_terms stored
      (entries_of certificate_bytes entries) start
      held.engine.core.member.facts
  pub votes : held.engine.core.member.votes ≡ votes_of entries
  pub begun_by : HasStartedBy start options held
  pub nothing : HasReturnedNothing f held

-- no engine resumes from what is read of them, for what refuses its member or its resolver, or because memory ran out
pub record IsResumeRefused (f : FlatSettings) (leaders bytes : List ℕ) (now : ℕ) (beside : FlatStored)
    (journal : List ℕ) (e : EngineNotStarted) : Type 0 where
  pub start : HostStart
  pub stored : Stored
  pub entries : List HostArtifact
  pub from : IsResumption f leaders bytes now beside journal start stored entries
  pub error : StartError
  pub is_of : e ≡ engine_not_started_of error
  pub refused : IsStartRefusal start.settings.timeout_retry
      (IsNotResumed same_host_payload host_leader stored (entries_of certificate_bytes entries) (host_start start))
      (IsResumed same_host_payload host_leader stored (entries_of certificate_bytes entries) (host_start start)) error

-- why none resumes: for its options, settings or journal; or for what these are, or out of memory
abbrev pub IsEngineNotResumed : FlatSettings → List ℕ → List ℕ → FlatOptions → ℕ → FlatStored → List ℕ
    → EngineNotStarted → Type 0
IsEngineNotResumed f leaders bytes options now beside journal engine_not_started.FetchRetryZero = options.retry ≡ 0
IsEngineNotResumed f leaders bytes options now beside journal (engine_not_started.Member (not_resumed.Settings e)) =
    IsNoStart f leaders bytes e
IsEngineNotResumed f leaders bytes options now beside journal (engine_not_started.Member not_resumed.NoFlag) =
    2 ≤ beside.is_pruned
IsEngineNotResumed f leaders bytes options now beside journal (engine_not_started.Member (not_resumed.Journal e)) =
    IsNotResumedBy f leaders bytes now beside journal (not_resumed.Journal e)
IsEngineNotResumed f leaders bytes options now beside journal (engine_not_started.Member not_resumed.EntriesLost) =
    IsNotResumedBy f leaders bytes now beside journal not_resumed.EntriesLost
    ⊎ IsResumeRefused f leaders bytes now beside journal (engine_not_started.Member not_resumed.EntriesLost)
IsEngineNotResumed f leaders bytes options now beside journal e = IsResumeRefused f leaders bytes now beside journal e

-- the number of an error
abbrev pub engine_not_started_number : EngineNotStarted → ℕ
engine_not_started_number (engine_not_started.Member e) = not_resumed_number e
engine_not_started_number (engine_not_started.Resolver e) = not_replayed_number (not_replayed.Replay e)
engine_not_started_number engine_not_started.FetchRetryZero = 33
