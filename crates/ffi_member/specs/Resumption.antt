-- How a member resumes from a journal, and how it is restarted.
use Rattle.std.specs.Prelude.{◌≡◌, ◌⊎◌, ◌<◌, ◌≤◌, ℕ, List, length, Result, Ok, Err}
use Rattle.simplex_codec.specs.declared.digest.BytesDigest.{BytesDigest}
use Rattle.ffi_scheme.specs.declared.elector.HostElector.{HostElector}
use Rattle.ffi_scheme.specs.declared.scheme.HostKey.{HostKey}
use Rattle.ffi_scheme.specs.HostLeaders.{host_terms, is_early}
use Rattle.ffi_scheme.specs.Host.{certificate_bytes, host_signer, host_keys}
use Rattle.simplex_record.specs.Entries.{entries_of}
use Rattle.simplex_record.specs.Start.{StartFacts, start_facts}
use Rattle.simplex_record.specs.Votes.{votes_of}
use Rattle.simplex_record.specs.declared.record.error.RecoverError.{RecoverError}
use Rattle.simplex_member.specs.declared.member.journal.Stored.{Stored}
use Rattle.simplex_member.specs.declared.member.resume.ResumeError.TheVariants as resume
use Rattle.simplex_member.specs.Journal.{IsResumed, IsNotResumed}
use Rattle.simplex_member.specs.Restarts.{RestartFacts, IsRestart, votes_left}
use Rattle.ffi_member.specs.declared.flat.FlatSettings.{FlatSettings}
use Rattle.ffi_member.specs.declared.held.Held.{Held}
use Rattle.ffi_member.specs.declared.held.NotStarted.{NotStarted}
use Rattle.ffi_member.specs.declared.held.NotStarted.TheVariants as not_started
use Rattle.ffi_member.specs.declared.resumption.NotResumed.{NotResumed}
use Rattle.ffi_member.specs.declared.resumption.NotResumed.TheVariants as not_resumed
use Rattle.ffi_member.specs.declared.settings.SettingsError.TheVariants as settings
use Rattle.ffi_member.specs.declared.view_types.FlatRestart.{FlatRestart}
use Rattle.ffi_member.specs.declared.view_types.FlatStored.{FlatStored}
use Rattle.ffi_member.specs.Journals.{HostArtifact, IsNotRead, framed}
use Rattle.ffi_member.specs.Numbers.{flag_number}
use Rattle.ffi_member.specs.MemberHandles.{same_host_payload, host_leader}
use Rattle.ffi_member.specs.Settings.{HostStart, IsNoStart, IsStart}
use Rattle.ffi_member.specs.MemberStart.{IsFresh}

-- what is stored beside a journal has these numbers
pub record IsFlatStored (f : FlatStored) (s : Stored) : Type 0 where
  pub closed : s.closed ≡ f.closed
  pub is_pruned : flag_number s.is_pruned ≡ f.is_pruned
  pub retention : s.retention ≡ f.retention
  pub least_retention : s.least_retention ≡ f.least_retention

-- how a member of the host starts, as plain data
abbrev pub host_start : HostStart → StartFacts HostKey HostElector (BytesDigest 32)
host_start start = start_facts host_signer host_keys host_terms is_early certificate_bytes start

-- a start, a record and what is stored beside it, from flat settings and the bytes of a journal
pub record IsResumption
    (f : FlatSettings) (leaders bytes : List ℕ) (now : ℕ) (beside : FlatStored) (journal : List ℕ)
    (start : HostStart) (stored : Stored) (entries : List HostArtifact) : Type 0 where
  pub started : IsStart f leaders bytes now start
  pub stored_so : IsFlatStored beside stored
  pub read : journal ≡ framed entries

-- a member resumes from them; the journal has all entries that were counted
pub record IsResumedBy
    (f : FlatSettings) (leaders bytes : List ℕ) (now : ℕ) (beside : FlatStored) (journal : List ℕ)
    (held : Held) : Type 0 where
  pub start : HostStart
  pub stored : Stored
  pub entries : List HostArtifact
  pub from : IsResumption f leaders bytes now beside journal start stored entries
  pub whole : beside.entries ≤ length entries
  pub resumed : IsResumed same_host_payload host_leader stored (entries_of certificate_bytes entries) (host_start start)
      held.member.facts
  -- its votes are those of the journal, with their orders
  pub votes : held.member.votes ≡ votes_of entries
  pub fresh : IsFresh held

-- entries are lost: the journal has fewer than were counted, or than were closed
pub record IsLost (beside : FlatStored) (journal : List ℕ) : Type 0 where
  pub entries : List HostArtifact
  pub read : journal ≡ framed entries
  pub fewer : (length entries < beside.entries) ⊎ (length entries < beside.closed)

-- the record is refused, or memory ran out
pub record IsNotRecovered
    (f : FlatSettings) (leaders bytes : List ℕ) (now : ℕ) (beside : FlatStored) (journal : List ℕ)
    (error : RecoverError) : Type 0 where
  pub start : HostStart
  pub stored : Stored
  pub entries : List HostArtifact
  pub from : IsResumption f leaders bytes now beside journal start stored entries
  pub refused : IsNotResumed same_host_payload host_leader stored (entries_of certificate_bytes entries)
      (host_start start) (resume.Recover error)

-- why no member resumes from them
abbrev pub IsNotResumedBy : FlatSettings → List ℕ → List ℕ → ℕ → FlatStored → List ℕ → NotResumed → Type 0
IsNotResumedBy f leaders bytes now beside journal (not_resumed.Settings e) = IsNoStart f leaders bytes e
IsNotResumedBy f leaders bytes now beside journal not_resumed.NoFlag = 2 ≤ beside.is_pruned
IsNotResumedBy f leaders bytes now beside journal (not_resumed.Journal e) = IsNotRead journal e
IsNotResumedBy f leaders bytes now beside journal not_resumed.EntriesLost = IsLost beside journal
IsNotResumedBy f leaders bytes now beside journal (not_resumed.Recover e) =
    IsNotRecovered f leaders bytes now beside journal e

-- the restart that these settings ask for
pub record IsRestartOf (f : FlatRestart) (leaders bytes : List ℕ)
    (r : RestartFacts HostKey HostElector (BytesDigest 32)) : Type 0 where
  pub start : HostStart
  pub started : IsStart f.settings leaders bytes f.moment start
  pub start_is : r.start ≡ host_start start
  pub drop : r.drop ≡ f.drop
  pub prune : flag_number r.prune ≡ f.prune

-- the member is restarted with this result, which retains the orders of the votes that stay, and all that is read of
-- the handle
pub record IsRestartTo
    (old : Held) (f : FlatRestart) (leaders bytes : List ℕ) (result : Result (Unit {0}) RecoverError)
    (new : Held) : Type 0 where
  pub asked : RestartFacts HostKey HostElector (BytesDigest 32)
  pub is_asked : IsRestartOf f leaders bytes asked
  pub restarted : IsRestart same_host_payload host_leader old.member.facts asked result new.member.facts
  pub votes : new.member.votes ≡ votes_left old.member.facts asked old.member.votes
  pub last : new.last ≡ old.last
  pub shown : new.shown ≡ old.shown

-- why a restart is refused: by its settings, with everything unchanged; or by what is due of it
abbrev pub IsNoRestart : Held → FlatRestart → List ℕ → List ℕ → NotStarted → Held → Type 0
IsNoRestart old f leaders bytes (not_started.Settings settings.NoFlag) new =
    (new ≡ old) × (IsNoStart f.settings leaders bytes settings.NoFlag ⊎ (2 ≤ f.prune))
IsNoRestart old f leaders bytes (not_started.Settings e) new = (new ≡ old) × IsNoStart f.settings leaders bytes e
IsNoRestart old f leaders bytes (not_started.Recover e) new = IsRestartTo old f leaders bytes (Err e) new

-- a member is restarted by these settings, or that is refused
abbrev pub IsRestartedBy : Held → FlatRestart → List ℕ → List ℕ → Result (Unit {0}) NotStarted → Held → Type 0
IsRestartedBy old f leaders bytes (Ok _) new = IsRestartTo old f leaders bytes (Ok tt) new
IsRestartedBy old f leaders bytes (Err e) new = IsNoRestart old f leaders bytes e new
