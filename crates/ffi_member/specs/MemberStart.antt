-- How a member starts from flat settings.
use Rattle.std.specs.Prelude.{◌≡◌, ℕ, List, [], Option, None}
use Rattle.simplex_types.specs.Config.{floor_facts}
use Rattle.simplex_codec.specs.declared.digest.BytesDigest.{BytesDigest}
use Rattle.ffi_scheme.specs.declared.elector.HostElector.{HostElector}
use Rattle.ffi_scheme.specs.declared.scheme.HostKey.{HostKey}
use Rattle.ffi_scheme.specs.HostLeaders.{host_terms, is_early}
use Rattle.ffi_scheme.specs.Host.{certificate_bytes, host_signer, host_keys}
use Rattle.simplex_record.specs.declared.record.error.RecoverError.{RecoverError}
use Rattle.simplex_record.specs.Recovery.{recover_error}
use Rattle.simplex_record.specs.Start.{set_up, IsErrorDue}
use Rattle.simplex_member.specs.declared.member.calls.Reply.TheVariants as reply
use Rattle.simplex_member.specs.MemberFacts.{MemberFacts}
use Rattle.simplex_member.specs.Start.{started_member}
use Rattle.ffi_member.specs.declared.flat.FlatSettings.{FlatSettings}
use Rattle.ffi_member.specs.MemberHandles.{same_host_payload, host_leader}
use Rattle.ffi_member.specs.declared.held.Held.{Held}
use Rattle.ffi_member.specs.declared.held.NotStarted.{NotStarted}
use Rattle.ffi_member.specs.declared.held.NotStarted.TheVariants as not_started
use Rattle.ffi_member.specs.Settings.{HostStart, IsNoStart, IsStart}

-- the member that a start begins
abbrev pub begun : HostStart → MemberFacts HostKey HostElector (BytesDigest 32)
begun start =
    started_member same_host_payload host_leader (set_up host_signer host_keys host_terms is_early start.settings)
    (floor_facts certificate_bytes start.floor) start.now

-- the error of a start that has no record
abbrev pub begin_error : HostStart → Option RecoverError
begin_error start =
    recover_error same_host_payload (set_up host_signer host_keys host_terms is_early start.settings)
    (floor_facts certificate_bytes start.floor) start.now []

-- no call was made yet, and nothing was loaded
abbrev pub IsFresh : Held → Type 0
IsFresh held = (held.last ≡ reply.Unit) × (held.shown.items ≡ [])

-- a member begins with these settings, this table, floor and moment; it has voted nothing
pub record IsStarted (f : FlatSettings) (leaders bytes : List ℕ) (now : ℕ) (held : Held) : Type 0 where
  pub start : HostStart
  pub by : IsStart f leaders bytes now start
  pub accepted : begin_error start ≡ None
  pub facts : held.member.facts ≡ begun start
  pub votes : held.member.votes ≡ []
  pub fresh : IsFresh held

-- why none begins: by its settings, or by what is due of the start that they make
abbrev pub IsNotStarted : FlatSettings → List ℕ → List ℕ → ℕ → NotStarted → Type 0
IsNotStarted f leaders bytes now (not_started.Settings e) = IsNoStart f leaders bytes e
IsNotStarted f leaders bytes now (not_started.Recover e) =
    (start : HostStart) × IsStart f leaders bytes now start × IsErrorDue (begin_error start) e
