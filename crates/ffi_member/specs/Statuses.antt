-- The numbers of the errors of a start, a resume or a restart.
use Rattle.std.specs.Prelude.{ℕ, Result, Ok, Err}
use Rattle.simplex_types.specs.declared.config.ConfigError.{ConfigError}
use Rattle.simplex_types.specs.declared.config.ConfigError.TheVariants as config
use Rattle.simplex_record.specs.declared.record.settings.StartError.TheVariants as start
use Rattle.simplex_record.specs.declared.record.error.RecoverError.{RecoverError}
use Rattle.simplex_record.specs.declared.record.error.RecoverError.TheVariants as recover
use Rattle.ffi_member.specs.declared.held.NotStarted.{NotStarted}
use Rattle.ffi_member.specs.declared.held.NotStarted.TheVariants as not_started
use Rattle.ffi_member.specs.declared.journal.NotRead.{NotRead}
use Rattle.ffi_member.specs.declared.journal.NotRead.TheVariants as not_read
use Rattle.ffi_member.specs.declared.journal.NotWritten.{NotWritten}
use Rattle.ffi_member.specs.declared.journal.NotWritten.TheVariants as not_written
use Rattle.ffi_member.specs.declared.resumption.NotResumed.{NotResumed}
use Rattle.ffi_member.specs.declared.resumption.NotResumed.TheVariants as not_resumed
use Rattle.ffi_member.specs.declared.settings.SettingsError.{SettingsError}
use Rattle.ffi_member.specs.declared.settings.SettingsError.TheVariants as settings

-- the number of a rule of a member's settings that is broken
abbrev pub config_number : ConfigError → ℕ
config_number config.NoParticipants = 20
config_number config.LeaderTimeoutZero = 21
config_number config.CertificationNotAboveLeader = 22
config_number config.SkipNotAboveCertification = 23
config_number config.SkipNotAboveRetry = 24
config_number config.RetryZero = 25
config_number config.RetentionZero = 26
config_number config.FloorEpoch = 27
config_number config.FloorAtGenesis = 28
config_number config.FloorUnverified = 29

-- the number of an error of settings
abbrev pub settings_number : SettingsError → ℕ
settings_number settings.OutOfMemory = 1
settings_number settings.NoSuchMember = 8
settings_number settings.NothingLeads = 9
settings_number settings.NoFlag = 10
settings_number settings.NoSuchLeader = 31
settings_number settings.OtherTable = 32
settings_number (settings.Refused (start.Config e)) = config_number e
settings_number (settings.Refused start.OtherMembers) = 30

-- the number of an error of a record or a floor
abbrev pub recover_number : RecoverError → ℕ
recover_number recover.OutOfMemory = 1
recover_number recover.OutOfOrder = 40
recover_number recover.OtherEpoch = 41
recover_number recover.ZeroView = 42
recover_number recover.ViewTooLarge = 43
recover_number recover.ForeignSigner = 44
recover_number recover.ParentNotBelow = 45
recover_number recover.VerdictWithoutNotarization = 46
recover_number recover.ContradictingVerdicts = 47
recover_number recover.NullifyBesideFinalize = 48
recover_number recover.ContradictingVotes = 49
recover_number recover.FinalizeWithoutVerdict = 50
recover_number recover.TimeOverflow = 51
recover_number recover.RetentionGrown = 52

-- the number of why a journal is not read
abbrev pub not_read_number : NotRead → ℕ
not_read_number not_read.OutOfMemory = 1
not_read_number (not_read.Damaged _) = 12
not_read_number (not_read.NoEntry _ _) = 13

-- the number of why entries are not written
abbrev pub not_written_number : NotWritten → ℕ
not_written_number not_written.OutOfMemory = 1
not_written_number not_written.TooLong = 14

-- the number of an error of a start
abbrev pub not_started_number : NotStarted → ℕ
not_started_number (not_started.Settings e) = settings_number e
not_started_number (not_started.Recover e) = recover_number e

-- the number of an error of a resume
abbrev pub not_resumed_number : NotResumed → ℕ
not_resumed_number (not_resumed.Settings e) = settings_number e
not_resumed_number not_resumed.NoFlag = 10
not_resumed_number (not_resumed.Journal e) = not_read_number e
not_resumed_number not_resumed.EntriesLost = 11
not_resumed_number (not_resumed.Recover e) = recover_number e

-- the number of a restart's result
abbrev pub restart_number : Result (Unit {0}) NotStarted → ℕ
restart_number (Ok _) = 0
restart_number (Err e) = not_started_number e
