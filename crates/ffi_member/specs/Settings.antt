-- How flat settings set up a member.
use Rattle.std.specs.Prelude.{◌≡◌, ℕ, ◌<◌, ◌==◌, ◌&&◌, nat_le, nat_lt, Bool, true, if◌then◌else◌, List, Option, Some, None, MatchOption, not, length}
use Rattle.std.specs.List.{list_all}
use Rattle.std.specs.Option.{option_or}
use Rattle.simplex_record.specs.declared.record.settings.StartError.{StartError}
use Rattle.simplex_record.specs.declared.record.start.Start.{Start}
use Rattle.simplex_record.specs.Settings.{start_by, start_error}
use Rattle.simplex_types.specs.Config.{first_broken_rule}
use Rattle.simplex_types.specs.declared.config.Config.{Config}
use Rattle.simplex_types.specs.declared.config.Floor.{Floor}
use Rattle.simplex_types.specs.declared.config.Floor.TheVariants as floor
use Rattle.simplex_types.specs.declared.config.ForwardPolicy.TheVariants as forward
use Rattle.simplex_types.specs.declared.config.SkipBudget.TheVariants as budget
use Rattle.simplex_types.specs.declared.config.SkipPolicy.{SkipPolicy}
use Rattle.simplex_types.specs.declared.config.SkipPolicy.TheVariants as skip
use Rattle.simplex_types.specs.declared.types.window.Terms.{Terms}
use Rattle.simplex_codec.specs.declared.digest.BytesDigest.{BytesDigest}
use Rattle.simplex_codec.specs.Digests.{bytes_in_digest}
use Rattle.ffi_scheme.specs.declared.elector.HostElector.{HostElector}
use Rattle.ffi_scheme.specs.declared.scheme.HostCertificate.{HostCertificate}
use Rattle.ffi_scheme.specs.declared.scheme.HostKey.{HostKey}
use Rattle.ffi_scheme.specs.declared.scheme.HostScheme.{HostScheme}
use Rattle.ffi_scheme.specs.declared.scheme.Order.{Order}
use Rattle.ffi_scheme.specs.HostLeaders.{host_members, host_terms, table_of, is_early}
use Rattle.ffi_scheme.specs.Host.{certificate_bytes, host_signer, host_keys, host_keys_in}
use Rattle.ffi_member.specs.declared.flat.FlatSettings.{FlatSettings}
use Rattle.ffi_member.specs.declared.settings.SettingsError.{SettingsError}
use Rattle.ffi_member.specs.declared.settings.SettingsError.TheVariants as error
use Rattle.ffi_member.specs.Calls.{IsFlatProposal}
use Rattle.ffi_member.specs.Numbers.{flag_number}

-- the settings of a member of the host, and how one starts
abbrev pub HostConfig : Type 0
HostConfig = Config HostScheme (BytesDigest 32) HostKey Order HostCertificate

abbrev pub HostStart : Type 0
HostStart = Start HostScheme HostElector (BytesDigest 32) HostKey Order HostCertificate

-- the member that signs; none for the greatest number of 32 bits
abbrev pub IsSigner : FlatSettings → Option ℕ → Type 0
IsSigner f None = f.signer ≡ 4294967295
IsSigner f (Some signer) = (signer ≡ f.signer) × (signer < f.members)

-- how long until a term stalls, if it does
abbrev pub IsStall : FlatSettings → Option ℕ → Type 0
IsStall f None = f.stalls ≡ 0
IsStall f (Some timeout) = (f.stalls ≡ 1) × (timeout ≡ f.stall_timeout)

-- how views are divided into terms
pub record IsTerms (f : FlatSettings) (t : Terms) : Type 0 where
  pub length : t.term_length ≡ f.term_length
  pub optimistic_views : t.optimistic_views ≡ f.optimistic_views
  pub stall : IsStall f t.stall_timeout

-- the elector has this table, and draws leaders if the settings say so
pub record IsElector (f : FlatSettings) (leaders : List ℕ) (e : HostElector) : Type 0 where
  pub members : host_members e ≡ f.members
  pub table : table_of e ≡ leaders
  pub terms : IsTerms f (host_terms e)
  pub draws : f.draws ≡ flag_number (not (is_early e))

-- genesis has the floor's payload; a finalization has the floor's proposal, and these bytes
abbrev pub IsFloor : FlatSettings → List ℕ → Floor HostScheme (BytesDigest 32) HostKey Order HostCertificate → Type 0
IsFloor f bytes (floor.Genesis payload) = (f.is_finalized ≡ 0) × (bytes_in_digest payload ≡ f.floor.payload)
IsFloor f bytes (floor.Finalized it) =
    (f.is_finalized ≡ 1) × IsFlatProposal f.floor it.proposal × (certificate_bytes it.certificate ≡ bytes)

-- whether views of inactive leaders are skipped; a budget of 0 is that of as many terms as there are members
abbrev pub IsSkip : FlatSettings → SkipPolicy → Type 0
IsSkip f skip.Disabled = f.skip_timeout ≡ 0
IsSkip f (skip.Enabled timeout budget.Participants) = (0 < timeout) × (timeout ≡ f.skip_timeout) × (f.skip_budget ≡ 0)
IsSkip f (skip.Enabled timeout (budget.Fixed terms)) =
    (0 < timeout) × (timeout ≡ f.skip_timeout) × (f.skip_budget ≡ terms.value)

-- the settings have these numbers and bytes
pub record IsConfig (f : FlatSettings) (bytes : List ℕ) (c : HostConfig) : Type 0 where
  pub signer : IsSigner f (host_signer c.scheme)
  -- the members' keys are those of this network: so each text to sign begins with its namespace
  pub keys : host_keys c.scheme ≡ host_keys_in f.namespace f.members
  pub epoch : c.epoch ≡ f.epoch
  pub floor : IsFloor f bytes c.floor
  pub leader_timeout : c.leader_timeout ≡ f.leader_timeout
  pub certification_timeout : c.certification_timeout ≡ f.certification_timeout
  pub timeout_retry : c.timeout_retry ≡ f.timeout_retry
  pub view_retention : c.view_retention ≡ f.view_retention
  pub skip : IsSkip f c.skip
  -- the core forwards nothing
  pub forward : c.forward ≡ forward.Disabled

-- the signer must be a member, or none
abbrev pub signer_error : FlatSettings → Option SettingsError
signer_error f = if not (f.signer == 4294967295) && nat_le f.members f.signer then Some error.NoSuchMember else None

-- a flag must be 0 or 1
abbrev pub flag_error : ℕ → Option SettingsError
flag_error flag = if nat_le 2 flag then Some error.NoFlag else None

-- a term must have a view
abbrev pub terms_error : FlatSettings → Option SettingsError
terms_error f = if f.term_length == 0 then Some error.NothingLeads else flag_error f.stalls

-- each entry of a table is a member's index
abbrev pub names_members : ℕ → List ℕ → Bool
names_members members leaders = list_all (λ index. nat_lt index members) leaders

-- a table that leads in all views has as many entries as there are members
abbrev pub length_error : FlatSettings → List ℕ → Option SettingsError
length_error f leaders = if (f.draws == 0) && not (length leaders == f.members) then Some error.OtherTable else None

-- the first rule that a table of leaders breaks: each entry is a member's index, and there are as many as required
abbrev pub table_error : FlatSettings → List ℕ → Option SettingsError
table_error f leaders = if not (names_members f.members leaders) then Some error.NoSuchLeader
    else length_error f leaders

-- the first rule that the numbers of an elector break: there is a member, and an entry in the table of leaders
abbrev pub elector_error : FlatSettings → List ℕ → Option SettingsError
elector_error f leaders =
    if f.members == 0
    then Some error.NoSuchMember
    else if length leaders == 0
    then Some error.NothingLeads
    else option_or (terms_error f) (option_or (flag_error f.draws) (table_error f leaders))

-- the first rule that the numbers of a member's settings break
abbrev pub config_error : FlatSettings → Option SettingsError
config_error f = option_or (signer_error f) (flag_error f.is_finalized)

-- the first rule that flat settings break
abbrev pub settings_error : FlatSettings → List ℕ → Option SettingsError
settings_error f leaders = option_or (config_error f) (elector_error f leaders)

-- the error that is due; if none is due, out of memory
abbrev pub IsSettingsErrorDue : Option SettingsError → SettingsError → Type 0
IsSettingsErrorDue due found = MatchOption due (found ≡ error.OutOfMemory) (λ e. found ≡ e)

-- the first rule of a member that these settings and this elector break: the host's scheme accepts each certificate
abbrev pub engine_error : HostConfig → HostElector → Option StartError
engine_error c e =
    start_error (first_broken_rule (length (host_keys c.scheme)) (λ _ _. true) c)
    (host_members e == length (host_keys c.scheme))

-- the numbers break no rule, but their settings and elector break this rule of a member
pub record IsStartRefused (f : FlatSettings) (leaders bytes : List ℕ) (broken : StartError) : Type 0 where
  pub config : HostConfig
  pub elector : HostElector
  pub is_config : IsConfig f bytes config
  pub is_elector : IsElector f leaders elector
  pub numbers : settings_error f leaders ≡ None
  pub first : engine_error config elector ≡ Some broken

-- why no member starts with these settings: memory ran out, at the least for those of a member, or they break this rule
-- first
abbrev pub IsNoStart : FlatSettings → List ℕ → List ℕ → SettingsError → Type 0
IsNoStart f leaders bytes error.OutOfMemory = config_error f ≡ None
IsNoStart f leaders bytes (error.Refused broken) = IsStartRefused f leaders bytes broken
IsNoStart f leaders bytes found = settings_error f leaders ≡ Some found

-- a member starts with these settings, this table, floor and moment: they break no rule
abbrev pub IsStart : FlatSettings → List ℕ → List ℕ → ℕ → HostStart → Type 0
IsStart f leaders bytes now start =
    (config : HostConfig) × (elector : HostElector) × IsConfig f bytes config × IsElector f leaders elector
    × (settings_error f leaders ≡ None) × (engine_error config elector ≡ None)
    × (start ≡ start_by (length (host_keys config.scheme)) config elector now)
