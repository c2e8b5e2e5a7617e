-- A start by the settings of a member.
use Rattle.std.specs.Prelude.{ℕ, Bool, if◌then◌else◌, Option, Some, None}
use Rattle.simplex_types.specs.Config.{skip_budget}
use Rattle.simplex_types.specs.declared.config.Config.{Config}
use Rattle.simplex_types.specs.declared.config.ConfigError.{ConfigError}
use Rattle.simplex_types.specs.declared.config.SkipPolicy.{SkipPolicy}
use Rattle.simplex_types.specs.declared.config.SkipPolicy.TheVariants as skip
use Rattle.simplex_record.specs.declared.record.settings.StartError.{StartError}
use Rattle.simplex_record.specs.declared.record.settings.StartError.TheVariants as error
use Rattle.simplex_record.specs.declared.record.start.Start.{Start}

-- how many unfinalized terms may be skipped among this many participants: none if skipping is disabled
abbrev pub skip_budget_of : SkipPolicy → ℕ → ℕ
skip_budget_of skip.Disabled participants = 0
skip_budget_of (skip.Enabled _ budget) participants = skip_budget budget participants

-- the start that settings make
abbrev pub start_by : {S L D K G C : Type 0} → (participants : ℕ) → Config S D K G C → L → ℕ → Start S L D K G C
start_by participants c elector now = record {
  settings = record {
    scheme = c.scheme;
    elector = elector;
    epoch = c.epoch;
    view_retention = c.view_retention;
    leader_timeout = c.leader_timeout;
    certification_timeout = c.certification_timeout;
    timeout_retry = c.timeout_retry;
    skip_budget = skip_budget_of c.skip participants;
  };
  floor = c.floor;
  now = now;
}

-- why they make none: the first rule that they break, and then an elector of other members
abbrev pub start_error : Option ConfigError → Bool → Option StartError
start_error (Some broken) same_members = Some (error.Config broken)
start_error None same_members = if same_members then None else Some error.OtherMembers
