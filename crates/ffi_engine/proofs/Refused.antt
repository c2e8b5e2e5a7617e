-- Why no engine resumes, by why no member does.
use Rattle.std.proofs.Common.{◌≡◌, ◌∙◌, ap, sym, subst, ℕ, Bool, true, false, true≢false, ◌==◌, List, [], ◌∷◌, Option, Some, None, length, inl, inr, refl}
use Rattle.simplex_member.specs.declared.member.resume.ResumeError.TheVariants as resume
use Rattle.simplex_engine.specs.declared.engine.begin.StartError.{StartError}
use Rattle.simplex_engine.specs.declared.engine.begin.StartError.TheVariants as start_error
use Rattle.simplex_engine.specs.EngineStart.{IsStartRefusal}
use Rattle.ffi_scheme.specs.Host.{host_keys}
use Rattle.simplex_record.specs.Settings as settings
use Rattle.simplex_types.specs.Config.{first_broken, config_rules}
use Rattle.simplex_types.specs.declared.config.ConfigError.{ConfigError}
use Rattle.ffi_member.specs.declared.flat.FlatSettings.{FlatSettings}
use Rattle.ffi_member.specs.declared.resumption.NotResumed.{NotResumed}
use Rattle.ffi_member.specs.declared.resumption.NotResumed.TheVariants as not_resumed
use Rattle.ffi_member.specs.declared.view_types.FlatStored.{FlatStored}
use Rattle.ffi_member.specs.Resumption.{IsNotResumedBy}
use Rattle.ffi_member.specs.Settings.{HostStart, IsStart}
use Rattle.ffi_engine.specs.declared.begin.EngineNotStarted.TheVariants as engine_not_started
use Rattle.ffi_engine.specs.declared.flat.FlatOptions.{FlatOptions}
use Rattle.ffi_engine.specs.EngineStarts.{IsEngineNotStarted, IsEngineNotResumed, IsStartRefused, IsResumeRefused, engine_not_started_of}

-- no rule of a list is broken
abbrev NoneIsBroken : List (Bool × ConfigError) → Type 0
NoneIsBroken [] = Unit {0}
NoneIsBroken (rule ∷ rules) = (rule.0 ≡ false) × NoneIsBroken rules

none_is_broken : (rules : List (Bool × ConfigError)) → first_broken rules ≡ None → NoneIsBroken rules
none_is_broken [] none = tt
none_is_broken ((true, e) ∷ rules) none = absurd (cc)
none_is_broken ((false, e) ∷ rules) none = (refl, none_is_broken rules none)

no_config_error : (broken : Option ConfigError) (same_members : Bool) → settings.start_error broken same_members ≡ None
    → broken ≡ None
no_config_error None same_members none = refl
no_config_error (Some e) same_members none = absurd (cc)

-- flat settings that make a start have a retry
module _ (f : FlatSettings) (leaders bytes : List ℕ) (now : ℕ) (start : HostStart)
    (by : IsStart f leaders bytes now start) where
  pub has_retry : start.settings.timeout_retry ≡ 0 → ⊥
  has_retry none =
      let config = by.0 in
      let members = length (host_keys config.scheme) in
      let rules = none_is_broken (config_rules members (λ _ _. true) config) (no_config_error _ _ by.5) in
      let retry : config.timeout_retry ≡ 0 = sym (ap (λ (s : HostStart). s.settings.timeout_retry) by.6) ∙ none in
      true≢false (sym (ap (λ n. n == 0) retry) ∙ rules.1.1.1.1.1.0)

-- only an engine without a retry is refused for that
is_retry_zero : (e : StartError) → engine_not_started_of start_error.RetryZero ≡ engine_not_started_of e
    → e ≡ start_error.RetryZero
is_retry_zero start_error.RetryZero same = refl
is_retry_zero (start_error.Resume resume.EntriesLost) same = absurd (cc)
is_retry_zero (start_error.Resume (resume.Recover e)) same = absurd (cc)
is_retry_zero (start_error.Replay e) same = absurd (cc)

-- what refuses a member refuses its engine
pub member_refused : (f : FlatSettings) (leaders bytes : List ℕ) (options : FlatOptions) (now : ℕ) (beside : FlatStored)
    (journal : List ℕ) (e : NotResumed)
    → IsNotResumedBy f leaders bytes now beside journal e
    → IsEngineNotResumed f leaders bytes options now beside journal (engine_not_started.Member e)
member_refused f leaders bytes options now beside journal (not_resumed.Settings e) is = is
member_refused f leaders bytes options now beside journal not_resumed.NoFlag is = is
member_refused f leaders bytes options now beside journal (not_resumed.Journal e) is = is
member_refused f leaders bytes options now beside journal not_resumed.EntriesLost is = inl is
member_refused f leaders bytes options now beside journal (not_resumed.Recover e) is = record {
  start = is.start;
  stored = is.stored;
  entries = is.entries;
  from = is.from;
  error = start_error.Resume (resume.Recover e);
  is_of = refl;
  refused = inr is.refused;
}

-- and an engine may be refused for what was read
pub engine_refused : (f : FlatSettings) (leaders bytes : List ℕ) (options : FlatOptions) (now : ℕ) (beside : FlatStored)
    (journal : List ℕ) (e : StartError)
    → IsResumeRefused f leaders bytes now beside journal (engine_not_started_of e)
    → IsEngineNotResumed f leaders bytes options now beside journal (engine_not_started_of e)
engine_refused f leaders bytes options now beside journal start_error.RetryZero read =
    absurd (has_retry f leaders bytes now read.start read.from.started
    (subst (IsStartRefusal read.start.settings.timeout_retry _ _) (is_retry_zero read.error read.is_of)
    read.refused))
engine_refused f leaders bytes options now beside journal (start_error.Resume resume.EntriesLost) read = inr read
engine_refused f leaders bytes options now beside journal (start_error.Resume (resume.Recover e)) read = read
engine_refused f leaders bytes options now beside journal (start_error.Replay e) read = read

-- or for what it begins with
pub start_refused : (f : FlatSettings) (leaders bytes : List ℕ) (options : FlatOptions) (now : ℕ) (e : StartError)
    → IsStartRefused f leaders bytes now (engine_not_started_of e)
    → IsEngineNotStarted f leaders bytes options now (engine_not_started_of e)
start_refused f leaders bytes options now start_error.RetryZero is =
    absurd (has_retry f leaders bytes now is.start is.by
    (subst (IsStartRefusal is.start.settings.timeout_retry _ _) (is_retry_zero is.error is.is_of) is.refused))
start_refused f leaders bytes options now (start_error.Resume resume.EntriesLost) is = is
start_refused f leaders bytes options now (start_error.Resume (resume.Recover e)) is = is
start_refused f leaders bytes options now (start_error.Replay e) is = is
