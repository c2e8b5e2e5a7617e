-- Settings of a member of four participants, and the first rule that each breaks. A certificate is whether it is valid.
use Rattle.std.specs.Prelude.{◌≡◌, ℕ, Bool, true, false, Option, Some, None}
use Rattle.std.proofs.Common.{refl}
use Rattle.simplex_types.specs.Config.{first_broken_rule, skip_budget}
use Rattle.simplex_types.specs.declared.config.Config.{Config}
use Rattle.simplex_types.specs.declared.config.ConfigError.{ConfigError}
use Rattle.simplex_types.specs.declared.config.ConfigError.TheVariants as error
use Rattle.simplex_types.specs.declared.config.Floor.{Floor}
use Rattle.simplex_types.specs.declared.config.Floor.TheVariants as floor
use Rattle.simplex_types.specs.declared.config.ForwardPolicy.TheVariants as forward
use Rattle.simplex_types.specs.declared.config.SkipBudget.TheVariants as budget
use Rattle.simplex_types.specs.declared.config.SkipPolicy.TheVariants as skip
use Rattle.simplex_types.specs.declared.types.messages.Subject.{Subject}

abbrev Settings : Type 0
Settings = Config ℕ ℕ ℕ ℕ Bool

-- the scheme takes a certificate that is good
abbrev is_good : Subject ℕ → Bool → Bool
is_good subject good = good

abbrev usual : Settings
usual = record {
  scheme = 0;
  epoch = 1;
  floor = floor.Genesis 0;
  leader_timeout = 1000;
  certification_timeout = 2000;
  timeout_retry = 500;
  view_retention = 10;
  skip = skip.Enabled 5000 budget.Participants;
  forward = forward.Disabled;
}

abbrev broken : Settings → Option ConfigError
broken settings = first_broken_rule 4 is_good settings

nothing_broken : broken usual ≡ None
nothing_broken = refl

nobody : first_broken_rule 0 is_good usual ≡ Some error.NoParticipants
nobody = refl

no_leader_timeout : broken (record usual { leader_timeout = 0 }) ≡ Some error.LeaderTimeoutZero
no_leader_timeout = refl

-- the certification timeout is above the leader's
as_long_as_the_leader : broken (record usual { leader_timeout = 2000 }) ≡ Some error.CertificationNotAboveLeader
as_long_as_the_leader = refl

-- a leader counts as inactive later than the view's own timeout and than the retry
skipped_at_the_certification : broken (record usual { skip = skip.Enabled 2000 budget.Participants }) ≡ Some
    error.SkipNotAboveCertification
skipped_at_the_certification = refl

skipped_at_the_retry : broken (record usual { timeout_retry = 5000 }) ≡ Some error.SkipNotAboveRetry
skipped_at_the_retry = refl

-- unless none is ever skipped
skipped_never : broken (record usual { skip = skip.Disabled; timeout_retry = 5000 }) ≡ None
skipped_never = refl

no_retry : broken (record usual { timeout_retry = 0 }) ≡ Some error.RetryZero
no_retry = refl

nothing_kept : broken (record usual { view_retention = 0 }) ≡ Some error.RetentionZero
nothing_kept = refl

-- a finalized floor
abbrev finalized : ℕ → ℕ → Bool → Floor ℕ ℕ ℕ ℕ Bool
finalized epoch view good =
    floor.Finalized (record {
      proposal =
          record { round = record { epoch = epoch; view = view }; parent = 0; payload = 7 };
      certificate = good;
    })

good_floor : broken (record usual { floor = finalized 1 3 true }) ≡ None
good_floor = refl

other_epoch : broken (record usual { floor = finalized 2 3 true }) ≡ Some error.FloorEpoch
other_epoch = refl

finalized_genesis : broken (record usual { floor = finalized 1 0 true }) ≡ Some error.FloorAtGenesis
finalized_genesis = refl

bad_certificate : broken (record usual { floor = finalized 1 3 false }) ≡ Some error.FloorUnverified
bad_certificate = refl

-- as many terms may be skipped as there are participants
all_participants : skip_budget budget.Participants 4 ≡ 4
all_participants = refl
