-- The rules of a member's settings, in the order of the tests.
use Rattle.std.specs.Prelude.{ℕ, Bool, true, false, not, ◌==◌, nat_le, if◌then◌else◌, List, [], ◌∷◌, Option, Some, None, codes}
use Rattle.simplex_types.specs.declared.types.messages.Subject.{Subject}
use Rattle.simplex_types.specs.declared.types.messages.Subject.TheVariants as subject
use Rattle.simplex_types.specs.declared.config.SkipBudget.{SkipBudget}
use Rattle.simplex_types.specs.declared.config.SkipBudget.TheVariants as budget
use Rattle.simplex_types.specs.declared.config.SkipPolicy.{SkipPolicy}
use Rattle.simplex_types.specs.declared.config.SkipPolicy.TheVariants as skip
use Rattle.simplex_types.specs.declared.config.Floor.{Floor}
use Rattle.simplex_types.specs.declared.config.Floor.TheVariants as floor
use Rattle.simplex_types.specs.declared.config.Config.{Config}
use Rattle.simplex_types.specs.declared.config.ConfigError.{ConfigError}
use Rattle.simplex_types.specs.declared.config.ConfigError.TheVariants as error
use Rattle.simplex_types.specs.Certificates.{ProposalFacts, finalization_facts}

-- how many unfinalized terms may be skipped among this many participants
abbrev pub skip_budget : SkipBudget → ℕ → ℕ
skip_budget budget.Participants participants = participants
skip_budget (budget.Fixed terms) participants = terms.value

-- skipping is enabled, with a timeout at or below this one
abbrev pub is_at_or_below : SkipPolicy → ℕ → Bool
is_at_or_below skip.Disabled timeout = false
is_at_or_below (skip.Enabled skip_timeout _) timeout = nat_le skip_timeout timeout

-- the finalized view that a member starts from
abbrev pub floor_view : {S D K G C : Type 0} → Floor S D K G C → ℕ
floor_view (floor.Genesis _) = 0
floor_view (floor.Finalized f) = f.proposal.round.view

-- the floor is a finalization, not genesis
abbrev pub is_finalization : {S D K G C : Type 0} → Floor S D K G C → Bool
is_finalization (floor.Genesis _) = false
is_finalization (floor.Finalized _) = true

-- what contracts know of a floor
pub data FloorFacts (D : Type 0) : Type 0 where
  Genesis : D → FloorFacts D
  Finalized : ProposalFacts D → FloorFacts D

-- a floor, as plain data
abbrev pub floor_facts : {S D K G C : Type 0} → (C → List ℕ) → Floor S D K G C → FloorFacts D
floor_facts bytes_of (floor.Genesis payload) = Genesis payload
floor_facts bytes_of (floor.Finalized f) = Finalized (finalization_facts bytes_of f)

-- the first error of a list whose rule is broken
abbrev pub first_broken : List (Bool × ConfigError) → Option ConfigError
first_broken [] = None
first_broken (rule ∷ rules) = if rule.0 then Some rule.1 else first_broken rules

-- the rules of a floor: a finalization is of this epoch, above view 0, and accepted by the scheme
abbrev pub floor_rules : {S D K G C : Type 0} → (Subject D → C → Bool) → ℕ → Floor S D K G C → List (Bool × ConfigError)
floor_rules accepts epoch (floor.Genesis _) = []
floor_rules accepts epoch (floor.Finalized f) =
    (not (f.proposal.round.epoch == epoch), error.FloorEpoch)
    ∷ (f.proposal.round.view == 0, error.FloorAtGenesis)
    ∷ (not (accepts (subject.Finalize f.proposal) f.certificate), error.FloorUnverified)
    ∷ []

-- the first rule that a floor breaks
abbrev pub first_broken_floor_rule : {S D K G C : Type 0} → (Subject D → C → Bool) → ℕ → Floor S D K G C
    → Option ConfigError
first_broken_floor_rule accepts epoch floor = first_broken (floor_rules accepts epoch floor)

-- all rules in order, given the number of participants and what the scheme accepts
abbrev pub config_rules : {S D K G C : Type 0} → ℕ → (Subject D → C → Bool) → Config S D K G C
    → List (Bool × ConfigError)
config_rules participants accepts c =
    (participants == 0, error.NoParticipants)
    ∷ (c.leader_timeout == 0, error.LeaderTimeoutZero)
    ∷ (nat_le c.certification_timeout c.leader_timeout, error.CertificationNotAboveLeader)
    ∷ (is_at_or_below c.skip c.certification_timeout, error.SkipNotAboveCertification)
    ∷ (is_at_or_below c.skip c.timeout_retry, error.SkipNotAboveRetry)
    ∷ (c.timeout_retry == 0, error.RetryZero)
    ∷ (c.view_retention == 0, error.RetentionZero)
    ∷ floor_rules accepts c.epoch c.floor

-- the first rule that the settings break
abbrev pub first_broken_rule : {S D K G C : Type 0} → ℕ → (Subject D → C → Bool) → Config S D K G C → Option ConfigError
first_broken_rule participants accepts c = first_broken (config_rules participants accepts c)

-- the name of a broken rule
abbrev pub config_error_name : ConfigError → List ℕ
config_error_name error.NoParticipants = codes "NoParticipants"
config_error_name error.LeaderTimeoutZero = codes "LeaderTimeoutZero"
config_error_name error.CertificationNotAboveLeader = codes "CertificationNotAboveLeader"
config_error_name error.SkipNotAboveCertification = codes "SkipNotAboveCertification"
config_error_name error.SkipNotAboveRetry = codes "SkipNotAboveRetry"
config_error_name error.RetryZero = codes "RetryZero"
config_error_name error.RetentionZero = codes "RetentionZero"
config_error_name error.FloorEpoch = codes "FloorEpoch"
config_error_name error.FloorAtGenesis = codes "FloorAtGenesis"
config_error_name error.FloorUnverified = codes "FloorUnverified"
