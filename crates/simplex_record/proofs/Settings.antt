-- The result of a start by settings, from the first rule that they break and from the elector's members.
use Rattle.std.proofs.Common.{◌≡◌, refl, ap, ℕ, ◌==◌, Bool, true, false, Option, Some, None, Result, Ok, Err, MatchOption, arith}
use Rattle.std.proofs.lemmas.Bool.Decides.{nat_tests}
use Rattle.simplex_types.specs.declared.config.Config.{Config}
use Rattle.simplex_types.specs.declared.config.ConfigError.{ConfigError}
use Rattle.simplex_record.specs.declared.record.settings.StartError.{StartError}
use Rattle.simplex_record.specs.declared.record.settings.StartError.TheVariants as error
use Rattle.simplex_record.specs.declared.record.start.Start.{Start}
use Rattle.simplex_record.specs.Settings.{start_error}

-- a test with this result, of settings whose first broken rule is this
abbrev pub IsTested : Option ConfigError → Result (Unit {0}) ConfigError → Type 0
IsTested found r = MatchOption found (r ≡ Ok tt) (λ broken. r ≡ Err broken)

-- the start that settings make with a skip budget
abbrev pub with_budget : {S L D K G C : Type 0} → Config S D K G C → L → ℕ → ℕ → Start S L D K G C
with_budget c elector now budget = record {
  settings = record {
    scheme = c.scheme;
    elector = elector;
    epoch = c.epoch;
    view_retention = c.view_retention;
    leader_timeout = c.leader_timeout;
    certification_timeout = c.certification_timeout;
    timeout_retry = c.timeout_retry;
    skip_budget = budget;
  };
  floor = c.floor;
  now = now;
}

same_number : (a b : ℕ) → a ≡ b → (a == b) ≡ true
same_number a b is = grind (arith, nat_tests)

other_number : (a b : ℕ) → (a ≡ b → ⊥) → (a == b) ≡ false
other_number a b apart = grind (arith, nat_tests)

module _ {T : Type 0} (start : T) where
  abbrev pub IsReplied : Option ConfigError → Bool → Result T StartError → Type 0
  IsReplied found same_members r = MatchOption (start_error found same_members) (r ≡ Ok start) (λ error. r ≡ Err error)

  -- a broken rule
  pub broken_replied : (found : Option ConfigError) (same_members : Bool) (broken : ConfigError)
      → IsTested found (Err broken) → IsReplied found same_members (Err (error.Config broken))
  broken_replied None same_members broken tested = cc
  broken_replied (Some first) same_members broken tested = cc

  -- a number of members that is not that of the participants
  pub others_replied : (found : Option ConfigError) (members participants : ℕ) (t : Unit {0}) → IsTested found (Ok t)
      → (members ≡ participants → ⊥) → IsReplied found (members == participants) (Err error.OtherMembers)
  others_replied None members participants t tested apart = rw (other_number members participants apart) refl
  others_replied (Some first) members participants t tested apart = cc

  pub start_replied : (found : Option ConfigError) (members participants : ℕ) (t : Unit {0}) (made : T)
      → IsTested found (Ok t) → members ≡ participants → made ≡ start
      → IsReplied found (members == participants) (Ok made)
  start_replied None members participants t made tested same is =
      rw (same_number members participants same) (ap (λ s. Ok s) is)
  start_replied (Some first) members participants t made tested same is = cc
