-- The inputs of a resolver, with the fetches that follow.
use Rattle.std.specs.Prelude.{◌≡◌, ℕ, List}
use Rattle.simplex_types.specs.declared.types.fault.Fault.{Fault}
use Rattle.simplex_types.specs.declared.types.fault.Fault.TheVariants.{OutOfMemory}
use Rattle.simplex_resolver.specs.Steps.{Call, effects, Refused}
use Rattle.simplex_resolver.specs.CallHistory.{IsMade}
use Rattle.engine_fetches.specs.declared.fetches.Fetch.{Fetch}
use Rattle.engine_fetches.specs.declared.repair.Repair.{Repair}
use Rattle.engine_fetches.specs.OutstandingFetches.{after_effects}

-- the fetches have become these, asked of the same peers round-robin, and a finalization passed this view; everything
-- else is the same
pub record HasPassed (view : ℕ) (fetches : List Fetch) (old new : Repair) : Type 0 where
  pub fetches_now : new.fetches.wanted.items ≡ fetches
  pub peers : new.fetches.peers ≡ old.fetches.peers
  pub retry : new.fetches.retry ≡ old.fetches.retry
  pub resolver : new.resolver ≡ old.resolver
  pub passed : new.passed ≡ view
  pub behind : new.is_behind ≡ old.is_behind

-- the fetches have become these, and no other view was passed
abbrev pub HasFetches : List Fetch → Repair → Repair → Type 0
HasFetches fetches old new = HasPassed old.passed fetches old new

-- the call is made of the resolver, its effects open and close fetches, and everything else is the same
pub record IsRepaired (moment : ℕ) (call : Call) (old new : Repair) : Type 0 where
  pub made : IsMade call old.resolver (effects old.resolver.state call) new.resolver
  pub fetches_now : new.fetches.wanted.items ≡ after_effects moment (effects old.resolver.state call)
      old.fetches.wanted.items
  pub peers : new.fetches.peers ≡ old.fetches.peers
  pub retry : new.fetches.retry ≡ old.fetches.retry
  pub passed : new.passed ≡ old.passed
  pub behind : new.is_behind ≡ old.is_behind

-- a call that names no view above v is refused: without memory, fetches may be left out; else the resolver says why,
-- and it and the fetches are unchanged
abbrev pub IsUnrepaired : ℕ → Fault → Repair → Repair → Type 0
IsUnrepaired v OutOfMemory old new = Unit {0}
IsUnrepaired v fault old new =
    Refused old.resolver.state v fault new.resolver.state × (new.resolver ≡ old.resolver) × (new.fetches ≡ old.fetches)
