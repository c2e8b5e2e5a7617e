-- How the contract of `repair` follows: the outstanding views after any calls are those that it needs, and a
-- certificate that is recorded again
-- changes nothing.
use Rattle.simplex_resolver.proofs.RepairLaw.{outstanding_is_wanted}
use Rattle.simplex_resolver.proofs.Again.{recorded_again}
use Rattle.simplex_resolver.proofs.resolver.laws.repair.Goals as goal

pub returns : goal.returns
returns c = record { wanted = outstanding_is_wanted; again = recorded_again }
