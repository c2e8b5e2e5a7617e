-- How the contract of `restarts_are_runs` follows: the run with its three restarts is computed.
use Rattle.std.proofs.Common.{refl}
use Rattle.laws_safety.proofs.networks.Scripts.{restarting_ran}
use Rattle.laws_safety.proofs.laws.instances.restarts_are_runs.Goals as goal

pub returns-clause-ran : goal.returns-clause-ran
returns-clause-ran c = restarting_ran

pub returns-clause-does : goal.returns-clause-does
returns-clause-does c = refl
