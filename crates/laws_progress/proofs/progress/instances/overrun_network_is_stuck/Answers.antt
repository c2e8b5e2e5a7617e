-- more than f are faulty
use Rattle.std.proofs.Common.{refl}
use Rattle.laws_progress.proofs.instances.OverrunNetwork.{is_network, may_otherwise, is_stuck}
use Rattle.laws_progress.proofs.progress.instances.overrun_network_is_stuck.Goals as goal

pub returns-clause-network : goal.returns-clause-network
returns-clause-network c = is_network

pub returns-clause-too_many : goal.returns-clause-too_many
returns-clause-too_many c = (refl, refl)

pub returns-clause-otherwise : goal.returns-clause-otherwise
returns-clause-otherwise c = may_otherwise

pub returns-clause-stuck : goal.returns-clause-stuck
returns-clause-stuck c = is_stuck
