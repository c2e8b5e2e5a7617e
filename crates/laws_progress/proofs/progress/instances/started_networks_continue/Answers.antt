-- the networks are computed
use Rattle.std.proofs.Common.{refl}
use Rattle.laws_progress.proofs.instances.FreshNetwork as first
use Rattle.laws_progress.proofs.instances.AbandonedFirstView as second
use Rattle.laws_progress.proofs.progress.instances.started_networks_continue.Goals as goal

pub returns-clause-first : goal.returns-clause-first
returns-clause-first c = first.is_network

pub returns-clause-first_few : goal.returns-clause-first_few
returns-clause-first_few c = (refl, refl)

pub returns-clause-first_stands : goal.returns-clause-first_stands
returns-clause-first_stands c = first.each_lives

pub returns-clause-first_goes_on : goal.returns-clause-first_goes_on
returns-clause-first_goes_on c = first.begins_to_finalize

pub returns-clause-second : goal.returns-clause-second
returns-clause-second c = second.is_network

pub returns-clause-second_few : goal.returns-clause-second_few
returns-clause-second_few c = (refl, refl)

pub returns-clause-second_stands : goal.returns-clause-second_stands
returns-clause-second_stands c = second.each_lives

pub returns-clause-second_goes_on : goal.returns-clause-second_goes_on
returns-clause-second_goes_on c = second.gives_up_to_finalize
