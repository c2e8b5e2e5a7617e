-- what their members did is computed
use Rattle.laws_progress.proofs.instances.DividedNetwork.{divided_may_go_on, divided_reaches}
use Rattle.laws_progress.proofs.instances.InTurn.{divided_in_turn}
use Rattle.laws_progress.proofs.instances.HandoffNetwork.{taken_over_may_go_on, taken_over_reaches}
use Rattle.laws_progress.proofs.instances.MissingNetwork.{lacking_may_go_on, lacking_reaches}
use Rattle.laws_progress.proofs.progress.instances.worked_networks_may_continue.Goals as goal

pub returns-clause-divided : goal.returns-clause-divided
returns-clause-divided c = (divided_may_go_on, divided_reaches)

pub returns-clause-soon : goal.returns-clause-soon
returns-clause-soon c = divided_in_turn

pub returns-clause-lacking : goal.returns-clause-lacking
returns-clause-lacking c = (lacking_may_go_on, lacking_reaches)

pub returns-clause-taken_over : goal.returns-clause-taken_over
returns-clause-taken_over c = (taken_over_may_go_on, taken_over_reaches)
