-- by the fields of a continuation and of an exchange
use Rattle.laws_progress.proofs.networks.Continued.{members_go_on, finalizations_are_new, nothing_is_forged, too_many_are_faulty, exchanges_go_on, exchanges_bring_what_was, one_exchange_is_too_few}
use Rattle.laws_progress.proofs.progress.continuations.continuations_are_honest.Goals as goal

pub returns-clause-members : goal.returns-clause-members
returns-clause-members g c = members_go_on _ g.D.PartialEq.eq g.L.Elector.elect

pub returns-clause-new : goal.returns-clause-new
returns-clause-new g c = finalizations_are_new _ g.D.PartialEq.eq g.L.Elector.elect

pub returns-clause-nothing_forged : goal.returns-clause-nothing_forged
returns-clause-nothing_forged g c = nothing_is_forged _ g.D.PartialEq.eq g.L.Elector.elect

pub returns-clause-too_many : goal.returns-clause-too_many
returns-clause-too_many g c = too_many_are_faulty _ g.D.PartialEq.eq g.L.Elector.elect

pub returns-clause-exchanged : goal.returns-clause-exchanged
returns-clause-exchanged g c = exchanges_go_on _ g.D.PartialEq.eq g.L.Elector.elect

pub returns-clause-brought : goal.returns-clause-brought
returns-clause-brought g c = exchanges_bring_what_was _ g.D.PartialEq.eq g.L.Elector.elect

pub returns-clause-too_few : goal.returns-clause-too_few
returns-clause-too_few g c = one_exchange_is_too_few _ g.D.PartialEq.eq g.L.Elector.elect
