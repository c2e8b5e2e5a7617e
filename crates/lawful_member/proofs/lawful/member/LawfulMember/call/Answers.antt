-- from what `Member::call` ensures
use Rattle.std.proofs.Common.{◌++◌}
use Rattle.simplex_member.specs.Calls.{reply_facts, asked}
use Rattle.simplex_member.specs.Runs.{Calls}
use Rattle.laws_safety.specs.ObservedTraces.{votes_in, taken_by}
use Rattle.laws_safety.proofs.agreement.Exactly.{step_exact}
use Rattle.laws_safety.proofs.executions.ExecutionSteps.{call_done}
use Rattle.laws_safety.proofs.executions.Shown.{made_shown}
use Rattle.lawful_member.proofs.Stored.{stored_stays}
use Rattle.lawful_member.proofs.lawful.member.LawfulMember.call.Goals as goal

pub returns-clause-answered : goal.returns-clause-answered
returns-clause-answered g c = rw (← c.self.view_is) c.call.ensures.made

pub returns-clause-grown : goal.returns-clause-grown
returns-clause-grown g c = rw (← c.self.view_is) c.call.ensures.grown

pub returns-clause-stored : goal.returns-clause-stored
returns-clause-stored g c =
    let bytes_of = g.S.CertificateScheme.certificate_bytes in
    rw (← c.self.view_is) (stored_stays g.D.PartialEq.eq g.L.Elector.elect c.self.inside.member.facts
    c.call.new.self.facts (asked bytes_of c.args.call) (reply_facts bytes_of c.call.result) c.call.ensures.made)

pub returns-clause-exact : goal.returns-clause-exact
returns-clause-exact g c =
    let bytes_of = g.S.CertificateScheme.certificate_bytes in
    rw (← c.self.view_is) (step_exact g.D.PartialEq.eq g.L.Elector.elect c.self.inside.member.facts
    c.call.new.self.facts (Calls (asked bytes_of c.args.call)) (reply_facts bytes_of c.call.result) c.call.ensures.made)

pub returns-clause-continues : goal.returns-clause-continues
returns-clause-continues g c term_length i all done =
    let bytes_of = g.S.CertificateScheme.certificate_bytes in
    call_done g.D.PartialEq.eq g.L.Elector.elect term_length i c.self.inside.member.facts c.call.new.self.facts
    (asked bytes_of c.args.call) (reply_facts bytes_of c.call.result) all
    (taken_by c.args.call c.call.result ++ votes_in c.call.result) c.call.ensures.made
    (made_shown g.row.L.Denot bytes_of c.args.call c.call.result) (rw c.self.view_is done)
