-- What follows a vote reports all that the member waits for.
use Rattle.std.proofs.Common.{[], ◌∷◌, refl, sym, subst}
use Rattle.engine_planner.proofs.PlannedWork.{has_planned}
use Rattle.simplex_engine.proofs.UnfinishedWork.{tells_planned, tells_still}
use Rattle.engine_outbox.specs.declared.output.Work.TheVariants as work
use Rattle.engine_planner.specs.Causes.{WorkItem}
use Rattle.engine_planner.proofs.Causes.{among_last, planned_more}
use Rattle.simplex_engine.specs.Provenance.{pending_causes, is_final, of_counted, IsCausedWith}
use Rattle.simplex_engine.proofs.Provenance.{comes_same, comes_still, hand_with}
use Rattle.simplex_engine.proofs.NoMissingCertificates.{counted_lacks_none}
use Rattle.engine_planner.proofs.AskedSteps.{asks_behind, asks_beside}
use Rattle.simplex_engine.proofs.engine.Engine.follow_counted.Goals as goal

pub returns-in-Equivocated-clause-due_work : goal.returns-in-Equivocated-clause-due_work
returns-in-Equivocated-clause-due_work g c =
    tells_planned c.args.self.now (record c.args.self.now { plan = c.push.new.self }) refl
    (has_planned c.in_ok-push-in-Equivocated.ensures)

pub returns-in-Taken-clause-due_work : goal.returns-in-Taken-clause-due_work
returns-in-Taken-clause-due_work g c = tells_still c.args.self.now

pub returns-clause-due_work : goal.returns-clause-due_work
returns-clause-due_work g c = tells_still c.args.self.now

pub returns-in-Equivocated-clause-provenance : goal.returns-in-Equivocated-clause-provenance
returns-in-Equivocated-clause-provenance g c =
    let new = record c.args.self.now { plan = c.push.new.self } in
    subst (λ it. IsCausedWith g.D.PartialEq.eq g.L.Elector.elect g.D.Digest.bytes
    g.S.CertificateScheme.certificate_bytes c.args.now (of_counted g.S.CertificateScheme.certificate_bytes it)
    c.args.self.now new)
    (sym c.in-Equivocated.is)
    (comes_same refl (hand_with c.args.self.now new
    (WorkItem (work.Equivocated c.in-Equivocated.first c.in-Equivocated.second) ∷ []) refl
    (planned_more c.in_ok-push-in-Equivocated.ensures))
    (asks_beside (WorkItem (work.Equivocated c.in-Equivocated.first c.in-Equivocated.second) ∷ []) (λ kind view. refl)
    (asks_behind (λ kind view. is_final c.args.self.now.core.member.facts view) c.in_ok-push-in-Equivocated.ensures)))

pub returns-in-Taken-clause-provenance : goal.returns-in-Taken-clause-provenance
returns-in-Taken-clause-provenance g c = comes_still refl refl
    (counted_lacks_none g.S.CertificateScheme.certificate_bytes c.args.counted)
    (among_last (of_counted g.S.CertificateScheme.certificate_bytes c.args.counted) (pending_causes c.args.self.now))

pub returns-clause-provenance : goal.returns-clause-provenance
returns-clause-provenance g c = comes_still refl refl
    (counted_lacks_none g.S.CertificateScheme.certificate_bytes c.args.counted)
    (among_last (of_counted g.S.CertificateScheme.certificate_bytes c.args.counted) (pending_causes c.args.self.now))
