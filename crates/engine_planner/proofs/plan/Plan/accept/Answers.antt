-- The resolver receives it, and the view is touched.
use Rattle.std.proofs.Common.{◌∙◌, ap, sym, subst}
use Rattle.std.specs.Prelude.{◌==◌}
use Rattle.engine_planner.specs.Consequences.{IsTakenInAbove}
use Rattle.engine_planner.specs.PlanStates.{HasPlanned, touching, watching}
use Rattle.engine_planner.proofs.AcceptedCertificates.{taken_in}
use Rattle.engine_planner.proofs.plan.Plan.accept.Goals as goal

pub returns : goal.returns
returns g c =
    let bytes = g.D.Digest.bytes in
    let bytes_of = g.S.CertificateScheme.certificate_bytes in
    let taken = c.args.certificate.now in
    let old = c.args.self.now in
    let new = c.touch.new.self in
    let notified = c.report_certificate.new.self in
    let above = ap (λ v. v == 0) (sym c.view-view.ensures) ∙ sym c.is_genesis.ensures.is ∙ c.if-is_genesis.false in
    record {
      followed = subst (λ b. IsTakenInAbove bytes bytes_of c.args.now b taken old new) (sym above)
          (taken_in bytes bytes_of c.args.now taken old notified new c.report_certificate.ensures.same
          c.in_ok-report_certificate.ensures.notified
          (subst (λ v. HasPlanned (touching v) (watching notified) new) c.view-view.ensures c.in_ok-touch.ensures));
      refused = tt;
    }
