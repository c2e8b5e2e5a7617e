-- How the contract of `is_finalized_in` follows: a finalization of the view is at the artifact or after it.
use Rattle.std.proofs.Common.{sym, ◌∙◌}
use Rattle.simplex_member.proofs.Restarts.{stands_here, stands_behind}
use Rattle.simplex_member.proofs.member.restart.is_finalized_in.Goals as goal

pub returns-then-is_finalization_of : goal.returns-then-is_finalization_of
returns-then-is_finalization_of g c =
    sym (c.loop-artifact.invariant
    ∙ stands_here g.S.CertificateScheme.certificate_bytes c.args.view c.args.artifacts.now
    c.loop-artifact.artifact-index c.artifact-item.result c.artifact-item.is c.loop-artifact-test.true
    (sym c.is_finalization_of.ensures ∙ c.if-is_finalization_of.true))

pub loop-artifact-preserved : goal.loop-artifact-preserved
loop-artifact-preserved g c =
    c.loop-artifact.invariant
    ∙ stands_behind g.S.CertificateScheme.certificate_bytes c.args.view c.args.artifacts.now
    c.loop-artifact.artifact-index c.artifact-item.result c.artifact-item.is c.loop-artifact-test.true
    (sym c.is_finalization_of.ensures ∙ c.if-is_finalization_of.false)
