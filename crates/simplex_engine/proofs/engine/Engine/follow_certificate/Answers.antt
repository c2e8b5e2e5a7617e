-- That nothing which is planned is lost.
use Rattle.engine_planner.proofs.PlannedWork.{among_both, among_further, among_still, keeps_seen}
use Rattle.engine_planner.proofs.Consequences.{certificate_followed}
use Rattle.std.proofs.Common.{refl}
use Rattle.simplex_engine.proofs.CertificateVotes.{takes_same}
use Rattle.simplex_engine.proofs.BuildBounds.{come_same}
use Rattle.engine_planner.proofs.GivenWork.{certificate_on}
use Rattle.simplex_engine.proofs.Provenance.{fails}
use Rattle.simplex_engine.proofs.ReplyWork.{planned_ahead, planned_certificate}
use Rattle.engine_planner.proofs.AskedSteps.{asks_over, asks_then, certificate_asks}
use Rattle.simplex_engine.specs.Provenance.{is_final}
use Rattle.simplex_engine.proofs.engine.Engine.follow_certificate.Goals as goal

pub returns-clause-seen : goal.returns-clause-seen
returns-clause-seen g c =
    come_same c.update_views.new.self (record (c.update_views.new.self) { plan = c.follow_certificate.new.self }) refl
    (certificate_followed g.D.Digest.bytes g.S.CertificateScheme.certificate_bytes c.args.now
    c.update_views.new.self.plan c.follow_certificate.new.self c.args.certificate.now c.args.reply.now
    c.in_ok-follow_certificate.ensures.followed).reached c.in_ok-update_views.ensures.seen

pub returns-clause-planned : goal.returns-clause-planned
returns-clause-planned g c =
    keeps_seen c.args.self.now.plan c.update_views.new.self.plan c.follow_certificate.new.self
    c.in_ok-update_views.ensures.planned
    (certificate_followed g.D.Digest.bytes g.S.CertificateScheme.certificate_bytes c.args.now
    c.update_views.new.self.plan c.follow_certificate.new.self c.args.certificate.now c.args.reply.now
    c.in_ok-follow_certificate.ensures.followed)

pub returns-clause-causes : goal.returns-clause-causes
returns-clause-causes g c =
    among_further
    (certificate_on g.D.Digest.bytes g.S.CertificateScheme.certificate_bytes c.args.now c.args.certificate.now
    c.args.reply.now c.update_views.new.self.plan c.follow_certificate.new.self
    c.in_ok-follow_certificate.ensures.followed)
    (among_both c.in_ok-update_views.ensures.causes (among_still _))

pub returns-in_err-follow_certificate-clause-causes : goal.returns-in_err-follow_certificate-clause-causes
returns-in_err-follow_certificate-clause-causes g c =
    fails _ _ c.from_residual-in_err-follow_certificate.result c.from_residual-in_err-follow_certificate.ensures.1

pub returns-clause-asks : goal.returns-clause-asks
returns-clause-asks g c plain =
    asks_then c.in_ok-update_views.ensures.asks
    (asks_over (λ kind view. is_final c.update_views.new.self.core.member.facts view)
    (certificate_asks g.D.Digest.bytes g.S.CertificateScheme.certificate_bytes c.args.now c.args.certificate.now
    c.args.reply.now c.update_views.new.self.plan c.follow_certificate.new.self plain
    c.in_ok-follow_certificate.ensures.followed))

pub returns-in_err-follow_certificate-clause-asks : goal.returns-in_err-follow_certificate-clause-asks
returns-in_err-follow_certificate-clause-asks g c plain =
    fails _ _ c.from_residual-in_err-follow_certificate.result c.from_residual-in_err-follow_certificate.ensures.1

pub returns-clause-votes : goal.returns-clause-votes
returns-clause-votes g c = takes_same c.update_views.ensures.batcher

pub returns-in_err-follow_certificate-clause-votes : goal.returns-in_err-follow_certificate-clause-votes
returns-in_err-follow_certificate-clause-votes g c = takes_same c.update_views.ensures.batcher

pub returns-clause-works : goal.returns-clause-works
returns-clause-works g c plain =
    planned_ahead (record (c.update_views.new.self) { plan = c.follow_certificate.new.self })
    (planned_certificate g.D.Digest.bytes g.S.CertificateScheme.certificate_bytes c.args.now c.args.certificate.now
    c.args.reply.now c.update_views.new.self.plan c.follow_certificate.new.self plain
    c.in_ok-follow_certificate.ensures.followed)

pub returns-in_err-follow_certificate-clause-works : goal.returns-in_err-follow_certificate-clause-works
returns-in_err-follow_certificate-clause-works g c plain =
    fails _ _ c.from_residual-in_err-follow_certificate.result c.from_residual-in_err-follow_certificate.ensures.1
