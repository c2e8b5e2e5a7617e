-- by what each certificate shows of the other host
use Rattle.laws_meetings.proofs.CommonViews.{views_follow}
use Rattle.laws_meetings.proofs.meetings.views_are_followed.Goals as goal

pub returns : goal.returns
returns g c =
    views_follow g.D.PartialEq.eq g.met.D.Digest.equal_is_same g.L.Elector.elect g.D.Digest.bytes
    g.S.CertificateScheme.certificate_bytes g.S.Scheme.IsSignature g.S.CertificateScheme.participants
    g.S.CertificateScheme.me g.L.Elector.terms c.rounds_keep_networks.ensures c.finality_spreads.ensures
    c.nullifications_spread.ensures c.notarizations_spread.ensures c.all_is_sent_at_rest.ensures
    c.verdicts_are_awaited.ensures c.agreement.ensures.finalized_uncovered
