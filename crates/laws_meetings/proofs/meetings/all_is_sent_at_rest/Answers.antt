-- by what counts as broadcast over the calls of a process
use Rattle.laws_meetings.proofs.ProcessesAtRest.{all_send}
use Rattle.laws_meetings.proofs.meetings.all_is_sent_at_rest.Goals as goal

pub returns : goal.returns
returns g c =
    all_send g.D.PartialEq.eq g.met.D.Digest.equal_is_same g.L.Elector.elect g.D.Digest.bytes
    g.S.CertificateScheme.certificate_bytes g.S.Scheme.IsSignature g.S.CertificateScheme.participants
