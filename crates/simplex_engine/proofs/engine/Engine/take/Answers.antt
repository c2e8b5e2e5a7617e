-- An ignored input is counted.
use Rattle.std.proofs.Common.{ap}
use Rattle.simplex_engine.specs.Admission.{ignoring}
use Rattle.simplex_engine.proofs.InputResults.{taken_otherwise, taken_of_no_use}
use Rattle.simplex_engine.proofs.engine.Engine.take.Goals as goal

pub returns-then-is_in_vain : goal.returns-then-is_in_vain
returns-then-is_in_vain g c =
    taken_of_no_use g.D.PartialEq.eq g.L.Elector.elect g.D.Digest.bytes g.S.CertificateScheme.certificate_bytes
    g.S.Assembly.IsMadeOf g.S.CertificateScheme.participants c.args.now
    c.args.input c.args.self.now c.take_in-answer.new.self _ c.take_in-answer.result
    (c.is_in_vain.ensures.vain c.if-is_in_vain.true)
    (ap (λ plan. record (c.take_in-answer.new.self) { plan = plan }) c.ignore.ensures) c.take_in-answer.ensures

pub returns : goal.returns
returns g c =
    taken_otherwise g.D.PartialEq.eq g.L.Elector.elect g.D.Digest.bytes g.S.CertificateScheme.certificate_bytes
    g.S.Assembly.IsMadeOf g.S.CertificateScheme.participants c.args.now
    c.args.input c.args.self.now (ignoring c.args.self.now) c.take_in-answer.new.self c.take_in-answer.result
    (c.is_in_vain.ensures.other c.if-is_in_vain.false) c.take_in-answer.ensures
