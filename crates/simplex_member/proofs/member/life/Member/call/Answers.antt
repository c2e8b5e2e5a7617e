-- How the contract of `call` follows: each call has the reply of its own method, so it is of its kind, and the record
-- only grows.
use Rattle.simplex_member.specs.Calls.{reply_facts, asked}
use Rattle.simplex_member.proofs.MethodContracts.{typed}
use Rattle.simplex_member.proofs.member.life.Member.call.Goals as goal

pub returns-clause-of_its_kind : goal.returns-clause-of_its_kind
returns-clause-of_its_kind g c =
    (typed g.D.PartialEq.eq g.L.Elector.elect c.args.self.now.facts
    (asked g.S.CertificateScheme.certificate_bytes c.args.call)
    (reply_facts g.S.CertificateScheme.certificate_bytes c.make.result) c.make.new.self.facts
    c.make.ensures.made).of_its_kind

pub returns-clause-answered : goal.returns-clause-answered
returns-clause-answered g c =
    (typed g.D.PartialEq.eq g.L.Elector.elect c.args.self.now.facts
    (asked g.S.CertificateScheme.certificate_bytes c.args.call)
    (reply_facts g.S.CertificateScheme.certificate_bytes c.make.result) c.make.new.self.facts
    c.make.ensures.made).answered

pub returns-clause-kept : goal.returns-clause-kept
returns-clause-kept g c =
    (typed g.D.PartialEq.eq g.L.Elector.elect c.args.self.now.facts
    (asked g.S.CertificateScheme.certificate_bytes c.args.call)
    (reply_facts g.S.CertificateScheme.certificate_bytes c.make.result) c.make.new.self.facts c.make.ensures.made).kept

pub returns-clause-grown : goal.returns-clause-grown
returns-clause-grown g c =
    (typed g.D.PartialEq.eq g.L.Elector.elect c.args.self.now.facts
    (asked g.S.CertificateScheme.certificate_bytes c.args.call)
    (reply_facts g.S.CertificateScheme.certificate_bytes c.make.result) c.make.new.self.facts c.make.ensures.made).grown
