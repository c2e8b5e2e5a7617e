-- That the engine begins with its company.
use Rattle.std.proofs.Common.{ap, refl, sym, subst}
use Rattle.std.proofs.lemmas.Result.{err_from_is_err_and}
use Rattle.engine_outbox.specs.Continuity.{BeginsTraced}
use Rattle.engine_outbox.specs.Signatures.{BeginsSigned}
use Rattle.simplex_engine.specs.EngineStart.{with_a_retry, IsPlanOf}
use Rattle.simplex_engine.proofs.EngineStart.{begun_with}
use Rattle.simplex_engine.proofs.engine.begin.begin.Goals as goal

pub returns-clause-begun : goal.returns-clause-begun
returns-clause-begun g c = λ keys me term_length is.
    let company = c.args.company in
    begun_with g.D.Digest.bytes g.S.CertificateScheme.participants keys me term_length (with_a_retry c.args.options)
    company c.args.member.facts _ is refl
    (subst (λ options. IsPlanOf g.D.Digest.bytes company.term_length company.peers company.is_alone options
    c.args.member.facts c.in_ok-plan.plan)
    c.with_a_retry.ensures c.in_ok-plan.ensures.plan)
    (ap (λ member. member.facts) c.in_ok-core.ensures.member) c.zero.ensures refl

pub returns-in_err-core-clause-refused : goal.returns-in_err-core-clause-refused
returns-in_err-core-clause-refused g c =
    let p = err_from_is_err_and c.from_residual-in_err-core.result c.from_residual-in_err-core.ensures.1 in
    rw (p.1, p.2) refl

pub returns-clause-traced : goal.returns-clause-traced
returns-clause-traced g c =
    subst (λ m. BeginsTraced g.D.PartialEq.eq g.L.Elector.elect g.S.CertificateScheme.certificate_bytes m
    c.in_ok-core.core)
    (sym c.in_ok-core.ensures.member) c.in_ok-core.ensures.traced

pub returns-clause-signed : goal.returns-clause-signed
returns-clause-signed g c = subst (λ m. BeginsSigned g.S.Scheme.IsSignature m c.in_ok-core.core)
    (sym c.in_ok-core.ensures.member) c.in_ok-core.ensures.signed
