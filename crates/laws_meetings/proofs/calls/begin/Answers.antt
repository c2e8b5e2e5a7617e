-- from the clauses of `Engine::start`
use Rattle.simplex_record.specs.Start.{setup_of}
use Rattle.laws_meetings.proofs.CallClauses.{all_ok, both_ok}
use Rattle.laws_meetings.proofs.Fresh.{started_fresh}
use Rattle.laws_meetings.proofs.calls.begin.Goals as goal

pub returns-clause-begun : goal.returns-clause-begun
returns-clause-begun g c =
    all_ok c.start.result c.start.ensures.kept c.start.ensures.due_work c.start.ensures.begun
    (λ engine kept reported begun. record { kept = kept; reported = reported; unsettled = begun.settled_at })

pub returns-clause-fresh : goal.returns-clause-fresh
returns-clause-fresh g c payload genesis =
    both_ok c.start.result c.start.ensures.started c.start.ensures.started
    (λ engine started again. started_fresh g.D.PartialEq.eq g.met.D.Digest.equal_is_same g.L.Elector.elect
    (setup_of g.S.CertificateScheme.me g.S.CertificateScheme.participants g.L.Elector.terms g.L.Elector.elects_early
    c.args.start.settings) c.args.start.now engine.core.member.facts _ payload started genesis)
