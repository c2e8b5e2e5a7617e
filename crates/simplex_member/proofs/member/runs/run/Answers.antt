-- How the contract of `run` follows: the started member takes the steps, or the run ends at the first restart that is
-- refused.
use Rattle.std.proofs.Common.{map, refl}
use Rattle.std.proofs.lemmas.Result.{err_from_is_err_and, IfOk-weaker, IfErr-weaker}
use Rattle.simplex_member.specs.Calls.{reply_facts}
use Rattle.simplex_member.specs.Runs.{steps_of}
use Rattle.simplex_record.specs.Start.{start_facts}
use Rattle.simplex_member.proofs.Runs.{run_from, ends_later, ends_at_once}
use Rattle.simplex_member.proofs.member.runs.run.Goals as goal

pub returns-in_err-member-clause-ended : goal.returns-in_err-member-clause-ended
returns-in_err-member-clause-ended g c =
    let bytes_of = g.S.CertificateScheme.certificate_bytes in
    let start = start_facts g.S.CertificateScheme.me g.S.CertificateScheme.participants g.L.Elector.terms
    g.L.Elector.elects_early bytes_of c.args.start in
    let steps = steps_of g.S.CertificateScheme.me g.S.CertificateScheme.participants g.L.Elector.terms
    g.L.Elector.elects_early bytes_of c.args.steps.items in
    let p = err_from_is_err_and c.from_residual.result c.from_residual.ensures.1 in
    rw (p.1, p.2) (ends_at_once g.D.PartialEq.eq g.L.Elector.elect start steps _ c.in_err-member.field-0.0 refl
    c.in_err-member.ensures.refused)

pub returns-clause-whole : goal.returns-clause-whole
returns-clause-whole g c =
    let bytes_of = g.S.CertificateScheme.certificate_bytes in
    let start = start_facts g.S.CertificateScheme.me g.S.CertificateScheme.participants g.L.Elector.terms
    g.L.Elector.elects_early bytes_of c.args.start in
    let steps = steps_of g.S.CertificateScheme.me g.S.CertificateScheme.participants g.L.Elector.terms
    g.L.Elector.elects_early bytes_of c.args.steps.items in
    IfOk-weaker c.take_steps.result _ _
    (λ replies is. run_from g.D.PartialEq.eq g.L.Elector.elect start steps c.in_ok-member.member.facts
    (map (reply_facts bytes_of) replies.items) c.take_steps.new.member.facts c.in_ok-member.ensures.started
    c.in_ok-member.ensures.accepted is)
    c.take_steps.ensures.whole

pub returns-clause-ended : goal.returns-clause-ended
returns-clause-ended g c =
    let bytes_of = g.S.CertificateScheme.certificate_bytes in
    let start = start_facts g.S.CertificateScheme.me g.S.CertificateScheme.participants g.L.Elector.terms
    g.L.Elector.elects_early bytes_of c.args.start in
    let steps = steps_of g.S.CertificateScheme.me g.S.CertificateScheme.participants g.L.Elector.terms
    g.L.Elector.elects_early bytes_of c.args.steps.items in
    IfErr-weaker c.take_steps.result _ _
    (λ found is. ends_later g.D.PartialEq.eq g.L.Elector.elect start steps c.in_ok-member.member.facts found
    c.in_ok-member.ensures.started is)
    c.take_steps.ensures.ended
