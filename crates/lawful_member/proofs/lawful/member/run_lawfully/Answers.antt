-- from what `run` ensures
use Rattle.std.proofs.Common.{subst}
use Rattle.laws_safety.specs.MemberHistory.{execution_of}
use Rattle.laws_safety.specs.Lawful.{IsLawful}
use Rattle.laws_safety.proofs.agreement.Exactly.{run_exact}
use Rattle.laws_safety.proofs.executions.ExecutionSteps.{if_ok_on}
use Rattle.laws_safety.proofs.records.RunsLawful.{execution_lawful}
use Rattle.laws_safety.proofs.executions.Shown.{execution_shown, lives_as}
use Rattle.lawful_member.proofs.lawful.member.run_lawfully.Goals as goal

pub returns-clause-exact : goal.returns-clause-exact
returns-clause-exact g c = if_ok_on c.run.result
    (λ replies run. run_exact g.D.PartialEq.eq g.L.Elector.elect
    (execution_of g.S.CertificateScheme.me g.S.CertificateScheme.participants g.L.Elector.terms g.L.Elector.elects_early
    g.S.CertificateScheme.certificate_bytes c.args.start c.args.steps.items replies.items) run) c.run.ensures.whole

pub returns-clause-ran : goal.returns-clause-ran
returns-clause-ran g c = if_ok_on c.run.result
    (λ replies run term_length i holds. record {
      lives = lives_as g.S.CertificateScheme.me g.S.CertificateScheme.participants g.L.Elector.terms
          g.L.Elector.elects_early g.S.CertificateScheme.certificate_bytes term_length i c.args.start c.args.steps.items
          holds;
      run = run;
    }) c.run.ensures.whole

pub returns-clause-shows : goal.returns-clause-shows
returns-clause-shows g c = if_ok_on c.run.result
    (λ replies run. execution_shown g.S.CertificateScheme.me g.S.CertificateScheme.participants g.L.Elector.terms
    g.L.Elector.elects_early g.S.CertificateScheme.certificate_bytes c.args.start c.args.steps.items replies.items)
    c.run.ensures.whole

pub returns-clause-lawful : goal.returns-clause-lawful
returns-clause-lawful g c = if_ok_on c.run.result
    (λ replies run term_length i holds. subst (IsLawful term_length)
    (execution_shown g.S.CertificateScheme.me g.S.CertificateScheme.participants g.L.Elector.terms
    g.L.Elector.elects_early g.S.CertificateScheme.certificate_bytes c.args.start c.args.steps.items replies.items)
    (execution_lawful g.D.PartialEq.eq g.met.D.Digest.equal_is_same g.L.Elector.elect term_length i
    (execution_of g.S.CertificateScheme.me g.S.CertificateScheme.participants g.L.Elector.terms g.L.Elector.elects_early
    g.S.CertificateScheme.certificate_bytes c.args.start c.args.steps.items replies.items)
    (record {
      lives = lives_as g.S.CertificateScheme.me g.S.CertificateScheme.participants g.L.Elector.terms
          g.L.Elector.elects_early g.S.CertificateScheme.certificate_bytes term_length i c.args.start c.args.steps.items
          holds;
      run = run;
    }))) c.run.ensures.whole

pub returns-clause-ended : goal.returns-clause-ended
returns-clause-ended g c = c.run.ensures.ended
