-- How the contract of `of` follows: the first broken rule of the settings is the error, then the number of the
-- elector's members.
use Rattle.std.proofs.Common.{◌≡◌, sym, ap, ◌∙◌, List, length, ◌==◌}
use Rattle.simplex_types.specs.Config.{first_broken_rule}
use Rattle.simplex_record.specs.Settings.{skip_budget_of, start_by}
use Rattle.simplex_record.proofs.Settings.{with_budget, broken_replied, others_replied, start_replied}
use Rattle.simplex_record.proofs.record.start.Start.of.Goals as goal

pub returns-in-Err-clause-tested : goal.returns-in-Err-clause-tested
returns-in-Err-clause-tested g c =
    let x = c.args.config in
    let n = length (g.S.CertificateScheme.participants x.scheme) in
    broken_replied (start_by n x c.args.elector c.args.now) (first_broken_rule n (g.S.Scheme.accepts x.scheme) x)
    (g.L.Elector.members c.args.elector == n) c.in-Err.broken c.in-Err.ensures

pub returns-then-members-participants-clause-tested : goal.returns-then-members-participants-clause-tested
returns-then-members-participants-clause-tested g c =
    let x = c.args.config in
    let n = length (g.S.CertificateScheme.participants x.scheme) in
    others_replied (start_by n x c.args.elector c.args.now) (first_broken_rule n (g.S.Scheme.accepts x.scheme) x)
    (g.L.Elector.members c.args.elector) n c.in_default.field-0 c.in_default.ensures
    (λ is.
    c.if-members-participants.true (c.members.ensures ∙ is ∙ ap length (sym c.participants-participants.ensures)))

pub returns-clause-tested : goal.returns-clause-tested
returns-clause-tested g c =
    let x = c.args.config in
    let n = length (g.S.CertificateScheme.participants x.scheme) in
    let budget : c.skip_budget-skip_budget.result ≡ skip_budget_of x.skip n = c.skip_budget-skip_budget.ensures
    ∙ ap (λ (ps : List _). skip_budget_of x.skip (length ps)) c.participants-participants.ensures in
    start_replied (start_by n x c.args.elector c.args.now) (first_broken_rule n (g.S.Scheme.accepts x.scheme) x)
    (g.L.Elector.members c.args.elector) n c.in_default.field-0
    (with_budget x c.args.elector c.args.now c.skip_budget-skip_budget.result)
    c.in_default.ensures (sym c.members.ensures ∙ c.if-members-participants.false
    ∙ ap length c.participants-participants.ensures) (ap (with_budget x c.args.elector c.args.now) budget)

pub returns-clause-fits : goal.returns-clause-fits
returns-clause-fits g c = sym c.members.ensures ∙ c.if-members-participants.false
    ∙ ap length c.participants-participants.ensures
