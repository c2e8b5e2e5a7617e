-- How the contract of `may_drop` follows: where each entry is closed none may be dropped, else the last one decides.
use Rattle.std.proofs.Common.{rules, ap, not, ◌∙◌, sym}
use Rattle.simplex_record.proofs.Cuts.{all_closed, last_open}
use Rattle.simplex_record.proofs.record.cuts.may_drop.Goals as goal

pub returns-then-entries-closed-clause-answer : goal.returns-then-entries-closed-clause-answer
returns-then-entries-closed-clause-answer g c =
    all_closed g.S.CertificateScheme.certificate_bytes c.args.closed c.args.entries.now (search rules)

pub returns-in-Some-clause-answer : goal.returns-in-Some-clause-answer
returns-in-Some-clause-answer g c =
    ap not c.is_vote.ensures
    ∙ last_open g.S.CertificateScheme.certificate_bytes c.args.closed c.args.entries.now c.in-Some.last.now
    (search rules) (sym c.in-Some.ensures.value)
