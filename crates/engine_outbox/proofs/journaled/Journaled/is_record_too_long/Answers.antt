-- How the contract of `is_record_too_long` follows: a record that is not overgrown is short.
use Rattle.std.proofs.Common.{◌∙◌, ◌&&◌, nat_lt, length, ap, sym}
use Rattle.engine_outbox.specs.RecordReach.{is_far_below, lowest_retained_after}
use Rattle.engine_outbox.proofs.Kept.{counted}
use Rattle.engine_outbox.proofs.RecordLimit.{passes, fails, overgrown_by, short_where}
use Rattle.engine_outbox.proofs.journaled.Journaled.is_record_too_long.Goals as goal

pub returns-then-long-record-clause-overgrown : goal.returns-then-long-record-clause-overgrown
returns-then-long-record-clause-overgrown g c =
    let it = c.args.self.now in
    let x = c.in-Some.state.now in
    let same_length = counted g.S.CertificateScheme.certificate_bytes c.record.result.now it.member.facts.entries
    c.record.ensures.entries in
    c.reaches_far_below.ensures
    ∙ sym (ap (λ b. b && is_far_below it.reach (lowest_retained_after it.member.facts x) x.current)
    (ap (nat_lt c.args.long) same_length ∙ passes c.args.long (length c.record.result.now) c.if-long-record.true))
    ∙ overgrown_by c.args.long it x c.in-Some.ensures.life

pub returns-then-long-record-clause-short : goal.returns-then-long-record-clause-short
returns-then-long-record-clause-short g c =
    λ is. short_where c.args.long c.args.self.now (sym (returns-then-long-record-clause-overgrown g c) ∙ is)

pub returns-else-long-record-clause-overgrown : goal.returns-else-long-record-clause-overgrown
returns-else-long-record-clause-overgrown g c =
    let it = c.args.self.now in
    let x = c.in-Some.state.now in
    let same_length = counted g.S.CertificateScheme.certificate_bytes c.record.result.now it.member.facts.entries
    c.record.ensures.entries in
    let is = fails c.args.long (length c.record.result.now) c.if-long-record.false in
    is
    ∙ sym (ap (λ b. b && is_far_below it.reach (lowest_retained_after it.member.facts x) x.current)
    (ap (nat_lt c.args.long) same_length ∙ is))
    ∙ overgrown_by c.args.long it x c.in-Some.ensures.life

pub returns-else-long-record-clause-short : goal.returns-else-long-record-clause-short
returns-else-long-record-clause-short g c =
    λ is. short_where c.args.long c.args.self.now (sym (returns-else-long-record-clause-overgrown g c) ∙ is)
