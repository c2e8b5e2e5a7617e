-- How the contract of `record_since` follows: the later entries are read from the smaller of the count and the record's
-- length.
use Rattle.std.proofs.Common.{rules}
use Rattle.simplex_member.proofs.Journal.{entries_since, votes_left_behind}
use Rattle.simplex_member.proofs.member.life.Member.record_since.Goals as goal

pub returns-clause-entries : goal.returns-clause-entries
returns-clause-entries g c =
    rw (← c.self.view_is, ← c.deref.ensures.value)
    (entries_since g.S.CertificateScheme.certificate_bytes c.deref.result.now c.args.count c.min-first.result
    (search rules))

pub returns-clause-votes : goal.returns-clause-votes
returns-clause-votes g c =
    rw (← c.self.view_is, ← c.deref.ensures.value)
    (votes_left_behind g.S.CertificateScheme.certificate_bytes c.deref.result.now c.args.count c.min-first.result
    (search rules))
