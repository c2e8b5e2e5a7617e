-- How the contract of `get_best_certificate` follows: the state's answer is the member's, and nothing is recorded.
use Rattle.std.proofs.Common.{ap, false, refl, sym}
use Rattle.simplex_record.specs.Entries.{entries_of}
use Rattle.simplex_member.specs.Calls.{GetBestCertificate, Returned}
use Rattle.simplex_member.specs.MemberFacts.{MemberFacts, living, open_while}
use Rattle.simplex_member.proofs.CallResults.{answered_unrecorded}
use Rattle.simplex_member.proofs.member.life.Member.get_best_certificate.Goals as goal

pub returns-clause-answered : goal.returns-clause-answered
returns-clause-answered g c =
    let kept = rw (sym c.deref.ensures) at (c.self.invariant c.if-self.false) in
    let i = c.self.inside in
    let x = c.deref.result.now in
    let m : MemberFacts _ _ _ = record {
      life = living false x;
      outstanding_work = open_while false i.outstanding_work.open_now;
      entries = entries_of g.S.CertificateScheme.certificate_bytes i.artifacts.items;
      closed = i.closed;
      is_pruned = i.is_pruned;
      retention = i.retention;
      least_retention = i.least_retention;
    } in
    rw (← c.self.view_is, c.if-self.false, ← c.deref.ensures)
    (answered_unrecorded g.D.PartialEq.eq g.L.Elector.elect m GetBestCertificate x refl (_) x
    i.outstanding_work.open_now refl (rw kept.0 refl) (ap Returned c.in_ok-get_best_certificate.ensures.answer) refl
    refl refl)
