-- How the contract of `verified` follows: the state marks the proposal by its definition, and the verification is
-- closed.
use Rattle.std.proofs.Common.{ap, false, refl, sym, ◌∙◌}
use Rattle.simplex_record.specs.Entries.{entries_of}
use Rattle.simplex_member.specs.Calls.{Verified, Answered}
use Rattle.simplex_member.specs.MemberFacts.{MemberFacts, living, open_while}
use Rattle.simplex_member.proofs.CallResults.{call_goes_on, answered_unrecorded}
use Rattle.simplex_member.proofs.member.life.Member.verified.Goals as goal

pub invariant_of-self-2 : goal.invariant_of-self-2
invariant_of-self-2 g c =
    let kept = rw (sym c.deref_mut.ensures.value) at (c.self.invariant c.if-self.false) in
    λ _. call_goes_on g.D.PartialEq.eq g.L.Elector.elect c.deref_mut.result.now c.self.inside.outstanding_work.open_now
    (Verified c.args.view) c.verified.new.self c.in_ok-is_marked.ensures.after kept.0 kept.1

pub returns-clause-answered : goal.returns-clause-answered
returns-clause-answered g c =
    let kept = rw (sym c.deref_mut.ensures.value) at (c.self.invariant c.if-self.false) in
    let i = c.self.inside in
    let x = c.deref_mut.result.now in
    let m : MemberFacts _ _ _ = record {
      life = living false x;
      outstanding_work = open_while false i.outstanding_work.open_now;
      entries = entries_of g.S.CertificateScheme.certificate_bytes i.artifacts.items;
      closed = i.closed;
      is_pruned = i.is_pruned;
      retention = i.retention;
      least_retention = i.least_retention;
    } in
    rw (← c.self.view_is, c.if-self.false, ← c.deref_mut.ensures.value)
    (answered_unrecorded g.D.PartialEq.eq g.L.Elector.elect m (Verified c.args.view) x refl (_) c.verified.new.self
    c.close_verification.new.self.open_now (sym c.is_verifying.ensures ∙ c.if-not-is_verifying.false)
    (rw kept.0 refl) (ap Answered c.in_ok-is_marked.ensures.answer) c.in_ok-is_marked.ensures.after
    c.close_verification.ensures.closed refl)
