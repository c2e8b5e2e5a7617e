-- How the contract of `supersede_proposal_request` follows: a request that is superseded is closed, and another one
-- stays as it was.
use Rattle.std.proofs.Common.{ap, false, refl, sym}
use Rattle.simplex_record.specs.Entries.{entries_of}
use Rattle.simplex_member.specs.Calls.{SupersedeProposalRequest, Answered}
use Rattle.simplex_member.specs.MemberFacts.{MemberFacts, living, open_while}
use Rattle.simplex_member.proofs.CallResults.{call_goes_on, answered_unrecorded}
use Rattle.simplex_member.proofs.member.life.Member.supersede_proposal_request.Goals as goal

pub invariant_of-self-then-is_superseded : goal.invariant_of-self-then-is_superseded
invariant_of-self-then-is_superseded g c =
    let kept = rw (sym c.deref_mut.ensures.value) at (c.self.invariant c.if-self.false) in
    λ _. call_goes_on g.D.PartialEq.eq g.L.Elector.elect c.deref_mut.result.now c.self.inside.outstanding_work.open_now
    (SupersedeProposalRequest c.args.view) c.supersede_proposal_request.new.self
    (rw (sym c.in-Some.ensures) c.in_ok-is_superseded.ensures.after) kept.0 kept.1

pub returns-then-is_superseded-clause-answered : goal.returns-then-is_superseded-clause-answered
returns-then-is_superseded-clause-answered g c =
    let kept = rw (sym c.deref_mut.ensures.value) at (c.self.invariant c.if-self.false) in
    let i = c.self.inside in
    let x = c.deref_mut.result.now in
    let m : MemberFacts _ _ _ = record {
      life = living false x;
      outstanding_work = open_while false i.outstanding_work.open_now;
      entries = entries_of g.S.CertificateScheme.certificate_bytes i.artifacts.items;
      closed = i.closed;
      is_pruned = i.is_pruned;
      retention = i.retention;
      least_retention = i.least_retention;
    } in
    rw (← c.self.view_is, c.if-self.false, ← c.deref_mut.ensures.value)
    (answered_unrecorded g.D.PartialEq.eq g.L.Elector.elect m (SupersedeProposalRequest c.args.view) x refl (_)
    c.supersede_proposal_request.new.self c.close_context.new.self.open_now (rw (sym c.in-Some.ensures) refl)
    (rw kept.0 refl) (rw (sym c.in-Some.ensures) (ap Answered c.in_ok-is_superseded.ensures.answer))
    (rw (sym c.in-Some.ensures) c.in_ok-is_superseded.ensures.after)
    (rw (sym c.in-Some.ensures, sym c.in_ok-is_superseded.ensures.answer, c.if-is_superseded.true)
    c.close_context.ensures.closed) refl)

pub returns-else-is_superseded-clause-answered : goal.returns-else-is_superseded-clause-answered
returns-else-is_superseded-clause-answered g c =
    let kept = rw (sym c.deref_mut.ensures.value) at (c.self.invariant c.if-self.false) in
    let i = c.self.inside in
    let x = c.deref_mut.result.now in
    let m : MemberFacts _ _ _ = record {
      life = living false x;
      outstanding_work = open_while false i.outstanding_work.open_now;
      entries = entries_of g.S.CertificateScheme.certificate_bytes i.artifacts.items;
      closed = i.closed;
      is_pruned = i.is_pruned;
      retention = i.retention;
      least_retention = i.least_retention;
    } in
    rw (← c.self.view_is, c.if-self.false, ← c.deref_mut.ensures.value)
    (answered_unrecorded g.D.PartialEq.eq g.L.Elector.elect m (SupersedeProposalRequest c.args.view) x refl (_)
    c.supersede_proposal_request.new.self i.outstanding_work.open_now (rw (sym c.in-Some.ensures) refl)
    (rw kept.0 refl) (rw (sym c.in-Some.ensures) (ap Answered c.in_ok-is_superseded.ensures.answer))
    (rw (sym c.in-Some.ensures) c.in_ok-is_superseded.ensures.after)
    (rw (sym c.in-Some.ensures, sym c.in_ok-is_superseded.ensures.answer, c.if-is_superseded.false) refl) refl)
