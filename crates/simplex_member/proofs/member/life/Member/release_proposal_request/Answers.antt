-- How the contract of `release_proposal_request` follows: the state clears the request by its definition, and nothing
-- is recorded.
use Rattle.std.proofs.Common.{ap, false, refl, sym}
use Rattle.simplex_record.specs.Entries.{entries_of}
use Rattle.simplex_member.specs.Calls.{ReleaseProposalRequest, Released}
use Rattle.simplex_member.specs.MemberFacts.{MemberFacts, living, open_while}
use Rattle.simplex_member.proofs.CallResults.{call_goes_on, answered_unrecorded}
use Rattle.simplex_member.proofs.member.life.Member.release_proposal_request.Goals as goal

pub invariant_of-self-2 : goal.invariant_of-self-2
invariant_of-self-2 g c =
    let kept = rw (sym c.deref_mut.ensures.value) at (c.self.invariant c.if-self.false) in
    λ _. call_goes_on g.D.PartialEq.eq g.L.Elector.elect c.deref_mut.result.now c.self.inside.outstanding_work.open_now
    (ReleaseProposalRequest c.args.view) c.release_proposal_request.new.self
    c.in_ok-release_proposal_request.ensures.after kept.0 kept.1

pub returns-clause-answered : goal.returns-clause-answered
returns-clause-answered g c =
    let kept = rw (sym c.deref_mut.ensures.value) at (c.self.invariant c.if-self.false) in
    let i = c.self.inside in
    let x = c.deref_mut.result.now in
    let m : MemberFacts _ _ _ = record {
      life = living false x;
      outstanding_work = open_while false i.outstanding_work.open_now;
      entries = entries_of g.S.CertificateScheme.certificate_bytes i.artifacts.items;
      closed = i.closed;
      is_pruned = i.is_pruned;
      retention = i.retention;
      least_retention = i.least_retention;
    } in
    rw (← c.self.view_is, c.if-self.false, ← c.deref_mut.ensures.value)
    (answered_unrecorded g.D.PartialEq.eq g.L.Elector.elect m (ReleaseProposalRequest c.args.view) x refl (_)
    c.release_proposal_request.new.self c.close_context.new.self.open_now refl (rw kept.0 refl)
    (ap Released c.has_context-was_open.ensures) c.in_ok-release_proposal_request.ensures.after
    c.close_context.ensures.closed refl)
