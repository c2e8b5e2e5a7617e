-- How the contract of `try_propose` follows: there is room for the request before the state is called, so the one that
-- it asks for is open after it.
use Rattle.std.proofs.Common.{ap, false, refl, sym}
use Rattle.simplex_record.specs.Entries.{entries_of}
use Rattle.simplex_member.specs.Calls.{TryPropose, Requested}
use Rattle.simplex_member.specs.MemberFacts.{MemberFacts, living, open_while}
use Rattle.simplex_member.proofs.CallResults.{call_goes_on, answered_unrecorded, call_of_answer}
use Rattle.simplex_member.proofs.member.life.Member.try_propose.Goals as goal

pub invariant_of-self-2 : goal.invariant_of-self-2
invariant_of-self-2 g c =
    let kept = rw (sym c.deref_mut.ensures.value) at (c.self.invariant c.if-self.false) in
    λ _. call_goes_on g.D.PartialEq.eq g.L.Elector.elect c.deref_mut.result.now c.make_room.new.self.open_now TryPropose
    c.try_propose.new.self c.in_ok-request.ensures.after kept.0 kept.1

pub returns-clause-answered : goal.returns-clause-answered
returns-clause-answered g c =
    let kept = rw (sym c.deref_mut.ensures.value) at (c.self.invariant c.if-self.false) in
    let i = c.self.inside in
    let x = c.deref_mut.result.now in
    let o = c.make_room.new.self.open_now in
    let m : MemberFacts _ _ _ = record {
      life = living false x;
      outstanding_work = open_while false o;
      entries = entries_of g.S.CertificateScheme.certificate_bytes i.artifacts.items;
      closed = i.closed;
      is_pruned = i.is_pruned;
      retention = i.retention;
      least_retention = i.least_retention;
    } in
    rw (← c.self.view_is, c.if-self.false, sym c.make_room.ensures.same, ← c.deref_mut.ensures.value)
    (answered_unrecorded g.D.PartialEq.eq g.L.Elector.elect m TryPropose x refl (_) c.try_propose.new.self
    c.open_request.new.self.open_now refl (rw kept.0 refl) (ap Requested c.in_ok-request.ensures.answer)
    c.in_ok-request.ensures.after (rw (sym c.in_ok-request.ensures.answer) c.open_request.ensures) refl)

pub returns-clause-made : goal.returns-clause-made
returns-clause-made g c = call_of_answer g.D.PartialEq.eq g.L.Elector.elect c.args.self.now.facts TryPropose _ _
    (returns-clause-answered g c)
