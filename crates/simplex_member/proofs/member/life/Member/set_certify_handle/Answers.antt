-- How the contract of `set_certify_handle` follows: the state notes the token by its definition, and nothing is
-- recorded.
use Rattle.std.proofs.Common.{false, refl, sym, ◌∙◌}
use Rattle.simplex_record.specs.Entries.{entries_of}
use Rattle.simplex_member.specs.Calls.{SetCertifyHandle}
use Rattle.simplex_member.specs.MemberFacts.{MemberFacts, living, open_while}
use Rattle.simplex_member.proofs.CallResults.{call_goes_on, answered_unrecorded, call_of_answer}
use Rattle.simplex_member.proofs.member.life.Member.set_certify_handle.Goals as goal

pub invariant_of-self-2 : goal.invariant_of-self-2
invariant_of-self-2 g c =
    let kept = rw (sym c.deref_mut.ensures.value) at (c.self.invariant c.if-self.false) in
    λ _. call_goes_on g.D.PartialEq.eq g.L.Elector.elect c.deref_mut.result.now c.self.inside.outstanding_work.open_now
    (SetCertifyHandle c.args.view c.args.token) c.set_certify_handle.new.self
    c.in_ok-set_certify_handle.ensures.after kept.0 kept.1

pub returns-clause-answered : goal.returns-clause-answered
returns-clause-answered g c =
    let kept = rw (sym c.deref_mut.ensures.value) at (c.self.invariant c.if-self.false) in
    let i = c.self.inside in
    let x = c.deref_mut.result.now in
    let m : MemberFacts _ _ _ = record {
      life = living false x;
      outstanding_work = open_while false i.outstanding_work.open_now;
      entries = entries_of g.S.CertificateScheme.certificate_bytes i.artifacts.items;
      closed = i.closed;
      is_pruned = i.is_pruned;
      retention = i.retention;
      least_retention = i.least_retention;
    } in
    rw (← c.self.view_is, c.if-self.false, ← c.deref_mut.ensures.value)
    (answered_unrecorded g.D.PartialEq.eq g.L.Elector.elect m (SetCertifyHandle c.args.view c.args.token) x refl (_)
    c.set_certify_handle.new.self i.outstanding_work.open_now
    (rw (sym c.is_offered.ensures ∙ c.if-not-is_offered.false)
    (rw (c.deref.ensures ∙ sym c.deref_mut.ensures.value) at
    (sym c.takes_certify_handle.ensures ∙ c.if-not-takes_certify_handle.false))) (rw kept.0 refl) refl
    c.in_ok-set_certify_handle.ensures.after refl refl)

pub returns-clause-made : goal.returns-clause-made
returns-clause-made g c = call_of_answer g.D.PartialEq.eq g.L.Elector.elect c.args.self.now.facts
    (SetCertifyHandle c.args.view c.args.token) _ _ (returns-clause-answered g c)
