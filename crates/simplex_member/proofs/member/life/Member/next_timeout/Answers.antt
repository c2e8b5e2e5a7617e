-- How the contract of `next_timeout` follows: the state's poll is the member's result, and a refusal keeps the state as
-- it was.
use Rattle.std.proofs.Common.{false, refl, sym, ap, ◌∙◌, Some}
use Rattle.simplex_record.specs.Entries.{entries_of}
use Rattle.simplex_member.specs.Calls.{NextTimeout, TimesOut}
use Rattle.simplex_member.specs.MemberFacts.{MemberFacts, living, open_while}
use Rattle.simplex_member.proofs.CallResults.{call_goes_on, call_of_answer, answered_unrecorded, refused_call, refused_only, answered_only}
use Rattle.simplex_member.proofs.PartialFailures.{replied_answered, replied_kept}
use Rattle.simplex_member.proofs.member.life.Member.next_timeout.Goals.{in-Ok, in-Err}
use Rattle.simplex_member.proofs.member.life.Member.next_timeout.Goals as goal

pub invariant_of-self : goal.invariant_of-self
invariant_of-self g c =
    let kept = rw (sym c.deref_mut.ensures.value) at (c.self.invariant c.if-self.false) in
    let x = c.deref_mut.result.now in
    elim c.match-next_timeout.branch [
      | in-Ok w ↦ λ _. call_goes_on g.D.PartialEq.eq g.L.Elector.elect x c.self.inside.outstanding_work.open_now
          (NextTimeout c.args.now) c.next_timeout.new.self w.in-Ok.ensures.after kept.0 kept.1
      | in-Err w ↦ λ _. rw (refused_only _ w.in-Err.fault _ x c.next_timeout.new.self refl w.in-Err.ensures.refused
          w.in-Err.ensures.taken).1 kept
    ]

pub returns-clause-made : goal.returns-clause-made
returns-clause-made g c =
    let kept = rw (sym c.deref_mut.ensures.value) at (c.self.invariant c.if-self.false) in
    let i = c.self.inside in
    let x = c.deref_mut.result.now in
    let m : MemberFacts _ _ _ = record {
      life = living false x;
      outstanding_work = open_while false i.outstanding_work.open_now;
      entries = entries_of g.S.CertificateScheme.certificate_bytes i.artifacts.items;
      closed = i.closed;
      is_pruned = i.is_pruned;
      retention = i.retention;
      least_retention = i.least_retention;
    } in
    let allowed = rw (c.deref.ensures ∙ sym c.deref_mut.ensures.value) at
    (sym c.has_timeout.ensures ∙ c.if-not-has_timeout.false) in
    rw (← c.self.view_is, c.if-self.false, ← c.deref_mut.ensures.value)
    (elim c.match-next_timeout.branch [
      | in-Ok w ↦ rw w.result-is (call_of_answer g.D.PartialEq.eq g.L.Elector.elect m (NextTimeout c.args.now) _ _
          (answered_unrecorded g.D.PartialEq.eq g.L.Elector.elect m (NextTimeout c.args.now) x refl _
          c.next_timeout.new.self i.outstanding_work.open_now allowed
          (answered_only _ w.in-Ok.timeout _ x c.next_timeout.new.self refl w.in-Ok.ensures.refused)
          (ap TimesOut (sym w.in-Ok.ensures.answer)) w.in-Ok.ensures.after refl refl))
      | in-Err w ↦ let due = refused_only _ w.in-Err.fault _ x c.next_timeout.new.self refl w.in-Err.ensures.refused
          w.in-Err.ensures.taken in
          rw (w.result-is, due.1) (refused_call g.D.PartialEq.eq g.L.Elector.elect m (NextTimeout c.args.now) x refl
          w.in-Err.fault allowed due.0)
    ])

pub returns-clause-answered : goal.returns-clause-answered
returns-clause-answered g c = replied_answered g.D.PartialEq.eq g.L.Elector.elect c.args.self.now.facts
    (NextTimeout c.args.now) (λ timeout. TimesOut (Some timeout)) (λ t A is. is) c.match-next_timeout.result _
    (returns-clause-made g c)

pub returns-clause-kept : goal.returns-clause-kept
returns-clause-kept g c = replied_kept g.D.PartialEq.eq g.L.Elector.elect c.args.self.now.facts (NextTimeout c.args.now)
    (λ timeout. TimesOut (Some timeout)) c.match-next_timeout.result _ (returns-clause-made g c)
