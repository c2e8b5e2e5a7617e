-- How the contract of `certified` follows: the first verdict of a tracked view is recorded, a later one or one of an
-- untracked view is not.
use Rattle.std.proofs.Common.{ap, false, option_map, refl, sym, ◌∙◌}
use Rattle.std.proofs.lemmas.Result.{IfOk-weaker, err_from_is_err_and}
use Rattle.simplex_types.specs.Certificates.{notarization_facts}
use Rattle.simplex_record.specs.Entries.{entries_of}
use Rattle.simplex_member.specs.Calls.{Certified, Judged}
use Rattle.simplex_member.specs.MemberFacts.{MemberFacts, living, open_while}
use Rattle.simplex_member.proofs.CallResults.{wanting_call}
use Rattle.simplex_member.proofs.PartialFailures.{part_goes_on, part_made, ended_so, replied_answered, replied_kept}
use Rattle.simplex_member.proofs.member.life.Member.certified.Goals as goal

pub invariant_of-self-2 : goal.invariant_of-self-2
invariant_of-self-2 g c =
    let kept = rw (sym c.deref_mut.ensures.value) at (c.self.invariant c.if-self.false) in
    let i = c.self.inside in
    let x = c.deref_mut.result.now in
    let p = c.certified-made in
    λ alive. part_goes_on g.D.PartialEq.eq g.L.Elector.elect x i.outstanding_work.open_now
    (Certified c.args.view c.args.success c.args.now) p.result p.new.state p.ensures.after p.ensures.refused kept.0
    kept.1 (sym c.is_lost-self-inside.ensures ∙ alive)

pub returns-in_err-reserve-clause-made : goal.returns-in_err-reserve-clause-made
returns-in_err-reserve-clause-made g c =
    let i = c.self.inside in
    let x = c.deref.result.now in
    let m : MemberFacts _ _ _ = record {
      life = living false x;
      outstanding_work = open_while false i.outstanding_work.open_now;
      entries = entries_of g.S.CertificateScheme.certificate_bytes i.artifacts.items;
      closed = i.closed;
      is_pruned = i.is_pruned;
      retention = i.retention;
      least_retention = i.least_retention;
    } in
    let refused = err_from_is_err_and c.from_residual.result c.from_residual.ensures.1 in
    rw (← c.self.view_is, c.if-self.false, refused.1, refused.2, c.reserve.ensures.items, ← c.deref.ensures)
    (wanting_call g.D.PartialEq.eq g.L.Elector.elect m (Certified c.args.view c.args.success c.args.now) x refl
    (sym c.takes_verdict.ensures ∙ c.if-not-takes_verdict.false) refl)

pub returns-clause-made : goal.returns-clause-made
returns-clause-made g c =
    let kept = rw (sym c.deref_mut.ensures.value) at (c.self.invariant c.if-self.false) in
    let i = c.self.inside in
    let x = c.deref_mut.result.now in
    let p = c.certified-made in
    let m : MemberFacts _ _ _ = record {
      life = living false x;
      outstanding_work = open_while false i.outstanding_work.open_now;
      entries = entries_of g.S.CertificateScheme.certificate_bytes i.artifacts.items;
      closed = i.closed;
      is_pruned = i.is_pruned;
      retention = i.retention;
      least_retention = i.least_retention;
    } in
    rw (
      ← c.self.view_is,
      c.if-self.false,
      c.is_lost-self-inside.ensures,
      ended_so p.result c.map_err.result c.map_err.ensures.cases,
      ← c.deref_mut.ensures.value,
    )
    (part_made g.D.PartialEq.eq g.L.Elector.elect m (Certified c.args.view c.args.success c.args.now)
    (λ notarization. Judged c.args.success (option_map (notarization_facts g.S.CertificateScheme.certificate_bytes)
    notarization)) x refl (rw (c.deref.ensures ∙ sym c.deref_mut.ensures.value) at
    (sym c.takes_verdict.ensures ∙ c.if-not-takes_verdict.false)) p.result p.new.state
    p.new.outstanding_work.open_now (entries_of g.S.CertificateScheme.certificate_bytes p.new.artifacts.items)
    (record {
      due = p.ensures.due;
      answer = IfOk-weaker p.result _ _ (λ notarization is. ap (Judged c.args.success) is) p.ensures.answer;
      after = p.ensures.after;
      opened = p.ensures.closed;
      recorded = rw c.reserve.ensures.items at p.ensures.recorded;
      refused = p.ensures.refused;
      kept_open = p.ensures.kept_open;
      same_record = rw c.reserve.ensures.items at p.ensures.same_record;
    }))

pub returns-clause-answered : goal.returns-clause-answered
returns-clause-answered g c = replied_answered g.D.PartialEq.eq g.L.Elector.elect c.args.self.now.facts
    (Certified c.args.view c.args.success c.args.now)
    (λ notarization. Judged c.args.success (option_map (notarization_facts g.S.CertificateScheme.certificate_bytes)
    notarization)) (λ t A is. is) c.map_err.result _ (returns-clause-made g c)

pub returns-clause-kept : goal.returns-clause-kept
returns-clause-kept g c = replied_kept g.D.PartialEq.eq g.L.Elector.elect c.args.self.now.facts
    (Certified c.args.view c.args.success c.args.now)
    (λ notarization. Judged c.args.success (option_map (notarization_facts g.S.CertificateScheme.certificate_bytes)
    notarization)) c.map_err.result _ (returns-clause-made g c)
