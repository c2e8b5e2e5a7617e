-- How the contract of `broadcast_finalization` follows: the state hands the finalization out once, and nothing is
-- recorded.
use Rattle.std.proofs.Common.{ap, false, option_map, refl, sym, ◌∙◌}
use Rattle.std.proofs.lemmas.List.{append-nil}
use Rattle.std.proofs.lemmas.Result.{IfOk-weaker}
use Rattle.simplex_types.specs.Certificates.{certificate_facts}
use Rattle.simplex_member.proofs.ReturnedCertificates.{finalization_none_left, finalization_handed_once}
use Rattle.simplex_record.specs.Entries.{entries_of}
use Rattle.simplex_member.specs.Calls.{BroadcastFinalization, Returned}
use Rattle.simplex_member.specs.MemberFacts.{MemberFacts, living, open_while}
use Rattle.simplex_member.proofs.PartialFailures.{part_goes_on, part_made, ended_so, replied_answered, replied_kept, so_ok, same_on_err, kept_shut, on_answer}
use Rattle.simplex_member.proofs.member.life.Member.broadcast_finalization.Goals as goal

pub invariant_of-self : goal.invariant_of-self
invariant_of-self g c =
    let kept = rw (sym c.deref_mut.ensures.value) at (c.self.invariant c.if-self.false) in
    let i = c.self.inside in
    let x = c.deref_mut.result.now in
    let p = c.broadcast_finalization-made in
    λ alive. part_goes_on g.D.PartialEq.eq g.L.Elector.elect x i.outstanding_work.open_now
    (BroadcastFinalization c.args.view) p.result p.new.state p.ensures.after p.ensures.refused kept.0 kept.1
    (sym c.is_lost-self-inside.ensures ∙ alive)

pub returns-clause-made : goal.returns-clause-made
returns-clause-made g c =
    let kept = rw (sym c.deref_mut.ensures.value) at (c.self.invariant c.if-self.false) in
    let i = c.self.inside in
    let x = c.deref_mut.result.now in
    let p = c.broadcast_finalization-made in
    let m : MemberFacts _ _ _ = record {
      life = living false x;
      outstanding_work = open_while false i.outstanding_work.open_now;
      entries = entries_of g.S.CertificateScheme.certificate_bytes i.artifacts.items;
      closed = i.closed;
      is_pruned = i.is_pruned;
      retention = i.retention;
      least_retention = i.least_retention;
    } in
    rw (
      ← c.self.view_is,
      c.if-self.false,
      c.is_lost-self-inside.ensures,
      ended_so p.result c.map_err.result c.map_err.ensures.cases,
      ← c.deref_mut.ensures.value,
    )
    (part_made g.D.PartialEq.eq g.L.Elector.elect m (BroadcastFinalization c.args.view)
    (λ certificate. Returned (option_map (certificate_facts g.S.CertificateScheme.certificate_bytes) certificate)) x
    refl refl p.result p.new.state i.outstanding_work.open_now
    (entries_of g.S.CertificateScheme.certificate_bytes i.artifacts.items)
    (record {
      due = so_ok p.result (rw kept.0 refl);
      answer = IfOk-weaker p.result _ _ (λ certificate is. ap Returned is) p.ensures.answer;
      after = p.ensures.after;
      opened = so_ok p.result refl;
      recorded = so_ok p.result (sym (append-nil m.entries));
      refused = p.ensures.refused;
      kept_open = kept_shut i.outstanding_work.open_now p.result;
      same_record = same_on_err p.result refl;
    }))

pub returns-clause-answered : goal.returns-clause-answered
returns-clause-answered g c = replied_answered g.D.PartialEq.eq g.L.Elector.elect c.args.self.now.facts
    (BroadcastFinalization c.args.view) (λ certificate.
    Returned (option_map (certificate_facts g.S.CertificateScheme.certificate_bytes) certificate)) (λ t A is. is)
    c.map_err.result _ (returns-clause-made g c)

pub returns-clause-kept : goal.returns-clause-kept
returns-clause-kept g c = replied_kept g.D.PartialEq.eq g.L.Elector.elect c.args.self.now.facts
    (BroadcastFinalization c.args.view) (λ certificate.
    Returned (option_map (certificate_facts g.S.CertificateScheme.certificate_bytes) certificate)) c.map_err.result _
    (returns-clause-made g c)

pub returns-clause-none_left : goal.returns-clause-none_left
returns-clause-none_left g c =
    λ was. IfOk-weaker c.map_err.result _ _ (λ certificate is.
    finalization_handed_once g.D.PartialEq.eq g.L.Elector.elect c.args.self.now.facts _ c.args.view
    (certificate_facts g.S.CertificateScheme.certificate_bytes) certificate was is) (returns-clause-answered g c)

pub returns-clause-once : goal.returns-clause-once
returns-clause-once g c =
    on_answer c.map_err.result (λ certificate is.
    finalization_none_left g.D.PartialEq.eq g.L.Elector.elect c.args.self.now.facts _ c.args.view
    (option_map (certificate_facts g.S.CertificateScheme.certificate_bytes) certificate) is)
    (returns-clause-answered g c)
