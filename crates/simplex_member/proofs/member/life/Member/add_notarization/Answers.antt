-- How the contract of `add_notarization` follows: a new notarization is recorded after the other entries, and a refusal
-- changes nothing.
use Rattle.std.proofs.Common.{ap, false, refl, sym, ◌∙◌}
use Rattle.std.proofs.lemmas.Result.{IfOk-weaker, err_from_is_err_and}
use Rattle.simplex_types.specs.Certificates.{notarization_facts, Accepted, Notarized}
use Rattle.simplex_voter.specs.Refusals.{names_too_large}
use Rattle.simplex_record.specs.Entries.{entries_of}
use Rattle.simplex_member.specs.Calls.{Added, AddNotarization}
use Rattle.simplex_member.specs.MemberFacts.{MemberFacts, living, open_while}
use Rattle.simplex_member.proofs.CallResults.{wanting_call}
use Rattle.simplex_member.proofs.PartialFailures.{part_goes_on, part_of_state, part_made, ended_so, new_recorded, state_ends, replied_answered, replied_kept}
use Rattle.simplex_member.proofs.member.life.Member.add_notarization.Goals as goal

pub invariant_of-self-2 : goal.invariant_of-self-2
invariant_of-self-2 g c =
    let kept = rw (sym c.deref_mut.ensures.value) at (c.self.invariant c.if-self.false) in
    let x = c.deref_mut.result.now in
    let p = c.add_notarization-made in
    λ alive. part_goes_on g.D.PartialEq.eq g.L.Elector.elect x c.self.inside.outstanding_work.open_now
    (AddNotarization (notarization_facts g.S.CertificateScheme.certificate_bytes c.args.notarization)) p.result
    p.new.self p.ensures.after (state_ends x p.new.self p.result x.failed
    (names_too_large c.args.notarization.proposal) false p.ensures.refused p.ensures.out_of_memory) kept.0 kept.1
    (sym c.is_lost-self-inside.ensures ∙ alive)

pub returns-in_err-copy-clause-made : goal.returns-in_err-copy-clause-made
returns-in_err-copy-clause-made g c =
    let i = c.self.inside in
    let x = c.deref.result.now in
    let m : MemberFacts _ _ _ = record {
      life = living false x;
      outstanding_work = open_while false i.outstanding_work.open_now;
      entries = entries_of g.S.CertificateScheme.certificate_bytes i.artifacts.items;
      closed = i.closed;
      is_pruned = i.is_pruned;
      retention = i.retention;
      least_retention = i.least_retention;
    } in
    let refused = err_from_is_err_and c.from_residual.result c.from_residual.ensures.1 in
    rw (
      ← c.self.view_is,
      c.if-self.false,
      refused.1,
      refused.2,
      c.in_err-copy.ensures.refused,
      c.with_room.ensures.same,
      ← c.deref.ensures,
    )
    (wanting_call g.D.PartialEq.eq g.L.Elector.elect m
    (AddNotarization (notarization_facts g.S.CertificateScheme.certificate_bytes c.args.notarization)) x refl
    (sym c.takes_round.ensures ∙ c.if-not-takes_round.false) refl)

pub returns-clause-made : goal.returns-clause-made
returns-clause-made g c =
    let i = c.self.inside in
    let x = c.deref_mut.result.now in
    let p = c.add_notarization-made in
    let m : MemberFacts _ _ _ = record {
      life = living false x;
      outstanding_work = open_while false i.outstanding_work.open_now;
      entries = entries_of g.S.CertificateScheme.certificate_bytes i.artifacts.items;
      closed = i.closed;
      is_pruned = i.is_pruned;
      retention = i.retention;
      least_retention = i.least_retention;
    } in
    let recorded = new_recorded (λ added. added.0) _
    (Accepted (Notarized (notarization_facts g.S.CertificateScheme.certificate_bytes c.args.notarization))) _
    m.entries (entries_of g.S.CertificateScheme.certificate_bytes c.store_new.new.artifacts.items) p.result
    (ap (λ n. Accepted (Notarized n)) (rw c.in_ok-copy.ensures.copy at c.clone.ensures.same)) p.ensures.added
    (rw (c.with_room.ensures.same, c.is_added.ensures) at c.store_new.ensures.kept) in
    let part = part_of_state g.D.PartialEq.eq g.L.Elector.elect m
    (AddNotarization (notarization_facts g.S.CertificateScheme.certificate_bytes c.args.notarization))
    (λ added. Added added.0 added.1) x p.result p.new.self
    (entries_of g.S.CertificateScheme.certificate_bytes c.store_new.new.artifacts.items) x.failed
    (names_too_large c.args.notarization.proposal) false refl p.ensures.refused
    (IfOk-weaker p.result _ _ (λ added is. ap (λ a. Added a.0 a.1) is) p.ensures.added) p.ensures.after
    p.ensures.out_of_memory refl refl recorded.0 recorded.1 in
    rw (
      ← c.self.view_is,
      c.if-self.false,
      c.is_lost-self-inside.ensures,
      ended_so p.result c.map_err.result c.map_err.ensures.cases,
      ← c.deref_mut.ensures.value,
    )
    (part_made g.D.PartialEq.eq g.L.Elector.elect m
    (AddNotarization (notarization_facts g.S.CertificateScheme.certificate_bytes c.args.notarization))
    (λ added. Added added.0 added.1) x refl
    (rw (c.deref.ensures ∙ sym c.deref_mut.ensures.value) at
    (sym c.takes_round.ensures ∙ c.if-not-takes_round.false)) p.result p.new.self m.outstanding_work _ part)

pub returns-clause-answered : goal.returns-clause-answered
returns-clause-answered g c = replied_answered g.D.PartialEq.eq g.L.Elector.elect c.args.self.now.facts
    (AddNotarization (notarization_facts g.S.CertificateScheme.certificate_bytes c.args.notarization))
    (λ added. Added added.0 added.1) (λ t A is. is) c.map_err.result _ (returns-clause-made g c)

pub returns-clause-kept : goal.returns-clause-kept
returns-clause-kept g c = replied_kept g.D.PartialEq.eq g.L.Elector.elect c.args.self.now.facts
    (AddNotarization (notarization_facts g.S.CertificateScheme.certificate_bytes c.args.notarization))
    (λ added. Added added.0 added.1) c.map_err.result _ (returns-clause-made g c)

pub returns-clause-recorded : goal.returns-clause-recorded
returns-clause-recorded g c =
    let p = c.add_notarization-made in
    rw (← c.self.view_is, ended_so p.result c.map_err.result c.map_err.ensures.cases)
    (new_recorded (λ added. added.0) _ (Accepted
    (Notarized (notarization_facts g.S.CertificateScheme.certificate_bytes c.args.notarization))) _ _ _ p.result
    (ap (λ n. Accepted (Notarized n)) (rw c.in_ok-copy.ensures.copy at c.clone.ensures.same)) p.ensures.added
    (rw (c.with_room.ensures.same, c.is_added.ensures) at c.store_new.ensures.kept)).2
