-- How the contract of `set_proposal` follows: the state takes the proposal by its definition, and nothing is recorded.
use Rattle.std.proofs.Common.{ap, false, refl, sym, ◌∙◌}
use Rattle.std.proofs.lemmas.List.{append-nil}
use Rattle.std.proofs.lemmas.Result.{IfOk-weaker}
use Rattle.simplex_voter.specs.Refusals.{names_too_large}
use Rattle.simplex_record.specs.Entries.{entries_of}
use Rattle.simplex_member.specs.Calls.{SetProposal, Answered}
use Rattle.simplex_member.specs.MemberFacts.{MemberFacts, living, open_while}
use Rattle.simplex_member.proofs.PartialFailures.{part_goes_on, part_of_state, part_made, ended_so, state_ends, so_ok, same_on_err, replied_answered, replied_kept}
use Rattle.simplex_member.proofs.member.life.Member.set_proposal.Goals as goal

pub invariant_of-self : goal.invariant_of-self
invariant_of-self g c =
    let kept = rw (sym c.deref_mut.ensures.value) at (c.self.invariant c.if-self.false) in
    let x = c.deref_mut.result.now in
    let q = c.set_proposal-made in
    λ alive. part_goes_on g.D.PartialEq.eq g.L.Elector.elect x c.self.inside.outstanding_work.open_now
    (SetProposal c.args.view c.args.proposal) q.result q.new.self q.ensures.after
    (state_ends x q.new.self q.result x.failed (names_too_large c.args.proposal) false q.ensures.refused
    q.ensures.out_of_memory) kept.0 kept.1 (sym c.is_lost-self-inside.ensures ∙ alive)

pub returns-clause-made : goal.returns-clause-made
returns-clause-made g c =
    let kept = rw (sym c.deref_mut.ensures.value) at (c.self.invariant c.if-self.false) in
    let i = c.self.inside in
    let x = c.deref_mut.result.now in
    let m : MemberFacts _ _ _ = record {
      life = living false x;
      outstanding_work = open_while false i.outstanding_work.open_now;
      entries = entries_of g.S.CertificateScheme.certificate_bytes i.artifacts.items;
      closed = i.closed;
      is_pruned = i.is_pruned;
      retention = i.retention;
      least_retention = i.least_retention;
    } in
    let q = c.set_proposal-made in
    let p = part_of_state g.D.PartialEq.eq g.L.Elector.elect m (SetProposal c.args.view c.args.proposal)
    (λ is_new. Answered is_new) x q.result q.new.self m.entries x.failed (names_too_large c.args.proposal) false
    refl q.ensures.refused (IfOk-weaker q.result _ _ (λ is_new is. ap Answered is) q.ensures.answer) q.ensures.after
    q.ensures.out_of_memory refl refl (so_ok q.result (sym (append-nil m.entries))) (same_on_err q.result refl) in
    rw (
      ← c.self.view_is,
      c.if-self.false,
      c.is_lost-self-inside.ensures,
      ended_so q.result c.map_err.result c.map_err.ensures.cases,
      ← c.deref_mut.ensures.value,
    )
    (part_made g.D.PartialEq.eq g.L.Elector.elect m (SetProposal c.args.view c.args.proposal)
    (λ is_new. Answered is_new) x refl (rw (c.deref.ensures ∙ sym c.deref_mut.ensures.value) at
    (sym c.takes_proposal.ensures ∙ c.if-not-takes_proposal.false)) q.result q.new.self m.outstanding_work m.entries
    p)

pub returns-clause-answered : goal.returns-clause-answered
returns-clause-answered g c = replied_answered g.D.PartialEq.eq g.L.Elector.elect c.args.self.now.facts
    (SetProposal c.args.view c.args.proposal) (λ is_new. Answered is_new) (λ t A is. is) c.map_err.result _
    (returns-clause-made g c)

pub returns-clause-kept : goal.returns-clause-kept
returns-clause-kept g c = replied_kept g.D.PartialEq.eq g.L.Elector.elect c.args.self.now.facts
    (SetProposal c.args.view c.args.proposal) (λ is_new. Answered is_new) c.map_err.result _ (returns-clause-made g c)
