-- How the contract of `construct_nullify` follows: the vote is recorded before it is returned, and never beside one to
-- finalize the view.
use Rattle.std.proofs.Common.{◌≡◌, ap, false, refl, sym, ◌∙◌}
use Rattle.std.proofs.lemmas.Result.{IfOk-weaker}
use Rattle.simplex_types.specs.Certificates.{NullifyVote}
use Rattle.simplex_record.specs.Entries.{entries_of}
use Rattle.simplex_member.specs.Calls.{ConstructNullify, Nullify, reply_nullify}
use Rattle.simplex_member.specs.CallSemantics.{unrepeated_vote, nullify_vote}
use Rattle.simplex_member.specs.MemberFacts.{MemberFacts, living, open_while}
use Rattle.simplex_member.specs.ReplySignatures.{IsSignedReply}
use Rattle.simplex_member.specs.declared.member.calls.Reply.TheVariants as reply
use Rattle.simplex_member.proofs.PartialFailures.{part_goes_on, part_made, part_of_vote, vote_kept, lost_ends, so_ok, ended_so, ended_ok, ended_err, replied_answered, replied_kept, nullify_made, nullify_is_signed}
use Rattle.simplex_member.proofs.Voted.{nullify_decided, nullify_barred}
use Rattle.simplex_member.proofs.member.life.Member.construct_nullify.Goals as goal

pub invariant_of-self-2 : goal.invariant_of-self-2
invariant_of-self-2 g c =
    let going = rw (sym c.deref_mut.ensures.value) at (c.self.invariant c.if-self.false) in
    let x = c.deref_mut.result.now in
    let p = c.construct_nullify-made in
    let q = c.store_nullify-kept in
    let kept = vote_kept (λ _. Unit {0}) _ _ p.result q.result (so_ok p.result tt) p.ensures.after
    (p.ensures.out_of_memory (rw going.0 refl)) q.ensures.same q.ensures.refused in
    λ alive. part_goes_on g.D.PartialEq.eq g.L.Elector.elect x c.self.inside.outstanding_work.open_now
    (ConstructNullify c.args.view) q.result p.new.self kept.1
    (lost_ends x p.new.self q.result _ (rw going.0 refl) kept.2) going.0 going.1
    (sym c.is_lost-self-inside.ensures ∙ alive)

pub returns-clause-made : goal.returns-clause-made
returns-clause-made g c =
    let going = rw (sym c.deref_mut.ensures.value) at (c.self.invariant c.if-self.false) in
    let i = c.self.inside in
    let x = c.deref_mut.result.now in
    let p = c.construct_nullify-made in
    let q = c.store_nullify-kept in
    let m : MemberFacts _ _ _ = record {
      life = living false x;
      outstanding_work = open_while false i.outstanding_work.open_now;
      entries = entries_of g.S.CertificateScheme.certificate_bytes i.artifacts.items;
      closed = i.closed;
      is_pruned = i.is_pruned;
      retention = i.retention;
      least_retention = i.least_retention;
    } in
    let kept = vote_kept (λ vote. reply_nullify vote ≡ nullify_vote x c.args.view) _ _ p.result q.result
    (nullify_made g.S.Scheme.IsSignature x c.args.view p.result p.ensures.vote p.ensures.signed) p.ensures.after
    (p.ensures.out_of_memory (rw going.0 refl)) q.ensures.same q.ensures.refused in
    rw (
      ← c.self.view_is,
      c.if-self.false,
      c.is_lost-self-inside.ensures,
      ended_so q.result c.map_err.result c.map_err.ensures.cases,
      ← c.deref_mut.ensures.value,
    )
    (part_made g.D.PartialEq.eq g.L.Elector.elect m (ConstructNullify c.args.view)
    (λ vote. Nullify (reply_nullify vote)) x refl refl q.result p.new.self m.outstanding_work _
    (part_of_vote g.D.PartialEq.eq g.L.Elector.elect m (ConstructNullify c.args.view)
    (λ vote. Nullify (reply_nullify vote)) x reply_nullify (nullify_vote x c.args.view) unrepeated_vote q.result
    p.new.self (entries_of g.S.CertificateScheme.certificate_bytes q.new.artifacts.items) (rw going.0 refl) refl
    refl refl (λ vote is. ap Nullify is) kept.0 kept.1 kept.2 (rw c.reserve.ensures.items at q.ensures.kept)
    (rw c.reserve.ensures.items at q.ensures.same_record)))

pub returns-clause-answered : goal.returns-clause-answered
returns-clause-answered g c = replied_answered g.D.PartialEq.eq g.L.Elector.elect c.args.self.now.facts
    (ConstructNullify c.args.view) (λ vote. Nullify (reply_nullify vote)) (λ t A is. is) c.map_err.result _
    (returns-clause-made g c)

pub returns-clause-kept : goal.returns-clause-kept
returns-clause-kept g c = replied_kept g.D.PartialEq.eq g.L.Elector.elect c.args.self.now.facts
    (ConstructNullify c.args.view) (λ vote. Nullify (reply_nullify vote)) c.map_err.result _ (returns-clause-made g c)

pub returns-clause-signed : goal.returns-clause-signed
returns-clause-signed g c =
    let going = rw (sym c.deref_mut.ensures.value) at (c.self.invariant c.if-self.false) in
    let x = c.deref_mut.result.now in
    let p = c.construct_nullify-made in
    let q = c.store_nullify-kept in
    let kept = vote_kept (λ vote. IsSignedReply g.S.Scheme.IsSignature (reply.Nullify vote) x) _ _ p.result q.result
    (IfOk-weaker p.result _ _ (nullify_is_signed g.S.Scheme.IsSignature x c.args.view) p.ensures.signed)
    p.ensures.after (p.ensures.out_of_memory (rw going.0 refl)) q.ensures.same q.ensures.refused in
    rw (
      ← c.self.view_is,
      c.if-self.false,
      ← c.deref_mut.ensures.value,
      ended_so q.result c.map_err.result c.map_err.ensures.cases,
    ) (ended_ok _ q.result kept.0)

pub returns-clause-recorded : goal.returns-clause-recorded
returns-clause-recorded g c =
    let q = c.store_nullify-kept in
    rw (← c.self.view_is, ended_so q.result c.map_err.result c.map_err.ensures.cases)
    (ended_ok _ q.result (rw c.reserve.ensures.items at q.ensures.kept))

pub returns-clause-decided : goal.returns-clause-decided
returns-clause-decided g c =
    IfOk-weaker c.map_err.result _ _ (λ vote is.
    nullify_decided g.D.PartialEq.eq g.L.Elector.elect c.args.self.now.facts _ c.args.view (reply_nullify vote) is
    (λ v. (v.0, NullifyVote v.1.round v.1.signer)) vote refl) (returns-clause-answered g c)

pub returns-clause-barred : goal.returns-clause-barred
returns-clause-barred g c =
    λ was. IfOk-weaker c.map_err.result _ _ (λ vote is.
    nullify_barred g.D.PartialEq.eq g.L.Elector.elect c.args.self.now.facts _ c.args.view (reply_nullify vote) is
    was (λ v. (v.0, NullifyVote v.1.round v.1.signer)) vote refl) (returns-clause-answered g c)

pub returns-clause-votes : goal.returns-clause-votes
returns-clause-votes g c =
    let q = c.store_nullify-kept in
    rw (← c.self.view_is, ended_so q.result c.map_err.result c.map_err.ensures.cases)
    (ended_ok _ q.result (rw c.reserve.ensures.items at q.ensures.votes))

pub returns-clause-same_votes : goal.returns-clause-same_votes
returns-clause-same_votes g c =
    let q = c.store_nullify-kept in
    rw (← c.self.view_is, ended_so q.result c.map_err.result c.map_err.ensures.cases)
    (ended_err _ q.result (rw c.reserve.ensures.items at q.ensures.same_votes))
