-- How the contract of `take_steps` follows: a run with one step more is a run, and a step that is refused ends it
-- there.
use Rattle.std.proofs.Common.{ap, ◌∙◌, sym, map, map-id, ◌+◌, drop, length, ◌∷◌, [], inr}
use Rattle.std.proofs.lemmas.Iterator.Consumers.{YieldsList-so_far, YieldsList-turn, YieldsList-end}
use Rattle.std.proofs.lemmas.Iterator.Adapters.{YieldsList-from_vec}
use Rattle.std.proofs.lemmas.List.{map-append}
use Rattle.std.proofs.lemmas.Result.{err_from_is_err_and}
use Rattle.simplex_member.specs.Calls.{reply_facts}
use Rattle.simplex_member.specs.Runs.{step_facts}
use Rattle.simplex_member.proofs.Runs.{run_extends, run_ends, replies_answer, met_next, set_up_at}
use Rattle.simplex_member.proofs.member.runs.take_steps.Goals as goal

pub take_step-requires : goal.take_step-requires
take_step-requires g c =
    let gives = c.into_iter-step-iterator.ensures.into_iter_gives in
    let road = YieldsList-from_vec c.args.steps.items gives.0 (gives.1 ∙ c.args.steps.ok.0) in
    let turn = YieldsList-turn road c.loop-step.yielded c.loop-step.step-iterator c.loop-step.yielded_by c.next.result
    c.next.new.self c.in-Some.step c.in-Some.is c.next.ensures.steps in
    let so_far = sym (map-id c.loop-step.yielded)
    ∙ YieldsList-so_far road c.loop-step.yielded c.loop-step.step-iterator c.loop-step.yielded_by in
    let is = met_next c.args.steps.items c.loop-step.yielded c.in-Some.step so_far turn.0 turn.1 in
    set_up_at g.S.CertificateScheme.participants g.L.Elector.members c.args.steps.items c.loop-step.yielded
    c.in-Some.step (drop (length c.loop-step.yielded + 1) c.args.steps.items) is c.requires

pub loop-step-preserved : goal.loop-step-preserved
loop-step-preserved g c =
    let bytes_of = g.S.CertificateScheme.certificate_bytes in
    let facts_of = step_facts g.S.CertificateScheme.me g.S.CertificateScheme.participants g.L.Elector.terms
    g.L.Elector.elects_early bytes_of in
    rw (
      c.push_reserved.ensures,
      c.reserve.ensures.items,
      map-append facts_of c.loop-step.yielded (c.in-Some.step ∷ []),
      map-append (reply_facts bytes_of) c.loop-step.replies.items (c.in_ok-reply.reply ∷ []),
    )
    (run_extends g.D.PartialEq.eq g.L.Elector.elect c.args.member.now.facts (map facts_of c.loop-step.yielded)
    (map (reply_facts bytes_of) c.loop-step.replies.items) c.loop-step.member.facts (facts_of c.in-Some.step)
    (reply_facts bytes_of c.in_ok-reply.reply) c.take_step.new.member.facts c.loop-step.invariant
    c.in_ok-reply.ensures.taken)

pub returns-in_err-reply-clause-ended : goal.returns-in_err-reply-clause-ended
returns-in_err-reply-clause-ended g c =
    let bytes_of = g.S.CertificateScheme.certificate_bytes in
    let facts_of = step_facts g.S.CertificateScheme.me g.S.CertificateScheme.participants g.L.Elector.terms
    g.L.Elector.elects_early bytes_of in
    let gives = c.into_iter-step-iterator.ensures.into_iter_gives in
    let road = YieldsList-from_vec c.args.steps.items gives.0 (gives.1 ∙ c.args.steps.ok.0) in
    let turn = YieldsList-turn road c.loop-step.yielded c.loop-step.step-iterator c.loop-step.yielded_by c.next.result
    c.next.new.self c.in-Some.step c.in-Some.is c.next.ensures.steps in
    let so_far = sym (map-id c.loop-step.yielded)
    ∙ YieldsList-so_far road c.loop-step.yielded c.loop-step.step-iterator c.loop-step.yielded_by in
    let rest = drop (length c.loop-step.yielded + 1) c.args.steps.items in
    let is = met_next c.args.steps.items c.loop-step.yielded c.in-Some.step so_far turn.0 turn.1 in
    let p = err_from_is_err_and c.from_residual-in_err-reply.result c.from_residual-in_err-reply.ensures.1 in
    rw (p.1, p.2)
    (inr (rw (ap (map facts_of) is, map-append facts_of c.loop-step.yielded (c.in-Some.step ∷ rest))
    (run_ends g.D.PartialEq.eq g.L.Elector.elect (reply_facts bytes_of) c.args.member.now.facts
    (map facts_of c.loop-step.yielded) c.loop-step.replies.items c.loop-step.member.facts (facts_of c.in-Some.step)
    (map facts_of rest) c.in_err-reply.field-0.0 (replies_answer bytes_of) c.loop-step.invariant
    c.in_err-reply.ensures.refused)))

pub returns-clause-whole : goal.returns-clause-whole
returns-clause-whole g c =
    let gives = c.into_iter-step-iterator.ensures.into_iter_gives in
    let t = YieldsList-end (YieldsList-from_vec c.args.steps.items gives.0 (gives.1 ∙ c.args.steps.ok.0))
    c.loop-step.yielded c.loop-step.step-iterator c.loop-step.yielded_by c.next.result c.next.new.self c.in-None.is
    c.next.ensures.steps in
    rw (← t.0, map-id c.loop-step.yielded) c.loop-step.invariant
