-- That the engine's member is the one that was started.
use Rattle.std.proofs.Common.{◌≡◌, sym, subst, ap, inr, refl, ◌∙◌, []}
use Rattle.simplex_types.specs.Config.{floor_facts}
use Rattle.simplex_record.specs.Start.{set_up}
use Rattle.simplex_member.specs.Start.{started_member}
use Rattle.laws_safety.specs.MemberHistory.{HasStarted}
use Rattle.simplex_engine.proofs.Bounds.{bounded_empty}
use Rattle.engine_outbox.proofs.Continuity.{where_ok}
use Rattle.simplex_engine.proofs.UnfinishedWork.{tells_none}
use Rattle.std.proofs.lemmas.Bool.{eqb-true}
use Rattle.simplex_engine.proofs.EngineStart.{has_retry, engine_not_started}
use Rattle.simplex_engine.proofs.Provenance.{both_ok, nothing_held}
use Rattle.simplex_engine.proofs.fetch_heights.Engines.{heights_begun}
use Rattle.simplex_engine.proofs.engine.Engine.start.Goals as goal

pub returns-in-Ok-clause-started : goal.returns-in-Ok-clause-started
returns-in-Ok-clause-started g c =
    where_ok c.begin.result c.begin.ensures.member
    (λ engine is. subst (λ m. m.facts ≡ started_member g.D.PartialEq.eq g.L.Elector.elect
    (set_up g.S.CertificateScheme.me g.S.CertificateScheme.participants g.L.Elector.terms g.L.Elector.elects_early
    c.args.start.settings)
    (floor_facts g.S.CertificateScheme.certificate_bytes c.args.start.floor) c.args.start.now) (sym is)
    c.in-Ok.ensures.started)

pub returns-in-Ok-clause-begins : goal.returns-in-Ok-clause-begins
returns-in-Ok-clause-begins g c =
    where_ok c.begin.result c.begin.ensures.member
    (λ engine is. subst (λ m. HasStarted g.D.PartialEq.eq g.L.Elector.elect g.S.CertificateScheme.me g.L.Elector.terms
    c.args.start m.facts) (sym is) c.in-Ok.ensures.begins)

pub returns-in-Ok-clause-bounded : goal.returns-in-Ok-clause-bounded
returns-in-Ok-clause-bounded g c =
    where_ok c.begin.result (c.begin.ensures.begun _ _ _ c.in_ok-company.ensures)
    (λ engine begun. bounded_empty g.S.CertificateScheme.participants engine.core engine.batcher begun.votes)

pub returns-in-Ok-clause-refused : goal.returns-in-Ok-clause-refused
returns-in-Ok-clause-refused g c = engine_not_started c.begin.result _ _ _ c.in-Ok.member.facts c.in-Ok.ensures.started
    c.begin.ensures.refused

pub returns-in-Err-clause-refused : goal.returns-in-Err-clause-refused
returns-in-Err-clause-refused g c = inr (c.in-Err.error, refl, c.in-Err.ensures.refused)

pub returns-in-Ok-clause-due_work : goal.returns-in-Ok-clause-due_work
returns-in-Ok-clause-due_work g c =
    where_ok c.begin.result c.begin.ensures.member
    (λ engine is. tells_none engine
    (ap (λ m. m.facts.outstanding_work) is ∙ ap (λ m. m.outstanding_work) c.in-Ok.ensures.started))

pub returns-in-Ok-clause-nothing : goal.returns-in-Ok-clause-nothing
returns-in-Ok-clause-nothing g c =
    both_ok c.begin.result c.begin.ensures.queued (c.begin.ensures.begun _ _ _ c.in_ok-company.ensures)
    (λ engine queued begun. nothing_held g.D.Digest.bytes g.S.CertificateScheme.certificate_bytes
    g.S.CertificateScheme.participants _ _ _ _ engine queued begun)

pub returns-in-Ok-clause-fetch_heights : goal.returns-in-Ok-clause-fetch_heights
returns-in-Ok-clause-fetch_heights g c =
    where_ok c.begin.result (c.begin.ensures.begun _ _ _ c.in_ok-company.ensures)
    (λ engine begun. heights_begun g.D.Digest.bytes g.S.CertificateScheme.participants _ _ _ _ engine begun)

pub returns-in-Ok-clause-votes : goal.returns-in-Ok-clause-votes
returns-in-Ok-clause-votes g c = where_ok c.begin.result c.begin.ensures.member
    (λ engine is. subst (λ m. m.votes ≡ []) (sym is) c.in-Ok.ensures.votes)

pub returns-then-has_no_retry-clause-no_retry : goal.returns-then-has_no_retry-clause-no_retry
returns-then-has_no_retry-clause-no_retry g c none = refl

pub returns-then-has_no_retry-clause-refused : goal.returns-then-has_no_retry-clause-refused
returns-then-has_no_retry-clause-refused g c =
    eqb-true c.args.start.settings.timeout_retry 0 (sym c.has_no_retry.ensures ∙ c.if-has_no_retry.true)

pub returns-in_err-company-clause-no_retry : goal.returns-in_err-company-clause-no_retry
returns-in_err-company-clause-no_retry g c =
    has_retry _ c.args.start.settings.timeout_retry (sym c.has_no_retry.ensures ∙ c.if-has_no_retry.false)

pub returns-in-Ok-clause-no_retry : goal.returns-in-Ok-clause-no_retry
returns-in-Ok-clause-no_retry g c = has_retry c.begin.result c.args.start.settings.timeout_retry
    (sym c.has_no_retry.ensures ∙ c.if-has_no_retry.false)

pub returns-in-Err-clause-no_retry : goal.returns-in-Err-clause-no_retry
returns-in-Err-clause-no_retry g c = has_retry _ c.args.start.settings.timeout_retry
    (sym c.has_no_retry.ensures ∙ c.if-has_no_retry.false)
