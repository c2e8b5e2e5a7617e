-- How the contract of `follow_verdict` follows: a notarized view has a next one with deadlines; a true verdict enters
-- it, a false one times the view out.
use Rattle.simplex_types.specs.declared.reasons.TimeoutReason.TheVariants.{FailedCertification}
use Rattle.simplex_voter.proofs.VerdictEffects.{next_enterable, next_countable, setup_judged, setup_triggered, deadlines_judged, verdict_refused, verdict_kept}
use Rattle.simplex_voter.proofs.CarriedLeaders.{same_setup_joins}
use Rattle.simplex_voter.proofs.voter.state.State.follow_verdict.Goals as goal

pub enter_view-requires-clause-in_range : goal.enter_view-requires-clause-in_range
enter_view-requires-clause-in_range g c =
    next_enterable c.args.view c.after_notarized-next.result c.after_notarized-next.ensures.next
    c.after_notarized-next.ensures.in_range

pub enter_view-requires-clause-deadlines : goal.enter_view-requires-clause-deadlines
enter_view-requires-clause-deadlines g c =
    deadlines_judged g.L.Elector.elect c.args.self.now c.note_moment.new.self c.judge.new.self c.args.view c.args.now
    c.args.success c.note_moment.ensures c.in_ok-judge.ensures.judged c.after_notarized-next.result
    c.args.deadlines.now c.after_notarized-next.ensures.next c.if-not-success.false c.requires.deadlines

pub wake_certification_child-requires : goal.wake_certification_child-requires
wake_certification_child-requires g c = next_countable c.args.view c.after_notarized-next.ensures.in_range

pub returns-then-not-success-clause-taken : goal.returns-then-not-success-clause-taken
returns-then-not-success-clause-taken g c =
    verdict_refused g.L.Elector.elect c.args.self.now c.note_moment.new.self c.judge.new.self c.args.view c.args.now
    c.args.success c.note_moment.ensures c.in_ok-judge.ensures.judged c.if-not-success.true c.trigger.new.self
    c.trigger.ensures.triggered

pub returns-then-not-success-clause-setup : goal.returns-then-not-success-clause-setup
returns-then-not-success-clause-setup g c =
    setup_triggered c.args.self.now c.judge.new.self c.trigger.new.self c.args.view c.args.now FailedCertification
    c.trigger.ensures.triggered
    (setup_judged g.L.Elector.elect c.args.self.now c.note_moment.new.self c.judge.new.self c.args.view c.args.now
    c.args.success c.note_moment.ensures c.in_ok-judge.ensures.judged)

pub returns-in_err-enter_view-clause-setup : goal.returns-in_err-enter_view-clause-setup
returns-in_err-enter_view-clause-setup g c =
    same_setup_joins _ _ _ (setup_judged g.L.Elector.elect c.args.self.now c.note_moment.new.self c.judge.new.self
    c.args.view c.args.now c.args.success c.note_moment.ensures c.in_ok-judge.ensures.judged) c.enter_view.ensures.setup

pub returns-clause-taken : goal.returns-clause-taken
returns-clause-taken g c =
    verdict_kept g.L.Elector.elect c.args.self.now c.note_moment.new.self c.judge.new.self c.args.view c.args.now
    c.args.success c.note_moment.ensures c.in_ok-judge.ensures.judged c.wake_certification_child.result
    c.if-not-success.false c.enter_view.new.self c.wake_certification_child.new.self c.after_notarized-next.result
    c.after_notarized-next.ensures.next c.in_ok-enter_view.ensures.entered c.wake_certification_child.ensures.woken

pub returns-clause-setup : goal.returns-clause-setup
returns-clause-setup g c =
    same_setup_joins _ _ _ (same_setup_joins _ _ _
    (setup_judged g.L.Elector.elect c.args.self.now c.note_moment.new.self c.judge.new.self c.args.view c.args.now
    c.args.success c.note_moment.ensures c.in_ok-judge.ensures.judged) c.enter_view.ensures.setup)
    c.wake_certification_child.ensures.setup
