use Rattle.std.proofs.Common.{ap, sym, ◌∙◌}
use Rattle.std.specs.FinMap.{insert}
use Rattle.simplex_types.specs.MessageViews.{subject_view}
use Rattle.engine_votes.specs.Polls.{slots_at}
use Rattle.engine_votes.proofs.StoredVotes.{slots_there, slots_elsewhere, slots_lent, stands}
use Rattle.engine_votes.proofs.VoteCounts.{counted_as, kept_as}
use Rattle.engine_votes.proofs.batcher.count_at.Goals as goal

pub unreachable-requires : goal.unreachable-requires
unreachable-requires g c = stands c.open.new.polls c.view-view.result c.in_ok-open.ensures.open
    c.in_default.ensures.value

pub returns-clause-others : goal.returns-clause-others
returns-clause-others g c = λ view apart.
    slots_elsewhere c.open.new.polls c.view-view.result c.count.new.slots view
    (λ there. apart (there ∙ c.view-view.ensures)) ∙ c.in_ok-open.ensures.same view

pub returns-clause-counted : goal.returns-clause-counted
returns-clause-counted g c =
    let view = subject_view c.args.vote.subject in
    let was = sym (c.in_ok-open.ensures.same view) ∙ ap (slots_at c.open.new.polls) (sym c.view-view.ensures)
    ∙ sym (slots_lent c.open.new.polls c.view-view.result c.in-Some.slots.now c.in-Some.ensures.value) in
    let there = ap (slots_at (insert c.open.new.polls c.view-view.result c.count.new.slots)) (sym c.view-view.ensures)
    ∙ slots_there c.open.new.polls c.view-view.result c.count.new.slots in
    counted_as g.D.PartialEq.eq (g.S.Assembly.IsMadeOf c.args.scheme.now) c.args.members c.count.result c.args.vote _ _
    _ _ was there c.count.ensures.counted

pub returns-clause-kept : goal.returns-clause-kept
returns-clause-kept g c =
    let view = subject_view c.args.vote.subject in
    let was = sym (c.in_ok-open.ensures.same view) ∙ ap (slots_at c.open.new.polls) (sym c.view-view.ensures)
    ∙ sym (slots_lent c.open.new.polls c.view-view.result c.in-Some.slots.now c.in-Some.ensures.value) in
    let there = ap (slots_at (insert c.open.new.polls c.view-view.result c.count.new.slots)) (sym c.view-view.ensures)
    ∙ slots_there c.open.new.polls c.view-view.result c.count.new.slots in
    kept_as c.count.result _ _ _ _ was there c.count.ensures.kept
