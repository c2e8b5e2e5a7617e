-- How the contract of `enter_view` follows: the view is tracked first, and its moments are the only change of its
-- round.
use Rattle.std.proofs.Common.{◌∙◌, ap, refl}
use Rattle.simplex_round.specs.Round.{with_deadlines}
use Rattle.simplex_voter.specs.Rounds.{with_entry}
use Rattle.simplex_voter.proofs.RoundChanges.{entered_alike}
use Rattle.simplex_voter.proofs.Changed.{never_none, kept_changed, changed_tracked}
use Rattle.simplex_voter.proofs.voter.rounds.Rounds.enter_view.Goals as goal

pub unreachable-requires : goal.unreachable-requires
unreachable-requires g c = never_none _ _ _ (c.self.view_is ∙ c.in_ok-track.ensures.tracked) _ refl
    c.in_default.ensures.value

pub invariant_of-self : goal.invariant_of-self
invariant_of-self g c = kept_changed _ _ refl c.self.invariant _ _ _ c.in-Some.ensures.value
    (entered_alike _ _ c.args.now c.args.deadlines.now
    (c.set_deadlines.ensures ∙ ap (λ r. with_deadlines r c.args.deadlines.now.leader c.args.deadlines.now.certification
    c.args.deadlines.now.stall) c.mark_entered.ensures))

pub returns-clause-entered : goal.returns-clause-entered
returns-clause-entered g c =
    changed_tracked _ _ _ (c.self.view_is ∙ c.in_ok-track.ensures.tracked) _ refl _ _
    (λ r. with_entry r c.args.now c.args.deadlines.now) c.in-Some.ensures.value
    (c.set_deadlines.ensures ∙ ap (λ r. with_deadlines r c.args.deadlines.now.leader
    c.args.deadlines.now.certification c.args.deadlines.now.stall) c.mark_entered.ensures)
