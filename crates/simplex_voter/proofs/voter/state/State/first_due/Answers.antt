-- How the contract of `first_due` follows: what is tracked is of the state's rounds, and other views have nothing due.
use Rattle.std.proofs.Common.{is_some, sym, ap, ◌∙◌}
use Rattle.simplex_voter.specs.DueVotes.{is_due}
use Rattle.simplex_voter.proofs.DueVotes.{rounds_from, first_shown, nothing_due}
use Rattle.simplex_voter.proofs.voter.state.State.first_due.Goals as goal

pub first_due_of-requires-clause-rounds : goal.first_due_of-requires-clause-rounds
first_due_of-requires-clause-rounds g c =
    rounds_from c.args.self.now _ (ap (λ x. x.rounds) c.self.view_is) c.args.from _ c.at_or_above.ensures.above
    c.at_or_above.ensures.ordered

pub returns-clause-first : goal.returns-clause-first
returns-clause-first g c =
    c.first_due_of.ensures
    ∙ first_shown c.args.self.now _ (ap (λ x. x.rounds) c.self.view_is) c.args.from _ c.at_or_above.ensures.above
    (λ e. is_due g.D.PartialEq.eq g.L.Elector.elect c.args.self.now e.0)

pub returns-clause-none : goal.returns-clause-none
returns-clause-none g c none v low = nothing_due c.args.self.now g.D.PartialEq.eq g.L.Elector.elect c.args.from
    (sym (ap is_some (returns-clause-first g c)) ∙ none) v low
