-- How the contract of `poll` follows: the rounds' part is the whole change of the state, and a late deadline refuses
-- it.
use Rattle.std.proofs.Common.{refl, ap, sym, ◌∙◌}
use Rattle.simplex_voter.specs.Rounds.{has_round, find_round}
use Rattle.simplex_voter.specs.Timeouts.{has_skip_budget}
use Rattle.simplex_voter.proofs.Shown.{on_ok, on_err, by_rounds, where_true, kept_with_rounds}
use Rattle.simplex_voter.proofs.FirstPoll.{answered, answer_shown}
use Rattle.simplex_voter.proofs.voter.state.State.poll.Goals as goal

pub invariant_of-self : goal.invariant_of-self
invariant_of-self g c = kept_with_rounds c.self.invariant c.poll.ensures.origin

pub returns-clause-late : goal.returns-clause-late
returns-clause-late g c = rw (← c.self.view_is) c.poll.ensures.late

pub returns-clause-refused : goal.returns-clause-refused
returns-clause-refused g c = rw (← c.self.view_is)
    (on_err c.poll.result (λ fault both. (both.0, by_rounds _ _ c.self.view_is _ c.self.inside.rounds both.1))
    c.poll.ensures.refused)

pub returns-clause-polled : goal.returns-clause-polled
returns-clause-polled g c =
    rw (← c.self.view_is) (on_ok c.poll.result
    (λ is. where_true _ _ c.self.view_is (has_round c.self.inside.rounds c.self.inside.current) _ _
    c.self.inside.rounds is refl) c.poll.ensures.polled)

pub returns-clause-answer : goal.returns-clause-answer
returns-clause-answer g c =
    let allow = c.has_skip_budget-allow_latched.ensures ∙ ap has_skip_budget (sym c.self.view_is) in
    rw (← c.self.view_is)
    (answered c.poll.result _ _ (answer_shown (find_round c.self.inside.rounds c.self.inside.current) _ refl c.args.now
    c.self.inside.timeout_retry _) (rw allow at c.poll.ensures.answer))
