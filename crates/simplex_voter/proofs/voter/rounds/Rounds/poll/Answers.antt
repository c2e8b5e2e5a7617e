-- How the contract of `poll` follows: the round's own poll is the answer and the only change, and an untracked view has
-- no timeout.
use Rattle.std.proofs.Common.{ap, sym, refl, ◌∙◌}
use Rattle.std.specs.Prelude.{option_and_then}
use Rattle.simplex_round.specs.Round.{with_retry, round_timeout}
use Rattle.simplex_voter.proofs.Shown.{on_ok}
use Rattle.simplex_voter.proofs.RoundChanges.{polled_alike}
use Rattle.simplex_voter.proofs.FirstPoll.{late_is, late_untracked, poll_refused}
use Rattle.simplex_voter.proofs.Changed.{found_at, lent, kept_changed, changed_there, untouched}
use Rattle.simplex_voter.proofs.voter.rounds.Rounds.poll.Goals as goal

pub invariant_of-self-2 : goal.invariant_of-self-2
invariant_of-self-2 g c =
    kept_changed _ _ refl c.self.invariant _ _ _ c.in-Some.ensures.value
    (polled_alike c.next_timeout.result _ _ c.args.now c.args.retry c.next_timeout.ensures.unchanged
    c.next_timeout.ensures.facts)

pub returns-in_default-clause-late : goal.returns-in_default-clause-late
returns-in_default-clause-late g c = late_untracked c.args.self.now c.args.view c.args.now c.args.retry
    (c.in_default.ensures.value
    ∙ sym (found_at c.args.self.now _ (sym (ap (λ x. x.by_view) c.self.view_is)) c.args.view))

pub returns-in_default-clause-polled : goal.returns-in_default-clause-polled
returns-in_default-clause-polled g c = rw (← c.self.view_is)
    (untouched _ _ refl _ (λ r. with_retry r c.args.now c.args.retry) c.in_default.ensures.value)

pub returns-in_default-clause-answer : goal.returns-in_default-clause-answer
returns-in_default-clause-answer g c =
    ap (option_and_then (λ r. round_timeout (with_retry r c.args.now c.args.retry) c.args.allow_latched))
    (c.in_default.ensures.value
    ∙ sym (found_at c.args.self.now _ (sym (ap (λ x. x.by_view) c.self.view_is)) c.args.view))

pub returns-clause-late : goal.returns-clause-late
returns-clause-late g c =
    let same = lent c.args.self.now _ (sym (ap (λ x. x.by_view) c.self.view_is)) _ _ c.in-Some.ensures.value in
    late_is c.next_timeout.result c.in-Some.round.now c.args.now c.args.retry c.next_timeout.ensures.overflow
    c.next_timeout.ensures.refused ∙ rw same refl

pub returns-clause-refused : goal.returns-clause-refused
returns-clause-refused g c = rw (← c.self.view_is)
    (poll_refused c.next_timeout.result _ _ refl _ _ _ c.in-Some.ensures.value c.next_timeout.ensures.refused
    c.next_timeout.ensures.unchanged)

pub returns-clause-polled : goal.returns-clause-polled
returns-clause-polled g c =
    on_ok c.next_timeout.result (λ is. rw (← c.self.view_is)
    (changed_there _ _ refl _ _ _ (λ r. with_retry r c.args.now c.args.retry) c.in-Some.ensures.value is))
    c.next_timeout.ensures.facts

pub returns-clause-answer : goal.returns-clause-answer
returns-clause-answer g c =
    let here = c.in-Some.ensures.value ∙ sym
    (found_at c.args.self.now _ (sym (ap (λ x. x.by_view) c.self.view_is)) c.args.view) in
    rw (← here) c.next_timeout.ensures.answer
