-- How the contract of `mark` follows: the round at the view is marked where it holds an unverified proposal, and an
-- untracked one holds none.
use Rattle.std.proofs.Common.{false, not, ◌&&◌, ap, sym, refl, ◌∙◌}
use Rattle.std.specs.Option.{option_map_or}
use Rattle.simplex_round.specs.Slot.{is_unverified}
use Rattle.simplex_round.specs.Round.{is_nullify}
use Rattle.simplex_voter.specs.Verification.{with_mark}
use Rattle.simplex_voter.proofs.Changed.{found_at, kept_changed, changed_there, untouched}
use Rattle.simplex_voter.proofs.Worked.{marked_alike}
use Rattle.simplex_voter.proofs.voter.rounds.Rounds.mark.Goals as goal

pub invariant_of-self-2 : goal.invariant_of-self-2
invariant_of-self-2 g c = kept_changed _ _ refl c.self.invariant _ _ _ c.in-Some.ensures.value
    (marked_alike _ _ c.verified.ensures.facts)

pub returns-in_default-clause-first : goal.returns-in_default-clause-first
returns-in_default-clause-first g c =
    ap (λ o. option_map_or (λ r. not (is_nullify r.decision) && is_unverified r.slot) o false)
    (c.in_default.ensures.value
    ∙ sym (found_at c.args.self.now _ (sym (ap (λ x. x.by_view) c.self.view_is)) c.args.view))

pub returns-in_default-clause-marked : goal.returns-in_default-clause-marked
returns-in_default-clause-marked g c = rw (← c.self.view_is) (untouched _ _ refl _ with_mark c.in_default.ensures.value)

pub returns-clause-first : goal.returns-clause-first
returns-clause-first g c =
    c.verified.ensures.marked
    ∙ ap (λ o. option_map_or (λ r. not (is_nullify r.decision) && is_unverified r.slot) o false)
    (c.in-Some.ensures.value ∙ sym (found_at c.args.self.now _ (sym (ap (λ x. x.by_view) c.self.view_is)) c.args.view))

pub returns-clause-marked : goal.returns-clause-marked
returns-clause-marked g c = rw (← c.self.view_is)
    (changed_there _ _ refl _ _ _ with_mark c.in-Some.ensures.value c.verified.ensures.facts)
