-- How the contract of `latch` follows: the round at the view is latched, and an untracked one has no timeout.
use Rattle.std.proofs.Common.{refl, ap, sym, ◌∙◌, inl}
use Rattle.std.specs.Prelude.{◌&&◌, is_some, unwrap_or}
use Rattle.simplex_round.specs.Round.{awaits_latch, new_round, with_latch}
use Rattle.simplex_voter.specs.Rounds.{round_id}
use Rattle.simplex_voter.proofs.Changed.{found_at, kept_changed, changed_there, untouched}
use Rattle.simplex_voter.proofs.voter.rounds.Rounds.latch.Goals as goal

pub invariant_of-self-2 : goal.invariant_of-self-2
invariant_of-self-2 g c = kept_changed _ _ refl c.self.invariant _ _ _ c.in-Some.ensures.value
    (rw c.latch_timeout.ensures.latched (record {
      me = refl;
      members = refl;
      round = refl;
      notarization = refl;
      leader = refl;
      explicit = inl;
      under_way = inl;
      refused = inl;
    }))

pub returns-in_default-clause-latched : goal.returns-in_default-clause-latched
returns-in_default-clause-latched g c = rw (← c.self.view_is)
    (untouched _ _ refl _ (λ r. with_latch r c.args.now c.args.reason) c.in_default.ensures.value)

pub returns-clause-latched : goal.returns-clause-latched
returns-clause-latched g c = rw (← c.self.view_is)
    (changed_there _ _ refl _ _ _ (λ r. with_latch r c.args.now c.args.reason) c.in-Some.ensures.value
    c.latch_timeout.ensures.latched)

pub returns-in_default-clause-answer : goal.returns-in_default-clause-answer
returns-in_default-clause-answer g c =
    let x = c.args.self.now in
    let here = c.in_default.ensures.value ∙ sym (found_at x _ (sym (ap (λ x. x.by_view) c.self.view_is)) c.args.view) in
    ap (λ found. is_some found && awaits_latch (unwrap_or found (new_round x.me x.members (round_id x c.args.view))))
    here

pub returns-clause-answer : goal.returns-clause-answer
returns-clause-answer g c =
    let x = c.args.self.now in
    let here = c.in-Some.ensures.value ∙ sym (found_at x _ (sym (ap (λ x. x.by_view) c.self.view_is)) c.args.view) in
    c.latch_timeout.ensures.answer ∙ ap (λ found.
    is_some found && awaits_latch (unwrap_or found (new_round x.me x.members (round_id x c.args.view)))) here
