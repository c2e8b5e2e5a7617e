-- How the contract of `certify_candidates` follows: the views that wait are the candidates, and are forgotten once
-- offered; running out of memory fails it.
use Rattle.std.proofs.Common.{refl, ap, sym}
use Rattle.simplex_voter.proofs.Faults.{failed_here}
use Rattle.simplex_voter.proofs.UncertifiedViews.{candidates_shown, forgotten_shown}
use Rattle.simplex_voter.proofs.voter.state.State.certify_candidates.Goals as goal

pub returns-in-Ok-clause-answer : goal.returns-in-Ok-clause-answer
returns-in-Ok-clause-answer g c =
    let shown = sym (ap (λ x. x.named) c.self.view_is) in
    candidates_shown g.D.PartialEq.eq g.L.Elector.elect c.args.self.now c.self.inside.candidates c.zero.result
    c.at_or_above.result c.in-Ok.candidates.0.items c.in-Ok.candidates.1.items shown c.zero.ensures
    c.at_or_above.ensures c.in-Ok.ensures.offers c.in-Ok.ensures.fetches

pub returns-in-Ok-clause-after : goal.returns-in-Ok-clause-after
returns-in-Ok-clause-after g c = rw (← c.self.view_is) (forgotten_shown _ c.self.inside.candidates _ refl c.new.ensures)

pub returns-in-Err-clause-out_of_memory : goal.returns-in-Err-clause-out_of_memory
returns-in-Err-clause-out_of_memory g c none = (c.in-Err.ensures.refused, failed_here _ _ c.fail.ensures)
