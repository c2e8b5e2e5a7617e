-- How the contract of `deadlines_above` follows: a finalization that is not refused is of a small view, so there is a
-- next one with deadlines.
use Rattle.std.proofs.Common.{◌+◌, ap, sym, ◌∙◌}
use Rattle.simplex_voter.specs.Refusals.{names_too_large, enters_late}
use Rattle.simplex_voter.proofs.Faults.{none_due, small_view}
use Rattle.simplex_voter.proofs.voter.state.State.deadlines_above.Goals as goal

pub returns-in-Some-clause-taken : goal.returns-in-Some-clause-taken
returns-in-Some-clause-taken g c =
    let x = c.args.self.now in
    let p = c.args.finalization.now.proposal in
    let next = c.next.ensures ∙ ap (λ u. u + 1) c.view.ensures in (
      none_due x.failed (names_too_large p) (enters_late x c.next.result c.args.now)
          (enters_late x (p.round.view + 1) c.args.now) c.if-is_failed.ensures c.if-names_too_large.ensures
          (sym (ap (λ n. enters_late x n c.args.now) next)) c.in-Some.ensures.late.1,
      small_view p.round.view p.parent c.if-names_too_large.ensures,
    )
