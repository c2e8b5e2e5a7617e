-- How the contract of `name_for_certification` follows: a view above the last finalized one is put among those that
-- wait.
use Rattle.std.proofs.Common.{refl}
use Rattle.simplex_voter.proofs.Shown.{on_ok, not_le}
use Rattle.simplex_voter.proofs.UncertifiedViews.{named_shown}
use Rattle.simplex_voter.proofs.voter.state.State.name_for_certification.Goals as goal

pub returns-clause-named : goal.returns-clause-named
returns-clause-named g c =
    rw (← c.self.view_is) (on_ok c.add_candidate.result (named_shown _ _ _ _ refl (not_le _ _ c.if-le.ensures))
    c.add_candidate.ensures.named)
