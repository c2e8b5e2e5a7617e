-- How the contract of `nullify_view` follows: the view is put among the nullified ones.
use Rattle.std.proofs.Common.{refl}
use Rattle.simplex_voter.proofs.Shown.{on_ok, nullified_shown}
use Rattle.simplex_voter.proofs.voter.state.State.nullify_view.Goals as goal

pub returns-clause-noted : goal.returns-clause-noted
returns-clause-noted g c = rw (← c.self.view_is)
    (on_ok c.insert_view.result (nullified_shown _ _ _ _ refl) c.insert_view.ensures.noted)
