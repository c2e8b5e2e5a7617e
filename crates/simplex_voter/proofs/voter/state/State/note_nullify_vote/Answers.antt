-- How the contract of `note_nullify_vote` follows: the view is put among the nullify votes.
use Rattle.std.proofs.Common.{refl}
use Rattle.simplex_voter.proofs.Shown.{on_ok, nullify_vote_shown}
use Rattle.simplex_voter.proofs.voter.state.State.note_nullify_vote.Goals as goal

pub returns-clause-noted : goal.returns-clause-noted
returns-clause-noted g c = rw (← c.self.view_is)
    (on_ok c.insert_view.result (nullify_vote_shown _ _ _ _ refl) c.insert_view.ensures.noted)
