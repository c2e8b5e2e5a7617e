-- How the contract of `is_verifying` follows: a look-up finds a view exactly if it is among the verifications.
use Rattle.std.proofs.Common.{sym, ap, ◌∙◌, is_some}
use Rattle.simplex_voter.proofs.RoundsKept.{copied_some}
use Rattle.simplex_member.proofs.OpenRequests.{among-views}
use Rattle.simplex_member.proofs.member.outstanding_work.OutstandingWork.is_verifying.Goals as goal

pub returns : goal.returns
returns g c = rw (← c.self.view_is) (c.is_some.ensures ∙ sym (copied_some c.get.result) ∙ ap is_some c.get.ensures
    ∙ among-views c.self.inside.verifying.entries c.args.view)
