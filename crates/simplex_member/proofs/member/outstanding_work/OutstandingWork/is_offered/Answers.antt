-- How the contract of `is_offered` follows: a look-up finds a view exactly if it is among the offers.
use Rattle.std.proofs.Common.{sym, ap, ◌∙◌, is_some}
use Rattle.simplex_voter.proofs.RoundsKept.{copied_some}
use Rattle.simplex_member.proofs.OpenRequests.{among-keys}
use Rattle.simplex_member.proofs.member.outstanding_work.OutstandingWork.is_offered.Goals as goal

pub returns : goal.returns
returns g c = rw (← c.self.view_is) (c.is_some.ensures ∙ sym (copied_some c.get.result) ∙ ap is_some c.get.ensures
    ∙ among-keys c.self.inside.offered c.args.view)
