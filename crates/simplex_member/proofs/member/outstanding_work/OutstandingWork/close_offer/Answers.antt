-- How the contract of `close_offer` follows: the offers that are left are those of other views.
use Rattle.std.proofs.Common.{refl}
use Rattle.simplex_member.proofs.OpenRequests.{keys-others}
use Rattle.simplex_member.proofs.member.outstanding_work.OutstandingWork.close_offer.Goals as goal

pub returns-clause-closed : goal.returns-clause-closed
returns-clause-closed g c = rw (← c.self.view_is, c.remove.ensures, keys-others c.self.inside.offered c.args.view) refl
