-- How the contract of `close_verification` follows: the verifications that are left are those of other views.
use Rattle.std.proofs.Common.{refl}
use Rattle.simplex_member.proofs.OpenRequests.{views-others}
use Rattle.simplex_member.proofs.member.outstanding_work.OutstandingWork.close_verification.Goals as goal

pub returns-clause-closed : goal.returns-clause-closed
returns-clause-closed g c =
    rw (← c.self.view_is, c.remove.ensures.entries, views-others c.self.inside.verifying.entries c.args.view) refl
