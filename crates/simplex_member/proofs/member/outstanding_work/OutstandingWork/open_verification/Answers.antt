-- How the contract of `open_verification` follows: a proposal that is ready puts its view among the verifications.
use Rattle.std.proofs.Common.{refl}
use Rattle.simplex_voter.proofs.Containers.{keys-put}
use Rattle.simplex_member.proofs.member.outstanding_work.OutstandingWork.open_verification.Goals as goal

pub returns-in-Ready : goal.returns-in-Ready
returns-in-Ready g c =
    rw (← c.self.view_is, c.in-Ready.is, c.put.ensures.entries, keys-put c.self.inside.verifying.entries _ tt) refl
