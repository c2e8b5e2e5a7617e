-- How the contract of `new` follows: nothing is open in empty lists.
use Rattle.std.proofs.Common.{refl}
use Rattle.simplex_voter.proofs.RoundsKept.{keys_empty}
use Rattle.simplex_member.proofs.member.outstanding_work.OutstandingWork.new.Goals as goal

pub returns : goal.returns
returns g c = rw (c.new.ensures, c.new-2.ensures, keys_empty c.new-3.result c.new-3.ensures) refl
