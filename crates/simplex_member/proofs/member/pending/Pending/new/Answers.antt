-- How the contract of `new` follows: no newest value and no others are no entries.
use Rattle.std.proofs.Common.{refl}
use Rattle.simplex_voter.proofs.RoundsKept.{entries_empty}
use Rattle.simplex_member.proofs.member.pending.Pending.new.Goals as goal

pub returns : goal.returns
returns g c = rw (entries_empty c.new.result c.new.ensures) refl
