-- How the contract of `front_of` follows: fewer bytes than a chunk has room for are all of them.
use Rattle.std.proofs.Common.{sym, arith}
use Rattle.std.proofs.lemmas.List.{take_all}
use Rattle.ffi_member.proofs.views.front_of.Goals as goal

pub returns-in-None-clause-part : goal.returns-in-None-clause-part
returns-in-None-clause-part c =
    sym (take_all 1024 c.args.bytes.now (omega (arith, rw c.in-None.is at c.split_at_checked.ensures.cases)))
