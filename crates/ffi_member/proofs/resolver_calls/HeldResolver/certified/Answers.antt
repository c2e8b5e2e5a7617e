-- How the contract of `certified` follows: a refused certificate loses the stored effects, and passes nothing.
use Rattle.std.proofs.Common.{inr}
use Rattle.ffi_member.proofs.resolver_calls.HeldResolver.certified.Goals as goal

pub returns-in-Err : goal.returns-in-Err
returns-in-Err c = (
  inr (
    c.in-Err.fault,
    c.lose.ensures.received,
    rw c.lose.ensures.kept.0 c.in-Err.ensures.refused,
    c.lose.ensures.none,
  ),
  c.lose.ensures.kept.1,
)
