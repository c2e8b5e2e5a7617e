-- How the contract of `take_u32` follows: the first four bytes are those of the number.
use Rattle.std.proofs.Common.{arith}
use Rattle.simplex_codec.proofs.Numbers.{front_4}
use Rattle.simplex_codec.proofs.parts.take_u32.Goals as goal

pub returns-clause-parts : goal.returns-clause-parts
returns-clause-parts c =
    let split = c.in_ok-front.ensures.cases in
    front_4 c.args.bytes.now c.in_ok-front.front.now c.in_ok-front.rest.now c.from_be_bytes.result
    (λ i. omega (arith, c.type_inv.bytes i)) (omega (arith, split.2)) split.0 split.1 c.from_be_bytes.ensures
