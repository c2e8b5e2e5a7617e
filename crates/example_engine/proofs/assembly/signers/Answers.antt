-- How the loop of `signers` is safe: each signer is a member, so its index fits in a byte.
use Rattle.std.proofs.Common.{ap, arith}
use Rattle.example_engine.proofs.MemberIndexes.{rising_below}
use Rattle.example_engine.proofs.assembly.signers.Goals as goal

pub overflow_cast-get : goal.overflow_cast-get
overflow_cast-get c =
    let signatures = c.args.signatures.now in
    let below = rising_below c.args.members 0 signatures c.loop-member.member-index c.loop-member-item.result
    c.requires.rising c.loop-member-test.true in
    let same = ap (λ signed. signed.0) c.loop-member-item.is in
    omega (arith, below, same, c.get.ensures, c.requires.few)
