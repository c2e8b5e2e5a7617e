-- How the loop of `assemble` continues: one more signature comes after those before it.
use Rattle.std.proofs.Common.{sym}
use Rattle.ffi_scheme.proofs.Signed.{signed_more}
use Rattle.ffi_scheme.proofs.assembly.HostSchemeAssemblyHostDigest.assemble.Goals as goal

pub loop-member-preserved : goal.loop-member-preserved
loop-member-preserved c =
    signed_more c.args.signatures.now c.loop-member.member-index c.loop-member-item.result c.loop-member.out.items _
    c.loop-member-test.true (sym c.loop-member-item.is) c.loop-member.invariant c.in_ok-put_signature.ensures
