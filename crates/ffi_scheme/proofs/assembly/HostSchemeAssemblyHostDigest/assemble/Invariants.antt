-- The loop of `assemble`: the signatures so far.
use Rattle.std.proofs.Common.{◌≡◌, take}
use Rattle.ffi_scheme.specs.HostCertificates.{signed_bytes}
use Rattle.ffi_scheme.proofs.assembly.HostSchemeAssemblyHostDigest.assemble.Given as goal

abbrev pub invariant-loop-member : goal.invariant-loop-member
invariant-loop-member l = l.out.items ≡ signed_bytes (take l.member-index l.signatures)
