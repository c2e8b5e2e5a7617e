-- The loop of `signers`: the indexes of the members so far.
use Rattle.std.proofs.Common.{◌≡◌, take}
use Rattle.example_engine.specs.SealedCertificates.{signers_of}
use Rattle.example_engine.proofs.assembly.signers.Given as goal

abbrev pub invariant-loop-member : goal.invariant-loop-member
invariant-loop-member l = l.signers.items ≡ signers_of (take l.member-index l.signatures)
