-- The loop of `are_members`: the signers that are left, above the last one, decide.
use Rattle.std.proofs.Common.{◌≡◌, drop}
use Rattle.example_engine.specs.MemberIndexes.{are_members}
use Rattle.example_engine.proofs.scheme.are_members.Given as goal

abbrev pub invariant-loop-signer : goal.invariant-loop-signer
invariant-loop-signer l = are_members l.count l.low (drop l.signer-index l.signers) ≡ are_members l.count 0 l.signers
