-- The loop of `checksum`: the sum so far and the bytes that are left make the whole sum, in 32 bits.
use Rattle.std.proofs.Common.{◌≡◌, ◌<◌, ◌^◌, drop}
use Rattle.example_engine.specs.Checksum.{checksum_from}
use Rattle.example_engine.proofs.checksum.checksum.Given as goal

abbrev pub invariant-loop-byte : goal.invariant-loop-byte
invariant-loop-byte l = record {
  value : checksum_from l.sum (drop l.byte-index l.bytes) ≡ checksum_from l.fn.seed l.bytes;
  in_range : l.sum < 2 ^ 32;
}
