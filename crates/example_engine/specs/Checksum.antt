-- A sum over bytes.
use Rattle.std.specs.Prelude.{ℕ, List, [], ◌∷◌, ◌+◌, ◌*◌, ◌%◌, ◌^◌}
use Rattle.std.specs.Int.{w64, to_be_bytes}

-- each byte is appended to the sum so far
abbrev pub checksum_from : ℕ → List ℕ → ℕ
checksum_from sum [] = sum
checksum_from sum (byte ∷ bytes) = checksum_from ((sum * 65599 + byte) % 4294967291) bytes

-- a block's number, from its parent's digest, its view, and which of the leader's blocks it is
abbrev pub block_number : List ℕ → ℕ → ℕ → ℕ
block_number parent view choice =
    let low = checksum_from (checksum_from (choice % 1000 + 1) parent) (to_be_bytes w64 view) in
    checksum_from low parent * 2 ^ 32 + low
