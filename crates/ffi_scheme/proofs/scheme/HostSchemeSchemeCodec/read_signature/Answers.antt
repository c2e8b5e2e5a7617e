-- How the contract of `read_signature` follows: four bytes of an index, and the text after them.
use Rattle.std.proofs.Common.{ap, sym, ◌∙◌, ◌++◌, arith}
use Rattle.std.specs.Int.{w32, to_be_bytes}
use Rattle.simplex_codec.proofs.Numbers.{front_4}
use Rattle.ffi_scheme.proofs.scheme.HostSchemeSchemeCodec.read_signature.Goals as goal

pub returns-clause-same_bytes : goal.returns-clause-same_bytes
returns-clause-same_bytes c =
    let split = c.in-Some.ensures.cases in
    let parts = front_4 c.args.bytes.now c.in-Some.index.now c.in-Some.text.now c.from_be_bytes.result
    (λ i. omega (arith, c.type_inv.bytes i)) (omega (arith, split.2)) split.0 split.1 c.from_be_bytes.ensures in
    ap (λ xs. to_be_bytes w32 c.from_be_bytes.result ++ xs) c.in_ok-copy_from_slice.ensures ∙ sym parts
