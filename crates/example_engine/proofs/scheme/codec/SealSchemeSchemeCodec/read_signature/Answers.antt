-- How the contract of `read_signature` follows: four bytes of a key, eight of a sum, and nothing after them.
use Rattle.std.proofs.Common.{ap, sym, ◌∙◌, ◌++◌, arith}
use Rattle.std.specs.Int.{w32, w64, to_be_bytes}
use Rattle.simplex_codec.proofs.Numbers.{IsBytes, front_4, front_8, none_left}
use Rattle.example_engine.proofs.Numbers.{rest_fits}
use Rattle.example_engine.proofs.scheme.codec.SealSchemeSchemeCodec.read_signature.Goals as goal

pub returns-clause-same_bytes : goal.returns-clause-same_bytes
returns-clause-same_bytes c =
    let bytes = c.args.bytes.now in
    let rest = c.in-Some.rest.now in
    let first = c.in-Some.ensures.cases in
    let second = c.in-Some-split_first_chunk.ensures.cases in
    let fits : IsBytes bytes = λ i. omega (arith, c.type_inv.bytes i) in
    let key = front_4 bytes c.in-Some.key.now rest c.from_be_bytes.result fits (omega (arith, first.2)) first.0 first.1
    c.from_be_bytes.ensures in
    let sum = front_8 rest c.in-Some-split_first_chunk.sum.now c.in-Some-split_first_chunk.rest.now
    c.from_be_bytes-2.result (rest_fits bytes rest 4 fits first.1) (omega (arith, second.2)) second.0 second.1
    c.from_be_bytes-2.ensures in
    let none = none_left c.in-Some-split_first_chunk.rest.now (sym c.is_empty.ensures ∙ c.if-not-is_empty.false) in
    sym (key ∙ ap (λ xs. to_be_bytes w32 c.from_be_bytes.result ++ xs)
    (sum ∙ ap (λ xs. to_be_bytes w64 c.from_be_bytes-2.result ++ xs) none))
