-- How the contract of `write_signature` follows: the key's four bytes and the sum's eight come after the others.
use Rattle.std.specs.Int.{w32, w64, to_be_bytes}
use Rattle.example_engine.proofs.Numbers.{appended}
use Rattle.example_engine.proofs.scheme.codec.SealSchemeSchemeCodec.write_signature.Goals as goal

pub returns-clause-written : goal.returns-clause-written
returns-clause-written c =
    appended c.args.out.now.items c.put_u32.new.self.items (to_be_bytes w32 c.args.signature.now.key.number)
    (to_be_bytes w64 c.args.signature.now.sum)
    c.put_u64.result c.put_u64.new.self.items c.in_ok-put_u32.ensures.ok c.put_u64.ensures.ok
