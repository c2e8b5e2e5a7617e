-- How the contract of `put_signature` follows: the bytes written come after those written before.
use Rattle.std.specs.Int.{w32, w64, to_be_bytes}
use Rattle.std.proofs.Common.{length}
use Rattle.ffi_scheme.proofs.Signed.{three_behind}
use Rattle.ffi_scheme.proofs.assembly.put_signature.Goals as goal

pub returns : goal.returns
returns c =
    let text = c.args.order.now.text in
    let first = rw c.get.ensures at c.in_ok-put_u32.ensures.ok in
    let second = rw c.len.ensures.value at c.in_ok-put_u64.ensures.ok in
    let third = rw c.as_slice.ensures at c.put_slice.ensures.ok in
    rw (three_behind c.args.out.now.items (to_be_bytes w32 c.args.member) (to_be_bytes w64 (length text)) text
    c.put_u32.new.self.items c.put_u64.new.self.items first second) at third
