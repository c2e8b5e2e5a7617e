-- How the contract of `put_round_vote` follows: the kind, the signer, the round and the signature come one after
-- another.
use Rattle.std.proofs.Common.{ap, ◌∙◌, ◌++◌, ◌∷◌, []}
use Rattle.std.specs.Int.{w32, to_be_bytes}
use Rattle.simplex_types.specs.Encoding.{round_bytes}
use Rattle.simplex_codec.proofs.Appended.{appended}
use Rattle.simplex_codec.proofs.fields.put_round_vote.Goals as goal

pub returns-clause-bytes : goal.returns-clause-bytes
returns-clause-bytes g c =
    let signer = to_be_bytes w32 c.args.signer in
    let front = round_bytes c.args.round in
    let own = g.S.SchemeCodec.signature_bytes c.args.signature.now in
    appended c.args.out.now.items c.put_u8.new.self.items c.write_signature.new.out.items (c.args.kind ∷ [])
    (signer ++ (front ++ own))
    c.in_ok-put_u8.ensures.ok
    (appended c.put_u8.new.self.items c.put_u32.new.self.items c.write_signature.new.out.items signer (front ++ own)
    (c.in_ok-put_u32.ensures.ok ∙ ap (λ n. c.put_u8.new.self.items ++ to_be_bytes w32 n) c.get.ensures)
    (appended c.put_u32.new.self.items c.put_round.new.out.items c.write_signature.new.out.items front own
    c.in_ok-put_round.ensures.written c.in_ok-write_signature.ensures.written))
