-- How the contract of `put_proposal` follows: the round, the parent and the payload come one after another.
use Rattle.std.proofs.Common.{ap, ◌∙◌, ◌++◌}
use Rattle.std.specs.Int.{w64, to_be_bytes}
use Rattle.simplex_types.specs.Encoding.{round_bytes}
use Rattle.simplex_codec.proofs.Appended.{appended}
use Rattle.simplex_codec.proofs.fields.put_proposal.Goals as goal

pub returns-clause-written : goal.returns-clause-written
returns-clause-written g c =
    let proposal = c.args.proposal.now in
    let fronts = appended c.args.out.now.items c.put_round.new.out.items c.put_u64.new.self.items
    (round_bytes proposal.round) (to_be_bytes w64 proposal.parent)
    c.in_ok-put_round.ensures.written
    (c.in_ok-put_u64.ensures.ok ∙ ap (λ n. c.put_round.new.out.items ++ to_be_bytes w64 n) c.get.ensures) in
    appended c.args.out.now.items c.put_u64.new.self.items c.put_slice.new.self.items
    (round_bytes proposal.round ++ to_be_bytes w64 proposal.parent) (g.D.Digest.bytes proposal.payload)
    fronts
    (c.in_ok-put_slice.ensures.ok ∙ ap (λ bytes. c.put_u64.new.self.items ++ bytes) c.as_bytes.ensures)
