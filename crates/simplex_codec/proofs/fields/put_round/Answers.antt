-- How the contract of `put_round` follows: the epoch and the view come one after the other, eight bytes each.
use Rattle.std.proofs.Common.{ap, ◌∙◌, ◌++◌}
use Rattle.std.specs.Int.{w64, to_be_bytes}
use Rattle.simplex_codec.proofs.Appended.{appended}
use Rattle.simplex_codec.proofs.fields.put_round.Goals as goal

pub returns-clause-written : goal.returns-clause-written
returns-clause-written c =
    appended c.args.out.now.items c.put_u64.new.self.items c.put_u64-2.new.self.items
    (to_be_bytes w64 c.args.round.epoch) (to_be_bytes w64 c.args.round.view)
    (c.in_ok-put_u64.ensures.ok ∙ ap (λ n. c.args.out.now.items ++ to_be_bytes w64 n) c.get.ensures)
    (c.in_ok-put_u64-2.ensures.ok ∙ ap (λ n. c.put_u64.new.self.items ++ to_be_bytes w64 n) c.get-2.ensures)
