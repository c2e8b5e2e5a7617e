-- What is left was stored, and is not of a view below.
use Rattle.engine_votes.proofs.Given.{forgotten_given}
use Rattle.engine_votes.proofs.KeptVotes.{forgotten_other, forgotten_from}
use Rattle.engine_votes.proofs.batcher.Batcher.forget.Goals as goal

pub returns-clause-given : goal.returns-clause-given
returns-clause-given g c = λ given are.
    forgotten_given given c.args.self.now (record c.args.self.now
    { notarize = c.drop_below.new.self; nullify = c.drop_below-2.new.self; finalize = c.drop_below-3.new.self }) are
    c.args.lowest (c.drop_below.ensures, c.drop_below-2.ensures, c.drop_below-3.ensures)

pub returns-clause-lowest : goal.returns-clause-lowest
returns-clause-lowest g c =
    forgotten_from c.args.self.now (record c.args.self.now
    { notarize = c.drop_below.new.self; nullify = c.drop_below-2.new.self; finalize = c.drop_below-3.new.self })
    c.args.lowest (c.drop_below.ensures, c.drop_below-2.ensures, c.drop_below-3.ensures)

pub returns-clause-fewer : goal.returns-clause-fewer
returns-clause-fewer g c =
    forgotten_other c.args.self.now (record c.args.self.now
    { notarize = c.drop_below.new.self; nullify = c.drop_below-2.new.self; finalize = c.drop_below-3.new.self })
    c.args.lowest (c.drop_below.ensures, c.drop_below-2.ensures, c.drop_below-3.ensures)
