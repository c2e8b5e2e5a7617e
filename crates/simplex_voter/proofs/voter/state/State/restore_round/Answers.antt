-- How the contract of `restore_round` follows: the round takes the artifact with the binding that the record's vote
-- had.
use Rattle.simplex_voter.proofs.Recalled.{restored_on_ok}
use Rattle.simplex_voter.proofs.voter.state.State.restore_round.Goals as goal

pub returns-clause-restored : goal.returns-clause-restored
returns-clause-restored g c =
    restored_on_ok c.recall.result g.D.PartialEq.eq c.args.self.now c.recall.new.self c.args.artifact.now c.view.result
    c.binding_of-binding.result c.view.ensures c.binding_of-binding.ensures c.recall.ensures.recalled
