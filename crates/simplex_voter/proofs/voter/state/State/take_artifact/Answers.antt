-- How the contract of `take_artifact` follows: restoring the round and the sets keeps the setup.
use Rattle.simplex_voter.proofs.CarriedLeaders.{same_setup_joins}
use Rattle.simplex_voter.proofs.voter.state.State.take_artifact.Goals as goal

pub returns-in_err-restore_sets-clause-setup : goal.returns-in_err-restore_sets-clause-setup
returns-in_err-restore_sets-clause-setup g c =
    same_setup_joins _ _ _ c.restore_round.ensures.setup c.restore_sets.ensures.setup

pub returns-in-Notarize-clause-setup : goal.returns-in-Notarize-clause-setup
returns-in-Notarize-clause-setup g c = same_setup_joins _ _ _
    (same_setup_joins _ _ _ c.restore_round.ensures.setup c.restore_sets.ensures.setup)
    c.prepare_optimistic_successor.ensures.setup

pub returns-in_default-clause-setup : goal.returns-in_default-clause-setup
returns-in_default-clause-setup g c = same_setup_joins _ _ _ c.restore_round.ensures.setup c.restore_sets.ensures.setup
