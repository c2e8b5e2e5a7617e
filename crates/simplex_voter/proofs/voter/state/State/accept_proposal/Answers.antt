-- How the contract of `accept_proposal` follows: preparing the next view first keeps the round of the proposal as it
-- was.
use Rattle.std.proofs.Common.{ap, ◌∙◌}
use Rattle.simplex_voter.specs.Facts.{round_of}
use Rattle.simplex_voter.specs.Verification.{is_new_proposal}
use Rattle.simplex_voter.proofs.Kept.{if_ok}
use Rattle.simplex_voter.proofs.Proposals.{round_of-prepared}
use Rattle.simplex_voter.proofs.CarriedLeaders.{same_setup_joins}
use Rattle.simplex_voter.proofs.voter.state.State.accept_proposal.Goals as goal

pub returns-clause-answer : goal.returns-clause-answer
returns-clause-answer g c =
    if_ok c.take_proposal.result
    (λ first is. is ∙ ap (λ y. is_new_proposal (round_of y c.args.view))
    c.in_ok-prepare_optimistic_successor.ensures.prepared
    ∙ ap is_new_proposal (round_of-prepared g.L.Elector.elect c.args.self.now c.args.view))
    c.take_proposal.ensures.answer

pub returns-clause-setup : goal.returns-clause-setup
returns-clause-setup g c = same_setup_joins _ _ _ c.prepare_optimistic_successor.ensures.setup
    c.take_proposal.ensures.setup
