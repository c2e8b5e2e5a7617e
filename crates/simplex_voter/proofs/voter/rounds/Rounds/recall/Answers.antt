-- How the contract of `recall` follows: the view is tracked and the bounds allow the entry before the round has it.
use Rattle.std.proofs.Common.{◌∙◌, sym, subst, refl}
use Rattle.simplex_types.specs.Proposal.{same_proposal}
use Rattle.simplex_round.specs.Round.{TakesArtifact, after_replay}
use Rattle.simplex_voter.specs.Replay.{bound_again}
use Rattle.simplex_voter.proofs.RoundChanges.{recalled_alike}
use Rattle.simplex_voter.proofs.Changed.{never_none, lent_tracked, wider_kept, kept_changed, changed_tracked}
use Rattle.simplex_voter.proofs.voter.rounds.Rounds.recall.Goals as goal

pub unreachable-requires : goal.unreachable-requires
unreachable-requires g c = never_none _ _ _ (c.self.view_is ∙ c.in_ok-track.ensures.tracked) _ refl
    c.in_default.ensures.value

pub invariant_of-self : goal.invariant_of-self
invariant_of-self g c = wider_kept _ c.allow_recalled.ensures.wider c.self.invariant

pub invariant_of-self-2 : goal.invariant_of-self-2
invariant_of-self-2 g c =
    kept_changed _ _ refl (wider_kept _ c.allow_recalled.ensures.wider c.self.invariant) _ _ _ c.in-Some.ensures.value
    (recalled_alike (same_proposal g.D.PartialEq.eq) _ _ c.args.artifact.now c.args.binding
    c.in_ok-allow_recalled.ensures.recalled c.recall_round.ensures)

pub returns-clause-recalled : goal.returns-clause-recalled
returns-clause-recalled g c =
    changed_tracked _ _ _ (c.self.view_is ∙ c.in_ok-track.ensures.tracked) _ refl _ _
    (λ r. bound_again (after_replay (same_proposal g.D.PartialEq.eq) r c.args.artifact.now) c.args.binding)
    c.in-Some.ensures.value c.recall_round.ensures

pub recall_round-requires : goal.recall_round-requires
recall_round-requires g c =
    let lent = lent_tracked _ _ _ (c.self.view_is ∙ c.in_ok-track.ensures.tracked) _ refl _ c.in-Some.ensures.value in
    subst (λ r. TakesArtifact r c.args.artifact.now) (sym lent) c.requires.taken
