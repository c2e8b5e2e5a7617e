-- How the contract of `has_conflicting_nullify` follows: the highest nullify vote below the view in its term decides,
-- and without one there is none.
use Rattle.std.proofs.Common.{◌∙◌, refl}
use Rattle.simplex_voter.proofs.Gate.{gated_by, not_gated}
use Rattle.simplex_voter.proofs.voter.state.State.has_conflicting_nullify.Goals as goal

-- the highest vote in reach decides
pub returns-in-Some : goal.returns-in-Some
returns-in-Some g c = c.gt.ensures ∙ rw (← c.self.view_is)
    (gated_by _ c.self.inside.nullify_votes c.args.view refl c.self.invariant.nullify_votes _ c.in-Some.ensures)

pub returns-in-None : goal.returns-in-None
returns-in-None g c = rw (← c.self.view_is)
    (not_gated _ c.self.inside.nullify_votes c.args.view refl c.self.invariant.nullify_votes c.in-None.ensures)
