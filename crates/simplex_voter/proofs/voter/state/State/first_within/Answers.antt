-- How the contract of `first_within` follows: the first of the views in the range is the lowest.
use Rattle.std.proofs.Common.{slice_get, ap, sym, ◌∙◌}
use Rattle.std.specs.Prelude.{option_map}
use Rattle.simplex_voter.proofs.voter.state.State.first_within.Goals as goal

pub returns-in-Some-clause-found : goal.returns-in-Some-clause-found
returns-in-Some-clause-found g c = ap (λ es. option_map (λ e. e.0) (slice_get es 0))
    (sym c.in-Some.ensures ∙ c.views_within.ensures.within)

pub returns-in-None-clause-found : goal.returns-in-None-clause-found
returns-in-None-clause-found g c = ap (λ es. option_map (λ e. e.0) (slice_get es 0))
    (sym c.in-None.ensures.0 ∙ c.views_within.ensures.within)
