-- How the contract of `has_notarized_between` follows: some entry of the part between is notarized exactly where some
-- round between is.
use Rattle.std.proofs.Common.{ap, ◌∙◌, ◌&&◌, nat_lt}
use Rattle.std.specs.Prelude.{nat_le}
use Rattle.std.specs.List.{list_any}
use Rattle.simplex_voter.specs.Windows.{is_notarized}
use Rattle.simplex_voter.proofs.Between.{any_between}
use Rattle.simplex_voter.proofs.voter.rounds.Rounds.has_notarized_between.Goals as goal

pub returns : goal.returns
returns g c =
    c.has_notarized.ensures ∙ ap (list_any (λ e. is_notarized e.1)) c.between.ensures ∙ any_between _ _ _ is_notarized
    ∙ ap (λ x. list_any (λ e. nat_le c.args.from e.0 && nat_lt e.0 c.args.to && is_notarized e.1) x.by_view)
    c.self.view_is
