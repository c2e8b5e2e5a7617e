-- How the contract of `down_from` follows: no view above the bound is explicit, so those above it may be left out.
use Rattle.std.proofs.Common.{◌+◌, ◌<◌, nat_lt, filter, ap, ◌∙◌, arith}
use Rattle.simplex_view_maps.proofs.Gaps.{lt_yes}
use Rattle.simplex_view_maps.proofs.Maps.{entries-retain_keys}
use Rattle.simplex_voter.specs.Rounds.{find_round}
use Rattle.simplex_voter.proofs.Changed.{none_explicit_above}
use Rattle.simplex_voter.proofs.voter.rounds.Rounds.down_from.Goals as goal

pub returns-then-lt : goal.returns-then-lt
returns-then-lt g c =
    let above : c.self.inside.bounds.explicit < c.args.view =
    lt_yes c.self.inside.bounds.explicit c.args.view c.if-lt.ensures in
    let end = c.self.inside.bounds.explicit + 1 in
    record {
      end = end;
      entries = c.up_to.ensures ∙ entries-retain_keys c.self.inside.by_view (λ u. nat_lt u end)
          ∙ ap (λ x. filter (λ e. nat_lt e.0 end) x.by_view) c.self.view_is;
      not_above = omega (arith, above);
      above = λ w low high. omega arith;
      rest = λ w r low high found. none_explicit_above _ c.self.invariant w r (omega (arith, low))
          (ap (λ x. find_round x w) c.self.view_is ∙ found);
    }

pub returns-else-lt : goal.returns-else-lt
returns-else-lt g c = record {
  end = c.args.view;
  entries = c.below.ensures ∙ entries-retain_keys c.self.inside.by_view (λ u. nat_lt u c.args.view)
      ∙ ap (λ x. filter (λ e. nat_lt e.0 c.args.view) x.by_view) c.self.view_is;
  not_above = omega arith;
  above = λ w low high. absurd (omega arith);
  rest = λ w r low high found. absurd (omega arith);
}
