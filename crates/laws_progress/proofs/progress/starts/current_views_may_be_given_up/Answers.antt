-- nothing else but a decision to finalize bars the vote
use Rattle.std.proofs.Common.{refl, arith}
use Rattle.simplex_voter.proofs.Rules.{nullify_whole}
use Rattle.laws_progress.proofs.progress.starts.current_views_may_be_given_up.Goals as goal

pub returns : goal.returns
returns g c term_length i s ran x lives =
    nullify_whole x x.current (record {
      current = refl;
      no_finalize = c.none_is_decided_ahead.ensures term_length i s ran x lives x.current (omega arith);
    })
