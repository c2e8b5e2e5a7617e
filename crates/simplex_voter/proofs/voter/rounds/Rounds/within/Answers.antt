-- How the contract of `within` follows: the entries of the map in the range are the rounds there, by rising view.
use Rattle.std.proofs.Common.{ap, sym}
use Rattle.simplex_voter.proofs.Scans.{within_shown, in_order}
use Rattle.simplex_voter.proofs.voter.rounds.Rounds.within.Goals as goal

pub returns-clause-within : goal.returns-clause-within
returns-clause-within g c = within_shown c.args.self.now.by_view c.self.inside.by_view
    (sym (ap (λ x. x.by_view) c.self.view_is)) c.args.low c.args.high _ _ c.next.ensures c.between.ensures

pub returns-clause-ordered : goal.returns-clause-ordered
returns-clause-ordered g c = in_order c.args.self.now.by_view c.self.inside.by_view
    (sym (ap (λ x. x.by_view) c.self.view_is))
