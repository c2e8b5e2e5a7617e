-- How the contract of `after_notarized` follows: a notarized view is small enough that there is a next one.
use Rattle.std.proofs.Common.{ap, sym, subst, arith}
use Rattle.simplex_voter.specs.Rounds.{AreKept}
use Rattle.simplex_voter.proofs.Changed.{notarized_there, notarized_small}
use Rattle.simplex_voter.proofs.voter.rounds.Rounds.after_notarized.Goals as goal

pub unreachable-requires : goal.unreachable-requires
unreachable-requires g c = notarized_there c.args.self.now _ (sym (ap (λ x. x.by_view) c.self.view_is)) _ c.requires
    c.in-None.ensures

pub next-requires : goal.next-requires
next-requires g c =
    let small = notarized_small c.args.self.now c.self.inside.bounds
    (subst (AreKept c.self.inside.bounds) c.self.view_is c.self.invariant) c.args.view c.requires in
    omega (arith, small)

pub returns-clause-in_range : goal.returns-clause-in_range
returns-clause-in_range g c = notarized_small c.args.self.now c.self.inside.bounds
    (subst (AreKept c.self.inside.bounds) c.self.view_is c.self.invariant) c.args.view c.requires
