-- How the contract of `allow_verdict` follows: the bounds are wider by the verdict alone: explicit for a true one,
-- refused for a false one.
use Rattle.std.proofs.Common.{sym, ◌∙◌, arith}
use Rattle.std.proofs.lemmas.Bool.{false≢true}
use Rattle.simplex_voter.proofs.RoundsKept.{noted, noted_there, noted_still}
use Rattle.simplex_voter.proofs.voter.rounds.Bounds.allow_verdict.Goals as goal

pub returns-clause-wider : goal.returns-clause-wider
returns-clause-wider c =
    let is = c.in_ok-_standing.ensures.after
    ∙ noted c.args.self.now.refused c.args.view c.in_ok-_standing._standing c.in_ok-_standing.ensures.standing in
    record {
      explicit = omega arith;
      under_way = omega arith;
      refused = noted_still c.args.self.now.refused c.insert.new.self c.args.view is;
    }

pub returns-clause-judged : goal.returns-clause-judged
returns-clause-judged c =
    let is = c.in_ok-_standing.ensures.after
    ∙ noted c.args.self.now.refused c.args.view c.in_ok-_standing._standing c.in_ok-_standing.ensures.standing in
    record {
      explicit = λ accepted. absurd (false≢true (sym c.if-success.false ∙ accepted));
      refused = λ _. noted_there c.args.self.now.refused c.insert.new.self c.args.view is;
    }
