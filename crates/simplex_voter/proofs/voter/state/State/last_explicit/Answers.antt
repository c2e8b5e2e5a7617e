-- How the contract of `last_explicit` follows: the first explicit view from the end is the last of all.
use Rattle.std.proofs.Common.{None, ap, sym, ◌∙◌}
use Rattle.std.specs.List.{filter_map, last_or}
use Rattle.simplex_voter.specs.Parents.{explicit_at}
use Rattle.simplex_voter.proofs.Explicit.{passed_by, stopped_at}
use Rattle.simplex_voter.proofs.voter.state.State.last_explicit.Goals as goal

pub returns-then-is_some : goal.returns-then-is_some
returns-then-is_some g c =
    stopped_at (explicit_at c.args.self.now) c.pop_last.new.self (c.in-Some.entry.0, c.in-Some.entry.1.now)
    c.explicit_at-found.result c.explicit_at-found.ensures c.if-is_some.ensures
    ∙ sym (c.loop-entry.invariant ∙ ap (λ es. last_or None (filter_map (explicit_at c.args.self.now) es))
    c.in-Some.ensures)

pub loop-entry-preserved : goal.loop-entry-preserved
loop-entry-preserved g c =
    c.loop-entry.invariant ∙ ap (λ es. last_or None (filter_map (explicit_at c.args.self.now) es)) c.in-Some.ensures
    ∙ passed_by (explicit_at c.args.self.now) c.pop_last.new.self (c.in-Some.entry.0, c.in-Some.entry.1.now)
    c.explicit_at-found.result c.explicit_at-found.ensures c.if-is_some.ensures

pub returns : goal.returns
returns g c = sym (c.loop-entry.invariant
    ∙ ap (λ es. last_or None (filter_map (explicit_at c.args.self.now) es)) c.in_default.ensures.0)
