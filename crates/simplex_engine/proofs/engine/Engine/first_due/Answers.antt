-- That nothing is due where no view from the last finalized one on has anything due.
use Rattle.std.proofs.Common.{◌≤◌, sym, subst}
use Rattle.simplex_engine.proofs.engine.Engine.first_due.Goals as goal

pub returns-in-Some : goal.returns-in-Some
returns-in-Some g c = λ none. record {
  state = c.in-Some.state.now;
  alive = sym c.in-Some.ensures.life;
  nothing_due = λ view low. c.first_due.ensures.none none view
      (subst (λ from. from ≤ view) (sym c.last_finalized.ensures) low);
}
