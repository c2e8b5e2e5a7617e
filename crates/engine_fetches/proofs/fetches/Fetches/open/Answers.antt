-- That a fetch is opened only where it is not open.
use Rattle.std.proofs.Common.{is_ok, ap, sym, ◌∙◌}
use Rattle.engine_fetches.specs.Fetches.{is_fetch_open}
use Rattle.engine_fetches.proofs.Once.{once_pushed}
use Rattle.engine_fetches.proofs.fetches.Fetches.open.Goals as goal

pub invariant_of-self : goal.invariant_of-self
invariant_of-self c =
    let none = ap (is_fetch_open c.args.kind c.args.view) (sym c.deref.ensures.value) ∙ sym c.is_among.ensures
    ∙ c.if-is_among.false in
    record {
      once = once_pushed (is_ok c.push.result) c.push.new.self.items c.args.self.now.wanted.items _
          c.push.ensures.items none c.args.self.now.once;
    }
