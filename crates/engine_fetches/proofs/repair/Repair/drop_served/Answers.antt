-- Exactly the missing certificates are asked for, and nothing is due that was not.
use Rattle.std.proofs.Common.{◌≡◌, ◌≤◌, ◌∙◌, None, filter, refl, ap, sym, subst}
use Rattle.std.specs.Prelude.{nat_le}
use Rattle.engine_fetches.specs.Fetches.{due_at}
use Rattle.engine_fetches.specs.OutstandingFetches.{is_missing, FetchesTheOutstanding, FetchesTheMissing}
use Rattle.engine_fetches.proofs.Remainders.{none_due}
use Rattle.engine_fetches.proofs.OutstandingFetches.{asks_lacking}
use Rattle.engine_fetches.proofs.repair.Repair.drop_served.Goals as goal

pub returns-clause-lacking : goal.returns-clause-lacking
returns-clause-lacking g c =
    let old = c.args.self.now in
    let wanted = old.resolver.open_fetches in
    let fetches = old.fetches.wanted.items in
    let state = c.args.state.now in
    let all = c.may_leave_out.ensures.0 c.if-may_leave_out.false in
    subst (FetchesTheMissing wanted state)
    (sym (c.retain_missing.ensures.kept ∙ ap (λ ks. filter (is_missing ks state) fetches) c.fetches.ensures))
    (asks_lacking old.passed wanted fetches (old.complete all.0) state
    (subst (λ v. old.passed ≤ v) c.last_finalized-finalized.ensures all.1))

pub returns-clause-due : goal.returns-clause-due
returns-clause-due g c = λ now none.
    subst (λ fetches. due_at now fetches ≡ None) (sym c.retain_missing.ensures.kept)
    (none_due (λ fetch. nat_le fetch.moment now) (is_missing c.fetches.result.now.keys c.args.state.now)
    c.args.self.now.fetches.wanted.items none)

pub invariant_of-self : goal.invariant_of-self
invariant_of-self g c =
    let old = c.args.self.now in
    let wanted = old.resolver.open_fetches in
    let fetches = old.fetches.wanted.items in
    let state = c.args.state.now in
    let all = c.may_leave_out.ensures.0 c.if-may_leave_out.false in
    let left = subst (FetchesTheMissing wanted state)
    (sym (c.retain_missing.ensures.kept ∙ ap (λ ks. filter (is_missing ks state) fetches) c.fetches.ensures))
    (asks_lacking old.passed wanted fetches (old.complete all.0) state
    (subst (λ v. old.passed ≤ v) c.last_finalized-finalized.ensures all.1)) in
    record {
      complete = λ up. subst (λ v. FetchesTheOutstanding v wanted c.retain_missing.new.self.wanted.items)
          (sym c.last_finalized-finalized.ensures) left.wanted_all;
    }

pub returns-clause-kept : goal.returns-clause-kept
returns-clause-kept g c =
    let old = c.args.self.now in
    record {
      fetches_now = c.retain_missing.ensures.kept
          ∙ ap (λ ks. filter (is_missing ks c.args.state.now) old.fetches.wanted.items) c.fetches.ensures;
      peers = c.retain_missing.ensures.same.0;
      retry = c.retain_missing.ensures.same.1;
      resolver = refl;
      passed = c.last_finalized-finalized.ensures;
      behind = refl;
    }
