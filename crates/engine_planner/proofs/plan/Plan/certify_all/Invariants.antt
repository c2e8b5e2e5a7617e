-- The steps so far and those that are left are what all come to.
use Rattle.std.proofs.Common.{◌≡◌, ◌++◌, drop}
use Rattle.engine_planner.specs.Consequences.{certifying}
use Rattle.engine_planner.proofs.plan.Plan.certify_all.Given as goal

abbrev pub invariant-loop-proposal : goal.invariant-loop-proposal
invariant-loop-proposal g l = record {
  steps : l.self.steps.items ++ certifying (drop l.proposal-index l.proposals) ≡ l.initial.self.steps.items
      ++ certifying l.proposals;
  same : l.self ≡ record (l.initial.self) { steps = l.self.steps };
}
