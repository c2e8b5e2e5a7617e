-- by the call, and the polls until one returned nothing
use Rattle.laws_safety.proofs.executions.ExecutionSteps.{if_ok_on}
use Rattle.laws_meetings.proofs.instances.settle.Goals as goal

pub returns-in-Ok : goal.returns-in-Ok
returns-in-Ok g c =
    if_ok_on c.poll_until_none.result (λ is_at_rest polled yes. record {
      between = c.deliver.new.engine;
      call = c.deliver.ensures.call;
      polls = polled yes;
    }) c.poll_until_none.ensures
