-- After a call that was made the state has not failed.
use Rattle.std.proofs.Common.{Bool}
use Rattle.simplex_voter.specs.Facts.{StateFacts, Elect}
use Rattle.simplex_member.specs.Calls.{CallFacts}
use Rattle.simplex_member.specs.CallSemantics.{after_call}
use Rattle.simplex_member.specs.OutstandingWork.{OutstandingWork}
use Rattle.simplex_member.proofs.EventsMake.{call_by_any}
use Rattle.simplex_record.proofs.UnchangedSettings.{UnchangedSettings, stays, event_goes}

module _ {K L D : Type 0} (same : D → D → Bool) (elect : Elect L) (x : StateFacts K L D) where
  pub goes : (o : OutstandingWork K D) (call : CallFacts D) → UnchangedSettings x (after_call same elect x o call)
  goes o call = call_by_any same elect x o (UnchangedSettings x) (stays x) (event_goes same elect x) call
