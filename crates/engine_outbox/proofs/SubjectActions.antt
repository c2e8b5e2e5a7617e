-- For the code of the engine.
-- What a member does by a call.
use Rattle.std.proofs.Common.{[], ◌++◌, Option, Some}
use Rattle.std.specs.Prelude.{All}
use Rattle.std.proofs.lemmas.List.Elements.{All-append, All-cons, All-nil}
use Rattle.simplex_types.specs.declared.types.messages.Subject.{Subject}
use Rattle.simplex_member.specs.declared.member.calls.Call.{Call}
use Rattle.simplex_member.specs.declared.member.calls.Reply.{Reply}
use Rattle.simplex_member.specs.declared.member.calls.Reply.TheVariants as reply
use Rattle.laws_safety.specs.ObservedTraces.{votes_in, certificates_in, taken_by}
use Rattle.engine_outbox.specs.SubjectActions.{IsActionOn}

module _ {S D K G C : Type 0} (taken : Option (Subject D)) where
  taken_on : (call : Call S D K G C) (answer : Reply S D K G C) → All (IsActionOn taken) (certificates_in call)
      → All (IsActionOn taken) (taken_by call answer)
  taken_on call (reply.Added _ _) may = may
  taken_on call (reply.AddedNullification _) may = may
  taken_on call _ may = All-nil (IsActionOn taken)

  votes_on : (answer : Reply S D K G C) → All (IsActionOn taken) (votes_in answer)
  votes_on (reply.Notarize (Some vote)) = All-cons (IsActionOn taken) _ [] tt (All-nil (IsActionOn taken))
  votes_on (reply.Nullify (Some vote)) = All-cons (IsActionOn taken) _ [] tt (All-nil (IsActionOn taken))
  votes_on (reply.Finalize (Some vote)) = All-cons (IsActionOn taken) _ [] tt (All-nil (IsActionOn taken))
  votes_on _ = All-nil (IsActionOn taken)

  -- a call accepts no other certificate than the one that it passes
  pub call_on : (call : Call S D K G C) (answer : Reply S D K G C) → All (IsActionOn taken) (certificates_in call)
      → All (IsActionOn taken) (taken_by call answer ++ votes_in answer)
  call_on call answer may = All-append (IsActionOn taken) (taken_by call answer) (votes_in answer)
      (taken_on call answer may) (votes_on answer)
