-- For the code of the outbox. What was queued stays, with more after it.
use Rattle.std.proofs.Common.{◌∙◌, ap, sym, ℕ, Bool, true, false, nat_lt, List, [], ◌∷◌, ◌++◌, append_assoc, append-nil, Option, Some, None}
use Rattle.simplex_types.specs.declared.types.messages.Proposal.{Proposal}
use Rattle.engine_outbox.specs.declared.outbox.Outbox.{Outbox}
use Rattle.engine_outbox.specs.declared.output.Output.{Output}
use Rattle.engine_outbox.specs.declared.output.Output.TheVariants as output
use Rattle.engine_votes.specs.declared.votes.Vote.{Vote}
use Rattle.engine_outbox.specs.Outboxes.{HasBecome, HasStayed, IsRepeated, IsPassedIf, IsReported, QueuesMore}

module _ {S D J K G C : Type 0} where
  pub queues_none : (a : Outbox S D J K G C) → QueuesMore a a
  queues_none a = record { more = []; queue_is = sym (append-nil a.queue.items) }

  -- what is queued after more
  pub queues_further : {a b c : Outbox S D J K G C} → QueuesMore a b → QueuesMore b c → QueuesMore a c
  queues_further {a = a} first second = record {
    more = first.more ++ second.more;
    queue_is = second.queue_is ∙ ap (λ queue. queue ++ second.more) first.queue_is
        ∙ append_assoc a.queue.items first.more second.more;
  }

  pub become_more : {more : List (Output S D J K G C)} {repeat : Option (Vote D G)} {old new : Outbox S D J K G C}
      → HasBecome more repeat old new → QueuesMore old new
  become_more {more = more} is = record { more = more; queue_is = is.queue }

  pub stayed_more : (old new : Outbox S D J K G C) → HasStayed old new → QueuesMore old new
  stayed_more old new is = record { more = []; queue_is = is.0 ∙ sym (append-nil old.queue.items) }

  pub repeated_more : (view : ℕ) (repeat : Option (Vote D G)) (old new : Outbox S D J K G C) (sent : Bool)
      → IsRepeated view repeat sent old new → QueuesMore old new
  repeated_more view (Some vote) old new true is = become_more is.1
  repeated_more view (Some vote) old new false is = stayed_more old new is.1
  repeated_more view None old new sent is = stayed_more old new is.1

  pub replied_more : (finalized : Option (Proposal D)) (old new : Outbox S D J K G C) → IsReported finalized old new
      → QueuesMore old new
  replied_more None old new is = stayed_more old new is
  replied_more (Some proposal) old new is = by_view (nat_lt old.reported proposal.round.view) is
    where
      by_view : (b : Bool) → IsPassedIf b proposal old new → QueuesMore old new
      by_view true is = record { more = output.Finalized proposal ∷ []; queue_is = is.0 }
      by_view false is = stayed_more old new is
