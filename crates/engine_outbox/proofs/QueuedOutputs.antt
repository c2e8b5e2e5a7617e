-- For the code of the outbox.
-- That entries, votes and proposals that are final are no work.
use Rattle.std.proofs.Common.{◌≡◌, ◌∙◌, refl, ap, ℕ, Bool, true, false, nat_lt, List, [], ◌∷◌, ◌++◌, map, append-nil, Option, Some, None}
use Rattle.simplex_types.specs.declared.types.messages.Artifact.{Artifact}
use Rattle.simplex_types.specs.declared.types.messages.Proposal.{Proposal}
use Rattle.engine_votes.specs.declared.votes.Vote.{Vote}
use Rattle.engine_outbox.specs.declared.outbox.Outbox.{Outbox}
use Rattle.engine_outbox.specs.declared.output.Output.{Output}
use Rattle.engine_outbox.specs.declared.output.Output.TheVariants as output
use Rattle.engine_outbox.specs.Entries.{votes_of_entries}
use Rattle.engine_outbox.specs.Outboxes.{HasStayed, IsRepeated, IsReplaced, IsStored, IsReported, IsPassedIf, QueuesNoWork}
use Rattle.engine_outbox.specs.Outputs.{storing, work_in}

module _ (S J K C : Type 0) {D G : Type 0} where
  votes_no_work : (votes : List (Vote D G)) → work_in {S = S} {J = J} {K = K} {C = C} (map output.Vote votes) ≡ []
  votes_no_work [] = refl
  votes_no_work (vote ∷ votes) = votes_no_work votes

module _ {S D J K G C : Type 0} where
  -- work among outputs, one after the other
  pub work_in-append : (outs more : List (Output S D J K G C)) → work_in (outs ++ more) ≡ work_in outs ++ work_in more
  work_in-append [] more = refl
  work_in-append (output.Store _ ∷ outs) more = work_in-append outs more
  work_in-append (output.Replace _ _ ∷ outs) more = work_in-append outs more
  work_in-append (output.Vote _ ∷ outs) more = work_in-append outs more
  work_in-append (output.Finalized _ ∷ outs) more = work_in-append outs more
  work_in-append (output.Work it ∷ outs) more = ap (λ works. it ∷ works) (work_in-append outs more)

  queued_no_work : (more : List (Output S D J K G C)) (old new : Outbox S D J K G C) → work_in more ≡ []
      → new.queue.items ≡ old.queue.items ++ more → QueuesNoWork old new
  queued_no_work more old new none is =
      ap work_in is ∙ work_in-append old.queue.items more ∙ ap (λ works. work_in old.queue.items ++ works) none
      ∙ append-nil (work_in old.queue.items)

  pub stayed_no_work : (old new : Outbox S D J K G C) → HasStayed old new → QueuesNoWork old new
  stayed_no_work old new is = ap work_in is.0

  pub stored_no_work : (bytes_of : C → List ℕ) (fresh : List (Artifact S D K G C)) (old new : Outbox S D J K G C)
      → IsStored bytes_of fresh old new → QueuesNoWork old new
  stored_no_work bytes_of fresh old new is =
      queued_no_work (storing is.0) old new (votes_no_work S J K C (votes_of_entries is.0.items)) is.2.queue

  pub replaced_no_work : (bytes_of : C → List ℕ) (all : List (Artifact S D K G C)) (beside : J)
      (old new : Outbox S D J K G C) → IsReplaced bytes_of all beside old new → QueuesNoWork old new
  replaced_no_work bytes_of all beside old new is =
      queued_no_work (output.Replace is.0 beside ∷ []) old new refl is.2.queue

  pub replied_no_work : (finalized : Option (Proposal D)) (old new : Outbox S D J K G C) → IsReported finalized old new
      → QueuesNoWork old new
  replied_no_work None old new is = stayed_no_work old new is
  replied_no_work (Some proposal) old new is = by_view (nat_lt old.reported proposal.round.view) is
    where
      by_view : (b : Bool) → IsPassedIf b proposal old new → QueuesNoWork old new
      by_view true is = queued_no_work (output.Finalized proposal ∷ []) old new refl is.0
      by_view false is = stayed_no_work old new is

  pub repeated_no_work : (view : ℕ) (repeat : Option (Vote D G)) (old new : Outbox S D J K G C) (sent : Bool)
      → IsRepeated view repeat sent old new → QueuesNoWork old new
  repeated_no_work view (Some vote) old new true is = queued_no_work (output.Vote vote ∷ []) old new refl is.1.queue
  repeated_no_work view (Some vote) old new false is = stayed_no_work old new is.1
  repeated_no_work view None old new sent is = stayed_no_work old new is.1
