-- The queue of an outbox, and the law of all that it returns.
use Rattle.std.specs.Prelude.{◌≡◌, ◌≢◌, ◌<◌, ℕ, nat_lt, Bool, true, false, List, [], ◌∷◌, ◌++◌, Option, Some, None, IfSome, Contains, Vec}
use Rattle.std.specs.VecDeque.{deque_len, deque_capacity}
use Rattle.std.specs.declared.alloc.Global.{Global}
use Rattle.simplex_types.specs.MessageViews.{subject_view}
use Rattle.simplex_types.specs.declared.types.messages.Artifact.{Artifact}
use Rattle.simplex_types.specs.declared.types.messages.Proposal.{Proposal}
use Rattle.engine_outbox.specs.declared.outbox.Outbox.{Outbox}
use Rattle.engine_outbox.specs.declared.output.Output.{Output}
use Rattle.engine_outbox.specs.declared.output.Output.TheVariants as output
use Rattle.engine_votes.specs.declared.votes.Vote.{Vote}
use Rattle.engine_outbox.specs.Entries.{votes_of_entries, newest_from, AreCopies}
use Rattle.engine_outbox.specs.Finalizations.{finals_in, RiseByView, EndsAt}
use Rattle.engine_outbox.specs.Outputs.{stored_in, storing, work_in, AreBehind}

module _ {S D J K G C : Type 0} where
  -- over all that was returned and what is queued each vote comes after an output that stores it, and so would the vote
  -- that may be repeated; and the views of the proposals that are reported as final rise, up to the highest one that
  -- was reported
  pub record IsLawfulOutbox (given : List (Output S D J K G C)) (box : Outbox S D J K G C) : Type 0 where
    pub behind : AreBehind [] (given ++ box.queue.items)
    pub repeat : IfSome box.repeat (λ vote. Contains (votes_of_entries (stored_in (given ++ box.queue.items))) vote)
    pub rising : RiseByView (finals_in (given ++ box.queue.items))
    pub reported : EndsAt box.reported (finals_in (given ++ box.queue.items))

  -- these are appended to what was queued, and this vote may be repeated
  pub record HasBecome (more : List (Output S D J K G C)) (repeat : Option (Vote D G))
      (old new : Outbox S D J K G C) : Type 0 where
    pub queue : new.queue.items ≡ old.queue.items ++ more
    pub repeat_is : new.repeat ≡ repeat
    pub reported_is : new.reported ≡ old.reported

  -- nothing has changed
  abbrev pub HasStayed : Outbox S D J K G C → Outbox S D J K G C → Type 0
  HasStayed old new = (new.queue.items ≡ old.queue.items) × (new.repeat ≡ old.repeat) × (new.reported ≡ old.reported)

  -- what was queued stays, with more after it
  pub record QueuesMore (old new : Outbox S D J K G C) : Type 0 where
    pub more : List (Output S D J K G C)
    pub queue_is : new.queue.items ≡ old.queue.items ++ more

  -- the same work is queued
  abbrev pub QueuesNoWork : Outbox S D J K G C → Outbox S D J K G C → Type 0
  QueuesNoWork old new = work_in new.queue.items ≡ work_in old.queue.items

  -- copies of the entries are to be stored, and each vote among them leaves after them
  abbrev pub IsStored : (C → List ℕ) → List (Artifact S D K G C) → Outbox S D J K G C → Outbox S D J K G C → Type 0
  IsStored bytes_of fresh old new =
      (copies : Vec (Artifact S D K G C) Global) × AreCopies bytes_of fresh copies.items
      × HasBecome (storing copies) (newest_from old.repeat copies.items) old new

  -- copies of the entries are to be stored in place of all
  abbrev pub IsReplaced : (C → List ℕ) → List (Artifact S D K G C) → J → Outbox S D J K G C
      → Outbox S D J K G C → Type 0
  IsReplaced bytes_of all beside old new =
      (copies : Vec (Artifact S D K G C) Global) × AreCopies bytes_of all copies.items
      × HasBecome (output.Replace copies beside ∷ []) (newest_from old.repeat copies.items) old new

  -- the vote that may be repeated leaves once more, if it is one of the view; or else nothing does
  abbrev pub IsRepeated : ℕ → Option (Vote D G) → Bool → Outbox S D J K G C → Outbox S D J K G C → Type 0
  IsRepeated view (Some vote) true old new =
      (subject_view vote.subject ≡ view) × HasBecome (output.Vote vote ∷ []) old.repeat old new
  IsRepeated view (Some vote) false old new = (subject_view vote.subject ≢ view) × HasStayed old new
  IsRepeated view None sent old new = (sent ≡ false) × HasStayed old new

  -- there is room for one output more
  abbrev pub HasRoom : Outbox S D J K G C → Type 0
  HasRoom box = deque_len box.queue < deque_capacity box.queue

  -- a proposal is reported as final, or nothing is
  abbrev pub IsPassedIf : (is_above : Bool) → Proposal D → Outbox S D J K G C → Outbox S D J K G C → Type 0
  IsPassedIf true proposal old new =
      (new.queue.items ≡ old.queue.items ++ output.Finalized proposal ∷ []) × (new.repeat ≡ old.repeat)
      × (new.reported ≡ proposal.round.view)
  IsPassedIf false proposal old new = HasStayed old new

  -- it is if there is one, of a view above all that were reported
  abbrev pub IsReported : Option (Proposal D) → Outbox S D J K G C → Outbox S D J K G C → Type 0
  IsReported (Some proposal) old new = IsPassedIf (nat_lt old.reported proposal.round.view) proposal old new
  IsReported None old new = HasStayed old new
