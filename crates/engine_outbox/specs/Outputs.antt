-- The returned outputs: each vote comes after what stores it; and the work among them.
use Rattle.std.specs.Prelude.{List, [], ◌∷◌, ◌++◌, map, Contains, Vec}
use Rattle.std.specs.declared.alloc.Global.{Global}
use Rattle.simplex_types.specs.declared.types.messages.Artifact.{Artifact}
use Rattle.engine_outbox.specs.declared.output.Output.{Output}
use Rattle.engine_outbox.specs.declared.output.Output.TheVariants.{Store, Replace, Vote}
use Rattle.engine_outbox.specs.declared.output.Output.TheVariants as output
use Rattle.engine_outbox.specs.declared.output.Work.{Work}
use Rattle.engine_outbox.specs.Entries.{votes_of_entries}

module _ {S D J K G C : Type 0} where
  -- the entries that an output stores
  abbrev pub entries_in : Output S D J K G C → List (Artifact S D K G C)
  entries_in (Store entries) = entries.items
  entries_in (Replace entries _) = entries.items
  entries_in _ = []

  -- all that outputs store, in order
  abbrev pub stored_in : List (Output S D J K G C) → List (Artifact S D K G C)
  stored_in [] = []
  stored_in (out ∷ rest) = entries_in out ++ stored_in rest

  -- a vote is among what was stored before
  abbrev pub IsBehind : List (Artifact S D K G C) → Output S D J K G C → Type 0
  IsBehind stored (Vote vote) = Contains (votes_of_entries stored) vote
  IsBehind stored _ = Unit {0}

  -- each vote comes after an output that stores it, if this was stored before
  abbrev pub AreBehind : List (Artifact S D K G C) → List (Output S D J K G C) → Type 0
  AreBehind stored [] = Unit {0}
  AreBehind stored (out ∷ rest) = IsBehind stored out × AreBehind (stored ++ entries_in out) rest

  -- entries to be stored, and after them each vote among them
  abbrev pub storing : Vec (Artifact S D K G C) Global → List (Output S D J K G C)
  storing entries = Store entries ∷ map Vote (votes_of_entries entries.items)

  -- the work among outputs, in order
  abbrev pub work_in : List (Output S D J K G C) → List (Work S D K G C)
  work_in [] = []
  work_in (output.Work work ∷ rest) = work ∷ work_in rest
  work_in (_ ∷ rest) = work_in rest
