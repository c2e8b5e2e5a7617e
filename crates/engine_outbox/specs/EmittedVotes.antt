-- Each vote that an engine stores, it also returns.
use Rattle.std.specs.Prelude.{◌⊎◌, List, [], ◌∷◌, Contains}
use Rattle.engine_votes.specs.declared.votes.Vote.{Vote}
use Rattle.engine_outbox.specs.declared.output.Output.{Output}
use Rattle.engine_outbox.specs.declared.output.Output.TheVariants as output
use Rattle.engine_outbox.specs.Entries.{votes_of_entries}
use Rattle.engine_outbox.specs.Outputs.{entries_in, stored_in}

module _ {S D J K G C : Type 0} where
  -- of these outputs of one lifetime, each vote that is stored after the first output is an output too, or was stored
  -- by the first one, which stores the record that the lifetime begins with, with the votes of earlier lifetimes
  abbrev pub AllAreReturned : List (Output S D J K G C) → Type 0
  AllAreReturned [] = Unit {0}
  AllAreReturned (first ∷ rest) =
      (vote : Vote D G) → Contains (votes_of_entries (stored_in rest)) vote
      → Contains (votes_of_entries (entries_in first)) vote ⊎ Contains rest (output.Vote vote)
