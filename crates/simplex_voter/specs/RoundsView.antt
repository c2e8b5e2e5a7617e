-- How the fields of the rounds represent what is known of them.
use Rattle.std.specs.Prelude.{ℕ, List, Option}
use Rattle.std.specs.FinMap.{entries}
use Rattle.simplex_voter.specs.declared.voter.rounds.Rounds.TheInside.{Inside}
use Rattle.simplex_voter.specs.Rounds.{RoundsFacts}

-- the facts that the fields represent
abbrev pub rounds_view : {S D K G C : Type 0} → (S → Option ℕ) → (S → List K) → Inside S D K G C → RoundsFacts K D
rounds_view me members s =
    record { me = me s.scheme; members = members s.scheme; epoch = s.epoch; by_view = entries s.by_view }
