-- Histories: lists of the events of a lifetime (`Rattle.simplex_record.specs.Events`), the latest first.
use Rattle.std.specs.Prelude.{List, ◌∷◌}
use Rattle.simplex_voter.specs.Facts.{StateFacts}
use Rattle.simplex_record.specs.Events.{Event}

-- a history: what a new state knew, and what has happened to it since, the latest event first
pub record History (K L D : Type 0) : Type 0 where
  pub fresh : StateFacts K L D
  pub events : List (Event K D)

-- one more event
abbrev pub with_event : {K L D : Type 0} → History K L D → Event K D → History K L D
with_event history e = record history { events = e ∷ history.events }
