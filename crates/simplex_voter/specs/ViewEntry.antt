-- How a view becomes the current one.
use Rattle.std.specs.Prelude.{ℕ, ◌+◌, nat_lt, Some, unwrap_or, option_map, if◌then◌else◌}
use Rattle.simplex_round.specs.Round.{RoundFacts, with_deadlines}
use Rattle.simplex_voter.specs.Facts.{StateFacts, round_of, with_round}

module _ {K L D : Type 0} where
  -- the last moment that a call carried is this one
  abbrev pub at_moment : StateFacts K L D → ℕ → StateFacts K L D
  at_moment x now = record x { moment = now }

  -- the first entry is recorded, and leader, certification and stall deadlines count from this moment
  abbrev pub entered_round : StateFacts K L D → RoundFacts K D → ℕ → RoundFacts K D
  entered_round x r now =
      with_deadlines
      (record r { entered_at = Some (unwrap_or r.entered_at now) })
      (now + x.settings.leader_timeout)
      (now + x.settings.certification_timeout)
      (option_map (λ time. now + time) x.terms.stall_timeout)

  -- a view above the current one is entered
  abbrev pub with_view_entered : StateFacts K L D → ℕ → ℕ → StateFacts K L D
  with_view_entered x v now =
      if nat_lt x.current v then record (with_round x v (entered_round x (round_of x v) now)) { current = v } else x
