-- The leader of each view. A leader that is set stays.
use Rattle.std.specs.Prelude.{ℕ, ◌+◌, ◌-◌, Bool, ◌&&◌, ◌==◌, List, [], Option, None, is_some, if◌then◌else◌, min, fold}
use Rattle.std.specs.List.{range_with_len}
use Rattle.std.specs.Option.{option_map_or}
use Rattle.simplex_types.specs.Terms.{term_end}
use Rattle.simplex_round.specs.Round.{leader_at}
use Rattle.simplex_voter.specs.Facts.{StateFacts, Elect, round_of, with_round, round_number}
use Rattle.simplex_voter.specs.Windows.{in_issuance_window}
use Rattle.simplex_voter.specs.Payloads.{is_elected_early}

module _ {K L D : Type 0} where
  -- the view has a leader
  abbrev pub has_leader : StateFacts K L D → ℕ → Bool
  has_leader x v = is_some (round_of x v).leader

  -- this member leads the view from now on, unless a leader is set
  abbrev pub with_leader_at : StateFacts K L D → ℕ → ℕ → StateFacts K L D
  with_leader_at x v member =
      if has_leader x v then x else with_round x v (record (round_of x v) { leader = leader_at x.members member })

  -- the leader of one view leads another too
  abbrev pub with_leader_of : StateFacts K L D → ℕ → ℕ → StateFacts K L D
  with_leader_of x from to = option_map_or (λ l. with_leader_at x to l.idx) (round_of x from).leader x

  -- the views above v whose window a certificate of v opens: those of its term, at most one more than the optimistic
  -- views ahead
  abbrev pub opened_views : StateFacts K L D → ℕ → List ℕ
  opened_views x v =
      if x.terms.optimistic_views == 0
      then []
      else range_with_len (v + 1) (min (term_end x.terms.term_length v) (v + x.terms.optimistic_views + 1) - v)

  -- each of them, one after the other, takes the leader of the view before it
  abbrev pub with_window_leaders : StateFacts K L D → ℕ → StateFacts K L D
  with_window_leaders x v = fold (λ y w. with_leader_of y (w - 1) w) x (opened_views x v)

module _ {K L D : Type 0} (elect : Elect L) where
  -- the elector's choice, after a certificate of these bytes, leads the view
  abbrev pub with_elected_leader : StateFacts K L D → ℕ → Option (List ℕ) → StateFacts K L D
  with_elected_leader x v seed = with_leader_at x v (elect x.elector (round_number x v) seed)

  -- a proposal or this member's own vote for v prepares the next view: in its window it takes the leader of v; at a
  -- term's start, after its own vote, a member that is elected early takes it over
  abbrev pub with_next_view_ready : StateFacts K L D → ℕ → StateFacts K L D
  with_next_view_ready x v =
      if in_issuance_window x (v + 1)
      then with_leader_of x v (v + 1)
      else (if (round_of x v).notarize_decided && is_elected_early elect x (v + 1)
      then with_elected_leader x (v + 1) None else x)
