-- When the current view times out, and why.
use Rattle.std.specs.Prelude.{ℕ, ◌+◌, ◌-◌, Bool, true, false, ◌&&◌, ◌||◌, not, nat_lt, nat_le, Option, None, is_some, option_map, option_and_then, if◌then◌else◌, filter, slice_get}
use Rattle.std.specs.Option.{option_map_or}
use Rattle.simplex_types.specs.Terms.{term_index, term_start}
use Rattle.simplex_types.specs.declared.types.fault.Fault.{Fault}
use Rattle.simplex_types.specs.declared.reasons.TimeoutReason.{TimeoutReason}
use Rattle.simplex_types.specs.declared.reasons.TimeoutReason.TheVariants.{Retry, Inactivity, StallTimeout}
use Rattle.simplex_round.specs.Slot.{is_unequivocated}
use Rattle.simplex_round.specs.Round.{RoundFacts, awaits_latch, with_latch, with_retry, awaits_retry, round_timeout}
use Rattle.simplex_voter.specs.Facts.{StateFacts, round_at, round_of, is_tracked, with_round, with_tracked}
use Rattle.simplex_voter.specs.Refusals.{first_fault, is_past_u64}
use Rattle.simplex_voter.specs.ViewEntry.{at_moment}

-- the reason is that the vote to nullify is sent again
abbrev pub is_retry : TimeoutReason → Bool
is_retry Retry = true
is_retry _ = false

-- the reason is that the leader was silent for long
abbrev pub is_inactivity : TimeoutReason → Bool
is_inactivity Inactivity = true
is_inactivity _ = false

-- the leader is known to be active: one proposal is held, and no other was seen
abbrev pub is_contradicted : {K D : Type 0} → TimeoutReason → RoundFacts K D → Bool
is_contradicted reason r = is_inactivity reason && is_unequivocated r.slot

-- a retry is never replaced; a stall deadline comes first if it is at or below a moment that is still ahead
abbrev pub or_stalled : Option ℕ → ℕ → ℕ × TimeoutReason → ℕ × TimeoutReason
or_stalled stall now timeout =
    if is_retry timeout.1
    then timeout
    else option_map_or
    (λ deadline. if nat_le deadline timeout.0 && nat_lt now timeout.0 then (deadline, StallTimeout) else timeout)
    stall
    timeout

-- the stall deadline of a view, until it is finalized
abbrev pub standing_deadline : {K D : Type 0} → RoundFacts K D → Option ℕ
standing_deadline r = if is_some r.finalization then None else r.stall_deadline

-- an entered view above `low` and not above `high`
abbrev pub is_entered_between : {K D : Type 0} → ℕ → ℕ → ℕ × RoundFacts K D → Bool
is_entered_between low high e = nat_lt low e.0 && nat_le e.0 high && is_some e.1.entered_at

module _ {K L D : Type 0} where
  -- the view may time out: it is not passed, and tracked, and the reason is not contradicted
  abbrev pub can_trigger : StateFacts K L D → ℕ → TimeoutReason → Bool
  can_trigger x v reason = nat_le x.current v && is_tracked x v && not (is_contradicted reason (round_of x v))

  -- the view times out at its next poll, if it may
  abbrev pub with_timeout : StateFacts K L D → ℕ → TimeoutReason → ℕ → StateFacts K L D
  with_timeout x v reason now =
      if can_trigger x v reason then with_round x v (with_latch (round_of x v) now reason) else x

  -- `trigger_timeout`: whether this timeout was latched
  abbrev pub trigger_answer : StateFacts K L D → ℕ → TimeoutReason → Bool
  trigger_answer x v reason = can_trigger x v reason && awaits_latch (round_of x v)

  -- a reason to time the view out is latched, if none was, and the moment is recorded
  abbrev pub after_trigger_timeout : StateFacts K L D → ℕ → TimeoutReason → ℕ → StateFacts K L D
  after_trigger_timeout x v reason now = with_timeout (at_moment x now) v reason now

  -- few enough terms lie between the first one that isn't finalized and the current one
  abbrev pub has_skip_budget : StateFacts K L D → Bool
  has_skip_budget x =
      nat_lt (term_index x.terms.term_length x.current - term_index x.terms.term_length (x.finalized + 1))
      x.settings.skip_budget

  -- the entered views of the current term above the last finalized one
  abbrev pub is_stalling : StateFacts K L D → ℕ × RoundFacts K D → Bool
  is_stalling x e =
      nat_lt x.finalized e.0 && nat_le (term_start x.terms.term_length x.current) e.0 && nat_le e.0 x.current
      && is_some e.1.entered_at

  -- the stall deadline of the lowest of them
  abbrev pub stall_deadline : StateFacts K L D → Option ℕ
  stall_deadline x = option_and_then (λ e. standing_deadline e.1) (slice_get (filter (is_stalling x) x.rounds) 0)

  -- the current round, with the moment of its retry if nullify was decided
  abbrev pub round_with_retry : StateFacts K L D → ℕ → RoundFacts K D
  round_with_retry x now = with_retry (round_of x x.current) now x.settings.timeout_retry

  -- `next_timeout`: the moment and the reason
  abbrev pub next_timeout_answer : StateFacts K L D → ℕ → Option (ℕ × TimeoutReason)
  next_timeout_answer x now =
      option_map (or_stalled (stall_deadline x) now) (round_timeout (round_with_retry x now) (has_skip_budget x))

  -- a member that waits to vote again has its next retry, and the moment is recorded
  abbrev pub after_next_timeout : StateFacts K L D → ℕ → StateFacts K L D
  after_next_timeout x now = with_tracked (at_moment x now) x.current (round_with_retry x now)

  -- why a poll is refused: the state has failed, or the next retry is too late
  abbrev pub next_timeout_refusal : StateFacts K L D → ℕ → Option Fault
  next_timeout_refusal x now =
      first_fault x.failed false (awaits_retry (round_of x x.current) && is_past_u64 (now + x.settings.timeout_retry))

  -- the current view has a timeout
  abbrev pub has_timeout : StateFacts K L D → Bool
  has_timeout x = option_map_or (λ r. awaits_retry r || is_some (round_timeout r (has_skip_budget x)))
      (round_at x x.current) false
