-- When a call is refused, and which views and moments it can take.
use Rattle.std.specs.Prelude.{◌≡◌, ℕ, ◌+◌, ◌^◌, Bool, true, false, ◌&&◌, ◌||◌, ◌==◌, nat_le, nat_lt, Option, Some, None, if◌then◌else◌}
use Rattle.std.specs.Option.{option_map_or}
use Rattle.simplex_types.specs.declared.types.fault.Fault.{Fault}
use Rattle.simplex_types.specs.declared.types.fault.Fault.TheVariants.{Failed, ViewTooLarge, TimeOverflow}
use Rattle.simplex_types.specs.declared.types.messages.Proposal.{Proposal}
use Rattle.simplex_types.specs.declared.types.numbers.Round.{Round}
use Rattle.simplex_voter.specs.Facts.{StateFacts}
use Rattle.simplex_voter.specs.Windows.{admits_certificate}

-- the first that applies of: the state has failed, a view is too large, a moment passes the numbers of 64 bits
abbrev pub first_fault : (failed too_large late : Bool) → Option Fault
first_fault failed too_large late =
    if failed then Some Failed
    else (if too_large then Some ViewTooLarge else (if late then Some TimeOverflow else None))

-- no certificate, proposal or artifact may name such a view
abbrev pub is_too_large : ℕ → Bool
is_too_large v = nat_le (2 ^ 63) v

-- its view or its parent's
abbrev pub names_too_large : {D : Type 0} → Proposal D → Bool
names_too_large p = is_too_large p.round.view || is_too_large p.parent

-- a moment that is no 64-bit number of milliseconds
abbrev pub is_past_u64 : ℕ → Bool
is_past_u64 moment = nat_le (2 ^ 64) moment

module _ {K L D : Type 0} where
  -- a deadline of a view that is entered at this moment passes the numbers of 64 bits
  abbrev pub has_late_deadline : StateFacts K L D → ℕ → Bool
  has_late_deadline x now =
      is_past_u64 (now + x.settings.leader_timeout)
      || is_past_u64 (now + x.settings.certification_timeout)
      || option_map_or (λ time. is_past_u64 (now + time)) x.terms.stall_timeout false

  -- the view would be entered, and too late for its deadlines
  abbrev pub enters_late : StateFacts K L D → ℕ → ℕ → Bool
  enters_late x v now = nat_lt x.current v && has_late_deadline x now

  -- the calls without such arguments are refused exactly if the state has failed
  abbrev pub plain_refusal : StateFacts K L D → Option Fault
  plain_refusal x = first_fault x.failed false false

  -- the calls that pass a proposal in, but enter no view
  abbrev pub proposal_refusal : StateFacts K L D → Proposal D → Option Fault
  proposal_refusal x p = first_fault x.failed (names_too_large p) false

  -- a floor was set
  abbrev pub is_started : StateFacts K L D → Bool
  is_started x = nat_lt 0 x.current

  -- what the calls require of a certificate, a proposal or an artifact: this epoch, and a retained view
  abbrev pub takes_round : StateFacts K L D → Round → Bool
  takes_round x round = is_started x && round.epoch == x.settings.epoch && admits_certificate x round.view

  -- a call ran out of memory: from then on only the state's setup is known
  pub record HasFailed (before after : StateFacts K L D) : Type 0 where
    pub failed : after.failed ≡ true
    pub settings : after.settings ≡ before.settings
    pub terms : after.terms ≡ before.terms
