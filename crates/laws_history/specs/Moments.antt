-- What events say of the moments of a view: its entry, this member's proposal, and its timeouts, in milliseconds.
use Rattle.std.specs.Prelude.{ℕ, ◌+◌, Bool, false, ◌&&◌, ◌==◌, not, nat_lt, nat_le, List, [], ◌∷◌, Option, Some, None, option_map, if◌then◌else◌}
use Rattle.std.specs.Option.{option_or}
use Rattle.simplex_types.specs.declared.reasons.TimeoutReason.{TimeoutReason}
use Rattle.simplex_types.specs.declared.reasons.TimeoutReason.TheVariants.{FailedCertification, InvalidProposal}
use Rattle.simplex_round.specs.declared.round.Decision.{Decision}
use Rattle.simplex_round.specs.declared.round.Decision.TheVariants as decision
use Rattle.simplex_round.specs.Round.{awaits_retry}
use Rattle.simplex_voter.specs.Facts.{StateFacts, Elect, round_of, is_tracked}
use Rattle.simplex_voter.specs.Parents.{verification_matches}
use Rattle.simplex_voter.specs.ProposalRequests.{proposed_answer}
use Rattle.simplex_voter.specs.Timeouts.{is_contradicted}
use Rattle.simplex_record.specs.Events.{Event, Certified, Proposed, TryVerify, VerificationFailed, TriggerTimeout, NextTimeout}
use Rattle.laws_history.specs.OwnWork.{facts_after, was_done, first_said, last_said, decides_nullify, decides_finalize}
use Rattle.laws_history.specs.WorkRequests.{is_at, standing_by_event}
use Rattle.laws_safety.specs.ProposalStandings.{is_invalid}
use Rattle.laws_history.specs.HistoryFolds.{entered_by, moment_by}

module _ {K L D : Type 0} where
  -- a timeout for this reason is triggered: the view is not passed, is tracked, and its leader isn't known to be active
  abbrev pub triggers : StateFacts K L D → ℕ → TimeoutReason → Bool
  triggers x w reason = nat_le x.current w && is_tracked x w && not (is_contradicted reason (round_of x w))

module _ {K L D : Type 0} where
  -- the moment at which an event enters the view, which lies above the current one then
  abbrev pub enters : ℕ → StateFacts K L D → Event K D → Option ℕ
  enters v x e =
      if v == entered_by x.terms.term_length (is_tracked x) e && nat_lt x.current v then moment_by e else None

  -- the moment at which the vote to nullify the view is to be repeated: the retry interval after the first poll that
  -- finds it decided
  abbrev pub retries : ℕ → StateFacts K L D → Event K D → Option ℕ
  retries v x (NextTimeout now) =
      if is_at x v x.current && awaits_retry (round_of x v) then Some (now + x.settings.timeout_retry) else None
  retries v x _ = None

module _ {K L D : Type 0} (same : D → D → Bool) (elect : Elect L) where
  -- the moment at which this member's proposal is recorded
  abbrev pub proposes : ℕ → StateFacts K L D → Event K D → Option ℕ
  proposes v x (Proposed context payload now) =
      if v == context.round.view && proposed_answer same elect x context payload then Some now else None
  proposes v x _ = None

  -- an explicit timeout of the view
  abbrev pub latches : ℕ → StateFacts K L D → Event K D → Option (ℕ × TimeoutReason)
  latches v x (Certified w false now) =
      if is_at x v w && nat_le x.current w then Some (now, FailedCertification) else None
  latches v x TryVerify = if is_invalid (standing_by_event same elect v x TryVerify)
      then Some (x.moment, InvalidProposal) else None
  latches v x (VerificationFailed w reason now) =
      if v == w && verification_matches same elect x w && triggers x w reason then Some (now, reason) else None
  latches v x (TriggerTimeout w reason now) = if v == w && triggers x w reason then Some (now, reason) else None
  latches v x _ = None

  -- the moment of the repeat, since the vote was decided or cast again last
  abbrev pub retry_in : ℕ → StateFacts K L D → List (Event K D) → Option ℕ
  retry_in v fresh [] = None
  retry_in v fresh (e ∷ before) =
      let x = facts_after same elect fresh before in
      if decides_nullify v x e then None else option_or (retries v x e) (retry_in v fresh before)

  -- the vote that is decided; and until one is, the deadlines from the entry on and the first explicit timeout
  abbrev pub decision_in : ℕ → StateFacts K L D → List (Event K D) → Decision
  decision_in v fresh events =
      if was_done same elect (decides_finalize same elect v) fresh events
      then decision.Finalize
      else (if was_done same elect (decides_nullify v) fresh events
      then decision.Nullify (retry_in v fresh events)
      else decision.Pending
      (option_map (λ at. at + fresh.settings.leader_timeout) (last_said same elect (enters v) fresh events))
      (option_map (λ at. at + fresh.settings.certification_timeout) (last_said same elect (enters v) fresh events))
      (first_said same elect (latches v) fresh events))
