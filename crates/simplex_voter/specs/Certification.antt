-- Which proposals are offered for certification, and the effects of their verdicts.
use Rattle.std.specs.Prelude.{ℕ, ◌+◌, Bool, true, false, ◌&&◌, ◌==◌, not, nat_lt, nat_le, List, [], Option, Some, None, is_some, is_none, option_and_then, if◌then◌else◌, map, filter}
use Rattle.std.specs.List.{filter_map}
use Rattle.std.specs.Option.{option_map_or}
use Rattle.std.specs.Ordering.{nat_cmp}
use Rattle.std.specs.BTreeSet.{insert_key}
use Rattle.simplex_types.specs.Proposal.{same_proposal}
use Rattle.simplex_types.specs.Certificates.{ProposalFacts}
use Rattle.simplex_types.specs.declared.types.fault.Fault.{Fault}
use Rattle.simplex_types.specs.declared.types.messages.Proposal.{Proposal}
use Rattle.simplex_types.specs.declared.reasons.TimeoutReason.TheVariants.{FailedCertification}
use Rattle.simplex_round.specs.declared.round.Certification.TheVariants.{Outstanding}
use Rattle.simplex_round.specs.Round.{RoundFacts, certifiable_proposal, certified_round, token_of, after_abort, is_judged}
use Rattle.simplex_voter.specs.declared.voter.candidates.CertificateFetch.{CertificateFetch}
use Rattle.simplex_voter.specs.Facts.{StateFacts, Elect, round_at, round_of, is_tracked, with_round, with_tracked}
use Rattle.simplex_voter.specs.Refusals.{first_fault, enters_late, is_started}
use Rattle.simplex_voter.specs.Payloads.{explicit_ancestry_payload}
use Rattle.simplex_voter.specs.Parents.{has_valid_parent_span}
use Rattle.simplex_voter.specs.Rules.{required_certification_parent}
use Rattle.simplex_voter.specs.ViewEntry.{with_view_entered, at_moment}
use Rattle.simplex_voter.specs.Timeouts.{with_timeout}

-- a certification that is under way ends without a verdict
abbrev pub without_token : {K D : Type 0} → RoundFacts K D → RoundFacts K D
without_token r = if is_some (token_of r.certification)
    then record r { certification = after_abort r.certification } else r

module _ {K L D : Type 0} where
  -- the view waits for certification
  abbrev pub named_also : StateFacts K L D → ℕ → StateFacts K L D
  named_also x v = if nat_lt x.finalized v then record x { named = insert_key nat_cmp x.named v } else x

  -- a finalization raises the last finalized view, and nothing at or below it waits for certification
  abbrev pub with_finalized_view : StateFacts K L D → ℕ → StateFacts K L D
  with_finalized_view x v =
      if nat_lt x.finalized v
      then record x {
        finalized = v;
        named = filter (λ w. nat_lt v w) x.named;
        rounds = map (λ e. (e.0, if nat_le e.0 v then without_token e.1 else e.1)) x.rounds;
      }
      else x

module _ {K L D : Type 0} (elect : Elect L) where
  -- the view above p is notarized and its proposal needs p certified
  abbrev pub waits_for : StateFacts K L D → ℕ → RoundFacts K D → Bool
  waits_for x p r =
      is_some r.notarization
      && option_map_or (λ h. option_map_or (λ q. q == p) (required_certification_parent elect x (p + 1) h) false)
      r.slot.held false

  -- once p is certified or finalized, the view above it that waited for p is a candidate again
  abbrev pub with_waiting_candidate : StateFacts K L D → ℕ → StateFacts K L D
  with_waiting_candidate x p =
      if option_map_or (waits_for x p) (round_at x (p + 1)) false then named_also x (p + 1) else x

  -- what the proposal requires is certified
  abbrev pub certification_parent_ready : StateFacts K L D → ℕ → Proposal D → Bool
  certification_parent_ready x v p =
      option_map_or (λ q. has_valid_parent_span x v p.parent && is_some (explicit_ancestry_payload x q))
      (required_certification_parent elect x v p) true

  -- the notarization to fetch: what the proposal requires is neither certified nor notarized, and the proposal is not
  -- invalid for good
  abbrev pub certification_fetch : StateFacts K L D → ℕ → Proposal D → Option CertificateFetch
  certification_fetch x v p =
      option_and_then
      (λ q. if has_valid_parent_span x v p.parent && is_none (explicit_ancestry_payload x q)
      && is_none (round_of x q).notarization
      then Some (record { proposal = p.round.view; view = q })
      else None)
      (required_certification_parent elect x v p)

  -- the notarization to fetch before the proposal of a view can be certified
  abbrev pub fetched_of : StateFacts K L D → ℕ → Option CertificateFetch
  fetched_of x v = option_and_then (certification_fetch x v) (round_of x v).slot.held

module _ {K L D : Type 0} (same : D → D → Bool) (elect : Elect L) where
  -- the proposal of a view that is offered for certification
  abbrev pub offered_of : StateFacts K L D → ℕ → Option (Proposal D)
  offered_of x v =
      option_and_then
      (λ p. if nat_lt p.parent v && certification_parent_ready elect x v p then Some p else None)
      (certifiable_proposal (same_proposal same) (round_of x v))

  -- `certify_candidates`: the proposals offered among the waiting views, and what they must fetch, by rising view; none
  -- waits then
  abbrev pub candidates_answer : StateFacts K L D → List (Proposal D) × List CertificateFetch
  candidates_answer x = (filter_map (offered_of x) x.named, filter_map (fetched_of elect x) x.named)

module _ {K L D : Type 0} where
  -- each candidate was offered
  abbrev pub after_candidates : StateFacts K L D → StateFacts K L D
  after_candidates x = record x { named = [] }

  -- `set_certify_handle`: the certification is under way
  abbrev pub after_set_certify_handle : StateFacts K L D → ℕ → ℕ → StateFacts K L D
  after_set_certify_handle x v token = with_tracked x v (record (round_of x v) { certification = Outstanding token })

  -- the view has no verdict
  abbrev pub takes_certify_handle : StateFacts K L D → ℕ → Bool
  takes_certify_handle x v =
      is_started x && not (is_judged true (round_of x v).certification)
      && not (is_judged false (round_of x v).certification)

  -- `certified`: the verdict of a view's certification; nothing where the view isn't tracked
  abbrev pub certified_answer : StateFacts K L D → ℕ → Option (ProposalFacts D)
  certified_answer x v = option_and_then (λ r. r.notarization) (round_at x v)

  -- a tracked view has its notarization, and no other verdict
  abbrev pub takes_verdict : StateFacts K L D → ℕ → Bool → Bool
  takes_verdict x v success =
      is_started x
      && option_map_or (λ r. is_some r.notarization && not (is_judged (not success) r.certification))
      (round_at x v) true

  -- the view is tracked, and has no verdict yet
  abbrev pub is_first_verdict : StateFacts K L D → ℕ → Bool
  is_first_verdict x v =
      option_map_or (λ r. not (is_judged true r.certification) && not (is_judged false r.certification))
      (round_at x v) false

  -- why a verdict is refused: the state has failed, or a deadline of the view that it enters is too large
  abbrev pub certified_refusal : StateFacts K L D → ℕ → Bool → ℕ → Option Fault
  certified_refusal x v success now =
      first_fault x.failed false (success && is_tracked x v && enters_late x (v + 1) now)

  -- the verdict is stored in the view's round
  abbrev pub with_verdict : StateFacts K L D → ℕ → Bool → StateFacts K L D
  with_verdict x v success = with_round x v (certified_round (round_of x v) success)

module _ {K L D : Type 0} (elect : Elect L) where
  -- a true verdict enters the next view and wakes what waited for this one; a false one times the view out
  abbrev pub verdict_taken : StateFacts K L D → ℕ → Bool → ℕ → StateFacts K L D
  verdict_taken x v true now = with_waiting_candidate elect (with_view_entered (with_verdict x v true) (v + 1) now) v
  verdict_taken x v false now = with_timeout (with_verdict x v false) v FailedCertification now

  -- the verdict takes effect; for a view that is not tracked it only records the moment
  abbrev pub after_certified : StateFacts K L D → ℕ → Bool → ℕ → StateFacts K L D
  after_certified x v success now =
      if is_tracked x v then verdict_taken (at_moment x now) v success now else at_moment x now
