-- Which proposals of other leaders this member verifies, and which certificates it misses for that.
use Rattle.std.specs.Prelude.{ℕ, Bool, true, false, ◌&&◌, ◌==◌, not, List, [], ◌∷◌, Option, Some, None, is_none, option_map, option_and_then, if◌then◌else◌, slice_get, map}
use Rattle.std.specs.List.{filter_map, list_any}
use Rattle.std.specs.Option.{option_map_or}
use Rattle.simplex_types.specs.Proposal.{same_proposal}
use Rattle.simplex_types.specs.declared.types.messages.Context.{Context}
use Rattle.simplex_types.specs.declared.types.messages.Proposal.{Proposal}
use Rattle.simplex_types.specs.declared.reasons.Kind.{Kind}
use Rattle.simplex_types.specs.declared.reasons.Kind.TheVariants.{Nullification, Notarization}
use Rattle.simplex_types.specs.declared.reasons.TimeoutReason.{TimeoutReason}
use Rattle.simplex_types.specs.declared.reasons.TimeoutReason.TheVariants.{InvalidProposal}
use Rattle.simplex_round.specs.declared.round.Leader.{Leader}
use Rattle.simplex_round.specs.Slot.{after_vote, after_mark, is_unverified}
use Rattle.simplex_round.specs.Round.{RoundFacts, is_nullify, pending_proposal, with_latch, is_last_request}
use Rattle.simplex_voter.specs.declared.voter.verify.Standing.{Standing}
use Rattle.simplex_voter.specs.declared.voter.verify.Standing.TheVariants.{NothingToDo, Invalid, Lacks, Ready}
use Rattle.simplex_voter.specs.declared.voter.verify.Verify.{Verify}
use Rattle.simplex_voter.specs.declared.voter.verify.Verify.TheVariants as verify
use Rattle.simplex_voter.specs.Facts.{StateFacts, Elect, round_at, round_of, with_round, with_tracked}
use Rattle.simplex_voter.specs.Gaps.{first_unnullified_view}
use Rattle.simplex_voter.specs.Windows.{in_issuance_window, is_admitted}
use Rattle.simplex_voter.specs.Parents.{has_valid_parent_span, ancestry_payload_for_child, verification_matches}
use Rattle.simplex_voter.specs.ProposalRequests.{views_ahead}
use Rattle.simplex_voter.specs.Leaders.{with_next_view_ready}
use Rattle.simplex_voter.specs.ViewEntry.{at_moment}
use Rattle.simplex_voter.specs.Refusals.{takes_round}
use Rattle.simplex_voter.specs.Timeouts.{with_timeout}

-- a certificate is fetched, unless its view was the last one asked for
abbrev pub fetch_once : {K D : Type 0} → RoundFacts K D → ℕ → Kind → Standing D
fetch_once r w kind = if is_last_request r w then NothingToDo else Lacks w kind

-- the held proposal is returned for verification, bound to its parent's payload
abbrev pub verifying_round : {K D : Type 0} → RoundFacts K D → D → RoundFacts K D
verifying_round r d =
    record r { slot = record (r.slot) { verify_requested = true }; binding = option_map (λ p. (p, d)) r.slot.held }

-- peers were asked for a certificate of this view last
abbrev pub with_request : {K D : Type 0} → RoundFacts K D → ℕ → RoundFacts K D
with_request r w = record r { last_request = Some w }

-- nothing is bound any more
abbrev pub with_nothing_bound : {K D : Type 0} → RoundFacts K D → RoundFacts K D
with_nothing_bound r = record r { binding = None }

-- a round of this standing after the scan
abbrev pub round_left : {K D : Type 0} → RoundFacts K D → ℕ → Standing D → RoundFacts K D
round_left r now NothingToDo = r
round_left r now Invalid = with_latch r now InvalidProposal
round_left r now (Lacks w kind) = with_request r w
round_left r now (Ready d) = verifying_round r d

-- the scan ends here: something must be fetched or verified
abbrev pub is_answered : {D : Type 0} → Standing D → Bool
is_answered NothingToDo = false
is_answered Invalid = false
is_answered (Lacks w kind) = true
is_answered (Ready d) = true

-- the front of a list, up to and including the first that passes
abbrev pub through : {A : Type 0} → (A → Bool) → List A → List A
through test [] = []
through test (a ∷ rest) = if test a then a ∷ [] else a ∷ through test rest

-- the context for the application: the proposal's view, its leader, and its parent with the payload
abbrev pub verify_context : {K D : Type 0} → Leader K × Proposal D → D → Context D K
verify_context found d = record { round = found.1.round; leader = found.0.key; parent = (found.1.parent, d) }

-- the scan's result at a view of this standing, with its leader and proposal
abbrev pub answer_at : {K D : Type 0} → ℕ → Standing D → Leader K × Proposal D → Option (Verify D K)
answer_at v NothingToDo found = None
answer_at v Invalid found = None
answer_at v (Lacks w kind) found = Some (verify.Resolve v w kind found.0.key)
answer_at v (Ready d) found = Some (verify.Ready (verify_context found d) found.1)

-- a proposal would be the first of its view, and nullify was not decided
abbrev pub is_new_proposal : {K D : Type 0} → RoundFacts K D → Bool
is_new_proposal r = not (is_nullify r.decision) && is_none r.slot.held

module _ {K L D : Type 0} where
  -- the state after the scan of a view of this standing
  abbrev pub left_at : StateFacts K L D → ℕ × RoundFacts K D → Standing D → StateFacts K L D
  left_at x e NothingToDo = x
  left_at x e Invalid = with_round x e.0 (with_latch e.1 x.moment InvalidProposal)
  left_at x e (Lacks w kind) = with_round x e.0 (with_request e.1 w)
  left_at x e (Ready d) = with_round x e.0 (verifying_round e.1 d)

  -- what the call requires of a proposal of this view: this epoch, and a retained view
  abbrev pub takes_proposal : StateFacts K L D → ℕ → Proposal D → Bool
  takes_proposal x v p = takes_round x p.round && p.round.view == v

  -- the proposal of the view is bound to no payload of its parent
  abbrev pub without_binding : StateFacts K L D → ℕ → StateFacts K L D
  without_binding x v = with_tracked x v (with_nothing_bound (round_of x v))

  -- `set_proposal`: whether to verify it
  abbrev pub set_proposal_answer : StateFacts K L D → ℕ → Bool
  set_proposal_answer x v = is_new_proposal (round_of x v)

-- the round takes a proposal, unless this member voted to nullify the view
abbrev pub with_proposal : {K D : Type 0} → (D → D → Bool) → RoundFacts K D → Proposal D → RoundFacts K D
with_proposal same r p =
    if is_nullify r.decision then r else record r { slot = after_vote (same_proposal same) r.slot p }

-- its proposal is verified, unless this member voted to nullify the view
abbrev pub with_mark : {K D : Type 0} → RoundFacts K D → RoundFacts K D
with_mark r = if is_nullify r.decision then r else record r { slot = after_mark r.slot }

module _ {K L D : Type 0} (same : D → D → Bool) (elect : Elect L) where
  -- a proposal is passed in: the next view is prepared, and the round takes the proposal
  abbrev pub after_set_proposal : StateFacts K L D → ℕ → Proposal D → StateFacts K L D
  after_set_proposal x v p =
      let ready = with_next_view_ready elect x v in
      with_round ready v (with_proposal same (round_of ready v) p)

  -- with no gap above it, the parent's payload is ready, or still forming inside the window, or its notarization is
  -- missing
  abbrev pub payload_standing : StateFacts K L D → ℕ → RoundFacts K D → ℕ → Standing D
  payload_standing x v r p =
      option_map_or Ready (ancestry_payload_for_child same elect x v p)
      (if in_issuance_window x v then NothingToDo else fetch_once r p Notarization)

  -- the standing of a proposal by its parent: the first gap must be closed first
  abbrev pub parent_standing : StateFacts K L D → ℕ → RoundFacts K D → ℕ → Standing D
  parent_standing x v r p =
      if has_valid_parent_span x v p
      then option_map_or (λ w. fetch_once r w Nullification) (first_unnullified_view x p v) (payload_standing x v r p)
      else Invalid

  -- the standing of a view: something is due if another member leads it, this member may work there, and its proposal
  -- was not verified yet
  unfoldable pub standing : StateFacts K L D → ℕ × RoundFacts K D → Standing D
  standing x e =
      if is_admitted x e.0
      then option_map_or (λ found. parent_standing x e.0 e.1 found.1.parent) (pending_proposal e.1) NothingToDo
      else NothingToDo

  -- the result if the scan comes to this view
  abbrev pub answer_in : StateFacts K L D → ℕ × RoundFacts K D → Option (Verify D K)
  answer_in x e = option_and_then (answer_at e.0 (standing x e)) (pending_proposal e.1)

  -- `try_verify`: the result of the lowest view ahead that has one
  abbrev pub verify_answer : StateFacts K L D → Verify D K
  verify_answer x = option_map_or (λ found. found) (slice_get (filter_map (answer_in x) (views_ahead x)) 0) verify.Wait

  -- the views ahead up to that one
  abbrev pub scanned_views : StateFacts K L D → List (ℕ × RoundFacts K D)
  scanned_views x = through (λ e. is_answered (standing x e)) (views_ahead x)

  -- the scan came to the view
  abbrev pub was_scanned : StateFacts K L D → ℕ → Bool
  was_scanned x v = list_any (λ e. v == e.0) (scanned_views x)

  -- the round of a view that was scanned changes by its standing, and any other stays
  abbrev pub scan_left : StateFacts K L D → ℕ → RoundFacts K D → RoundFacts K D
  scan_left x v r = if was_scanned x v then round_left r x.moment (standing x (v, r)) else r

  -- views with an invalid parent time out, and the one with a result is verified or asks for a certificate
  abbrev pub after_try_verify : StateFacts K L D → StateFacts K L D
  after_try_verify x = record x { rounds = map (λ e. (e.0, scan_left x e.0 e.1)) x.rounds }

  -- `verified`: whether the held proposal is marked; an answer about what is no longer bound removes the binding
  abbrev pub verified_answer : StateFacts K L D → ℕ → Bool
  verified_answer x v =
      verification_matches same elect x v
      && option_map_or (λ r. not (is_nullify r.decision) && is_unverified r.slot) (round_at x v) false

  -- the application found the proposal valid: it is marked if its binding matches, else the binding is removed
  abbrev pub after_verified : StateFacts K L D → ℕ → StateFacts K L D
  after_verified x v =
      if verification_matches same elect x v then with_tracked x v (with_mark (round_of x v)) else without_binding x v

  -- `verification_failed`
  abbrev pub after_verification_failed : StateFacts K L D → ℕ → TimeoutReason → ℕ → StateFacts K L D
  after_verification_failed x v reason now =
      if verification_matches same elect x v then with_timeout (at_moment x now) v reason now
      else without_binding (at_moment x now) v
