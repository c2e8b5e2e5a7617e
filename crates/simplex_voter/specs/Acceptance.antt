-- The effects of certificates and of the floor.
use Rattle.std.specs.Prelude.{ℕ, ◌+◌, Bool, true, false, ◌&&◌, ◌==◌, not, nat_le, Option, Some, None, is_some, if◌then◌else◌}
use Rattle.std.specs.Ordering.{nat_cmp}
use Rattle.std.specs.BTreeSet.{insert_key}
use Rattle.simplex_types.specs.Terms.{next_term_start}
use Rattle.simplex_types.specs.Proposal.{same_proposal}
use Rattle.simplex_types.specs.Certificates.{ProposalFacts, NullificationFacts}
use Rattle.simplex_types.specs.Config.{FloorFacts, Genesis, Finalized}
use Rattle.simplex_types.specs.declared.types.fault.Fault.{Fault}
use Rattle.simplex_types.specs.declared.types.messages.Proposal.{Proposal}
use Rattle.simplex_round.specs.Round.{RoundFacts, equivocator, with_notarization, with_nullification, with_finalization}
use Rattle.simplex_voter.specs.Facts.{StateFacts, Elect, round_of, with_round}
use Rattle.simplex_voter.specs.Refusals.{first_fault, is_too_large, names_too_large, enters_late, proposal_refusal, takes_round}
use Rattle.simplex_voter.specs.ViewEntry.{with_view_entered, at_moment}
use Rattle.simplex_voter.specs.Leaders.{with_elected_leader, with_window_leaders}
use Rattle.simplex_voter.specs.Certification.{named_also, with_finalized_view, with_waiting_candidate}

-- whether the certificate is the first of its kind and view; and, if its proposal differs from the held one, the
-- leader's key
abbrev pub added_answer : {K D : Type 0} → (D → D → Bool) → Option (ProposalFacts D) → RoundFacts K D → Proposal D
    → Bool × Option K
added_answer same standing r p =
    if is_some standing then (false, None) else (true, equivocator (same_proposal same) r p)

-- `set_floor`: the floor's finalization
abbrev pub floor_answer : {D : Type 0} → FloorFacts D → Option (ProposalFacts D)
floor_answer (Genesis _) = None
floor_answer (Finalized c) = Some c

module _ {K L D : Type 0} where
  -- the nullification's view and the later ones of its term are nullified
  abbrev pub nullified_also : StateFacts K L D → ℕ → StateFacts K L D
  nullified_also x u = record x { nullified = insert_key nat_cmp x.nullified u }

  -- `add_nullification`
  abbrev pub nullification_added : StateFacts K L D → NullificationFacts → Bool
  nullification_added x c = not (is_some (round_of x c.round.view).nullification)

  -- why a nullification is refused: the state has failed, its view is too large, or a deadline of the next term's first
  -- view is
  abbrev pub nullification_refusal : StateFacts K L D → NullificationFacts → ℕ → Option Fault
  nullification_refusal x c now =
      first_fault x.failed (is_too_large c.round.view)
      (enters_late x (next_term_start x.terms.term_length c.round.view) now)

  -- the nullification is stored in its view's round
  abbrev pub with_nullification_at : StateFacts K L D → NullificationFacts → StateFacts K L D
  with_nullification_at x c = with_round x c.round.view (with_nullification (round_of x c.round.view) c)

  -- `add_finalization`
  abbrev pub finalization_refusal : StateFacts K L D → Proposal D → ℕ → Option Fault
  finalization_refusal x p now = first_fault x.failed (names_too_large p) (enters_late x (p.round.view + 1) now)

  -- `set_genesis` and `set_floor`
  abbrev pub floor_refusal : StateFacts K L D → FloorFacts D → ℕ → Option Fault
  floor_refusal x (Genesis _) now = first_fault x.failed false (enters_late x 1 now)
  floor_refusal x (Finalized c) now = finalization_refusal x c.proposal now

  -- no floor was set; and a finalization is of this epoch and not of genesis
  abbrev pub takes_floor : StateFacts K L D → FloorFacts D → Bool
  takes_floor x (Genesis _) = x.current == 0
  takes_floor x (Finalized c) =
      x.current == 0 && c.proposal.round.epoch == x.settings.epoch && nat_le 1 c.proposal.round.view

  -- the view's finalization counts as already broadcast
  abbrev pub with_finalization_broadcast : StateFacts K L D → ℕ → StateFacts K L D
  with_finalization_broadcast x v = with_round x v (record (round_of x v) { finalization_broadcast = true })

module _ {K L D : Type 0} (elect : Elect L) where
  -- a nullification elects for the next term's start, enters it, and covers the rest of its own term
  abbrev pub after_add_nullification : StateFacts K L D → NullificationFacts → ℕ → StateFacts K L D
  after_add_nullification x c now =
      let next = next_term_start x.terms.term_length c.round.view in
      nullified_also
      (with_nullification_at (with_elected_leader elect (with_view_entered (at_moment x now) next now) next
      (Some c.bytes)) c)
      c.round.view

  -- the floor is genesis: its payload is stored, and view 1 entered and led
  abbrev pub after_set_genesis : StateFacts K L D → D → ℕ → StateFacts K L D
  after_set_genesis x payload now =
      with_elected_leader elect (with_view_entered (record (at_moment x now) { genesis = Some payload }) 1 now) 1 None

module _ {K L D : Type 0} (same : D → D → Bool) (elect : Elect L) where
  -- `add_notarization`
  abbrev pub notarization_added : StateFacts K L D → ProposalFacts D → Bool × Option K
  notarization_added x c =
      added_answer same (round_of x c.proposal.round.view).notarization (round_of x c.proposal.round.view) c.proposal

  -- the notarization is stored in its view's round, whose proposal it settles
  abbrev pub with_notarization_at : StateFacts K L D → ProposalFacts D → StateFacts K L D
  with_notarization_at x c =
      with_round x c.proposal.round.view (with_notarization (same_proposal same) (round_of x c.proposal.round.view) c)

  -- a notarization elects for the next view; the first of its view waits for certification and opens windows above it
  abbrev pub after_add_notarization : StateFacts K L D → ProposalFacts D → StateFacts K L D
  after_add_notarization x c =
      let v = c.proposal.round.view in
      let kept = with_notarization_at (with_elected_leader elect x (v + 1) (Some c.bytes)) c in
      if is_some (round_of x v).notarization then kept else with_window_leaders (named_also kept v) v

  -- whether it is the first of its view, and the leader that it shows to have equivocated
  abbrev pub finalization_added : StateFacts K L D → ProposalFacts D → Bool × Option K
  finalization_added x c =
      added_answer same (round_of x c.proposal.round.view).finalization (round_of x c.proposal.round.view) c.proposal

  -- the finalization is stored in its view's round, whose proposal it settles
  abbrev pub with_finalization_at : StateFacts K L D → ProposalFacts D → StateFacts K L D
  with_finalization_at x c =
      with_round x c.proposal.round.view (with_finalization (same_proposal same) (round_of x c.proposal.round.view) c)

  -- a finalization raises the last finalized view, enters the next one and elects for it; the first of its view wakes
  -- the view that waited for it and opens windows above it
  abbrev pub after_add_finalization : StateFacts K L D → ProposalFacts D → ℕ → StateFacts K L D
  after_add_finalization x c now =
      let v = c.proposal.round.view in
      let passed = with_view_entered (with_finalized_view (at_moment x now) v) (v + 1) now in
      let kept = with_finalization_at (with_elected_leader elect passed (v + 1) (Some c.bytes)) c in
      if is_some (round_of x v).finalization then kept else with_window_leaders (with_waiting_candidate elect kept v) v

  -- the floor is set: genesis, or a finalization, which is then not broadcast
  abbrev pub after_set_floor : StateFacts K L D → FloorFacts D → ℕ → StateFacts K L D
  after_set_floor x (Genesis payload) now = after_set_genesis elect x payload now
  after_set_floor x (Finalized c) now =
      with_finalization_broadcast (after_add_finalization x c now) c.proposal.round.view

module _ {K L D : Type 0} where
  -- what each of the three `add_` calls requires of its certificate
  abbrev pub takes_proposal_certificate : StateFacts K L D → ProposalFacts D → Bool
  takes_proposal_certificate x c = takes_round x c.proposal.round

  -- a nullification of this epoch, of a view that one may name
  abbrev pub takes_nullification : StateFacts K L D → NullificationFacts → Bool
  takes_nullification x c = takes_round x c.round

  -- why a notarization is refused
  abbrev pub notarization_refusal : StateFacts K L D → ProposalFacts D → Option Fault
  notarization_refusal x c = proposal_refusal x c.proposal
