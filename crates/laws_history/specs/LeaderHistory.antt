-- What events say of leaders, and of which views are tracked. A leader that is set stays, and so does a tracked view
-- that no prune drops.
use Rattle.std.specs.Prelude.{ℕ, zero, suc, ◌+◌, ◌-◌, Bool, true, false, ◌&&◌, ◌||◌, ◌==◌, List, Option, Some, None, is_some, is_none, option_and_then, if◌then◌else◌}
use Rattle.std.specs.Option.{option_or}
use Rattle.simplex_types.specs.Terms.{next_term_start}
use Rattle.simplex_types.specs.Certificates.{ProposalFacts, NotarizeVote}
use Rattle.simplex_types.specs.Config.{Genesis, Finalized}
use Rattle.simplex_round.specs.declared.round.Leader.{Leader}
use Rattle.simplex_round.specs.Round.{leader_at}
use Rattle.simplex_voter.specs.Facts.{StateFacts, Elect, round_of, round_number}
use Rattle.simplex_voter.specs.Leaders.{opened_views, with_elected_leader}
use Rattle.simplex_voter.specs.Payloads.{is_elected_early}
use Rattle.simplex_voter.specs.Rules.{may_notarize, may_nullify, may_finalize}
use Rattle.simplex_voter.specs.Windows.{in_issuance_window}
use Rattle.simplex_member.specs.OutstandingWork.{is_among}
use Rattle.simplex_record.specs.Entries.{entry_view}
use Rattle.simplex_record.specs.Events.{Event, SetFloor, AddNotarization, AddNullification, AddFinalization, ConstructNotarize, ConstructNullify, ConstructFinalize, SetProposal, Replay}

module _ {K L D : Type 0} where
  -- the member of the same index
  abbrev pub same_member : StateFacts K L D → Option (Leader K) → Option (Leader K)
  same_member x leader = option_and_then (λ l. leader_at x.members l.idx) leader

  -- the leader of the nearest view that has one, from this number of views above another one back to that
  abbrev pub nearest_leader : StateFacts K L D → ℕ → ℕ → Option (Leader K)
  nearest_leader x u zero = (round_of x u).leader
  nearest_leader x u (suc k) = option_or (round_of x (u + suc k)).leader (same_member x (nearest_leader x u k))

  -- the leader after a view whose window a certificate of u opens
  abbrev pub window_leader : StateFacts K L D → ℕ → ℕ → Option (Leader K)
  window_leader x u v = if is_among v (opened_views x u) then nearest_leader x u (v - 1 - u) else None

module _ {K L D : Type 0} (elect : Elect L) where
  -- the elector's choice for a view, after a certificate of these bytes
  abbrev pub elected_leader : StateFacts K L D → ℕ → ℕ → Option (List ℕ) → Option (Leader K)
  elected_leader x v w seed = if v == w then leader_at x.members (elect x.elector (round_number x w) seed) else None

  -- the leader that a certificate's window gives the view, once the certificate has elected for the next view
  abbrev pub opens : StateFacts K L D → ℕ → ProposalFacts D → Option (Leader K)
  opens x v c =
      let u = c.proposal.round.view in
      window_leader (with_elected_leader elect x (u + 1) (Some c.bytes)) u v

  -- the leader that a certificate gives the view: it elects for the next one, and the first of its kind opens windows
  -- above it
  abbrev pub leads_by : StateFacts K L D → Bool → ℕ → ProposalFacts D → Option (Leader K)
  leads_by x is_first v c =
      option_or
      (elected_leader x v (c.proposal.round.view + 1) (Some c.bytes))
      (if is_first then same_member x (opens x v c) else None)

  -- a certificate has the view tracked: its own, the next one, and those of a window that get a leader
  abbrev pub tracks_by : StateFacts K L D → Bool → ℕ → ProposalFacts D → Bool
  tracks_by x is_first v c =
      v == c.proposal.round.view || v == c.proposal.round.view + 1 || is_first && is_some (opens x v c)

  -- at a term's start a member that is elected early takes the view over, after its own vote for the view before
  abbrev pub takes_view_over : StateFacts K L D → Bool → ℕ → Bool
  takes_view_over x voted v = voted && is_elected_early elect x v

  -- the leader that a proposal or an own vote of w gives the view: in its window the next view takes the leader of w
  abbrev pub leads_after : StateFacts K L D → Bool → ℕ → ℕ → Option (Leader K)
  leads_after x voted w v =
      if in_issuance_window x (w + 1)
      then (if v == w + 1 then same_member x (round_of x w).leader else None)
      else (if takes_view_over x voted (w + 1) then elected_leader x v (w + 1) None else None)

  -- a proposal or an own vote of w has the next view tracked, if it gets a leader
  abbrev pub tracks_after : StateFacts K L D → Bool → ℕ → ℕ → Bool
  tracks_after x voted w v =
      v == w + 1 && (if in_issuance_window x (w + 1) then is_some (round_of x w).leader
      else takes_view_over x voted (w + 1))

module _ {K L D : Type 0} (same : D → D → Bool) (elect : Elect L) where
  -- the leader that an event gives a view that has none
  abbrev pub leader_by_event : ℕ → StateFacts K L D → Event K D → Option (Leader K)
  leader_by_event v x (SetFloor (Genesis _) _) = elected_leader elect x v 1 None
  leader_by_event v x (SetFloor (Finalized c) _) =
      leads_by elect x (is_none (round_of x c.proposal.round.view).finalization) v c
  leader_by_event v x (AddNotarization c) =
      leads_by elect x (is_none (round_of x c.proposal.round.view).notarization) v c
  leader_by_event v x (AddNullification c _) =
      elected_leader elect x v (next_term_start x.terms.term_length c.round.view) (Some c.bytes)
  leader_by_event v x (AddFinalization c _) =
      leads_by elect x (is_none (round_of x c.proposal.round.view).finalization) v c
  leader_by_event v x (ConstructNotarize w) = if may_notarize same elect x w then leads_after elect x true w v else None
  leader_by_event v x (SetProposal w _) = leads_after elect x (round_of x w).notarize_decided w v
  leader_by_event v x (Replay (NotarizeVote p _)) = leads_after elect x true p.round.view v
  leader_by_event v x _ = None

  -- an event is about a view: a certificate, a proposal, a vote, or an entry of the record; or it readies or leads it
  abbrev pub comes_to_track : ℕ → StateFacts K L D → Event K D → Bool
  comes_to_track v x (SetFloor (Genesis _) _) = v == 1
  comes_to_track v x (SetFloor (Finalized c) _) =
      tracks_by elect x (is_none (round_of x c.proposal.round.view).finalization) v c
  comes_to_track v x (AddNotarization c) =
      tracks_by elect x (is_none (round_of x c.proposal.round.view).notarization) v c
  comes_to_track v x (AddNullification c _) = v == c.round.view || v == next_term_start x.terms.term_length c.round.view
  comes_to_track v x (AddFinalization c _) =
      tracks_by elect x (is_none (round_of x c.proposal.round.view).finalization) v c
  comes_to_track v x (ConstructNotarize w) = may_notarize same elect x w && (v == w || tracks_after elect x true w v)
  comes_to_track v x (ConstructNullify w) = v == w && may_nullify x w
  comes_to_track v x (ConstructFinalize w) = v == w && may_finalize elect x w
  comes_to_track v x (SetProposal w _) = v == w || tracks_after elect x (round_of x w).notarize_decided w v
  comes_to_track v x (Replay (NotarizeVote p _)) = v == p.round.view || tracks_after elect x true p.round.view v
  comes_to_track v x (Replay e) = v == entry_view e
  comes_to_track v x _ = false
