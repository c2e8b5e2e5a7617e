-- The laws of a state that is recovered from any record, or that is used without a member.
use Rattle.std.specs.Prelude.{◌≡◌, ℕ, ◌<◌, ◌≤◌, Bool, true, false, ◌&&◌, ◌==◌, List, [], ◌∷◌, None, is_some}
use Rattle.std.specs.List.{list_any, All}
use Rattle.simplex_types.specs.Certificates.{ArtifactFacts, FinalizeVote, Verdict}
use Rattle.simplex_types.specs.Config.{FloorFacts}
use Rattle.simplex_round.specs.Round.{is_nullify}
use Rattle.simplex_voter.specs.Facts.{StateFacts, Elect, round_of}
use Rattle.simplex_voter.specs.ProposalRequests.{voted_nullify}
use Rattle.simplex_voter.specs.Acceptance.{after_set_floor}
use Rattle.simplex_voter.specs.Timeouts.{has_timeout}
use Rattle.simplex_record.specs.Events.{Event, SetFloor, Replay, IsEvent, after_event}
use Rattle.simplex_record.specs.Recovery.{recover_error, recovered_state}
use Rattle.simplex_record.specs.Start.{Setup, StartFacts, new_state}
use Rattle.laws_safety.specs.LifetimeLaws.{CurrentTimesOut}

-- the event replays a true verdict of the view, or this member's vote to finalize it
abbrev pub settles : {K D : Type 0} → ℕ → Event K D → Bool
settles v (Replay (Verdict round true)) = round.view == v
settles v (Replay (FinalizeVote p _)) = p.round.view == v
settles v _ = false

module _ {K L D : Type 0} (same : D → D → Bool) (elect : Elect L) where
  -- the facts after events, one after another
  abbrev pub after_events : StateFacts K L D → List (Event K D) → StateFacts K L D
  after_events x [] = x
  after_events x (e ∷ rest) = after_events (after_event same elect x e) rest

  -- the facts allow each event when it comes
  abbrev pub AllowsEach : StateFacts K L D → List (Event K D) → Type 0
  AllowsEach x [] = Unit {0}
  AllowsEach x (e ∷ rest) = IsEvent x e × AllowsEach (after_event same elect x e) rest

-- the current view lies above the last finalized one, and has a timeout unless a replay among the events settles it
pub record TimesOutUnlessSettled {K L D : Type 0} (events : List (Event K D)) (x : StateFacts K L D) : Type 0 where
  pub ahead : x.finalized < x.current
  pub timeout : list_any (settles x.current) events ≡ false → has_timeout x ≡ true

-- each view that is nullified, and each that this member voted to nullify, lies above genesis
pub record AboveGenesis {K L D : Type 0} (x : StateFacts K L D) : Type 0 where
  pub nullified : All (λ u. 1 ≤ u) x.nullified
  pub nullify_votes : All (λ u. 1 ≤ u) x.nullify_votes

module _ (K : Type 0) {L D : Type 0} (same : D → D → Bool) (elect : Elect L) where
  -- this holds in a state whose floor is set, whatever its later events are
  abbrev pub UsedStatesTimeOut : Type 0
  UsedStatesTimeOut =
      (setup : Setup K L) (floor : FloorFacts D) (now : ℕ) (events : List (Event K D))
      → TimesOutUnlessSettled events
      (after_events same elect (after_set_floor same elect (new_state setup) floor now) events)

  -- the current view has a timeout in each state that is recovered from a record that breaks no rule
  abbrev pub RecoveredStatesTimeOut : Type 0
  RecoveredStatesTimeOut =
      (start : StartFacts K L D) (entries : List (ArtifactFacts D))
      → recover_error same (new_state start.setup) start.floor start.now entries ≡ None
      → CurrentTimesOut (recovered_state same elect (new_state start.setup) start.floor start.now entries)

  -- for a state whose floor is set, after any events that it allows: `voted_nullify` is true of a view exactly if this
  -- member has a key and its vote to nullify is decided there; the view is then tracked
  abbrev pub NullifyVotesAreDecided : Type 0
  NullifyVotesAreDecided =
      (setup : Setup K L) (floor : FloorFacts D) (now : ℕ) (events : List (Event K D)) (v : ℕ)
      → AllowsEach same elect (new_state setup) (SetFloor floor now ∷ events)
      → voted_nullify (after_events same elect (new_state setup) (SetFloor floor now ∷ events)) v
      ≡ (is_some setup.me && is_nullify
      (round_of (after_events same elect (new_state setup) (SetFloor floor now ∷ events)) v).decision)

  -- each view that such a state has a nullification of, or a vote to nullify, lies above genesis
  abbrev pub NullifiesAboveGenesis : Type 0
  NullifiesAboveGenesis =
      (setup : Setup K L) (floor : FloorFacts D) (now : ℕ) (events : List (Event K D))
      → AllowsEach same elect (after_set_floor same elect (new_state setup) floor now) events
      → AboveGenesis (after_events same elect (after_set_floor same elect (new_state setup) floor now) events)
