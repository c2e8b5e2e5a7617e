-- What a list of events says: numbers, and what was passed in for each view. The latest event comes first.
use Rattle.std.specs.Prelude.{ℕ, ◌+◌, ◌-◌, max, Bool, true, ◌&&◌, ◌==◌, List, [], ◌∷◌, Option, Some, None, is_some, unwrap_or, if◌then◌else◌}
use Rattle.std.specs.List.{list_any}
use Rattle.std.specs.Option.{option_or}
use Rattle.simplex_types.specs.Terms.{next_term_start}
use Rattle.simplex_types.specs.Certificates.{ProposalFacts, NullificationFacts, Verdict}
use Rattle.simplex_types.specs.Config.{Genesis, Finalized}
use Rattle.simplex_record.specs.Events.{Event, SetFloor, AddNotarization, AddNullification, AddFinalization, Certified, Proposed, VerificationFailed, TriggerTimeout, NextTimeout, Replay, covers_from, finalized_by_event, is_prune}

-- what was there, or else what is new
abbrev pub or_new : {A : Type 0} → Option A → Option A → Option A
or_new old None = old
or_new old (Some a) = option_or old (Some a)

-- the first thing that a list says
abbrev pub earliest : {A B : Type 0} → (A → Option B) → List A → Option B
earliest f [] = None
earliest f (e ∷ before) = or_new (earliest f before) (f e)

-- the last one
abbrev pub latest : {A B : Type 0} → (A → Option B) → List A → Option B
latest f [] = None
latest f (e ∷ before) = option_or (f e) (latest f before)

-- the highest one, or 0
abbrev pub highest : {A : Type 0} → (A → ℕ) → List A → ℕ
highest f [] = 0
highest f (e ∷ before) = max (highest f before) (f e)

-- the thing, if it is of this view
abbrev pub at : {A : Type 0} → ℕ → ℕ → A → Option A
at v w a = if v == w then Some a else None

-- what one event says

module _ {K D : Type 0} where
  -- of a view

  -- the notarization that an event passes, of this view
  abbrev pub brings_notarization : ℕ → Event K D → Option (ProposalFacts D)
  brings_notarization v (AddNotarization c) = at v c.proposal.round.view c
  brings_notarization v _ = None

  -- the nullification
  abbrev pub brings_nullification : ℕ → Event K D → Option NullificationFacts
  brings_nullification v (AddNullification c _) = at v c.round.view c
  brings_nullification v _ = None

  -- the finalization, a floor's as well
  abbrev pub brings_finalization : ℕ → Event K D → Option (ProposalFacts D)
  brings_finalization v (AddFinalization c _) = at v c.proposal.round.view c
  brings_finalization v (SetFloor (Finalized c) _) = at v c.proposal.round.view c
  brings_finalization v _ = None

  -- a verdict, unless it is passed for a view without a notarization
  abbrev pub verdict_of_event : (ℕ → Bool) → ℕ → Event K D → Option Bool
  verdict_of_event is_notarized v (Certified w success _) = if v == w && is_notarized w then Some success else None
  verdict_of_event is_notarized v (Replay (Verdict round success)) = at v round.view success
  verdict_of_event is_notarized v _ = None

  -- of the state

  -- the payload of genesis that a floor sets
  abbrev pub sets_genesis : Event K D → Option D
  sets_genesis (SetFloor (Genesis payload) _) = Some payload
  sets_genesis _ = None

  -- a true verdict enters the next view, unless it is passed for a view without a notarization
  abbrev pub entered_by : ℕ → (ℕ → Bool) → Event K D → ℕ
  entered_by term_length is_notarized (SetFloor (Genesis _) _) = 1
  entered_by term_length is_notarized (SetFloor (Finalized c) _) = c.proposal.round.view + 1
  entered_by term_length is_notarized (AddFinalization c _) = c.proposal.round.view + 1
  entered_by term_length is_notarized (AddNullification c _) = next_term_start term_length c.round.view
  entered_by term_length is_notarized (Certified v true _) = if is_notarized v then v + 1 else 0
  entered_by term_length is_notarized _ = 0

  -- the moment that it carries, in milliseconds
  abbrev pub moment_by : Event K D → Option ℕ
  moment_by (SetFloor _ now) = Some now
  moment_by (AddNullification _ now) = Some now
  moment_by (AddFinalization _ now) = Some now
  moment_by (Certified _ _ now) = Some now
  moment_by (Proposed _ _ now) = Some now
  moment_by (VerificationFailed _ _ now) = Some now
  moment_by (TriggerTimeout _ _ now) = Some now
  moment_by (NextTimeout now) = Some now
  moment_by _ = None

-- what the list says

module _ {K D : Type 0} where
  -- the first notarization of a view
  abbrev pub notarization_in : ℕ → List (Event K D) → Option (ProposalFacts D)
  notarization_in v history = earliest (brings_notarization v) history

  -- the first nullification
  abbrev pub nullification_in : ℕ → List (Event K D) → Option NullificationFacts
  nullification_in v history = earliest (brings_nullification v) history

  -- the first finalization
  abbrev pub finalization_in : ℕ → List (Event K D) → Option (ProposalFacts D)
  finalization_in v history = earliest (brings_finalization v) history

  -- there is a notarization of the view
  abbrev pub is_notarized_in : List (Event K D) → ℕ → Bool
  is_notarized_in history v = is_some (notarization_in v history)

  -- the first verdict on a view, once it was notarized
  abbrev pub verdict_in : ℕ → List (Event K D) → Option Bool
  verdict_in v [] = None
  verdict_in v (e ∷ before) = or_new (verdict_in v before) (verdict_of_event (is_notarized_in before) v e)

  -- a nullification of the view was passed in or replayed
  abbrev pub is_nullified_in : ℕ → List (Event K D) → Bool
  is_nullified_in v history = list_any (covers_from v) history

  -- the payload of genesis that was set last
  abbrev pub genesis_in : List (Event K D) → Option D
  genesis_in history = latest sets_genesis history

  -- the last moment, or 0
  abbrev pub moment_in : List (Event K D) → ℕ
  moment_in history = unwrap_or (latest moment_by history) 0

  -- the highest finalized view
  abbrev pub finalized_by_events : List (Event K D) → ℕ
  finalized_by_events history = highest finalized_by_event history

  -- the highest view that was entered, in terms of this length
  abbrev pub current_in : ℕ → List (Event K D) → ℕ
  current_in term_length [] = 0
  current_in term_length (e ∷ before) =
      max (current_in term_length before) (entered_by term_length (is_notarized_in before) e)

  -- the lowest view that the prunes left, if this number of views below the last finalized one are retained
  abbrev pub kept_in : ℕ → List (Event K D) → ℕ
  kept_in retention [] = 0
  kept_in retention (e ∷ before) =
      max (kept_in retention before) (if is_prune e then finalized_by_events before - retention else 0)
