-- When a history shows what a state knows.
use Rattle.std.specs.Prelude.{◌≡◌, ◌<◌, ◌≤◌, ℕ, Bool, true, false, ◌||◌, Option, Some, None, is_some, unwrap_or}
use Rattle.std.specs.Ordering.{nat_cmp}
use Rattle.std.specs.FinMap.Entries.{is_sorted}
use Rattle.simplex_round.specs.declared.round.Certification.{Certification}
use Rattle.simplex_round.specs.declared.round.Certification.TheVariants.{Ready, Outstanding, Judged, Aborted}
use Rattle.simplex_voter.specs.Facts.{StateFacts, Elect, round_of, is_tracked}
use Rattle.simplex_member.specs.OutstandingWork.{is_among}
use Rattle.simplex_record.specs.Events.{Event}
use Rattle.laws_history.specs.History.{History}
use Rattle.laws_history.specs.LeaderHistory.{comes_to_track}
use Rattle.laws_history.specs.OwnWork.{facts_after, was_done, last_said, casts_nullify}
use Rattle.laws_history.specs.WorkRequests.{names}
use Rattle.laws_history.specs.HistoryRounds.{round_in}
use Rattle.laws_history.specs.HistoryFolds.{verdict_in, is_nullified_in, genesis_in, moment_in, finalized_by_events, current_in, kept_in}
use Rattle.laws_history.specs.Moments.{enters}

-- the verdict that was passed
abbrev pub verdict_of : Certification → Option Bool
verdict_of Ready = None
verdict_of (Outstanding _) = None
verdict_of (Judged verdict) = Some verdict
verdict_of Aborted = None

-- the lowest view that the prunes of a history left
abbrev pub kept_of : {K L D : Type 0} → History K L D → ℕ
kept_of history = kept_in history.fresh.settings.view_retention history.events

-- the view is tracked from an event on: it enters the view, or is about it
abbrev pub comes_up : {K L D : Type 0} → (D → D → Bool) → Elect L → ℕ → StateFacts K L D → Event K D → Bool
comes_up same elect v x e = is_some (enters v x e) || comes_to_track same elect v x e

-- what a state knows is what its history says: how it was set up, numbers, which views wait for certification, and of
-- each view that no prune has dropped whether it is tracked and its whole round. A view that a prune dropped isn't
-- known again.
pub record DeterminesState {K L D : Type 0} (same : D → D → Bool) (elect : Elect L) (history : History K L D)
    (x : StateFacts K L D) : Type 0 where
  pub facts : x ≡ facts_after same elect history.fresh history.events
  -- how it was set up stays, and no event fails it
  pub settings : x.settings ≡ history.fresh.settings
  pub me : x.me ≡ history.fresh.me
  pub members : x.members ≡ history.fresh.members
  pub elector : x.elector ≡ history.fresh.elector
  pub terms : x.terms ≡ history.fresh.terms
  pub elects_early : x.elects_early ≡ history.fresh.elects_early
  pub failed : x.failed ≡ history.fresh.failed
  -- the state
  pub genesis : x.genesis ≡ genesis_in history.events
  pub current : x.current ≡ current_in history.fresh.terms.term_length history.events
  pub finalized : x.finalized ≡ finalized_by_events history.events
  pub moment : x.moment ≡ moment_in history.events
  pub named : (v : ℕ) → is_among v x.named ≡ unwrap_or
      (last_said same elect (names elect v) history.fresh history.events) false
  -- its views, and those that were dropped
  pub in_order : is_sorted nat_cmp x.rounds ≡ true
  pub dropped : 0 < history.fresh.terms.term_length → (v : ℕ) → v < kept_of history → is_tracked x v ≡ false
  pub nullified_dropped : (v : ℕ) → v < kept_of history → is_among v x.nullified ≡ false
  pub votes_dropped : (v : ℕ) → v < kept_of history → is_among v x.nullify_votes ≡ false
  -- those that are retained
  pub nullified : (v : ℕ) → kept_of history ≤ v → is_among v x.nullified ≡ is_nullified_in v history.events
  pub nullify_votes : (v : ℕ) → kept_of history ≤ v
      → is_among v x.nullify_votes ≡ was_done same elect (casts_nullify v) history.fresh history.events
  pub tracked : (v : ℕ) → kept_of history ≤ v
      → is_tracked x v ≡ was_done same elect (comes_up same elect v) history.fresh history.events
  pub rounds : (v : ℕ) → kept_of history ≤ v → round_of x v ≡ round_in same elect history v
  -- the verdict by what was passed in alone
  pub verdict : (v : ℕ) → kept_of history ≤ v → verdict_of (round_of x v).certification ≡ verdict_in v history.events
