-- What an engine has planned.
use Rattle.std.specs.Prelude.{◌≡◌, ℕ, ◌+◌, min, Bool, true, false, ◌&&◌, nat_lt, nat_le, List, [], ◌∷◌, ◌++◌, Option, None}
use Rattle.std.specs.Option.{option_map_or}
use Rattle.engine_planner.specs.declared.plan.Plan.{Plan}
use Rattle.engine_planner.specs.declared.plan.Step.{Step}
use Rattle.engine_planner.specs.declared.plan.Step.TheVariants.{Ask}
use Rattle.engine_planner.specs.declared.task.Task.TheVariants.{ConstructNotarize, ConstructFinalize, BroadcastNotarization, BroadcastNullification, BroadcastFinalization}
use Rattle.engine_fetches.specs.declared.fetches.Fetch.{Fetch}
use Rattle.engine_fetches.specs.Fetches.{due_at, IsEarliest}

-- nothing is due at the moment: no step is queued; the member was asked for its timeout, and for the views that it may
-- drop, since the moment came, and about each block to build, since something changed; and no fetch is due
pub record IsIdle {S D K G C : Type 0} (now : ℕ) (plan : Plan S D K G C) : Type 0 where
  pub steps : plan.steps.items ≡ []
  pub watched : plan.is_watch_due ≡ false
  pub timeout : plan.is_timeout_due ≡ false
  pub pruned : plan.is_prune_due ≡ false
  pub fetched : due_at now plan.repair.fetches.wanted.items ≡ None

module _ {S D K G C : Type 0} where
  -- these steps are appended to those that were queued, and nothing else has changed
  pub record HasPlanned (more : List (Step S D K G C)) (old new : Plan S D K G C) : Type 0 where
    pub steps : new.steps.items ≡ old.steps.items ++ more
    pub same : new ≡ record old { steps = new.steps }

  -- blocks are to be watched
  abbrev pub watching : Plan S D K G C → Plan S D K G C
  watching plan = record plan { is_watch_due = true }

  -- to ask for this member's votes on the view
  abbrev pub asking_for_votes : ℕ → List (Step S D K G C)
  asking_for_votes view = Ask (ConstructNotarize view) ∷ Ask (ConstructFinalize view) ∷ []

  -- to ask for the certificates of the view that were not returned yet
  abbrev pub asking_for_certificates : ℕ → List (Step S D K G C)
  asking_for_certificates view =
      Ask (BroadcastNotarization view) ∷ Ask (BroadcastNullification view) ∷ Ask (BroadcastFinalization view) ∷ []

  -- for both
  abbrev pub touching : ℕ → List (Step S D K G C)
  touching view = asking_for_votes view ++ asking_for_certificates view

-- a proposal of the view may be stored beside this number of others: the view is one of the eight after the current
-- one, and fewer than eight are stored
abbrev pub may_keep : ℕ → ℕ → ℕ → Bool
may_keep current view kept = nat_lt current view && nat_le view (current + 8) && nat_lt kept 8

-- the moment of the next asking for a fetch or of the timeout, whichever is earlier
abbrev pub IsWake : List Fetch → ℕ → ℕ → Type 0
IsWake wanted timeout moment =
    (asking : Option ℕ) × IsEarliest wanted asking × (moment ≡ option_map_or (λ at. min at timeout) asking timeout)
