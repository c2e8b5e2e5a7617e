-- How the history of a member's lifetime grows: by its calls, and anew by each recovery.
use Rattle.std.specs.Prelude.{◌≡◌, ℕ, Bool, ◌-◌, nat_lt, if◌then◌else◌, List, [], ◌∷◌, ◌++◌, None, MatchOption, Ok}
use Rattle.simplex_types.specs.Certificates.{ArtifactFacts, Verdict, Accepted, Notarized, Nullified, Finalized}
use Rattle.simplex_voter.specs.Facts.{StateFacts, Elect}
use Rattle.simplex_member.specs.Calls.{CallFacts, ReplyFacts, Refused, NotAllowed, NotRestarted}
use Rattle.simplex_member.specs.OutstandingWork.{OutstandingWork}
use Rattle.simplex_record.specs.Entries.{entry_view}
use Rattle.laws_safety.specs.Executions.{new_member}
use Rattle.simplex_record.specs.Events.{Event, SetFloor, AddNotarization, AddNullification, AddFinalization, Certified, Replay, IsEvent, after_event}
use Rattle.laws_history.specs.History.{History, with_event}
use Rattle.simplex_member.specs.Events.{events_of}
use Rattle.simplex_member.specs.MemberFacts.{MemberFacts, IsCall}
use Rattle.simplex_record.specs.Recovery.{recovered_state, recover_error}
use Rattle.simplex_member.specs.Restarts.{RestartFacts, IsByView, IsRestart, cut_member}
use Rattle.simplex_member.specs.Runs.{StepFacts, Calls, Prunes, Restarts, IsStep, IsRun}
use Rattle.laws_history.specs.HistoryFacts.{DeterminesState}
use Rattle.simplex_record.specs.Start.{Setup, StartFacts, new_state}
use Rattle.laws_history.specs.HistoryFolds.{finalized_by_events}

-- an entry is taken again: a certificate is added before it is replayed, and a verdict is passed after that
abbrev pub retaken_events : {K D : Type 0} → ℕ → ArtifactFacts D → List (Event K D)
retaken_events now (Accepted (Notarized c)) = Replay (Accepted (Notarized c)) ∷ AddNotarization c ∷ []
retaken_events now (Accepted (Nullified c)) = Replay (Accepted (Nullified c)) ∷ AddNullification c now ∷ []
retaken_events now (Accepted (Finalized c)) = Replay (Accepted (Finalized c)) ∷ AddFinalization c now ∷ []
retaken_events now (Verdict round success) = Certified round.view success now ∷ Replay (Verdict round success) ∷ []
retaken_events now vote = Replay vote ∷ []

module _ {K L D : Type 0} where
  -- the history with these events more, the latest first
  abbrev pub with_events : History K L D → List (Event K D) → History K L D
  with_events history new = record history { events = new ++ history.events }

  -- the history with the call, by what is open then, unless it is refused
  abbrev pub with_call_events : History K L D → OutstandingWork K D → CallFacts D → ReplyFacts K D → History K L D
  with_call_events history o call (Refused _) = history
  with_call_events history o call NotAllowed = history
  with_call_events history o call _ = with_events history (events_of o call)

  -- the history with an entry that is taken again; one below the retained views is skipped
  abbrev pub with_entry_taken : History K L D → ℕ → ArtifactFacts D → History K L D
  with_entry_taken history now e =
      if nat_lt (entry_view e) (finalized_by_events history.events - history.fresh.settings.view_retention)
      then history
      else with_events history (retaken_events now e)

  -- the history with entries that are taken again, one after another
  abbrev pub with_entries : History K L D → ℕ → List (ArtifactFacts D) → History K L D
  with_entries history now [] = history
  with_entries history now (e ∷ rest) = with_entries (with_entry_taken history now e) now rest

  -- the history of a lifetime that begins with a floor and a record
  abbrev pub recovery : StartFacts K L D → List (ArtifactFacts D) → History K L D
  recovery start entries =
      with_entries (record { fresh = new_state start.setup; events = SetFloor start.floor start.now ∷ [] })
      start.now entries

module _ {K L D : Type 0} (same : D → D → Bool) (elect : Elect L) where
  -- while the member has not failed, its state knows what the history says
  abbrev pub DeterminesMember : History K L D → MemberFacts K L D → Type 0
  DeterminesMember history m = MatchOption m.life (Unit {0}) (DeterminesState same elect history)

  -- how a member's run leads from one history to another: each call by what the member has open then; a pruning of its
  -- record says nothing of its state; a restart that is not refused takes again, in some order by view, what the cuts
  -- leave of its record
  abbrev pub LeadsTo : MemberFacts K L D → History K L D → List (StepFacts K L D) → List (ReplyFacts K D)
      → History K L D → MemberFacts K L D → Type 0
  LeadsTo m history [] [] last end = (last ≡ history) × (m ≡ end)
  LeadsTo m history [] (replied ∷ rest) last end = ⊥
  LeadsTo m history (step ∷ steps) [] last end = ⊥
  LeadsTo m history (Calls call ∷ steps) (replied ∷ rest) last end =
      (next : MemberFacts K L D)
      × IsStep same elect m (Calls call) replied next
      × LeadsTo next (with_call_events history m.outstanding_work call replied) steps rest last end
  LeadsTo m history (Prunes ∷ steps) (replied ∷ rest) last end =
      (next : MemberFacts K L D) × IsStep same elect m Prunes replied next × LeadsTo next history steps rest last end
  LeadsTo m history (Restarts r ∷ steps) (NotRestarted error ∷ rest) last end =
      (next : MemberFacts K L D)
      × IsStep same elect m (Restarts r) (NotRestarted error) next
      × LeadsTo next history steps rest last end
  LeadsTo m history (Restarts r ∷ steps) (replied ∷ rest) last end =
      (next : MemberFacts K L D)
      × IsStep same elect m (Restarts r) replied next
      × ((copy : List (ArtifactFacts D)) × IsByView (cut_member m r.drop r.prune).entries copy
      × LeadsTo next (recovery r.start copy) steps rest last end)

module _ (K : Type 0) {L D : Type 0} (same : D → D → Bool) (elect : Elect L) where
  -- a new state has no event
  abbrev pub NothingSaid : Type 0
  NothingSaid = (setup : Setup K L)
      → DeterminesState {D = D} same elect (record { fresh = new_state setup; events = [] }) (new_state setup)

  -- an event that the state allows is the last of the history then
  abbrev pub EventsDetermineStates : Type 0
  EventsDetermineStates =
      (history : History K L D) (x : StateFacts K L D) (e : Event K D)
      → DeterminesState same elect history x → IsEvent x e
      → DeterminesState same elect (with_event history e) (after_event same elect x e)

  -- a call changes the history as it says
  abbrev pub CallsDetermineStates : Type 0
  CallsDetermineStates =
      (history : History K L D) (m left : MemberFacts K L D) (call : CallFacts D) (replied : ReplyFacts K D)
      → DeterminesMember same elect history m
      → IsCall same elect m call replied left
      → DeterminesMember same elect (with_call_events history m.outstanding_work call replied) left

  -- a recovery that is not refused is shown by the history that it begins
  abbrev pub RecoveriesDetermineStates : Type 0
  RecoveriesDetermineStates =
      (start : StartFacts K L D) (entries : List (ArtifactFacts D))
      → recover_error same (new_state start.setup) start.floor start.now entries ≡ None
      → DeterminesState same elect (recovery start entries)
      (recovered_state same elect (new_state start.setup) start.floor start.now entries)

  -- the same for some order by view of what is left of the record
  abbrev pub RestartsDetermineStates : Type 0
  RestartsDetermineStates =
      (m left : MemberFacts K L D) (r : RestartFacts K L D)
      → IsRestart same elect m r (Ok tt) left
      → (copy : List (ArtifactFacts D)) × IsByView (cut_member m r.drop r.prune).entries copy
      × DeterminesMember same elect (recovery r.start copy) left

  -- the same for the history that the run's steps lead to
  abbrev pub RunsDetermineStates : Type 0
  RunsDetermineStates =
      (start : StartFacts K L D) (steps : List (StepFacts K L D)) (replies : List (ReplyFacts K D))
      (end : MemberFacts K L D)
      → recover_error same (new_state start.setup) start.floor start.now [] ≡ None
      → IsRun same elect (new_member same elect start) steps replies end
      → (last : History K L D)
      × LeadsTo same elect (new_member same elect start) (recovery start []) steps replies last end
      × DeterminesMember same elect last end
