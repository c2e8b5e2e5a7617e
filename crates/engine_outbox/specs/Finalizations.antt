-- The proposals that are reported as final, by the outputs and by what a member has done.
use Rattle.std.specs.Prelude.{◌≡◌, ◌<◌, ℕ, max, nat_lt, List, [], ◌∷◌, ◌++◌, Contains, if◌then◌else◌}
use Rattle.simplex_types.specs.declared.types.messages.Proposal.{Proposal}
use Rattle.simplex_types.specs.declared.types.messages.Subject.TheVariants.{Finalize}
use Rattle.laws_safety.specs.Traces.{TraceEvent, Accepts}
use Rattle.engine_outbox.specs.declared.outbox.Outbox.{Outbox}
use Rattle.engine_outbox.specs.declared.output.Output.{Output}
use Rattle.engine_outbox.specs.declared.output.Output.TheVariants.{Finalized}

-- the proposals that outputs report as final, in order
abbrev pub finals_in : {S D J K G C : Type 0} → List (Output S D J K G C) → List (Proposal D)
finals_in [] = []
finals_in (Finalized proposal ∷ rest) = proposal ∷ finals_in rest
finals_in (_ ∷ rest) = finals_in rest

module _ {D : Type 0} where
  -- the proposals of the finalizations that were accepted, in order
  abbrev pub finals_by : List (TraceEvent D) → List (Proposal D)
  finals_by [] = []
  finals_by (Accepts (Finalize proposal) ∷ rest) = proposal ∷ finals_by rest
  finals_by (_ ∷ rest) = finals_by rest

  -- the finalization of each of these proposals was accepted
  abbrev pub WereAccepted : List (TraceEvent D) → List (Proposal D) → Type 0
  WereAccepted all finals = (p : Proposal D) → Contains finals p → Contains all (Accepts (Finalize p))

  -- the views rise
  abbrev pub RiseByView : List (Proposal D) → Type 0
  RiseByView (p ∷ q ∷ rest) = (p.round.view < q.round.view) × RiseByView (q ∷ rest)
  RiseByView _ = Unit {0}

  -- the last one, if there is one, is of this view
  abbrev pub EndsAt : ℕ → List (Proposal D) → Type 0
  EndsAt view [] = Unit {0}
  EndsAt view (p ∷ []) = p.round.view ≡ view
  EndsAt view (_ ∷ rest) = EndsAt view rest

  -- those that are of a view above this one and above all before
  abbrev pub rising_above : ℕ → List (Proposal D) → List (Proposal D)
  rising_above view [] = []
  rising_above view (p ∷ rest) =
      if nat_lt view p.round.view then p ∷ rising_above p.round.view rest else rising_above view rest

  -- the highest of this view and theirs
  abbrev pub raised_to : ℕ → List (Proposal D) → ℕ
  raised_to view [] = view
  raised_to view (p ∷ rest) = raised_to (max view p.round.view) rest

module _ {S D J K G C : Type 0} where
  -- each of these proposals whose view is above all that were reported is queued to be reported as final, and nothing
  -- else is
  pub record ReportsRising (finals : List (Proposal D)) (old new : Outbox S D J K G C) : Type 0 where
    pub queued : finals_in new.queue.items ≡ finals_in old.queue.items ++ rising_above old.reported finals
    pub reported : new.reported ≡ raised_to old.reported finals

  -- these were returned, and no other proposal is queued to be reported as final
  pub record ReportsNoMore (out : List (Output S D J K G C)) (old new : Outbox S D J K G C) : Type 0 where
    pub queued : finals_in old.queue.items ≡ finals_in (out ++ new.queue.items)
    pub reported : new.reported ≡ old.reported
