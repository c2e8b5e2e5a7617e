-- How the state of a restart is made from a record. No public clause names these.
use Rattle.std.specs.Prelude.{◌≡◌, Bool, List, Some, None}
use Rattle.simplex_types.specs.Certificates.{ArtifactFacts}
use Rattle.simplex_voter.specs.Facts.{StateFacts, Elect}
use Rattle.simplex_record.specs.declared.record.error.RecoverError.{RecoverError}
use Rattle.simplex_record.specs.Recovery.{recovered_state, recover_error}
use Rattle.simplex_member.specs.Restarts.{IsByView}
use Rattle.simplex_record.specs.Start.{StartFacts, new_state}

module _ {K L D : Type 0} (same : D → D → Bool) where
  -- no state is made, by the error that applies to a copy of the entries by view
  abbrev pub IsRefusedBy : StartFacts K L D → List (ArtifactFacts D) → RecoverError → Type 0
  IsRefusedBy start entries error =
      (copy : List (ArtifactFacts D))
      × IsByView entries copy
      × (recover_error same (new_state start.setup) start.floor start.now copy ≡ Some error)

module _ {K L D : Type 0} (same : D → D → Bool) (elect : Elect L) where
  -- a state is made from a copy of the entries by view
  abbrev pub IsRemadeBy : StartFacts K L D → List (ArtifactFacts D) → StateFacts K L D → Type 0
  IsRemadeBy start entries x =
      (copy : List (ArtifactFacts D))
      × IsByView entries copy
      × (recover_error same (new_state start.setup) start.floor start.now copy ≡ None)
      × (x ≡ recovered_state same elect (new_state start.setup) start.floor start.now copy)
