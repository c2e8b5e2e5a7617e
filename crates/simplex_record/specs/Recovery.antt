-- The recovery of a state from a floor and a record: certificates are added, votes, verdicts and certificates replayed,
-- and verdicts given.
use Rattle.std.specs.Prelude.{◌≡◌, ℕ, Bool, true, false, nat_lt, if◌then◌else◌, List, [], ◌∷◌, ◌++◌, Option, Some, None}
use Rattle.std.specs.Option.{option_or}
use Rattle.simplex_types.specs.Certificates.{ProposalFacts, Notarized, Nullified, Finalized, ArtifactFacts, NotarizeVote, NullifyVote, FinalizeVote, Verdict, Accepted, artifact_facts}
use Rattle.simplex_types.specs.MessageViews.{artifact_view}
use Rattle.simplex_types.specs.Config.{FloorFacts}
use Rattle.simplex_types.specs.declared.types.messages.Artifact.{Artifact}
use Rattle.simplex_types.specs.declared.types.messages.Artifact.TheVariants as artifact
use Rattle.simplex_voter.specs.Facts.{StateFacts, Elect}
use Rattle.simplex_voter.specs.Windows.{min_active}
use Rattle.simplex_voter.specs.Refusals.{has_late_deadline, takes_round}
use Rattle.simplex_voter.specs.Acceptance.{after_add_notarization, after_add_nullification, after_add_finalization, floor_answer, after_set_floor}
use Rattle.simplex_voter.specs.Certification.{takes_verdict, after_certified}
use Rattle.simplex_voter.specs.Replay.{after_replayed, artifact_round, artifact_too_large, TakesReplay}
use Rattle.simplex_record.specs.declared.record.error.RecoverError.{RecoverError}
use Rattle.simplex_record.specs.declared.record.error.RecoverError.TheVariants as error
use Rattle.simplex_record.specs.Entries.{entry_view}
use Rattle.simplex_record.specs.Check.{stands, first_recover_error}

-- an entry as an artifact whose certificates are their bytes
abbrev pub as_artifact : {K D : Type 0} → ArtifactFacts D → Artifact (Unit {0}) D K (Unit {0}) (List ℕ)
as_artifact (NotarizeVote p signer) = artifact.Notarize (record { proposal = p; signer = signer; signature = tt })
as_artifact (NullifyVote round signer) = artifact.Nullify (record { round = round; signer = signer; signature = tt })
as_artifact (FinalizeVote p signer) = artifact.Finalize (record { proposal = p; signer = signer; signature = tt })
as_artifact (Verdict round success) = artifact.Certification round success
as_artifact (Accepted (Notarized c)) = artifact.Notarization (record { proposal = c.proposal; certificate = c.bytes })
as_artifact (Accepted (Nullified c)) = artifact.Nullification (record { round = c.round; certificate = c.bytes })
as_artifact (Accepted (Finalized c)) = artifact.Finalization (record { proposal = c.proposal; certificate = c.bytes })

module _ {K L D : Type 0} (same : D → D → Bool) (elect : Elect L) where
  -- a certificate is added before it is replayed
  abbrev pub after_adding : StateFacts K L D → ℕ → ArtifactFacts D → StateFacts K L D
  after_adding x now (Accepted (Notarized c)) = after_add_notarization same elect x c
  after_adding x now (Accepted (Nullified c)) = after_add_nullification elect x c now
  after_adding x now (Accepted (Finalized c)) = after_add_finalization same elect x c now
  after_adding x now _ = x

  -- an entry is replayed
  abbrev pub after_replaying : StateFacts K L D → ArtifactFacts D → StateFacts K L D
  after_replaying x e = after_replayed same elect x (as_artifact e)

module _ {K L D : Type 0} (elect : Elect L) where
  -- a verdict is given after it was replayed
  abbrev pub after_verdict_of : StateFacts K L D → ℕ → ArtifactFacts D → StateFacts K L D
  after_verdict_of x now (Verdict round success) = after_certified elect x round.view success now
  after_verdict_of x now _ = x

module _ {K L D : Type 0} (same : D → D → Bool) (elect : Elect L) where
  -- an entry is taken again
  abbrev pub after_entry : StateFacts K L D → ℕ → ArtifactFacts D → StateFacts K L D
  after_entry x now e = after_verdict_of elect (after_replaying same elect (after_adding same elect x now e) e) now e

  -- but one below the retained views is skipped
  unfoldable pub after_kept_entry : StateFacts K L D → ℕ → ArtifactFacts D → StateFacts K L D
  after_kept_entry x now e = if nat_lt (entry_view e) (min_active x) then x else after_entry x now e

  -- the entries are taken in order
  abbrev pub after_entries : StateFacts K L D → ℕ → List (ArtifactFacts D) → StateFacts K L D
  after_entries x now [] = x
  after_entries x now (e ∷ rest) = after_entries (after_kept_entry x now e) now rest

  -- a state that knows nothing yet sets the floor, and takes the record
  unfoldable pub recovered_state : StateFacts K L D → FloorFacts D → ℕ → List (ArtifactFacts D) → StateFacts K L D
  recovered_state x floor now entries = after_entries (after_set_floor same elect x floor now) now entries

module _ {K L D : Type 0} (same : D → D → Bool) where
  -- why no state is made, other than out of memory: the first broken rule, or else a deadline that passes 64 bits
  abbrev pub recover_error : StateFacts K L D → FloorFacts D → ℕ → List (ArtifactFacts D) → Option RecoverError
  recover_error x floor now entries =
      option_or
      (first_recover_error same x.settings.epoch x.me floor entries)
      (if has_late_deadline x now then Some error.TimeOverflow else None)

module _ {D : Type 0} where
  -- the entry is a finalization
  abbrev pub is_finalization_entry : ArtifactFacts D → Bool
  is_finalization_entry (Accepted (Finalized _)) = true
  is_finalization_entry _ = false

  -- a finalization is recorded, unless the record has one of its view
  abbrev pub with_finalization_entry : List (ArtifactFacts D) → Option (ProposalFacts D) → List (ArtifactFacts D)
  with_finalization_entry entries None = entries
  with_finalization_entry entries (Some c) =
      if stands c.proposal.round.view is_finalization_entry entries then entries else entries
      ++ Accepted (Finalized c) ∷ []

  -- the floor's finalization is recorded
  abbrev pub with_floor : List (ArtifactFacts D) → FloorFacts D → List (ArtifactFacts D)
  with_floor entries floor = with_finalization_entry entries (floor_answer floor)

module _ {K L D : Type 0} where
  -- if it is a verdict, it may be given
  abbrev pub GivesVerdict : StateFacts K L D → ArtifactFacts D → Type 0
  GivesVerdict x (Verdict round success) = takes_verdict x round.view success ≡ true
  GivesVerdict x _ = Unit {0}

module _ {S K L D G C : Type 0} (bytes_of : C → List ℕ) (same : D → D → Bool) (elect : Elect L) where
  -- each step of taking an artifact again is one that the state allows
  pub record TakesEntry (x : StateFacts K L D) (now : ℕ) (a : Artifact S D K G C) : Type 0 where
    pub kept : takes_round x (artifact_round a) ≡ true
    pub replays : TakesReplay (after_adding same elect x now (artifact_facts bytes_of a)) a
    pub gives : GivesVerdict
        (after_replaying same elect (after_adding same elect x now (artifact_facts bytes_of a))
        (artifact_facts bytes_of a))
        (artifact_facts bytes_of a)

  -- its views are small, and a state that retains its view allows it
  pub record TakesNext (x : StateFacts K L D) (now : ℕ) (a : Artifact S D K G C) : Type 0 where
    pub small : artifact_too_large a ≡ false
    pub taken : nat_lt (artifact_view a) (min_active x) ≡ false → TakesEntry x now a

  -- the same for each entry when it is reached
  abbrev pub TakesEntries : StateFacts K L D → ℕ → List (Artifact S D K G C) → Type 0
  TakesEntries x now [] = Unit {0}
  TakesEntries x now (a ∷ rest) =
      TakesNext x now a × TakesEntries (after_kept_entry same elect x now (artifact_facts bytes_of a)) now rest
