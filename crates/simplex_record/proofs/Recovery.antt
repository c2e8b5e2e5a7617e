-- An artifact is replayed as its entry is, and after an entry was taken the state has not failed.
use Rattle.std.proofs.Common.{◌≡◌, refl, ℕ, nat_lt, Bool, true, false, List}
use Rattle.simplex_types.specs.Certificates.{ArtifactFacts, Accepted, Notarized, Nullified, Finalized, artifact_facts}
use Rattle.simplex_types.specs.declared.types.messages.Artifact.{Artifact}
use Rattle.simplex_types.specs.declared.types.messages.Artifact.TheVariants as artifact
use Rattle.simplex_voter.specs.Facts.{StateFacts, Elect}
use Rattle.simplex_voter.specs.Windows.{min_active}
use Rattle.simplex_voter.specs.Replay.{after_replayed}
use Rattle.simplex_record.specs.Entries.{entry_view}
use Rattle.simplex_record.specs.Recovery.{after_adding, after_replaying, after_entry, after_kept_entry}
use Rattle.simplex_record.specs.Events.{AddNotarization, AddNullification, AddFinalization}
use Rattle.simplex_record.proofs.UnchangedSettings.{UnchangedSettings, stays, event_goes}

pub replayed_entry : {S K L D G C : Type 0} (bytes_of : C → List ℕ) (same : D → D → Bool) (elect : Elect L)
    (x : StateFacts K L D) (a : Artifact S D K G C)
    → after_replayed same elect x a ≡ after_replaying same elect x (artifact_facts bytes_of a)
replayed_entry bytes_of same elect x (artifact.Notarize _) = refl
replayed_entry bytes_of same elect x (artifact.Notarization _) = refl
replayed_entry bytes_of same elect x (artifact.Certification _ _) = refl
replayed_entry bytes_of same elect x (artifact.Nullify _) = refl
replayed_entry bytes_of same elect x (artifact.Nullification _) = refl
replayed_entry bytes_of same elect x (artifact.Finalize _) = refl
replayed_entry bytes_of same elect x (artifact.Finalization _) = refl

module _ {K L D : Type 0} (same : D → D → Bool) (elect : Elect L) where
  pub added_goes : (x : StateFacts K L D) (now : ℕ) (e : ArtifactFacts D)
      → UnchangedSettings x (after_adding same elect x now e)
  added_goes x now (Accepted (Notarized c)) = event_goes same elect x (AddNotarization c)
  added_goes x now (Accepted (Nullified c)) = event_goes same elect x (AddNullification c now)
  added_goes x now (Accepted (Finalized c)) = event_goes same elect x (AddFinalization c now)
  added_goes x now _ = stays x

  -- an entry of a retained view is taken, and another is skipped
  pub kept_taken : (x : StateFacts K L D) (now : ℕ) (e : ArtifactFacts D) → nat_lt (entry_view e) (min_active x) ≡ false
      → after_kept_entry same elect x now e ≡ after_entry same elect x now e
  unfolding after_kept_entry
  kept_taken x now e kept = rw kept refl

  pub low_taken : (x : StateFacts K L D) (now : ℕ) (e : ArtifactFacts D) → nat_lt (entry_view e) (min_active x) ≡ true
      → after_kept_entry same elect x now e ≡ x
  unfolding after_kept_entry
  low_taken x now e low = rw low refl
