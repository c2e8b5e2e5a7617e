-- The journal of a member, and what is made from it.
use Rattle.std.proofs.Common.{◌≡◌, refl, ap, sym, ◌∙◌, ℕ, zero, suc, ◌-◌, Bool, true, false, ◌&&◌, min, List, [], ◌∷◌, length, take, drop, filter, Some, ◌⊎◌}
use Rattle.std.specs.Prelude.{nat_lt}
use Rattle.std.proofs.lemmas.List.{drop_min, drop-map, take_rest}
use Rattle.simplex_types.specs.Certificates.{ArtifactFacts, artifact_facts}
use Rattle.simplex_types.specs.declared.types.messages.Artifact.{Artifact}
use Rattle.simplex_types.specs.declared.types.messages.Artifact.TheVariants as artifact
use Rattle.simplex_voter.specs.Facts.{StateFacts, Elect}
use Rattle.simplex_record.specs.declared.record.error.RecoverError.{RecoverError}
use Rattle.simplex_record.specs.declared.record.error.RecoverError.TheVariants as error
use Rattle.simplex_member.specs.declared.member.journal.Stored.{Stored}
use Rattle.simplex_member.specs.declared.member.resume.ResumeError.TheVariants as resume_error
use Rattle.simplex_record.specs.Cuts.{is_vote}
use Rattle.simplex_record.specs.Entries.{entries_of}
use Rattle.simplex_record.specs.Votes.{votes_of}
use Rattle.simplex_member.specs.Journal.{stored_facts, has_lost, IsResumed, IsNotResumed}
use Rattle.simplex_record.specs.Recovery.{with_floor}
use Rattle.simplex_member.specs.RestartedStates.{IsRemadeBy, IsRefusedBy}
use Rattle.simplex_member.specs.Restarts.{IsRestart}
use Rattle.simplex_record.specs.Start.{StartFacts}
use Rattle.simplex_member.proofs.Restarts.{gone_on, not_gone_on}

module _ {K L D : Type 0} (same : D → D → Bool) (elect : Elect L) (stored : Stored) (entries : List (ArtifactFacts D))
    (start : StartFacts K L D) (whole : has_lost stored entries ≡ false) where
  -- as many views are retained as in each earlier lifetime, or the record was never pruned
  abbrev RetentionHolds : Bool → Type 0
  RetentionHolds grows = (stored.is_pruned && nat_lt stored.least_retention start.setup.settings.view_retention) ≡ grows

  pub grown : RetentionHolds true → IsNotResumed same elect stored entries start
      (resume_error.Recover error.RetentionGrown)
  unfolding IsRestart
  grown grows = (whole, rw grows (refl, refl))

  pub refused : RetentionHolds false → (found : RecoverError)
      → (found ≡ error.OutOfMemory) ⊎ IsRefusedBy same start entries found
      → IsNotResumed same elect stored entries start (resume_error.Recover found)
  unfolding IsRestart
  refused grows found due = (whole, rw grows (not_gone_on same elect (stored_facts stored entries) start found due))

  pub resumed : RetentionHolds false → (x : StateFacts K L D) (record_now : List (ArtifactFacts D))
      → IsRemadeBy same elect start entries x → record_now ≡ with_floor entries start.floor
      → IsResumed same elect stored entries start
      (record (stored_facts stored entries) {
        life = Some x;
        entries = record_now;
        retention = start.setup.settings.view_retention;
        least_retention = min stored.least_retention start.setup.settings.view_retention;
      })
  unfolding IsRestart
  resumed grows x record_now made kept = record {
    whole = whole;
    restarted = rw grows (gone_on same elect (stored_facts stored entries) start x record_now made kept);
  }

-- the entries after the first `count`
pub entries_since : {S D K G C : Type 0} (bytes_of : C → List ℕ) (items : List (Artifact S D K G C)) (count first : ℕ)
    → first ≡ min count (length items) → entries_of bytes_of (take (length items - first) (drop first items)) ≡ drop
    count (entries_of bytes_of items)
entries_since bytes_of items count first is =
    ap (entries_of bytes_of) (take_rest items first ∙ ap (λ n. drop n items) is ∙ drop_min count items)
    ∙ sym (drop-map (artifact_facts bytes_of) count items)

module _ {S D K G C : Type 0} (bytes_of : C → List ℕ) where
  -- the votes after the first `count` entries
  votes_behind : (count : ℕ) (items : List (Artifact S D K G C))
      → votes_of (drop count items) ≡ drop (length (filter is_vote (take count (entries_of bytes_of items))))
      (votes_of items)
  votes_behind zero items = refl
  votes_behind (suc count) [] = refl
  votes_behind (suc count) (artifact.Notarize vote ∷ items) = votes_behind count items
  votes_behind (suc count) (artifact.Nullify vote ∷ items) = votes_behind count items
  votes_behind (suc count) (artifact.Finalize vote ∷ items) = votes_behind count items
  votes_behind (suc count) (artifact.Certification round success ∷ items) = votes_behind count items
  votes_behind (suc count) (artifact.Notarization n ∷ items) = votes_behind count items
  votes_behind (suc count) (artifact.Nullification n ∷ items) = votes_behind count items
  votes_behind (suc count) (artifact.Finalization f ∷ items) = votes_behind count items

  pub votes_left_behind : (items : List (Artifact S D K G C)) (count first : ℕ) → first ≡ min count (length items)
      → votes_of (take (length items - first) (drop first items)) ≡ drop
      (length (filter is_vote (take count (entries_of bytes_of items)))) (votes_of items)
  votes_left_behind items count first is =
      ap votes_of (take_rest items first ∙ ap (λ n. drop n items) is ∙ drop_min count items) ∙ votes_behind count items
