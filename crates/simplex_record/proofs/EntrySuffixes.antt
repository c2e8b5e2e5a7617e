-- The remaining entries of a record, while it is taken, lead to the same state as the whole.
use Rattle.std.proofs.Common.{◌≡◌, sym, ap, ◌∙◌, ℕ, ◌+◌, ◌<◌, Bool, false, nat_lt, List, [], ◌∷◌, drop, length, get_or}
use Rattle.std.proofs.lemmas.List.{drop_more}
use Rattle.simplex_types.specs.Certificates.{ArtifactFacts, NotarizeVote, NullifyVote, FinalizeVote, Verdict, Accepted, artifact_facts}
use Rattle.simplex_types.specs.declared.types.messages.Artifact.{Artifact}
use Rattle.simplex_voter.specs.Facts.{StateFacts, Elect}
use Rattle.simplex_voter.specs.Windows.{min_active}
use Rattle.simplex_voter.specs.Refusals.{has_late_deadline}
use Rattle.simplex_record.specs.Entries.{entries_of, entry_view}
use Rattle.simplex_record.specs.Recovery.{after_adding, after_replaying, after_verdict_of, after_entry, after_kept_entry, after_entries, TakesEntries}
use Rattle.std.proofs.lemmas.Bool.{cond_both}
use Rattle.simplex_record.specs.Events.{Certified, Replay}
use Rattle.simplex_record.proofs.UnchangedSettings.{UnchangedSettings, stays, joined, event_goes, still_in_time}
use Rattle.simplex_record.proofs.Recovery.{added_goes}

module _ {K L D : Type 0} (same : D → D → Bool) (elect : Elect L) where
  given_goes : (x : StateFacts K L D) (now : ℕ) (e : ArtifactFacts D)
      → UnchangedSettings x (after_verdict_of elect x now e)
  given_goes x now (Verdict round success) = event_goes same elect x (Certified round.view success now)
  given_goes x now (NotarizeVote _ _) = stays x
  given_goes x now (NullifyVote _ _) = stays x
  given_goes x now (FinalizeVote _ _) = stays x
  given_goes x now (Accepted _) = stays x

  retaken_goes : (x : StateFacts K L D) (now : ℕ) (e : ArtifactFacts D)
      → UnchangedSettings x (after_entry same elect x now e)
  retaken_goes x now e =
      let y = after_adding same elect x now e in
      let z = after_replaying same elect y e in
      joined x z (after_verdict_of elect z now e)
      (joined x y z (added_goes same elect x now e) (event_goes same elect y (Replay e))) (given_goes z now e)

  pub taken_goes : (x : StateFacts K L D) (now : ℕ) (e : ArtifactFacts D)
      → UnchangedSettings x (after_kept_entry same elect x now e)
  unfolding after_kept_entry
  taken_goes x now e = cond_both (nat_lt (entry_view e) (min_active x)) x (after_entry same elect x now e)
      (UnchangedSettings x) (λ _. stays x) (λ _. retaken_goes x now e)

  pub all_taken_goes : (x : StateFacts K L D) (now : ℕ) (entries : List (ArtifactFacts D))
      → UnchangedSettings x (after_entries same elect x now entries)
  all_taken_goes x now [] = stays x
  all_taken_goes x now (e ∷ rest) = let y = after_kept_entry same elect x now e in
      joined x y (after_entries same elect y now rest) (taken_goes x now e) (all_taken_goes y now rest)

module _ {S K L D G C : Type 0} (bytes_of : C → List ℕ) (same : D → D → Bool) (elect : Elect L)
    (first : StateFacts K L D) (all : List (Artifact S D K G C)) (now : ℕ) where
  -- the state has not failed, allows the remaining entries, and leads to the state that taking all makes of the first
  -- one
  pub record Taking (x : StateFacts K L D) (rest : List (Artifact S D K G C)) : Type 0 where
    pub failed : x.failed ≡ false
    pub in_time : has_late_deadline x now ≡ false
    pub each : TakesEntries bytes_of same elect x now rest
    pub left : after_entries same elect x now (entries_of bytes_of rest) ≡ after_entries same elect first now
        (entries_of bytes_of all)

  -- the next entry is taken
  pub taking_next : (x : StateFacts K L D) (a : Artifact S D K G C) (rest : List (Artifact S D K G C))
      → Taking x (a ∷ rest) → Taking (after_kept_entry same elect x now (artifact_facts bytes_of a)) rest
  taking_next x a rest taking =
      let e = artifact_facts bytes_of a in
      let goes = taken_goes same elect x now e in
      record {
        failed = goes.failed ∙ taking.failed;
        in_time = still_in_time x (after_kept_entry same elect x now e) now goes taking.in_time;
        each = taking.each.1;
        left = taking.left;
      }

  -- where something is left, its first is the entry of that place
  pub taking_at : (x : StateFacts K L D) (i : ℕ) (a : Artifact S D K G C) → a ≡ get_or all i a → i < length all
      → Taking x (drop i all) → Taking x (a ∷ drop (i + 1) all)
  taking_at x i a is within taking =
      let more : drop i all ≡ a ∷ drop (i + 1) all = drop_more all i a within
      ∙ ap (λ b. b ∷ drop (i + 1) all) (sym is) in
      rw more at taking
