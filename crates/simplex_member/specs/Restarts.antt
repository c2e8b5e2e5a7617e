-- The effect of a restart on a member.
use Rattle.std.specs.Prelude.{◌≡◌, ◌⊎◌, ℕ, Bool, true, false, ◌&&◌, ◌||◌, ◌==◌, nat_lt, min, if◌then◌else◌, List, filter, length, Option, Some, MatchOption, Result, Ok, Err}
use Rattle.std.specs.List.Sorted.{IsNonDecreasingBy}
use Rattle.simplex_types.specs.Certificates.{ArtifactFacts}
use Rattle.simplex_types.specs.declared.types.window.Terms.{Terms}
use Rattle.simplex_voter.specs.Facts.{Elect}
use Rattle.simplex_member.specs.declared.member.restart.Restart.{Restart}
use Rattle.simplex_record.specs.declared.record.error.RecoverError.{RecoverError}
use Rattle.simplex_record.specs.declared.record.error.RecoverError.TheVariants as error
use Rattle.simplex_record.specs.Entries.{entry_view}
use Rattle.simplex_record.specs.Cuts.{without_last, pruned_entries}
use Rattle.simplex_member.specs.OutstandingWork.{no_outstanding_work}
use Rattle.simplex_member.specs.MemberFacts.{MemberFacts, without_lifetime}
use Rattle.simplex_record.specs.Votes.{SignedVote, pruned_votes}
use Rattle.simplex_record.specs.Recovery.{recovered_state, recover_error, with_floor}
use Rattle.simplex_record.specs.Start.{StartFacts, start_facts, new_state}

-- the parameters of a restart: at most how many of the last entries are dropped, whether the record is then pruned, and
-- how the member starts
pub record RestartFacts (K L D : Type 0) : Type 0 where
  pub drop : ℕ
  pub prune : Bool
  pub start : StartFacts K L D

-- a restart, as plain data
abbrev pub restart_facts : {S L D K G C : Type 0} → (S → Option ℕ) → (S → List K) → (L → Terms) → (L → Bool)
    → (C → List ℕ) → Restart S L D K G C
    → RestartFacts K L D
restart_facts me members terms elects_early bytes_of restart = record {
  drop = restart.drop;
  prune = restart.prune;
  start = start_facts me members terms elects_early bytes_of restart.start;
}

-- the entries by rising view, those of one view in the order of the record
pub record IsByView {D : Type 0} (entries copy : List (ArtifactFacts D)) : Type 0 where
  pub rising : IsNonDecreasingBy entry_view copy
  pub of_each_view : (v : ℕ) → filter (λ e. entry_view e == v) copy ≡ filter (λ e. entry_view e == v) entries

module _ {K L D : Type 0} where
  -- more views are to be retained than in an earlier lifetime, of a record that is pruned now or was pruned
  abbrev pub retention_grows : MemberFacts K L D → Bool → ℕ → Bool
  retention_grows m prune retention = (prune || m.is_pruned) && nat_lt m.least_retention retention

  -- the record pruned by the retention of the last lifetime, and closed
  abbrev pub closed_at : MemberFacts K L D → List (ArtifactFacts D) → MemberFacts K L D
  closed_at m entries = record m { entries = entries; closed = length entries; is_pruned = true }

  -- the record after a restart's cut, before a state is made from it
  abbrev pub cut_member : MemberFacts K L D → ℕ → Bool → MemberFacts K L D
  cut_member m drop prune =
      let left = without_last m.closed drop m.entries in
      if prune then closed_at m (pruned_entries m.retention left) else record m { entries = left }

  -- the votes in it: a drop takes none of them
  abbrev pub cut_votes : {G : Type 0} → MemberFacts K L D → ℕ → Bool → List (SignedVote D G) → List (SignedVote D G)
  cut_votes m drop prune votes =
      if prune then pruned_votes m.retention (without_last m.closed drop m.entries) votes else votes

  -- the votes after a restart: all, if it is refused for more views to be retained
  abbrev pub votes_left : {G : Type 0} → MemberFacts K L D → RestartFacts K L D → List (SignedVote D G)
      → List (SignedVote D G)
  votes_left m r votes =
      if retention_grows m r.prune r.start.setup.settings.view_retention then votes
      else cut_votes m r.drop r.prune votes

module _ {K L D : Type 0} (same : D → D → Bool) (elect : Elect L) where
  -- a new lifetime from a copy of the record, with the floor's finalization in the record
  abbrev pub new_lifetime : MemberFacts K L D → StartFacts K L D → List (ArtifactFacts D) → MemberFacts K L D
  new_lifetime m start copy = record m {
    life = Some (recovered_state same elect (new_state start.setup) start.floor start.now copy);
    outstanding_work = no_outstanding_work;
    entries = with_floor m.entries start.floor;
    retention = start.setup.settings.view_retention;
    least_retention = min m.least_retention start.setup.settings.view_retention;
  }

  -- how a member continues from a copy of its record: refused by the error that applies, or else in a new lifetime
  abbrev pub RecoversFrom : MemberFacts K L D → StartFacts K L D → List (ArtifactFacts D)
      → Result (Unit {0}) RecoverError → MemberFacts K L D → Type 0
  RecoversFrom m start copy result left =
      MatchOption
      (recover_error same (new_state start.setup) start.floor start.now copy)
      ((result ≡ Ok tt) × (left ≡ new_lifetime m start copy))
      (λ e. (result ≡ Err e) × (left ≡ without_lifetime m))

  -- how it continues from its record by view; or it runs out of memory
  abbrev pub RecoversByView : MemberFacts K L D → StartFacts K L D → Result (Unit {0}) RecoverError
      → MemberFacts K L D → Type 0
  RecoversByView m start result left =
      ((result ≡ Err error.OutOfMemory) × (left ≡ without_lifetime m))
      ⊎ ((copy : List (ArtifactFacts D)) × IsByView m.entries copy × RecoversFrom m start copy result left)

  -- refused at once, with nothing changed, if more views are to be retained of a pruned record; else it continues from
  -- what is left of its record
  abbrev pub IsRestartWhere : Bool → MemberFacts K L D → RestartFacts K L D → Result (Unit {0}) RecoverError
      → MemberFacts K L D → Type 0
  IsRestartWhere true m r result left = (result ≡ Err error.RetentionGrown) × (left ≡ m)
  IsRestartWhere false m r result left = RecoversByView (cut_member m r.drop r.prune) r.start result left

  -- a restart of a member, its result and the member after it
  unfoldable pub IsRestart : MemberFacts K L D → RestartFacts K L D → Result (Unit {0}) RecoverError
      → MemberFacts K L D → Type 0
  IsRestart m r result left =
      IsRestartWhere (retention_grows m r.prune r.start.setup.settings.view_retention) m r result left
