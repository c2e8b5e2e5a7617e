-- The journal of a member, and how a member resumes from it.
use Rattle.std.specs.Prelude.{◌≡◌, ℕ, Bool, true, false, nat_lt, List, length, take, drop, filter, None, Ok, Err}
use Rattle.simplex_types.specs.Certificates.{ArtifactFacts}
use Rattle.simplex_voter.specs.Facts.{Elect}
use Rattle.simplex_member.specs.declared.member.journal.Stored.{Stored}
use Rattle.simplex_member.specs.declared.member.resume.ResumeError.{ResumeError}
use Rattle.simplex_member.specs.declared.member.resume.ResumeError.TheVariants as error
use Rattle.simplex_member.specs.OutstandingWork.{no_outstanding_work}
use Rattle.simplex_member.specs.MemberFacts.{MemberFacts, SignedMember}
use Rattle.simplex_member.specs.Restarts.{RestartFacts, IsRestart}
use Rattle.simplex_record.specs.Cuts.{is_vote}
use Rattle.simplex_record.specs.Start.{StartFacts}
use Rattle.simplex_record.specs.Votes.{SignedVote}

module _ {K L D : Type 0} where
  -- what is stored beside the entries
  abbrev pub stored_of : MemberFacts K L D → Stored
  stored_of m = record {
    closed = m.closed;
    is_pruned = m.is_pruned;
    retention = m.retention;
    least_retention = m.least_retention;
  }

  -- a member that has ended, of which only a journal remains
  abbrev pub stored_facts : Stored → List (ArtifactFacts D) → MemberFacts K L D
  stored_facts stored entries = record {
    life = None;
    outstanding_work = no_outstanding_work;
    entries = entries;
    closed = stored.closed;
    is_pruned = stored.is_pruned;
    retention = stored.retention;
    least_retention = stored.least_retention;
  }

  -- a restart that drops and prunes nothing
  abbrev pub whole_restart : StartFacts K L D → RestartFacts K L D
  whole_restart start = record { drop = 0; prune = false; start = start }

-- the votes after the first `count` entries
abbrev pub votes_since : {K L D G : Type 0} → ℕ → SignedMember K L D G → List (SignedVote D G)
votes_since count m = drop (length (filter is_vote (take count m.facts.entries))) m.votes

-- there are fewer entries than were closed
abbrev pub has_lost : {D : Type 0} → Stored → List (ArtifactFacts D) → Bool
has_lost stored entries = nat_lt (length entries) stored.closed

module _ {K L D : Type 0} (same : D → D → Bool) (elect : Elect L) where
  -- none is lost, and a restart of the member that has ended makes this one
  pub record IsResumed (stored : Stored) (entries : List (ArtifactFacts D)) (start : StartFacts K L D)
      (m : MemberFacts K L D) : Type 0 where
    pub whole : has_lost stored entries ≡ false
    pub restarted : IsRestart same elect (stored_facts stored entries) (whole_restart start) (Ok tt) m

  -- some are lost; or none is, and its restart is refused, and leaves it unchanged
  abbrev pub IsNotResumed : Stored → List (ArtifactFacts D) → StartFacts K L D → ResumeError → Type 0
  IsNotResumed stored entries start error.EntriesLost = has_lost stored entries ≡ true
  IsNotResumed stored entries start (error.Recover e) =
      (has_lost stored entries ≡ false)
      × IsRestart same elect (stored_facts stored entries) (whole_restart start) (Err e) (stored_facts stored entries)
