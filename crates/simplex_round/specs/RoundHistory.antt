-- A round's certificates, votes and moments, read off the list of its calls, the newest first.
use Rattle.std.specs.Prelude.{◌≡◌, ℕ, Bool, true, ◌+◌, if◌then◌else◌, List, [], ◌∷◌, Option, Some, None, is_some, unwrap_or}
use Rattle.std.specs.Option.{option_map_or}
use Rattle.simplex_types.specs.declared.types.numbers.Round.{Round}
use Rattle.simplex_types.specs.declared.types.messages.Proposal.{Proposal}
use Rattle.simplex_types.specs.declared.types.messages.Artifact.{Artifact}
use Rattle.simplex_types.specs.declared.types.messages.Artifact.TheVariants as artifact
use Rattle.simplex_types.specs.declared.reasons.TimeoutReason.{TimeoutReason}
use Rattle.simplex_types.specs.Certificates.{ProposalFacts, NullificationFacts}
use Rattle.simplex_round.specs.declared.round.Decision.{Decision}
use Rattle.simplex_round.specs.declared.round.Decision.TheVariants.{Pending, Nullify, Finalize}
use Rattle.simplex_round.specs.Slot.{SlotFacts}
use Rattle.simplex_round.specs.Round.{RoundFacts, new_round, with_notarization, with_nullification, with_finalization, after_nullify, can_finalize, with_deadlines, with_latch, with_retry, TakesArtifact, after_replay}

-- a certificate was passed in; a vote was decided or replayed (nullify also if it was requested in vain); the view was
-- entered; an own proposal was recorded; deadlines were armed; an explicit timeout came; the next timeout was polled,
-- with the interval of repetitions
pub data RoundCall (D : Type 0) : Type 0 where
  Notarized : ProposalFacts D → RoundCall D
  Nullified : NullificationFacts → RoundCall D
  Finalized : ProposalFacts D → RoundCall D
  NullifyVote : RoundCall D
  FinalizeVote : RoundCall D
  Entered : ℕ → RoundCall D
  Proposed : ℕ → RoundCall D
  Armed : ℕ → ℕ → Option ℕ → RoundCall D
  TimedOut : ℕ → TimeoutReason → RoundCall D
  Polled : ℕ → ℕ → RoundCall D

-- the first certificate of each kind
abbrev pub first_notarization : {D : Type 0} → List (RoundCall D) → Option (ProposalFacts D)
first_notarization [] = None
first_notarization (Notarized c ∷ calls) = Some (unwrap_or (first_notarization calls) c)
first_notarization (_ ∷ calls) = first_notarization calls

-- the first nullification
abbrev pub first_nullification : {D : Type 0} → List (RoundCall D) → Option NullificationFacts
first_nullification [] = None
first_nullification (Nullified c ∷ calls) = Some (unwrap_or (first_nullification calls) c)
first_nullification (_ ∷ calls) = first_nullification calls

-- the first finalization
abbrev pub first_finalization : {D : Type 0} → List (RoundCall D) → Option (ProposalFacts D)
first_finalization [] = None
first_finalization (Finalized c ∷ calls) = Some (unwrap_or (first_finalization calls) c)
first_finalization (_ ∷ calls) = first_finalization calls

-- the first entry, and the last own proposal
abbrev pub first_entry_moment : {D : Type 0} → List (RoundCall D) → Option ℕ
first_entry_moment [] = None
first_entry_moment (Entered now ∷ calls) = Some (unwrap_or (first_entry_moment calls) now)
first_entry_moment (_ ∷ calls) = first_entry_moment calls

-- the moment of the last own proposal
abbrev pub last_proposed : {D : Type 0} → List (RoundCall D) → Option ℕ
last_proposed [] = None
last_proposed (Proposed now ∷ calls) = Some now
last_proposed (_ ∷ calls) = last_proposed calls

-- the deadlines that were armed last: leader, certification, stall
abbrev pub leader_deadline : {D : Type 0} → List (RoundCall D) → Option ℕ
leader_deadline [] = None
leader_deadline (Armed leader _ _ ∷ calls) = Some leader
leader_deadline (_ ∷ calls) = leader_deadline calls

-- the deadline for a certification, as it was set last
abbrev pub certification_deadline : {D : Type 0} → List (RoundCall D) → Option ℕ
certification_deadline [] = None
certification_deadline (Armed _ certification _ ∷ calls) = Some certification
certification_deadline (_ ∷ calls) = certification_deadline calls

-- that of a stall
abbrev pub last_stall_deadline : {D : Type 0} → List (RoundCall D) → Option ℕ
last_stall_deadline [] = None
last_stall_deadline (Armed _ _ stall ∷ calls) = stall
last_stall_deadline (_ ∷ calls) = last_stall_deadline calls

-- the first explicit timeout, with its moment and reason
abbrev pub first_timeout : {D : Type 0} → List (RoundCall D) → Option (ℕ × TimeoutReason)
first_timeout [] = None
first_timeout (TimedOut now reason ∷ calls) = Some (unwrap_or (first_timeout calls) (now, reason))
first_timeout (_ ∷ calls) = first_timeout calls

-- the first poll since the last vote to nullify plus the interval; a finalized view is polled in vain
abbrev pub retry_moment : {D : Type 0} → List (RoundCall D) → Option ℕ
retry_moment [] = None
retry_moment (NullifyVote ∷ calls) = None
retry_moment (Polled now interval ∷ calls) =
    option_map_or (λ first. Some first) (retry_moment calls)
    (if is_some (first_finalization calls) then None else Some (now + interval))
retry_moment (_ ∷ calls) = retry_moment calls

-- a vote that excludes another one
pub data Vote : Type 0 where
  ToNullify : Vote
  ToFinalize : Vote

-- the vote that was decided first
abbrev pub first_vote : {D : Type 0} → List (RoundCall D) → Option Vote
first_vote [] = None
first_vote (NullifyVote ∷ calls) = Some (unwrap_or (first_vote calls) ToNullify)
first_vote (FinalizeVote ∷ calls) = Some (unwrap_or (first_vote calls) ToFinalize)
first_vote (_ ∷ calls) = first_vote calls

-- before any vote the deadlines and the first explicit timeout count, after nullify the repetition alone, after
-- finalize nothing
abbrev pub decision_by : {D : Type 0} → Option Vote → List (RoundCall D) → Decision
decision_by None calls = Pending (leader_deadline calls) (certification_deadline calls) (first_timeout calls)
decision_by (Some ToNullify) calls = Nullify (retry_moment calls)
decision_by (Some ToFinalize) calls = Finalize

-- the first vote decides
abbrev pub decision_of : {D : Type 0} → List (RoundCall D) → Decision
decision_of calls = decision_by (first_vote calls) calls

-- the round's certificates, votes and moments are those of the list
pub record DeterminesRound {K D : Type 0} (calls : List (RoundCall D)) (r : RoundFacts K D) : Type 0 where
  pub notarization : r.notarization ≡ first_notarization calls
  pub nullification : r.nullification ≡ first_nullification calls
  pub finalization : r.finalization ≡ first_finalization calls
  pub decision : r.decision ≡ decision_of calls
  pub stall_deadline : r.stall_deadline ≡ last_stall_deadline calls
  pub entered_at : r.entered_at ≡ first_entry_moment calls
  pub proposed_at : r.proposed_at ≡ last_proposed calls

-- a replayed vote is a vote; other artifacts change none of this
abbrev pub after_artifact : {D S P G C : Type 0} → Artifact S D P G C → List (RoundCall D) → List (RoundCall D)
after_artifact (artifact.Nullify _) calls = NullifyVote ∷ calls
after_artifact (artifact.Finalize _) calls = FinalizeVote ∷ calls
after_artifact (artifact.Notarize _) calls = calls
after_artifact (artifact.Certification _ _) calls = calls
after_artifact (artifact.Notarization _) calls = calls
after_artifact (artifact.Nullification _) calls = calls
after_artifact (artifact.Finalization _) calls = calls

-- a new round shows the empty list, and each call takes a round that shows a list to one that shows it with the call;
-- S, K, G and C are a scheme and its keys, signatures and certificates
pub record ShowsEachCall (S D K G C : Type 0) (same : Proposal D → Proposal D → Bool) : Type 0 where
  pub start : (me : Option ℕ) (members : List K) (round : Round)
      → DeterminesRound [] (new_round {D = D} me members round)
  pub notarization : (calls : List (RoundCall D)) (r : RoundFacts K D) (c : ProposalFacts D) → DeterminesRound calls r
      → DeterminesRound (Notarized c ∷ calls) (with_notarization same r c)
  pub nullification : (calls : List (RoundCall D)) (r : RoundFacts K D) (c : NullificationFacts)
      → DeterminesRound calls r
      → DeterminesRound (Nullified c ∷ calls) (with_nullification r c)
  pub finalization : (calls : List (RoundCall D)) (r : RoundFacts K D) (c : ProposalFacts D) → DeterminesRound calls r
      → DeterminesRound (Finalized c ∷ calls) (with_finalization same r c)
  pub nullify : (calls : List (RoundCall D)) (r : RoundFacts K D) → DeterminesRound calls r
      → DeterminesRound (NullifyVote ∷ calls) (after_nullify r)
  pub finalize : (calls : List (RoundCall D)) (r : RoundFacts K D) → can_finalize r ≡ true → DeterminesRound calls r
      → DeterminesRound (FinalizeVote ∷ calls) (record r { decision = Finalize })
  pub replay : (calls : List (RoundCall D)) (r : RoundFacts K D) (a : Artifact S D K G C) → TakesArtifact r a
      → DeterminesRound calls r
      → DeterminesRound (after_artifact a calls) (after_replay same r a)
  pub entry : (calls : List (RoundCall D)) (r : RoundFacts K D) (now : ℕ) → DeterminesRound calls r
      → DeterminesRound (Entered now ∷ calls) (record r { entered_at = Some (unwrap_or r.entered_at now) })
  pub proposed : (calls : List (RoundCall D)) (r : RoundFacts K D) (now : ℕ) (slot : SlotFacts D)
      → DeterminesRound calls r
      → DeterminesRound (Proposed now ∷ calls) (record r { slot = slot; proposed_at = Some now })
  pub deadlines : (calls : List (RoundCall D)) (r : RoundFacts K D) (leader certification : ℕ) (stall : Option ℕ)
      → DeterminesRound calls r
      → DeterminesRound (Armed leader certification stall ∷ calls) (with_deadlines r leader certification stall)
  pub timeout : (calls : List (RoundCall D)) (r : RoundFacts K D) (now : ℕ) (reason : TimeoutReason)
      → DeterminesRound calls r
      → DeterminesRound (TimedOut now reason ∷ calls) (with_latch r now reason)
  pub poll : (calls : List (RoundCall D)) (r : RoundFacts K D) (now interval : ℕ) → DeterminesRound calls r
      → DeterminesRound (Polled now interval ∷ calls) (with_retry r now interval)
