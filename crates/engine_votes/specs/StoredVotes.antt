-- The stored votes of a batcher, and the result of counting a further one.
use Rattle.std.specs.Prelude.{◌≡◌, ◌≢◌, ℕ, ◌<◌, ◌≤◌, ◌^◌, Bool, true, List, [], Option, Some, Contains, slice_get}
use Rattle.simplex_types.specs.declared.types.messages.Certificate.{Certificate}
use Rattle.simplex_types.specs.declared.types.messages.Certificate.TheVariants as certificate
use Rattle.simplex_types.specs.declared.types.messages.Subject.{Subject}
use Rattle.simplex_types.specs.declared.types.messages.Subject.TheVariants as subject
use Rattle.simplex_types.specs.MessageViews.{subject_view}
use Rattle.simplex_view_maps.specs.Tracked.{at_or_above}
use Rattle.engine_votes.specs.declared.batcher.Batcher.{Batcher}
use Rattle.engine_votes.specs.declared.batcher.Counted.{Counted}
use Rattle.engine_votes.specs.declared.batcher.Counted.TheVariants.{Refused, Certified}
use Rattle.engine_votes.specs.declared.batcher.poll.Ballot.{Ballot}
use Rattle.engine_votes.specs.declared.votes.Vote.{Vote}
use Rattle.engine_votes.specs.Polls.{ballot_of, slots_at, HoldsTheSame}
use Rattle.engine_votes.specs.VoteCounts.{IsCountedIn}

-- the kinds of votes
pub data Kind : Type 0 where
  Notarizes : Kind
  Nullifies : Kind
  Finalizes : Kind

-- the kind of a vote
abbrev pub kind_of : {D : Type 0} → Subject D → Kind
kind_of (subject.Notarize _) = Notarizes
kind_of (subject.Nullify _) = Nullifies
kind_of (subject.Finalize _) = Finalizes

module _ {S D K G C : Type 0} where
  -- the stored votes of a kind and view, by member
  abbrev pub held : Batcher S D K G C → Kind → ℕ → List (Option (Ballot D G))
  held batcher Notarizes view = slots_at batcher.notarize view
  held batcher Nullifies view = slots_at batcher.nullify view
  held batcher Finalizes view = slots_at batcher.finalize view

  -- no vote is stored
  abbrev pub HoldsNothing : Batcher S D K G C → Type 0
  HoldsNothing batcher = (kind : Kind) (view : ℕ) → held batcher kind view ≡ []

  -- the same votes are stored
  abbrev pub HoldsAllTheSame : Batcher S D K G C → Batcher S D K G C → Type 0
  HoldsAllTheSame old new = (kind : Kind) (view : ℕ) → HoldsTheSame (held old kind view) (held new kind view)

  -- each stored vote is one of those that were passed in
  abbrev pub AreGiven : List (Vote D G) → Batcher S D K G C → Type 0
  AreGiven given batcher =
      (kind : Kind) (view member : ℕ) (ballot : Ballot D G)
      → ballot_of (held batcher kind view) member ≡ Some ballot
      → Contains given (record { subject = ballot.subject; signer = member; signature = ballot.signature })

  -- each stored vote was stored before
  abbrev pub HoldsNoOther : Batcher S D K G C → Batcher S D K G C → Type 0
  HoldsNoOther old new =
      (kind : Kind) (view member : ℕ) (ballot : Ballot D G)
      → ballot_of (held new kind view) member ≡ Some ballot
      → ballot_of (held old kind view) member ≡ Some ballot

  -- each stored vote is of a view and of a member of which this is true
  abbrev pub EachVote : (ℕ → ℕ → Type 0) → Batcher S D K G C → Type 0
  EachVote Holds batcher =
      (kind : Kind) (view member : ℕ) (ballot : Ballot D G) → ballot_of (held batcher kind view) member ≡ Some ballot
      → Holds view member

  -- each is of one of this number of members, and of a view from the first one to this one
  abbrev pub HoldsUpTo : ℕ → ℕ → Batcher S D K G C → Type 0
  HoldsUpTo members highest = EachVote (λ view member. (1 ≤ view) × (view ≤ highest) × (member < members))

  -- no stored vote is of a view below
  abbrev pub HoldsFrom : ℕ → Batcher S D K G C → Type 0
  HoldsFrom lowest batcher =
      (kind : Kind) (view member : ℕ) (ballot : Ballot D G)
      → ballot_of (held batcher kind view) member ≡ Some ballot → lowest ≤ view

  -- the stored votes of other kinds or views than this one's are the same
  abbrev pub KeepsOthers : Subject D → Batcher S D K G C → Batcher S D K G C → Type 0
  KeepsOthers subject old new = (kind : Kind) (view : ℕ) → (kind ≡ kind_of subject → view ≢ subject_view subject)
      → held new kind view ≡ held old kind view

  -- the votes of the views below are forgotten, and no others
  abbrev pub IsForgotten : ℕ → Batcher S D K G C → Batcher S D K G C → Type 0
  IsForgotten lowest old new =
      (new.notarize ≡ at_or_above old.notarize lowest) × (new.nullify ≡ at_or_above old.nullify lowest)
      × (new.finalize ≡ at_or_above old.finalize lowest)

-- each vote is signed on its subject under its signer's key
abbrev pub AreGood : {K D G : Type 0} → (K → Subject D → G → Type 0) → List K → List (Vote D G) → Type 0
AreGood {K} {D} {G} is_signature keys votes = (vote : Vote D G) → Contains votes vote
    → (key : K) × (slice_get keys vote.signer ≡ Some key) × is_signature key vote.subject vote.signature

-- the certificate is verified for its subject
abbrev pub is_found_good : {S D K G C : Type 0} → (Subject D → C → Bool) → Certificate S D K G C → Bool
is_found_good accepts (certificate.Notarization n) = accepts (subject.Notarize n.proposal) n.certificate
is_found_good accepts (certificate.Nullification n) = accepts (subject.Nullify n.round) n.certificate
is_found_good accepts (certificate.Finalization f) = accepts (subject.Finalize f.proposal) f.certificate

-- a returned certificate is verified
abbrev pub IsGoodIfCertified : {S D K G C : Type 0} → (Subject D → C → Bool) → Counted S D K G C → Type 0
IsGoodIfCertified accepts (Certified made) = is_found_good accepts made ≡ true
IsGoodIfCertified accepts _ = Unit {0}

-- the view is admitted and the signer is one of the members, all of whom an index of 32 bits names
pub record MayCount (members : ℕ) (is_admitted : Bool) (signer : ℕ) : Type 0 where
  pub admitted : is_admitted ≡ true
  pub of_a_member : signer < members
  pub few : members < 2 ^ 32

module _ {S D K G C : Type 0} (same : D → D → Bool) (IsMadeOf : Subject D → List (ℕ × G) → C → Type 0) (members : ℕ)
    (is_admitted : Bool) where
  -- a vote that may count is counted among those of its kind and view, and no others change
  pub record IsCountedAmong (old : Batcher S D K G C) (vote : Vote D G) (new : Batcher S D K G C)
      (answer : Counted S D K G C) : Type 0 where
    pub may : MayCount members is_admitted vote.signer
    pub counted : IsCountedIn same IsMadeOf members (held old (kind_of vote.subject) (subject_view vote.subject)) vote
        (held new (kind_of vote.subject) (subject_view vote.subject)) answer
    pub others : KeepsOthers vote.subject old new

  -- a vote that may not count is refused, and changes nothing
  abbrev pub IsCounted : Batcher S D K G C → Vote D G → Batcher S D K G C → Counted S D K G C → Type 0
  IsCounted old vote new Refused = (¬ MayCount members is_admitted vote.signer) × HoldsAllTheSame old new
  IsCounted old vote new answer = IsCountedAmong old vote new answer
