-- The result of counting a vote, and how it changes the stored votes.
use Rattle.std.specs.Prelude.{◌≡◌, ◌≢◌, ◌⊎◌, ℕ, ◌==◌, Bool, true, false, List, length, Option, Some, None, if◌then◌else◌}
use Rattle.std.specs.Option.{option_map}
use Rattle.simplex_types.specs.declared.types.messages.Certificate.{Certificate}
use Rattle.simplex_types.specs.declared.types.messages.Certificate.TheVariants as certificate
use Rattle.simplex_types.specs.declared.types.messages.Subject.{Subject}
use Rattle.simplex_types.specs.declared.types.messages.Subject.TheVariants as subject
use Rattle.engine_votes.specs.declared.batcher.Counted.{Counted}
use Rattle.engine_votes.specs.declared.batcher.Counted.TheVariants.{Refused, Known, Taken, Certified, Equivocated}
use Rattle.engine_votes.specs.declared.batcher.poll.Ballot.{Ballot}
use Rattle.engine_votes.specs.declared.votes.Vote.{Vote}
use Rattle.engine_votes.specs.Polls.{ballot_of, signatures_on, HoldsTheSame}
use Rattle.simplex_types.specs.Quorums.{quorum_of}

module _ {D G : Type 0} where
  -- a vote, as it is stored at its signer's place until another contradicts it
  abbrev pub cast_by : Vote D G → Ballot D G
  cast_by vote = record { subject = vote.subject; signature = vote.signature; is_contradicted = false }

  -- it is stored, and a contradicting vote was returned
  abbrev pub contradicted : Ballot D G → Ballot D G
  contradicted ballot = record ballot { is_contradicted = true }

  -- a vote is stored, and no contradicting one was returned
  abbrev pub IsHeld : List (Option (Ballot D G)) → Vote D G → Type 0
  IsHeld slots vote = ballot_of slots vote.signer ≡ Some (cast_by vote)

  -- the member's vote is contradicted, if one is stored; nothing else has changed
  abbrev pub IsMarked : List (Option (Ballot D G)) → ℕ → List (Option (Ballot D G)) → Type 0
  IsMarked old member new =
      (other : ℕ) → ballot_of new other ≡
      (if other == member then option_map contradicted (ballot_of old other) else ballot_of old other)

  -- none of its signer was stored, and now it is; nothing else has changed
  pub record IsAdded (old : List (Option (Ballot D G))) (vote : Vote D G)
      (new : List (Option (Ballot D G))) : Type 0 where
    pub first : ballot_of old vote.signer ≡ None
    pub held : (member : ℕ) → ballot_of new member ≡
        (if member == vote.signer then Some (cast_by vote) else ballot_of old member)

module _ {S D K G C : Type 0} where
  -- the certificate of the subject's kind, on the subject
  abbrev pub certificate_of : Subject D → C → Certificate S D K G C
  certificate_of (subject.Notarize p) c = certificate.Notarization (record { proposal = p; certificate = c })
  certificate_of (subject.Nullify round) c = certificate.Nullification (record { round = round; certificate = c })
  certificate_of (subject.Finalize p) c = certificate.Finalization (record { proposal = p; certificate = c })

module _ {S D K G C : Type 0} where
  -- two votes that contradict each other are returned
  abbrev pub is_pair : Counted S D K G C → Bool
  is_pair (Equivocated first second) = true
  is_pair _ = false

  -- a further vote of a member whose first one is this ballot: for the same, or after a pair that was returned; or for
  -- something else
  abbrev pub ShowsBoth : Ballot D G → Vote D G → Counted S D K G C → Type 0
  ShowsBoth ballot vote Known = (ballot.is_contradicted ≡ true) ⊎ (ballot.subject ≡ vote.subject)
  ShowsBoth ballot vote (Equivocated first second) =
      (cast_by first ≡ ballot) × (first.signer ≡ vote.signer) × (ballot.subject ≢ vote.subject) × (second ≡ vote)
  ShowsBoth ballot vote _ = ⊥

module _ {S D K G C : Type 0} (same : D → D → Bool) (IsMadeOf : Subject D → List (ℕ × G) → C → Type 0)
    (members : ℕ) where
  -- the result of a member's vote in an admitted view, by the stored votes of its kind and view, and what is stored
  -- then:
  -- - its signer voted for the same before, or a pair of its votes was returned, and nothing changes;
  -- - or it voted for something else, and no pair was returned: that vote, and this one, and the pair is noted;
  -- - or it is added. If the votes for the same are then exactly a quorum, the certificate is made of them.
  abbrev pub IsCountedIn : List (Option (Ballot D G)) → Vote D G → List (Option (Ballot D G))
      → Counted S D K G C → Type 0
  IsCountedIn old vote new Refused = ⊥
  IsCountedIn old vote new Known =
      ((ballot : Ballot D G) × (ballot_of old vote.signer ≡ Some ballot)
      × ((ballot.is_contradicted ≡ true) ⊎ (ballot.subject ≡ vote.subject)))
      × HoldsTheSame old new
  IsCountedIn old vote new (Equivocated first second) =
      (IsHeld old first × (first.signer ≡ vote.signer) × (first.subject ≢ vote.subject) × (second ≡ vote))
      × IsMarked old vote.signer new
  IsCountedIn old vote new Taken =
      IsAdded old vote new × (length (signatures_on same vote.subject members new) ≢ quorum_of members)
  IsCountedIn old vote new (Certified made) =
      IsAdded old vote new
      × (length (signatures_on same vote.subject members new) ≡ quorum_of members)
      × ((c : C) × (made ≡ certificate_of vote.subject c)
      × IsMadeOf vote.subject (signatures_on same vote.subject members new) c)
